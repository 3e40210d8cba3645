-- An assignment does what it says.
use Rattle.statement_laws.proofs.Prelude.{◌≡◌, ℕ, suc, ◌+◌, ◌*◌, ◌<◌, ◌≤◌, max, Bool, true, false, if◌then◌else◌, is_some, nat_eq, List, [], ◌∷◌, ◌++◌, Option, Some, None, refl, sym, ap, subst, ◌∙◌, arith, eqb-true, ScalarType, Byte, Address, height_of, height_of_targets, type_of, TypedExpression, TypedTarget, TypesHold, TypesHoldInTargets, stored, stored_in_each, value, SourceState, Outcome, Gave, then_do, Flow, Onward, values_of, Registers, Expression, ExpressionNumber, Range, Target, AreTargets, IsAssignment, IsExpressionIn, IsTarget, MoreTargets, NoTargets, target_at, Does, at_place, Facts, Site, number, scalar, value_task, knowing, Planned, any_target, assignment_steps, each_at, each_steps, several_by, several_steps, single_steps, stores_steps, takes_byte, takes_word, together_steps, types_by, value_steps, part, steps_from, Here, site_of, statement_steps, nodes_in, then_again, number_means, node_of, does_same, loaded_in, without_more, BodyContext, IsSoundBody, Leaves, StatementStands, none_passes}
use Rattle.treecode.specs.declared.statement.Statement.TheVariants as statements
use Rattle.statement_laws.proofs.Assignments.Assignments.{Counted, single_does}
use Rattle.statement_laws.proofs.Assignments.Firsts.{then_each}
use Rattle.statement_laws.proofs.FirstSteps.{Stand, steps_ended, going, part_first}
use Rattle.statement_laws.proofs.Outcomes.{Between, ends_onward}
use Rattle.statement_laws.proofs.Simple.{FormDoes}
use Rattle.statement_laws.proofs.Targets.{Suits, address_suits, as_register, at_any_value, byte_suits, small_suits, target_of_index, targets_stored}

values_are : (there : ScalarType) (of : ExpressionNumber)
    → value_steps of there ≡ part (value_task there of) 0 ∷ []
unfolding value_task
values_are Byte of = refl
values_are Address of = refl

own_suits : (scalar_type : ScalarType) (tree : TypedTarget) (n : ℕ) → n < values_of scalar_type
    → Suits tree n (as_register scalar_type n)
own_suits Byte tree n small = small_suits tree n small
own_suits Address tree n small = address_suits tree n

-- the type of an expression at a site
pub scalar_there :
    (at : BodyContext) (sound : IsSoundBody at) (facts : Facts) (of : ExpressionNumber)
    (tree : TypedExpression)
    → IsExpressionIn (nodes_in at.context) at.context.storage of tree
    → scalar (knowing (site_of at.body) facts) of ≡ type_of tree
unfolding scalar
scalar_there at sound facts of tree is =
    let node = node_of sound.sound is in
    ap (λ (one : Site). scalar (knowing one facts) of) (sym sound.site)
    ∙ ap (λ (found : Option Expression). elim found as (λ (one : Option Expression). ScalarType) [ Some given ↦ given.traits.scalar | None ↦ Byte ])
    (node.at_site facts)
    ∙ node.scalar

-- What is asked of the code of a BYTE that is counted by 1, which is an assignment's only target.
abbrev pub CountsDo : BodyContext → Type 0
CountsDo at =
    (sound : IsSoundBody at) (facts : Facts) (need : ℕ) (base : List ℕ) (of : ExpressionNumber)
    (tree : TypedExpression)
    (is : IsExpressionIn (nodes_in at.context) at.context.storage of tree)
    (types : TypesHold at.context.typed at.context.within tree)
    (fits : 2 * height_of tree ≤ need) (last : Here) (to before : ℕ)
    → Counted at sound facts need base of tree is types fits {B = Flow} (λ _ u. Gave Onward u)
    (Leaves at base to last before) [] last to

module _
    (at : BodyContext) (sound : IsSoundBody at) (counts : CountsDo at) (facts : Facts)
    (need : ℕ) (base : List ℕ)
    (of : ExpressionNumber) (tree : TypedExpression) (targets : Range) (trees : List TypedTarget)
    (is : IsExpressionIn (nodes_in at.context) at.context.storage of tree)
    (are : AreTargets (nodes_in at.context) at.context.storage targets.first targets.count trees)
    (types : TypesHold at.context.typed at.context.within tree)
    (target_types : TypesHoldInTargets at.context.typed at.context.within (type_of tree) trees)
    (fits : 2 * height_of tree ≤ need) (all_fit : 2 + 2 * height_of_targets trees ≤ need)
    (last : Here) (to before : ℕ)
  where
    abbrev site : Site
    site = knowing (site_of at.body) facts

    abbrev Goal : (from : ℕ) (s : SourceState) (r : Registers) (memory : List ℕ) → Type 0
    Goal from s r memory =
        Does (loaded_in at.context) s.budget 0 (at_place from r memory s.events)
        (then_do (value at.context.later at.context.activation.around tree s)
        (λ n t. then_do (stored_in_each at.context.later at.context.activation.around trees n t)
        (λ _ u. Gave Onward u)))
        (Leaves at base to last before)

    -- a value in a register, and then all targets
    together :
        (there : ScalarType) (from : ℕ) (s : SourceState) (r : Registers) (memory : List ℕ)
        → ((n bound place : ℕ) (target : Target) (one : TypedTarget)
        → n < values_of (type_of tree)
        → target_at at.body.tree.now targets place ≡ Some target
        → place < targets.count
        → IsTarget (nodes_in at.context) at.context.storage bound target one
        → Suits one n (as_register there n))
        → Stand at (going true facts) None from (together_steps at.body targets of there) last to
        → Between at need base s facts r memory
        → Goal from s r memory
    together there from s r memory suits stand stage =
        let first = part_first
        (subst (λ (steps : List Planned). Stand at (going true facts) None from
        (steps ++ stores_steps at.body targets there) last to)
        (values_are there of) stand) in
        at_any_value at there from first.middle of first.does is types fits stage
        (λ n u now kept in_register small is_small next.
        targets_stored (type_of tree) there targets n (as_register there n) are 0 (going true first.known)
        first.middle u now kept sound
        (omega arith) (omega arith) target_types
        (λ bound place target one found less target_is. suits n bound place target one is_small
        found less target_is)
        small all_fit (λ some. in_register) refl first.rest next)

    -- a number goes to each target
    each_number :
        (n : ℕ) → number site of ≡ Some n
        → {first left : ℕ} {some : List TypedTarget}
        (some_are : AreTargets (nodes_in at.context) at.context.storage first left some)
        (index : ℕ) (here : Here) (from : ℕ) (t : SourceState) (r : Registers) (memory : List ℕ)
        → first ≡ targets.first + index
        → index + left ≡ targets.count
        → TypesHoldInTargets at.context.typed at.context.within (type_of tree) some
        → 2 + 2 * height_of_targets some ≤ need
        → here.goes_on ≡ true
        → Stand at here None from (steps_from (each_at at.body site targets of) index left) last to
        → Between at need base t here.facts r memory
        → Does (loaded_in at.context) t.budget 0 (at_place from r memory t.events)
        (then_do (stored_in_each at.context.later at.context.activation.around some n t)
        (λ _ u. Gave Onward u))
        (Leaves at base to last before)
    each_number n known NoTargets index here from t r memory place count some_types
        some_fit goes stand stage =
        ends_onward (steps_ended stand) goes stage
    each_number n known
        (MoreTargets {first = first} {count = left} {target = target} {tree = one} {others = others} is_there
        target_is more_are) index here from t r memory place count some_types some_fit goes stand stage =
        let less : index < targets.count = omega (arith, count) in
        let found = target_of_index at targets index first target sound place less is_there in
        let go : Unit {0} → SourceState → Outcome Flow =
        λ _ u. then_do (stored_in_each at.context.later at.context.activation.around others n u)
        (λ _ v. Gave Onward v) in
        does_same _
        (then_again (stored at.context.later at.context.activation.around one n t)
        (λ _ u. stored_in_each at.context.later at.context.activation.around others n u)
        (λ _ u. Gave Onward u))
        (does_same _
        (sym (ap (λ (given : Outcome ℕ). then_do given
        (λ m u. then_do (stored at.context.later at.context.activation.around one m u) go))
        (number_means facts n sound.sound is types
        (ap (λ (s : Site). number (knowing s facts) of) sound.site ∙ known) t)))
        (without_more
        (single_does at sound facts need base of tree is types fits go (Leaves at base to last before)
        (steps_from (each_at at.body site targets of) (suc index) left) last to _ target one
        from here t r memory
        (λ i from_scalar bound reference part_tree place_there here_there s_there r_there memory_there none counted. let never : ⊥ = cc in absurd never)
        goes
        (subst (λ (given : Option Target). Stand at here None from
        (elim given as (λ (g : Option Target). List
        Planned) [ Some x ↦ single_steps at.body site x of | None ↦ [] ]
        ++ steps_from (each_at at.body site targets of) (suc index) left) last to) found stand)
        target_is some_types.0 (omega (arith, some_fit)) stage
        (λ next_here next_place u now kept next_goes next_stand next_stage.
        each_number n known more_are (suc index) next_here next_place u now kept (omega (arith, place))
        (omega (arith, count)) some_types.1
        (omega (arith, some_fit)) next_goes next_stand next_stage))))

    -- several targets, by how their types go together
    several :
        (bytes words : Bool) (from : ℕ) (s : SourceState) (r : Registers) (memory : List ℕ)
        → any_target takes_word at.body targets 0 targets.count ≡ words
        → Stand at (going true facts) None from
        (several_by (types_by bytes words) at.body site targets of) last to
        → Between at need base s facts r memory
        → Goal from s r memory
    several bytes false from s r memory none stand stage =
        together Byte from s r memory
        (λ n bound place target one small found less target_is.
        byte_suits at bound target one n target_is
        (none_passes takes_word at.body targets 0 targets.count place target none (omega arith)
        (omega (arith, less)) found))
        stand stage
    several false true from s r memory none stand stage =
        together Address from s r memory
        (λ n bound place target one small found less target_is. address_suits one n) stand stage
    several true true from s r memory none stand stage = by (number site of) refl stand
      where
        by : (known : Option ℕ) → number site of ≡ known
            → Stand at (going true facts) None from
            (if is_some known then each_steps at.body site targets of else together_steps at.body targets of
            (scalar site of)) last to
            → Goal from s r memory
        by (Some n) known stand =
            does_same _
            (ap (λ (given : Outcome ℕ). then_do given
            (λ m t. then_do (stored_in_each at.context.later at.context.activation.around trees m t)
            (λ _ u. Gave Onward u)))
            (number_means facts n sound.sound is types
            (ap (λ (one : Site). number (knowing one facts) of) sound.site ∙ known) s))
            (each_number n known are 0 (going true facts) from s r memory (omega arith) (omega arith)
            target_types all_fit refl stand stage)
        by None known stand =
            together (scalar site of) from s r memory
            (λ n bound place target one small found less target_is.
            own_suits (scalar site of) one n
            (subst (λ (given : ScalarType). n < values_of given) (sym type_is) small)) stand stage
          where
            type_is : scalar site of ≡ type_of tree
            type_is = scalar_there at sound facts of tree is

    -- the only target
    only :
        (from : ℕ) (s : SourceState) (r : Registers) (memory : List ℕ)
        → targets.count ≡ 1
        → Stand at (going true facts) None from (each_steps at.body site targets of) last to
        → Between at need base s facts r memory
        → Goal from s r memory
    only from s r memory one stand stage = by targets.count trees are target_types all_fit one refl stand
      where
        by : (count : ℕ) (some : List TypedTarget)
            → AreTargets (nodes_in at.context) at.context.storage targets.first count some
            → TypesHoldInTargets at.context.typed at.context.within (type_of tree) some
            → 2 + 2 * height_of_targets some ≤ need
            → count ≡ 1
            → targets.count ≡ count
            → Stand at (going true facts) None from
            (steps_from (each_at at.body site targets of) 0 count) last to
            → Does (loaded_in at.context) s.budget 0 (at_place from r memory s.events)
            (then_do (value at.context.later at.context.activation.around tree s)
            (λ n t. then_do (stored_in_each at.context.later at.context.activation.around some n t)
            (λ _ u. Gave Onward u)))
            (Leaves at base to last before)
        by _ _ NoTargets some_types some_fit is_one same stand = absurd (omega (arith, is_one))
        by _ _ (MoreTargets is_there target_is (MoreTargets more_there more_is more)) some_types
            some_fit is_one same stand =
            absurd (omega (arith, is_one))
        by _ _ (MoreTargets {target = target} {tree = to_tree} is_there target_is NoTargets) some_types
            some_fit is_one same stand =
            let found =
            target_of_index at targets 0 targets.first target sound (omega arith)
            (omega (arith, same)) is_there in
            does_same _
            (then_each (value at.context.later at.context.activation.around tree s) _
            (λ n t. then_do (stored at.context.later at.context.activation.around to_tree n t)
            (λ _ u. Gave Onward u))
            (λ n t. then_again (stored at.context.later at.context.activation.around to_tree n t)
            (λ _ u. Gave tt u) (λ _ u. Gave Onward u)))
            (without_more
            (single_does at sound facts need base of tree is types fits (λ _ u. Gave Onward u)
            (Leaves at base to last before) [] last to _
            target to_tree from (going true facts) s r memory
            (counts sound facts need base of tree is types fits last to before) refl
            (subst (λ (given : Option Target). Stand at (going true facts) None from
            (elim given as (λ (g : Option Target). List
            Planned) [ Some x ↦ single_steps at.body site x of | None ↦ [] ] ++ []) last to)
            found stand)
            target_is some_types.0 (omega (arith, some_fit)) stage
            (λ here place u now kept goes ends_here next. ends_onward (steps_ended ends_here) goes next)))

    pub assigned :
        (from : ℕ) (s : SourceState) (r : Registers) (memory : List ℕ)
        → Stand at (going true facts) None from (assignment_steps at.body site targets of) last to
        → Between at need base s facts r memory
        → Goal from s r memory
    assigned from s r memory stand stage = by (nat_eq targets.count 1) refl stand
      where
        by : (one : Bool) → nat_eq targets.count 1 ≡ one
            → Stand at (going true facts) None from
            (if one then each_steps at.body site targets of else several_steps at.body site targets of) last
            to
            → Goal from s r memory
        by true one stand = only from s r memory (eqb-true targets.count 1 one) stand stage
        by false one stand =
            several (any_target takes_byte at.body targets 0 targets.count)
            (any_target takes_word at.body targets 0 targets.count)
            from s r memory refl stand stage

pub assignment_does :
    (at : BodyContext) (before : Facts) (targets : Range) (of : ExpressionNumber) (label from : ℕ)
    (after : Here) (to : ℕ)
    → IsSoundBody at
    → CountsDo at
    → StatementStands at before (statements.Assignment targets of) label from after to
    → FormDoes at before (statements.Assignment targets of) from after to
unfolding statement_steps
assignment_does at before targets of label from after to sound counts stands bound _
    (IsAssignment {trees = trees} {tree = tree} are is) types lists base s r memory below room ready known =
    assigned at sound counts before (2 + 2 * max (height_of_targets trees) (height_of tree)) base of tree
    targets trees is are types.0 types.1
    (omega arith) (omega arith) after to s.budget from s r memory stands
    (record { below = below; room = room; ready = ready; known = known })
