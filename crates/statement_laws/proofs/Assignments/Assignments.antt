-- Assignments.
use Rattle.statement_laws.proofs.Prelude.{◌≡◌, ℕ, ◌+◌, ◌*◌, ◌<◌, ◌≤◌, Bool, true, false, if◌then◌else◌, List, [], ◌∷◌, ◌++◌, Option, Some, None, refl, sym, ap, ◌∙◌, ScalarType, Byte, Address, height_of, height_of_reference, height_of_target, type_of, TypedExpression, TypedReference, TypedTarget, SentTo, StoredIn, RefersToScalar, TypesHold, TypesHoldInReference, TypesHoldInTarget, value, SourceState, Outcome, Gave, Instr, MovToMemory, A, Registers, State, ExpressionNumber, Reference, Target, Stored, Sent, IsExpressionIn, IsReference, IsSent, IsStored, IsTarget, Facts, Site, location_of, number, value_task, knowing, Planned, byte_steps, count_of, from_byte_steps, from_word_steps, is_address_first, number_steps, other_byte_steps, other_word_steps, single_steps, word_steps, is_near, part, Here, site_of, nodes_in, number_small, number_means, BodyContext, IsSoundBody, value_is_word}
use Rattle.steps8080.specs.declared.step.Task.TheVariants as tasks
use Rattle.statements8080.specs.internal.Plans.{plain}
use Rattle.statement_laws.proofs.Assignments.Firsts.{address_first_does}
use Rattle.statement_laws.proofs.FirstSteps.{Stand}
use Rattle.statement_laws.proofs.Outcomes.{Between}
use Rattle.statement_laws.proofs.Assignments.Singles.{Goal, Rest, byte_number, through, word_number}
use Rattle.statement_laws.proofs.Targets.{small_suits}
use Rattle.statement_laws.proofs.Numbers.{byte_is_small, low_of_low}

-- one target that gets a value
module _
    (at : BodyContext) (sound : IsSoundBody at) (facts : Facts) (need : ℕ) (base : List ℕ)
    (of : ExpressionNumber) (tree : TypedExpression)
    (is : IsExpressionIn (nodes_in at.context) at.context.storage of tree)
    (types : TypesHold at.context.typed at.context.within tree)
    (fits : 2 * height_of tree ≤ need)
    {B : Type 0} (go : Unit {0} → SourceState → Outcome B) (Good : B → SourceState → State → Type 0)
    (others : List Planned) (last : Here) (to : ℕ)
  where
    abbrev site : Site
    site = knowing (site_of at.body) facts

    abbrev Aim : (to_tree : TypedTarget) (from : ℕ) (s : SourceState) (r : Registers) (memory : List ℕ)
        → Type 0
    Aim to_tree from s r memory =
        Goal at sound facts need base of tree is types fits go Good others last to to_tree from s r memory

    abbrev After : Type 0
    After = Rest at sound facts need base of tree is types fits go Good others last to

    -- a BYTE that is counted
    abbrev pub Counted : Type 0
    Counted =
        (i : Instr) (from_scalar : ScalarType) (bound : ℕ) (reference : Reference)
        (part_tree : TypedReference)
        (from : ℕ) (here : Here) (s : SourceState) (r : Registers) (memory : List ℕ)
        → number site of ≡ None
        → count_of site reference of ≡ Some i
        → here.goes_on ≡ true
        → Stand at here None from (part (tasks.Address reference) 0 ∷ plain i ∷ others) last to
        → IsReference (nodes_in at.context) at.context.storage bound reference part_tree
        → RefersToScalar at.context.typed at.context.within Byte part_tree
        → TypesHoldInReference at.context.typed at.context.within part_tree
        → 2 + 2 * height_of_reference part_tree ≤ need
        → Between at need base s here.facts r memory
        → After
        → Aim (StoredIn from_scalar Byte part_tree) from s r memory

    value_is : (n : ℕ) → number site of ≡ Some n
        → (s : SourceState) → value at.context.later at.context.activation.around tree s ≡ Gave n s
    value_is n known s =
        number_means facts n sound.sound is types
        (ap (λ (one : Site). number (knowing one facts) of) sound.site ∙ known) s

    number_fits : (n : ℕ) → number site of ≡ Some n → n < 65536
    number_fits n known =
        value_is_word (type_of tree) n
        (number_small facts n sound.sound is types
        (ap (λ (one : Site). number (knowing one facts) of) sound.site ∙ known))

    -- a BYTE
    byte_single :
        (from_scalar : ScalarType) (bound : ℕ) (reference : Reference) (part_tree : TypedReference)
        (from : ℕ) (here : Here) (s : SourceState) (r : Registers) (memory : List ℕ)
        → Counted
        → here.goes_on ≡ true
        → Stand at here None from (byte_steps site reference of ++ others) last to
        → IsReference (nodes_in at.context) at.context.storage bound reference part_tree
        → RefersToScalar at.context.typed at.context.within Byte part_tree
        → TypesHoldInReference at.context.typed at.context.within part_tree
        → 2 + 2 * height_of_reference part_tree ≤ need
        → Between at need base s here.facts r memory
        → After
        → Aim (StoredIn from_scalar Byte part_tree) from s r memory
    unfolding value_task
    byte_single from_scalar bound reference part_tree from here s r memory counted goes stand reference_is
        refers part_types tall stage rest =
        by_number (number site of) refl stand
      where
        by_order : (first : Bool) → is_address_first site reference of ≡ first
            → Stand at here None from
            ((if first
            then part (tasks.Address reference) 0 ∷ part (tasks.Byte of) 0 ∷ plain (MovToMemory A) ∷ []
            else from_byte_steps (Stored Byte Byte reference) of) ++ others) last to
            → Aim (StoredIn from_scalar Byte part_tree) from s r memory
        by_order true order stand =
            address_first_does at sound facts need base of tree is types fits go Good others last to
            from_scalar bound reference part_tree
            from here s r memory
            (ap (λ (one : Site). is_address_first (knowing one facts) reference of) sound.site ∙ order)
            goes stand
            reference_is refers part_types tall stage rest
        by_order false order stand =
            through at sound facts need base of tree is types fits go Good others last to Byte Byte bound
            (Stored Byte Byte reference)
            (StoredIn Byte Byte part_tree) from here s r memory goes stand (IsStored reference_is)
            (refl, refers, part_types) tall
            (λ n small. low_of_low n) stage rest

        by_count : (counts : Option Instr) → number site of ≡ None → count_of site reference of ≡ counts
            → Stand at here None from
            ((elim counts as (λ (one : Option Instr). List Planned) [
              | Some instruction ↦ part (tasks.Address reference) 0 ∷ plain instruction ∷ []
              | None ↦ other_byte_steps site reference of
            ]) ++ others) last to
            → Aim (StoredIn from_scalar Byte part_tree) from s r memory
        by_count (Some i) none counts stand =
            counted i from_scalar bound reference part_tree from here s r memory none counts goes stand
            reference_is refers part_types tall
            stage rest
        by_count None none counts stand = by_order (is_address_first site reference of) refl stand

        by_number : (known : Option ℕ) → number site of ≡ known
            → Stand at here None from
            ((elim known as (λ (one : Option ℕ). List Planned) [
              | Some n ↦ part (tasks.Address reference) 0
                  ∷ plain (Rattle.isa8080.specs.declared.instr.Instr.TheVariants.Mvi
                  Rattle.isa8080.specs.declared.instr.Operand.TheVariants.M
                  (Rattle.steps8080.specs.internal.Instructions.low n)) ∷ []
              | None ↦ elim (count_of site reference of) as (λ (one : Option Instr). List Planned) [
                | Some instruction ↦ part (tasks.Address reference) 0 ∷ plain instruction ∷ []
                | None ↦ other_byte_steps site reference of
              ]
            ]) ++ others) last to
            → Aim (StoredIn from_scalar Byte part_tree) from s r memory
        by_number (Some n) known stand =
            byte_number at sound facts need base of tree is types fits go Good others last to n
            (value_is n known) from_scalar bound reference
            part_tree from here s r memory goes stand reference_is refers part_types tall stage rest
        by_number None known stand = by_count (count_of site reference of) known refl stand

    -- an ADDRESS
    word_single :
        (from_scalar : ScalarType) (bound : ℕ) (reference : Reference) (part_tree : TypedReference)
        (from : ℕ) (here : Here) (s : SourceState) (r : Registers) (memory : List ℕ)
        → from_scalar ≡ type_of tree
        → here.goes_on ≡ true
        → Stand at here None from
        (word_steps at.body site (Stored from_scalar Address reference) reference of ++ others) last to
        → IsReference (nodes_in at.context) at.context.storage bound reference part_tree
        → RefersToScalar at.context.typed at.context.within Address part_tree
        → TypesHoldInReference at.context.typed at.context.within part_tree
        → 2 + 2 * height_of_reference part_tree ≤ need
        → Between at need base s here.facts r memory
        → After
        → Aim (StoredIn from_scalar Address part_tree) from s r memory
    unfolding value_task
    word_single from_scalar bound reference part_tree from here s r memory same goes stand reference_is refers
        part_types tall stage rest =
        by_near (is_near at.body (location_of site reference)) stand
      where
        as_word : Stand at here None from
            (from_word_steps (Stored from_scalar Address reference) of ++ others) last to
            → Aim (StoredIn from_scalar Address part_tree) from s r memory
        as_word stand =
            through at sound facts need base of tree is types fits go Good others last to
            from_scalar Address bound
            (Stored from_scalar Address reference) (StoredIn from_scalar Address part_tree) from here
            s r memory goes stand
            (IsStored reference_is) (refl, refers, part_types) tall (λ n small. refl) stage rest

        by_type : (one : ScalarType) → from_scalar ≡ one
            → Stand at here None from
            (other_word_steps one (Stored from_scalar Address reference) of ++ others) last to
            → Aim (StoredIn from_scalar Address part_tree) from s r memory
        by_type Byte one stand =
            through at sound facts need base of tree is types fits go Good others last to
            from_scalar Byte bound
            (Stored from_scalar Address reference) (StoredIn from_scalar Address part_tree) from here
            s r memory goes stand
            (IsStored reference_is) (refl, refers, part_types) tall
            (λ n small. small_suits (StoredIn from_scalar Address part_tree) n
            (byte_is_small (type_of tree) n (sym same ∙ one) small)) stage rest
        by_type Address one stand = as_word stand

        by_number : (known : Option ℕ) → number site of ≡ known
            → Stand at here None from
            ((elim known as (λ (one : Option ℕ). List Planned) [
              | Some n ↦ number_steps reference n
              | None ↦ other_word_steps from_scalar (Stored from_scalar Address reference) of
            ]) ++ others) last to
            → Aim (StoredIn from_scalar Address part_tree) from s r memory
        by_number (Some n) known stand =
            word_number at sound facts need base of tree is types fits go Good others last to n
            (value_is n known) from_scalar bound reference
            part_tree from here s r memory goes (number_fits n known) stand reference_is refers
            part_types tall stage rest
        by_number None known stand = by_type from_scalar refl stand

        by_near : (near : Bool)
            → Stand at here None from
            ((if near then from_word_steps (Stored from_scalar Address reference) of
            else elim (number site of) as (λ (one : Option ℕ). List Planned) [
              | Some n ↦ number_steps reference n
              | None ↦ other_word_steps from_scalar (Stored from_scalar Address reference) of
            ]) ++ others) last to
            → Aim (StoredIn from_scalar Address part_tree) from s r memory
        by_near true stand = as_word stand
        by_near false stand = by_number (number site of) refl stand

    pub single_does :
        (bound : ℕ) (target : Target) (to_tree : TypedTarget)
        (from : ℕ) (here : Here) (s : SourceState) (r : Registers) (memory : List ℕ)
        → Counted
        → here.goes_on ≡ true
        → Stand at here None from (single_steps at.body site target of ++ others) last to
        → IsTarget (nodes_in at.context) at.context.storage bound target to_tree
        → TypesHoldInTarget at.context.typed at.context.within (type_of tree) to_tree
        → 2 + 2 * height_of_target to_tree ≤ need
        → Between at need base s here.facts r memory
        → After
        → Aim to_tree from s r memory
    unfolding value_task
    single_does bound _ _ from here s r memory counted goes stand
        (IsStored {from = from_scalar} {to = Byte} {reference = reference} {part = part_tree} reference_is)
        target_types tall stage rest =
        byte_single from_scalar bound reference part_tree from here s r memory counted goes stand reference_is
        target_types.1 target_types.2 tall
        stage rest
    single_does bound _ _ from here s r memory counted goes stand
        (IsStored {from = from_scalar} {to = Address} {reference = reference} {part = part_tree} reference_is)
        target_types tall stage rest =
        word_single from_scalar bound reference part_tree from here s r memory target_types.0 goes stand
        reference_is target_types.1
        target_types.2 tall stage rest
    single_does bound _ _ from here s r memory counted goes stand (IsSent {port = port} {from = from_scalar})
        target_types tall stage rest =
        through at sound facts need base of tree is types fits go Good others last to from_scalar Byte bound
        (Sent from_scalar port)
        (SentTo from_scalar port) from here s r memory goes stand IsSent (refl, target_types.1) tall
        (λ n small. low_of_low n) stage rest
