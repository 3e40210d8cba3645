-- A BYTE whose address comes before its value.
use Rattle.statement_laws.proofs.Prelude.{◌≡◌, ℕ, ◌+◌, ◌*◌, ◌≤◌, Bool, true, false, ◌&&◌, not, List, ◌∷◌, Option, Some, None, refl, sym, ap, subst, ◌∙◌, arith, ScalarType, Byte, height_of, height_of_reference, type_of, TypedExpression, TypedReference, StoredIn, RefersToScalar, TypesHold, TypesHoldInReference, write_byte, write_scalar, located, value, SourceState, Outcome, Gave, Stopped, then_do, as_type, MovToMemory, A, Registers, State, word, ExpressionNumber, Reference, IndexNode, IsExpressionIn, IsReference, reference_is_quiet, subscript_is_quiet, AreAlike, AreSame, BothOutside, stores_nothing, free_stores_nothing, location_exchanged, Does, Loaded, IsSteady, place_at, address_asks, Facts, is_free, keeps_of_address, knowing, Planned, is_address_first, is_quiet_subscript, part, Here, distances_in, nodes_in, ByteIsGiven, address_on_machine, located_fits, free_is, quiet_is, at_byte, does_same, BodyContext, IsSoundBody, and_from, does_outside}
use Rattle.steps8080.specs.declared.step.Task.TheVariants as tasks
use Rattle.statements8080.specs.internal.Plans.{plain}
use Rattle.statement_laws.proofs.FirstSteps.{Stand, part_first, plain_first}
use Rattle.statement_laws.proofs.Outcomes.{Between}
use Rattle.statement_laws.proofs.Assignments.Singles.{Goal, Rest, at_address, byte_goes}
use Rattle.statement_laws.proofs.Numbers.{low_of_low}

-- what may be had in place of what is meant
pub does_alike :
    {A : Type 0} {loaded : Loaded} {budget more : ℕ} {from : State}
    {Good : A → SourceState → State → Type 0}
    (one other : Outcome A)
    → AreAlike one other
    → Does loaded budget more from other Good
    → Does loaded budget more from one Good
does_alike one other (AreSame same) does = does_same other same does
does_alike one other (BothOutside first second) does = does_outside one first

-- parts that are the same after the same part
pub then_each :
    {A B : Type 0} (outcome : Outcome A) (go other : A → SourceState → Outcome B)
    → ((found : A) (t : SourceState) → go found t ≡ other found t)
    → then_do outcome go ≡ then_do outcome other
then_each (Gave found t) go other same = same found t
then_each (Stopped why t) go other same = refl

again : {A B C : Type 0} (outcome : Outcome A) (first : A → SourceState → Outcome B)
    (second : B → SourceState → Outcome C)
    → then_do (then_do outcome first) second ≡ then_do outcome (λ found t. then_do (first found t) second)
again (Gave found t) first second = refl
again (Stopped why t) first second = refl

quiet_subscript :
    (at : BodyContext) (facts : Facts) (subscript : Option IndexNode)
    → is_quiet_subscript (knowing at.context.site facts) subscript ≡ true
    → subscript_is_quiet (nodes_in at.context) subscript ≡ true
quiet_subscript at facts None quiet = refl
quiet_subscript at facts (Some given) quiet =
    sym (quiet_is (knowing at.context.site facts) given.index) ∙ quiet

last_parts : (one two three four : Bool) → (one && two && three && four) ≡ true
    → (two ≡ true) × (three ≡ true) × (four ≡ true)
last_parts true true true true all = (refl, refl, refl)
last_parts true true true false all = let never : ⊥ = cc in absurd never
last_parts true true false four all = let never : ⊥ = cc in absurd never
last_parts true false three four all = let never : ⊥ = cc in absurd never
last_parts false two three four all = let never : ⊥ = cc in absurd never

-- a BYTE whose value uses A alone
pub address_first_does :
    {B : Type 0} (at : BodyContext) (sound : IsSoundBody at) (facts : Facts) (need : ℕ) (base : List ℕ)
    (of : ExpressionNumber) (tree : TypedExpression)
    (is : IsExpressionIn (nodes_in at.context) at.context.storage of tree)
    (types : TypesHold at.context.typed at.context.within tree)
    (fits : 2 * height_of tree ≤ need)
    (go : Unit {0} → SourceState → Outcome B) (Good : B → SourceState → State → Type 0)
    (others : List Planned) (last : Here) (to : ℕ)
    (from_scalar : ScalarType) (bound : ℕ) (reference : Reference) (part_tree : TypedReference)
    (from : ℕ) (here : Here) (s : SourceState) (r : Registers) (memory : List ℕ)
    → is_address_first (knowing at.context.site facts) reference of ≡ true
    → here.goes_on ≡ true
    → Stand at here None from
    (part (tasks.Address reference) 0 ∷ part (tasks.Byte of) 0 ∷ plain (MovToMemory A) ∷ others) last to
    → IsReference (nodes_in at.context) at.context.storage bound reference part_tree
    → RefersToScalar at.context.typed at.context.within Byte part_tree
    → TypesHoldInReference at.context.typed at.context.within part_tree
    → 2 + 2 * height_of_reference part_tree ≤ need
    → Between at need base s here.facts r memory
    → Rest at sound facts need base of tree is types fits go Good others last to
    → Goal at sound facts need base of tree is types fits go Good others last to
    (StoredIn from_scalar Byte part_tree) from s r memory
address_first_does at sound facts need base of tree is types fits go Good others last to from_scalar bound
    reference part_tree from here s r memory first_is goes stand reference_is refers
    part_types tall stage rest =
    let later = at.context.later in
    let around = at.context.activation.around in
    let program = around.program in
    let parts =
    last_parts (not (keeps_of_address (knowing at.context.site facts) reference).a)
    (is_free (knowing at.context.site facts) of)
    (is_quiet_subscript (knowing at.context.site facts) reference.subscript)
    (is_quiet_subscript (knowing at.context.site facts) reference.member_subscript) first_is in
    let free : is_free (knowing at.context.site facts) of ≡ true = parts.0 in
    let quiet : reference_is_quiet (nodes_in at.context) reference ≡ true =
    and_from _ _ (quiet_subscript at facts reference.subscript parts.1)
    (quiet_subscript at facts reference.member_subscript parts.2) in
    let nothing : stores_nothing tree ≡ true =
    free_stores_nothing (nodes_in at.context) at.context.storage sound.sound.lowered.traits is
    (sym (free_is (knowing at.context.site facts) of) ∙ free) in
    let address = part_first stand in
    let byte = part_first address.rest in
    let move = plain_first byte.rest in
    does_same _
    (then_each (value later around tree s) _
    (λ n t. then_do (located later around part_tree t)
    (λ place u. then_do (write_scalar program Byte place (as_type Byte n) u) go))
    (λ n t. again (located later around part_tree t)
    (λ place u. write_scalar program Byte place (as_type Byte n) u) go))
    (does_alike _ _
    (location_exchanged (nodes_in at.context) at.context.storage sound.sound.lowered.traits around
    (place_at at.context.activation.layout) sound.sound.resolves later tree reference_is quiet nothing
    (λ n place u. then_do (write_scalar program Byte place (as_type Byte n) u) go) s)
    (at_address at Byte from address.middle reference
    (λ place t. then_do (value later around tree t)
    (λ n u. then_do (write_scalar program Byte place (as_type Byte n) u) go))
    sound address.does reference_is refers part_types (omega (arith, tall)) stage
    (λ place t now kept found given next.
    at_byte address.middle byte.middle of byte.does is types fits next
    (λ n u after_now held value_is (in_a : ByteIsGiven at.context byte.known of (type_of tree) now kept n after_now held) there.
    let alone =
    in_a.free (free_is at.context.site of ∙ sym (free_is (knowing at.context.site facts) of) ∙ free) in
    let hl : word after_now.h after_now.l ≡ address_on_machine at.context.activation place =
    ap (λ (h : ℕ). word h after_now.l) alone.h ∙ ap (λ (l : ℕ). word now.h l) alone.l ∙ given.hl in
    does_same _
    (ap (λ (m : ℕ). then_do (write_byte program place m u) go) (low_of_low n ∙ sym in_a.a))
    (byte_goes at (MovToMemory A) byte.middle place after_now.a u after_now after_now held go sound move.there
    there.ready.registers.a hl
    (located_fits at.context Byte part_tree place s t sound.sound refers found)
    (λ steady.
    address_asks at.context.activation (distances_in at.context) byte.known.address_in_hl
    after_now.h after_now.l
    there.known.address_holds (subst (λ (m : ℕ). IsSteady at.context.activation m) (sym hl) steady.0))
    refl refl there.ready.registers there
    (λ v last_stage. rest _ _ v after_now _ goes move.rest last_stage))))))
