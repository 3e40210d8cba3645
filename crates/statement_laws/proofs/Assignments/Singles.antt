-- One target that gets a value.
use Rattle.statement_laws.proofs.Prelude.{◌≡◌, ℕ, ◌+◌, ◌*◌, ◌/◌, ◌%◌, ◌<◌, ◌≤◌, true, false, List, [], ◌∷◌, ◌++◌, slice_set, None, refl, sym, ap, subst, ◌∙◌, arith, ScalarType, Byte, Address, height_of, height_of_reference, height_of_target, type_of, TypedExpression, TypedReference, TypedTarget, StoredIn, RefersToScalar, TypesHold, TypesHoldInReference, TypesHoldInTarget, next_place, write_byte, write_scalar, located, stored, value, SourceState, Outcome, Gave, then_do, as_type, values_of, Instr, Mvi, M, act, HoldBytes, Registers, State, high_byte, low_byte, word, wrap, size_of_instruction, ExpressionNumber, Reference, Target, IsExpressionIn, IsReference, IsTarget, IsReady, IsThere, Does, at_place, Asks, IsSteadyByte, Facts, after, high, low, value_task, Planned, from_type, number_steps, part, Here, distances_in, nodes_in, AddressDoes, AddressIsGiven, address_on_machine, then_again, located_fits, refers_is_referred, FitsIn, ready_with_registers, registers_go, at_carried, does_same, loaded_in, script_of, without_more, plain_gains, first_fits, next_address, second_fits, byte_written, BodyContext, IsSoundBody, next_word}
use Rattle.meaning.specs.Access.{Place}
use Rattle.asm8080.specs.declared.item.Item.TheVariants as items
use Rattle.steps8080.specs.declared.step.Task.TheVariants as tasks
use Rattle.statements8080.specs.internal.Plans.{plain}
use Rattle.statement_laws.proofs.FirstSteps.{Stand, going, part_first, plain_first}
use Rattle.statement_laws.proofs.Assignments.Gains.{target_spares}
use Rattle.statement_laws.proofs.Outcomes.{Between}
use Rattle.statement_laws.proofs.Targets.{as_register, at_any_value, Suits}
use Rattle.statement_laws.proofs.Numbers.{low_of_low}

-- an instruction that writes a byte at the address in HL, which makes a step to spare
pub byte_goes :
    {A : Type 0} {need : ℕ} {base : List ℕ} {facts : Facts} {Good : A → SourceState → State → Type 0}
    (at : BodyContext) (i : Instr) (from : ℕ) (place : Place) (byte : ℕ) (t : SourceState)
    (r now : Registers) (memory : List ℕ)
    (go : Unit {0} → SourceState → Outcome A)
    → IsSoundBody at
    → IsThere at.context.activation (items.Plain i ∷ []) from (from + size_of_instruction i)
    → byte < 256
    → word r.h r.l ≡ address_on_machine at.context.activation place
    → FitsIn at.context.activation 1 place
    → (IsSteadyByte at.context.activation (address_on_machine at.context.activation place)
    → Asks at.context.activation (distances_in at.context) facts i
    (record r { pc = wrap (from + size_of_instruction i) }))
    → act (script_of at.context) i (at_place (from + size_of_instruction i) r memory t.events)
    ≡ at_place (from + size_of_instruction i) now (slice_set memory (word r.h r.l) byte) t.events
    → now.sp ≡ r.sp
    → HoldBytes now
    → Between at need base t facts r memory
    → ((u : SourceState)
    → Between at need base u (after facts i) now (slice_set memory (word r.h r.l) byte)
    → Does (loaded_in at.context) u.budget 0
    (at_place (from + size_of_instruction i) now (slice_set memory (word r.h r.l) byte) u.events) (go tt u)
    Good)
    → Does (loaded_in at.context) t.budget 1 (at_place from r memory t.events)
    (then_do (write_byte at.context.activation.around.program place byte t) go) Good
byte_goes {need = need} {base = base} {facts = facts} {Good = Good} at i from place byte t r now memory go
    sound there small hl fits asks does pointer bytes stage rest =
    let loaded = loaded_in at.context in
    let left : List ℕ = slice_set memory (word r.h r.l) byte in
    byte_written place byte t go sound.sound small stage.ready fits
    (λ u events_same budget_same steady ready.
    let same : slice_set memory (address_on_machine at.context.activation place) byte ≡ left =
    ap (λ (n : ℕ). slice_set memory n byte) (sym hl) in
    let below = stage.below in
    plain_gains r now left t.events sound.sound there
    (record { ready = stage.ready; known = stage.known }) (asks steady) does
    (λ known.
    subst (λ (budget : ℕ). Does loaded budget 0 (at_place (from + size_of_instruction i) now left t.events)
    (go tt u) Good) budget_same
    (subst (λ (events : List _). Does loaded u.budget 0
    (at_place (from + size_of_instruction i) now left events) (go tt u) Good) events_same
    (rest u (record {
      below = omega (arith, below, budget_same);
      room = stage.room;
      ready =
          ready_with_registers pointer bytes
          (subst (λ (bytes_now : List ℕ). IsReady at.context.activation at.context.activation.level base
          u.memory u.frame r bytes_now) same ready);
      known = known;
    })))))

-- the address of a scalar into HL
pub at_address :
    {B : Type 0} {need bound more : ℕ} {base : List ℕ} {t : SourceState} {facts found : Facts} {r : Registers}
    {memory : List ℕ} {tree : TypedReference} {Good : B → SourceState → State → Type 0}
    (at : BodyContext) (scalar : ScalarType) (from middle : ℕ) (reference : Reference)
    (go : Place → SourceState → Outcome B)
    → IsSoundBody at
    → AddressDoes at.context facts reference 0 from found middle
    → IsReference (nodes_in at.context) at.context.storage bound reference tree
    → RefersToScalar at.context.typed at.context.within scalar tree
    → TypesHoldInReference at.context.typed at.context.within tree
    → 2 * height_of_reference tree ≤ need
    → Between at need base t facts r memory
    → ((place : Place) (u : SourceState) (now : Registers) (memory_now : List ℕ)
    → located at.context.later at.context.activation.around tree t ≡ Gave place u
    → AddressIsGiven at.context found reference r memory place now memory_now
    → Between at need base u found now memory_now
    → Does (loaded_in at.context) u.budget more (at_place middle now memory_now u.events) (go place u) Good)
    → Does (loaded_in at.context) t.budget more (at_place from r memory t.events)
    (then_do (located at.context.later at.context.activation.around tree t) go) Good
at_address {bound = bound} {found = found} {r = r} {memory = memory} {tree = tree} at scalar from middle
    reference go sound does is refers types fits stage rest =
    at_carried from middle found
    (does bound tree is (refers_is_referred at.context scalar tree refers) types) fits tt
    (λ place now memory_now (given : AddressIsGiven at.context found reference r memory place now memory_now). given.known) stage rest

-- a single target
module _
    (at : BodyContext) (sound : IsSoundBody at) (facts : Facts) (need : ℕ) (base : List ℕ)
    (of : ExpressionNumber) (tree : TypedExpression)
    (is : IsExpressionIn (nodes_in at.context) at.context.storage of tree)
    (types : TypesHold at.context.typed at.context.within tree)
    (fits : 2 * height_of tree ≤ need)
    {B : Type 0} (go : Unit {0} → SourceState → Outcome B) (Good : B → SourceState → State → Type 0)
    (others : List Planned) (last : Here) (to : ℕ)
  where
    -- what follows the target
    abbrev pub Rest : Type 0
    Rest =
        (here : Here) (place : ℕ) (u : SourceState) (r : Registers) (memory : List ℕ)
        → here.goes_on ≡ true
        → Stand at here None place others last to
        → Between at need base u here.facts r memory
        → Does (loaded_in at.context) u.budget 0 (at_place place r memory u.events) (go tt u) Good

    -- the target gets the value, with a step to spare
    abbrev pub Goal : (to_tree : TypedTarget) (from : ℕ) (s : SourceState) (r : Registers) (memory : List ℕ)
        → Type 0
    Goal to_tree from s r memory =
        Does (loaded_in at.context) s.budget 1 (at_place from r memory s.events)
        (then_do (value at.context.later at.context.activation.around tree s)
        (λ n t. then_do (stored at.context.later at.context.activation.around to_tree n t) go)) Good

    -- through a register
    pub through :
        (scalar there : ScalarType) (bound : ℕ) (target : Target) (to_tree : TypedTarget)
        (from : ℕ) (here : Here) (s : SourceState) (r : Registers) (memory : List ℕ)
        → here.goes_on ≡ true
        → Stand at here None from
        (part (value_task there of) 0 ∷ part (tasks.Store (from_type target there) false) 0 ∷ others) last to
        → IsTarget (nodes_in at.context) at.context.storage bound target to_tree
        → TypesHoldInTarget at.context.typed at.context.within scalar to_tree
        → 2 + 2 * height_of_target to_tree ≤ need
        → ((n : ℕ) → n < values_of (type_of tree) → Suits to_tree n (as_register there n))
        → Between at need base s here.facts r memory
        → Rest
        → Goal to_tree from s r memory
    through scalar there bound target to_tree from here s r memory goes stand target_is target_types
        tall suits stage rest =
        let first = part_first stand in
        let second = part_first first.rest in
        at_any_value at there from first.middle of first.does is types fits stage
        (λ n u now kept in_register small is_small next.
        target_spares at scalar there first.middle second.middle n (as_register there n) target to_tree go
        second.does target_is target_types
        (suits n is_small) small tall in_register next
        (λ v here_now held there_now. rest (going here.goes_on second.known) second.middle v here_now held
        goes second.rest there_now))

    -- the value is a number
    module _ (known : ℕ)
        (value_is : (s : SourceState) → value at.context.later at.context.activation.around tree s
        ≡ Gave known s) where
      of_number :
          (to_tree : TypedTarget) (from : ℕ) (s : SourceState) (r : Registers) (memory : List ℕ)
          → Does (loaded_in at.context) s.budget 1 (at_place from r memory s.events)
          (then_do (stored at.context.later at.context.activation.around to_tree known s) go) Good
          → Goal to_tree from s r memory
      of_number to_tree from s r memory does =
          does_same _
          (ap (λ (given : Outcome ℕ). then_do given
          (λ n t. then_do (stored at.context.later at.context.activation.around to_tree n t) go))
          (value_is s)) does

      -- a BYTE
      pub byte_number :
          (from_scalar : ScalarType) (bound : ℕ) (reference : Reference) (part_tree : TypedReference)
          (from : ℕ) (here : Here) (s : SourceState) (r : Registers) (memory : List ℕ)
          → here.goes_on ≡ true
          → Stand at here None from (part (tasks.Address reference) 0 ∷ plain (Mvi M (low known)) ∷ others)
          last to
          → IsReference (nodes_in at.context) at.context.storage bound reference part_tree
          → RefersToScalar at.context.typed at.context.within Byte part_tree
          → TypesHoldInReference at.context.typed at.context.within part_tree
          → 2 + 2 * height_of_reference part_tree ≤ need
          → Between at need base s here.facts r memory
          → Rest
          → Goal (StoredIn from_scalar Byte part_tree) from s r memory
      byte_number from_scalar bound reference part_tree from here s r memory goes stand reference_is refers
          part_types tall stage rest =
          let first = part_first stand in
          let second = plain_first first.rest in
          of_number (StoredIn from_scalar Byte part_tree) from s r memory
          (does_same _
          (then_again (located at.context.later at.context.activation.around part_tree s)
          (λ place t. write_scalar at.context.activation.around.program Byte place (as_type Byte known) t) go)
          (at_address at Byte from first.middle reference
          (λ place t. then_do (write_scalar at.context.activation.around.program Byte place
          (as_type Byte known) t) go)
          sound first.does reference_is refers part_types (omega (arith, tall)) stage
          (λ place u now kept found given next.
          let held = next.ready.registers in
          does_same _
          (ap (λ (n : ℕ). then_do (write_byte at.context.activation.around.program place n u) go)
          (low_of_low known))
          (byte_goes at (Mvi M (low known)) first.middle place (known % 256) u now now kept go sound
          second.there (omega arith) given.hl
          (located_fits at.context Byte part_tree place s u sound.sound refers found)
          (λ steady. tt) refl refl held next
          (λ v there_now. rest (going here.goes_on (after first.known (Mvi M (low known)))) _ v now _ goes
          second.rest there_now)))))

      -- an ADDRESS, byte by byte
      pub word_number :
          (from_scalar : ScalarType) (bound : ℕ) (reference : Reference) (part_tree : TypedReference)
          (from : ℕ) (here : Here) (s : SourceState) (r : Registers) (memory : List ℕ)
          → here.goes_on ≡ true
          → known < 65536
          → Stand at here None from (number_steps reference known ++ others) last to
          → IsReference (nodes_in at.context) at.context.storage bound reference part_tree
          → RefersToScalar at.context.typed at.context.within Address part_tree
          → TypesHoldInReference at.context.typed at.context.within part_tree
          → 2 + 2 * height_of_reference part_tree ≤ need
          → Between at need base s here.facts r memory
          → Rest
          → Goal (StoredIn from_scalar Address part_tree) from s r memory
      word_number from_scalar bound reference part_tree from here s r memory goes small stand reference_is
          refers part_types high_fits stage rest =
          let first = part_first stand in
          let second = plain_first first.rest in
          let third = plain_first second.rest in
          let fourth = plain_first third.rest in
          let program = at.context.activation.around.program in
          let same : as_type Address known ≡ known = omega (arith, small) in
          of_number (StoredIn from_scalar Address part_tree) from s r memory
          (subst (λ (n : ℕ). Does (loaded_in at.context) s.budget 1 (at_place from r memory s.events)
          (then_do (then_do (located at.context.later at.context.activation.around part_tree s)
          (λ place t. write_scalar program Address place n t)) go) Good) (sym same)
          (does_same _
          (then_again (located at.context.later at.context.activation.around part_tree s)
          (λ place t. write_scalar program Address place known t) go)
          (at_address at Address from first.middle reference
          (λ place t. then_do (write_scalar program Address place known t) go)
          sound first.does reference_is refers part_types (omega (arith, high_fits)) stage
          (λ place u now kept found given next.
          let held = next.ready.registers in
          let two_fit = located_fits at.context Address part_tree place s u sound.sound refers found in
          let two : Registers =
          record now { h = high_byte (wrap (word now.h now.l + 1)); l = low_byte (wrap (word now.h now.l + 1)) } in
          does_same _
          (then_again (write_byte program place (known % 256) u)
          (λ _ t. write_byte program (next_place place) (known / 256) t) go)
          (byte_goes at (Mvi M (low known)) first.middle place (known % 256) u now now kept
          (λ _ t. then_do (write_byte program (next_place place) (known / 256) t) go) sound second.there
          (omega arith) given.hl
          (first_fits at.context.activation place two_fit) (λ steady. tt) refl refl held next
          (λ v once.
          without_more
          (registers_go now two sound.sound third.there
          (record { ready = once.ready; known = once.known }) tt refl refl
          (record { a = held.a; b = held.b; c = held.c; d = held.d; e = held.e; h = omega arith; l = omega arith })
          (λ on_two.
          byte_goes at (Mvi M (high known)) _ (next_place place) (known / 256) v two two _ go sound
          fourth.there (omega (arith, small))
          (next_word now.h now.l (address_on_machine at.context.activation place) given.hl
          ∙ sym (next_address at.context.activation place))
          (second_fits at.context.activation place two_fit) (λ steady. tt) refl refl on_two.ready.registers
          (record { below = once.below; room = once.room; ready = on_two.ready; known = on_two.known })
          (λ w there_now. rest (going here.goes_on _) _ w two _ goes fourth.rest there_now)))))))))
