-- The code of a BYTE that is counted by 1 does what the assignment says.
use Rattle.statement_laws.proofs.Prelude.{◌≡◌, ℕ, ◌+◌, ◌-◌, ◌%◌, ◌*◌, ◌<◌, ◌≤◌, List, [], slice_set, Option, Some, refl, sym, ap, subst, ◌∙◌, arith, same_Some, byte_at, Byte, BinaryOperator, StoredIn, TypedExpression, TypedReference, read_byte, read_scalar, write_byte, write_scalar, computed, located, stored, SourceState, Outcome, Gave, then_do, Onward, as_type, result_of, Event, Instr, Dcr, Inr, M, Flags, act, decrement_of, increment_of, Registers, State, word, Answer, Fails, Found, outcome_of, quiet_byte, Does, Loaded, at_place, Asks, Facts, Site, knowing, count_by, count_of, distances_in, nodes_in, address_on_machine, then_again, located_fits, does_same, script_of, height_of, TypesHold, ExpressionNumber, IsExpressionIn, Planned, Here, BodyContext, IsSoundBody, Leaves}
use Rattle.trees.specs.declared.expression.BinaryOperator.TheVariants as operators
use Rattle.meaning.specs.Access.{Place}
use Rattle.statement_laws.proofs.Assignments.Assigned.{CountsDo}
use Rattle.statement_laws.proofs.Assignments.Assignments.{Counted as CountedAs}
use Rattle.statement_laws.proofs.Loops.Counts.{is_count}
use Rattle.statement_laws.proofs.FirstSteps.{part_first, plain_first}
use Rattle.statement_laws.proofs.Assignments.QuietParts.{quiet_state, same_parts}
use Rattle.statement_laws.proofs.Assignments.SameValues.{byte_is}
use Rattle.statement_laws.proofs.Assignments.Singles.{at_address, byte_goes}

-- an instruction that counts the byte at the address in HL
record CountsByte (at : BodyContext) (i : Instr) (operator : BinaryOperator) : Type 0 where
  pub change : ℕ → ℕ
  pub flags : Registers → List ℕ → Flags
  pub small : (n : ℕ) → change n < 256
  pub means : (n : ℕ) → result_of Byte operator n 1 ≡ Some (change n)
  pub acts : (place : ℕ) (r : Registers) (memory : List ℕ) (events : List Event)
      → act (script_of at.context) i (at_place place r memory events)
      ≡ at_place place (record r { flags = flags r memory })
      (slice_set memory (word r.h r.l) (change (byte_at memory (word r.h r.l)))) events
  pub asks : (facts : Facts) (r : Registers) → Asks at.context.activation (distances_in at.context) facts i r

counts_byte :
    (at : BodyContext) (i : Instr) (operator : BinaryOperator)
    → count_by operator ≡ Some i
    → CountsByte at i operator
counts_byte at i operator same = by operator same
  where
    more : CountsByte at (Inr M) operators.Add
    more = record {
      change = λ n. (n + 1) % 256;
      flags = λ r memory. (increment_of (byte_at memory (word r.h r.l)) r.flags).flags;
      small = λ n. omega arith;
      means = λ n. refl;
      acts = λ place r memory events. refl;
      asks = λ facts r. tt;
    }

    less : CountsByte at (Dcr M) operators.Subtract
    less = record {
      change = λ n. (n + 254 + 1) % 256;
      flags = λ r memory. (decrement_of (byte_at memory (word r.h r.l)) r.flags).flags;
      small = λ n. omega arith;
      means = λ n. ap (λ (m : ℕ). Some m) (one_off n);
      acts = λ place r memory events. refl;
      asks = λ facts r. tt;
    }
      where
        one_off : (n : ℕ) → (n + (256 - 1)) % 256 ≡ (n + 254 + 1) % 256
        one_off n = omega arith

    by : (of : BinaryOperator) → count_by of ≡ Some i → CountsByte at i of
    by operators.Add same =
        subst (λ (one : Instr). CountsByte at one operators.Add) (same_Some (Inr M) i same) more
    by operators.Subtract same =
        subst (λ (one : Instr). CountsByte at one operators.Subtract) (same_Some (Dcr M) i same) less
    by operators.Or same = let never : ⊥ = cc in absurd never
    by operators.Xor same = let never : ⊥ = cc in absurd never
    by operators.And same = let never : ⊥ = cc in absurd never
    by operators.Equal same = let never : ⊥ = cc in absurd never
    by operators.Less same = let never : ⊥ = cc in absurd never
    by operators.Greater same = let never : ⊥ = cc in absurd never
    by operators.LessOrEqual same = let never : ⊥ = cc in absurd never
    by operators.GreaterOrEqual same = let never : ⊥ = cc in absurd never
    by operators.Unequal same = let never : ⊥ = cc in absurd never
    by operators.Multiply same = let never : ⊥ = cc in absurd never
    by operators.Divide same = let never : ⊥ = cc in absurd never
    by operators.Modulo same = let never : ⊥ = cc in absurd never

-- where a byte is found and read, or what is meant goes outside
by_answer :
    {B : Type 0} {loaded : Loaded} {budget more : ℕ} {from : State}
    {Good : B → SourceState → State → Type 0} {i : Instr}
    (at : BodyContext) (s : SourceState) (store : ℕ → SourceState → Outcome B) (operator : BinaryOperator)
    (part : TypedReference)
    (answer : Answer Place)
    → located at.context.later at.context.activation.around part s ≡ outcome_of answer s
    → (byte : CountsByte at i operator)
    → ((p : Place) (x : ℕ)
    → located at.context.later at.context.activation.around part s ≡ Gave p s
    → read_byte at.context.activation.around.program p s ≡ Gave x s
    → Does loaded budget more from (store (byte.change x) s) Good)
    → Does loaded budget more from
    (then_do (then_do (located at.context.later at.context.activation.around part s)
    (λ place t. then_do (read_scalar at.context.activation.around.program Byte place t)
    (λ n u. computed (result_of Byte operator n 1) u))) store) Good
by_answer at s store operator part (Fails reason) is byte rest =
    does_same _
    (ap (λ (given : Outcome Place). then_do (then_do given
    (λ place t. then_do (read_scalar at.context.activation.around.program Byte place t)
    (λ n u. computed (result_of Byte operator n 1) u))) store) is)
    (record { told = tt })
by_answer {loaded = loaded} {budget = budget} {more = more} {from = from} {Good = Good} at s store operator
    part (Found p) is byte rest =
    does_same _
    (ap (λ (given : Outcome Place). then_do (then_do given
    (λ place t. then_do (read_scalar at.context.activation.around.program Byte place t)
    (λ n u. computed (result_of Byte operator n 1) u))) store) is)
    (by ((quiet_byte at.context.activation.around.program p).answer s.memory s.frame)
    ((quiet_byte at.context.activation.around.program p).gives s))
  where
    by : (found : Answer ℕ)
        → read_byte at.context.activation.around.program p s ≡ outcome_of found s
        → Does loaded budget more from
        (then_do (then_do (read_byte at.context.activation.around.program p s)
        (λ n u. computed (result_of Byte operator n 1) u)) store) Good
    by (Fails reason) read =
        does_same _
        (ap (λ (given : Outcome ℕ). then_do
        (then_do given (λ n u. computed (result_of Byte operator n 1) u)) store) read)
        (record { told = tt })
    by (Found x) read =
        does_same _
        (ap (λ (given : Outcome ℕ). then_do
        (then_do given (λ n u. computed (result_of Byte operator n 1) u)) store) read
        ∙ ap (λ (one : Option ℕ). then_do (computed one s) store) (byte.means x))
        (rest p x is read)

twice_low : (n m : ℕ) → n < 256 → n ≡ m → n % 256 % 256 ≡ m
twice_low n m small same = omega (arith, small, same)

-- whatever follows it
pub counted_does :
    (at : BodyContext) (sound : IsSoundBody at) (facts : Facts) (need : ℕ) (base : List ℕ)
    (of : ExpressionNumber)
    (tree : TypedExpression) (is : IsExpressionIn (nodes_in at.context) at.context.storage of tree)
    (types : TypesHold at.context.typed at.context.within tree) (fits : 2 * height_of tree ≤ need)
    {B : Type 0} (go : Unit {0} → SourceState → Outcome B) (Good : B → SourceState → State → Type 0)
    (others : List Planned) (last : Here) (to : ℕ)
    → CountedAs at sound facts need base of tree is types fits go Good others last to
counted_does at sound facts need base of tree is types fits {B = B} go Good others last to i from_scalar bound
    reference part_tree from here s r memory none counts goes stand reference_is refers
    part_types tall stage rest =
    let context = at.context in
    let later = at.context.later in
    let around = at.context.activation.around in
    let program = around.program in
    let count = is_count context sound.sound facts reference i of tree is types
    (ap (λ (one : Site). count_of (knowing one facts) reference of) sound.site ∙ counts) in
    let byte = counts_byte at i count.operator count.counts in
    let alike =
    same_parts context sound.sound facts context.activation.level base s r memory stage.ready count.other
    reference count.part part_tree
    count.is reference_is count.types part_types count.same in
    let address = part_first stand in
    let change = plain_first address.rest in
    let store : ℕ → SourceState → Outcome B =
    λ n t. then_do (stored later around (StoredIn from_scalar Byte part_tree) n t) go in
    does_same _
    (ap (λ (given : Outcome ℕ). then_do given store) (count.means s))
    (by_answer at s store count.operator count.part (alike.first.answer s.memory s.frame)
    (alike.first.gives s) byte
    (λ p x located_is read_is.
    does_same _
    (then_again (located later around part_tree s)
    (λ place t. write_scalar program Byte place (as_type Byte (byte.change x)) t) go)
    (at_address at Byte from address.middle reference
    (λ place t. then_do (write_scalar program Byte place (as_type Byte (byte.change x)) t) go)
    sound address.does reference_is refers part_types (omega (arith, tall)) stage
    (λ place u now kept found given next.
    let state : u ≡ s =
    quiet_state (λ (t : SourceState). located later around part_tree t) s u place alike.second found in
    let read = byte_is context sound.sound context.activation.level base u now kept next.ready p x u
    (located_fits context Byte count.part p s s sound.sound count.refers located_is)
    (subst (λ (t : SourceState). read_byte program p t ≡ Gave x t) (sym state) read_is) in
    let hl : word now.h now.l ≡ address_on_machine context.activation p =
    given.hl ∙ sym (alike.same p place s u located_is found) in
    let x_is : x ≡ byte_at kept (word now.h now.l) = read.is ∙ ap (λ (n : ℕ). byte_at kept n) (sym hl) in
    let held = next.ready.registers in
    does_same _
    (ap (λ (m : ℕ). then_do (write_byte program place m u) go)
    (twice_low (byte.change x) (byte.change (byte_at kept (word now.h now.l))) (byte.small x)
    (ap byte.change x_is)))
    (byte_goes at i address.middle place (byte.change (byte_at kept (word now.h now.l))) u now
    (record now { flags = byte.flags now kept }) kept go sound
    change.there (byte.small (byte_at kept (word now.h now.l))) given.hl
    (located_fits context Byte part_tree place s u sound.sound refers found)
    (λ steady. byte.asks address.known _)
    (byte.acts _ now kept u.events) refl
    (record { a = held.a; b = held.b; c = held.c; d = held.d; e = held.e; h = held.h; l = held.l }) next
    (λ v last_stage. rest _ _ v _ _ goes change.rest last_stage))))))

-- where an assignment ends after it
pub counts_do : (at : BodyContext) → CountsDo at
counts_do at sound facts need base of tree is types fits last to before =
    counted_does at sound facts need base of tree is types fits (λ _ u. Gave Onward u)
    (Leaves at base to last before) [] last to
