-- Products, quotients, remainders and shifts in HL by routines.
use Rattle.task_laws.proofs.Prelude.{◌≡◌, ℕ, ◌+◌, ◌-◌, ◌*◌, ◌/◌, ◌%◌, ◌<◌, ◌≤◌, ◌==◌, Bool, true, false, if◌then◌else◌, List, [], ◌∷◌, ◌++◌, Option, Some, None, refl, sym, ap, ◌∙◌, subst, arith, Address, Byte, Divide, Modulo, Multiply, ShiftFunction, RotateLeft, RotateRight, ShiftLeft, ShiftRight, height_of, TypedExpression, type_of, ShiftsIn, ScalarType, computed, value, SourceState, Gave, then_do, result_of, shifted, values_of, Pop, Push, Xchg, StackHl, HoldBytes, Registers, word, wrap, ExpressionNumber, keeps_none, Does, Loaded, loaded_of, at_place, Arrives, HasRoom, Facts, CallRoutine, Plain, part_of, is_free, keeps, Shifted, computed_count_steps, count_beside_word_steps, word_routine, PairOrder, LeftInHl, RightInHl, pair_in_order_steps, pair_steps, knowing, Context, IsSound, StepsStand, PartThere, PlainThere, PartDoes, WordIsGiven, mul_comm, word_from_halves}
use Rattle.runtime8080.specs.declared.routine.Routine.TheVariants as routines
use Rattle.steps8080.specs.declared.step.Task.TheVariants as tasks
use Rattle.task_laws.proofs.Machine.Rules.{GoesOn, more_pushed, pop_goes, push_goes}
use Rattle.task_laws.proofs.Machine.KnownOperands.{quotient_less, shift_fits}
use Rattle.task_laws.proofs.Machine.RegisterCode.{effect, registers_then}
use Rattle.task_laws.proofs.Machine.RoutineCalls.{routine_then}
use Rattle.task_laws.proofs.Machine.Values.{HasWord, byte_then, word_ends, word_then}
use Rattle.task_laws.proofs.Words.Pairs.{HasBoth, HasPair, IsOperand, free_same, pair_then}
use Rattle.task_laws.proofs.Words.PairedWords.{kept_none}
use Rattle.task_laws.proofs.Words.WordArithmetic.{has_word, word_below}
use Rattle.task_laws.proofs.Numbers.{equals_byte, high_of_joined, low_of_joined, product_is_word}
use Rattle.task_laws.proofs.Heights.{some_height}

-- the number that is given
abbrev given_number : Option ℕ → ℕ
given_number None = 0
given_number (Some n) = n

product_of : (x y h l d e hh ll : ℕ)
    → Some ((word h l * word d e) % 65536) ≡ Some (word hh ll)
    → word h l ≡ x → word d e ≡ y
    → word hh ll ≡ (x * y) % 65536
product_of x y h l d e hh ll computes one two =
    sym (ap given_number computes) ∙ ap (λ n. (n * word d e) % 65536) one ∙ ap (λ n. (x * n) % 65536) two

pub word_given_by : (n h l : ℕ) → h < 256 → l < 256 → word h l ≡ n → (r : Registers) → r.h ≡ h
    → r.l ≡ l → HasWord n r
word_given_by n h l one two same r hh ll =
    let is = has_word n h l one two same in record { h = hh ∙ is.0; l = ll ∙ is.1 }

-- a product, with its operands in either order
pub multiplied : (order : PairOrder) (x y : ℕ) (before after : Registers)
    → HasPair order x y before
    → result_of Address Multiply (word before.h before.l) (word before.d before.e)
    ≡ Some (word after.h after.l)
    → word after.h after.l ≡ (x * y) % 65536
multiplied LeftInHl x y before after has computes =
    product_of x y before.h before.l before.d before.e after.h after.l computes
    (word_from_halves x before.h before.l has.h has.l) (word_from_halves y before.d before.e has.d has.e)
multiplied RightInHl x y before after has computes =
    product_of y x before.h before.l before.d before.e after.h after.l computes
    (word_from_halves y before.h before.l has.h has.l) (word_from_halves x before.d before.e has.d has.e)
    ∙ ap (λ n. n % 65536) (mul_comm y x)

pub multiply_does :
    {context : Context} {pushed top need to : ℕ} {base : List ℕ} {facts last : Facts}
    {left right : ExpressionNumber} {first second : TypedExpression} (number : ExpressionNumber)
    (wish : Option PairOrder) (from : ℕ) (s : SourceState) (r : Registers) (memory : List ℕ)
    (sound : IsSound context)
    → IsOperand context left first
    → IsOperand context right second
    → keeps context.site number ≡ keeps_none
    → s.budget < context.number
    → HasRoom context.activation top pushed need
    → 2 * height_of first ≤ need
    → 2 + 2 * height_of second ≤ need
    → StepsStand context (PartDoes context) facts from
    (pair_in_order_steps (knowing context.site facts) left right wish pushed
    ++ (CallRoutine routines.Multiply ∷ [])) last to
    → GoesOn context facts top base s.memory s.frame r memory
    → Does (loaded_of context.activation) s.budget 0 (at_place from r memory s.events)
    (then_do (value context.later context.activation.around first s)
    (λ x t. then_do (value context.later context.activation.around second t)
    (λ y u. Gave ((x * y) % 65536) u)))
    (Arrives context.activation top base to (WordIsGiven context last number Address r memory))
multiply_does {context = context} {facts = facts} {left = left} {right = right} number wish from s r memory
    sound one two none less room high higher stand going =
    let order : PairOrder =
    Rattle.operands8080.specs.internal.Pairs.pair_order_by (knowing context.site facts) left right wish in
    pair_then context sound wish (CallRoutine routines.Multiply ∷ []) from s r memory one two less room
    high higher stand going
    (λ x y t now ended middle found fewer rest going_on has.
    routine_then routines.Multiply [] now sound tt room (omega (arith, higher)) rest going_on
    (λ after last_memory ends going_last computes leaves.
    let bytes = going_last.ready.registers in
    word_ends t ends (product_is_word x y)
    (word_given_by ((x * y) % 65536) after.h after.l bytes.h bytes.l
    (multiplied order x y now after has computes) after refl refl)
    (kept_none context number r after none) going_last))

-- of a division by 0 nothing is asked
pub divided_does :
    {loaded : Loaded} {budget : ℕ} {from : Rattle.isa8080.specs.State.State} {u : SourceState}
    {Good : ℕ → SourceState → Rattle.isa8080.specs.State.State → Type 0}
    (y f : ℕ)
    → (((y == 0) ≡ false) → Does loaded budget 0 from (Gave f u) Good)
    → Does loaded budget 0 from (computed (if y == 0 then None else Some f) u) Good
divided_does {loaded = loaded} {budget = budget} {from = from} {u = u} {Good = Good} y f does =
    by (y == 0) refl
  where
    by : (test : Bool) → (y == 0) ≡ test
        → Does loaded budget 0 from (computed (if test then None else Some f) u) Good
    by true is = record { told = tt }
    by false is = does is

pub some_of : (y f : ℕ) → (y == 0) ≡ false → (if y == 0 then None else Some f) ≡ Some f
some_of y f is = ap (λ (test : Bool). if test then None else Some f) is

quotient_small : (x y : ℕ) → x < 65536 → x / y < 65536
quotient_small x y small =
    let less : x / y ≤ x = quotient_less x y in omega (arith, less, small)

remainder_small : (x y : ℕ) → x < 65536 → x % y < 65536
remainder_small x y small =
    let less : x % y ≤ x = Rattle.std.proofs.Math.Nat.mod-le x y in omega (arith, less, small)

word_of_left : (x : ℕ) (r : Registers) (y : ℕ) → HasBoth x y r → HoldBytes r → x < 65536
word_of_left x r y has bytes = word_below x r.h r.l has.h bytes.h

-- a quotient
pub quotient_does :
    {context : Context} {pushed top need to : ℕ} {base : List ℕ} {facts last : Facts}
    {left right : ExpressionNumber} {first second : TypedExpression} (number : ExpressionNumber)
    (from : ℕ) (s : SourceState) (r : Registers) (memory : List ℕ) (sound : IsSound context)
    → IsOperand context left first
    → IsOperand context right second
    → keeps context.site number ≡ keeps_none
    → s.budget < context.number
    → HasRoom context.activation top pushed need
    → 2 * height_of first ≤ need
    → 2 + 2 * height_of second ≤ need
    → StepsStand context (PartDoes context) facts from
    (pair_steps (knowing context.site facts) left right true pushed ++ (CallRoutine routines.Divide ∷ []))
    last to
    → GoesOn context facts top base s.memory s.frame r memory
    → Does (loaded_of context.activation) s.budget 0 (at_place from r memory s.events)
    (then_do (value context.later context.activation.around first s)
    (λ x t. then_do (value context.later context.activation.around second t)
    (λ y u. computed (result_of Address Divide x y) u)))
    (Arrives context.activation top base to (WordIsGiven context last number Address r memory))
quotient_does {context = context} number from s r memory sound one two none less room high
    higher stand going =
    pair_then context sound (Some LeftInHl) (CallRoutine routines.Divide ∷ []) from s r memory one two less
    room high higher stand going
    (λ x y t now ended middle found fewer rest going_on has.
    let small = word_of_left x now y has going_on.ready.registers in
    divided_does y (x / y)
    (λ some.
    routine_then routines.Divide [] now sound tt room (omega (arith, higher)) rest going_on
    (λ after last_memory ends going_last computes leaves.
    let bytes = going_last.ready.registers in
    let is : word after.h after.l ≡ x / y = computes.0 (x / y)
    (ap (λ n. result_of Address Divide n (word now.d now.e)) (word_from_halves x now.h now.l has.h has.l)
    ∙ ap (λ n. result_of Address Divide x n) (word_from_halves y now.d now.e has.d has.e)
    ∙ some_of y (x / y) some) in
    word_ends t ends (quotient_small x y small)
    (word_given_by (x / y) after.h after.l bytes.h bytes.l is after refl refl)
    (kept_none context number r after none) going_last)))

-- a remainder
pub remainder_does :
    {context : Context} {pushed top need to : ℕ} {base : List ℕ} {facts last : Facts}
    {left right : ExpressionNumber} {first second : TypedExpression} (number : ExpressionNumber)
    (from : ℕ) (s : SourceState) (r : Registers) (memory : List ℕ) (sound : IsSound context)
    → IsOperand context left first
    → IsOperand context right second
    → keeps context.site number ≡ keeps_none
    → s.budget < context.number
    → HasRoom context.activation top pushed need
    → 2 * height_of first ≤ need
    → 2 + 2 * height_of second ≤ need
    → StepsStand context (PartDoes context) facts from
    (pair_steps (knowing context.site facts) left right true pushed
    ++ (CallRoutine routines.Divide ∷ Plain Xchg ∷ [])) last to
    → GoesOn context facts top base s.memory s.frame r memory
    → Does (loaded_of context.activation) s.budget 0 (at_place from r memory s.events)
    (then_do (value context.later context.activation.around first s)
    (λ x t. then_do (value context.later context.activation.around second t)
    (λ y u. computed (result_of Address Modulo x y) u)))
    (Arrives context.activation top base to (WordIsGiven context last number Address r memory))
remainder_does {context = context} number from s r memory sound one two none less room high
    higher stand going =
    pair_then context sound (Some LeftInHl) (CallRoutine routines.Divide ∷ Plain Xchg ∷ []) from s r memory
    one two less room high higher stand going
    (λ x y t now ended middle found fewer rest going_on has.
    let small = word_of_left x now y has going_on.ready.registers in
    divided_does y (x % y)
    (λ some.
    routine_then routines.Divide (Plain Xchg ∷ []) now sound tt room (omega (arith, higher)) rest going_on
    (λ after last_memory stand_on going_last computes leaves.
    let bytes = going_last.ready.registers in
    let is : word after.d after.e ≡ x % y = computes.1 (x % y)
    (ap (λ n. result_of Address Modulo n (word now.d now.e)) (word_from_halves x now.h now.l has.h has.l)
    ∙ ap (λ n. result_of Address Modulo x n) (word_from_halves y now.d now.e has.d has.e)
    ∙ some_of y (x % y) some) in
    registers_then (Xchg ∷ []) [] after sound (tt, tt) stand_on going_last
    (λ at_end at_end_found ends going_end.
    word_ends t ends (remainder_small x y small)
    (word_given_by (x % y) after.d after.e bytes.d bytes.e is (effect (Xchg ∷ []) after) refl refl)
    (kept_none context number r (effect (Xchg ∷ []) after) none) going_end))))

pub absurd_type : {A : Type 0} → Address ≡ Byte → A
absurd_type same = let bad : Address ≡ Byte = same in cc

-- the routine that shifts a word, by its function
shift_small : (function : ShiftFunction) (n k : ℕ) → ShiftsIn function Address → n < 65536
    → shifted Address function n k < 65536
shift_small function n k in_type small = shift_fits Address function n k in_type small

pub shift_then :
    {context : Context} {top bytes_pushed need from to : ℕ} {base : List ℕ} {facts last : Facts}
    (function : ShiftFunction) (n k : ℕ) (number : ExpressionNumber) (t : SourceState) (r now : Registers)
    (memory ended : List ℕ) (sound : IsSound context)
    → ShiftsIn function Address
    → HasRoom context.activation top bytes_pushed need
    → 2 ≤ need
    → keeps context.site number ≡ keeps_none
    → HasWord n now
    → now.a ≡ k
    → StepsStand context (PartDoes context) facts from (CallRoutine (word_routine function) ∷ []) last to
    → GoesOn context facts top base t.memory t.frame now ended
    → Does (loaded_of context.activation) t.budget 0 (at_place from now ended t.events)
    (Gave (shifted Address function n k) t)
    (Arrives context.activation top base to (WordIsGiven context last number Address r memory))
unfolding word_routine
shift_then {context = context} ShiftLeft n k number t r now memory ended sound in_type room two none
    has count stand going =
    routine_then routines.ShiftLeftAddress [] now sound tt room two stand going
    (λ after last_memory ends going_last computes leaves.
    let bytes = going_last.ready.registers in
    word_ends t ends
    (shift_small ShiftLeft n k in_type (word_below n now.h now.l has.h going.ready.registers.h))
    (word_given_by (shifted Address ShiftLeft n k) after.h after.l bytes.h bytes.l
    (computes ∙ ap (λ m. shifted Address ShiftLeft m now.a) (word_from_halves n now.h now.l has.h has.l)
    ∙ ap (λ m. shifted Address ShiftLeft n m) count) after refl refl)
    (kept_none context number r after none) going_last)
shift_then {context = context} ShiftRight n k number t r now memory ended sound in_type room two none
    has count stand going =
    routine_then routines.ShiftRightAddress [] now sound tt room two stand going
    (λ after last_memory ends going_last computes leaves.
    let bytes = going_last.ready.registers in
    word_ends t ends
    (shift_small ShiftRight n k in_type (word_below n now.h now.l has.h going.ready.registers.h))
    (word_given_by (shifted Address ShiftRight n k) after.h after.l bytes.h bytes.l
    (computes ∙ ap (λ m. shifted Address ShiftRight m now.a) (word_from_halves n now.h now.l has.h has.l)
    ∙ ap (λ m. shifted Address ShiftRight n m) count) after refl refl)
    (kept_none context number r after none) going_last)
shift_then RotateLeft n k number t r now memory ended sound in_type room two none has count stand going =
    absurd_type in_type
shift_then RotateRight n k number t r now memory ended sound in_type room two none has count stand going =
    absurd_type in_type

-- a shift by a count that is not known
pub computed_shift_does :
    {context : Context} {pushed top need to : ℕ} {base : List ℕ} {facts last : Facts}
    {first second : TypedExpression} (moved : Shifted) (number : ExpressionNumber)
    (from : ℕ) (s : SourceState) (r : Registers) (memory : List ℕ) (sound : IsSound context)
    → ShiftsIn moved.function Address
    → IsOperand context moved.value first
    → IsOperand context moved.count second
    → type_of second ≡ Byte
    → keeps context.site number ≡ keeps_none
    → s.budget < context.number
    → HasRoom context.activation top pushed need
    → 2 * height_of first ≤ need
    → 2 + 2 * height_of second ≤ need
    → StepsStand context (PartDoes context) facts from
    (computed_count_steps (knowing context.site facts) moved pushed) last to
    → GoesOn context facts top base s.memory s.frame r memory
    → Does (loaded_of context.activation) s.budget 0 (at_place from r memory s.events)
    (then_do (value context.later context.activation.around first s)
    (λ n t. then_do (value context.later context.activation.around second t)
    (λ k u. Gave (shifted Address moved.function n k) u)))
    (Arrives context.activation top base to (WordIsGiven context last number Address r memory))
unfolding computed_count_steps count_beside_word_steps
computed_shift_does {context = context} {pushed = pushed} {top = top} {need = need} {to = to} {base = base}
    {facts = facts} {last = last} {first = first} {second = second} moved number from s r memory sound in_type
    one two byte none less room high higher stand going =
    by_free (is_free (knowing context.site facts) moved.count) refl stand
  where
    by_free : (free : Bool) → is_free (knowing context.site facts) moved.count ≡ free
        → StepsStand context (PartDoes context) facts from
        (part_of (tasks.Word moved.value) pushed
        ∷ (if free then part_of (tasks.Byte moved.count) pushed ∷ []
        else Plain (Push StackHl) ∷ part_of (tasks.Byte moved.count) ((pushed + 2) % 65536)
        ∷ Plain (Pop StackHl) ∷ [])
        ++ (CallRoutine (word_routine moved.function) ∷ [])) last to
        → Does (loaded_of context.activation) s.budget 0 (at_place from r memory s.events)
        (then_do (value context.later context.activation.around first s)
        (λ n t. then_do (value context.later context.activation.around second t)
        (λ k u. Gave (shifted Address moved.function n k) u)))
        (Arrives context.activation top base to (WordIsGiven context last number Address r memory))
    by_free true is (PartThere part (PartThere {middle = at_count} count_part rest)) =
        word_then from s r memory part one.is one.types less room high going
        (λ n t now ended same fewer going_on given.
        byte_then _ t now ended count_part two.is two.types (omega (arith, less, fewer)) room
        (omega (arith, higher)) going_on
        (λ k u after after_memory also fewer_still going_still count_given.
        let only = count_given.free (sym (free_same context sound facts moved.count) ∙ is) in
        let small : k < 256 = subst (λ (scalar : ScalarType). k < values_of scalar) byte count_given.small in
        shift_then moved.function n k number u r after memory after_memory sound in_type room
        (omega (arith, higher)) none
        (record { h = only.h ∙ given.h; l = only.l ∙ given.l })
        (equals_byte after.a k count_given.a small) rest going_still))
    by_free false is
        (PartThere part (PlainThere push_there (PartThere count_part (PlainThere pop_there rest)))) =
        let some = some_height second in
        let enough : 2 ≤ need = omega (arith, higher) in
        word_then from s r memory part one.is one.types less room high going
        (λ n t now ended same fewer going_on given.
        push_goes StackHl now sound push_there going_on enough room
        (λ pushed_on.
        byte_then _ t (record now { sp = wrap (top - 2) }) _ count_part two.is two.types
        (omega (arith, less, fewer))
        (more_pushed (2 * height_of second) sound.lies (omega (arith, some)) higher room)
        (omega arith) pushed_on
        (λ k u after after_memory also fewer_still going_still count_given.
        let bytes = going_on.ready.registers in
        let h_small = bytes.h in
        let l_small = bytes.l in
        let small : k < 256 = subst (λ (scalar : ScalarType). k < values_of scalar) byte count_given.small in
        pop_goes StackHl after sound pop_there enough room going_on.ready
        (omega (arith, h_small, l_small)) going_still
        (λ going_last.
        shift_then moved.function n k number u r _ memory after_memory sound in_type room enough none
        (record { h = high_of_joined now.h now.l n given.h given.l; l = low_of_joined now.h now.l n given.h given.l })
        (equals_byte after.a k count_given.a small) rest going_last))))
