-- An operation on the low bytes of two values, for each form.
use Rattle.task_laws.proofs.Prelude.{◌≡◌, ℕ, ◌+◌, ◌*◌, ◌%◌, ◌<◌, ◌≤◌, true, List, [], ◌∷◌, Some, refl, sym, ap, ◌∙◌, subst, arith, cond_some, option_and_then_some, or_of_8, xor_of_8, and_le_l, byte_at, height_of, type_of, TypedExpression, TypesHold, SourceState, Outcome, Gave, values_of, Pop, Push, Operation, Add, AddWithCarry, Subtract, SubtractWithBorrow, And, ExclusiveOr, Or, Compare, A, B, E, Psw, StackBc, Flags, operate, flag_byte, Registers, State, with_popped, word, wrap, ExpressionNumber, Reference, IsExpression, Facts, Plain, copy, with_memory, with_register, part, Does, at_place, is_free, keeps_of_address, memory, fits_byte, operand_in_memory, exchanged, in_order, knowing, Context, IsSound, nodes_in, StepsStand, PartThere, PlainThere, PartDoes, flag_byte_small, high_of_pair}
use Rattle.steps8080.specs.declared.step.Task.TheVariants.{Address, Byte}
use Rattle.task_laws.proofs.Bytes.BytesAsked.{BytesAsked, ByteIsAtHl}
use Rattle.task_laws.proofs.Machine.SiteNodes.{value_in}
use Rattle.task_laws.proofs.Machine.Stages.{Stage, stage_with_a, at_byte, at_carried, at_end, at_pop, at_push, at_registers, pushed_is_small, loaded_in}
use Rattle.task_laws.proofs.Heights.{some_height}

-- an operation of bytes gives a byte
pub operate_small :
    (operation : Operation) (x y : ℕ) (f : Flags) → x < 256 → y < 256 → (operate operation x y f).value < 256
operate_small Add x y f one two = omega arith
operate_small AddWithCarry x y f one two = omega arith
operate_small Subtract x y f one two = omega arith
operate_small SubtractWithBorrow x y f one two = omega arith
operate_small And x y f one two = let less = and_le_l x y in omega (arith, less, one)
operate_small ExclusiveOr x y f one two = xor_of_8 x y one two
operate_small Or x y f one two = or_of_8 x y one two
operate_small Compare x y f one two = one

-- A and the flags are those of an operation of the low bytes of two values
pub record IsOperated (operation : Operation) (v w : ℕ) (now : Registers) : Type 0 where
  pub before : Flags
  pub a : now.a ≡ (operate operation (v % 256) (w % 256) before).value
  pub flags : now.flags ≡ (operate operation (v % 256) (w % 256) before).flags

operated_so :
    (operation : Operation) (v w x y : ℕ) (now : Registers) (f : Flags)
    → x ≡ v % 256
    → y ≡ w % 256
    → now.a ≡ (operate operation x y f).value
    → now.flags ≡ (operate operation x y f).flags
    → IsOperated operation v w now
operated_so operation v w x y now f one two a flags = record {
  before = f;
  a = a ∙ (ap (λ n. (operate operation n y f).value) one
      ∙ ap (λ n. (operate operation (v % 256) n f).value) two);
  flags = flags
      ∙ (ap (λ n. (operate operation n y f).flags) one
      ∙ ap (λ n. (operate operation (v % 256) n f).flags) two);
}

-- an operand in memory; the code for its address keeps A
pub record IsOperandAt (context : Context) (facts : Facts) (number : ExpressionNumber)
    (reference : Reference) : Type 0 where
  pub is_there : memory (knowing context.site facts) number ≡ Some reference
  pub keeps : (keeps_of_address context.site reference).a ≡ true

pub operand_at :
    {context : Context} (facts : Facts) (number : ExpressionNumber) (reference : Reference)
    → operand_in_memory (knowing context.site facts) number ≡ Some reference
    → IsOperandAt context facts number reference
unfolding operand_in_memory keeps_of_address
operand_at {context = context} facts number reference is =
    option_and_then_some _ (memory (knowing context.site facts) number) reference is
    (λ found there same.
    let parts = cond_some (keeps_of_address (knowing context.site facts) found).a found reference same in
    record {
      is_there = there ∙ ap Some parts.1;
      keeps = ap (λ one. (keeps_of_address (knowing context.site facts) one).a) (sym parts.1) ∙ parts.0;
    })

-- a value of its type, and of a byte where its form shows that
pub record IsValueOf (context : Context) (tree : TypedExpression) (number : ExpressionNumber)
    (v : ℕ) : Type 0 where
  pub small : v < values_of (type_of tree)
  pub fits : (known_there : Facts) → fits_byte (knowing context.site known_there) number ≡ true → v < 256

pub value_of :
    {context : Context} {top pushed need bound : ℕ} {base : List ℕ} {t u : SourceState} {facts : Facts}
    {r : Registers} {memory_then : List ℕ} {tree : TypedExpression} {number : ExpressionNumber} (v : ℕ)
    → BytesAsked context
    → IsExpression (nodes_in context) context.storage bound number.index tree
    → TypesHold context.typed context.within tree
    → Stage context top pushed need base t facts r memory_then
    → value_in context tree t ≡ Gave v u
    → IsValueOf context tree number v
value_of {context = context} {top = top} {bound = bound} {base = base} {t = t} {u = u} {r = r}
    {memory_then = memory_then} {tree = tree} {number = number} v asked node types stage is = record {
      small = asked.values_fit number bound top v tree base t u r memory_then node types stage.ready is;
      fits = λ known_there fit.
          asked.fits known_there number bound top v tree base t u r memory_then node types stage.ready fit is;
    }

-- the rest of the code after an operation on the low bytes of two values
abbrev pub GoesOnOperated :
    {C : Type 0} → Context → (first second : TypedExpression) → (number other : ExpressionNumber) → Operation
    → (top pushed need : ℕ) → (base : List ℕ)
    → Facts → (place more : ℕ) → (go : ℕ → ℕ → SourceState → Outcome C)
    → (Good : C → SourceState → State → Type 0) → Type 0
GoesOnOperated context first second number other operation top pushed need base last place more go Good =
    (v w : ℕ) (u : SourceState) (now : Registers) (memory : List ℕ)
    → IsValueOf context first number v
    → IsValueOf context second other w
    → IsOperated operation v w now
    → Stage context top pushed need base u last now memory
    → Does (loaded_in context) u.budget more (at_place place now memory u.events) (go v w u) Good

-- the first in A, the second in memory
pub operated_with_memory :
    {C : Type 0} {context : Context} {top pushed need : ℕ} {base : List ℕ} {t : SourceState}
    {facts last : Facts}
    {r : Registers} {memory_then : List ℕ} {from to more bound other_bound : ℕ}
    {number other : ExpressionNumber}
    {first second : TypedExpression} {reference : Reference} {operation : Operation}
    {Good : C → SourceState → State → Type 0} (known_there : Facts) (go : ℕ → ℕ → SourceState → Outcome C)
    → BytesAsked context
    → IsSound context
    → IsExpression (nodes_in context) context.storage bound number.index first
    → TypesHold context.typed context.within first
    → IsExpression (nodes_in context) context.storage other_bound other.index second
    → TypesHold context.typed context.within second
    → IsOperandAt context known_there other reference
    → StepsStand context (PartDoes context) facts from
    (part (Byte number) pushed ∷ part (Address reference) pushed ∷ Plain (with_memory operation) ∷ []) last to
    → 2 * height_of first ≤ need
    → 2 * height_of second ≤ need
    → Stage context top pushed need base t facts r memory_then
    → GoesOnOperated context first second number other operation top pushed need base last to more go Good
    → Does (loaded_in context) t.budget more (at_place from r memory_then t.events)
    (in_order (value_in context first) (value_in context second) go t) Good
operated_with_memory {context = context} {other = other} {second = second} {reference = reference}
    {operation = operation} known_there go asked sound one types two other_types operand
    (PartThere does (PartThere addresses (PlainThere there ends))) fewer less stage rest =
    at_byte _ _ _ does one types fewer stage
    (λ v u now memory_now is given next.
    at_carried _ _ _
    (asked.locates known_there _ _ other reference _ _ _ _ second operand.is_there addresses two other_types)
    less tt
    (λ w late memory_late (lies : ByteIsAtHl context _ reference (type_of second) now memory_now w late memory_late). lies.known)
    next
    (λ w s late memory_late other_is lies stage_late.
    let a = lies.a operand.keeps ∙ given.a in
    let small = operate_small operation late.a (byte_at memory_late (word late.h late.l)) late.flags
    stage_late.ready.registers.a
    (subst (λ n. n < 256) (sym lies.is_there) (omega arith)) in
    stage_with_a (operate operation late.a (byte_at memory_late (word late.h late.l)) late.flags).value
    (operate operation late.a (byte_at memory_late (word late.h late.l)) late.flags).flags
    sound stage_late there refl small tt
    (λ last_stage. at_end ends last_stage
    (λ final.
    rest v w s _ memory_late (value_of v asked one types stage is)
    (value_of w asked two other_types next other_is)
    (operated_so operation v w late.a (byte_at memory_late (word late.h late.l)) _ late.flags a
    lies.is_there refl refl)
    final))))

-- the second in E, and then the first in A
pub operated_with_e :
    {C : Type 0} {context : Context} {top pushed need : ℕ} {base : List ℕ} {t : SourceState}
    {facts last : Facts}
    {r : Registers} {memory_then : List ℕ} {from to more bound other_bound : ℕ}
    {number other : ExpressionNumber}
    {first second : TypedExpression} {operation : Operation}
    {Good : C → SourceState → State → Type 0} (go : ℕ → ℕ → SourceState → Outcome C)
    → BytesAsked context
    → IsSound context
    → IsExpression (nodes_in context) context.storage bound number.index first
    → TypesHold context.typed context.within first
    → IsExpression (nodes_in context) context.storage other_bound other.index second
    → TypesHold context.typed context.within second
    → is_free context.site number ≡ true
    → StepsStand context (PartDoes context) facts from
    (part (Byte other) pushed ∷ Plain (copy E A) ∷ part (Byte number) pushed
    ∷ Plain (with_register operation E) ∷ [])
    last to
    → 2 * height_of first ≤ need
    → 2 * height_of second ≤ need
    → Stage context top pushed need base t facts r memory_then
    → GoesOnOperated context first second number other operation top pushed need base last to more go Good
    → Does (loaded_in context) t.budget more (at_place from r memory_then t.events)
    (exchanged (value_in context first) (value_in context second) go t) Good
operated_with_e {context = context} {operation = operation} go asked sound one types two other_types free
    (PartThere does (PlainThere copied (PartThere other_does (PlainThere there ends))))
    fewer less stage rest =
    at_byte _ _ _ does two other_types less stage
    (λ w u now memory_now is given next.
    let held = next.ready.registers in
    at_registers (record now { e = now.a }) sound next copied refl refl
    (record { a = held.a; b = held.b; c = held.c; d = held.d; e = held.a; h = held.h; l = held.l }) tt
    (λ in_e.
    at_byte _ _ _ other_does one types fewer in_e
    (λ v s late memory_late other_is other_given stage_late.
    let e = (other_given.free free).e ∙ given.a in
    let small =
    operate_small operation late.a late.e late.flags stage_late.ready.registers.a
    stage_late.ready.registers.e in
    stage_with_a (operate operation late.a late.e late.flags).value
    (operate operation late.a late.e late.flags).flags
    sound stage_late there refl small tt
    (λ last_stage. at_end ends last_stage
    (λ final.
    rest v w s _ memory_late (value_of v asked one types in_e other_is)
    (value_of w asked two other_types stage is)
    (operated_so operation v w late.a late.e _ late.flags other_given.a e refl refl)
    final)))))

-- the first on the stack, the second in A, which the first is taken to
pub operated_with_first_in_b :
    {C : Type 0} {context : Context} {top pushed need : ℕ} {base : List ℕ} {t : SourceState}
    {facts last : Facts}
    {r : Registers} {memory_then : List ℕ} {from to more bound other_bound : ℕ}
    {number other : ExpressionNumber}
    {first second : TypedExpression} {operation : Operation}
    {Good : C → SourceState → State → Type 0} (go : ℕ → ℕ → SourceState → Outcome C)
    → BytesAsked context
    → IsSound context
    → IsExpression (nodes_in context) context.storage bound number.index first
    → TypesHold context.typed context.within first
    → IsExpression (nodes_in context) context.storage other_bound other.index second
    → TypesHold context.typed context.within second
    → StepsStand context (PartDoes context) facts from
    (part (Byte number) pushed ∷ Plain (Push Psw) ∷ part (Byte other) ((pushed + 2) % 65536)
    ∷ Plain (Pop StackBc)
    ∷ Plain (with_register operation B) ∷ []) last to
    → 2 * height_of first ≤ need
    → 2 + 2 * height_of second ≤ need
    → Stage context top pushed need base t facts r memory_then
    → GoesOnOperated context second first other number operation top pushed need base last to more
    (λ w v u. go v w u) Good
    → Does (loaded_in context) t.budget more (at_place from r memory_then t.events)
    (in_order (value_in context first) (value_in context second) go t) Good
operated_with_first_in_b {context = context} {top = top} {need = need} {second = second}
    {operation = operation} go asked sound one types two other_types
    (PartThere does (PlainThere pushes (PartThere other_does (PlainThere pops (PlainThere there ends)))))
    fewer less stage rest =
    let some = some_height second in
    let enough : 3 ≤ need = omega (arith, some, less) in
    at_byte _ _ _ does one types fewer stage
    (λ v u now memory_now is given next.
    let held = next.ready.registers in
    let flags_small = flag_byte_small now.flags in
    at_push (word now.a (flag_byte now.flags)) refl sound enough next pushes
    (λ pushed_stage.
    at_byte _ _ _ other_does two other_types (omega (arith, less)) pushed_stage
    (λ w s late memory_late other_is other_given stage_late.
    at_pop sound enough (pushed_is_small Psw now held) next stage_late pops
    (λ popped.
    let back : Registers =
    record (with_popped StackBc (word now.a (flag_byte now.flags)) late) { sp = wrap top } in
    let b : back.b ≡ v % 256 = high_of_pair now.a (flag_byte now.flags) flags_small ∙ given.a in
    let small =
    operate_small operation back.a back.b back.flags popped.ready.registers.a popped.ready.registers.b in
    stage_with_a (operate operation back.a back.b back.flags).value
    (operate operation back.a back.b back.flags).flags
    sound popped there refl small tt
    (λ last_stage. at_end ends last_stage
    (λ final.
    rest w v s _ memory_late (value_of w asked two other_types pushed_stage other_is)
    (value_of v asked one types stage is)
    (operated_so operation w v back.a back.b _ back.flags other_given.a b refl refl)
    final))))))

-- the first on the stack and in A again, the second in B
pub operated_with_second_in_b :
    {C : Type 0} {context : Context} {top pushed need : ℕ} {base : List ℕ} {t : SourceState}
    {facts last : Facts}
    {r : Registers} {memory_then : List ℕ} {from to more bound other_bound : ℕ}
    {number other : ExpressionNumber}
    {first second : TypedExpression} {operation : Operation}
    {Good : C → SourceState → State → Type 0} (go : ℕ → ℕ → SourceState → Outcome C)
    → BytesAsked context
    → IsSound context
    → IsExpression (nodes_in context) context.storage bound number.index first
    → TypesHold context.typed context.within first
    → IsExpression (nodes_in context) context.storage other_bound other.index second
    → TypesHold context.typed context.within second
    → StepsStand context (PartDoes context) facts from
    (part (Byte number) pushed ∷ Plain (Push Psw)
    ∷ part (Byte other) ((pushed + 2) % 65536) ∷ Plain (copy B A)
    ∷ Plain (Pop Psw) ∷ Plain (with_register operation B) ∷ []) last to
    → 2 * height_of first ≤ need
    → 2 + 2 * height_of second ≤ need
    → Stage context top pushed need base t facts r memory_then
    → GoesOnOperated context first second number other operation top pushed need base last to more go Good
    → Does (loaded_in context) t.budget more (at_place from r memory_then t.events)
    (in_order (value_in context first) (value_in context second) go t) Good
operated_with_second_in_b {context = context} {top = top} {need = need} {second = second}
    {operation = operation} go asked sound one types two other_types
    (PartThere does (PlainThere pushes (PartThere other_does
    (PlainThere copied (PlainThere pops (PlainThere there ends)))))) fewer less stage rest =
    let some = some_height second in
    let enough : 3 ≤ need = omega (arith, some, less) in
    at_byte _ _ _ does one types fewer stage
    (λ v u now memory_now is given next.
    let held = next.ready.registers in
    let flags_small = flag_byte_small now.flags in
    at_push (word now.a (flag_byte now.flags)) refl sound enough next pushes
    (λ pushed_stage.
    at_byte _ _ _ other_does two other_types (omega (arith, less)) pushed_stage
    (λ w s late memory_late other_is other_given stage_late.
    let bytes = stage_late.ready.registers in
    at_registers (record late { b = late.a }) sound stage_late copied refl refl
    (record { a = bytes.a; b = bytes.a; c = bytes.c; d = bytes.d; e = bytes.e; h = bytes.h; l = bytes.l }) tt
    (λ in_b.
    at_pop sound enough (pushed_is_small Psw now held) next in_b pops
    (λ popped.
    let back : Registers =
    record (with_popped Psw (word now.a (flag_byte now.flags))
    (record late { b = late.a })) { sp = wrap top } in
    let a : back.a ≡ v % 256 = high_of_pair now.a (flag_byte now.flags) flags_small ∙ given.a in
    let small =
    operate_small operation back.a back.b back.flags popped.ready.registers.a popped.ready.registers.b in
    stage_with_a (operate operation back.a back.b back.flags).value
    (operate operation back.a back.b back.flags).flags
    sound popped there refl small tt
    (λ last_stage. at_end ends last_stage
    (λ final.
    rest v w s _ memory_late (value_of v asked one types stage is)
    (value_of w asked two other_types pushed_stage other_is)
    (operated_so operation v w back.a back.b _ back.flags a other_given.a refl refl)
    final)))))))
