-- Shifts and rotations of a BYTE by a count that is not known: by routines.
use Rattle.task_laws.proofs.Prelude.{◌≡◌, ℕ, ◌+◌, ◌*◌, ◌%◌, ◌<◌, ◌≤◌, ◌&&◌, ◌||◌, Bool, true, false, List, [], ◌∷◌, ◌++◌, Option, Some, None, is_some, refl, sym, ap, ◌∙◌, subst, arith, if◌then◌else◌, and_parts, false≢true, byte_at, ScalarType, ShiftFunction, RotateLeft, RotateRight, ShiftLeft, ShiftRight, height_of, type_of, TypedExpression, ShiftNode, ShiftsIn, SourceState, Gave, shifted, values_of, Pop, Push, A, E, Psw, flag_byte, Registers, with_popped, word, wrap, ExpressionNumber, Place, Reference, Arrives, Does, at_place, Facts, CallRoutine, Plain, copy, load, part, is_free, known, may_exchange, operand_in_memory, byte_routine, count_in_memory_steps, operands_steps, knowing, Context, IsSound, StepsStand, PartThere, PlainThere, ByteIsGiven, PartDoes, low_of_byte, flag_byte_small, high_of_pair}
use Rattle.trees.specs.declared.declaration.ScalarType.TheVariants as scalars
use Rattle.runtime8080.specs.declared.routine.Routine.TheVariants as routines
use Rattle.steps8080.specs.declared.step.Task.TheVariants as tasks
use Rattle.task_laws.proofs.Bytes.ByteCode.{ByteCarried}
use Rattle.task_laws.proofs.Bytes.ByteForms.{byte_given}
use Rattle.task_laws.proofs.Bytes.ByteKnown.{known_byte_free}
use Rattle.task_laws.proofs.Bytes.ByteOperations.{IsOperandAt, operand_at}
use Rattle.task_laws.proofs.Bytes.BytesAsked.{BytesAsked, ByteIsAtHl}
use Rattle.task_laws.proofs.Machine.KnownOperands.{shift_fits}
use Rattle.task_laws.proofs.Words.Pairs.{IsOperand}
use Rattle.task_laws.proofs.Machine.RoutineCalls.{routine_then}
use Rattle.task_laws.proofs.Machine.SiteNodes.{does_exchanged, free_is}
use Rattle.task_laws.proofs.Machine.Stages.{Stage, at_byte, at_carried, at_end, at_pop, at_push, at_registers, pushed_is_small, loaded_in}
use Rattle.task_laws.proofs.Numbers.{equals_byte}
use Rattle.task_laws.proofs.Heights.{some_height}

-- after the routine
routine_done :
    {context : Context} {top pushed need : ℕ} {base : List ℕ} {u : SourceState} {found last : Facts}
    {began now : Registers} {memory_began ended : List ℕ} {middle to : ℕ} (function : ShiftFunction) (v k : ℕ)
    (number : ExpressionNumber) (r : Registers)
    → ShiftsIn function scalars.Byte
    → is_free context.site number ≡ false
    → v < 256
    → r.a ≡ v
    → r.e ≡ k
    → now.a ≡ shifted scalars.Byte function r.a r.e
    → StepsStand context (PartDoes context) found middle [] last to
    → Stage context top pushed need base u found now ended
    → Does (loaded_in context) u.budget 0 (at_place middle now ended u.events)
    (Gave (shifted scalars.Byte function v k) u)
    (Arrives context.activation top base to (ByteIsGiven context last number scalars.Byte began memory_began))
routine_done {to = to} function v k number r in_type not_free small a e computes rest next =
    let fits : shifted scalars.Byte function v k < 256 = shift_fits scalars.Byte function v k in_type small in
    at_end rest next
    (λ final.
    byte_given to number (shifted scalars.Byte function v k)
    (computes ∙ ap (λ n. shifted scalars.Byte function n r.e) a
    ∙ ap (λ n. shifted scalars.Byte function v n) e
    ∙ sym (low_of_byte (shifted scalars.Byte function v k) fits)) fits
    (λ free. absurd (false≢true (sym not_free ∙ free))) final)

-- the call of the routine, with the byte in A and the count in E
routine_ends :
    {context : Context} {top pushed need from to : ℕ} {base : List ℕ} {u : SourceState} {facts last : Facts}
    {r began : Registers} {memory memory_began : List ℕ} (function : ShiftFunction) (v k : ℕ)
    (number : ExpressionNumber)
    → IsSound context
    → ShiftsIn function scalars.Byte
    → is_free context.site number ≡ false
    → 2 ≤ need
    → v < 256
    → r.a ≡ v
    → r.e ≡ k
    → StepsStand context (PartDoes context) facts from (CallRoutine (byte_routine function) ∷ []) last to
    → Stage context top pushed need base u facts r memory
    → Does (loaded_in context) u.budget 0 (at_place from r memory u.events)
    (Gave (shifted scalars.Byte function v k) u)
    (Arrives context.activation top base to (ByteIsGiven context last number scalars.Byte began memory_began))
unfolding byte_routine
routine_ends {r = r} ShiftLeft v k number sound in_type not_free two small a e stand stage =
    routine_then routines.ShiftLeftByte [] r sound tt stage.room two stand
    (record { ready = stage.ready; known = stage.known })
    (λ now ended rest going computes leaves.
    routine_done ShiftLeft v k number r in_type not_free small a e computes rest
    (record { below = stage.below; room = stage.room; ready = going.ready; known = going.known }))
routine_ends {r = r} ShiftRight v k number sound in_type not_free two small a e stand stage =
    routine_then routines.ShiftRightByte [] r sound tt stage.room two stand
    (record { ready = stage.ready; known = stage.known })
    (λ now ended rest going computes leaves.
    routine_done ShiftRight v k number r in_type not_free small a e computes rest
    (record { below = stage.below; room = stage.room; ready = going.ready; known = going.known }))
routine_ends {r = r} RotateLeft v k number sound in_type not_free two small a e stand stage =
    routine_then routines.RotateLeft [] r sound tt stage.room two stand
    (record { ready = stage.ready; known = stage.known })
    (λ now ended rest going computes leaves.
    routine_done RotateLeft v k number r in_type not_free small a e computes rest
    (record { below = stage.below; room = stage.room; ready = going.ready; known = going.known }))
routine_ends {r = r} RotateRight v k number sound in_type not_free two small a e stand stage =
    routine_then routines.RotateRight [] r sound tt stage.room two stand
    (record { ready = stage.ready; known = stage.known })
    (λ now ended rest going computes leaves.
    routine_done RotateRight v k number r in_type not_free small a e computes rest
    (record { below = stage.below; room = stage.room; ready = going.ready; known = going.known }))

as_byte : (scalar : ScalarType) (v : ℕ) → scalar ≡ scalars.Byte → v < values_of scalar → v < 256
as_byte scalar v same small = subst (λ (of : ScalarType). v < values_of of) same small

module _
    {context : Context} {facts last : Facts} {from to pushed : ℕ} {value count : ExpressionNumber}
    {first second : TypedExpression} (function : ShiftFunction) (number : ExpressionNumber)
    (asked : BytesAsked context) (sound : IsSound context)
    (one : IsOperand context value first) (is_byte : type_of first ≡ scalars.Byte)
    (two : IsOperand context count second) (count_is_byte : type_of second ≡ scalars.Byte)
    (in_type : ShiftsIn function scalars.Byte) (not_free : is_free context.site number ≡ false) where
  -- with the count in memory
  count_in_memory :
      (reference : Reference)
      → operand_in_memory (knowing context.site facts) count ≡ Some reference
      → StepsStand context (PartDoes context) facts from
      (part (tasks.Byte value) pushed ∷ part (tasks.Address reference) pushed ∷ Plain (load E)
      ∷ CallRoutine (byte_routine function) ∷ []) last to
      → ByteCarried context facts number (ShiftNode scalars.Byte function first second) pushed from last to
  count_in_memory reference here (PartThere does (PartThere addresses (PlainThere there rest))) top base s r
      memory below room ready known_before nothing =
      let operand : IsOperandAt context facts count reference = operand_at facts count reference here in
      at_byte _ _ _ does one.is one.types (omega arith)
      (record { below = below; room = room; ready = ready; known = known_before })
      (λ v u now memory_now is given next.
      at_carried {top = top} {need = 2 * height_of (ShiftNode scalars.Byte function first second)}
      {base = base} _ _ _
      (asked.locates facts _ _ count reference _ _ _ _ second operand.is_there addresses two.is two.types)
      (omega arith) tt
      (λ k late memory_late (lies : ByteIsAtHl context _ reference (type_of second) now memory_now k late memory_late). lies.known)
      next
      (λ k t late memory_late other_is lies stage_late.
      let bytes = stage_late.ready.registers in
      let count_small : k < 256 = as_byte (type_of second) k count_is_byte lies.small in
      let small : v < 256 = as_byte (type_of first) v is_byte given.small in
      let loaded : byte_at memory_late (word late.h late.l) ≡ k = equals_byte _ k lies.is_there count_small in
      at_registers (record late { e = byte_at memory_late (word late.h late.l) }) sound
      stage_late there refl refl
      (record {
        a = bytes.a;
        b = bytes.b;
        c = bytes.c;
        d = bytes.d;
        e = subst (λ (n : ℕ). n < 256) (sym loaded) count_small;
        h = bytes.h;
        l = bytes.l;
      }) tt
      (λ in_e.
      routine_ends function v k number sound in_type not_free (omega arith) small
      (lies.a operand.keeps ∙ equals_byte now.a v given.a small) loaded rest in_e)))

  -- with the count first
  count_first :
      is_free context.site value ≡ true
      → may_exchange (knowing context.site facts) value count ≡ true
      → StepsStand context (PartDoes context) facts from
      (part (tasks.Byte count) pushed ∷ Plain (copy E A) ∷ part (tasks.Byte value) pushed
      ∷ CallRoutine (byte_routine function) ∷ []) last to
      → ByteCarried context facts number (ShiftNode scalars.Byte function first second) pushed from last to
  count_first free may (PartThere does (PlainThere copied (PartThere other_does rest))) top base s r memory
      below room ready known_before nothing =
      does_exchanged facts (λ v k u. Gave (shifted scalars.Byte function v k) u) s sound one.is
      two.is one.types may
      (at_byte _ _ _ does two.is two.types (omega arith)
      (record { below = below; room = room; ready = ready; known = known_before })
      (λ k u now memory_now is given next.
      let held = next.ready.registers in
      let count_small : k < 256 = as_byte (type_of second) k count_is_byte given.small in
      at_registers (record now { e = now.a }) sound next copied refl refl
      (record { a = held.a; b = held.b; c = held.c; d = held.d; e = held.a; h = held.h; l = held.l }) tt
      (λ in_e.
      at_byte _ _ _ other_does one.is one.types (omega arith) in_e
      (λ v t late memory_late other_is other_given stage_late.
      let small : v < 256 = as_byte (type_of first) v is_byte other_given.small in
      routine_ends function v k number sound in_type not_free (omega arith) small
      (equals_byte late.a v other_given.a small)
      ((other_given.free free).e ∙ equals_byte now.a k given.a count_small) rest stage_late))))

  -- with the byte on the stack
  count_pushed :
      StepsStand context (PartDoes context) facts from
      (part (tasks.Byte value) pushed ∷ Plain (Push Psw) ∷ part (tasks.Byte count) ((pushed + 2) % 65536)
      ∷ Plain (copy E A) ∷ Plain (Pop Psw) ∷ CallRoutine (byte_routine function) ∷ []) last to
      → ByteCarried context facts number (ShiftNode scalars.Byte function first second) pushed from last to
  count_pushed
      (PartThere does (PlainThere pushes (PartThere other_does (PlainThere copied (PlainThere pops rest)))))
      top base s r memory below room ready known_before nothing =
      let some = some_height second in
      at_byte _ _ _ does one.is one.types (omega arith)
      (record { below = below; room = room; ready = ready; known = known_before })
      (λ v u now memory_now is given next.
      let held = next.ready.registers in
      let flags_small = flag_byte_small now.flags in
      let small : v < 256 = as_byte (type_of first) v is_byte given.small in
      at_push (word now.a (flag_byte now.flags)) refl sound (omega (arith, some)) next pushes
      (λ pushed_stage.
      at_byte _ _ _ other_does two.is two.types (omega (arith, some)) pushed_stage
      (λ k t late memory_late other_is other_given stage_late.
      let bytes = stage_late.ready.registers in
      let count_small : k < 256 = as_byte (type_of second) k count_is_byte other_given.small in
      at_registers (record late { e = late.a }) sound stage_late copied refl refl
      (record { a = bytes.a; b = bytes.b; c = bytes.c; d = bytes.d; e = bytes.a; h = bytes.h; l = bytes.l })
      tt
      (λ in_e.
      at_pop sound (omega (arith, some)) (pushed_is_small Psw now held) next in_e pops
      (λ popped.
      let back : Registers =
      record (with_popped Psw (word now.a (flag_byte now.flags))
      (record late { e = late.a })) { sp = wrap top } in
      routine_ends function v k number sound in_type not_free (omega arith) small
      (high_of_pair now.a (flag_byte now.flags) flags_small ∙ equals_byte now.a v given.a small)
      (equals_byte late.a k other_given.a count_small) rest popped)))))

  -- in any way
  pub shift_by_count :
      StepsStand context (PartDoes context) facts from
      (operands_steps (knowing context.site facts) value count pushed ++
      (CallRoutine (byte_routine function) ∷ [])) last to
      → ByteCarried context facts number (ShiftNode scalars.Byte function first second) pushed from last to
  unfolding operands_steps count_in_memory_steps
  shift_by_count stand = by_memory (operand_in_memory (knowing context.site facts) count) refl stand
    where
      free_value : (found : Option Place) → known (knowing context.site facts) value ≡ found
          → (is_some found || is_free (knowing context.site facts) value) ≡ true
          → is_free context.site value ≡ true
      free_value (Some place) here is = known_byte_free facts place sound one.is one.types is_byte here
      free_value None here is =
          free_is context.site value ∙ sym (free_is (knowing context.site facts) value) ∙ is

      by_exchange : (may : Bool)
          → ((is_some (known (knowing context.site facts) value) || is_free
          (knowing context.site facts) value)
          && may_exchange (knowing context.site facts) value count) ≡ may
          → StepsStand context (PartDoes context) facts from
          ((if may then part (tasks.Byte count) pushed ∷ Plain (copy E A) ∷ part
          (tasks.Byte value) pushed ∷ []
          else part (tasks.Byte value) pushed ∷ Plain (Push Psw)
          ∷ part (tasks.Byte count) ((pushed + 2) % 65536)
          ∷ Plain (copy E A) ∷ Plain (Pop Psw) ∷ []) ++ (CallRoutine (byte_routine function) ∷ [])) last to
          → ByteCarried context facts number
          (ShiftNode scalars.Byte function first second) pushed from last to
      by_exchange true is given =
          let parts =
          and_parts
          (is_some (known (knowing context.site facts) value)
          || is_free (knowing context.site facts) value)
          (may_exchange (knowing context.site facts) value count) is in
          count_first (free_value (known (knowing context.site facts) value) refl parts.0) parts.1 given
      by_exchange false is given = count_pushed given

      by_memory : (found : Option Reference) → operand_in_memory (knowing context.site facts) count ≡ found
          → StepsStand context (PartDoes context) facts from
          ((elim found [
            | Some reference ↦ part (tasks.Byte value) pushed ∷ part (tasks.Address reference) pushed
                ∷ Plain (load E) ∷ []
            | None ↦
                if (is_some (known (knowing context.site facts) value)
                || is_free (knowing context.site facts) value)
                && may_exchange (knowing context.site facts) value count
                then part (tasks.Byte count) pushed ∷ Plain (copy E A) ∷ part (tasks.Byte value) pushed ∷ []
                else part (tasks.Byte value) pushed ∷ Plain (Push Psw)
                ∷ part (tasks.Byte count) ((pushed + 2) % 65536)
                ∷ Plain (copy E A) ∷ Plain (Pop Psw) ∷ []
          ]) ++ (CallRoutine (byte_routine function) ∷ [])) last to
          → ByteCarried context facts number
          (ShiftNode scalars.Byte function first second) pushed from last to
      by_memory (Some reference) here given = count_in_memory reference here given
      by_memory None here given =
          by_exchange
          ((is_some (known (knowing context.site facts) value) || is_free (knowing context.site facts) value)
          && may_exchange (knowing context.site facts) value count) refl given
