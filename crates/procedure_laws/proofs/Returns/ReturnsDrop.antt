-- Bytes are dropped from the stack before a return; the result stays where it is.
use Rattle.procedure_laws.proofs.Prelude.{◌≡◌, ℕ, zero, suc, ◌+◌, ◌*◌, ◌/◌, ◌%◌, ◌<◌, ◌≤◌, nat_le, Bool, true, false, if◌then◌else◌, List, [], ◌∷◌, ◌++◌, replicate, Option, Some, None, refl, sym, ap, subst, ◌∙◌, arith, append_assoc, MEMORY_SIZE, IsMemory, byte_at, byte_small, Event, ScalarType, Byte, Address, SourceState, Outcome, Dad, Inx, Lxi, Pop, Sphl, Xchg, Hl, Sp, StackPair, StackBc, act, HoldBytes, Registers, State, word, wrap, with_popped, AgreesIn, IsPushed, pop_does, LiesWell, Does, loaded_of, at_place, Planned, plain, Here, drop_steps, kept_steps, pops_steps, ResultLies, BodyContext, high_of_two, low_of_two, wrapped_next}
use Rattle.procedure_laws.proofs.Frames.FramesSteps.{StepsLie, plain_goes}
use Rattle.procedure_laws.proofs.Returns.StaticReturns.{result_kept}
use Rattle.procedure_laws.proofs.Zeros.{same_steps}
use Rattle.procedure_laws.proofs.Numbers.{two_less_again, two_more_less, two_more_one}

-- registers with the stack pointer there, where A, DE and HL are those of others
pub record IsAt (top : ℕ) (kept now : Registers) : Type 0 where
  pub a : now.a ≡ kept.a
  pub d : now.d ≡ kept.d
  pub e : now.e ≡ kept.e
  pub h : now.h ≡ kept.h
  pub l : now.l ≡ kept.l
  pub registers : HoldBytes now
  pub pointer : now.sp ≡ wrap top

-- where code goes on with the stack pointer there
abbrev pub GoesOnAt :
    {A : Type 0} → BodyContext → (last : Here) → List Planned → (budget : ℕ) → Outcome A
    → (Good : A → SourceState → State → Type 0) → List Event → (top to : ℕ) → Registers → List ℕ → Type 0
GoesOnAt at last others budget outcome Good events top to kept memory =
    (here : Here) (place : ℕ) (now : Registers)
    → StepsLie at here last others place to
    → IsAt top kept now
    → Does (loaded_of at.context.activation) budget 0
    (at_place place now memory events) outcome Good

-- the word at an address
abbrev pub word_there : List ℕ → (address : ℕ) → ℕ
word_there memory address = byte_at memory address + 256 * byte_at memory (address + 1)

pub is_pushed : (top : ℕ) (memory : List ℕ) → IsMemory memory
    → IsPushed (top + 2) (word_there memory top) memory
is_pushed top memory is =
    let low = byte_small memory top is in
    record {
      high = ap (byte_at memory) (two_more_one top)
          ∙ high_of_two (byte_at memory top) (byte_at memory (top + 1)) low;
      low = ap (byte_at memory) (two_less_again top)
          ∙ low_of_two (byte_at memory top) (byte_at memory (top + 1)) low;
    }

pub word_small : (top : ℕ) (memory : List ℕ) → IsMemory memory → word_there memory top < MEMORY_SIZE
word_small top memory is =
    let low = byte_small memory top is in
    let high = byte_small memory (top + 1) is in
    omega (arith, low, high)

-- POP of what lies there
pub pop_is :
    (script : List (List ℕ)) (pair : StackPair) (place top : ℕ) (now : Registers) (memory : List ℕ)
    (events : List Event)
    → now.sp ≡ wrap top
    → top + 2 ≤ MEMORY_SIZE
    → IsMemory memory
    → act script (Pop pair) (at_place place now memory events)
    ≡ at_place place (record (with_popped pair (word_there memory top) now) { sp = wrap (top + 2) }) memory
    events
pop_is script pair place top now memory events pointer limit is =
    pop_does script pair place (top + 2) (word_there memory top) now memory events
    (pointer ∙ ap wrap (two_more_less top)) (omega arith)
    limit (is_pushed top memory is)

-- words of a sum in HL
pub halves : (n : ℕ) → n < MEMORY_SIZE → word (n / 256) (n % 256) ≡ n
halves n small = omega (arith, small)

sum_is : (bytes sp top : ℕ) → bytes < MEMORY_SIZE → sp ≡ wrap top → wrap (bytes + sp) ≡ wrap (top + bytes)
sum_is bytes sp top small is = omega (arith, small, is)

module _ {A : Type 0} {budget : ℕ} {outcome : Outcome A}
    {Good : A → SourceState → State → Type 0} {last : Here}
    {to : ℕ} {memory : List ℕ} {events : List Event} (at : BodyContext)
    (lies : LiesWell at.context.activation)
    (agrees : AgreesIn at.context.activation.around.program.placement.code at.context.activation.image memory)
    (is_memory : IsMemory memory) where
  -- POP B, so many times
  pub words_dropped :
      (words top from : ℕ) (kept now : Registers) (others : List Planned) {here : Here}
      → top + 2 * words ≤ MEMORY_SIZE
      → StepsLie at here last (pops_steps words ++ others) from to
      → IsAt top kept now
      → GoesOnAt at last others budget outcome Good events (top + 2 * words) to kept memory
      → Does (loaded_of at.context.activation) budget 0
      (at_place from now memory events) outcome Good
  unfolding pops_steps
  words_dropped zero top from kept now others {here = here} limit stand is rest =
      rest here from now stand
      (subst (λ (end : ℕ). IsAt end kept now) (none top) is)
    where
      none : (top : ℕ) → top ≡ top + 2 * 0
      none top = omega arith
  words_dropped (suc words) top from kept now others limit stand is rest =
      let small = word_small top memory is_memory in
      plain_goes at (Pop StackBc) (replicate words (plain (Pop StackBc)) ++ others) now lies agrees stand
      (λ more.
      subst (λ (state : State). Does (loaded_of at.context.activation) budget 0 state outcome Good)
      (sym (pop_is at.context.activation.around.program.script StackBc (from + 1) top now
      memory events is.pointer
      (omega (arith, limit)) is_memory))
      (words_dropped words (top + 2) (from + 1) kept
      (record (with_popped StackBc (word_there memory top) now) { sp = wrap (top + 2) }) others
      (omega (arith, limit)) more
      (record {
        a = is.a;
        d = is.d;
        e = is.e;
        h = is.h;
        l = is.l;
        pointer = refl;
        registers = record {
          a = is.registers.a;
          b = omega (arith, small);
          c = omega arith;
          d = is.registers.d;
          e = is.registers.e;
          h = is.registers.h;
          l = is.registers.l;
        };
      })
      (subst (λ (end : ℕ). GoesOnAt at last others budget outcome Good events end to kept memory)
      (up words top) rest)))
    where
      up : (words top : ℕ) → top + 2 * suc words ≡ top + 2 + 2 * words
      up words top = omega arith

  -- INX SP, at most so many times
  bytes_dropped :
      (bytes top from : ℕ) (kept now : Registers) (others : List Planned) {here : Here}
      → StepsLie at here last (replicate bytes (plain (Inx Sp)) ++ others) from to
      → IsAt top kept now
      → GoesOnAt at last others budget outcome Good events (top + bytes) to kept memory
      → Does (loaded_of at.context.activation) budget 0
      (at_place from now memory events) outcome Good
  bytes_dropped zero top from kept now others {here = here} stand is rest =
      rest here from now stand
      (subst (λ (end : ℕ). IsAt end kept now) (none top) is)
    where
      none : (top : ℕ) → top ≡ top + 0
      none top = omega arith
  bytes_dropped (suc bytes) top from kept now others stand is rest =
      plain_goes at (Inx Sp) (replicate bytes (plain (Inx Sp)) ++ others) now lies agrees stand
      (λ more.
      bytes_dropped bytes (top + 1) (from + 1) kept (record now { sp = wrap (now.sp + 1) }) others more
      (record {
        a = is.a;
        d = is.d;
        e = is.e;
        h = is.h;
        l = is.l;
        pointer = ap (λ (sp : ℕ). wrap (sp + 1)) is.pointer ∙ wrapped_next top;
        registers = record {
          a = is.registers.a;
          b = is.registers.b;
          c = is.registers.c;
          d = is.registers.d;
          e = is.registers.e;
          h = is.registers.h;
          l = is.registers.l;
        };
      })
      (subst (λ (end : ℕ). GoesOnAt at last others budget outcome Good events end to kept memory)
      (up bytes top) rest))
    where
      up : (bytes top : ℕ) → top + suc bytes ≡ top + 1 + bytes
      up bytes top = omega arith

  -- LXI H, DAD SP, SPHL: HL is the new stack pointer
  sum_dropped :
      (bytes top from : ℕ) (kept now : Registers) (others : List Planned) {here : Here}
      → bytes < MEMORY_SIZE
      → StepsLie at here last (plain (Lxi Hl bytes) ∷ plain (Dad Sp) ∷ plain Sphl ∷ others) from to
      → IsAt top kept now
      → GoesOnAt at last others budget outcome Good events (top + bytes) to
      (record kept { h = wrap (top + bytes) / 256; l = wrap (top + bytes) % 256 }) memory
      → Does (loaded_of at.context.activation) budget 0
      (at_place from now memory events) outcome Good
  sum_dropped bytes top from kept now others small stand is rest =
      plain_goes at (Lxi Hl bytes) (plain (Dad Sp) ∷ plain Sphl ∷ others) now lies agrees stand
      (λ more.
      plain_goes at (Dad Sp) (plain Sphl ∷ others)
      (record now { h = bytes / 256; l = bytes % 256 }) lies agrees more
      (λ others_more.
      let sum : ℕ = wrap (word (bytes / 256) (bytes % 256) + now.sp) in
      let is_sum : sum ≡ wrap (top + bytes)
      = ap (λ (n : ℕ). wrap (n + now.sp)) (halves bytes small) ∙ sum_is bytes now.sp top small is.pointer in
      plain_goes at Sphl others
      (record now {
        h = sum / 256;
        l = sum % 256;
        flags = record now.flags {
          cy = Rattle.isa8080.specs.State.carries (word (bytes / 256) (bytes % 256) + now.sp);
        };
      }) lies agrees others_more
      (λ last_more.
      rest _ (from + 3 + 1 + 1)
      (record now {
        h = sum / 256;
        l = sum % 256;
        flags = record now.flags {
          cy = Rattle.isa8080.specs.State.carries (word (bytes / 256) (bytes % 256) + now.sp);
        };
        sp = word (sum / 256) (sum % 256);
      }) last_more
      (record {
        a = is.a;
        d = is.d;
        e = is.e;
        h = ap (λ (n : ℕ). n / 256) is_sum;
        l = ap (λ (n : ℕ). n % 256) is_sum;
        pointer = halves sum (omega arith) ∙ is_sum;
        registers = record {
          a = is.registers.a;
          b = is.registers.b;
          c = is.registers.c;
          d = is.registers.d;
          e = is.registers.e;
          h = omega arith;
          l = omega arith;
        };
      }))))

  -- XCHG
  exchanged :
      (top from : ℕ) (kept now : Registers) (others : List Planned) {here : Here}
      → StepsLie at here last (plain Xchg ∷ others) from to
      → IsAt top kept now
      → GoesOnAt at last others budget outcome Good events top to
      (record kept { h = kept.d; l = kept.e; d = kept.h; e = kept.l }) memory
      → Does (loaded_of at.context.activation) budget 0
      (at_place from now memory events) outcome Good
  exchanged top from kept now others stand is rest =
      plain_goes at Xchg others now lies agrees stand
      (λ more.
      rest _ (from + 1) (record now { h = now.d; l = now.e; d = now.h; e = now.l }) more
      (record {
        a = is.a;
        d = is.h;
        e = is.l;
        h = is.d;
        l = is.e;
        pointer = is.pointer;
        registers = record {
          a = is.registers.a;
          b = is.registers.b;
          c = is.registers.c;
          d = is.registers.h;
          e = is.registers.l;
          h = is.registers.d;
          l = is.registers.e;
        };
      }))

-- the stack pointer is there, and the result is in its register
pub record IsBack
    (top : ℕ) (result : Option ScalarType) (value : ℕ) (memory : List ℕ) (now : Registers) : Type 0 where
  pub registers : HoldBytes now
  pub pointer : now.sp ≡ wrap top
  pub lies : ResultLies result value now memory

module _ {A : Type 0} {budget : ℕ} {outcome : Outcome A}
    {Good : A → SourceState → State → Type 0} {last : Here}
    {to : ℕ} {memory : List ℕ} {events : List Event} (at : BodyContext)
    (lies : LiesWell at.context.activation)
    (agrees : AgreesIn at.context.activation.around.program.placement.code at.context.activation.image memory)
    (is_memory : IsMemory memory) where
  -- the bytes of a frame are dropped
  pub frame_dropped :
      (bytes : ℕ) (result : Option ScalarType) (value top from : ℕ) (now : Registers)
      (others : List Planned) {here : Here}
      → bytes < MEMORY_SIZE
      → top + bytes ≤ MEMORY_SIZE
      → StepsLie at here last (drop_steps bytes result ++ others) from to
      → IsBack top result value memory now
      → ((here : Here) (place : ℕ) (after : Registers)
      → StepsLie at here last others place to
      → IsBack (top + bytes) result value memory after
      → Does (loaded_of at.context.activation) budget 0
      (at_place place after memory events) outcome Good)
      → Does (loaded_of at.context.activation) budget 0
      (at_place from now memory events) outcome Good
  unfolding drop_steps kept_steps
  frame_dropped bytes result value top from now others {here = here} small limit stand is rest =
      by_test (nat_le bytes 12) stand
    where
      itself : IsAt top now now
      itself = record {
        a = refl;
        d = refl;
        e = refl;
        h = refl;
        l = refl;
        registers = is.registers;
        pointer = is.pointer;
      }

      end_is : top + 2 * (bytes / 2) + bytes % 2 ≡ top + bytes
      end_is = omega arith

      by_result : (result : Option ScalarType)
          → StepsLie at here last (kept_steps result (Lxi Hl bytes ∷ Dad Sp ∷ Sphl ∷ []) ++ others) from to
          → ResultLies result value now memory
          → ((here : Here) (place : ℕ) (after : Registers)
          → StepsLie at here last others place to
          → IsBack (top + bytes) result value memory after
          → Does (loaded_of at.context.activation) budget 0
          (at_place place after memory events) outcome Good)
          → Does (loaded_of at.context.activation) budget 0
          (at_place from now memory events) outcome Good
      by_result None stand lie rest =
          sum_dropped at lies agrees is_memory bytes top from now now others small stand itself
          (λ here place after stand_after at_end.
          rest here place after stand_after
          (record { registers = at_end.registers; pointer = at_end.pointer; lies = tt }))
      by_result (Some Byte) stand lie rest =
          sum_dropped at lies agrees is_memory bytes top from now now others small stand itself
          (λ here place after stand_after at_end.
          rest here place after stand_after
          (record { registers = at_end.registers; pointer = at_end.pointer; lies = at_end.a ∙ lie }))
      by_result (Some Address) stand lie rest =
          exchanged at lies agrees is_memory top from now now
          (plain (Lxi Hl bytes) ∷ plain (Dad Sp) ∷ plain Sphl ∷ plain Xchg ∷ others) stand itself
          (λ here place after stand_after at_end.
          sum_dropped at lies agrees is_memory bytes top place
          (record now { h = now.d; l = now.e; d = now.h; e = now.l }) after (plain Xchg ∷ others)
          small stand_after at_end
          (λ here_again place_again after_again stand_again at_end_again.
          exchanged at lies agrees is_memory (top + bytes) place_again
          (record now { h = wrap (top + bytes) / 256; l = wrap (top + bytes) % 256; d = now.h; e = now.l })
          after_again others
          stand_again at_end_again
          (λ last_here last_place last_registers last_stand last_end.
          rest last_here last_place last_registers last_stand
          (record {
            registers = last_end.registers;
            pointer = last_end.pointer;
            lies = (last_end.h ∙ lie.0, last_end.l ∙ lie.1);
          }))))

      by_test : (test : Bool)
          → StepsLie at here last
          ((if test then pops_steps (bytes / 2) ++ replicate (bytes % 2) (plain (Inx Sp))
          else kept_steps result (Lxi Hl bytes ∷ Dad Sp ∷ Sphl ∷ [])) ++ others) from to
          → Does (loaded_of at.context.activation) budget 0
          (at_place from now memory events) outcome Good
      by_test true stand =
          words_dropped at lies agrees is_memory (bytes / 2) top from now now
          (replicate (bytes % 2) (plain (Inx Sp)) ++ others) (omega (arith, limit))
          (same_steps at (append_assoc (pops_steps (bytes / 2))
          (replicate (bytes % 2) (plain (Inx Sp))) others) stand)
          itself
          (λ here place after stand_after at_end.
          bytes_dropped at lies agrees is_memory (bytes % 2) (top + 2 * (bytes / 2)) place now
          after others stand_after
          at_end
          (λ last_here last_place last_registers last_stand last_end.
          rest last_here last_place last_registers last_stand
          (record {
            registers = last_end.registers;
            pointer = last_end.pointer ∙ ap wrap end_is;
            lies =
                result_kept result value now last_registers memory memory last_end.a
                last_end.h last_end.l is.lies;
          })))
      by_test false stand = by_result result stand is.lies rest
