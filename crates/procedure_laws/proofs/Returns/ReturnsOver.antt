-- A return over the words of arguments above the return address, and then all returns of REENTRANT
-- procedures.
use Rattle.procedure_laws.proofs.Prelude.{◌≡◌, ◌≢◌, ℕ, zero, suc, ◌+◌, ◌-◌, ◌*◌, ◌/◌, ◌%◌, ◌<◌, ◌≤◌, nat_eq, min, inr, Bool, true, false, if◌then◌else◌, List, [], ◌∷◌, ◌++◌, length, slice_get, Option, Some, None, refl, sym, ap, subst, ◌∙◌, arith, eqb-true, length-set, MEMORY_SIZE, byte_at, ScalarType, Byte, Address, Gave, SourceState, Pchl, Pop, Push, Ret, StackDe, StackHl, HoldBytes, Registers, State, high_byte, low_byte, word, wrap, with_popped, running, pushed, pushed_is_memory, pushed_is_pushed, pushed_keeps, push_does, LiesWell, MayChange, Shares, Does, loaded_of, at_place, does_without_step, keeps_all, keeps_pushed, plain, Here, pops_steps, return_over_any_steps, return_over_steps, ResultLies, BodyContext, IsOfCall, ReturnLies, HasReturned, add-zero}
use Rattle.procedure_laws.proofs.Frames.FramesSteps.{StepsLie, plain_goes}
use Rattle.procedure_laws.proofs.Returns.ReturnsDrop.{IsBack, pop_is, word_small, word_there, words_dropped}
use Rattle.procedure_laws.proofs.Returns.StaticReturns.{result_kept, return_does}

word_back : (back low high : ℕ) → low ≡ wrap back % 256 → high ≡ wrap back / 256
    → low + 256 * high ≡ wrap back
word_back back low high one other = omega (arith, one, other)

-- the word of a return address
return_word : (top back : ℕ) (memory : List ℕ) → ReturnLies top back memory
    → word_there memory top ≡ wrap back
return_word top back memory is = word_back back (byte_at memory top) (byte_at memory (top + 1)) is.low is.high

pair_is : (high low n back : ℕ) → high ≡ n / 256 → low ≡ n % 256 → n ≡ wrap back → word high low ≡ wrap back
pair_is high low n back one other same = omega (arith, one, other, same)

module _ (at : BodyContext) (result : Option ScalarType) (value above back : ℕ)
    (t : SourceState) (memory : List ℕ)
    (lies : LiesWell at.context.activation)
    (shares : Shares at.context.activation.around.program at.context.activation.image t.memory memory)
    (low : at.context.activation.floor + 2 ≤ above)
    (high : above ≤ at.context.activation.around.program.placement.stack.start
    + at.context.activation.around.program.placement.stack.len) where
  above_in_memory : above ≤ MEMORY_SIZE
  above_in_memory =
      let whole = lies.placed.stack_in_memory in
      omega (arith, high, whole)

  -- nothing was written
  returned_so :
      (now : Registers)
      → HoldBytes now
      → now.sp ≡ wrap above
      → ResultLies result value now memory
      → Does (loaded_of at.context.activation) t.budget 0
      (at_place back now memory t.events) (Gave value t)
      (λ value t end. HasReturned at result above back memory value t end)
  returned_so now bytes pointer lie =
      does_without_step (record {
        r = now;
        memory = memory;
        is_at = refl;
        shares = shares;
        registers = bytes;
        pointer = pointer;
        kept = keeps_all (IsOfCall at.context.activation.around.program at.context.activation.floor above)
            memory;
        lies = lie;
      })

  -- RET, with no words above
  ret_returns :
      (from to top : ℕ) (here last : Here) (now : Registers)
      → top + 2 ≡ above
      → StepsLie at here last (plain Ret ∷ []) from to
      → ReturnLies top back memory
      → IsBack top result value memory now
      → Does (loaded_of at.context.activation) t.budget 0
      (at_place from now memory t.events) (Gave value t)
      (λ value t end. HasReturned at result above back memory value t end)
  ret_returns from to top here last now same stand return_lies is =
      plain_goes at Ret [] now lies shares.code stand
      (λ more.
      subst (λ (state : State).
      Does (loaded_of at.context.activation) t.budget 0 state (Gave value t)
      (λ value t end. HasReturned at result above back memory value t end))
      (sym (return_does at.context.activation.around.program.script (from + 1) top back now memory
      t.events is.pointer limit
      (record {
        low = ap (byte_at memory) (add-zero top) ∙ return_lies.low;
        high = ap (λ (n : ℕ). byte_at memory (n + 1)) (add-zero top) ∙ return_lies.high;
      })))
      (returned_so (record now { sp = wrap (top + 2) })
      (record {
        a = is.registers.a;
        b = is.registers.b;
        c = is.registers.c;
        d = is.registers.d;
        e = is.registers.e;
        h = is.registers.h;
        l = is.registers.l;
      })
      (ap wrap same)
      (result_kept result value now (record now { sp = wrap (top + 2) }) memory memory refl
      refl refl is.lies)))
    where
      limit : top + 2 ≤ MEMORY_SIZE
      limit = let whole = above_in_memory in omega (arith, same, whole)

  -- POP H, the words, PCHL: where HL has no result
  pchl_returns :
      (words from to top : ℕ) (here last : Here) (now : Registers)
      → top + 2 + 2 * words ≡ above
      → StepsLie at here last (plain (Pop StackHl) ∷ (pops_steps words ++ (plain Pchl ∷ []))) from to
      → ReturnLies top back memory
      → HoldBytes now
      → now.sp ≡ wrap top
      → ((after : Registers) → after.a ≡ now.a → ResultLies result value after memory)
      → Does (loaded_of at.context.activation) t.budget 0
      (at_place from now memory t.events) (Gave value t)
      (λ value t end. HasReturned at result above back memory value t end)
  pchl_returns words from to top here last now same stand return_lies bytes pointer lie =
      plain_goes at (Pop StackHl) (pops_steps words ++ (plain Pchl ∷ [])) now lies shares.code stand
      (λ more.
      subst (λ (state : State).
      Does (loaded_of at.context.activation) t.budget 0 state (Gave value t)
      (λ value t end. HasReturned at result above back memory value t end))
      (sym (pop_is at.context.activation.around.program.script StackHl (from + 1) top now memory
      t.events pointer limit
      shares.is_memory))
      (words_dropped at lies shares.code shares.is_memory words (top + 2) (from + 1)
      (record (with_popped StackHl (word_there memory top) now) { sp = wrap (top + 2) })
      (record (with_popped StackHl (word_there memory top) now) { sp = wrap (top + 2) }) (plain Pchl ∷ [])
      (let whole = above_in_memory in omega (arith, same, whole)) more
      (record {
        a = refl;
        d = refl;
        e = refl;
        h = refl;
        l = refl;
        pointer = refl;
        registers = record {
          a = bytes.a;
          b = bytes.b;
          c = bytes.c;
          d = bytes.d;
          e = bytes.e;
          h = high_small;
          l = omega arith;
        };
      })
      (λ here_after place after stand_after is_at.
      plain_goes at Pchl [] after lies shares.code stand_after
      (λ nothing.
      subst (λ (n : ℕ).
      Does (loaded_of at.context.activation) t.budget 0
      (running (record after { pc = n }) memory t.events)
      (Gave value t) (λ value t end. HasReturned at result above back memory value t end))
      (sym (pair_is after.h after.l (word_there memory top) back is_at.h is_at.l
      (return_word top back memory return_lies)))
      (returned_so after is_at.registers (is_at.pointer ∙ ap wrap same) (lie after is_at.a))))))
    where
      limit : top + 2 ≤ MEMORY_SIZE
      limit = let whole = above_in_memory in omega (arith, same, whole)

      high_small : word_there memory top / 256 < 256
      high_small = let small = word_small top memory shares.is_memory in omega (arith, small)

  -- POP D, the words, PUSH D, RET: HL stays
  push_returns :
      (words from to top : ℕ) (here last : Here) (now : Registers)
      → top + 2 + 2 * words ≡ above
      → StepsLie at here last
      (plain (Pop StackDe) ∷ (pops_steps words ++ (plain (Push StackDe) ∷ plain Ret ∷ []))) from to
      → ReturnLies top back memory
      → HoldBytes now
      → now.sp ≡ wrap top
      → ((after : Registers) (ended : List ℕ) → after.a ≡ now.a → after.h ≡ now.h → after.l ≡ now.l
      → ResultLies result value after ended)
      → Does (loaded_of at.context.activation) t.budget 0
      (at_place from now memory t.events) (Gave value t)
      (λ value t end. HasReturned at result above back memory value t end)
  push_returns words from to top here last now same stand return_lies bytes pointer lie =
      plain_goes at (Pop StackDe) (pops_steps words ++ (plain (Push StackDe) ∷ plain Ret ∷ [])) now
      lies shares.code stand
      (λ more.
      subst (λ (state : State).
      Does (loaded_of at.context.activation) t.budget 0 state (Gave value t)
      (λ value t end. HasReturned at result above back memory value t end))
      (sym (pop_is at.context.activation.around.program.script StackDe (from + 1) top now memory
      t.events pointer limit
      shares.is_memory))
      (words_dropped at lies shares.code shares.is_memory words (top + 2) (from + 1)
      (record (with_popped StackDe (word_there memory top) now) { sp = wrap (top + 2) })
      (record (with_popped StackDe (word_there memory top) now) { sp = wrap (top + 2) })
      (plain (Push StackDe) ∷ plain Ret ∷ [])
      (let whole = above_in_memory in omega (arith, same, whole)) more
      (record {
        a = refl;
        d = refl;
        e = refl;
        h = refl;
        l = refl;
        pointer = refl;
        registers = record {
          a = bytes.a;
          b = bytes.b;
          c = bytes.c;
          d = high_small;
          e = omega arith;
          h = bytes.h;
          l = bytes.l;
        };
      })
      (λ here_after place after stand_after is_at.
      plain_goes at (Push StackDe) (plain Ret ∷ []) after lies shares.code stand_after
      (λ ret_stands.
      subst (λ (state : State).
      Does (loaded_of at.context.activation) t.budget 0 state (Gave value t)
      (λ value t end. HasReturned at result above back memory value t end))
      (sym (push_does at.context.activation.around.program.script StackDe (place + 1) above
      after memory t.events
      (is_at.pointer ∙ ap wrap same) above_in_memory (omega (arith, low))
      ∙ ap (λ (n : ℕ). at_place (place + 1) (record after { sp = wrap (above - 2) })
      (pushed above n memory) t.events)
      (pair_is after.d after.e (word_there memory top) back is_at.d is_at.e
      (return_word top back memory return_lies))))
      (plain_goes at Ret [] (record after { sp = wrap (above - 2) }) lies now_shares.code ret_stands
      (λ nothing.
      subst (λ (state : State).
      Does (loaded_of at.context.activation) t.budget 0 state (Gave value t)
      (λ value t end. HasReturned at result above back memory value t end))
      (sym (return_does at.context.activation.around.program.script (place + 1 + 1) (above - 2) back
      (record after { sp = wrap (above - 2) }) (pushed above (wrap back) memory) t.events refl
      (let whole = above_in_memory in omega (arith, low, whole)) pushed_return))
      (does_without_step (record {
        r = record after { sp = wrap (above - 2 + 2) };
        memory = pushed above (wrap back) memory;
        is_at = refl;
        shares = now_shares;
        registers = record {
          a = is_at.registers.a;
          b = is_at.registers.b;
          c = is_at.registers.c;
          d = is_at.registers.d;
          e = is_at.registers.e;
          h = is_at.registers.h;
          l = is_at.registers.l;
        };
        pointer = ap wrap up;
        kept = record {
          size =
              length-set (Rattle.std.proofs.Common.slice_set memory (above - 1) (high_byte (wrap back)))
              (above - 2)
              (low_byte (wrap back))
              ∙ length-set memory (above - 1) (high_byte (wrap back));
          bytes = λ address outside.
              pushed_keeps above (wrap back) memory address
              (λ is. outside (inr (omega (arith, is, low), omega (arith, is, low))))
              (λ is. outside (inr (omega (arith, is, low), omega (arith, is, low))));
        };
        lies = lie (record after { sp = wrap (above - 2 + 2) }) (pushed above (wrap back) memory)
            is_at.a is_at.h is_at.l;
      }))))))))
    where
      limit : top + 2 ≤ MEMORY_SIZE
      limit = let whole = above_in_memory in omega (arith, same, whole)

      high_small : word_there memory top / 256 < 256
      high_small = let small = word_small top memory shares.is_memory in omega (arith, small)

      up : above - 2 + 2 ≡ above
      up = omega (arith, low)

      pushed_return : ReturnLies (above - 2 + 0) back (pushed above (wrap back) memory)
      pushed_return =
          let is =
          pushed_is_pushed above (wrap back) memory (omega (arith, low)) above_in_memory
          shares.is_memory.size in
          record {
            low = ap (byte_at (pushed above (wrap back) memory)) (at_low above) ∙ is.low;
            high = ap (byte_at (pushed above (wrap back) memory)) (at_high above (omega (arith, low)))
                ∙ is.high;
          }
        where
          at_low : (above : ℕ) → above - 2 + 0 ≡ above - 2
          at_low above = omega arith

          at_high : (above : ℕ) → 2 ≤ above → above - 2 + 0 + 1 ≡ above - 1
          at_high above room = omega (arith, room)

      now_shares : Shares at.context.activation.around.program at.context.activation.image t.memory
          (pushed above (wrap back) memory)
      now_shares =
          let free = lies.placed.stack_free in
          let apart = lies.placed.apart in
          let bottom = lies.bottom in
          record {
            is_memory = pushed_is_memory above (wrap back) memory (omega arith) shares.is_memory;
            size = shares.size;
            declared = λ address there.
                pushed_keeps above (wrap back) memory address
                (λ is. free address there (omega (arith, is, low, bottom)) (omega (arith, is, low, high)))
                (λ is. free address there (omega (arith, is, low, bottom)) (omega (arith, is, low, high)))
                ∙ shares.declared address there;
            code = λ address there.
                pushed_keeps above (wrap back) memory address
                (λ is. apart address there.0 there.1 (omega (arith, is, low, bottom))
                (omega (arith, is, low, high)))
                (λ is. apart address there.0 there.1 (omega (arith, is, low, bottom))
                (omega (arith, is, low, high)))
                ∙ shares.code address there;
            others = keeps_pushed (MayChange at.context.activation.around.program) above (wrap back)
                at.context.activation.image memory
                (inr (omega (arith, low, bottom), omega (arith, low, high)))
                (inr (omega (arith, low, bottom), omega (arith, low, high))) shares.others;
          }

  -- over any words
  pub over_returns :
      (words from to top : ℕ) (here last : Here) (now : Registers)
      → top + 2 + 2 * words ≡ above
      → StepsLie at here last (return_over_any_steps words result) from to
      → ReturnLies top back memory
      → IsBack top result value memory now
      → Does (loaded_of at.context.activation) t.budget 0
      (at_place from now memory t.events) (Gave value t)
      (λ value t end. HasReturned at result above back memory value t end)
  unfolding return_over_any_steps return_over_steps
  over_returns words from to top here last now same stand return_lies is =
      by_test (nat_eq words 0) refl stand
    where
      by_result : (its : Option ScalarType) → result ≡ its
          → StepsLie at here last (return_over_steps words its) from to
          → Does (loaded_of at.context.activation) t.budget 0
          (at_place from now memory t.events) (Gave value t)
          (λ value t end. HasReturned at result above back memory value t end)
      by_result None equal stand =
          pchl_returns words from to top here last now same stand return_lies is.registers is.pointer
          (λ after a. subst (λ (its : Option ScalarType). ResultLies its value after memory) (sym equal) tt)
      by_result (Some Byte) equal stand =
          pchl_returns words from to top here last now same stand return_lies is.registers is.pointer
          (λ after a.
          subst (λ (its : Option ScalarType). ResultLies its value after memory) (sym equal)
          (a ∙ subst (λ (its : Option ScalarType). ResultLies its value now memory) equal is.lies))
      by_result (Some Address) equal stand =
          push_returns words from to top here last now same stand return_lies is.registers is.pointer
          (λ after ended a h l. result_kept result value now after memory ended a h l is.lies)

      by_test : (test : Bool) → nat_eq words 0 ≡ test
          → StepsLie at here last (if test then plain Ret ∷ [] else return_over_steps words result) from to
          → Does (loaded_of at.context.activation) t.budget 0
          (at_place from now memory t.events) (Gave value t)
          (λ value t end. HasReturned at result above back memory value t end)
      by_test true none stand =
          let zero_words : words ≡ 0 = eqb-true words 0 none in
          ret_returns from to top here last now (omega (arith, same, zero_words)) stand return_lies is
      by_test false some stand = by_result result refl stand
