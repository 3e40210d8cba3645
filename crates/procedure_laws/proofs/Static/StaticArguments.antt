-- The arguments that a procedure which is not REENTRANT finds on the stack, under the return address.
use Rattle.procedure_laws.proofs.Prelude.{◌≡◌, ℕ, ◌+◌, ◌-◌, ◌*◌, ◌<◌, ◌≤◌, Bool, true, false, if◌then◌else◌, List, [], ◌∷◌, ◌++◌, length, slice_get, Some, None, refl, sym, ap, subst, ◌∙◌, arith, append_assoc, same_Some, MEMORY_SIZE, byte_at, byte_small, Event, ScalarType, Byte, Address, frame_bytes, Outcome, SourceState, Pop, Push, Xthl, StackDe, StackHl, HoldBytes, Registers, State, high_byte, low_byte, wrap, Item, pushed, pushed_is_pushed, Static, Parameter, IsThere, Does, loaded_of, at_place, Facts, after, after_word, word_item, Planned, plain, Here, AreCarriedOut, argument_facts, argument_step, below_return_steps, exchanged_steps, is_address, known_at, known_from, popped_from, pushed_arguments_steps, InRegister, InWord, IsSound, BodyContext, ReturnLies, high_of_sum, low_of_sum, wrapped_small}
use Rattle.asm8080.specs.declared.item.Item.TheVariants as items
use Rattle.statements8080.specs.internal.Plans.{word}
use Rattle.procedure_laws.proofs.Planned.{IsBehind, plain_behind, word_behind}
use Rattle.procedure_laws.proofs.Puts.{Slot, put, put_down}
use Rattle.procedure_laws.proofs.Static.StaticLoops.{Held, IsTaken, PartedThere, held_then, loop_does, nth_is, plain_parted, store_is, word_parted}
use Rattle.procedure_laws.proofs.Static.StaticStages.{Underway, exchange_goes, pop_goes, push_goes, store_form, store_goes}
use Rattle.procedure_laws.proofs.Numbers.{two_more_less}

joined : (word : ℕ) → 256 * high_byte word + low_byte word ≡ word
joined word = omega arith

-- what was pushed for the return lies there
pub pushed_return : (level back word : ℕ) (memory : List ℕ) → word ≡ wrap back → level + 2 ≤ MEMORY_SIZE
    → length memory ≡ MEMORY_SIZE
    → ReturnLies level back (pushed (level + 2) word memory)
pushed_return level back word memory same limit size =
    let is = pushed_is_pushed (level + 2) word memory (omega arith) limit size in
    record {
      low = ap (byte_at (pushed (level + 2) word memory)) (two_more_less level) ∙ is.low ∙ ap low_byte same;
      high = ap (byte_at (pushed (level + 2) word memory)) (next level) ∙ is.high ∙ ap high_byte same;
    }
  where
    next : (level : ℕ) → level + 1 ≡ level + 2 - 1
    next level = omega arith

module _ (at : BodyContext) (sound : IsSound at.context)
    (no_frame : (object : ℕ) → at.context.activation.size object ≡ 0)
    (entered : List ℕ) (frame : List (List ℕ))
    (none : (object : ℕ) → length (frame_bytes frame object) ≡ 0)
    (others : List Parameter) (slots : List Slot) (values : List ℕ) (top back : ℕ)
    (start : at.context.activation.floor ≤ top)
    (high : top + 2 + 2 * length others ≤ at.context.activation.around.program.placement.stack.start
    + at.context.activation.around.program.placement.stack.len)
    (taken : (index : ℕ) → index < length others
    → IsTaken at others slots values entered (top + 2 + 2 * (length others - 1 - index)) index)
    (return_lies : ReturnLies top back entered) where
  -- the machine after the arguments on the stack, with the return address under its stack pointer
  pub record IsBelow
      (known : Facts) (source memory : List ℕ) (r : Registers) (last : Here) (rest : List Planned) (to : ℕ)
      (facts : Facts) : Type 0 where
    pub here : Here
    pub list : List Item
    pub from : ℕ
    pub now : Registers
    pub stacked : List ℕ
    pub ended : List ℕ
    pub written : AreCarriedOut at.body at.context.called here None rest list last
    pub there : IsThere at.context.activation list from to
    pub on : Underway at (top + 2 + 2 * length others) entered stacked here.facts (top + 2 * length others)
        (put_down (length others) slots values source) now ended
    pub returns : ReturnLies (top + 2 * length others) back stacked
    pub held : Held slots values (known_from facts others (length others)) now

  limit : top + 2 + 2 * length others ≤ MEMORY_SIZE
  limit =
      let stack = sound.lies.placed.stack_in_memory in
      omega (arith, high, stack)

  -- the return address is taken into DE, the arguments are taken, and it is put back
  pushed_does :
      {A : Type 0} {outcome : Outcome A} {Good : A → SourceState → State → Type 0} {budget : ℕ}
      {events : List Event}
      (rest : List Planned) (facts : Facts) (here last : Here) (list : List Item) (from to : ℕ)
      (source memory : List ℕ) (r : Registers)
      → AreCarriedOut at.body at.context.called here None (pushed_arguments_steps others ++ rest) list last
      → IsThere at.context.activation list from to
      → Underway at (top + 2 + 2 * length others) entered entered here.facts top source r memory
      → Held slots values facts r
      → ((below : IsBelow facts source memory r last rest to facts)
      → Does (loaded_of at.context.activation) budget 0
      (at_place below.from below.now below.ended events) outcome Good)
      → Does (loaded_of at.context.activation) budget 0 (at_place from r memory events) outcome Good
  unfolding pushed_arguments_steps limit
  pushed_does rest facts here last list from to source memory r written there on held go =
      pop_goes at sound no_frame (top + 2 + 2 * length others) entered frame none StackDe (wrap back) r
      (wrapped_small back)
      (on.stack top start (omega (arith, high)) ∙ return_lies.low)
      (on.stack (top + 1) (omega (arith, start)) (omega (arith, high)) ∙ return_lies.high)
      (omega (arith, limit))
      first_parts.one on
      (λ popped.
      loop_does at sound no_frame (top + 2 + 2 * length others) entered frame none others slots
      values entered (top + 2)
      (length others) (omega (arith, start)) high taken (length others) (plain (Push StackDe) ∷ rest)
      facts first.here last
      first.more (from + 1) to (top + 2) source memory
      (record r { d = high_byte (wrap back); e = low_byte (wrap back); sp = wrap (top + 2) }) (omega arith)
      (omega arith)
      (subst (λ (steps : List Planned). AreCarriedOut at.body at.context.called first.here None
      steps first.more last)
      (append_assoc (popped_from others (length others)) (plain (Push StackDe) ∷ []) rest) first.written)
      first_parts.rest
      (subst (λ (known : Facts).
      Underway at (top + 2 + 2 * length others) entered entered known (top + 2) source
      (record r { d = high_byte (wrap back); e = low_byte (wrap back); sp = wrap (top + 2) }) memory)
      (sym first.facts) popped)
      (record { byte = held.byte; word = held.word; address = held.address; zero = held.zero })
      (λ here_then list_then from_then now written_then there_then on_then held_then d e.
      let last_step = plain_behind at (Push StackDe) rest written_then in
      let last_parts =
      plain_parted (Push StackDe) last_step.more
      (subst (λ (list : List Item). IsThere at.context.activation list from_then to)
      last_step.is there_then) in
      push_goes at sound no_frame (top + 2 + 2 * length others) entered frame none now (omega (arith, start))
      (omega arith) high last_parts.one on_then
      (λ stored.
      go (record {
        here = last_step.here;
        list = last_step.more;
        from = from_then + 1;
        now = record now { sp = wrap (top + 2 + 2 * length others - 2) };
        stacked =
            pushed (top + 2 + 2 * length others) (256 * now.d + now.e)
            (put_down (length others) slots values memory);
        ended = pushed (top + 2 + 2 * length others) (256 * now.d + now.e)
            (put_down (length others) slots values memory);
        written = last_step.written;
        there = last_parts.rest;
        on =
            subst (λ (level : ℕ).
            Underway at (top + 2 + 2 * length others) entered
            (pushed (top + 2 + 2 * length others) (256 * now.d + now.e)
            (put_down (length others) slots values memory))
            last_step.here.facts level (put_down (length others) slots values source)
            (record now { sp = wrap (top + 2 + 2 * length others - 2) })
            (pushed (top + 2 + 2 * length others) (256 * now.d + now.e)
            (put_down (length others) slots values memory)))
            (level_is (length others))
            (subst (λ (known : Facts).
            Underway at (top + 2 + 2 * length others) entered
            (pushed (top + 2 + 2 * length others) (256 * now.d + now.e)
            (put_down (length others) slots values memory))
            known (top + 2 + 2 * length others - 2) (put_down (length others) slots values source)
            (record now { sp = wrap (top + 2 + 2 * length others - 2) })
            (pushed (top + 2 + 2 * length others) (256 * now.d + now.e)
            (put_down (length others) slots values memory)))
            (sym last_step.facts) stored);
        returns =
            subst (λ (level : ℕ).
            ReturnLies (top + 2 * length others) back
            (pushed level (256 * now.d + now.e) (put_down (length others) slots values memory)))
            (over_is (length others))
            (pushed_return (top + 2 * length others) back (256 * now.d + now.e)
            (put_down (length others) slots values memory)
            (ap (λ (d : ℕ). 256 * d + now.e) d ∙ ap (λ (e : ℕ). 256 * high_byte (wrap back) + e) e
            ∙ joined (wrap back))
            (omega (arith, limit)) on_then.shares.is_memory.size);
        held = record { byte = held_then.byte; word = held_then.word; address = held_then.address; zero = held_then.zero };
      }))))
    where
      level_is : (count : ℕ) → top + 2 + 2 * count - 2 ≡ top + 2 * count
      level_is count = omega arith

      over_is : (count : ℕ) → top + 2 * count + 2 ≡ top + 2 + 2 * count
      over_is count = omega arith

      first : IsBehind at (items.Plain (Pop StackDe) ∷ []) (after here.facts (Pop StackDe))
          ((popped_from others (length others) ++ (plain (Push StackDe) ∷ [])) ++ rest) list last
      first =
          plain_behind at (Pop StackDe)
          ((popped_from others (length others) ++ (plain (Push StackDe) ∷ [])) ++ rest) written

      first_parts : PartedThere at.context.activation (items.Plain (Pop StackDe) ∷ [])
          first.more from (from + 1) to
      first_parts =
          plain_parted (Pop StackDe) first.more
          (subst (λ (list : List Item). IsThere at.context.activation list from to) first.is there)

  -- a single ADDRESS changes places with the return address
  exchanged_does :
      {A : Type 0} {outcome : Outcome A} {Good : A → SourceState → State → Type 0} {budget : ℕ}
      {events : List Event}
      (only : Parameter) (rest : List Planned) (facts : Facts) (here last : Here)
      (list : List Item) (from to : ℕ)
      (source memory : List ℕ) (r : Registers)
      → others ≡ only ∷ []
      → is_address only.scalar ≡ true
      → AreCarriedOut at.body at.context.called here None (exchanged_steps only ++ rest) list last
      → IsThere at.context.activation list from to
      → Underway at (top + 2 + 2 * length others) entered entered here.facts top source r memory
      → Held slots values facts r
      → ((below : IsBelow facts source memory r last rest to facts)
      → Does (loaded_of at.context.activation) budget 0
      (at_place below.from below.now below.ended events) outcome Good)
      → Does (loaded_of at.context.activation) budget 0 (at_place from r memory events) outcome Good
  unfolding exchanged_steps known_from known_at limit
  exchanged_does only rest facts here last list from to source memory r alone address
      written there on held go =
      pop_goes at sound no_frame (top + 2 + 2 * length others) entered frame none StackHl (wrap back) r
      (wrapped_small back)
      (on.stack top start (omega (arith, high)) ∙ return_lies.low)
      (on.stack (top + 1) (omega (arith, start)) (omega (arith, high)) ∙ return_lies.high)
      (omega (arith, limit))
      first_parts.one on
      (λ popped.
      exchange_goes at sound no_frame (top + 2 + 2 * length others) entered frame none
      (byte_at memory (top + 2) + 256 * byte_at memory (top + 2 + 1))
      (record r { h = high_byte (wrap back); l = low_byte (wrap back); sp = wrap (top + 2) })
      (omega (arith, low_small, high_small))
      (sym (low_of_sum (byte_at memory (top + 2)) (byte_at memory (top + 2 + 1)) low_small))
      (sym (high_of_sum (byte_at memory (top + 2)) (byte_at memory (top + 2 + 1)) low_small))
      (omega (arith, start))
      (omega (arith, one_long)) high second_parts.one
      (subst (λ (known : Facts).
      Underway at (top + 2 + 2 * length others) entered entered known (top + 2) source
      (record r { h = high_byte (wrap back); l = low_byte (wrap back); sp = wrap (top + 2) }) memory)
      (sym first.facts) popped)
      (λ exchanged.
      store_goes at sound no_frame (top + 2 + 2 * length others) entered frame none one.slot
      one.value now one.lies
      one.variables one.small lies_now third_parts.one exchanged
      (λ stored.
      go (record {
        here = third.here;
        list = third.more;
        from = from + 1 + 1 + 3;
        now = now;
        stacked = pushed (top + 2 + 2) (256 * high_byte (wrap back) + low_byte (wrap back)) memory;
        ended =
            put one.slot.scalar one.slot.at one.value
            (pushed (top + 2 + 2) (256 * high_byte (wrap back) + low_byte (wrap back)) memory);
        written = third.written;
        there = third_parts.rest;
        on = ended stored;
        returns =
            subst (λ (count : ℕ).
            ReturnLies (top + 2 * count) back
            (pushed (top + 2 + 2) (256 * high_byte (wrap back) + low_byte (wrap back)) memory)) (sym one_long)
            (pushed_return (top + 2 * 1) back (256 * high_byte (wrap back) + low_byte (wrap back)) memory
            (joined (wrap back)) (omega (arith, limit, one_long)) on.shares.is_memory.size);
        held =
            subst (λ (list : List Parameter). Held slots values (known_from facts list (length list)) now)
            (sym alone)
            (subst (λ (parameter : Parameter). Held slots values (known_from facts (parameter ∷ []) 1) now)
            (sym only_is) held_now);
      }))))
    where
      one_long : length others ≡ 1
      one_long = ap (λ (list : List Parameter). length list) alone

      one : IsTaken at others slots values entered (top + 2 + 2 * (length others - 1 - 0)) 0
      one = taken 0 (omega (arith, one_long))

      only_is : only ≡ record { scalar = one.slot.scalar; location = Static one.slot.place }
      only_is =
          let same : Some only
          ≡ Some (record { scalar = one.slot.scalar; location = Static one.slot.place }) =
          ap (λ (list : List Parameter). slice_get list 0) (sym alone) ∙ one.parameter in
          same_Some only
          (record { scalar = one.slot.scalar; location = Static one.slot.place }) same

      address_of : (scalar : ScalarType) → is_address scalar ≡ true → scalar ≡ Address
      address_of Byte same = let bad : ⊥ = cc in absurd bad
      address_of Address same = refl

      scalar_is : one.slot.scalar ≡ Address
      scalar_is =
          ap (λ (parameter : Parameter). parameter.scalar) (sym only_is) ∙ address_of only.scalar address

      first : IsBehind at (items.Plain (Pop StackHl) ∷ []) (after here.facts (Pop StackHl))
          (plain Xthl ∷ argument_step only ∷ rest) list last
      first = plain_behind at (Pop StackHl) (plain Xthl ∷ argument_step only ∷ rest) written

      second : IsBehind at (items.Plain Xthl ∷ []) (after first.here.facts Xthl)
          (argument_step only ∷ rest) first.more last
      second = plain_behind at Xthl (argument_step only ∷ rest) first.written

      third : IsBehind at (word_item (store_form one.slot.scalar) one.slot.place ∷ [])
          (after_word second.here.facts (store_form one.slot.scalar) one.slot.place) rest second.more last
      third =
          word_behind at (store_form one.slot.scalar) one.slot.place rest
          (subst (λ (step : Planned).
          AreCarriedOut at.body at.context.called second.here None (step ∷ rest) second.more last)
          (ap (λ (parameter : Parameter). argument_step parameter) only_is
          ∙ store_is one.slot.scalar one.slot.place)
          second.written)

      first_parts : PartedThere at.context.activation (items.Plain (Pop StackHl) ∷ [])
          first.more from (from + 1) to
      first_parts =
          plain_parted (Pop StackHl) first.more
          (subst (λ (list : List Item). IsThere at.context.activation list from to) first.is there)

      second_parts : PartedThere at.context.activation (items.Plain Xthl ∷ []) second.more
          (from + 1) (from + 1 + 1) to
      second_parts =
          plain_parted Xthl second.more
          (subst (λ (list : List Item). IsThere at.context.activation list (from + 1) to)
          second.is first_parts.rest)

      third_parts : PartedThere at.context.activation
          (word_item (store_form one.slot.scalar) one.slot.place ∷ [])
          third.more (from + 1 + 1) (from + 1 + 1 + 3) to
      third_parts =
          word_parted (store_form one.slot.scalar) one.slot.place third.more
          (subst (λ (list : List Item). IsThere at.context.activation list (from + 1 + 1) to)
          third.is second_parts.rest)

      low_small : byte_at memory (top + 2) < 256
      low_small = byte_small memory (top + 2) on.shares.is_memory

      high_small : byte_at memory (top + 2 + 1) < 256
      high_small = byte_small memory (top + 2 + 1) on.shares.is_memory

      now : Registers
      now =
          record r {
            h = high_byte (byte_at memory (top + 2) + 256 * byte_at memory (top + 2 + 1));
            l = low_byte (byte_at memory (top + 2) + 256 * byte_at memory (top + 2 + 1));
            sp = wrap (top + 2);
          }

      place_is : top + 2 + 2 * (length others - 1 - 0) ≡ top + 2
      place_is = omega (arith, one_long)

      word_there : InWord Address one.value entered (top + 2)
      word_there =
          subst (λ (scalar : ScalarType). InWord scalar one.value entered (top + 2)) scalar_is
          (subst (λ (address : ℕ). InWord one.slot.scalar one.value entered address) place_is one.word)

      word_now : InRegister Address one.value now
      word_now = (
        high_of_sum (byte_at memory (top + 2)) (byte_at memory (top + 2 + 1)) low_small
            ∙ on.stack (top + 2 + 1) (omega (arith, start)) (omega (arith, high, one_long)) ∙ word_there.1,
        low_of_sum (byte_at memory (top + 2)) (byte_at memory (top + 2 + 1)) low_small
            ∙ on.stack (top + 2) (omega (arith, start)) (omega (arith, high, one_long)) ∙ word_there.0,
      )

      lies_now : InRegister one.slot.scalar one.value now
      lies_now = subst (λ (scalar : ScalarType). InRegister scalar one.value now) (sym scalar_is) word_now

      bytes_now : HoldBytes now
      bytes_now =
          let bytes = on.registers in
          record {
            a = bytes.a;
            b = bytes.b;
            c = bytes.c;
            d = bytes.d;
            e = bytes.e;
            h = omega (arith, low_small, high_small);
            l = omega arith;
          }

      held_now : Held slots values (argument_facts one.slot.scalar (Static one.slot.place) facts) now
      held_now =
          held_then one.slot.scalar slots values facts r now one.value (Static one.slot.place)
          (record {
            index = 0;
            slot = one.slot;
            there = one.there;
            value_is = one.value_is;
            scalar_is = refl;
            location_is = refl;
          })
          lies_now bytes_now (λ same. absurd (no_byte (sym same ∙ scalar_is))) (λ same. refl) held
        where
          no_byte : Byte ≡ Address → ⊥
          no_byte same = cc

      ended :
          Underway at (top + 2 + 2 * length others) entered
          (pushed (top + 2 + 2) (256 * high_byte (wrap back) + low_byte (wrap back)) memory)
          (after_word (after first.here.facts Xthl) (store_form one.slot.scalar) one.slot.place)
          (top + 2 + 2 - 2)
          (put one.slot.scalar one.slot.at one.value source) now
          (put one.slot.scalar one.slot.at one.value
          (pushed (top + 2 + 2) (256 * high_byte (wrap back) + low_byte (wrap back)) memory))
          → Underway at (top + 2 + 2 * length others) entered
          (pushed (top + 2 + 2) (256 * high_byte (wrap back) + low_byte (wrap back)) memory) third.here.facts
          (top + 2 * length others) (put_down (length others) slots values source) now
          (put one.slot.scalar one.slot.at one.value
          (pushed (top + 2 + 2) (256 * high_byte (wrap back) + low_byte (wrap back)) memory))
      ended stored =
          subst (λ (count : ℕ).
          Underway at (top + 2 + 2 * length others) entered
          (pushed (top + 2 + 2) (256 * high_byte (wrap back) + low_byte (wrap back)) memory) third.here.facts
          (top + 2 * length others) (put_down count slots values source) now
          (put one.slot.scalar one.slot.at one.value
          (pushed (top + 2 + 2) (256 * high_byte (wrap back) + low_byte (wrap back)) memory))) (sym one_long)
          (subst (λ (source : List ℕ).
          Underway at (top + 2 + 2 * length others) entered
          (pushed (top + 2 + 2) (256 * high_byte (wrap back) + low_byte (wrap back)) memory) third.here.facts
          (top + 2 * length others) source now
          (put one.slot.scalar one.slot.at one.value
          (pushed (top + 2 + 2) (256 * high_byte (wrap back) + low_byte (wrap back)) memory)))
          (sym (nth_is 0 slots values source one.slot one.value one.there one.value_is))
          (subst (λ (level : ℕ).
          Underway at (top + 2 + 2 * length others) entered
          (pushed (top + 2 + 2) (256 * high_byte (wrap back) + low_byte (wrap back)) memory) third.here.facts
          level (put one.slot.scalar one.slot.at one.value source) now
          (put one.slot.scalar one.slot.at one.value
          (pushed (top + 2 + 2) (256 * high_byte (wrap back) + low_byte (wrap back)) memory)))
          (omega (arith, one_long))
          (subst (λ (known : Facts).
          Underway at (top + 2 + 2 * length others) entered
          (pushed (top + 2 + 2) (256 * high_byte (wrap back) + low_byte (wrap back)) memory) known
          (top + 2 + 2 - 2) (put one.slot.scalar one.slot.at one.value source) now
          (put one.slot.scalar one.slot.at one.value
          (pushed (top + 2 + 2) (256 * high_byte (wrap back) + low_byte (wrap back)) memory)))
          (ap (λ (known : Facts). after_word known (store_form one.slot.scalar) one.slot.place)
          (sym second.facts)
          ∙ sym third.facts) stored)))

  -- the arguments that are on the stack go to their parameters
  pub below_does :
      {A : Type 0} {outcome : Outcome A} {Good : A → SourceState → State → Type 0} {budget : ℕ}
      {events : List Event}
      (rest : List Planned) (facts : Facts) (here last : Here) (list : List Item) (from to : ℕ)
      (source memory : List ℕ) (r : Registers)
      → AreCarriedOut at.body at.context.called here None (below_return_steps others ++ rest) list last
      → IsThere at.context.activation list from to
      → Underway at (top + 2 + 2 * length others) entered entered here.facts top source r memory
      → Held slots values facts r
      → ((below : IsBelow facts source memory r last rest to facts)
      → Does (loaded_of at.context.activation) budget 0
      (at_place below.from below.now below.ended events) outcome Good)
      → Does (loaded_of at.context.activation) budget 0 (at_place from r memory events) outcome Good
  unfolding below_return_steps known_from
  below_does {A = A} {outcome = outcome} {Good = Good} {budget = budget} {events = events} rest facts here
      last list from to source memory r written there on held go =
      by_others others refl written
    where
      pushed_then : (list_of : List Parameter) → others ≡ list_of
          → AreCarriedOut at.body at.context.called here None
          (pushed_arguments_steps list_of ++ rest) list last
          → Does (loaded_of at.context.activation) budget 0
          (at_place from r memory events) outcome Good
      pushed_then list_of same written =
          pushed_does rest facts here last list from to source memory r
          (subst (λ (list_of : List Parameter).
          AreCarriedOut at.body at.context.called here None (pushed_arguments_steps list_of ++ rest)
          list last) (sym same)
          written) there on held go

      by_test : (only : Parameter) (test : Bool) → others ≡ only ∷ [] → is_address only.scalar ≡ test
          → AreCarriedOut at.body at.context.called here None
          ((if test then exchanged_steps only else pushed_arguments_steps (only ∷ [])) ++ rest) list last
          → Does (loaded_of at.context.activation) budget 0
          (at_place from r memory events) outcome Good
      by_test only true same is written =
          exchanged_does only rest facts here last list from to source memory r same is
          written there on held go
      by_test only false same is written = pushed_then (only ∷ []) same written

      by_others : (list_of : List Parameter) → others ≡ list_of
          → AreCarriedOut at.body at.context.called here None (below_return_steps list_of ++ rest) list last
          → Does (loaded_of at.context.activation) budget 0
          (at_place from r memory events) outcome Good
      by_others [] same written =
          let no_others : length others ≡ 0 = ap (λ (list : List Parameter). length list) same in
          go (record {
            here = here;
            list = list;
            from = from;
            now = r;
            stacked = entered;
            ended = memory;
            written = written;
            there = there;
            on =
                subst (λ (count : ℕ).
                Underway at (top + 2 + 2 * length others) entered entered here.facts (top + 2 * length others)
                (put_down count slots values source) r memory) (sym no_others)
                (subst (λ (level : ℕ).
                Underway at (top + 2 + 2 * length others) entered entered here.facts level source r memory)
                (omega (arith, no_others)) on);
            returns =
                subst (λ (level : ℕ). ReturnLies level back entered) (omega (arith, no_others)) return_lies;
            held =
                subst (λ (count : ℕ). Held slots values (known_from facts others count) r)
                (sym no_others) held;
          })
      by_others (only ∷ []) same written = by_test only (is_address only.scalar) same refl written
      by_others (one ∷ next ∷ more) same written = pushed_then (one ∷ next ∷ more) same written
