-- The entry of a procedure that is not REENTRANT, from its first instruction to the begin of its body.
use Rattle.procedure_laws.proofs.Prelude.{◌≡◌, ℕ, suc, ◌+◌, ◌-◌, ◌*◌, ◌<◌, ◌≤◌, List, [], ◌∷◌, ◌++◌, length, map, slice_get, Option, Some, None, refl, sym, ap, subst, ◌∙◌, arith, take, MEMORY_SIZE, frame_bytes, Gave, SourceState, Registers, State, Item, Static, Parameter, IsReady, IsThere, Does, loaded_of, at_place, does_without_step, with_facts_hold, Facts, after_word, no_facts, word_item, Planned, holds, Here, AreCarriedOut, below_return_steps, known_from, static_entry_steps, stores_steps, with_argument, ArgumentsLie, InRegister, InWord, IsSound, Know, BodyContext, ReturnLies, at_start, HasBegun}
use Rattle.statements8080.specs.internal.Plans.{word}
use Rattle.procedure_laws.proofs.Planned.{EndsKnowing, IsBehind, holds_last, word_behind}
use Rattle.procedure_laws.proofs.Puts.{AreVariables, EachApart, Slot, put, put_down, set_all, set_down}
use Rattle.procedure_laws.proofs.Static.StaticArguments.{IsBelow, below_does}
use Rattle.procedure_laws.proofs.Static.StaticBegins.{IsThereAt, SlotsLie, at_index, held_known, last_lies, mapped, mapped_length, other_lies, parameter_of, taken_first, taken_length, variables_at}
use Rattle.procedure_laws.proofs.Static.StaticLoops.{Held, IsTaken, PartedThere, held_then, nth_is, store_is, word_parted}
use Rattle.procedure_laws.proofs.Static.StaticStages.{Underway, known_within, ready_of, store_form, store_goes}

one_less_of : (count others : ℕ) → count ≡ suc others → count - 1 ≡ others
one_less_of count others same = omega (arith, same)

module _ (at : BodyContext) (sound : IsSound at.context)
    (no_frame : (object : ℕ) → at.context.activation.size object ≡ 0)
    (entered : List ℕ) (frame : List (List ℕ))
    (none : (object : ℕ) → length (frame_bytes frame object) ≡ 0)
    (slots : List Slot) (values source : List ℕ) (lie : SlotsLie at slots) (apart : EachApart slots)
    (many : length values ≡ length slots) (size : length source ≡ MEMORY_SIZE)
    (variables : AreVariables at.context.activation.around.program slots)
    (top back to : ℕ) (begun : Here) (t : SourceState)
    (start : at.context.activation.floor ≤ top)
    (high : top + 2 + 2 * (length slots - 1) ≤ at.context.activation.around.program.placement.stack.start
    + at.context.activation.around.program.placement.stack.len)
    (level_is : at.context.activation.level ≡ top + 2 * (length slots - 1))
    (back_is : at.context.activation.back ≡ 0)
    (memory_is : t.memory ≡ set_all slots values source)
    (frame_is : t.frame ≡ frame)
    (return_lies : ReturnLies top back entered) where
  abbrev pub Good : Unit {0} → SourceState → State → Type 0
  Good given t end = HasBegun at to (top + 2 + 2 * (length slots - 1)) back begun.facts entered t end

  -- after the last instruction
  pub finish :
      (held : Facts) (here : Here) (list : List Item) (from level : ℕ) (stacked : List ℕ) (r : Registers)
      (memory : List ℕ)
      → AreCarriedOut at.body at.context.called here None (holds held ∷ []) list begun
      → IsThere at.context.activation list from to
      → Underway at (top + 2 + 2 * (length slots - 1)) entered stacked here.facts level
      (put_down (length slots) slots values source) r memory
      → level ≡ top + 2 * (length slots - 1)
      → ReturnLies level back stacked
      → Know at.context held r memory
      → Does (loaded_of at.context.activation) t.budget 0
      (at_place from r memory t.events) (Gave tt t) Good
  finish held here list from level stacked r memory written there on same returns known =
      does_without_step (record {
        r = r;
        memory = memory;
        is_at = ap (λ (place : ℕ). at_place place r memory t.events) from_is;
        ready =
            subst (λ (level : ℕ). IsReady at.context.activation level memory t.memory t.frame r memory)
            (same ∙ sym level_is)
            (subst (λ (frame : List (List ℕ)). IsReady at.context.activation level memory
            t.memory frame r memory)
            (sym frame_is)
            (subst (λ (source : List ℕ). IsReady at.context.activation level memory source frame r memory)
            (sym (memory_is ∙ set_down slots values source apart many))
            (ready_of at sound no_frame (top + 2 + 2 * (length slots - 1)) entered frame none on)));
        known =
            subst (λ (facts : Facts). Know at.context facts r memory) (sym ends.facts)
            (with_facts_hold here.facts held
            (known_within at.context here.facts r memory sound.lies on.known) known);
        return_lies =
            subst (λ (address : ℕ). ReturnLies address back memory) (omega (arith, same, level_is, back_is))
            (record {
              low = on.stack level (omega (arith, same, start)) (omega (arith, same, high)) ∙ returns.low;
              high = on.stack (level + 1) (omega (arith, same, start)) (omega (arith, same, high))
                  ∙ returns.high;
            });
        kept = on.kept;
      })
    where
      ends : EndsKnowing held here.facts list begun
      ends = holds_last at held written

      nothing_there : IsThere at.context.activation [] from to
      nothing_there = subst (λ (list : List Item). IsThere at.context.activation list from to) ends.none there

      from_is : from ≡ to
      from_is = nothing_there.stands

  -- with one argument, or more
  pub some_does :
      (others : ℕ) (list : List Item) (from : ℕ) (r : Registers)
      → length slots ≡ suc others
      → ArgumentsLie (map (λ (slot : Slot). slot.scalar) slots) values (top + 2) r entered
      → AreCarriedOut at.body at.context.called at_start None
      (static_entry_steps (map parameter_of slots)) list begun
      → IsThere at.context.activation list from to
      → Underway at (top + 2 + 2 * (length slots - 1)) entered entered no_facts top source r entered
      → Does (loaded_of at.context.activation) t.budget 0
      (at_place from r entered t.events) (Gave tt t) Good
  unfolding static_entry_steps stores_steps
  some_does others list from r count arguments written there on =
      store_goes at sound no_frame (top + 2 + 2 * (length slots - 1)) entered frame none slot.one value.one r
      (lie others slot.one slot.is).0
      (variables_at at.context.activation.around.program slots others slot.one variables slot.is)
      (lie others slot.one slot.is).1 lies first_parts.one on
      (λ stored.
      below_does at sound no_frame entered frame none (take others (map parameter_of slots)) slots
      values top back start
      (omega (arith, high, count, rest_length)) taken return_lies
      (holds (known_from (with_argument no_facts (parameter_of slot.one))
      (take others (map parameter_of slots))
      (length (take others (map parameter_of slots)))) ∷ [])
      (with_argument no_facts (parameter_of slot.one)) first.here begun first.more (from + 3) to
      (put slot.one.scalar slot.one.at value.one source) (put slot.one.scalar slot.one.at value.one entered) r
      first.written first_parts.rest
      (subst (λ (above : ℕ).
      Underway at above entered entered first.here.facts top
      (put slot.one.scalar slot.one.at value.one source) r
      (put slot.one.scalar slot.one.at value.one entered)) (omega (arith, count, rest_length))
      (subst (λ (known : Facts).
      Underway at (top + 2 + 2 * (length slots - 1)) entered entered known top
      (put slot.one.scalar slot.one.at value.one source) r
      (put slot.one.scalar slot.one.at value.one entered))
      (sym first.facts) stored))
      held
      (λ below. ending below))
    where
      below_count : others < length slots
      below_count = omega (arith, count)

      slot : IsThereAt slots others
      slot = at_index slots others below_count

      value : IsThereAt values others
      value = at_index values others (omega (arith, count, many))

      rest_length : length (take others (map parameter_of slots)) ≡ others
      rest_length =
          let mapped_count = mapped_length slots in
          taken_length others (map parameter_of slots) (omega (arith, mapped_count, count))

      last_index : length (map parameter_of slots) - 1 ≡ others
      last_index = one_less_of (length (map parameter_of slots)) others (mapped_length slots ∙ count)

      steps_are : static_entry_steps (map parameter_of slots)
          ≡ word (store_form slot.one.scalar) slot.one.place
          ∷ (below_return_steps (take others (map parameter_of slots))
          ++ (holds (known_from (with_argument no_facts (parameter_of slot.one))
          (take others (map parameter_of slots))
          (length (take others (map parameter_of slots)))) ∷ []))
      steps_are =
          ap (λ (index : ℕ). elim (slice_get (map parameter_of slots) index) [
            | Some last ↦ stores_steps last (take index (map parameter_of slots))
            | None ↦ holds no_facts ∷ []
          ]) last_index
          ∙ ap (λ (found : Option Parameter). elim found [
            | Some last ↦ stores_steps last (take others (map parameter_of slots))
            | None ↦ holds no_facts ∷ []
          ]) (mapped slots others slot.one slot.is)
          ∙ ap (λ (step : Planned).
          step
          ∷ (below_return_steps (take others (map parameter_of slots))
          ++ (holds (known_from (with_argument no_facts (parameter_of slot.one))
          (take others (map parameter_of slots))
          (length (take others (map parameter_of slots)))) ∷ []))) (store_is slot.one.scalar slot.one.place)

      first : IsBehind at (word_item (store_form slot.one.scalar) slot.one.place ∷ [])
          (after_word at_start.facts (store_form slot.one.scalar) slot.one.place)
          (below_return_steps (take others (map parameter_of slots))
          ++ (holds (known_from (with_argument no_facts (parameter_of slot.one))
          (take others (map parameter_of slots))
          (length (take others (map parameter_of slots)))) ∷ [])) list begun
      first =
          word_behind at (store_form slot.one.scalar) slot.one.place
          (below_return_steps (take others (map parameter_of slots))
          ++ (holds (known_from (with_argument no_facts (parameter_of slot.one))
          (take others (map parameter_of slots))
          (length (take others (map parameter_of slots)))) ∷ []))
          (subst (λ (steps : List Planned). AreCarriedOut at.body at.context.called at_start
          None steps list begun)
          steps_are written)

      first_parts : PartedThere at.context.activation
          (word_item (store_form slot.one.scalar) slot.one.place ∷ [])
          first.more from (from + 3) to
      first_parts =
          word_parted (store_form slot.one.scalar) slot.one.place first.more
          (subst (λ (list : List Item). IsThere at.context.activation list from to) first.is there)

      lies : InRegister slot.one.scalar value.one r
      lies = last_lies slots values (top + 2) others value.one slot.one r entered arguments
          (sym count) slot.is value.is

      held : Held slots values (with_argument no_facts (parameter_of slot.one)) r
      held =
          held_then slot.one.scalar slots values no_facts r r value.one (Static slot.one.place)
          (record {
            index = others;
            slot = slot.one;
            there = slot.is;
            value_is = value.is;
            scalar_is = refl;
            location_is = refl;
          })
          lies on.registers (λ same. (refl, refl)) (λ same. refl)
          (record { byte = tt; word = tt; address = refl; zero = refl })

      taken : (index : ℕ) → index < length (take others (map parameter_of slots))
          → IsTaken at (take others (map parameter_of slots)) slots values entered
          (top + 2 + 2 * (length (take others (map parameter_of slots)) - 1 - index)) index
      taken index below =
          let its = at_index slots index (omega (arith, below, rest_length, count)) in
          let its_value = at_index values index (omega (arith, below, rest_length, count, many)) in
          record {
            slot = its.one;
            value = its_value.one;
            there = its.is;
            value_is = its_value.is;
            parameter =
                taken_first others (map parameter_of slots) index (omega (arith, below, rest_length))
                ∙ mapped slots index its.one its.is;
            lies = (lie index its.one its.is).0;
            small = (lie index its.one its.is).1;
            variables =
                variables_at at.context.activation.around.program slots index its.one variables its.is;
            word =
                subst (λ (address : ℕ). InWord its.one.scalar its_value.one entered address)
                (omega (arith, rest_length, count))
                (other_lies slots values (top + 2) index its_value.one its.one r entered arguments
                (omega (arith, below, rest_length, count)) its.is its_value.is);
          }

      source_is :
          put_down (length (take others (map parameter_of slots))) slots values
          (put slot.one.scalar slot.one.at value.one source)
          ≡ put_down (length slots) slots values source
      source_is =
          ap (λ (number : ℕ). put_down number slots values (put slot.one.scalar slot.one.at value.one source))
          rest_length
          ∙ ap (λ (source : List ℕ). put_down others slots values source)
          (sym (nth_is others slots values source slot.one value.one slot.is value.is))
          ∙ ap (λ (number : ℕ). put_down number slots values source) (sym count)

      ending :
          (below : IsBelow at sound no_frame entered frame none (take others
          (map parameter_of slots)) slots values top
          back start (omega (arith, high, count, rest_length)) taken return_lies
          (with_argument no_facts (parameter_of slot.one)) (put slot.one.scalar slot.one.at value.one source)
          (put slot.one.scalar slot.one.at value.one entered) r begun
          (holds (known_from (with_argument no_facts (parameter_of slot.one))
          (take others (map parameter_of slots))
          (length (take others (map parameter_of slots)))) ∷ [])
          to (with_argument no_facts (parameter_of slot.one)))
          → Does (loaded_of at.context.activation) t.budget 0
          (at_place below.from below.now below.ended t.events) (Gave tt t) Good
      ending below =
          finish
          (known_from (with_argument no_facts (parameter_of slot.one)) (take others (map parameter_of slots))
          (length (take others (map parameter_of slots))))
          below.here below.list below.from (top + 2 * length (take others (map parameter_of slots)))
          below.stacked
          below.now below.ended below.written below.there (on_now below)
          (omega (arith, rest_length, count)) below.returns
          (held_known at sound no_frame entered frame none slots values source lie apart many size variables
          (known_from (with_argument no_facts (parameter_of slot.one)) (take others (map parameter_of slots))
          (length (take others (map parameter_of slots)))) below.now below.ended
          (on_now below).shares below.held)
        where
          on_now :
              (below : IsBelow at sound no_frame entered frame none (take others
              (map parameter_of slots)) slots values
              top back start (omega (arith, high, count, rest_length)) taken return_lies
              (with_argument no_facts (parameter_of slot.one))
              (put slot.one.scalar slot.one.at value.one source)
              (put slot.one.scalar slot.one.at value.one entered) r begun
              (holds (known_from (with_argument no_facts (parameter_of slot.one))
              (take others (map parameter_of slots))
              (length (take others (map parameter_of slots)))) ∷ [])
              to (with_argument no_facts (parameter_of slot.one)))
              → Underway at (top + 2 + 2 * (length slots - 1)) entered below.stacked below.here.facts
              (top + 2 * length (take others (map parameter_of slots)))
              (put_down (length slots) slots values source)
              below.now below.ended
          on_now below =
              subst (λ (above : ℕ).
              Underway at above entered below.stacked below.here.facts
              (top + 2 * length (take others (map parameter_of slots)))
              (put_down (length slots) slots values source)
              below.now below.ended) (omega (arith, rest_length, count))
              (subst (λ (source : List ℕ).
              Underway at (top + 2 + 2 * length (take others (map parameter_of slots))) entered below.stacked
              below.here.facts (top + 2 * length (take others (map parameter_of slots))) source
              below.now below.ended)
              source_is below.on)
