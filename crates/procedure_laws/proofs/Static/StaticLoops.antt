-- Arguments on the stack go to their parameters, from the last of them on.
use Rattle.procedure_laws.proofs.Prelude.{◌≡◌, ℕ, zero, suc, ◌+◌, ◌-◌, ◌*◌, ◌/◌, ◌%◌, ◌<◌, ◌≤◌, false, List, [], ◌∷◌, ◌++◌, length, slice_get, Option, Some, None, refl, sym, ap, subst, ◌∙◌, arith, MEMORY_SIZE, byte_at, byte_small, Event, ScalarType, Byte, Address, frame_bytes, Outcome, SourceState, Instr, Pop, HoldBytes, Registers, State, with_popped, wrap, Item, WordForm, size_of_instruction, Location, Static, Place, Parameter, Activation, IsThere, IsVariable, Does, loaded_of, at_place, both_there, place_at, Facts, after, after_word, word_item, Planned, plain, Here, AreCarriedOut, argument_facts, known_at, known_from, pair_of, popped_argument_steps, popped_at, popped_from, store_argument, with_argument, InRegister, InWord, IsSound, popped_bytes, BodyContext, byte_as_low, high_of_sum, low_of_sum}
use Rattle.asm8080.specs.declared.item.Item.TheVariants as items
use Rattle.statements8080.specs.internal.Plans.{word}
use Rattle.procedure_laws.proofs.Planned.{IsBehind, plain_behind, word_behind}
use Rattle.procedure_laws.proofs.Puts.{IsPart, Slot, put, put_down, put_nth}
use Rattle.procedure_laws.proofs.Static.StaticStages.{Underway, pop_goes, store_form, store_goes}
use Rattle.procedure_laws.proofs.CallInstructions.{word_kept}

-- items after the first one
pub record PartedThere (activation : Activation) (first others : List Item)
    (from middle to : ℕ) : Type 0 where
  pub one : IsThere activation first from middle
  pub rest : IsThere activation others middle to

pub plain_parted :
    {activation : Activation} {from to : ℕ} (i : Instr) (others : List Item)
    → IsThere activation (items.Plain i ∷ others) from to
    → PartedThere activation (items.Plain i ∷ []) others from (from + size_of_instruction i) to
plain_parted {activation = activation} {from = from} {to = to} i others there =
    let parts = both_there (items.Plain i ∷ []) others there in
    let same : from + size_of_instruction i ≡ parts.middle = parts.first.stands.1 in
    subst (λ (middle : ℕ). PartedThere activation (items.Plain i ∷ []) others from middle to) (sym same)
    (record { one = parts.first; rest = parts.second })

pub word_parted :
    {activation : Activation} {from to : ℕ} (form : WordForm) (place : Place) (others : List Item)
    → IsThere activation (word_item form place ∷ others) from to
    → PartedThere activation (word_item form place ∷ []) others from (from + 3) to
word_parted {activation = activation} {from = from} {to = to} form place others there =
    let parts = both_there (word_item form place ∷ []) others there in
    let same : from + 3 ≡ parts.middle = parts.first.stands.1 in
    subst (λ (middle : ℕ). PartedThere activation (word_item form place ∷ []) others from middle to)
    (sym same)
    (record { one = parts.first; rest = parts.second })

-- what a register is known to hold: a value that goes to a parameter
pub record HeldAs (slots : List Slot) (values : List ℕ) (scalar : ScalarType)
    (location : Location) (value : ℕ) :
    Type 0 where
  pub index : ℕ
  pub slot : Slot
  pub there : slice_get slots index ≡ Some slot
  pub value_is : slice_get values index ≡ Some value
  pub scalar_is : slot.scalar ≡ scalar
  pub location_is : location ≡ Static slot.place

abbrev pub HeldByte : List Slot → (values : List ℕ) → Option Location → (a : ℕ) → Type 0
HeldByte slots values None a = Unit {0}
HeldByte slots values (Some location) a =
    (value : ℕ) × (a ≡ value % 256) × HeldAs slots values Byte location value

abbrev pub HeldWord : List Slot → (values : List ℕ) → Option Location → (h l : ℕ) → Type 0
HeldWord slots values None h l = Unit {0}
HeldWord slots values (Some location) h l =
    (value : ℕ) × ((h ≡ value / 256) × (l ≡ value % 256)) × HeldAs slots values Address location value

pub record Held (slots : List Slot) (values : List ℕ) (facts : Facts) (r : Registers) : Type 0 where
  pub byte : HeldByte slots values facts.byte_in_a r.a
  pub word : HeldWord slots values facts.word_in_hl r.h r.l
  pub address : facts.address_in_hl ≡ None
  pub zero : facts.zero_shows_a ≡ false

pub store_is : (scalar : ScalarType) (place : Place)
    → store_argument scalar (Static place) ≡ word (store_form scalar) place
store_is Byte place = refl
store_is Address place = refl

pub nth_is : (index : ℕ) (slots : List Slot) (values memory : List ℕ) (slot : Slot) (value : ℕ)
    → slice_get slots index ≡ Some slot → slice_get values index ≡ Some value
    → put_nth index slots values memory ≡ put slot.scalar slot.at value memory
nth_is index [] values memory slot value there is = let bad : ⊥ = cc in absurd bad
nth_is index (first ∷ slots) [] memory slot value there is = let bad : ⊥ = cc in absurd bad
nth_is zero (first ∷ slots) (number ∷ values) memory slot value there is =
    let one : first ≡ slot = cc in
    let other : number ≡ value = cc in
    ap (λ (one : Slot). put one.scalar one.at number memory) one
    ∙ ap (λ (one : ℕ). put slot.scalar slot.at one memory) other
nth_is (suc index) (first ∷ slots) (number ∷ values) memory slot value there is =
    nth_is index slots values memory slot value there is

-- what POP takes
word_small : (low high : ℕ) → low < 256 → high < 256 → low + 256 * high < MEMORY_SIZE
word_small low high one other = omega (arith, one, other)

in_register : (scalar : ScalarType) (value low high sp : ℕ) (r : Registers) (memory : List ℕ) (address : ℕ)
    → low < 256
    → low ≡ byte_at memory address
    → high ≡ byte_at memory (address + 1)
    → InWord scalar value memory address
    → InRegister scalar value (record (with_popped (pair_of scalar) (low + 256 * high) r) { sp = sp })
in_register Byte value low high sp r memory address small one other lies =
    high_of_sum low high small ∙ other ∙ lies
in_register Address value low high sp r memory address small one other lies =
    (high_of_sum low high small ∙ other ∙ lies.1, low_of_sum low high small ∙ one ∙ lies.0)

same_d : (scalar : ScalarType) (word sp : ℕ) (r : Registers)
    → (record (with_popped (pair_of scalar) word r) { sp = sp }).d ≡ r.d
same_d Byte word sp r = refl
same_d Address word sp r = refl

same_e : (scalar : ScalarType) (word sp : ℕ) (r : Registers)
    → (record (with_popped (pair_of scalar) word r) { sp = sp }).e ≡ r.e
same_e Byte word sp r = refl
same_e Address word sp r = refl

-- a value that is in its register is known to be there
pub held_then : (scalar : ScalarType) (slots : List Slot) (values : List ℕ)
    (facts : Facts) (r now : Registers)
    (value : ℕ) (location : Location)
    → HeldAs slots values scalar location value
    → InRegister scalar value now
    → HoldBytes now
    → (scalar ≡ Byte → (now.h ≡ r.h) × (now.l ≡ r.l))
    → (scalar ≡ Address → now.a ≡ r.a)
    → Held slots values facts r
    → Held slots values (argument_facts scalar location facts) now
held_then Byte slots values facts r now value location held lies bytes pair byte before =
    let same = pair refl in
    record {
      byte = (value, byte_as_low now.a value lies bytes.a, held);
      word =
          subst (λ (h : ℕ). HeldWord slots values facts.word_in_hl h now.l) (sym same.0)
          (subst (λ (l : ℕ). HeldWord slots values facts.word_in_hl r.h l) (sym same.1) before.word);
      address = before.address;
      zero = before.zero;
    }
held_then Address slots values facts r now value location held lies bytes pair byte before =
    record {
      byte = subst (λ (a : ℕ). HeldByte slots values facts.byte_in_a a) (sym (byte refl)) before.byte;
      word = (value, lies, held);
      address = before.address;
      zero = before.zero;
    }

same_pair : (scalar : ScalarType) (word sp : ℕ) (r : Registers) → scalar ≡ Byte
    → ((record (with_popped (pair_of scalar) word r) { sp = sp }).h ≡ r.h)
    × ((record (with_popped (pair_of scalar) word r) { sp = sp }).l ≡ r.l)
same_pair Byte word sp r same = (refl, refl)
same_pair Address word sp r same = let bad : ⊥ = cc in absurd bad

same_a : (scalar : ScalarType) (word sp : ℕ) (r : Registers) → scalar ≡ Address
    → (record (with_popped (pair_of scalar) word r) { sp = sp }).a ≡ r.a
same_a Byte word sp r same = let bad : ⊥ = cc in absurd bad
same_a Address word sp r same = refl

-- an argument on the stack, and the parameter that it goes to
pub record IsTaken
    (at : BodyContext) (parameters : List Parameter) (slots : List Slot) (values stacked : List ℕ)
    (address index : ℕ) : Type 0 where
  pub slot : Slot
  pub value : ℕ
  pub there : slice_get slots index ≡ Some slot
  pub value_is : slice_get values index ≡ Some value
  pub parameter : slice_get parameters index
      ≡ Some (record { scalar = slot.scalar; location = Static slot.place })
  pub lies : place_at at.context.activation.layout slot.place ≡ slot.at
  pub small : slot.at < MEMORY_SIZE
  pub variables : (address : ℕ) → IsPart slot.scalar slot.at address
      → IsVariable at.context.activation.around.program address
  pub word : InWord slot.scalar value stacked address

module _ (at : BodyContext) (sound : IsSound at.context)
    (no_frame : (object : ℕ) → at.context.activation.size object ≡ 0)
    (above : ℕ) (entered : List ℕ) (frame : List (List ℕ))
    (none : (object : ℕ) → length (frame_bytes frame object) ≡ 0)
    (parameters : List Parameter) (slots : List Slot) (values stacked : List ℕ) (base total : ℕ)
    (start : at.context.activation.floor ≤ base)
    (high : base + 2 * total ≤ at.context.activation.around.program.placement.stack.start
    + at.context.activation.around.program.placement.stack.len)
    (taken : (index : ℕ) → index < total
    → IsTaken at parameters slots values stacked (base + 2 * (total - 1 - index)) index) where
  steps_are : (count : ℕ) (rest : List Planned) (slot : Slot)
      → slice_get parameters count ≡ Some (record { scalar = slot.scalar; location = Static slot.place })
      → popped_from parameters (suc count) ++ rest
      ≡ plain (Pop (pair_of slot.scalar)) ∷ word (store_form slot.scalar) slot.place
      ∷ (popped_from parameters count ++ rest)
  unfolding popped_from popped_at
  steps_are count rest slot is =
      ap (λ (found : Option Parameter).
      (elim found [
        | Some parameter ↦ popped_argument_steps parameter
        | None ↦ []
      ] ++ popped_from parameters count) ++ rest) is
      ∙ ap (λ (step : Planned).
      plain (Pop (pair_of slot.scalar)) ∷ step ∷ (popped_from parameters count ++ rest))
      (store_is slot.scalar slot.place)

  known_is : (count : ℕ) (facts : Facts) (slot : Slot)
      → slice_get parameters count ≡ Some (record { scalar = slot.scalar; location = Static slot.place })
      → known_from facts parameters (suc count)
      ≡ known_from (argument_facts slot.scalar (Static slot.place) facts) parameters count
  unfolding known_from known_at
  known_is count facts slot is =
      ap (λ (found : Option Parameter).
      known_from (elim found [
        | Some parameter ↦ with_argument facts parameter
        | None ↦ facts
      ]) parameters count) is

  pub loop_does :
      {A : Type 0} {outcome : Outcome A} {Good : A → SourceState → State → Type 0} {budget : ℕ}
      {events : List Event}
      (count : ℕ) (rest : List Planned) (facts : Facts) (here last : Here)
      (list : List Item) (from to top : ℕ)
      (source memory : List ℕ) (r : Registers)
      → count ≤ total
      → top ≡ base + 2 * (total - count)
      → AreCarriedOut at.body at.context.called here None (popped_from parameters count ++ rest) list last
      → IsThere at.context.activation list from to
      → Underway at above entered stacked here.facts top source r memory
      → Held slots values facts r
      → ((here_then : Here) (list_then : List Item) (from_then : ℕ) (now : Registers)
      → AreCarriedOut at.body at.context.called here_then None rest list_then last
      → IsThere at.context.activation list_then from_then to
      → Underway at above entered stacked here_then.facts (base + 2 * total)
      (put_down count slots values source) now
      (put_down count slots values memory)
      → Held slots values (known_from facts parameters count) now
      → now.d ≡ r.d
      → now.e ≡ r.e
      → Does (loaded_of at.context.activation) budget 0
      (at_place from_then now (put_down count slots values memory) events) outcome Good)
      → Does (loaded_of at.context.activation) budget 0 (at_place from r memory events) outcome Good
  unfolding popped_from known_from
  loop_does zero rest facts here last list from to top source memory r few top_is written there on held go =
      go here list from r written there
      (subst (λ (top : ℕ). Underway at above entered stacked here.facts top source r memory)
      (top_is ∙ all total) on)
      held refl refl
    where
      all : (total : ℕ) → base + 2 * (total - 0) ≡ base + 2 * total
      all total = omega arith
  loop_does {A = A} {outcome = outcome} {Good = Good} {budget = budget} {events = events} (suc count) rest
      facts here last list from to top source memory r few top_is written there on held go =
      pop_goes at sound no_frame above entered frame none (pair_of one.slot.scalar)
      (byte_at memory top + 256 * byte_at memory (top + 1)) r
      (word_small (byte_at memory top) (byte_at memory (top + 1)) low_small high_small)
      (sym (low_of_sum (byte_at memory top) (byte_at memory (top + 1)) low_small))
      (sym (high_of_sum (byte_at memory top) (byte_at memory (top + 1)) low_small)) limit first_parts.one on
      (λ popped.
      store_goes at sound no_frame above entered frame none one.slot one.value now one.lies
      one.variables one.small
      lies_now second_parts.one
      popped
      (λ stored.
      subst (λ (memory : List ℕ).
      Does (loaded_of at.context.activation) budget 0
      (at_place (from + size_of_instruction (Pop (pair_of one.slot.scalar)) + 3) now memory events) outcome
      Good)
      (nth_is count slots values memory one.slot one.value one.there one.value_is)
      (loop_does count rest (argument_facts one.slot.scalar (Static one.slot.place) facts)
      second.here last second.more
      (from + size_of_instruction (Pop (pair_of one.slot.scalar)) + 3) to (top + 2)
      (put_nth count slots values source) (put_nth count slots values memory) now (omega (arith, few))
      (omega (arith, top_is, few)) second.written second_parts.rest
      (underway_now stored) held_now
      (λ here_then list_then from_then last_registers written_then there_then on_then held_last d e.
      go here_then list_then from_then last_registers written_then there_then on_then
      (subst (λ (facts : Facts). Held slots values facts last_registers)
      (sym (known_is count facts one.slot one.parameter)) held_last)
      (d ∙ same_d one.slot.scalar (byte_at memory top + 256 * byte_at memory (top + 1)) (wrap (top + 2)) r)
      (e ∙ same_e one.slot.scalar (byte_at memory top + 256 * byte_at memory (top + 1))
      (wrap (top + 2)) r)))))
    where
      one : IsTaken at parameters slots values stacked (base + 2 * (total - 1 - count)) count
      one = taken count (omega (arith, few))

      first : IsBehind at (items.Plain (Pop (pair_of one.slot.scalar)) ∷ [])
          (after here.facts (Pop (pair_of one.slot.scalar)))
          (word (store_form one.slot.scalar) one.slot.place ∷ (popped_from parameters count ++ rest)) list
          last
      first =
          plain_behind at (Pop (pair_of one.slot.scalar))
          (word (store_form one.slot.scalar) one.slot.place ∷ (popped_from parameters count ++ rest))
          (subst (λ (steps : List Planned). AreCarriedOut at.body at.context.called here None steps list last)
          (steps_are count rest one.slot one.parameter) written)

      second : IsBehind at (word_item (store_form one.slot.scalar) one.slot.place ∷ [])
          (after_word first.here.facts (store_form one.slot.scalar) one.slot.place)
          (popped_from parameters count ++ rest)
          first.more last
      second =
          word_behind at (store_form one.slot.scalar) one.slot.place
          (popped_from parameters count ++ rest) first.written

      first_parts : PartedThere at.context.activation
          (items.Plain (Pop (pair_of one.slot.scalar)) ∷ []) first.more from
          (from + size_of_instruction (Pop (pair_of one.slot.scalar))) to
      first_parts =
          plain_parted (Pop (pair_of one.slot.scalar)) first.more
          (subst (λ (list : List Item). IsThere at.context.activation list from to) first.is there)

      second_parts : PartedThere at.context.activation
          (word_item (store_form one.slot.scalar) one.slot.place ∷ [])
          second.more (from + size_of_instruction (Pop (pair_of one.slot.scalar)))
          (from + size_of_instruction (Pop (pair_of one.slot.scalar)) + 3) to
      second_parts =
          word_parted (store_form one.slot.scalar) one.slot.place second.more
          (subst (λ (list : List Item).
          IsThere at.context.activation list
          (from + size_of_instruction (Pop (pair_of one.slot.scalar))) to) second.is
          first_parts.rest)

      low_small : byte_at memory top < 256
      low_small = byte_small memory top on.shares.is_memory

      high_small : byte_at memory (top + 1) < 256
      high_small = byte_small memory (top + 1) on.shares.is_memory

      limit : top + 2 ≤ MEMORY_SIZE
      limit =
          let stack = sound.lies.placed.stack_in_memory in
          omega (arith, top_is, few, high, stack)

      now : Registers
      now =
          record (with_popped (pair_of one.slot.scalar)
          (byte_at memory top + 256 * byte_at memory (top + 1)) r) {
            sp = wrap (top + 2);
          }

      address_is : base + 2 * (total - 1 - count) ≡ top
      address_is = omega (arith, top_is, few)

      word_there : InWord one.slot.scalar one.value memory top
      word_there =
          word_kept one.slot.scalar one.value top stacked memory
          (on.stack top (omega (arith, top_is, start)) (omega (arith, top_is, few, high)))
          (on.stack (top + 1) (omega (arith, top_is, start)) (omega (arith, top_is, few, high)))
          (subst (λ (address : ℕ). InWord one.slot.scalar one.value stacked address) address_is one.word)

      lies_now : InRegister one.slot.scalar one.value now
      lies_now =
          in_register one.slot.scalar one.value (byte_at memory top) (byte_at memory (top + 1))
          (wrap (top + 2)) r memory
          top low_small refl refl word_there

      bytes_now : HoldBytes now
      bytes_now =
          popped_bytes (pair_of one.slot.scalar)
          (byte_at memory top + 256 * byte_at memory (top + 1)) r (wrap (top + 2))
          (word_small (byte_at memory top) (byte_at memory (top + 1)) low_small high_small) on.registers

      held_now : Held slots values (argument_facts one.slot.scalar (Static one.slot.place) facts) now
      held_now =
          held_then one.slot.scalar slots values facts r now one.value (Static one.slot.place)
          (record {
            index = count;
            slot = one.slot;
            there = one.there;
            value_is = one.value_is;
            scalar_is = refl;
            location_is = refl;
          })
          lies_now bytes_now
          (same_pair one.slot.scalar (byte_at memory top + 256 * byte_at memory (top + 1)) (wrap (top + 2)) r)
          (same_a one.slot.scalar (byte_at memory top + 256 * byte_at memory (top + 1)) (wrap (top + 2)) r)
          held

      underway_now :
          Underway at above entered stacked
          (after_word (after here.facts (Pop (pair_of one.slot.scalar)))
          (store_form one.slot.scalar) one.slot.place)
          (top + 2) (put one.slot.scalar one.slot.at one.value source) now
          (put one.slot.scalar one.slot.at one.value memory)
          → Underway at above entered stacked second.here.facts (top + 2)
          (put_nth count slots values source) now
          (put_nth count slots values memory)
      underway_now stored =
          subst (λ (memory : List ℕ).
          Underway at above entered stacked second.here.facts (top + 2)
          (put_nth count slots values source) now memory)
          (sym (nth_is count slots values memory one.slot one.value one.there one.value_is))
          (subst (λ (source : List ℕ).
          Underway at above entered stacked second.here.facts (top + 2) source now
          (put one.slot.scalar one.slot.at one.value memory))
          (sym (nth_is count slots values source one.slot one.value one.there one.value_is))
          (subst (λ (known : Facts).
          Underway at above entered stacked known (top + 2)
          (put one.slot.scalar one.slot.at one.value source) now
          (put one.slot.scalar one.slot.at one.value memory))
          (ap (λ (known : Facts). after_word known (store_form one.slot.scalar) one.slot.place)
          (sym first.facts)
          ∙ sym second.facts) stored))
