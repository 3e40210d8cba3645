-- The code for the address of a base: without computed subscripts, or with their sum in HL.
use Rattle.task_laws.proofs.Prelude.{◌≡◌, ℕ, ◌+◌, ◌*◌, ◌<◌, Bool, true, false, List, [], ◌∷◌, ◌++◌, refl, sym, ap, subst, ◌∙◌, arith, byte_at, SourcePlace, InMemory, InTheFrame, home_of, place_of, based_place, SourceState, Outcome, Gave, Dad, Lxi, Xchg, Bc, De, Sp, Registers, State, high_byte, low_byte, word, wrap, Number, is_static_location, Does, loaded_of, at_place, Activation, HasRoom, location_at, place_at, no_facts_hold, Facts, Part, Plain, no_facts, Base, distance, addition_steps, base_added_steps, base_steps, location_word_steps, knowing, Context, IsSound, distances_in, StepsStand, Know, Left, address_on_machine}
use Rattle.treecode.specs.declared.place.Location.TheVariants as locations
use Rattle.steps8080.specs.declared.sites.queries.Base.TheVariants as bases
use Rattle.task_laws.proofs.Machine.Rules.{GoesOn, steps_split}
use Rattle.task_laws.proofs.Machine.RegisterCode.{registers_then}
use Rattle.task_laws.proofs.Machine.Addresses.{addition_goes, back_together, location_address_goes, registers_end}
use Rattle.task_laws.proofs.Places.LocationWords.{frame_away, location_word_goes}
use Rattle.task_laws.proofs.Places.Reading.{word_read}
use Rattle.task_laws.proofs.Places.Bases.{IsBase, InAFrame, InPlace, IsSmall, OnBase}

-- the registers that the code of a base keeps, with and without computed subscripts
abbrev pub base_keeps_a : Base → Bool
base_keeps_a (bases.Based pointer offset) = is_static_location pointer
base_keeps_a base = true

abbrev pub added_base_keeps_de : Base → Bool
added_base_keeps_de (bases.Based pointer offset) = false
added_base_keeps_de base = true

-- HL is the address of a place, and the kept registers are the same
pub record PlaceBeside
    (activation : Activation) (keeps_a keeps_de : Bool) (r : Registers) (found : SourcePlace)
    (now : Registers) : Type 0 where
  pub hl : word now.h now.l ≡ address_on_machine activation found
  pub a : Left keeps_a r.a now.a
  pub d : Left keeps_de r.d now.d
  pub e : Left keeps_de r.e now.e

alone : (bytes known : ℕ) → wrap bytes ≡ wrap known → wrap bytes ≡ wrap (0 + known)
alone bytes known is = omega (arith, is)

at_it : (address : ℕ) → address < 65536 → address ≡ wrap (address + 0)
at_it address small = omega (arith, small)

in_hl : (h l low high : ℕ) → l ≡ low → h ≡ high → word h l ≡ low + 256 * high
in_hl h l low high one two = omega (arith, one, two)

sum_is : (start offset known bytes sum : ℕ) → wrap offset ≡ wrap known → wrap bytes ≡ wrap known
    → sum ≡ wrap (start + offset) → sum ≡ wrap (start + bytes)
sum_is start offset known bytes sum one two is = omega (arith, one, two, is)

-- the address that a base is
pub base_goes :
    {Good : SourcePlace → SourceState → State → Type 0}
    {context : Context} {PartIs : (before : Facts) → Part → (from : ℕ) → (after : Facts) → (to : ℕ) → Type 0}
    {last : Facts} {to top pushed need budget more object known : ℕ} {base_memory memory : List ℕ}
    {facts : Facts} {from : ℕ} (used : Facts) (base : Base) (bytes : ℕ) (is_inside : Bool)
    (s : SourceState) (r : Registers)
    → IsSound context
    → HasRoom context.activation top pushed need
    → IsSmall context base
    → IsBase context object known base
    → wrap bytes ≡ wrap known
    → Know context used r memory
    → StepsStand context PartIs facts from (base_steps (knowing context.site used) base pushed) last to
    → GoesOn context facts top base_memory s.memory s.frame r memory
    → ((now : Registers) (found : SourcePlace)
    → PlaceBeside context.activation (base_keeps_a base) true r found now
    → GoesOn context last top base_memory s.memory s.frame now memory
    → Does (loaded_of context.activation) budget more (at_place to now memory s.events)
    (Gave found s) Good)
    → Does (loaded_of context.activation) budget more (at_place from r memory s.events)
    (based_place (home_of context.activation.around object) context.activation.around object
    bytes is_inside s) Good
base_goes {Good = Good} {context = context} {budget = budget} {more = more} {known = known} {memory = memory}
    {from = from} used (bases.Static place) bytes is_inside s r sound room small (InPlace at) is
    known_here stand on rest =
    subst (λ (outcome : Outcome SourcePlace). Does (loaded_of context.activation) budget more
    (at_place from r memory s.events) outcome Good)
    (sym (at bytes 0 is_inside s (alone bytes known is)))
    (location_address_goes used (locations.Static place) r sound room small known_here stand on
    (λ now beside on. rest now (InMemory (wrap (place_at context.activation.layout place + 0))) (record {
      hl = beside.hl ∙ at_it (place_at context.activation.layout place) small;
      a = λ kept. beside.a;
      d = λ kept. beside.d;
      e = λ kept. beside.e;
    }) on))
base_goes {Good = Good} {context = context} {budget = budget} {more = more} {object = object} {known = known}
    {memory = memory} {from = from} used (bases.Frame variable offset) bytes is_inside s r sound room small
    (InAFrame at is_at) is known_here stand on rest =
    subst (λ (outcome : Outcome SourcePlace). Does (loaded_of context.activation) budget more
    (at_place from r memory s.events) outcome Good)
    (sym (at bytes is_inside s))
    (location_address_goes used (locations.Frame variable offset) r sound room
    (omega arith) known_here stand on
    (λ now beside on. rest now (InTheFrame object bytes is_inside) (record {
      hl = beside.hl
          ∙ at_it (location_at context.activation (distances_in context) (locations.Frame variable offset))
          (omega arith)
          ∙ sym (is_at bytes 0 (alone bytes known is));
      a = λ kept. beside.a;
      d = λ kept. beside.d;
      e = λ kept. beside.e;
    }) on))
base_goes {Good = Good} {context = context} {PartIs = PartIs} {last = last} {to = to} {top = top}
    {pushed = pushed} {need = need} {budget = budget} {more = more} {object = object} {known = known}
    {memory = memory} {facts = facts} {from = from} used (bases.Based pointer offset) bytes is_inside s r
    sound room small (OnBase base offset_is at pointer_is fits) is known_here stand on rest =
    subst (λ (outcome : Outcome SourcePlace). Does (loaded_of context.activation) budget more
    (at_place from r memory s.events) outcome Good)
    (sym (at bytes is_inside s))
    (word_read (place_of context.activation.around base) s
    (λ start t. Gave (InMemory (wrap (start + bytes))) t) sound on.ready fits
    (λ steady next.
    let parts =
    steps_split (location_word_steps (knowing context.site used) pointer pushed)
    (addition_steps (Number offset)) stand in
    let place : SourcePlace = place_of context.activation.around base in
    let low : ℕ = byte_at memory (address_on_machine context.activation place) in
    let high : ℕ = byte_at memory (wrap (address_on_machine context.activation place + 1)) in
    location_word_goes used pointer r sound room
    (subst (λ (n : ℕ). Rattle.code_meaning.specs.internal.Holding.IsSteady context.activation n) pointer_is steady)
    (subst (λ (n : ℕ). Rattle.code_meaning.specs.internal.Holding.IsSteady context.activation (wrap (n + 1)))
    pointer_is next)
    known_here parts.first on
    (λ there word_there on_there.
    addition_goes (Number offset) there sound small parts.second on_there
    (λ now beside on.
    rest now (InMemory (wrap (low + 256 * high + bytes))) (record {
      hl = sum_is (low + 256 * high) offset known bytes (word now.h now.l) offset_is is
          (beside.hl
          ∙ ap (λ (n : ℕ). wrap (n + offset))
          (in_hl there.h there.l low high
          (word_there.low ∙ ap (byte_at memory) (sym pointer_is))
          (word_there.high ∙ ap (λ (n : ℕ). byte_at memory (wrap (n + 1))) (sym pointer_is))));
      a = λ kept. beside.a ∙ word_there.a kept;
      d = λ kept. beside.d ∙ word_there.d;
      e = λ kept. beside.e ∙ word_there.e;
    }) on))))

added_at : (hl address bytes known : ℕ) → wrap bytes ≡ wrap (hl + known)
    → wrap (hl + address) ≡ wrap (address + hl)
added_at hl address bytes known is = omega arith

framed : (h l away sp address : ℕ) → wrap (away + sp) ≡ address
    → wrap (word (high_byte (wrap (word h l + word (high_byte away) (low_byte away))))
    (low_byte (wrap (word h l + word (high_byte away) (low_byte away)))) + sp)
    ≡ wrap (address + word h l)
framed h l away sp address is = omega (arith, is)

pointed : (d e h l start bytes known offset now : ℕ) → wrap offset ≡ wrap known
    → wrap bytes ≡ wrap (word d e + known)
    → word h l ≡ start
    → now ≡ wrap
    (word (high_byte (wrap (word h l + word d e))) (low_byte (wrap (word h l + word d e))) + offset)
    → now ≡ wrap (start + bytes)
pointed d e h l start bytes known offset now one two three is = omega (arith, one, two, three, is)

-- the address of a base, plus HL
pub base_added_goes :
    {Good : SourcePlace → SourceState → State → Type 0}
    {context : Context} {PartIs : (before : Facts) → Part → (from : ℕ) → (after : Facts) → (to : ℕ) → Type 0}
    {last : Facts} {to top pushed need budget more object known : ℕ} {base_memory memory : List ℕ}
    {facts : Facts} {from : ℕ} (used : Facts) (base : Base) (bytes : ℕ) (is_inside : Bool)
    (s : SourceState) (r : Registers)
    → IsSound context
    → HasRoom context.activation top pushed need
    → IsSmall context base
    → IsBase context object known base
    → wrap bytes ≡ wrap (word r.h r.l + known)
    → StepsStand context PartIs facts from (base_added_steps (knowing context.site used) base pushed) last to
    → GoesOn context facts top base_memory s.memory s.frame r memory
    → ((now : Registers) (found : SourcePlace)
    → PlaceBeside context.activation (base_keeps_a base) (added_base_keeps_de base) r found now
    → GoesOn context last top base_memory s.memory s.frame now memory
    → Does (loaded_of context.activation) budget more (at_place to now memory s.events)
    (Gave found s) Good)
    → Does (loaded_of context.activation) budget more (at_place from r memory s.events)
    (based_place (home_of context.activation.around object) context.activation.around object
    bytes is_inside s) Good
unfolding distance
base_added_goes {Good = Good} {context = context} {budget = budget} {more = more} {known = known}
    {memory = memory} {from = from} used (bases.Static place) bytes is_inside s r sound room small
    (InPlace at) is stand on rest =
    let address : ℕ = place_at context.activation.layout place in
    subst (λ (outcome : Outcome SourcePlace). Does (loaded_of context.activation) budget more
    (at_place from r memory s.events) outcome Good)
    (sym (at bytes (word r.h r.l) is_inside s is))
    (addition_goes place r sound small stand on
    (λ now beside on. rest now (InMemory (wrap (address + word r.h r.l))) (record {
      hl = beside.hl ∙ added_at (word r.h r.l) address bytes known is;
      a = λ kept. beside.a;
      d = λ kept. beside.d;
      e = λ kept. beside.e;
    }) on))
base_added_goes {Good = Good} {context = context} {top = top} {pushed = pushed} {need = need}
    {budget = budget} {more = more} {object = object} {known = known} {memory = memory} {from = from} used
    (bases.Frame variable offset) bytes is_inside s r sound room small (InAFrame at is_at) is stand on rest =
    let away : ℕ = distance context.site variable offset pushed in
    let address : ℕ =
    location_at context.activation (distances_in context) (locations.Frame variable offset) in
    let first : ℕ = wrap (word r.h r.l + word (high_byte away) (low_byte away)) in
    subst (λ (outcome : Outcome SourcePlace). Does (loaded_of context.activation) budget more
    (at_place from r memory s.events) outcome Good)
    (sym (at bytes is_inside s))
    (registers_end (Lxi Bc away ∷ Dad Bc ∷ Dad Sp ∷ []) r sound (tt, (tt, (tt, tt))) stand on
    (λ on. rest _ (InTheFrame object bytes is_inside) (record {
      hl = back_together (word (high_byte first) (low_byte first) + r.sp)
          ∙ framed r.h r.l away r.sp address
          (frame_away context top pushed need variable offset r.sp room on.ready.pointer)
          ∙ sym (is_at bytes (word r.h r.l) is);
      a = λ kept. refl;
      d = λ kept. refl;
      e = λ kept. refl;
    }) on))
base_added_goes {Good = Good} {context = context} {PartIs = PartIs} {last = last} {to = to} {top = top}
    {pushed = pushed} {need = need} {budget = budget} {more = more} {object = object} {known = known}
    {memory = memory} {facts = facts} {from = from} used (bases.Based pointer offset) bytes is_inside s r
    sound room small (OnBase base offset_is at pointer_is fits) is stand on rest =
    let place : SourcePlace = place_of context.activation.around base in
    let low : ℕ = byte_at memory (address_on_machine context.activation place) in
    let high : ℕ = byte_at memory (wrap (address_on_machine context.activation place + 1)) in
    let one : Registers = record r { h = r.d; l = r.e; d = r.h; e = r.l } in
    subst (λ (outcome : Outcome SourcePlace). Does (loaded_of context.activation) budget more
    (at_place from r memory s.events) outcome Good)
    (sym (at bytes is_inside s))
    (word_read place s (λ start t. Gave (InMemory (wrap (start + bytes))) t) sound on.ready fits
    (λ steady next.
    registers_then (Xchg ∷ [])
    (location_word_steps (knowing context.site no_facts) pointer pushed
    ++ (Plain (Dad De) ∷ addition_steps (Number offset)))
    r sound (tt, tt) stand on
    (λ middle found stand on_one.
    let parts = steps_split (location_word_steps (knowing context.site no_facts) pointer pushed)
    (Plain (Dad De) ∷ addition_steps (Number offset)) stand in
    location_word_goes no_facts pointer one sound room
    (subst (λ (n : ℕ). Rattle.code_meaning.specs.internal.Holding.IsSteady context.activation n) pointer_is steady)
    (subst (λ (n : ℕ). Rattle.code_meaning.specs.internal.Holding.IsSteady context.activation (wrap (n + 1)))
    pointer_is next)
    no_facts_hold parts.first on_one
    (λ there word_there on_there.
    registers_then (Dad De ∷ []) (addition_steps (Number offset)) there sound (tt, tt) parts.second on_there
    (λ middle_too found_too stand_too on_sum.
    addition_goes (Number offset) _ sound small stand_too on_sum
    (λ now beside on.
    rest now (InMemory (wrap (low + 256 * high + bytes))) (record {
      hl = pointed there.d there.e there.h there.l (low + 256 * high) bytes known offset
          (word now.h now.l) offset_is
          (subst (λ (n : ℕ). wrap bytes ≡ wrap (n + known))
          (sym (ap (λ (d : ℕ). word d there.e) word_there.d ∙ ap (λ (e : ℕ). word r.h e) word_there.e))
          is)
          (in_hl there.h there.l low high
          (word_there.low ∙ ap (byte_at memory) (sym pointer_is))
          (word_there.high ∙ ap (λ (n : ℕ). byte_at memory (wrap (n + 1))) (sym pointer_is)))
          beside.hl;
      a = λ kept. beside.a ∙ word_there.a kept;
      d = λ never. absurd cc;
      e = λ never. absurd cc;
    }) on))))))
