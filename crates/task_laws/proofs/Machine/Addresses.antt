-- The code that puts addresses of locations, and words there, into HL; other registers are kept.
use Rattle.task_laws.proofs.Prelude.{◌≡◌, ℕ, zero, suc, ◌+◌, ◌*◌, ◌%◌, ◌<◌, Bool, true, false, if◌then◌else◌, nat_le, List, [], ◌∷◌, ◌++◌, Some, refl, sym, ap, subst, append-nil, ◌∙◌, arith, Event, SourceState, Outcome, Instr, Dad, Dcx, Inx, Lxi, Bc, Hl, Sp, Registers, State, high_byte, low_byte, word, wrap, LoadPair, Place, Number, Code, Data, External, Location, location_after, Does, loaded_of, at_place, HasRoom, location_at, place_at, after_before, location_after_is, address_in_hl_is, Facts, Part, Step, Plain, Word, before, is_at, no_facts, plain, repeat_steps, distance, addition_steps, note_address_steps, location_address_steps, negated, new_address_steps, number_added_steps, knowing, Context, IsSound, distances_in, StepsStand, NoneThere, WordThere, HoldsThere, Know}
use Rattle.treecode.specs.declared.place.Location.TheVariants as locations
use Rattle.task_laws.proofs.Machine.Rules.{GoesOn, holds_go, ready_with_registers, word_goes}
use Rattle.task_laws.proofs.Machine.RegisterCode.{AreOnRegisters, effect, registers_then}

-- no step
pub nothing_goes :
    {A : Type 0} {outcome : Outcome A} {Good : A → SourceState → State → Type 0}
    {context : Context} {PartIs : (before : Facts) → Part → (from : ℕ) → (after : Facts) → (to : ℕ) → Type 0}
    {last : Facts} {to top budget more : ℕ} {base source memory : List ℕ} {frame : List (List ℕ)}
    {events : List Event} {facts : Facts} {from : ℕ} (r : Registers)
    → StepsStand context PartIs facts from [] last to
    → GoesOn context facts top base source frame r memory
    → (GoesOn context last top base source frame r memory
    → Does (loaded_of context.activation) budget more (at_place to r memory events) outcome Good)
    → Does (loaded_of context.activation) budget more (at_place from r memory events) outcome Good
nothing_goes r NoneThere on rest = rest on

-- HL is an address, and A and DE are kept
pub record AddressBeside (address : ℕ) (r now : Registers) : Type 0 where
  pub hl : word now.h now.l ≡ address
  pub a : now.a ≡ r.a
  pub d : now.d ≡ r.d
  pub e : now.e ≡ r.e

pub at_address :
    {address other : ℕ} {r now : Registers} → address ≡ other → AddressBeside address r now
    → AddressBeside other r now
at_address same beside = record { hl = beside.hl ∙ same; a = beside.a; d = beside.d; e = beside.e }

one_more : (h l count now : ℕ) → h < 256 → l < 256
    → now ≡ wrap (word (high_byte (wrap (word h l + 1))) (low_byte (wrap (word h l + 1))) + count)
    → now ≡ wrap (word h l + suc count)
one_more h l count now one two is = omega (arith, is)

-- INX H `count` times
pub inx_go :
    {A : Type 0} {outcome : Outcome A} {Good : A → SourceState → State → Type 0}
    {context : Context} {PartIs : (before : Facts) → Part → (from : ℕ) → (after : Facts) → (to : ℕ) → Type 0}
    {last : Facts} {to top budget more : ℕ} {base source memory : List ℕ} {frame : List (List ℕ)}
    {events : List Event} (count : ℕ) (r : Registers) {facts : Facts} {from : ℕ}
    → IsSound context
    → StepsStand context PartIs facts from (repeat_steps (Inx Hl) count) last to
    → GoesOn context facts top base source frame r memory
    → ((now : Registers) → AddressBeside (wrap (word r.h r.l + count)) r now
    → GoesOn context last top base source frame now memory
    → Does (loaded_of context.activation) budget more (at_place to now memory events) outcome Good)
    → Does (loaded_of context.activation) budget more (at_place from r memory events) outcome Good
inx_go zero r sound NoneThere on rest =
    let high = on.ready.registers.h in
    let low = on.ready.registers.l in
    rest r (record { hl = omega (arith, high, low); a = refl; d = refl; e = refl }) on
inx_go (suc count) r sound stand on rest =
    let high = on.ready.registers.h in
    let low = on.ready.registers.l in
    registers_then (Inx Hl ∷ []) (repeat_steps (Inx Hl) count) r sound (tt, tt) stand on
    (λ middle found stand on.
    inx_go count
    (record r { h = high_byte (wrap (word r.h r.l + 1)); l = low_byte (wrap (word r.h r.l + 1)) }) sound
    stand on
    (λ now beside.
    rest now (record {
      hl = one_more r.h r.l count (word now.h now.l) high low beside.hl;
      a = beside.a;
      d = beside.d;
      e = beside.e;
    })))

one_less_more : (h l count now : ℕ) → h < 256 → l < 256
    → now ≡ wrap
    (word (high_byte (wrap (word h l + 65535))) (low_byte (wrap (word h l + 65535))) + 65535 * count)
    → now ≡ wrap (word h l + 65535 * suc count)
one_less_more h l count now one two is = omega (arith, is)

-- DCX H `count` times
pub dcx_go :
    {A : Type 0} {outcome : Outcome A} {Good : A → SourceState → State → Type 0}
    {context : Context} {PartIs : (before : Facts) → Part → (from : ℕ) → (after : Facts) → (to : ℕ) → Type 0}
    {last : Facts} {to top budget more : ℕ} {base source memory : List ℕ} {frame : List (List ℕ)}
    {events : List Event} (count : ℕ) (r : Registers) {facts : Facts} {from : ℕ}
    → IsSound context
    → StepsStand context PartIs facts from (repeat_steps (Dcx Hl) count) last to
    → GoesOn context facts top base source frame r memory
    → ((now : Registers) → AddressBeside (wrap (word r.h r.l + 65535 * count)) r now
    → GoesOn context last top base source frame now memory
    → Does (loaded_of context.activation) budget more (at_place to now memory events) outcome Good)
    → Does (loaded_of context.activation) budget more (at_place from r memory events) outcome Good
dcx_go zero r sound NoneThere on rest =
    let high = on.ready.registers.h in
    let low = on.ready.registers.l in
    rest r (record { hl = omega (arith, high, low); a = refl; d = refl; e = refl }) on
dcx_go (suc count) r sound stand on rest =
    let high = on.ready.registers.h in
    let low = on.ready.registers.l in
    registers_then (Dcx Hl ∷ []) (repeat_steps (Dcx Hl) count) r sound (tt, tt) stand on
    (λ middle found stand on.
    dcx_go count
    (record r { h = high_byte (wrap (word r.h r.l + 65535)); l = low_byte (wrap (word r.h r.l + 65535)) })
    sound stand on
    (λ now beside.
    rest now (record {
      hl = one_less_more r.h r.l count (word now.h now.l) high low beside.hl;
      a = beside.a;
      d = beside.d;
      e = beside.e;
    })))

taken_for : (n number : ℕ) → number < 65536 → wrap (n + 65535 * negated number) ≡ wrap (n + number)
taken_for n number small = omega (arith, small)

-- instructions that touch registers alone, and nothing after them
pub registers_end :
    {A : Type 0} {outcome : Outcome A} {Good : A → SourceState → State → Type 0}
    {context : Context} {PartIs : (before : Facts) → Part → (from : ℕ) → (after : Facts) → (to : ℕ) → Type 0}
    {last : Facts} {to top budget more : ℕ} {base source memory : List ℕ} {frame : List (List ℕ)}
    {events : List Event} {facts : Facts} {from : ℕ} (instructions : List Instr) (r : Registers)
    → IsSound context
    → AreOnRegisters instructions
    → StepsStand context PartIs facts from (plain instructions) last to
    → GoesOn context facts top base source frame r memory
    → (GoesOn context last top base source frame (effect instructions r) memory
    → Does (loaded_of context.activation) budget more
    (at_place to (effect instructions r) memory events) outcome Good)
    → Does (loaded_of context.activation) budget more (at_place from r memory events) outcome Good
registers_end {outcome = outcome} {Good = Good} {context = context} {PartIs = PartIs} {last = last} {to = to}
    {top = top} {budget = budget} {more = more} {base = base} {source = source} {memory = memory}
    {frame = frame} {events = events} {facts = facts} {from = from} instructions r sound on stand going rest =
    registers_then instructions [] r sound on
    (subst (λ (list : List Step). StepsStand context PartIs facts from list last to)
    (sym (append-nil (plain instructions))) stand)
    going (λ middle found stand going. nothing_goes (effect instructions r) stand going rest)

added_word : (h l number : ℕ) → wrap (word h l + word (high_byte number) (low_byte number))
    ≡ wrap (word h l + number)
added_word h l number = omega arith

pub back_together : (n : ℕ) → word (high_byte (wrap n)) (low_byte (wrap n)) ≡ wrap n
back_together n = omega arith

-- a number that is added to HL
pub number_added_goes :
    {A : Type 0} {outcome : Outcome A} {Good : A → SourceState → State → Type 0}
    {context : Context} {PartIs : (before : Facts) → Part → (from : ℕ) → (after : Facts) → (to : ℕ) → Type 0}
    {last : Facts} {to top budget more : ℕ} {base source memory : List ℕ} {frame : List (List ℕ)}
    {events : List Event} {facts : Facts} {from : ℕ} (number : ℕ) (r : Registers)
    → IsSound context
    → number < 65536
    → StepsStand context PartIs facts from (number_added_steps number) last to
    → GoesOn context facts top base source frame r memory
    → ((now : Registers) → AddressBeside (wrap (word r.h r.l + number)) r now
    → GoesOn context last top base source frame now memory
    → Does (loaded_of context.activation) budget more (at_place to now memory events) outcome Good)
    → Does (loaded_of context.activation) budget more (at_place from r memory events) outcome Good
number_added_goes {outcome = outcome} {Good = Good} {context = context} {PartIs = PartIs} {last = last}
    {to = to} {top = top} {budget = budget} {more = more} {base = base} {source = source} {memory = memory}
    {frame = frame} {events = events} {facts = facts} {from = from} number r sound small stand on rest =
    by_size (nat_le number 3) (nat_le (negated number) 3) stand
  where
    by_size : (few lacking : Bool)
        → StepsStand context PartIs facts from
        (if few then repeat_steps (Inx Hl) number
        else if lacking then repeat_steps (Dcx Hl) (negated number)
        else plain (Lxi Bc number ∷ Dad Bc ∷ [])) last to
        → Does (loaded_of context.activation) budget more
        (at_place from r memory events) outcome Good
    by_size true lacking stand = inx_go number r sound stand on rest
    by_size false true stand =
        dcx_go (negated number) r sound stand on
        (λ now beside. rest now (at_address (taken_for (word r.h r.l) number small) beside))
    by_size false false stand =
        registers_end (Lxi Bc number ∷ Dad Bc ∷ []) r sound (tt, (tt, tt)) stand on
        (λ on. rest _ (record {
          hl = back_together (word r.h r.l + word (high_byte number) (low_byte number))
              ∙ added_word r.h r.l number;
          a = refl;
          d = refl;
          e = refl;
        }) on)

-- a word that is added through BC
word_added_goes :
    {A : Type 0} {outcome : Outcome A} {Good : A → SourceState → State → Type 0}
    {context : Context} {PartIs : (before : Facts) → Part → (from : ℕ) → (after : Facts) → (to : ℕ) → Type 0}
    {last : Facts} {to top budget more : ℕ} {base source memory : List ℕ} {frame : List (List ℕ)}
    {events : List Event} {facts : Facts} {from : ℕ} (place : Place) (r : Registers)
    → IsSound context
    → place_at context.activation.layout place < 65536
    → StepsStand context PartIs facts from (Word (LoadPair Bc) place ∷ Plain (Dad Bc) ∷ []) last to
    → GoesOn context facts top base source frame r memory
    → ((now : Registers) → AddressBeside
    (wrap (word r.h r.l + place_at context.activation.layout place)) r now
    → GoesOn context last top base source frame now memory
    → Does (loaded_of context.activation) budget more (at_place to now memory events) outcome Good)
    → Does (loaded_of context.activation) budget more (at_place from r memory events) outcome Good
word_added_goes {context = context} {memory = memory} {events = events} place r sound small
    (WordThere there stand) on rest =
    let number : ℕ = place_at context.activation.layout place in
    let bytes = on.ready.registers in
    let now : Registers = record r { b = high_byte number; c = low_byte number } in
    word_goes (LoadPair Bc) place r now memory sound there on tt refl
    (λ known.
    registers_end (Dad Bc ∷ []) now sound (tt, tt) stand
    (record {
      ready =
          ready_with_registers refl
          (record { a = bytes.a; b = omega (arith, small); c = omega arith; d = bytes.d; e = bytes.e; h = bytes.h; l = bytes.l })
          on.ready;
      known = known;
    })
    (λ on. rest _ (record {
      hl = back_together (word r.h r.l + word (high_byte number) (low_byte number))
          ∙ added_word r.h r.l number;
      a = refl;
      d = refl;
      e = refl;
    }) on))

-- a known word that is added to HL
pub addition_goes :
    {A : Type 0} {outcome : Outcome A} {Good : A → SourceState → State → Type 0}
    {context : Context} {PartIs : (before : Facts) → Part → (from : ℕ) → (after : Facts) → (to : ℕ) → Type 0}
    {last : Facts} {to top budget more : ℕ} {base source memory : List ℕ} {frame : List (List ℕ)}
    {events : List Event} {facts : Facts} {from : ℕ} (place : Place) (r : Registers)
    → IsSound context
    → place_at context.activation.layout place < 65536
    → StepsStand context PartIs facts from (addition_steps place) last to
    → GoesOn context facts top base source frame r memory
    → ((now : Registers) → AddressBeside
    (wrap (word r.h r.l + place_at context.activation.layout place)) r now
    → GoesOn context last top base source frame now memory
    → Does (loaded_of context.activation) budget more (at_place to now memory events) outcome Good)
    → Does (loaded_of context.activation) budget more (at_place from r memory events) outcome Good
addition_goes (Number number) r sound small stand on rest =
    number_added_goes number r sound small stand on rest
addition_goes (Code offset) r sound small stand on rest =
    word_added_goes (Code offset) r sound small stand on rest
addition_goes (Data offset) r sound small stand on rest =
    word_added_goes (Data offset) r sound small stand on rest
addition_goes (External offset name) r sound small stand on rest =
    word_added_goes (External offset name) r sound small stand on rest

-- HL is known to hold the address of a location
address_known :
    (context : Context) (r : Registers) (memory : List ℕ) (location : Location)
    → word r.h r.l ≡ location_at context.activation (distances_in context) location
    → Know context (record no_facts { address_in_hl = Some location }) r memory
address_known context r memory location is =
    record { byte_holds = tt; word_holds = tt; address_holds = is; zero_holds = tt }

-- a fact that the plan makes up of HL as an address, at the end
note_address_goes :
    {A : Type 0} {outcome : Outcome A} {Good : A → SourceState → State → Type 0}
    {context : Context} {PartIs : (before : Facts) → Part → (from : ℕ) → (after : Facts) → (to : ℕ) → Type 0}
    {last : Facts} {to top budget more : ℕ} {base source memory : List ℕ} {frame : List (List ℕ)}
    {events : List Event} {facts : Facts} {from : ℕ} (location : Location) (r : Registers)
    → StepsStand context PartIs facts from (note_address_steps location) last to
    → GoesOn context facts top base source frame r memory
    → word r.h r.l ≡ location_at context.activation (distances_in context) location
    → (GoesOn context last top base source frame r memory
    → Does (loaded_of context.activation) budget more (at_place to r memory events) outcome Good)
    → Does (loaded_of context.activation) budget more (at_place from r memory events) outcome Good
note_address_goes {context = context} {memory = memory} location r (HoldsThere NoneThere) on is rest =
    rest (holds_go on (address_known context r memory location is))

wrapped_back : (address : ℕ) → address < 65536 → wrap (wrap (address + 1) + 65535) ≡ address
wrapped_back address small = omega (arith, small)

pub frame_address : (level begins offset top pushed : ℕ) → top + pushed ≡ level
    → wrap ((((begins + offset) % 65536 + pushed) % 65536) + wrap top) ≡ wrap (level + begins + offset)
frame_address level begins offset top pushed depth = omega (arith, depth)

pub small_again : (n : ℕ) → n < 65536 → word (high_byte n) (low_byte n) ≡ n
small_again n small = omega (arith, small)

-- the address of a location, whatever HL holds
new_address_goes :
    {A : Type 0} {outcome : Outcome A} {Good : A → SourceState → State → Type 0}
    {context : Context} {PartIs : (before : Facts) → Part → (from : ℕ) → (after : Facts) → (to : ℕ) → Type 0}
    {last : Facts} {to top pushed need budget more : ℕ} {base source memory : List ℕ} {frame : List (List ℕ)}
    {events : List Event} {facts : Facts} {from : ℕ} (used : Facts) (location : Location) (r : Registers)
    → IsSound context
    → HasRoom context.activation top pushed need
    → location_at context.activation (distances_in context) location < 65536
    → StepsStand context PartIs facts from
    (new_address_steps (knowing context.site used) location pushed ++ note_address_steps location) last to
    → GoesOn context facts top base source frame r memory
    → ((now : Registers)
    → AddressBeside (location_at context.activation (distances_in context) location) r now
    → GoesOn context last top base source frame now memory
    → Does (loaded_of context.activation) budget more (at_place to now memory events) outcome Good)
    → Does (loaded_of context.activation) budget more (at_place from r memory events) outcome Good
unfolding distance
new_address_goes {context = context} {memory = memory} used (locations.Static place) r sound room small
    (WordThere there stand) on rest =
    let number : ℕ = place_at context.activation.layout place in
    let bytes = on.ready.registers in
    let now : Registers = record r { h = high_byte number; l = low_byte number } in
    word_goes (LoadPair Hl) place r now memory sound there on tt refl
    (λ known.
    note_address_goes (locations.Static place) now stand
    (record {
      ready =
          ready_with_registers refl
          (record { a = bytes.a; b = bytes.b; c = bytes.c; d = bytes.d; e = bytes.e; h = omega (arith, small); l = omega arith })
          on.ready;
      known = known;
    })
    (small_again number small)
    (λ on. rest now (record { hl = small_again number small; a = refl; d = refl; e = refl }) on))
new_address_goes {context = context} {top = top} {pushed = pushed} used (locations.Frame variable offset) r
    sound room small stand on rest =
    let away : ℕ = distance context.site variable offset pushed in
    let is : word (high_byte (wrap (word (high_byte away) (low_byte away) + r.sp)))
    (low_byte (wrap (word (high_byte away) (low_byte away) + r.sp)))
    ≡ location_at context.activation (distances_in context) (locations.Frame variable offset)
    = back_together (word (high_byte away) (low_byte away) + r.sp)
    ∙ ap (λ (sp : ℕ). wrap (word (high_byte away) (low_byte away) + sp)) on.ready.pointer
    ∙ ap (λ (n : ℕ). wrap (n + wrap top)) (small_again away (omega arith))
    ∙ frame_address context.activation.level (distances_in context variable) offset top pushed room.depth in
    registers_then (Lxi Hl away ∷ Dad Sp ∷ []) (note_address_steps (locations.Frame variable offset)) r sound
    (tt, (tt, tt)) stand on
    (λ middle found stand on.
    note_address_goes (locations.Frame variable offset) _ stand on is
    (λ on. rest _ (record { hl = is; a = refl; d = refl; e = refl }) on))

-- the address of a location
pub location_address_goes :
    {A : Type 0} {outcome : Outcome A} {Good : A → SourceState → State → Type 0}
    {context : Context} {PartIs : (before : Facts) → Part → (from : ℕ) → (after : Facts) → (to : ℕ) → Type 0}
    {last : Facts} {to top pushed need budget more : ℕ} {base source memory : List ℕ} {frame : List (List ℕ)}
    {events : List Event} {facts : Facts} {from : ℕ} (used : Facts) (location : Location) (r : Registers)
    → IsSound context
    → HasRoom context.activation top pushed need
    → location_at context.activation (distances_in context) location < 65536
    → Know context used r memory
    → StepsStand context PartIs facts from
    (location_address_steps (knowing context.site used) location pushed) last to
    → GoesOn context facts top base source frame r memory
    → ((now : Registers)
    → AddressBeside (location_at context.activation (distances_in context) location) r now
    → GoesOn context last top base source frame now memory
    → Does (loaded_of context.activation) budget more (at_place to now memory events) outcome Good)
    → Does (loaded_of context.activation) budget more (at_place from r memory events) outcome Good
location_address_goes {outcome = outcome} {Good = Good} {context = context} {PartIs = PartIs} {last = last}
    {to = to} {top = top} {pushed = pushed} {budget = budget} {more = more} {base = base} {source = source}
    {memory = memory} {frame = frame} {events = events} {facts = facts} {from = from} used location r sound
    room small known stand on rest =
    by_test (is_at used.address_in_hl location) (is_at used.address_in_hl (before location))
    (is_at used.address_in_hl (location_after location 1)) refl refl refl stand
  where
    by_test : (here next last_one : Bool)
        → is_at used.address_in_hl location ≡ here
        → is_at used.address_in_hl (before location) ≡ next
        → is_at used.address_in_hl (location_after location 1) ≡ last_one
        → StepsStand context PartIs facts from
        (if here then []
        else if next then Plain (Inx Hl) ∷ note_address_steps location
        else if last_one then Plain (Dcx Hl) ∷ note_address_steps location
        else new_address_steps (knowing context.site used) location pushed
        ++ note_address_steps location) last to
        → Does (loaded_of context.activation) budget more
        (at_place from r memory events) outcome Good
    by_test true next last_one here_is next_is last_is stand =
        nothing_goes r stand on
        (rest r (record {
          hl = address_in_hl_is context.activation (distances_in context) used.address_in_hl location r.h r.l
              here_is known.address_holds;
          a = refl;
          d = refl;
          e = refl;
        }))
    by_test false true last_one here_is next_is last_is stand =
        let is : word (high_byte (wrap (word r.h r.l + 1))) (low_byte (wrap (word r.h r.l + 1)))
        ≡ location_at context.activation (distances_in context) location
        = back_together (word r.h r.l + 1)
        ∙ ap (λ (n : ℕ). wrap (n + 1))
        (address_in_hl_is context.activation (distances_in context) used.address_in_hl (before location) r.h
        r.l next_is known.address_holds)
        ∙ after_before context.activation (distances_in context) location small in
        registers_then (Inx Hl ∷ []) (note_address_steps location) r sound (tt, tt) stand on
        (λ middle found stand on.
        note_address_goes location _ stand on is
        (λ on. rest _ (record { hl = is; a = refl; d = refl; e = refl }) on))
    by_test false false true here_is next_is last_is stand =
        let is : word (high_byte (wrap (word r.h r.l + 65535))) (low_byte (wrap (word r.h r.l + 65535)))
        ≡ location_at context.activation (distances_in context) location
        = back_together (word r.h r.l + 65535)
        ∙ ap (λ (n : ℕ). wrap (n + 65535))
        (address_in_hl_is context.activation (distances_in context) used.address_in_hl
        (location_after location 1) r.h r.l last_is known.address_holds
        ∙ location_after_is context.activation (distances_in context) location 1)
        ∙ wrapped_back (location_at context.activation (distances_in context) location) small in
        registers_then (Dcx Hl ∷ []) (note_address_steps location) r sound (tt, tt) stand on
        (λ middle found stand on.
        note_address_goes location _ stand on is
        (λ on. rest _ (record { hl = is; a = refl; d = refl; e = refl }) on))
    by_test false false false here_is next_is last_is stand =
        new_address_goes used location r sound room small stand on rest
