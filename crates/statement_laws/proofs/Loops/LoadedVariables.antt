-- The variable of an iterative DO comes into A or HL, where it is not there.
use Rattle.statement_laws.proofs.Prelude.{◌≡◌, ℕ, ◌+◌, ◌*◌, ◌/◌, ◌%◌, ◌<◌, ◌≤◌, Bool, true, false, if◌then◌else◌, List, [], ◌∷◌, ◌++◌, Option, Some, None, refl, sym, ap, subst, ◌∙◌, arith, byte_at, Byte, Address, SourceState, Outcome, Registers, State, high_byte, low_byte, wrap, LoadA, LoadHl, Location, Does, at_place, IsSteady, location_at, place_at, byte_in_a_is, word_in_hl_is, Facts, is_at, byte_at_address_steps, byte_at_steps, byte_in_a, load_byte_steps, load_word_steps, word_at_steps, word_in_hl, word_at_hl_goes, word_known, byte_small, knowing, whole, Context, IsSound, distances_in, NoneThere, HoldsThere, WordThere, ready_with_registers, word_goes, Stage, at_end, at_load_a, loaded_in}
use Rattle.mem80.specs.Memory.{word_at}
use Rattle.treecode.specs.declared.place.Location.TheVariants as locations
use Rattle.steps8080.specs.declared.step.Step.TheVariants as steps
use Rattle.operands8080.specs.internal.Addresses.{word_at_hl_steps}
use Rattle.task_laws.proofs.Machine.Rules.{steps_split}
use Rattle.statement_laws.proofs.Loops.CountedVariables.{IsCounted, variable_address}
use Rattle.statement_laws.proofs.Loops.LoopCode.{Steps, address_then, load_then}

-- that A is the byte of the variable is known from now on
held_byte :
    {A : Type 0} {context : Context} {top need budget more from to : ℕ} {base : List ℕ} {t : SourceState}
    {facts last : Facts}
    {r : Registers} {memory : List ℕ} {outcome : Outcome A} {Good : A → SourceState → State → Type 0}
    (address : ℕ) (location : Location)
    → r.a ≡ byte_at memory address
    → IsSteady context.activation address
    → address ≡ location_at context.activation (distances_in context) location
    → Steps context facts from (steps.Holds (byte_in_a location) ∷ []) last to
    → Stage context top 0 need base t facts r memory
    → (Stage context top 0 need base t last r memory
    → Does (loaded_in context) budget more (at_place to r memory t.events) outcome Good)
    → Does (loaded_in context) budget more (at_place from r memory t.events) outcome Good
held_byte {context = context} {r = r} {memory = memory} address location a steady is
    (HoldsThere NoneThere) stage next =
    next (record {
      below = stage.below;
      room = stage.room;
      ready = stage.ready;
      known = Rattle.code_meaning.proofs.Facts.Changes.with_facts_hold _ (byte_in_a location) stage.known
          (record {
            byte_holds =
                (a ∙ ap (byte_at memory) is, subst (λ (n : ℕ). IsSteady context.activation n) is steady);
            word_holds = tt;
            address_holds = tt;
            zero_holds = tt;
          });
    })

-- the BYTE comes into A
pub byte_loaded :
    {A : Type 0} {context : Context} {top need more from to : ℕ} {base : List ℕ} {t : SourceState}
    {facts last : Facts}
    {r : Registers} {memory : List ℕ} {variable : ℕ} {outcome : Outcome A}
    {Good : A → SourceState → State → Type 0}
    → IsSound context
    → IsCounted context variable Byte
    → 2 ≤ need
    → Steps context facts from (load_byte_steps (knowing context.site facts) (whole variable)) last to
    → Stage context top 0 need base t facts r memory
    → IsSteady context.activation (variable_address context variable)
    → ((now : Registers) (memory_now : List ℕ)
    → now.a ≡ byte_at memory_now (variable_address context variable)
    → Stage context top 0 need base t last now memory_now
    → Does (loaded_in context) t.budget more (at_place to now memory_now t.events) outcome Good)
    → Does (loaded_in context) t.budget more (at_place from r memory t.events) outcome Good
unfolding load_byte_steps
byte_loaded {context = context} {top = top} {need = need} {more = more} {from = from} {to = to} {base = base}
    {t = t} {facts = facts} {last = last} {r = r} {memory = memory} {variable = variable} {outcome = outcome}
    {Good = Good} sound counted enough stand stage steady next =
    by_test (is_at facts.byte_in_a counted.location) refl
    (subst (λ (found : Option Location). Steps context facts from
    (elim found [
      | Some location ↦
          if is_at facts.byte_in_a location then []
          else byte_at_steps facts (whole variable) location ++ (steps.Holds (byte_in_a location) ∷ [])
      | None ↦ []
    ]) last to) (counted.located facts) stand)
  where
    address : ℕ
    address = variable_address context variable

    through_hl : Steps context facts from
        (byte_at_address_steps (whole variable) ++ (steps.Holds (byte_in_a counted.location) ∷ [])) last to
        → Does (loaded_in context) t.budget more (at_place from r memory t.events) outcome Good
    through_hl stand =
        address_then counted enough stand stage
        (λ found middle now there rest holds here.
        load_then address sound holds.hl steady rest here
        (λ known place steps_left loaded.
        held_byte address counted.location refl steady counted.is_there steps_left loaded
        (λ done. next _ there refl done)))

    by_location : (location : Location) → counted.location ≡ location
        → Steps context facts from
        (byte_at_steps facts (whole variable) location ++ (steps.Holds (byte_in_a location) ∷ [])) last to
        → Does (loaded_in context) t.budget more (at_place from r memory t.events) outcome Good
    by_location (locations.Static place) is stand =
        by_hl (is_at facts.address_in_hl (locations.Static place)) stand
      where
        at_here : address ≡ place_at context.activation.layout place
        at_here = counted.is_there ∙ ap (location_at context.activation (distances_in context)) is

        by_hl : (there : Bool)
            → Steps context facts from
            ((if there then byte_at_address_steps (whole variable) else steps.Word LoadA place ∷ [])
            ++ (steps.Holds (byte_in_a (locations.Static place)) ∷ [])) last to
            → Does (loaded_in context) t.budget more (at_place from r memory t.events) outcome Good
        by_hl true stand =
            through_hl (subst (λ (location : Location). Steps context facts from
            (byte_at_address_steps (whole variable) ++ (steps.Holds (byte_in_a location) ∷ []))
            last to) (sym is) stand)
        by_hl false (WordThere there rest) =
            at_load_a sound there (subst (λ (n : ℕ). IsSteady context.activation n) at_here steady) stage
            (λ loaded.
            held_byte address (locations.Static place) (ap (byte_at memory) (sym at_here))
            steady at_here rest loaded
            (λ done. next _ memory (ap (byte_at memory) (sym at_here)) done))
    by_location (locations.Frame variable_of offset) is stand =
        through_hl (subst (λ (location : Location). Steps context facts from
        (byte_at_address_steps (whole variable) ++ (steps.Holds (byte_in_a location) ∷ []))
        last to) (sym is) stand)

    by_test : (here : Bool) → is_at facts.byte_in_a counted.location ≡ here
        → Steps context facts from
        (if here then []
        else byte_at_steps facts (whole variable) counted.location
        ++ (steps.Holds (byte_in_a counted.location) ∷ [])) last to
        → Does (loaded_in context) t.budget more (at_place from r memory t.events) outcome Good
    by_test true is stand =
        let held =
        byte_in_a_is context.activation (distances_in context) facts.byte_in_a counted.location r.a memory
        is stage.known.byte_holds in
        at_end stand stage
        (λ final. next r memory (held.0 ∙ ap (byte_at memory) (sym counted.is_there)) final)
    by_test false is stand = by_location counted.location refl stand

-- that HL is the ADDRESS of the variable is known from now on
held_word :
    {A : Type 0} {context : Context} {top need budget more from to : ℕ} {base : List ℕ} {t : SourceState}
    {facts last : Facts}
    {r : Registers} {memory : List ℕ} {outcome : Outcome A} {Good : A → SourceState → State → Type 0}
    (address : ℕ) (location : Location)
    → r.l ≡ byte_at memory address
    → r.h ≡ byte_at memory (wrap (address + 1))
    → IsSteady context.activation address
    → IsSteady context.activation (wrap (address + 1))
    → address ≡ location_at context.activation (distances_in context) location
    → Steps context facts from (steps.Holds (word_in_hl location) ∷ []) last to
    → Stage context top 0 need base t facts r memory
    → (Stage context top 0 need base t last r memory
    → Does (loaded_in context) budget more (at_place to r memory t.events) outcome Good)
    → Does (loaded_in context) budget more (at_place from r memory t.events) outcome Good
held_word {context = context} {r = r} {memory = memory} address location low high steady steady_too is
    (HoldsThere NoneThere) stage next =
    next (record {
      below = stage.below;
      room = stage.room;
      ready = stage.ready;
      known = Rattle.code_meaning.proofs.Facts.Changes.with_facts_hold _ (word_in_hl location) stage.known
          (word_known context r memory location
          (subst (λ (n : ℕ). IsSteady context.activation n) is steady)
          (subst (λ (n : ℕ). IsSteady context.activation (wrap (n + 1))) is steady_too)
          (low ∙ ap (byte_at memory) is)
          (high ∙ ap (λ (n : ℕ). byte_at memory (wrap (n + 1))) is));
    })

-- HL is the ADDRESS of the variable; DE is what it was
pub record HoldsWord (context : Context) (variable : ℕ) (r now : Registers)
    (memory_now : List ℕ) : Type 0 where
  pub low : now.l ≡ byte_at memory_now (variable_address context variable)
  pub high : now.h ≡ byte_at memory_now (wrap (variable_address context variable + 1))
  pub d : now.d ≡ r.d
  pub e : now.e ≡ r.e

loaded_low : (low high : ℕ) → low < 256 → high < 256 → (low + 256 * high) % 256 ≡ low
loaded_low low high one two = omega (arith, one, two)

loaded_high : (low high : ℕ) → low < 256 → high < 256 → (low + 256 * high) / 256 ≡ high
loaded_high low high one two = omega (arith, one, two)

-- the ADDRESS comes into HL
pub word_loaded :
    {A : Type 0} {context : Context} {top need more from to : ℕ} {base : List ℕ} {t : SourceState}
    {facts last : Facts}
    {r : Registers} {memory : List ℕ} {variable : ℕ} {outcome : Outcome A}
    {Good : A → SourceState → State → Type 0}
    → IsSound context
    → IsCounted context variable Address
    → 2 ≤ need
    → Steps context facts from (load_word_steps (knowing context.site facts) (whole variable)) last to
    → Stage context top 0 need base t facts r memory
    → IsSteady context.activation (variable_address context variable)
    → IsSteady context.activation (wrap (variable_address context variable + 1))
    → ((now : Registers) (memory_now : List ℕ)
    → HoldsWord context variable r now memory_now
    → Stage context top 0 need base t last now memory_now
    → Does (loaded_in context) t.budget more (at_place to now memory_now t.events) outcome Good)
    → Does (loaded_in context) t.budget more (at_place from r memory t.events) outcome Good
unfolding load_word_steps
word_loaded {context = context} {top = top} {need = need} {more = more} {from = from} {to = to} {base = base}
    {t = t} {facts = facts} {last = last} {r = r} {memory = memory} {variable = variable} {outcome = outcome}
    {Good = Good} sound counted enough stand stage steady steady_too next =
    by_test (is_at facts.word_in_hl counted.location) refl
    (subst (λ (found : Option Location). Steps context facts from
    (elim found [
      | Some location ↦
          if is_at facts.word_in_hl location then []
          else word_at_steps (whole variable) location ++ (steps.Holds (word_in_hl location) ∷ [])
      | None ↦ []
    ]) last to) (counted.located facts) stand)
  where
    address : ℕ
    address = variable_address context variable

    by_location : (location : Location) → counted.location ≡ location
        → Steps context facts from
        (word_at_steps (whole variable) location ++ (steps.Holds (word_in_hl location) ∷ [])) last to
        → Does (loaded_in context) t.budget more (at_place from r memory t.events) outcome Good
    by_location (locations.Static place) is (WordThere there rest) =
        let here : ℕ = place_at context.activation.layout place in
        let at_here : address ≡ here =
        counted.is_there ∙ ap (location_at context.activation (distances_in context)) is in
        let held = stage.ready.registers in
        let mem = stage.ready.shares.is_memory in
        let low = byte_small memory here mem in
        let high = byte_small memory (wrap (here + 1)) mem in
        let word : ℕ = word_at memory here in
        let now : Registers = record r { h = high_byte word; l = low_byte word } in
        let low_is : now.l ≡ byte_at memory address =
        loaded_low (byte_at memory here) (byte_at memory (wrap (here + 1))) low high
        ∙ ap (byte_at memory) (sym at_here) in
        let high_is : now.h ≡ byte_at memory (wrap (address + 1)) =
        loaded_high (byte_at memory here) (byte_at memory (wrap (here + 1))) low high
        ∙ ap (λ (n : ℕ). byte_at memory (wrap (n + 1))) (sym at_here) in
        word_goes LoadHl place r now memory sound there
        (record { ready = stage.ready; known = stage.known }) (
          subst (λ (n : ℕ). IsSteady context.activation n) at_here steady,
          subst (λ (n : ℕ). IsSteady context.activation (wrap (n + 1))) at_here steady_too,
        ) refl
        (λ known.
        held_word address (locations.Static place) low_is high_is steady steady_too at_here rest
        (record {
          below = stage.below;
          room = stage.room;
          ready = ready_with_registers refl
              (record {
                a = held.a;
                b = held.b;
                c = held.c;
                d = held.d;
                e = held.e;
                h = subst (λ (n : ℕ). n < 256) (sym high_is) (byte_small memory (wrap (address + 1)) mem);
                l = subst (λ (n : ℕ). n < 256) (sym low_is) (byte_small memory address mem);
              }) stage.ready;
          known = known;
        })
        (λ done. next now memory (record { low = low_is; high = high_is; d = refl; e = refl }) done))
    by_location (locations.Frame variable_of offset) is stand =
        address_then counted enough stand stage
        (λ found middle there memory_now rest holds here.
        let parts =
        steps_split word_at_hl_steps (steps.Holds (word_in_hl (locations.Frame variable_of offset)) ∷ [])
        rest in
        word_at_hl_goes address there sound steady holds.hl parts.first
        (record { ready = here.ready; known = here.known })
        (λ now loaded on.
        held_word address (locations.Frame variable_of offset) loaded.low loaded.high steady steady_too
        (counted.is_there ∙ ap (location_at context.activation (distances_in context)) is) parts.second
        (record { below = here.below; room = here.room; ready = on.ready; known = on.known })
        (λ done. next now memory_now
        (record { low = loaded.low; high = loaded.high; d = loaded.d ∙ holds.d counted.keeps_de; e = loaded.e ∙ holds.e counted.keeps_de }) done)))

    by_test : (here : Bool) → is_at facts.word_in_hl counted.location ≡ here
        → Steps context facts from
        (if here then []
        else word_at_steps (whole variable) counted.location
        ++ (steps.Holds (word_in_hl counted.location) ∷ [])) last to
        → Does (loaded_in context) t.budget more (at_place from r memory t.events) outcome Good
    by_test true is stand =
        let held =
        word_in_hl_is context.activation (distances_in context) facts.word_in_hl counted.location r.h r.l
        memory is stage.known.word_holds in
        let low = held.low_is in
        let high = held.high_is in
        at_end stand stage
        (λ final. next r memory (record {
          low = low.0 ∙ ap (byte_at memory) (sym counted.is_there);
          high = high.0 ∙ ap (λ (n : ℕ). byte_at memory (wrap (n + 1))) (sym counted.is_there);
          d = refl;
          e = refl;
        }) final)
    by_test false is stand = by_location counted.location refl stand
