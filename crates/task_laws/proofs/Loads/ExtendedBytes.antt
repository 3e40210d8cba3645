-- Bytes in memory that are put into HL, zero-extended.
use Rattle.task_laws.proofs.Prelude.{◌≡◌, ℕ, ◌+◌, ◌*◌, ◌%◌, ◌<◌, ◌==◌, ◌&&◌, ◌⊎◌, inl, inr, Bool, true, false, if◌then◌else◌, List, [], ◌∷◌, ◌++◌, Option, Some, None, refl, sym, ap, ◌∙◌, subst, arith, option_map_or, eqb-true, MEMORY_SIZE, byte_at, word_at, byte_small, Event, ScalarType, Address, Byte, height_of_reference, type_of, TypedHome, InData, InConstants, Placed, BasedOn, Elsewhere, Nowhere, InFrame, PartOf, TypedExpression, TypedReference, TypesHold, SourcePlace, InMemory, home_of, place_of, read_scalar, based_place, displacement, SourceState, Outcome, Gave, then_do, values_of, Instr, H, L, Registers, State, high_byte, low_byte, word, wrap, LoadHl, ExpressionForm, ExpressionNumber, Location, Place, Reference, Keeps, IsExpression, IsForm, IsNumber, IsValue, IsLocation, IsConstantList, IsConversion, IsEmbedded, IsUnary, IsBinary, IsCallOf, IsFunction, IsShift, IsInput, keeps_none, keeps_of_form, memory_of_form, Does, loaded_of, at_place, Arrives, HasRoom, plain_first, location_at, place_at, without_hl_holds, address_in_hl_is, byte_in_a_is, byte_in_h_is, word_in_hl_is, GoesOutside, Facts, Part, Step, Plain, Word, before, is_at, copy, load, set, part_of, plain, keeps, keeps_at_site, location_of, memory_of, distance, location_address_steps, byte_to_l_steps, extended_byte_in_memory_steps, frame_byte_to_l_steps, top_word_steps, knowing, Context, IsSound, distances_in, nodes_in, StepsStand, NoneThere, PartThere, PlainThere, WordThere, Know, PartDoes, WordIsGiven, address_on_machine, same_given, remainder_in_memory}
use Rattle.isa8080.specs.declared.instr.Register.TheVariants as registers
use Rattle.treecode.specs.declared.expression.ExpressionForm.TheVariants as forms
use Rattle.treecode.specs.declared.place.Location.TheVariants as locations
use Rattle.treecode.specs.internal.Traits.{keeps_of_address}
use Rattle.steps8080.specs.declared.step.Task.TheVariants as tasks
use Rattle.task_laws.proofs.Machine.Addresses.{location_address_goes, nothing_goes, registers_end}
use Rattle.task_laws.proofs.Places.Fitting.{gave_first}
use Rattle.task_laws.proofs.Words.KeptInside.{IsKeptBy, kept_nothing}
use Rattle.task_laws.proofs.Loads.Loads.{lies_there}
use Rattle.task_laws.proofs.Bytes.LocatedBytes.{ByteLies, byte_lies, where_located}
use Rattle.task_laws.proofs.Places.LocationBytes.{at_one}
use Rattle.task_laws.proofs.Places.LocationWords.{frame_away, high_there, low_there, top_word_goes, at_none}
use Rattle.task_laws.proofs.Places.ReadPlaces.{LowIsAt, does_outside}
use Rattle.task_laws.proofs.Machine.Rules.{GoesOn, ready_with_registers, registers_go, room_for, steps_split, word_acts}
use Rattle.task_laws.proofs.Machine.SiteNodes.{value_in}
use Rattle.task_laws.proofs.Machine.Stages.{does_same}
use Rattle.task_laws.proofs.Places.Located.{located_in}
use Rattle.task_laws.proofs.Machine.Values.{KeepsThem, word_given}
use Rattle.task_laws.proofs.Words.CarriedWords.{IsCarriedOut}
use Rattle.task_laws.proofs.Numbers.{no_high_byte}

-- HL is the byte at an address, zero-extended; A and DE are kept
pub record ExtendedBeside (memory : List ℕ) (address : ℕ) (r now : Registers) : Type 0 where
  pub h : now.h ≡ 0
  pub l : now.l ≡ byte_at memory address
  pub a : now.a ≡ r.a
  pub d : now.d ≡ r.d
  pub e : now.e ≡ r.e

-- the rest of the code after a byte that is there
abbrev pub Follows :
    {A : Type 0} → Outcome A → (Good : A → SourceState → State → Type 0) → Context → (last : Facts)
    → (to top budget more : ℕ) → (base source memory : List ℕ) → (frame : List (List ℕ))
    → (events : List Event)
    → (address : ℕ) → Registers → Type 0
Follows outcome Good context last to top budget more base source memory frame events address r =
    (now : Registers) → ExtendedBeside memory address r now
    → GoesOn context last top base source frame now memory
    → Does (loaded_of context.activation) budget more (at_place to now memory events) outcome Good

module _
    {A : Type 0} {outcome : Outcome A} {Good : A → SourceState → State → Type 0}
    {context : Context} {PartIs : (before : Facts) → Part → (from : ℕ) → (after : Facts) → (to : ℕ) → Type 0}
    {last : Facts} {to top budget more : ℕ} {base source memory : List ℕ} {frame : List (List ℕ)}
    {events : List Event} (sound : IsSound context) where
  -- the byte at the address in HL
  pub byte_at_hl_goes :
      {facts : Facts} {from : ℕ} (address : ℕ) (r : Registers)
      → word r.h r.l ≡ address
      → StepsStand context PartIs facts from (Plain (load L) ∷ Plain (set H 0) ∷ []) last to
      → GoesOn context facts top base source frame r memory
      → Follows outcome Good context last to top budget more base source memory frame events address r
      → Does (loaded_of context.activation) budget more (at_place from r memory events) outcome Good
  byte_at_hl_goes address r is (PlainThere there stand) on rest =
      let bytes = on.ready.registers in
      let byte : ℕ = byte_at memory (word r.h r.l) in
      let small = byte_small memory (word r.h r.l) on.ready.shares.is_memory in
      let now : Registers = record r { l = byte } in
      registers_go r now sound there on tt refl refl
      (record { a = bytes.a; b = bytes.b; c = bytes.c; d = bytes.d; e = bytes.e; h = bytes.h; l = small })
      (λ on_now. registers_end (set H 0 ∷ []) now sound (tt, tt) stand on_now
      (rest (record now { h = 0 })
      (record { h = refl; l = ap (byte_at memory) is; a = refl; d = refl; e = refl })))

  -- the byte at a place in memory: the one after it is loaded into H, and overwritten
  static_goes :
      {facts : Facts} {from : ℕ} (place : Place) (r : Registers)
      → StepsStand context PartIs facts from (Word LoadHl place ∷ Plain (set H 0) ∷ []) last to
      → GoesOn context facts top base source frame r memory
      → Follows outcome Good context last to top budget more base source memory frame events
      (place_at context.activation.layout place) r
      → Does (loaded_of context.activation) budget more (at_place from r memory events) outcome Good
  static_goes {facts = facts} place r (WordThere there (PlainThere cleared stand)) on rest =
      let mem = on.ready.shares.is_memory in
      let bytes = on.ready.registers in
      let address : ℕ = place_at context.activation.layout place in
      let loaded : Registers =
      record r { h = high_byte (word_at memory address); l = low_byte (word_at memory address) } in
      let now : Registers = record loaded { h = 0 } in
      word_acts LoadHl place r sound on.ready.shares.code there
      (plain_first loaded sound.lies on.ready.shares.code cleared
      (nothing_goes now stand
      (record {
        ready =
            ready_with_registers refl
            (record { a = bytes.a; b = bytes.b; c = bytes.c; d = bytes.d; e = bytes.e; h = omega arith; l = omega arith })
            on.ready;
        known = without_hl_holds facts on.known;
      })
      (rest now (record { h = refl; l = low_there memory address mem; a = refl; d = refl; e = refl }))))

  -- the byte at a location of the frame
  frame_goes :
      {facts : Facts} {from pushed need : ℕ} (used : Facts) (variable offset : ℕ) (r : Registers)
      → HasRoom context.activation top pushed need
      → Know context used r memory
      → StepsStand context PartIs facts from
      (frame_byte_to_l_steps (knowing context.site used) (locations.Frame variable offset)
      (distance (knowing context.site used) variable offset pushed) pushed ++ (Plain (set H 0) ∷ [])) last to
      → GoesOn context facts top base source frame r memory
      → Follows outcome Good context last to top budget more base source memory frame events
      (location_at context.activation (distances_in context) (locations.Frame variable offset)) r
      → Does (loaded_of context.activation) budget more (at_place from r memory events) outcome Good
  unfolding distance
  frame_goes {facts = facts} {from = from} {pushed = pushed} {need = need} used variable offset r room
      known stand on rest =
      by_test (distance context.site variable offset pushed == 0)
      (distance context.site variable offset pushed == 1) refl refl stand
    where
      address : ℕ
      address = location_at context.activation (distances_in context) (locations.Frame variable offset)

      by_test : (none one : Bool)
          → (distance context.site variable offset pushed == 0) ≡ none
          → (distance context.site variable offset pushed == 1) ≡ one
          → StepsStand context PartIs facts from
          ((if none then top_word_steps
          else if one then top_word_steps ++ (Plain (copy L H) ∷ [])
          else location_address_steps (knowing context.site used) (locations.Frame variable offset) pushed
          ++ (Plain (load L) ∷ []))
          ++ (Plain (set H 0) ∷ [])) last to
          → Does (loaded_of context.activation) budget more
          (at_place from r memory events) outcome Good
      by_test true one none_is one_is stand =
          let mem = on.ready.shares.is_memory in
          let pointer = on.ready.pointer in
          let here : r.sp ≡ address
          = at_none (distance context.site variable offset pushed) r.sp address
          (eqb-true (distance context.site variable offset pushed) 0 none_is) (omega (arith, pointer))
          (frame_away context top pushed need variable offset r.sp room pointer) in
          let found : Registers =
          record r { h = high_byte (word_at memory r.sp); l = low_byte (word_at memory r.sp) } in
          top_word_goes (Plain (set H 0) ∷ []) r sound stand on
          (λ middle known_facts stand on.
          registers_end (set H 0 ∷ []) found sound (tt, tt) stand on
          (rest (record found { h = 0 }) (record {
            h = refl;
            l = low_there memory r.sp mem ∙ ap (byte_at memory) here;
            a = refl;
            d = refl;
            e = refl;
          })))
      by_test false true none_is one_is stand =
          let mem = on.ready.shares.is_memory in
          let pointer = on.ready.pointer in
          let next : wrap (r.sp + 1) ≡ address
          = at_one (distance context.site variable offset pushed) r.sp address
          (eqb-true (distance context.site variable offset pushed) 1 one_is)
          (frame_away context top pushed need variable offset r.sp room pointer) in
          let found : Registers =
          record r { h = high_byte (word_at memory r.sp); l = low_byte (word_at memory r.sp) } in
          top_word_goes (Plain (copy L H) ∷ Plain (set H 0) ∷ []) r sound stand on
          (λ middle known_facts stand on.
          registers_end (copy L H ∷ set H 0 ∷ []) found sound (tt, (tt, tt)) stand on
          (rest (record found { l = found.h; h = 0 }) (record {
            h = refl;
            l = high_there memory r.sp mem ∙ ap (byte_at memory) next;
            a = refl;
            d = refl;
            e = refl;
          })))
      by_test false false none_is one_is stand =
          let whole = steps_split
          (location_address_steps (knowing context.site used) (locations.Frame variable offset) pushed
          ++ (Plain (load L) ∷ []))
          (Plain (set H 0) ∷ []) stand in
          let parts =
          steps_split
          (location_address_steps (knowing context.site used) (locations.Frame variable offset) pushed)
          (Plain (load L) ∷ []) whole.first in
          ended parts.first parts.second whole.second
        where
          ended :
              {found later : Facts} {middle end : ℕ}
              → StepsStand context PartIs facts from
              (location_address_steps (knowing context.site used) (locations.Frame variable offset) pushed)
              found middle
              → StepsStand context PartIs found middle (Plain (load L) ∷ []) later end
              → StepsStand context PartIs later end (Plain (set H 0) ∷ []) last to
              → Does (loaded_of context.activation) budget more
              (at_place from r memory events) outcome Good
          ended first (PlainThere there NoneThere) after =
              location_address_goes used (locations.Frame variable offset) r sound room
              (omega arith) known first on
              (λ there_r beside on_there.
              byte_at_hl_goes address there_r beside.hl (PlainThere there after) on_there
              (λ now byte. rest now (record {
                h = byte.h;
                l = byte.l;
                a = byte.a ∙ beside.a;
                d = byte.d ∙ beside.d;
                e = byte.e ∙ beside.e;
              })))

  -- the byte at a location
  pub extended_location_goes :
      {facts : Facts} {from pushed need : ℕ} (used : Facts) (location : Location) (r : Registers)
      → HasRoom context.activation top pushed need
      → location_at context.activation (distances_in context) location < MEMORY_SIZE
      → Know context used r memory
      → StepsStand context PartIs facts from
      (byte_to_l_steps (knowing context.site used) location pushed ++ (Plain (set H 0) ∷ [])) last to
      → GoesOn context facts top base source frame r memory
      → Follows outcome Good context last to top budget more base source memory frame events
      (location_at context.activation (distances_in context) location) r
      → Does (loaded_of context.activation) budget more (at_place from r memory events) outcome Good
  extended_location_goes {facts = facts} {from = from} {pushed = pushed} used location r room small
      known stand on rest =
      by_test (is_at used.word_in_hl location) (is_at used.byte_in_a location)
      (is_at used.word_in_hl (before location))
      (is_at used.address_in_hl location) refl refl refl refl stand
    where
      by_location : (of : Location) → location ≡ of
          → StepsStand context PartIs facts from
          (elim of [
            | locations.Static place ↦ Word LoadHl place ∷ []
            | locations.Frame variable offset ↦
                frame_byte_to_l_steps (knowing context.site used) (locations.Frame variable offset)
                (distance (knowing context.site used) variable offset pushed) pushed
          ] ++ (Plain (set H 0) ∷ [])) last to
          → Does (loaded_of context.activation) budget more
          (at_place from r memory events) outcome Good
      by_location (locations.Static place) of_is stand =
          static_goes place r stand on
          (subst (λ (l : Location). Follows outcome Good context last to top budget more base source memory
          frame events (location_at context.activation (distances_in context) l) r) of_is rest)
      by_location (locations.Frame variable offset) of_is stand =
          frame_goes used variable offset r room known stand on
          (subst (λ (l : Location). Follows outcome Good context last to top budget more base source memory
          frame events (location_at context.activation (distances_in context) l) r) of_is rest)

      by_test : (low in_a high here : Bool)
          → is_at used.word_in_hl location ≡ low
          → is_at used.byte_in_a location ≡ in_a
          → is_at used.word_in_hl (before location) ≡ high
          → is_at used.address_in_hl location ≡ here
          → StepsStand context PartIs facts from
          ((if low then []
          else elim (if in_a then Some (copy L registers.A) else if high then Some
          (copy L H) else if here then Some (load L) else None) as (λ (found : Option Instr). List Step) [
            | Some instruction ↦ Plain instruction ∷ []
            | None ↦ elim location [
              | locations.Static place ↦ Word LoadHl place ∷ []
              | locations.Frame variable offset ↦
                  frame_byte_to_l_steps (knowing context.site used) (locations.Frame variable offset)
                  (distance (knowing context.site used) variable offset pushed) pushed
            ]
          ]) ++ (Plain (set H 0) ∷ [])) last to
          → Does (loaded_of context.activation) budget more
          (at_place from r memory events) outcome Good
      by_test true in_a high here low_is a_is high_is here_is stand =
          let is =
          word_in_hl_is context.activation (distances_in context) used.word_in_hl location r.h r.l memory
          low_is known.word_holds in
          registers_end (set H 0 ∷ []) r sound (tt, tt) stand on
          (rest (record r { h = 0 }) (record { h = refl; l = is.low_is.0; a = refl; d = refl; e = refl }))
      by_test false true high here low_is a_is high_is here_is stand =
          let is =
          byte_in_a_is context.activation (distances_in context) used.byte_in_a location r.a memory
          a_is known.byte_holds in
          registers_end (copy L registers.A ∷ set H 0 ∷ []) r sound (tt, (tt, tt)) stand on
          (rest (record r { l = r.a; h = 0 }) (record { h = refl; l = is.0; a = refl; d = refl; e = refl }))
      by_test false false true here low_is a_is high_is here_is stand =
          let is =
          byte_in_h_is context.activation (distances_in context) used.word_in_hl location r.h r.l memory
          small high_is known.word_holds in
          registers_end (copy L H ∷ set H 0 ∷ []) r sound (tt, (tt, tt)) stand on
          (rest (record r { l = r.h; h = 0 }) (record { h = refl; l = is.0; a = refl; d = refl; e = refl }))
      by_test false false false true low_is a_is high_is here_is stand =
          byte_at_hl_goes (location_at context.activation (distances_in context) location) r
          (address_in_hl_is context.activation (distances_in context) used.address_in_hl location r.h r.l
          here_is known.address_holds)
          stand on rest
      by_test false false false false low_is a_is high_is here_is stand = by_location location refl stand

-- of a BYTE in memory no more is kept than of its address
memory_keeps :
    (context : Context) {bound : ℕ} {form : ExpressionForm} {tree : TypedExpression} (reference : Reference)
    → IsForm (nodes_in context) context.storage bound form tree
    → memory_of_form (nodes_in context) form ≡ Some reference
    → IsKeptBy (keeps_of_form (nodes_in context) Byte form) (keeps_of_address (nodes_in context) reference)
memory_keeps context reference is here = by is here
  where
    through : (found : Option Reference) → found ≡ Some reference
        → IsKeptBy (option_map_or (keeps_of_address (nodes_in context)) found keeps_none)
        (keeps_of_address (nodes_in context) reference)
    through (Some one) same =
        subst (λ (other : Option Reference). IsKeptBy
        (option_map_or (keeps_of_address (nodes_in context)) other keeps_none)
        (keeps_of_address (nodes_in context) reference)) (sym same) (record { a = λ is. is; de = λ is. is })
    through None same = kept_nothing _

    by : {bound : ℕ} {form : ExpressionForm} {tree : TypedExpression}
        → IsForm (nodes_in context) context.storage bound form tree
        → memory_of_form (nodes_in context) form ≡ Some reference
        → IsKeptBy (keeps_of_form (nodes_in context) Byte form)
        (keeps_of_address (nodes_in context) reference)
    by (IsValue {reference = found} given) here = through (Some found) here
    by (IsConversion {inner = inner} is) here =
        through (memory_of_form (nodes_in context) (forms.Conversion inner)) here
    by (IsFunction {function = function} {operand = operand} is) here =
        through (memory_of_form (nodes_in context) (forms.Function function operand)) here
    by (IsLocation given) here = absurd cc
    by IsNumber here = kept_nothing _
    by IsConstantList here = kept_nothing _
    by (IsEmbedded target inner) here = kept_nothing _
    by (IsUnary operand) here = kept_nothing _
    by (IsBinary one two) here = kept_nothing _
    by (IsCallOf given) here = kept_nothing _
    by (IsShift one two) here = kept_nothing _
    by IsInput here = kept_nothing _

-- the address of a located part is below the size of memory
based_small :
    (context : Context) (home : TypedHome) (object bytes : ℕ) (is_inside : Bool)
    (place : SourcePlace) (s u : SourceState)
    → based_place home context.activation.around object bytes is_inside s ≡ Gave place u
    → address_on_machine context.activation place < MEMORY_SIZE
based_small context home object bytes is_inside place s u same = by home same
  where
    in_memory : (address : ℕ) → InMemory (address % MEMORY_SIZE) ≡ place
        → address_on_machine context.activation place < MEMORY_SIZE
    in_memory address is_there =
        subst (λ (p : SourcePlace). address_on_machine context.activation p < MEMORY_SIZE) is_there
        (remainder_in_memory address)

    by : (kind : TypedHome) → based_place kind context.activation.around object bytes is_inside s
        ≡ Gave place u
        → address_on_machine context.activation place < MEMORY_SIZE
    by (BasedOn base) same =
        let given =
        gave_first
        (read_scalar context.activation.around.program Address
        (place_of context.activation.around base) s)
        (λ start t. Gave (InMemory ((start + bytes) % MEMORY_SIZE)) t) place u same in
        in_memory (given.first + bytes) (same_given given.next)
    by (InFrame procedure) same =
        subst (λ (p : SourcePlace). address_on_machine context.activation p < MEMORY_SIZE)
        (same_given same) (omega arith)
    by (InData values) same = in_memory _ (same_given same)
    by (InConstants values) same = in_memory _ (same_given same)
    by (Placed at) same = in_memory _ (same_given same)
    by Elsewhere same = in_memory _ (same_given same)
    by Nowhere same = in_memory _ (same_given same)

located_small :
    (context : Context) (tree : TypedReference) (place : SourcePlace) (s u : SourceState)
    → located_in context tree s ≡ Gave place u
    → address_on_machine context.activation place < MEMORY_SIZE
located_small context (PartOf object subscript member offset member_subscript) place s u same =
    let one = gave_first (displacement context.later context.activation.around subscript s)
    (λ one t. then_do (displacement context.later context.activation.around member_subscript t)
    (λ two u. based_place (home_of context.activation.around object) context.activation.around object
    (one.bytes + offset + two.bytes) (one.is_inside && two.is_inside) u)) place u same in
    let two = gave_first (displacement context.later context.activation.around member_subscript one.t)
    (λ two u. based_place (home_of context.activation.around object) context.activation.around object
    ((one.first).bytes + offset + two.bytes) ((one.first).is_inside && two.is_inside) u) place u one.next in
    based_small context (home_of context.activation.around object) object
    ((one.first).bytes + offset + (two.first).bytes)
    ((one.first).is_inside && (two.first).is_inside) place two.t u two.next

-- a BYTE in memory
pub extended_carried :
    {context : Context} {facts last : Facts} {number : ExpressionNumber} {reference : Reference}
    {tree : TypedExpression}
    {bound pushed from to : ℕ} (form : ExpressionForm)
    → IsSound context
    → IsExpression (nodes_in context) context.storage bound number.index tree
    → IsForm (nodes_in context) context.storage number.index form tree
    → TypesHold context.typed context.within tree
    → type_of tree ≡ Byte
    → memory_of (knowing context.site facts) number ≡ Some reference
    → memory_of_form (nodes_in context) form ≡ Some reference
    → keeps context.site number ≡ keeps_of_form (nodes_in context) Byte form
    → StepsStand context (PartDoes context) facts from
    (extended_byte_in_memory_steps (knowing context.site facts) reference pushed) last to
    → IsCarriedOut context facts number tree Byte pushed from last to
unfolding keeps_at_site
extended_carried {context = context} {facts = facts} {last = last} {number = number} {reference = reference}
    {tree = tree} {pushed = pushed} {from = from} {to = to} form sound is form_is types byte there
    in_form kept stand =
    by_location (location_of (knowing context.site facts) reference) refl stand
  where
    lies : ByteLies context reference tree
    lies = byte_lies context sound facts is types there

    less_kept : IsKeptBy (keeps context.site number) (keeps_at_site context.site reference)
    less_kept =
        subst (λ (of : Keeps). IsKeptBy of (keeps_of_address (nodes_in context) reference)) (sym kept)
        (memory_keeps context reference form_is in_form)

    whole : {top : ℕ} {base memory ended : List ℕ} {r now : Registers} (t : SourceState) (address found : ℕ)
        → now.h ≡ 0
        → now.l ≡ byte_at ended address
        → byte_at ended address ≡ found % 256
        → found < values_of (type_of tree)
        → KeepsThem context number r now
        → GoesOn context last top base t.memory t.frame now ended
        → Does (loaded_of context.activation) t.budget 0
        (at_place to now ended t.events) (Gave found t)
        (Arrives context.activation top base to (WordIsGiven context last number Byte r memory))
    whole t address found h l low small keeps_them on =
        let below : found < 256 = subst (λ (scalar : ScalarType). found < values_of scalar) byte small in
        word_given t below (record { h = h ∙ no_high_byte found below; l = l ∙ low }) keeps_them on

    by_location : (found : Option Location) → location_of (knowing context.site facts) reference ≡ found
        → StepsStand context (PartDoes context) facts from
        (elim found [
          | Some location ↦ byte_to_l_steps (knowing context.site facts) location pushed
              ++ (Plain (set H 0) ∷ [])
          | None ↦ part_of (tasks.Address reference) pushed ∷ plain (load L ∷ set H 0 ∷ [])
        ]) last to
        → IsCarriedOut context facts number tree Byte pushed from last to
    by_location (Some location) here stand = λ top need base s r memory less room height going.
        let found = lies_there facts location sound lies.is lies.referred lies.types here in
        by_low location stand top need base s r memory less room going found.place found.is_at
        (located_small context lies.part found.place s s (found.means s))
        (lies.gives found.place s s top base memory r (found.means s) going.ready)
      where
        by_low :
            (location : Location)
            → StepsStand context (PartDoes context) facts from
            (byte_to_l_steps (knowing context.site facts) location pushed ++ (Plain (set H 0) ∷ [])) last to
            → (top need : ℕ) (base : List ℕ) (s : SourceState) (r : Registers) (memory : List ℕ)
            → s.budget < context.number
            → HasRoom context.activation top pushed need
            → GoesOn context facts top base s.memory s.frame r memory
            → (place : SourcePlace)
            → address_on_machine context.activation place
            ≡ location_at context.activation (distances_in context) location
            → address_on_machine context.activation place < MEMORY_SIZE
            → LowIsAt context (type_of tree) (address_on_machine context.activation place) memory s
            (value_in context tree s)
            ⊎ GoesOutside (value_in context tree s)
            → Does (loaded_of context.activation) s.budget 0 (at_place from r memory s.events)
            (value_in context tree s)
            (Arrives context.activation top base to (WordIsGiven context last number Byte r memory))
        by_low location stand top need base s r memory less room going place is_at small (inr outside) =
            does_outside (value_in context tree s) outside
        by_low location stand top need base s r memory less room going place is_at small (inl low) =
            does_same (Gave low.found s) low.is
            (extended_location_goes sound facts location r room
            (subst (λ (n : ℕ). n < MEMORY_SIZE) is_at small)
            going.known stand going
            (λ now beside on.
            whole s (address_on_machine context.activation place) low.found beside.h
            (beside.l ∙ ap (byte_at memory) (sym is_at)) low.low low.small
            (record { a = λ kept. beside.a; d = λ kept. beside.d; e = λ kept. beside.e }) on))
    by_location None here (PartThere {found = known_facts} {middle = middle} does rest) =
        λ top need base s r memory less room height going.
        let part_height = lies.height in
        where_located (located_in context lies.part s) (value_in context tree s)
        (does lies.bound lies.part lies.is lies.referred lies.types top base s r memory less
        (room_for (2 * height_of_reference lies.part) (omega (arith, part_height, height)) room)
        going.ready going.known tt)
        (λ place t end same given fewer.
        subst (λ (state : State). Does (loaded_of context.activation) t.budget 0 state
        (value_in context tree s)
        (Arrives context.activation top base to (WordIsGiven context last number Byte r memory)))
        (sym given.is_at)
        (loaded top base s t r memory given.r given.memory place (given.holds).hl
        (record {
          a = λ kept_a. (given.holds).a (less_kept.a kept_a);
          d = λ kept_de. (given.holds).d (less_kept.de kept_de);
          e = λ kept_de. (given.holds).e (less_kept.de kept_de);
        })
        (record { ready = given.ready; known = (given.holds).known }) rest
        (lies.gives place s t top base given.memory given.r same given.ready)))
        (λ why t same. lies.stops why s t same)
      where
        loaded :
            (top : ℕ) (base : List ℕ) (s t : SourceState) (r : Registers) (memory : List ℕ)
            (now : Registers) (ended : List ℕ)
            {found : Facts} {middle : ℕ} (place : SourcePlace)
            → word now.h now.l ≡ address_on_machine context.activation place
            → KeepsThem context number r now
            → GoesOn context found top base t.memory t.frame now ended
            → StepsStand context (PartDoes context) found middle (plain (load L ∷ set H 0 ∷ [])) last to
            → LowIsAt context (type_of tree) (address_on_machine context.activation place) ended t
            (value_in context tree s)
            ⊎ GoesOutside (value_in context tree s)
            → Does (loaded_of context.activation) t.budget 0 (at_place middle now ended t.events)
            (value_in context tree s)
            (Arrives context.activation top base to (WordIsGiven context last number Byte r memory))
        loaded top base s t r memory now ended place hl keeps_them on stand (inr outside) =
            does_outside (value_in context tree s) outside
        loaded top base s t r memory now ended place hl keeps_them on stand (inl low) =
            does_same (Gave low.found t) low.is
            (byte_at_hl_goes sound (address_on_machine context.activation place) now hl stand on
            (λ last_registers beside going_last.
            whole t (address_on_machine context.activation place) low.found beside.h
            beside.l low.low low.small
            (record {
              a = λ kept_a. beside.a ∙ keeps_them.a kept_a;
              d = λ kept_de. beside.d ∙ keeps_them.d kept_de;
              e = λ kept_de. beside.e ∙ keeps_them.e kept_de;
            }) going_last))
