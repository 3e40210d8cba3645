-- The code that puts the byte at a location into A.
use Rattle.task_laws.proofs.Prelude.{◌≡◌, ℕ, ◌+◌, ◌<◌, ◌≤◌, ◌⊎◌, inl, inr, ◌==◌, Bool, true, false, if◌then◌else◌, List, [], ◌∷◌, ◌++◌, Option, Some, None, refl, sym, ap, subst, ◌∙◌, arith, cases_lt, eqb-true, MEMORY_SIZE, byte_at, word_at, byte_small, Event, SourceState, Outcome, Instr, A, H, L, Registers, State, high_byte, low_byte, word, wrap, LoadA, Place, Location, is_static_location, Does, loaded_of, at_place, Item, Activation, HasRoom, IsThere, LiesWell, IsSteady, location_at, place_at, after_before, location_after_is, address_asks, address_in_hl_is, byte_in_a_is, byte_in_h_is, word_in_hl_is, Facts, Part, Step, Plain, Word, before, is_at, no_facts, copy, load, distance, note_word_steps, location_address_steps, frame_byte_steps, location_byte_steps, top_word_steps, knowing, Context, IsSound, distances_in, StepsStand, PlainThere, WordThere, HoldsThere, ChangesAOnly, Know}
use Rattle.treecode.specs.declared.place.Location.TheVariants as locations
use Rattle.task_laws.proofs.Machine.Rules.{GoesOn, holds_go, ready_with_registers, registers_go, steps_split, word_goes}
use Rattle.task_laws.proofs.Machine.Addresses.{location_address_goes, nothing_goes}
use Rattle.task_laws.proofs.Places.LocationWords.{frame_away, high_there, low_there, top_word_goes, word_known, at_none}
use Rattle.task_laws.proofs.Machine.EffectForms.{only_itself}

-- A is the byte at an address; where that is said, nothing else has changed
pub record ByteBeside (memory : List ℕ) (address : ℕ) (alone : Bool) (r now : Registers) : Type 0 where
  pub a : now.a ≡ byte_at memory address
  pub others : alone ≡ true → ChangesAOnly r memory now memory

only_a : (r : Registers) (a : ℕ) (memory : List ℕ) → ChangesAOnly r memory (record r { a = a }) memory
only_a r a memory = record { b = refl; c = refl; d = refl; e = refl; h = refl; l = refl; same_memory = refl }

-- the byte at a place in memory
static_byte_goes :
    {Given : Type 0} {outcome : Outcome Given} {Good : Given → SourceState → State → Type 0}
    {context : Context} {PartIs : (before : Facts) → Part → (from : ℕ) → (after : Facts) → (to : ℕ) → Type 0}
    {last : Facts} {to top budget more : ℕ} {base source memory : List ℕ} {frame : List (List ℕ)}
    {events : List Event} {facts : Facts} {from : ℕ} (place : Place) (r : Registers)
    → IsSound context
    → IsSteady context.activation (place_at context.activation.layout place)
    → StepsStand context PartIs facts from (Word LoadA place ∷ []) last to
    → GoesOn context facts top base source frame r memory
    → ((now : Registers) → ByteBeside memory (place_at context.activation.layout place) true r now
    → GoesOn context last top base source frame now memory
    → Does (loaded_of context.activation) budget more (at_place to now memory events) outcome Good)
    → Does (loaded_of context.activation) budget more (at_place from r memory events) outcome Good
static_byte_goes {context = context} {memory = memory} place r sound steady (WordThere there stand) on rest =
    let mem = on.ready.shares.is_memory in
    let bytes = on.ready.registers in
    let byte : ℕ = byte_at memory (place_at context.activation.layout place) in
    let small = byte_small memory (place_at context.activation.layout place) mem in
    let now : Registers = record r { a = byte } in
    word_goes LoadA place r now memory sound there on steady refl
    (λ known. nothing_goes now stand
    (record {
      ready =
          ready_with_registers refl
          (record { a = small; b = bytes.b; c = bytes.c; d = bytes.d; e = bytes.e; h = bytes.h; l = bytes.l })
          on.ready;
      known = known;
    })
    (rest now (record { a = refl; others = λ alone. only_a r byte memory })))

-- MOV A,M at the end, where HL is an address
pub load_a_goes :
    {Given : Type 0} {outcome : Outcome Given} {Good : Given → SourceState → State → Type 0}
    {context : Context} {PartIs : (before : Facts) → Part → (from : ℕ) → (after : Facts) → (to : ℕ) → Type 0}
    {last : Facts} {to top budget more : ℕ} {base source memory : List ℕ} {frame : List (List ℕ)}
    {events : List Event} {facts : Facts} {from : ℕ} (address : ℕ) (r : Registers)
    → IsSound context
    → IsSteady context.activation address
    → word r.h r.l ≡ address
    → StepsStand context PartIs facts from (Plain (load A) ∷ []) last to
    → GoesOn context facts top base source frame r memory
    → ((now : Registers) → ByteBeside memory address true r now
    → GoesOn context last top base source frame now memory
    → Does (loaded_of context.activation) budget more (at_place to now memory events) outcome Good)
    → Does (loaded_of context.activation) budget more (at_place from r memory events) outcome Good
load_a_goes {context = context} {memory = memory} {facts = facts} address r sound steady is
    (PlainThere there stand) on rest =
    let bytes = on.ready.registers in
    let byte : ℕ = byte_at memory (word r.h r.l) in
    let small = byte_small memory (word r.h r.l) on.ready.shares.is_memory in
    let now : Registers = record r { a = byte } in
    registers_go r now sound there on
    (address_asks context.activation (distances_in context) facts.address_in_hl r.h r.l on.known.address_holds
    (subst (λ (n : ℕ). IsSteady context.activation n) (sym is) steady)) refl refl
    (record { a = small; b = bytes.b; c = bytes.c; d = bytes.d; e = bytes.e; h = bytes.h; l = bytes.l })
    (λ on_now. nothing_goes now stand on_now
    (rest now (record { a = ap (byte_at memory) is; others = λ alone. only_a r byte memory })))

-- MOV A,L or MOV A,H at the end
copy_goes :
    {Given : Type 0} {outcome : Outcome Given} {Good : Given → SourceState → State → Type 0}
    {context : Context} {PartIs : (before : Facts) → Part → (from : ℕ) → (after : Facts) → (to : ℕ) → Type 0}
    {last : Facts} {to top budget more : ℕ} {base source memory : List ℕ} {frame : List (List ℕ)}
    {events : List Event} {facts : Facts} {from : ℕ} (is_high : Bool) (address : ℕ) (r : Registers)
    → IsSound context
    → (if is_high then r.h else r.l) ≡ byte_at memory address
    → StepsStand context PartIs facts from (Plain (if is_high then copy A H else copy A L) ∷ []) last to
    → GoesOn context facts top base source frame r memory
    → ((now : Registers) → ByteBeside memory address true r now
    → GoesOn context last top base source frame now memory
    → Does (loaded_of context.activation) budget more (at_place to now memory events) outcome Good)
    → Does (loaded_of context.activation) budget more (at_place from r memory events) outcome Good
copy_goes {memory = memory} true address r sound is (PlainThere there stand) on rest =
    let bytes = on.ready.registers in
    let now : Registers = record r { a = r.h } in
    registers_go r now sound there on tt refl refl
    (record { a = bytes.h; b = bytes.b; c = bytes.c; d = bytes.d; e = bytes.e; h = bytes.h; l = bytes.l })
    (λ on_now. nothing_goes now stand on_now
    (rest now (record { a = is; others = λ alone. only_a r r.h memory })))
copy_goes {memory = memory} false address r sound is (PlainThere there stand) on rest =
    let bytes = on.ready.registers in
    let now : Registers = record r { a = r.l } in
    registers_go r now sound there on tt refl refl
    (record { a = bytes.l; b = bytes.b; c = bytes.c; d = bytes.d; e = bytes.e; h = bytes.h; l = bytes.l })
    (λ on_now. nothing_goes now stand on_now
    (rest now (record { a = is; others = λ alone. only_a r r.l memory })))

-- The word at the stack pointer: if one byte of it is steady, so is the other one. If only words are pushed,
-- the first one is at the level.
next_is_steady :
    (activation : Activation) (top pushed need sp from : ℕ) (one two : List Item)
    → LiesWell activation
    → HasRoom activation top pushed need
    → sp ≡ wrap top
    → IsSteady activation sp
    → IsThere activation one from (from + 1)
    → IsThere activation two (from + 1) (from + 1 + 1)
    → IsSteady activation (wrap (sp + 1))
next_is_steady activation top pushed need sp from one two lies room pointer steady first second =
    by (cases_lt top activation.level)
  where
    by : (top < activation.level) ⊎ (activation.level ≤ top) → IsSteady activation (wrap (sp + 1))
    by (inl less) =
        let above = lies.above in
        let stack = lies.placed.stack_in_memory in
        let enough = room.enough in
        absurd (steady.apart (omega (arith, pointer, less, above, stack, enough))
        (omega (arith, pointer, less, above, stack)))
    by (inr more) = record { apart = λ low below. at_end low below (cases_lt (activation.level + 1) 65536) }
      where
        at_end : activation.floor ≤ wrap (sp + 1) → wrap (sp + 1) < activation.level
            → (activation.level + 1 < 65536) ⊎ (65536 ≤ activation.level + 1) → ⊥
        at_end low below (inl inside) =
            let depth = room.depth in
            omega (arith, pointer, more, depth, low, below, inside)
        at_end low below (inr edge) =
            at_code (cases_lt (from + 1) (activation.around.program.placement.stack.start
            + activation.around.program.placement.stack.len))
          where
            at_code : (from + 1 < activation.around.program.placement.stack.start
                + activation.around.program.placement.stack.len)
                ⊎ (activation.around.program.placement.stack.start
                + activation.around.program.placement.stack.len ≤ from + 1)
                → ⊥
            at_code (inl within) =
                let depth = room.depth in
                let above = lies.above in
                let stack = lies.placed.stack_in_memory in
                let code_low = second.low in
                let code_high = second.high in
                lies.placed.apart (from + 1) code_low (omega (arith, code_high))
                (omega (arith, pointer, more, depth, above, stack, low, edge, lies.bottom)) within
            at_code (inr past) =
                let depth = room.depth in
                let above = lies.above in
                let stack = lies.placed.stack_in_memory in
                let code = lies.placed.code_in_memory in
                let code_low = first.low in
                let code_high = second.high in
                lies.placed.apart from code_low (omega (arith, code_high))
                (omega (arith, pointer, more, depth, above, stack, low, edge, past, lies.bottom))
                (omega (arith, code, code_high, above, edge))

first_is_steady :
    (activation : Activation) (top pushed need sp : ℕ)
    → LiesWell activation
    → HasRoom activation top pushed need
    → sp ≡ wrap top
    → IsSteady activation (wrap (sp + 1))
    → IsSteady activation sp
first_is_steady activation top pushed need sp lies room pointer steady =
    record { apart = λ low below. by low below (cases_lt (top + 1) activation.level) }
  where
    by : activation.floor ≤ sp → sp < activation.level
        → (top + 1 < activation.level) ⊎ (activation.level ≤ top + 1) → ⊥
    by low below (inl less) =
        let above = lies.above in
        let stack = lies.placed.stack_in_memory in
        let enough = room.enough in
        steady.apart (omega (arith, pointer, less, above, stack, enough))
        (omega (arith, pointer, less, above, stack))
    by low below (inr more) =
        let depth = room.depth in
        let even = room.even in
        let above = lies.above in
        let stack = lies.placed.stack_in_memory in
        steady.apart (omega (arith, pointer, more, depth, even, above, stack, low, below))
        (omega (arith, pointer, more, depth, even, above, stack, low, below))

pub at_one : (away sp address : ℕ) → away ≡ 1 → wrap (away + sp) ≡ address → wrap (sp + 1) ≡ address
at_one away sp address one is = omega (arith, one, is)

back_one : (sp address before : ℕ) → sp < MEMORY_SIZE → wrap (sp + 1) ≡ address
    → before ≡ wrap (address + 65535) → sp ≡ before
back_one sp address before small is before_is = omega (arith, small, is, before_is)

-- a fact that the planner notes about HL as a word, and the rest
held_goes :
    {Given : Type 0} {outcome : Outcome Given} {Good : Given → SourceState → State → Type 0}
    {context : Context} {PartIs : (before : Facts) → Part → (from : ℕ) → (after : Facts) → (to : ℕ) → Type 0}
    {last : Facts} {to top budget more : ℕ} {base source memory : List ℕ} {frame : List (List ℕ)}
    {events : List Event} {facts : Facts} {from : ℕ} (location : Location)
    (others : List Step) (r : Registers)
    → StepsStand context PartIs facts from (note_word_steps location ++ others) last to
    → GoesOn context facts top base source frame r memory
    → Know context (record no_facts { word_in_hl = Some location }) r memory
    → ((found : Facts) → StepsStand context PartIs found from others last to
    → GoesOn context found top base source frame r memory
    → Does (loaded_of context.activation) budget more (at_place from r memory events) outcome Good)
    → Does (loaded_of context.activation) budget more (at_place from r memory events) outcome Good
held_goes location others r (HoldsThere stand) on known rest = rest _ stand (holds_go on known)

-- the byte at a location of the frame
frame_byte_goes :
    {Given : Type 0} {outcome : Outcome Given} {Good : Given → SourceState → State → Type 0}
    {context : Context} {PartIs : (before : Facts) → Part → (from : ℕ) → (after : Facts) → (to : ℕ) → Type 0}
    {last : Facts} {to top pushed need budget more : ℕ} {base source memory : List ℕ} {frame : List (List ℕ)}
    {events : List Event} {facts : Facts} {from : ℕ} (used : Facts) (variable offset : ℕ) (r : Registers)
    → IsSound context
    → HasRoom context.activation top pushed need
    → IsSteady context.activation
    (location_at context.activation (distances_in context) (locations.Frame variable offset))
    → Know context used r memory
    → StepsStand context PartIs facts from
    (frame_byte_steps (knowing context.site used) (locations.Frame variable offset)
    (distance (knowing context.site used) variable offset pushed) pushed) last to
    → GoesOn context facts top base source frame r memory
    → ((now : Registers)
    → ByteBeside memory
    (location_at context.activation (distances_in context) (locations.Frame variable offset)) false r now
    → GoesOn context last top base source frame now memory
    → Does (loaded_of context.activation) budget more (at_place to now memory events) outcome Good)
    → Does (loaded_of context.activation) budget more (at_place from r memory events) outcome Good
unfolding distance
frame_byte_goes {outcome = outcome} {Good = Good} {context = context} {PartIs = PartIs} {last = last}
    {to = to} {top = top} {pushed = pushed} {need = need} {budget = budget} {more = more} {base = base}
    {source = source} {memory = memory} {frame = frame} {events = events} {facts = facts} {from = from} used
    variable offset r sound room steady known stand on rest =
    by_test (distance context.site variable offset pushed == 0)
    (distance context.site variable offset pushed == 1) refl refl stand
  where
    by_test : (none one : Bool)
        → (distance context.site variable offset pushed == 0) ≡ none
        → (distance context.site variable offset pushed == 1) ≡ one
        → StepsStand context PartIs facts from
        (if none then top_word_steps ++ note_word_steps (locations.Frame variable offset)
        ++ (Plain (copy A L) ∷ [])
        else if one then top_word_steps ++ note_word_steps (before (locations.Frame variable offset))
        ++ (Plain (copy A H) ∷ [])
        else location_address_steps (knowing context.site used) (locations.Frame variable offset) pushed
        ++ (Plain (load A) ∷ [])) last to
        → Does (loaded_of context.activation) budget more
        (at_place from r memory events) outcome Good
    by_test true one none_is one_is (PlainThere there (PlainThere again stand)) =
        let mem = on.ready.shares.is_memory in
        let pointer = on.ready.pointer in
        let location : Location = locations.Frame variable offset in
        let address : ℕ = location_at context.activation (distances_in context) location in
        let away_is : distance context.site variable offset pushed ≡ 0 =
        eqb-true (distance context.site variable offset pushed) 0 none_is in
        let here : r.sp ≡ address
        = at_none (distance context.site variable offset pushed) r.sp address away_is (omega (arith, pointer))
        (frame_away context top pushed need variable offset r.sp room pointer) in
        let low : low_byte (word_at memory r.sp) ≡ byte_at memory address =
        low_there memory r.sp mem ∙ ap (byte_at memory) here in
        let high : high_byte (word_at memory r.sp) ≡ byte_at memory (wrap (address + 1))
        = high_there memory r.sp mem ∙ ap (λ (n : ℕ). byte_at memory (wrap (n + 1))) here in
        let now : Registers =
        record r { h = high_byte (word_at memory r.sp); l = low_byte (word_at memory r.sp) } in
        top_word_goes (note_word_steps location ++ (Plain (copy A L) ∷ [])) r sound
        (PlainThere there (PlainThere again stand)) on
        (λ middle found stand on.
        held_goes location (Plain (copy A L) ∷ []) now stand on
        (word_known context now memory location steady
        (subst (λ (n : ℕ). IsSteady context.activation (wrap (n + 1))) here
        (next_is_steady context.activation top pushed need r.sp from _ _ sound.lies room pointer
        (subst (λ (n : ℕ). IsSteady context.activation n) (sym here) steady) there again)) low high)
        (λ found_too stand on.
        copy_goes false address now sound low stand on
        (λ last_one beside on. rest last_one (record { a = beside.a; others = λ never. absurd cc }) on)))
    by_test false true none_is one_is stand =
        let mem = on.ready.shares.is_memory in
        let pointer = on.ready.pointer in
        let location : Location = locations.Frame variable offset in
        let address : ℕ = location_at context.activation (distances_in context) location in
        let earlier : ℕ = location_at context.activation (distances_in context) (before location) in
        let away_is : distance context.site variable offset pushed ≡ 1 =
        eqb-true (distance context.site variable offset pushed) 1 one_is in
        let next : wrap (r.sp + 1) ≡ address
        = at_one (distance context.site variable offset pushed) r.sp address away_is
        (frame_away context top pushed need variable offset r.sp room pointer) in
        let here : r.sp ≡ earlier
        = back_one r.sp address earlier (omega (arith, pointer)) next
        (location_after_is context.activation (distances_in context) location 65535) in
        let low : low_byte (word_at memory r.sp) ≡ byte_at memory earlier =
        low_there memory r.sp mem ∙ ap (byte_at memory) here in
        let high : high_byte (word_at memory r.sp) ≡ byte_at memory address
        = high_there memory r.sp mem ∙ ap (byte_at memory) next in
        let after_is : wrap (earlier + 1) ≡ address =
        after_before context.activation (distances_in context) location (omega arith) in
        let now : Registers =
        record r { h = high_byte (word_at memory r.sp); l = low_byte (word_at memory r.sp) } in
        top_word_goes (note_word_steps (before location) ++ (Plain (copy A H) ∷ [])) r sound stand on
        (λ middle found stand on.
        held_goes (before location) (Plain (copy A H) ∷ []) now stand on
        (word_known context now memory (before location)
        (subst (λ (n : ℕ). IsSteady context.activation n) here
        (first_is_steady context.activation top pushed need r.sp sound.lies room pointer
        (subst (λ (n : ℕ). IsSteady context.activation n) (sym next) steady)))
        (subst (λ (n : ℕ). IsSteady context.activation n) (sym after_is) steady) low
        (high ∙ ap (byte_at memory) (sym after_is)))
        (λ found_too stand on.
        copy_goes true address now sound high stand on
        (λ last_one beside on. rest last_one (record { a = beside.a; others = λ never. absurd cc }) on)))
    by_test false false none_is one_is stand =
        let parts =
        steps_split
        (location_address_steps (knowing context.site used) (locations.Frame variable offset) pushed)
        (Plain (load A) ∷ []) stand in
        location_address_goes used (locations.Frame variable offset) r sound room (omega arith)
        known parts.first on
        (λ there beside on_there.
        load_a_goes (location_at context.activation (distances_in context) (locations.Frame variable offset))
        there sound steady beside.hl parts.second on_there
        (λ now byte on. rest now (record { a = byte.a; others = λ never. absurd cc }) on))

-- the byte at a location
pub location_byte_goes :
    {Given : Type 0} {outcome : Outcome Given} {Good : Given → SourceState → State → Type 0}
    {context : Context} {PartIs : (before : Facts) → Part → (from : ℕ) → (after : Facts) → (to : ℕ) → Type 0}
    {last : Facts} {to top pushed need budget more : ℕ} {base source memory : List ℕ} {frame : List (List ℕ)}
    {events : List Event} {facts : Facts} {from : ℕ} (used : Facts) (location : Location) (r : Registers)
    → IsSound context
    → HasRoom context.activation top pushed need
    → location_at context.activation (distances_in context) location < MEMORY_SIZE
    → IsSteady context.activation (location_at context.activation (distances_in context) location)
    → Know context used r memory
    → StepsStand context PartIs facts from
    (location_byte_steps (knowing context.site used) location pushed) last to
    → GoesOn context facts top base source frame r memory
    → ((now : Registers)
    → ByteBeside memory (location_at context.activation (distances_in context) location)
    (is_static_location location) r now
    → GoesOn context last top base source frame now memory
    → Does (loaded_of context.activation) budget more (at_place to now memory events) outcome Good)
    → Does (loaded_of context.activation) budget more (at_place from r memory events) outcome Good
location_byte_goes {outcome = outcome} {Good = Good} {context = context} {PartIs = PartIs} {last = last}
    {to = to} {top = top} {pushed = pushed} {need = need} {budget = budget} {more = more} {base = base}
    {source = source} {memory = memory} {frame = frame} {events = events} {facts = facts} {from = from} used
    location r sound room small steady known stand on rest =
    by_test (is_at used.byte_in_a location) (is_at used.word_in_hl location)
    (is_at used.word_in_hl (before location))
    (is_at used.address_in_hl location) refl refl refl refl stand
  where
    address : ℕ
    address = location_at context.activation (distances_in context) location

    by_location : (of : Location) → location ≡ of
        → StepsStand context PartIs facts from
        (elim of [
          | locations.Static place ↦ Word LoadA place ∷ []
          | locations.Frame variable offset ↦
              frame_byte_steps (knowing context.site used) (locations.Frame variable offset)
              (distance (knowing context.site used) variable offset pushed) pushed
        ]) last to
        → Does (loaded_of context.activation) budget more
        (at_place from r memory events) outcome Good
    by_location (locations.Static place) of_is stand =
        static_byte_goes place r sound
        (subst (λ (l : Location). IsSteady context.activation
        (location_at context.activation (distances_in context) l)) of_is steady)
        stand on
        (subst (λ (l : Location). (now : Registers)
        → ByteBeside memory (location_at context.activation (distances_in context) l)
        (is_static_location l) r now
        → GoesOn context last top base source frame now memory
        → Does (loaded_of context.activation) budget more (at_place to now memory events)
        outcome Good) of_is rest)
    by_location (locations.Frame variable offset) of_is stand =
        frame_byte_goes used variable offset r sound room
        (subst (λ (l : Location). IsSteady context.activation
        (location_at context.activation (distances_in context) l)) of_is steady)
        known stand on
        (subst (λ (l : Location). (now : Registers)
        → ByteBeside memory (location_at context.activation (distances_in context) l)
        (is_static_location l) r now
        → GoesOn context last top base source frame now memory
        → Does (loaded_of context.activation) budget more (at_place to now memory events)
        outcome Good) of_is rest)

    by_hl : (low high here : Bool)
        → is_at used.word_in_hl location ≡ low
        → is_at used.word_in_hl (before location) ≡ high
        → is_at used.address_in_hl location ≡ here
        → StepsStand context PartIs facts from
        (elim (if low then Some (copy A L) else if high then Some (copy A H) else if here then Some
        (load A) else None) as (λ (found : Option Instr). List Step) [
          | Some instruction ↦ Plain instruction ∷ []
          | None ↦ elim location [
            | locations.Static place ↦ Word LoadA place ∷ []
            | locations.Frame variable offset ↦
                frame_byte_steps (knowing context.site used) (locations.Frame variable offset)
                (distance (knowing context.site used) variable offset pushed) pushed
          ]
        ]) last to
        → Does (loaded_of context.activation) budget more
        (at_place from r memory events) outcome Good
    by_hl true high here low_is high_is here_is stand =
        let is =
        word_in_hl_is context.activation (distances_in context) used.word_in_hl location r.h r.l memory
        low_is known.word_holds in
        copy_goes false (location_at context.activation (distances_in context) location) r sound
        is.low_is.0 stand on
        (λ now beside on. rest now (record { a = beside.a; others = λ alone. beside.others refl }) on)
    by_hl false true here low_is high_is here_is stand =
        let is =
        byte_in_h_is context.activation (distances_in context) used.word_in_hl location r.h r.l memory
        small high_is known.word_holds in
        copy_goes true (location_at context.activation (distances_in context) location) r sound is.0 stand on
        (λ now beside on. rest now (record { a = beside.a; others = λ alone. beside.others refl }) on)
    by_hl false false true low_is high_is here_is stand =
        let is =
        address_in_hl_is context.activation (distances_in context) used.address_in_hl location r.h r.l
        here_is known.address_holds in
        load_a_goes (location_at context.activation (distances_in context) location) r
        sound steady is stand on
        (λ now beside on. rest now (record { a = beside.a; others = λ alone. beside.others refl }) on)
    by_hl false false false low_is high_is here_is stand = by_location location refl stand

    by_test : (in_a low high here : Bool)
        → is_at used.byte_in_a location ≡ in_a
        → is_at used.word_in_hl location ≡ low
        → is_at used.word_in_hl (before location) ≡ high
        → is_at used.address_in_hl location ≡ here
        → StepsStand context PartIs facts from
        (if in_a then []
        else elim (if low then Some (copy A L) else if high then Some (copy A H) else if here then Some
        (load A) else None) as (λ (found : Option Instr). List Step) [
          | Some instruction ↦ Plain instruction ∷ []
          | None ↦ elim location [
            | locations.Static place ↦ Word LoadA place ∷ []
            | locations.Frame variable offset ↦
                frame_byte_steps (knowing context.site used) (locations.Frame variable offset)
                (distance (knowing context.site used) variable offset pushed) pushed
          ]
        ]) last to
        → Does (loaded_of context.activation) budget more
        (at_place from r memory events) outcome Good
    by_test true low high here a_is low_is high_is here_is stand =
        let is =
        byte_in_a_is context.activation (distances_in context) used.byte_in_a location r.a memory
        a_is known.byte_holds in
        nothing_goes r stand on (rest r (record { a = is.0; others = λ alone. only_itself r memory }))
    by_test false low high here a_is low_is high_is here_is stand =
        by_hl low high here low_is high_is here_is stand
