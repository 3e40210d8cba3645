-- The code that puts the word at a location into HL.
use Rattle.task_laws.proofs.Prelude.{◌≡◌, ℕ, zero, suc, ◌+◌, ◌*◌, ◌<◌, ◌==◌, Bool, true, false, if◌then◌else◌, List, [], ◌∷◌, ◌++◌, Some, slice_set, slice_index, refl, sym, ap, subst, ◌∙◌, arith, eqb-true, MEMORY_SIZE, IsMemory, byte_at, word_at, byte_small, Event, SourceState, Outcome, Mov, Pop, Push, Of, A, L, StackPair, StackBc, StackHl, Registers, State, high_byte, low_byte, one_less, pushed_of, two_less, word, wrap, act, LoadHl, Place, Location, is_static_location, Does, loaded_of, at_place, HasRoom, plain_first, IsSteady, location_at, place_at, without_hl_holds, address_asks, word_in_hl_is, Facts, Part, Step, Word, is_at, no_facts, plain, distance, frame_word_steps, note_word_steps, location_address_steps, location_word_steps, word_at_hl_steps, knowing, Context, IsSound, distances_in, StepsStand, NoneThere, PlainThere, WordThere, HoldsThere, Know, next_word}
use Rattle.treecode.specs.declared.place.Location.TheVariants as locations
use Rattle.task_laws.proofs.Machine.Rules.{GoesOn, holds_go, pushed_anywhere, ready_with_registers, registers_go, steps_split, word_goes}
use Rattle.task_laws.proofs.Machine.Addresses.{frame_address, location_address_goes, nothing_goes, registers_end}
use Rattle.task_laws.proofs.Numbers.{up_and_down, up_and_one_down}

-- a byte that is put where it is changes nothing
pub set_same : (xs : List ℕ) (index : ℕ) → slice_set xs index (slice_index xs index) ≡ xs
set_same [] index = refl
set_same (first ∷ xs) zero = refl
set_same (first ∷ xs) (suc index) = ap (λ (others : List ℕ). first ∷ others) (set_same xs index)

high_of_two : (low high : ℕ) → low < 256 → high < 256 → high_byte (low + 256 * high) ≡ high
high_of_two low high one two = omega (arith, one, two)

low_of_two : (low high : ℕ) → low < 256 → high < 256 → low_byte (low + 256 * high) ≡ low
low_of_two low high one two = omega (arith, one, two)

-- the two bytes of a word in memory
pub high_there : (memory : List ℕ) (p : ℕ) → IsMemory memory
    → high_byte (word_at memory p) ≡ byte_at memory (wrap (p + 1))
high_there memory p is =
    high_of_two (byte_at memory p) (byte_at memory (wrap (p + 1))) (byte_small memory p is)
    (byte_small memory (wrap (p + 1)) is)

pub low_there : (memory : List ℕ) (p : ℕ) → IsMemory memory → low_byte (word_at memory p) ≡ byte_at memory p
low_there memory p is =
    low_of_two (byte_at memory p) (byte_at memory (wrap (p + 1))) (byte_small memory p is)
    (byte_small memory (wrap (p + 1)) is)

pub word_small : (memory : List ℕ) (p : ℕ) → IsMemory memory → word_at memory p < MEMORY_SIZE
word_small memory p is =
    let one = byte_small memory p is in
    let two = byte_small memory (wrap (p + 1)) is in
    omega (arith, one, two)

-- a word that was popped is pushed again: the memory is unchanged
pub push_back :
    (script : List (List ℕ)) (pair : StackPair) (place p : ℕ) (r : Registers) (memory : List ℕ)
    (events : List Event)
    → r.sp ≡ wrap (p + 2)
    → p < MEMORY_SIZE
    → IsMemory memory
    → pushed_of pair r ≡ word_at memory p
    → act script (Push pair) (at_place place r memory events)
    ≡ at_place place (record r { sp = p }) memory events
push_back script pair place p r memory events pointer small is same =
    ap (λ (w : ℕ). left (one_less r.sp) (two_less r.sp) (high_byte w) (low_byte w))
    (pushed_anywhere pair (wrap place) r ∙ same)
    ∙ ap (λ (n : ℕ). left n (two_less r.sp) (high_byte (word_at memory p)) (low_byte (word_at memory p)))
    (ap one_less pointer ∙ up_and_one_down p small)
    ∙ ap (λ (n : ℕ). left (wrap (p + 1)) n (high_byte (word_at memory p)) (low_byte (word_at memory p)))
    (ap two_less pointer ∙ up_and_down p small)
    ∙ ap (λ (n : ℕ). left (wrap (p + 1)) p n (low_byte (word_at memory p))) (high_there memory p is)
    ∙ ap (λ (n : ℕ). left (wrap (p + 1)) p (byte_at memory (wrap (p + 1))) n) (low_there memory p is)
    ∙ ap (λ (other : List ℕ). at_place place (record r { sp = p })
    (slice_set other p (byte_at memory p)) events)
    (set_same memory (wrap (p + 1)))
    ∙ ap (λ (other : List ℕ). at_place place (record r { sp = p }) other events) (set_same memory p)
  where
    left : (one two high low : ℕ) → State
    left one two high low =
        at_place place (record r { sp = two }) (slice_set (slice_set memory one high) two low) events

-- the word at the stack pointer is popped into HL, and pushed back
pub top_word_goes :
    {A : Type 0} {outcome : Outcome A} {Good : A → SourceState → State → Type 0}
    {context : Context} {PartIs : (before : Facts) → Part → (from : ℕ) → (after : Facts) → (to : ℕ) → Type 0}
    {last : Facts} {to top budget more : ℕ} {base source memory : List ℕ} {frame : List (List ℕ)}
    {events : List Event} {facts : Facts} {from : ℕ} (others : List Step) (r : Registers)
    → IsSound context
    → StepsStand context PartIs facts from (plain (Pop StackHl ∷ Push StackHl ∷ []) ++ others) last to
    → GoesOn context facts top base source frame r memory
    → ((middle : ℕ) (found : Facts)
    → StepsStand context PartIs found middle others last to
    → GoesOn context found top base source frame
    (record r { h = high_byte (word_at memory r.sp); l = low_byte (word_at memory r.sp) }) memory
    → Does (loaded_of context.activation) budget more
    (at_place middle (record r { h = high_byte (word_at memory r.sp); l = low_byte (word_at memory r.sp) })
    memory events)
    outcome Good)
    → Does (loaded_of context.activation) budget more (at_place from r memory events) outcome Good
top_word_goes {outcome = outcome} {Good = Good} {context = context} {top = top} {budget = budget}
    {more = more} {memory = memory} {events = events} {facts = facts} {from = from} others r sound
    (PlainThere there (PlainThere again stand)) on rest =
    let script = context.activation.around.program.script in
    let loaded = loaded_of context.activation in
    let shares = on.ready.shares in
    let is = shares.is_memory in
    let bytes = on.ready.registers in
    let pointer = on.ready.pointer in
    let small : r.sp < MEMORY_SIZE = omega (arith, pointer) in
    let number : ℕ = word_at memory r.sp in
    let fits : number < MEMORY_SIZE = word_small memory r.sp is in
    let after_pop : Registers =
    record r { h = high_byte number; l = low_byte number; sp = wrap (r.sp + 2) } in
    plain_first r sound.lies shares.code there
    (plain_first after_pop sound.lies shares.code again
    (subst (λ (s : State). Does loaded budget more s outcome Good)
    (sym (push_back script StackHl (from + 1 + 1) r.sp after_pop memory events refl small is
    (omega (arith, fits))))
    (rest (from + 1 + 1) _ stand (record {
      ready =
          ready_with_registers refl
          (record { a = bytes.a; b = bytes.b; c = bytes.c; d = bytes.d; e = bytes.e; h = omega (arith, fits); l = omega arith })
          on.ready;
      known = without_hl_holds facts on.known;
    }))))

-- the word after that one, through BC
pub second_word_goes :
    {A : Type 0} {outcome : Outcome A} {Good : A → SourceState → State → Type 0}
    {context : Context} {PartIs : (before : Facts) → Part → (from : ℕ) → (after : Facts) → (to : ℕ) → Type 0}
    {last : Facts} {to top budget more : ℕ} {base source memory : List ℕ} {frame : List (List ℕ)}
    {events : List Event} {facts : Facts} {from : ℕ} (others : List Step) (r : Registers)
    → IsSound context
    → StepsStand context PartIs facts from
    (plain (Pop StackBc ∷ Pop StackHl ∷ Push StackHl ∷ Push StackBc ∷ []) ++ others) last to
    → GoesOn context facts top base source frame r memory
    → ((middle : ℕ) (found : Facts) (now : Registers)
    → now ≡ record r { b = now.b; c = now.c; h = high_byte (word_at memory (wrap (r.sp + 2))); l = low_byte (word_at memory (wrap (r.sp + 2))) }
    → StepsStand context PartIs found middle others last to
    → GoesOn context found top base source frame now memory
    → Does (loaded_of context.activation) budget more
    (at_place middle now memory events) outcome Good)
    → Does (loaded_of context.activation) budget more (at_place from r memory events) outcome Good
second_word_goes {outcome = outcome} {Good = Good} {context = context} {top = top} {budget = budget}
    {more = more} {memory = memory} {events = events} {facts = facts} {from = from} others r sound
    (PlainThere there (PlainThere next (PlainThere again (PlainThere once stand)))) on rest =
    let script = context.activation.around.program.script in
    let loaded = loaded_of context.activation in
    let shares = on.ready.shares in
    let is = shares.is_memory in
    let bytes = on.ready.registers in
    let pointer = on.ready.pointer in
    let small : r.sp < MEMORY_SIZE = omega (arith, pointer) in
    let above : ℕ = wrap (r.sp + 2) in
    let above_small : wrap (r.sp + 2) < MEMORY_SIZE = omega arith in
    let first : ℕ = word_at memory r.sp in
    let second : ℕ = word_at memory above in
    let fits : first < MEMORY_SIZE = word_small memory r.sp is in
    let fits_too : second < MEMORY_SIZE = word_small memory above is in
    let one : Registers = record r { b = high_byte first; c = low_byte first; sp = above } in
    let two : Registers = record one { h = high_byte second; l = low_byte second; sp = wrap (above + 2) } in
    let three : Registers = record two { sp = above } in
    let now : Registers =
    record r { b = high_byte first; c = low_byte first; h = high_byte second; l = low_byte second } in
    plain_first r sound.lies shares.code there
    (plain_first one sound.lies shares.code next
    (plain_first two sound.lies shares.code again
    (subst (λ (s : State). Does loaded budget more s outcome Good)
    (sym (push_back script StackHl (from + 1 + 1 + 1) above two memory events refl above_small is
    (omega (arith, fits_too))))
    (plain_first three sound.lies shares.code once
    (subst (λ (s : State). Does loaded budget more s outcome Good)
    (sym (push_back script StackBc (from + 1 + 1 + 1 + 1) r.sp three memory events refl small is
    (omega (arith, fits))))
    (rest (from + 1 + 1 + 1 + 1) _ now refl stand (record {
      ready =
          ready_with_registers refl
          (record { a = bytes.a; b = omega (arith, fits); c = omega arith; d = bytes.d; e = bytes.e; h = omega (arith, fits_too); l = omega arith })
          on.ready;
      known = without_hl_holds facts on.known;
    })))))))

-- HL is the word at an address; A is kept if required, and DE is kept
pub record WordBeside (memory : List ℕ) (address : ℕ) (keeps_a : Bool) (r now : Registers) : Type 0 where
  pub low : now.l ≡ byte_at memory address
  pub high : now.h ≡ byte_at memory (wrap (address + 1))
  pub a : keeps_a ≡ true → now.a ≡ r.a
  pub d : now.d ≡ r.d
  pub e : now.e ≡ r.e

-- HL becomes the word at the address that it holds
pub word_at_hl_goes :
    {A : Type 0} {outcome : Outcome A} {Good : A → SourceState → State → Type 0}
    {context : Context} {PartIs : (before : Facts) → Part → (from : ℕ) → (after : Facts) → (to : ℕ) → Type 0}
    {last : Facts} {to top budget more : ℕ} {base source memory : List ℕ} {frame : List (List ℕ)}
    {events : List Event} {facts : Facts} {from : ℕ} (address : ℕ) (r : Registers)
    → IsSound context
    → IsSteady context.activation address
    → word r.h r.l ≡ address
    → StepsStand context PartIs facts from word_at_hl_steps last to
    → GoesOn context facts top base source frame r memory
    → ((now : Registers) → WordBeside memory address false r now
    → GoesOn context last top base source frame now memory
    → Does (loaded_of context.activation) budget more (at_place to now memory events) outcome Good)
    → Does (loaded_of context.activation) budget more (at_place from r memory events) outcome Good
word_at_hl_goes {context = context} {memory = memory} {events = events} {facts = facts} address r sound steady
    is (PlainThere there (PlainThere next (PlainThere again stand))) on rest =
    let bytes = on.ready.registers in
    let mem = on.ready.shares.is_memory in
    let low : ℕ = byte_at memory (word r.h r.l) in
    let low_small = byte_small memory (word r.h r.l) mem in
    let one : Registers = record r { a = low } in
    let further : ℕ = wrap (word r.h r.l + 1) in
    let two : Registers = record one { h = high_byte further; l = low_byte further } in
    let high : ℕ = byte_at memory (word two.h two.l) in
    let high_small = byte_small memory (word two.h two.l) mem in
    let three : Registers = record two { h = high } in
    registers_go r one sound there on
    (address_asks context.activation (distances_in context) facts.address_in_hl r.h r.l on.known.address_holds
    (subst (λ (n : ℕ). IsSteady context.activation n) (sym is) steady)) refl refl
    (record { a = low_small; b = bytes.b; c = bytes.c; d = bytes.d; e = bytes.e; h = bytes.h; l = bytes.l })
    (λ on_one. registers_go one two sound next on_one tt refl refl
    (record { a = low_small; b = bytes.b; c = bytes.c; d = bytes.d; e = bytes.e; h = omega arith; l = omega arith })
    (λ on_two. registers_go two three sound again on_two tt refl refl
    (record { a = low_small; b = bytes.b; c = bytes.c; d = bytes.d; e = bytes.e; h = high_small; l = omega arith })
    (λ on_three. registers_end (Mov L (Of A) ∷ []) three sound (tt, tt) stand on_three
    (λ on. rest _ (record {
      low = ap (byte_at memory) is;
      high = ap (byte_at memory) (next_word r.h r.l address is);
      a = λ never. absurd cc;
      d = refl;
      e = refl;
    }) on))))

-- HL is known to hold the word at a location
pub word_known :
    (context : Context) (r : Registers) (memory : List ℕ) (location : Location)
    → IsSteady context.activation (location_at context.activation (distances_in context) location)
    → IsSteady context.activation (wrap (location_at context.activation (distances_in context) location + 1))
    → r.l ≡ byte_at memory (location_at context.activation (distances_in context) location)
    → r.h ≡ byte_at memory (wrap (location_at context.activation (distances_in context) location + 1))
    → Know context (record no_facts { word_in_hl = Some location }) r memory
word_known context r memory location one two low high = record {
  byte_holds = tt;
  word_holds = record { low_is = (low, one); high_is = (high, two) };
  address_holds = tt;
  zero_holds = tt;
}

note_word_goes :
    {A : Type 0} {outcome : Outcome A} {Good : A → SourceState → State → Type 0}
    {context : Context} {PartIs : (before : Facts) → Part → (from : ℕ) → (after : Facts) → (to : ℕ) → Type 0}
    {last : Facts} {to top budget more : ℕ} {base source memory : List ℕ} {frame : List (List ℕ)}
    {events : List Event} {facts : Facts} {from : ℕ} (location : Location) (r : Registers)
    → StepsStand context PartIs facts from (note_word_steps location) last to
    → GoesOn context facts top base source frame r memory
    → Know context (record no_facts { word_in_hl = Some location }) r memory
    → (GoesOn context last top base source frame r memory
    → Does (loaded_of context.activation) budget more (at_place to r memory events) outcome Good)
    → Does (loaded_of context.activation) budget more (at_place from r memory events) outcome Good
note_word_goes location r (HoldsThere NoneThere) on known rest = rest (holds_go on known)

-- the distance from the stack pointer up to a location of the frame
pub frame_away :
    (context : Context) (top pushed need variable offset sp : ℕ)
    → HasRoom context.activation top pushed need
    → sp ≡ wrap top
    → wrap (distance context.site variable offset pushed + sp)
    ≡ location_at context.activation (distances_in context) (locations.Frame variable offset)
unfolding distance
frame_away context top pushed need variable offset sp room pointer =
    ap (λ (n : ℕ). wrap (distance context.site variable offset pushed + n)) pointer
    ∙ frame_address context.activation.level (distances_in context variable) offset top pushed room.depth

pub at_none : (away sp address : ℕ) → away ≡ 0 → sp < MEMORY_SIZE → wrap (away + sp) ≡ address → sp ≡ address
at_none away sp address none small is = omega (arith, none, small, is)

at_two : (away sp address : ℕ) → away ≡ 2 → wrap (away + sp) ≡ address → wrap (sp + 2) ≡ address
at_two away sp address two is = omega (arith, two, is)

-- the word at a location of the frame
frame_word_goes :
    {A : Type 0} {outcome : Outcome A} {Good : A → SourceState → State → Type 0}
    {context : Context} {PartIs : (before : Facts) → Part → (from : ℕ) → (after : Facts) → (to : ℕ) → Type 0}
    {last : Facts} {to top pushed need budget more : ℕ} {base source memory : List ℕ} {frame : List (List ℕ)}
    {events : List Event} {facts : Facts} {from : ℕ} (used : Facts) (variable offset : ℕ) (r : Registers)
    → IsSound context
    → HasRoom context.activation top pushed need
    → IsSteady context.activation
    (location_at context.activation (distances_in context) (locations.Frame variable offset))
    → IsSteady context.activation
    (wrap (location_at context.activation (distances_in context) (locations.Frame variable offset) + 1))
    → Know context used r memory
    → StepsStand context PartIs facts from
    (frame_word_steps (knowing context.site used) (locations.Frame variable offset)
    (distance (knowing context.site used) variable offset pushed) pushed) last to
    → GoesOn context facts top base source frame r memory
    → ((now : Registers)
    → WordBeside memory
    (location_at context.activation (distances_in context) (locations.Frame variable offset)) false r now
    → GoesOn context last top base source frame now memory
    → Does (loaded_of context.activation) budget more (at_place to now memory events) outcome Good)
    → Does (loaded_of context.activation) budget more (at_place from r memory events) outcome Good
unfolding distance
frame_word_goes {outcome = outcome} {Good = Good} {context = context} {PartIs = PartIs} {last = last}
    {to = to} {top = top} {pushed = pushed} {need = need} {budget = budget} {more = more} {base = base}
    {source = source} {memory = memory} {frame = frame} {events = events} {facts = facts} {from = from} used
    variable offset r sound room steady next known stand on rest =
    by_test (distance context.site variable offset pushed == 0)
    (distance context.site variable offset pushed == 2) refl refl stand
  where
    by_test : (none two : Bool)
        → (distance context.site variable offset pushed == 0) ≡ none
        → (distance context.site variable offset pushed == 2) ≡ two
        → StepsStand context PartIs facts from
        (if none then plain (Pop StackHl ∷ Push StackHl ∷ [])
        ++ note_word_steps (locations.Frame variable offset)
        else if two then plain (Pop StackBc ∷ Pop StackHl ∷ Push StackHl ∷ Push StackBc ∷ [])
        ++ note_word_steps (locations.Frame variable offset)
        else location_address_steps (knowing context.site used) (locations.Frame variable offset) pushed
        ++ word_at_hl_steps
        ++ note_word_steps (locations.Frame variable offset)) last to
        → Does (loaded_of context.activation) budget more
        (at_place from r memory events) outcome Good
    by_test true two none_is two_is stand =
        let mem = on.ready.shares.is_memory in
        let pointer = on.ready.pointer in
        let address : ℕ =
        location_at context.activation (distances_in context) (locations.Frame variable offset) in
        let here : r.sp ≡ address
        = at_none (distance context.site variable offset pushed) r.sp address
        (eqb-true (distance context.site variable offset pushed) 0 none_is) (omega (arith, pointer))
        (frame_away context top pushed need variable offset r.sp room pointer) in
        let low : low_byte (word_at memory r.sp) ≡ byte_at memory address =
        low_there memory r.sp mem ∙ ap (byte_at memory) here in
        let high : high_byte (word_at memory r.sp) ≡ byte_at memory (wrap (address + 1))
        = high_there memory r.sp mem ∙ ap (λ (n : ℕ). byte_at memory (wrap (n + 1))) here in
        let now : Registers =
        record r { h = high_byte (word_at memory r.sp); l = low_byte (word_at memory r.sp) } in
        top_word_goes (note_word_steps (locations.Frame variable offset)) r sound stand on
        (λ middle found stand on.
        note_word_goes (locations.Frame variable offset) now stand on
        (word_known context now memory (locations.Frame variable offset) steady next low high)
        (λ on. rest now (record { low = low; high = high; a = λ never. absurd cc; d = refl; e = refl }) on))
    by_test false true none_is two_is stand =
        let mem = on.ready.shares.is_memory in
        let pointer = on.ready.pointer in
        let address : ℕ =
        location_at context.activation (distances_in context) (locations.Frame variable offset) in
        let here : wrap (r.sp + 2) ≡ address
        = at_two (distance context.site variable offset pushed) r.sp address
        (eqb-true (distance context.site variable offset pushed) 2 two_is)
        (frame_away context top pushed need variable offset r.sp room pointer) in
        let low : low_byte (word_at memory (wrap (r.sp + 2))) ≡ byte_at memory address
        = low_there memory (wrap (r.sp + 2)) mem ∙ ap (byte_at memory) here in
        let high : high_byte (word_at memory (wrap (r.sp + 2))) ≡ byte_at memory (wrap (address + 1))
        = high_there memory (wrap (r.sp + 2)) mem ∙ ap (λ (n : ℕ). byte_at memory (wrap (n + 1))) here in
        second_word_goes (note_word_steps (locations.Frame variable offset)) r sound stand on
        (λ middle found now is stand on.
        let low_now : now.l ≡ byte_at memory address = ap (λ (r : Registers). r.l) is ∙ low in
        let high_now : now.h ≡ byte_at memory (wrap (address + 1)) = ap (λ (r : Registers). r.h) is ∙ high in
        note_word_goes (locations.Frame variable offset) now stand on
        (word_known context now memory (locations.Frame variable offset) steady next low_now high_now)
        (λ on. rest now (record {
          low = low_now;
          high = high_now;
          a = λ never. absurd cc;
          d = ap (λ (r : Registers). r.d) is;
          e = ap (λ (r : Registers). r.e) is;
        }) on))
    by_test false false none_is two_is stand =
        let address : ℕ =
        location_at context.activation (distances_in context) (locations.Frame variable offset) in
        let later =
        steps_split
        (location_address_steps (knowing context.site used) (locations.Frame variable offset) pushed
        ++ word_at_hl_steps)
        (note_word_steps (locations.Frame variable offset)) stand in
        let parts =
        steps_split
        (location_address_steps (knowing context.site used) (locations.Frame variable offset) pushed)
        word_at_hl_steps later.first in
        location_address_goes used (locations.Frame variable offset) r sound room (omega arith)
        known parts.first on
        (λ there beside on_there.
        word_at_hl_goes address there sound steady beside.hl parts.second on_there
        (λ now word on_now.
        note_word_goes (locations.Frame variable offset) now later.second on_now
        (word_known context now memory (locations.Frame variable offset) steady next word.low word.high)
        (λ on. rest now (record {
          low = word.low;
          high = word.high;
          a = λ never. absurd cc;
          d = word.d ∙ beside.d;
          e = word.e ∙ beside.e;
        }) on)))

-- the word at a place in memory
static_goes :
    {A : Type 0} {outcome : Outcome A} {Good : A → SourceState → State → Type 0}
    {context : Context} {PartIs : (before : Facts) → Part → (from : ℕ) → (after : Facts) → (to : ℕ) → Type 0}
    {last : Facts} {to top budget more : ℕ} {base source memory : List ℕ} {frame : List (List ℕ)}
    {events : List Event} {facts : Facts} {from : ℕ} (place : Place) (r : Registers)
    → IsSound context
    → IsSteady context.activation (place_at context.activation.layout place)
    → IsSteady context.activation (wrap (place_at context.activation.layout place + 1))
    → StepsStand context PartIs facts from (Word LoadHl place ∷ []) last to
    → GoesOn context facts top base source frame r memory
    → ((now : Registers)
    → WordBeside memory (place_at context.activation.layout place) true r now
    → GoesOn context last top base source frame now memory
    → Does (loaded_of context.activation) budget more (at_place to now memory events) outcome Good)
    → Does (loaded_of context.activation) budget more (at_place from r memory events) outcome Good
static_goes {context = context} {memory = memory} place r sound steady next (WordThere there stand) on rest =
    let mem = on.ready.shares.is_memory in
    let bytes = on.ready.registers in
    let address : ℕ = place_at context.activation.layout place in
    let number : ℕ = word_at memory address in
    let fits : number < MEMORY_SIZE = word_small memory address mem in
    let now : Registers = record r { h = high_byte number; l = low_byte number } in
    word_goes LoadHl place r now memory sound there on (steady, next) refl
    (λ known. nothing_goes now stand
    (record {
      ready =
          ready_with_registers refl
          (record { a = bytes.a; b = bytes.b; c = bytes.c; d = bytes.d; e = bytes.e; h = omega (arith, fits); l = omega arith })
          on.ready;
      known = known;
    })
    (rest now (record {
      low = low_there memory address mem;
      high = high_there memory address mem;
      a = λ kept. refl;
      d = refl;
      e = refl;
    })))

-- the word at a location
pub location_word_goes :
    {A : Type 0} {outcome : Outcome A} {Good : A → SourceState → State → Type 0}
    {context : Context} {PartIs : (before : Facts) → Part → (from : ℕ) → (after : Facts) → (to : ℕ) → Type 0}
    {last : Facts} {to top pushed need budget more : ℕ} {base source memory : List ℕ} {frame : List (List ℕ)}
    {events : List Event} {facts : Facts} {from : ℕ} (used : Facts) (location : Location) (r : Registers)
    → IsSound context
    → HasRoom context.activation top pushed need
    → IsSteady context.activation (location_at context.activation (distances_in context) location)
    → IsSteady context.activation (wrap (location_at context.activation (distances_in context) location + 1))
    → Know context used r memory
    → StepsStand context PartIs facts from
    (location_word_steps (knowing context.site used) location pushed) last to
    → GoesOn context facts top base source frame r memory
    → ((now : Registers)
    → WordBeside memory (location_at context.activation (distances_in context) location)
    (is_static_location location) r now
    → GoesOn context last top base source frame now memory
    → Does (loaded_of context.activation) budget more (at_place to now memory events) outcome Good)
    → Does (loaded_of context.activation) budget more (at_place from r memory events) outcome Good
location_word_goes {outcome = outcome} {Good = Good} {context = context} {PartIs = PartIs} {last = last}
    {to = to} {top = top} {pushed = pushed} {need = need} {budget = budget} {more = more} {base = base}
    {source = source} {memory = memory} {frame = frame} {events = events} {facts = facts} {from = from} used
    location r sound room steady next known stand on rest =
    by_test (is_at used.word_in_hl location) refl location refl stand
  where
    by_test : (here : Bool) → is_at used.word_in_hl location ≡ here
        → (of : Location) → location ≡ of
        → StepsStand context PartIs facts from
        (if here then []
        else elim of [
          | locations.Static place ↦ Word LoadHl place ∷ []
          | locations.Frame variable offset ↦
              frame_word_steps (knowing context.site used) (locations.Frame variable offset)
              (distance (knowing context.site used) variable offset pushed) pushed
        ]) last to
        → Does (loaded_of context.activation) budget more
        (at_place from r memory events) outcome Good
    by_test true here_is of of_is stand =
        let is =
        word_in_hl_is context.activation (distances_in context) used.word_in_hl location r.h r.l memory
        here_is known.word_holds in
        nothing_goes r stand on
        (rest r (record { low = is.low_is.0; high = is.high_is.0; a = λ kept. refl; d = refl; e = refl }))
    by_test false here_is (locations.Static place) of_is stand =
        static_goes place r sound
        (subst (λ (l : Location). IsSteady context.activation
        (location_at context.activation (distances_in context) l)) of_is steady)
        (subst (λ (l : Location). IsSteady context.activation
        (wrap (location_at context.activation (distances_in context) l + 1))) of_is next)
        stand on
        (subst (λ (l : Location). (now : Registers)
        → WordBeside memory (location_at context.activation (distances_in context) l)
        (is_static_location l) r now
        → GoesOn context last top base source frame now memory
        → Does (loaded_of context.activation) budget more (at_place to now memory events)
        outcome Good) of_is rest)
    by_test false here_is (locations.Frame variable offset) of_is stand =
        frame_word_goes used variable offset r sound room
        (subst (λ (l : Location). IsSteady context.activation
        (location_at context.activation (distances_in context) l)) of_is steady)
        (subst (λ (l : Location). IsSteady context.activation
        (wrap (location_at context.activation (distances_in context) l + 1))) of_is next)
        known stand on
        (subst (λ (l : Location). (now : Registers)
        → WordBeside memory (location_at context.activation (distances_in context) l)
        (is_static_location l) r now
        → GoesOn context last top base source frame now memory
        → Does (loaded_of context.activation) budget more (at_place to now memory events)
        outcome Good) of_is rest)
