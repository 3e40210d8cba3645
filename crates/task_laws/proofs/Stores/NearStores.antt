-- A word that is stored next to the stack pointer, by POP and PUSH.
use Rattle.task_laws.proofs.Prelude.{◌≡◌, ◌≢◌, ℕ, zero, suc, ◌+◌, ◌*◌, ◌/◌, ◌%◌, ◌<◌, List, [], ◌∷◌, ◌++◌, slice_set, refl, sym, ap, subst, ◌∙◌, arith, MEMORY_SIZE, byte_at, word_at, Event, Address, SourcePlace, write_scalar, SourceState, Outcome, then_do, Pop, Push, StackPair, StackBc, StackHl, act, Registers, State, high_byte, low_byte, one_less, pushed_of, two_less, word, wrap, byte_kept, Does, loaded_of, at_place, IsReady, plain_first, plain_step, Facts, Step, MemoryChanged, Near, First, Second, exchange_near, Context, IsSound, ChangeThere, PlainThere, StepsStand, PartDoes, address_on_machine, next_is_other}
use Rattle.task_laws.proofs.Places.LocationWords.{push_back, word_small}
use Rattle.task_laws.proofs.Places.Reading.{FitsIn}
use Rattle.task_laws.proofs.Machine.Rules.{GoesOn, pushed_anywhere, ready_with_registers}
use Rattle.task_laws.proofs.Stores.StoreRules.{WordLiesAt, word_lies_at}
use Rattle.task_laws.proofs.Stores.Stores.{does_gaining}
use Rattle.task_laws.proofs.Stores.WordWriting.{word_written}
use Rattle.task_laws.proofs.Numbers.{up_and_down, up_and_one_down}

-- the address of a word next to the stack pointer
abbrev pub near_address : Near → (sp : ℕ) → ℕ
near_address First sp = sp
near_address Second sp = wrap (sp + 2)

-- two bytes that are put at different places may be put in either order
set_apart : (xs : List ℕ) (i j x y : ℕ) → i ≢ j → slice_set (slice_set xs i x) j y ≡ slice_set
    (slice_set xs j y) i x
set_apart [] i j x y differ = refl
set_apart (first ∷ xs) zero zero x y differ = absurd (differ refl)
set_apart (first ∷ xs) zero (suc j) x y differ = refl
set_apart (first ∷ xs) (suc i) zero x y differ = refl
set_apart (first ∷ xs) (suc i) (suc j) x y differ =
    ap (λ (others : List ℕ). first ∷ others) (set_apart xs i j x y (λ same. differ (ap suc same)))

-- a word that is pushed where another one was popped
push_there :
    (script : List (List ℕ)) (pair : StackPair) (place p number : ℕ) (r : Registers) (memory : List ℕ)
    (events : List Event)
    → r.sp ≡ wrap (p + 2)
    → p < MEMORY_SIZE
    → high_byte (pushed_of pair r) ≡ number / 256
    → low_byte (pushed_of pair r) ≡ number % 256
    → act script (Push pair) (at_place place r memory events)
    ≡ at_place place (record r { sp = p })
    (slice_set (slice_set memory p (number % 256)) (wrap (p + 1)) (number / 256)) events
push_there script pair place p number r memory events pointer small high low =
    ap (λ (w : ℕ). left (one_less r.sp) (two_less r.sp) (high_byte w) (low_byte w))
    (pushed_anywhere pair (wrap place) r)
    ∙ ap (λ (n : ℕ). left (one_less r.sp) (two_less r.sp) n (low_byte (pushed_of pair r))) high
    ∙ ap (λ (n : ℕ). left (one_less r.sp) (two_less r.sp) (number / 256) n) low
    ∙ ap (λ (n : ℕ). left n (two_less r.sp) (number / 256) (number % 256))
    (ap one_less pointer ∙ up_and_one_down p small)
    ∙ ap (λ (n : ℕ). left (wrap (p + 1)) n (number / 256) (number % 256))
    (ap two_less pointer ∙ up_and_down p small)
    ∙ ap (λ (memory : List ℕ). at_place place (record r { sp = p }) memory events)
    (set_apart memory (wrap (p + 1)) p (number / 256) (number % 256) (next_is_other p small))
  where
    left : (one two high low : ℕ) → State
    left one two high low =
        at_place place (record r { sp = two }) (slice_set (slice_set memory one high) two low) events

high_part : (h l number : ℕ) → h ≡ number / 256 → l ≡ number % 256 → high_byte (word h l) ≡ number / 256
high_part h l number one two = omega (arith, one, two)

low_part : (h l number : ℕ) → h ≡ number / 256 → l ≡ number % 256 → low_byte (word h l) ≡ number % 256
low_part h l number one two = omega (arith, one, two)

-- a word that is stored elsewhere stays
word_kept :
    (memory : List ℕ) (p q x y : ℕ)
    → p ≢ q → p ≢ wrap (q + 1) → wrap (p + 1) ≢ q → wrap (p + 1) ≢ wrap (q + 1)
    → word_at (slice_set (slice_set memory q x) (wrap (q + 1)) y) p ≡ word_at memory p
word_kept memory p q x y one two three four =
    ap (λ (n : ℕ). n + 256 * byte_at (slice_set (slice_set memory q x) (wrap (q + 1)) y) (wrap (p + 1)))
    (byte_kept (slice_set memory q x) (wrap (q + 1)) p y two ∙ byte_kept memory q p x one)
    ∙ ap (λ (n : ℕ). byte_at memory p + 256 * n)
    (byte_kept (slice_set memory q x) (wrap (q + 1)) (wrap (p + 1)) y four
    ∙ byte_kept memory q (wrap (p + 1)) x three)

-- HL takes the place of a word next to the stack pointer
pub near_stored :
    {A : Type 0} {Good : A → SourceState → State → Type 0}
    {context : Context} {facts last : Facts} {top from to : ℕ} {base : List ℕ} (near : Near)
    (others : List Step)
    (go : Unit {0} → SourceState → Outcome A) (place : SourcePlace) (number : ℕ) (t : SourceState)
    (r : Registers)
    (ended : List ℕ)
    → IsSound context
    → number < 65536
    → r.h ≡ number / 256
    → r.l ≡ number % 256
    → address_on_machine context.activation place ≡ near_address near r.sp
    → FitsIn context.activation 2 place
    → StepsStand context (PartDoes context) facts from (exchange_near near ++ (MemoryChanged ∷ others)) last
    to
    → GoesOn context facts top base t.memory t.frame r ended
    → ((u : SourceState) (now : Registers) (left : List ℕ) (middle : ℕ) (found : Facts)
    → now.a ≡ r.a
    → now.h ≡ r.h
    → now.l ≡ r.l
    → WordLiesAt context.activation left (address_on_machine context.activation place) number
    → StepsStand context (PartDoes context) found middle others last to
    → GoesOn context found top base u.memory u.frame now left
    → Does (loaded_of context.activation) u.budget 0 (at_place middle now left u.events) (go tt u)
    Good)
    → Does (loaded_of context.activation) t.budget 1 (at_place from r ended t.events)
    (then_do (write_scalar context.activation.around.program Address place number t) go) Good
near_stored {A = A} {Good = Good} {context = context} {facts = facts} {last = last} {top = top} {from = from}
    {to = to} {base = base} First others go place number t r ended sound small h l is_at fits
    (PlainThere there (PlainThere again (ChangeThere stand))) on rest =
    let script = context.activation.around.program.script in
    let loaded = loaded_of context.activation in
    let shares = on.ready.shares in
    let is = shares.is_memory in
    let bytes = on.ready.registers in
    let pointer = on.ready.pointer in
    let low : r.sp < MEMORY_SIZE = omega (arith, pointer) in
    let popped : ℕ = word_at ended r.sp in
    let fits_too : popped < MEMORY_SIZE = word_small ended r.sp is in
    let after_pop : Registers =
    record r { b = high_byte popped; c = low_byte popped; sp = wrap (r.sp + 2) } in
    let now : Registers = record r { b = high_byte popped; c = low_byte popped } in
    let left : List ℕ = slice_set (slice_set ended r.sp (number % 256)) (wrap (r.sp + 1)) (number / 256) in
    word_written place number t go sound small on.ready fits
    (λ u events_same budget_same steady steady_too ready.
    let same : slice_set (slice_set ended (address_on_machine context.activation place) (number % 256))
    (wrap (address_on_machine context.activation place + 1)) (number / 256) ≡ left
    = ap (λ (n : ℕ). slice_set (slice_set ended n (number % 256)) (wrap (n + 1)) (number / 256)) is_at in
    let lies : WordLiesAt context.activation left (address_on_machine context.activation place) number
    = subst (λ (memory : List ℕ). WordLiesAt context.activation memory
    (address_on_machine context.activation place) number) same
    (word_lies_at context.activation ended (address_on_machine context.activation place) number is.size
    steady steady_too) in
    let ready_left : IsReady context.activation top base u.memory u.frame r left
    = subst (λ (memory : List ℕ). IsReady context.activation top base u.memory u.frame r memory) same ready in
    does_gaining
    (plain_step script context.activation (Pop StackBc) [] from (from + 1) r ended t.events
    sound.lies shares.code there)
    (plain_first after_pop sound.lies shares.code again
    (subst (λ (s : State). Does loaded t.budget 0 s (go tt u) Good)
    (sym (push_there script StackHl (from + 1 + 1) r.sp number after_pop ended t.events refl low
    (high_part r.h r.l number h l) (low_part r.h r.l number h l)))
    (subst (λ (budget : ℕ). Does loaded budget 0 (at_place (from + 1 + 1) now left t.events) (go tt u) Good)
    budget_same
    (subst (λ (events : List Event). Does loaded u.budget 0 (at_place (from + 1 + 1) now left events)
    (go tt u) Good) events_same
    (rest u now left (from + 1 + 1) _ refl refl refl lies stand
    (record {
      ready =
          ready_with_registers refl
          (record { a = bytes.a; b = omega (arith, fits_too); c = omega arith; d = bytes.d; e = bytes.e; h = bytes.h; l = bytes.l })
          ready_left;
      known = record {
        byte_holds = tt;
        word_holds = tt;
        address_holds = on.known.address_holds;
        zero_holds = on.known.zero_holds;
      };
    })))))))
near_stored {A = A} {Good = Good} {context = context} {facts = facts} {last = last} {top = top} {from = from}
    {to = to} {base = base} Second others go place number t r ended sound small h l is_at fits
    (PlainThere there (PlainThere next (PlainThere again (PlainThere once (ChangeThere stand))))) on rest =
    let script = context.activation.around.program.script in
    let loaded = loaded_of context.activation in
    let shares = on.ready.shares in
    let is = shares.is_memory in
    let bytes = on.ready.registers in
    let pointer = on.ready.pointer in
    let low : r.sp < MEMORY_SIZE = omega (arith, pointer) in
    let above : ℕ = wrap (r.sp + 2) in
    let above_small : wrap (r.sp + 2) < MEMORY_SIZE = omega arith in
    let first : ℕ = word_at ended r.sp in
    let second : ℕ = word_at ended above in
    let fits_first : first < MEMORY_SIZE = word_small ended r.sp is in
    let fits_second : second < MEMORY_SIZE = word_small ended above is in
    let one : Registers = record r { b = high_byte first; c = low_byte first; sp = above } in
    let two : Registers = record one { d = high_byte second; e = low_byte second; sp = wrap (above + 2) } in
    let three : Registers = record two { sp = above } in
    let now : Registers =
    record r { b = high_byte first; c = low_byte first; d = high_byte second; e = low_byte second } in
    let left : List ℕ = slice_set (slice_set ended above (number % 256)) (wrap (above + 1)) (number / 256) in
    let stays : word_at left r.sp ≡ first
    = word_kept ended r.sp above (number % 256) (number / 256)
    (apart_one r.sp low) (apart_two r.sp low) (apart_three r.sp low) (apart_four r.sp low) in
    word_written place number t go sound small on.ready fits
    (λ u events_same budget_same steady steady_too ready.
    let same : slice_set (slice_set ended (address_on_machine context.activation place) (number % 256))
    (wrap (address_on_machine context.activation place + 1)) (number / 256) ≡ left
    = ap (λ (n : ℕ). slice_set (slice_set ended n (number % 256)) (wrap (n + 1)) (number / 256)) is_at in
    let lies : WordLiesAt context.activation left (address_on_machine context.activation place) number
    = subst (λ (memory : List ℕ). WordLiesAt context.activation memory
    (address_on_machine context.activation place) number) same
    (word_lies_at context.activation ended (address_on_machine context.activation place) number is.size
    steady steady_too) in
    let ready_left : IsReady context.activation top base u.memory u.frame r left
    = subst (λ (memory : List ℕ). IsReady context.activation top base u.memory u.frame r memory) same ready in
    let shares_left = ready_left.shares in
    does_gaining
    (plain_step script context.activation (Pop StackBc) [] from (from + 1) r ended t.events
    sound.lies shares.code there)
    (plain_first one sound.lies shares.code next
    (plain_first two sound.lies shares.code again
    (subst (λ (s : State). Does loaded t.budget 0 s (go tt u) Good)
    (sym (push_there script StackHl (from + 1 + 1 + 1) above number two ended t.events refl above_small
    (high_part r.h r.l number h l) (low_part r.h r.l number h l)))
    (plain_first three sound.lies shares_left.code once
    (subst (λ (s : State). Does loaded t.budget 0 s (go tt u) Good)
    (sym (push_back script StackBc (from + 1 + 1 + 1 + 1) r.sp three left t.events refl low
    shares_left.is_memory
    (back_together first fits_first ∙ sym stays)))
    (subst (λ (budget : ℕ). Does loaded budget 0 (at_place (from + 1 + 1 + 1 + 1) now left t.events)
    (go tt u) Good) budget_same
    (subst (λ (events : List Event). Does loaded u.budget 0 (at_place (from + 1 + 1 + 1 + 1) now left events)
    (go tt u) Good) events_same
    (rest u now left (from + 1 + 1 + 1 + 1) _ refl refl refl lies stand
    (record {
      ready =
          ready_with_registers refl
          (record { a = bytes.a; b = omega (arith, fits_first); c = omega arith; d = omega (arith, fits_second); e = omega arith; h = bytes.h; l = bytes.l })
          ready_left;
      known = record {
        byte_holds = tt;
        word_holds = tt;
        address_holds = on.known.address_holds;
        zero_holds = on.known.zero_holds;
      };
    }))))))))))
  where
    apart_one : (p : ℕ) → p < MEMORY_SIZE → p ≢ wrap (p + 2)
    apart_one p small = omega (arith, small)

    apart_two : (p : ℕ) → p < MEMORY_SIZE → p ≢ wrap (wrap (p + 2) + 1)
    apart_two p small = omega (arith, small)

    apart_three : (p : ℕ) → p < MEMORY_SIZE → wrap (p + 1) ≢ wrap (p + 2)
    apart_three p small = omega (arith, small)

    apart_four : (p : ℕ) → p < MEMORY_SIZE → wrap (p + 1) ≢ wrap (wrap (p + 2) + 1)
    apart_four p small = omega (arith, small)

    back_together : (n : ℕ) → n < MEMORY_SIZE → word (high_byte n) (low_byte n) ≡ n
    back_together n small = omega (arith, small)
