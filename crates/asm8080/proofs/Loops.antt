-- Loops of straight code that count E down.
use Rattle.asm8080.proofs.Prelude.{◌≡◌, ◌≢◌, ℕ, zero, suc, ◌+◌, ◌%◌, ◌<◌, ◌==◌, Bool, true, false, not, nat_le, List, [], ◌∷◌, refl, ap, ◌∙◌, arith, eqb-true, eq-eqb, le-leb, lt-leb, MEMORY_SIZE, Event, E, Of, NotZero, Minus, Instr, Dcr, ReturnIf, State, Registers, wrap, Jump, JumpWhere, AtLabel, Item, Plain, WithWord, Layout, Stands, Comes}
use Rattle.asm8080.proofs.Steps.{at, goes_past, runs_from_jump, jumps_where, returned, returns_where, stays_here}
use Rattle.asm8080.proofs.Straight.{does_to, effect, past, past_later, plain, stands_after, steps_of, straight, touch_registers}

pub word_is : (place top : ℕ) → place ≡ top → top < MEMORY_SIZE → wrap place ≡ top
word_is place top h small = omega arith

pub not_equal : (a b : ℕ) → a ≢ b → (a == b) ≡ false
not_equal a b h = go (a == b) refl
  where
    go : (test : Bool) → (a == b) ≡ test → test ≡ false
    go false e = refl
    go true e = absurd (h (eqb-true a b e))

-- a byte counted down
pub one_less_is : (e n : ℕ) → e ≡ suc n → n < 256 → (e + 254 + 1) % 256 ≡ n
one_less_is e n h small = omega arith

pub counted_out : (e : ℕ) → e ≡ 1 → not ((e + 254 + 1) % 256 == 0) ≡ false
counted_out e h = ap not (eq-eqb ((e + 254 + 1) % 256) 0 (one_less_is e 0 h (omega arith)))

not_zero_of : (m n : ℕ) → m ≡ suc n → m ≡ 0 → ⊥
not_zero_of m n is z = omega arith

pub not_zero : (m n : ℕ) → m ≡ suc n → (m == 0) ≡ false
not_zero m n is = not_equal m 0 (not_zero_of m n is)

pub counts_on : (e n : ℕ) → e ≡ suc (suc n) → suc n < 256 → not ((e + 254 + 1) % 256 == 0) ≡ true
counts_on e n h small = ap not (not_zero ((e + 254 + 1) % 256) n (one_less_is e (suc n) h small))

-- below 0, the byte has its sign bit
below_zero : (e : ℕ) → e ≡ 0 → nat_le 128 ((e + 254 + 1) % 256) ≡ true
below_zero e h = le-leb 128 ((e + 254 + 1) % 256) (omega arith)

not_below_zero : (e n : ℕ) → e ≡ suc n → n < 128 → nat_le 128 ((e + 254 + 1) % 256) ≡ false
not_below_zero e n h small = lt-leb 128 ((e + 254 + 1) % 256) (omega arith)

-- the registers after E is counted down
abbrev pub counted : Registers → Registers
counted r = does_to (Dcr (Of E)) r

-- the registers after one turn, and after so many more
abbrev pub once_counted : List Instr → Registers → Registers
once_counted body r = counted (effect body r)

abbrev pub turns_counted : List Instr → (more : ℕ) → Registers → Registers
turns_counted body zero r = once_counted body r
turns_counted body (suc n) r = turns_counted body n (once_counted body r)

abbrev pub steps_counted : List Instr → (more k : ℕ) → ℕ
steps_counted body zero k = steps_of body (suc (suc k))
steps_counted body (suc n) k = steps_of body (suc (suc (steps_counted body n k)))

-- the items of a loop that tests at its end, before others
abbrev pub tested_after : List Instr → (label : ℕ) → List Item → List Item
tested_after body label others =
    plain body (Plain (Dcr (Of E)) ∷ WithWord (JumpWhere NotZero) (AtLabel label) ∷ others)

-- a loop that tests at its end is taken as often as E says
pub loop_after :
    (script : List (List ℕ)) (layout : Layout) (body : List Instr) (label top to : ℕ) (others : List Item)
    (memory : List ℕ) (events : List Event)
    → touch_registers body ≡ true
    → ((r : Registers) → (effect body r).e ≡ r.e)
    → Stands layout memory (tested_after body label others) top to
    → past top body + 1 + 3 < MEMORY_SIZE
    → layout.place_of label ≡ top
    → (n : ℕ) (r : Registers) (k : ℕ) (u : State)
    → r.e ≡ suc n
    → n < 255
    → Comes script k (at (past top body + 1 + 3) (turns_counted body n r) memory events) u
    → Comes script (steps_counted body n k) (at top r memory events) u
loop_after script layout body label top to others memory events touch keeps stands fits bound zero r k
    u counter few more =
    let after =
    stands_after layout memory body
    (Plain (Dcr (Of E)) ∷ WithWord (JumpWhere NotZero) (AtLabel label) ∷ others) top to stands in
    straight script layout body (Plain (Dcr (Of E)) ∷ WithWord (JumpWhere NotZero) (AtLabel label) ∷ others)
    top to r memory events (suc (suc k)) u touch stands (omega arith)
    (straight script layout (Dcr (Of E) ∷ []) (WithWord (JumpWhere NotZero) (AtLabel label) ∷ others)
    (past top body) to (effect body r) memory events (suc k) u refl after (omega arith)
    (goes_past script k NotZero (wrap (layout.place_of label)) (past top body + 1)
    (once_counted body r) memory events u
    after.1.0 fits (counted_out (effect body r).e (keeps r ∙ counter)) more))
loop_after script layout body label top to others memory events touch keeps stands fits bound (suc n) r k
    u counter few more =
    let after =
    stands_after layout memory body
    (Plain (Dcr (Of E)) ∷ WithWord (JumpWhere NotZero) (AtLabel label) ∷ others) top to stands in
    let later = past_later body top in
    let left = steps_counted body n k in
    straight script layout body (Plain (Dcr (Of E)) ∷ WithWord (JumpWhere NotZero) (AtLabel label) ∷ others)
    top to r memory events (suc (suc left)) u touch stands (omega arith)
    (straight script layout (Dcr (Of E) ∷ []) (WithWord (JumpWhere NotZero) (AtLabel label) ∷ others)
    (past top body) to (effect body r) memory events (suc left) u refl after (omega arith)
    (jumps_where script left NotZero (wrap (layout.place_of label)) (past top body + 1) top
    (once_counted body r) memory events u
    after.1.0 (omega arith) (counts_on (effect body r).e n (keeps r ∙ counter) (omega arith))
    (word_is (layout.place_of label) top bound (omega arith))
    (loop_after script layout body label top to others memory events touch keeps stands fits bound n
    (once_counted body r) k u
    (one_less_is (effect body r).e (suc n) (keeps r ∙ counter) (omega arith)) (omega arith) more)))

-- the registers when E was counted below 0, with a turn each time before
abbrev pub turns_below : List Instr → (count : ℕ) → Registers → Registers
turns_below body zero r = counted r
turns_below body (suc n) r = turns_below body n (effect body (counted r))

abbrev pub steps_below : List Instr → (count : ℕ) → ℕ
steps_below body zero = 2
steps_below body (suc n) = suc (suc (steps_of body (suc (steps_below body n))))

-- the items of a loop that returns where E is counted below 0
abbrev pub tested_before : List Instr → (label : ℕ) → List Item → List Item
tested_before body label others =
    Plain (Dcr (Of E)) ∷ Plain (ReturnIf Minus) ∷ plain body (WithWord Jump (AtLabel label) ∷ others)

-- a loop that tests at its start is taken as often as E says, and then returns
pub loop_before :
    (script : List (List ℕ)) (layout : Layout) (body : List Instr) (label top to : ℕ) (others : List Item)
    (memory : List ℕ) (events : List Event)
    → touch_registers body ≡ true
    → ((r : Registers) → (effect body r).e ≡ r.e)
    → Stands layout memory (tested_before body label others) top to
    → past (top + 1 + 1) body < MEMORY_SIZE
    → layout.place_of label ≡ top
    → (n : ℕ) (r : Registers)
    → r.e ≡ n
    → n < 128
    → Comes script (steps_below body n) (at top r memory events)
    (returned (turns_below body n r) memory events)
loop_before script layout body label top to others memory events touch keeps stands fits bound
    zero r counter few =
    let later = past_later body (top + 1 + 1) in
    straight script layout (Dcr (Of E) ∷ [])
    (Plain (ReturnIf Minus) ∷ plain body (WithWord Jump (AtLabel label) ∷ others)) top to r memory events
    1 (returned (counted r) memory events) refl stands (omega arith)
    (returns_where script Minus (top + 1) (counted r) memory events stands.1.0 (omega arith)
    (below_zero r.e counter))
loop_before script layout body label top to others memory events touch keeps stands fits bound
    (suc n) r counter few =
    let later = past_later body (top + 1 + 1) in
    let after =
    stands_after layout memory body (WithWord Jump (AtLabel label) ∷ others)
    (top + 1 + 1) to stands.1.1 in
    let u = returned (turns_below body (suc n) r) memory events in
    let left = steps_below body n in
    straight script layout (Dcr (Of E) ∷ [])
    (Plain (ReturnIf Minus) ∷ plain body (WithWord Jump (AtLabel label) ∷ others)) top to r memory events
    (suc (steps_of body (suc left))) u refl stands (omega arith)
    (stays_here script (steps_of body (suc left)) Minus (top + 1) (counted r) memory events u stands.1.0
    (omega arith) (not_below_zero r.e n counter (omega arith))
    (straight script layout body (WithWord Jump (AtLabel label) ∷ others) (top + 1 + 1) to (counted r) memory
    events (suc left) u touch stands.1.1 fits
    (runs_from_jump script left (wrap (layout.place_of label)) (past (top + 1 + 1) body) top
    (effect body (counted r)) memory events u
    after.0 fits (word_is (layout.place_of label) top bound (omega arith))
    (loop_before script layout body label top to others memory events touch keeps stands fits bound n
    (effect body (counted r))
    (keeps (counted r) ∙ one_less_is r.e n counter (omega arith)) (omega arith)))))
