-- Readers that count: with enough steps it doesn't matter how many there are, so each reads one item and
-- then the rest.
use Rattle.object_laws.proofs.Prelude.{◌≡◌, ℕ, zero, suc, ◌+◌, ◌*◌, ◌<◌, ◌≤◌, ◌==◌, nat_le, List, [], ◌∷◌, length, take, drop, Option, Some, None, option_map, option_and_then, Result, refl, ap, sym, ◌∙◌, arith, length-drop, none-some, cond_some, option_and_then_some, some_pair_parts, record_end, Fault, Part, Front, word_in_front, name_in_front, ended_name, listed_name_in_front, definition_in_front, at_most, all_in, first_part, fault_at, judged_by, judged_after, option_map_some}
use Rattle.object_laws.proofs.Files.FrontsAgain.{at_most_nothing}

-- what is read of bytes takes one of them at least
abbrev pub Shortens : {A : Type 0} → (List ℕ → Front A) → Type 0
Shortens {A} front =
    (bytes : List ℕ) (x : A) (rest : List ℕ) → front bytes ≡ Some (x, rest) → length rest < length bytes

pub any_count :
    {A : Type 0} (front : List ℕ → Front A) → Shortens front
    → (count other : ℕ) (bytes : List ℕ) → length bytes ≤ count → length bytes ≤ other
    → at_most count front bytes ≡ at_most other front bytes
any_count front shortens count other [] h k = at_most_nothing front count ∙ sym (at_most_nothing front other)
any_count front shortens zero other (byte ∷ rest) h k = absurd (omega arith)
any_count front shortens (suc count) zero (byte ∷ rest) h k = absurd (omega arith)
any_count {A} front shortens (suc count) (suc other) (byte ∷ rest) h k =
    go (λ x after e.
    let shorter : length after < length (byte ∷ rest) = shortens (byte ∷ rest) x after e in
    any_count front shortens count other after (omega (arith, shorter)) (omega (arith, shorter)))
    (front (byte ∷ rest)) refl
  where
    go : ((x : A) (after : List ℕ) → front (byte ∷ rest) ≡ Some (x, after)
        → at_most count front after ≡ at_most other front after)
        → (read : Front A) → front (byte ∷ rest) ≡ read
        → option_and_then
        (λ (r : A × List ℕ). option_map (λ (others : List A). r.0 ∷ others) (at_most count front r.1)) read
        ≡ option_and_then
        (λ (r : A × List ℕ). option_map (λ (others : List A). r.0 ∷ others) (at_most other front r.1)) read
    go later None e = refl
    go later (Some (x, after)) e = ap (option_map (λ (others : List A). x ∷ others)) (later x after e)

-- one item is read, and then all of the rest
pub all_unfolds :
    {A : Type 0} (front : List ℕ → Front A) → Shortens front
    → (byte : ℕ) (others : List ℕ) (x : A) (rest : List ℕ) → front (byte ∷ others) ≡ Some (x, rest)
    → all_in front (byte ∷ others) ≡ option_map (λ (later : List A). x ∷ later) (all_in front rest)
all_unfolds {A} front shortens byte others x rest e =
    let shorter : length rest < length (byte ∷ others) = shortens (byte ∷ others) x rest e in
    ap (option_and_then
    (λ (r : A × List ℕ).
    option_map (λ (later : List A). r.0 ∷ later) (at_most (length others) front r.1))) e
    ∙ ap (option_map (λ (later : List A). x ∷ later))
    (any_count front shortens (length others) (length rest) rest (omega (arith, shorter)) (omega arith))

-- names and definitions take bytes
name_shortens : Shortens name_in_front
name_shortens [] x rest h = absurd (none-some (x, rest) h)
name_shortens (size ∷ others) x rest h =
    let c = cond_some (nat_le size (length others)) (take size others, drop size others) (x, rest) h in
    let p : (take size others ≡ x) × (drop size others ≡ rest) =
    some_pair_parts (take size others) x (drop size others) rest (ap Some c.1) in
    let cut = length-drop size others in
    let same : length (drop size others) ≡ length rest = ap length p.1 in
    omega (arith, cut, same)

ended_shortens :
    (name bytes x rest : List ℕ) → ended_name name bytes ≡ Some (x, rest) → length rest < length bytes
ended_shortens name [] x rest h = absurd (none-some (x, rest) h)
ended_shortens name (last ∷ others) x rest h =
    let c = cond_some (last == 0) (name, others) (x, rest) h in
    let p : (name ≡ x) × (others ≡ rest) = some_pair_parts name x others rest (ap Some c.1) in
    let same : length others ≡ length rest = ap length p.1 in
    omega (arith, same)

pub listed_name_shortens : Shortens listed_name_in_front
listed_name_shortens bytes x rest h =
    option_and_then_some (λ (named : List ℕ × List ℕ). ended_name named.0 named.1)
    (name_in_front bytes) (x, rest) h
    (λ named first second.
    let n : length named.1 < length bytes = name_shortens bytes named.0 named.1 first in
    let e : length rest < length named.1 = ended_shortens named.0 named.1 x rest second in
    omega (arith, n, e))

word_shortens : Shortens word_in_front
word_shortens [] x rest h = absurd (none-some (x, rest) h)
word_shortens (low ∷ []) x rest h = absurd (none-some (x, rest) h)
word_shortens (low ∷ high ∷ others) x rest h =
    let p : (low + 256 * high ≡ x) × (others ≡ rest) = some_pair_parts (low + 256 * high) x others rest h in
    let same : length others ≡ length rest = ap length p.1 in
    omega (arith, same)

pub definition_shortens : Shortens definition_in_front
definition_shortens bytes x rest h =
    option_and_then_some _ (word_in_front bytes) (x, rest) h
    (λ placed first second.
    let w : length placed.1 < length bytes = word_shortens bytes placed.0 placed.1 first in
    option_map_some _ (listed_name_in_front placed.1) (x, rest) second
    (λ named third is.
    let n : length named.1 < length placed.1 = listed_name_shortens placed.1 named.0 named.1 third in
    let p : (record { offset = placed.0; name = named.0 } ≡ x) × (named.1 ≡ rest) =
    some_pair_parts _ x named.1 rest (ap Some is) in
    let same : length named.1 ≡ length rest = ap length p.1 in
    omega (arith, w, n, same)))

-- the judgement of a file, of which each record has a byte at least
judged_alike :
    (next other : List Part → Result (List Part) Fault) (before : List Part) (fault : Option Fault)
    (part : Option Part)
    → ((p : Part) → next (p ∷ before) ≡ other (p ∷ before))
    → judged_by next before fault part ≡ judged_by other before fault part
judged_alike next other before (Some fault) part same = refl
judged_alike next other before None None same = refl
judged_alike next other before None (Some part) same = same part

nothing_judged :
    (next other : List Part → Result (List Part) Fault) (before : List Part) (fault : Option Fault)
    → judged_by next before fault None ≡ judged_by other before fault None
nothing_judged next other before (Some fault) = refl
nothing_judged next other before None = refl

pub any_judged :
    (count other : ℕ) (before : List Part) (bytes : List ℕ) → length bytes < count → length bytes < other
    → judged_after count before bytes ≡ judged_after other before bytes
any_judged zero other before bytes h k = absurd (omega arith)
any_judged (suc count) zero before bytes h k = absurd (omega arith)
any_judged (suc count) (suc other) before [] h k =
    nothing_judged (λ parts. judged_after count parts []) (λ parts. judged_after other parts []) before
    (fault_at before [])
any_judged (suc count) (suc other) before (byte ∷ others) h k =
    let rest : List ℕ = drop (record_end (byte ∷ others)) (byte ∷ others) in
    let cut = length-drop (record_end (byte ∷ others)) (byte ∷ others) in
    let shorter : length rest < length (byte ∷ others) = omega (arith, cut) in
    judged_alike (λ parts. judged_after count parts rest) (λ parts. judged_after other parts rest) before
    (fault_at before (byte ∷ others)) (first_part (byte ∷ others))
    (λ part.
    any_judged count other (part ∷ before) rest (omega (arith, shorter)) (omega (arith, shorter)))
