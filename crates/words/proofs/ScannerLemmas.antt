-- Places, lines and words of a text, as far as it is read.
use Rattle.words.proofs.Prelude.{◌≡◌, ℕ, zero, suc, min, ◌+◌, ◌-◌, ◌<◌, ◌≤◌, ◌==◌, List, [], ◌∷◌, ◌++◌, length, take, drop, map, count_by, sym, ap, ◌∙◌, subst, arith, get_or, add-one, take-add, map-append, take_rest, length-take, take_min, All-from_recursion, sum_by-append, count_by-le-length, AllByRecursion, slice_range, IsStrictlyIncreasing, Item, Spelled, Kind, item_at, line_at, Lexeme, lexeme_of, lexemes_of, lexeme_at, SpellsFrom, at_end, after_blank, word_then, Spells, AreSlices, StartsRise, FitsIn}
use Rattle.words.specs.declared.word.Word.{Word}
use Rattle.words.proofs.ItemsLemmas.{item_fits}

-- one more word
pub lexemes_of-push : (words longer : List Word) (word : Word)
    → longer ≡ words ++ word ∷ []
    → lexemes_of longer ≡ lexemes_of words ++ lexeme_of word ∷ []
lexemes_of-push words longer word is = ap lexemes_of is ∙ map-append lexeme_of words (word ∷ [])

-- the line after so many more bytes
line_at-add : (source : List ℕ) (place length : ℕ)
    → line_at source (place + length) ≡ line_at source place
    + count_by (λ b. b == 10) (take length (drop place source))
line_at-add source place length =
    let front = take place source in
    let back = take length (drop place source) in
    let split : count_by (λ b. b == 10) (take (place + length) source)
    ≡ count_by (λ b. b == 10) front + count_by (λ b. b == 10) back =
    ap (count_by (λ b. b == 10)) (take-add place length source) ∙ sum_by-append _ front back in
    omega arith

pub line_at-le : (source : List ℕ) (place : ℕ) → line_at source place ≤ place + 1
line_at-le source place =
    omega (arith, count_by-le-length (λ b. b == 10) (take place source), length-take place source)

pub line_after : (source : List ℕ) (start taken line count : ℕ)
    → line ≡ line_at source start
    → count ≡ count_by (λ b. b == 10) (take (start + taken - start) (drop start source))
    → line + count ≡ line_at source (start + taken)
line_after source start taken line count is counted =
    let same : start + taken - start ≡ taken = omega arith in
    let counted_so : count ≡ count_by (λ b. b == 10) (take taken (drop start source)) =
    counted ∙ ap (λ n. count_by (λ b. b == 10) (take n (drop start source))) same in
    omega (arith, line_at-add source start taken)

-- the item of a part of the source
pub item_here : (source : List ℕ) (start : ℕ) (item : Item)
    → item ≡ item_at (take (length source - start) (drop start source))
    → item_at (drop start source) ≡ item
item_here source start item is = ap item_at (sym (take_rest source start)) ∙ sym is

-- the word of a part of the source
pub word_here : (source : List ℕ) (start taken line : ℕ) (kind : Kind) → line ≡ line_at source start →
    let text = take (start + taken - start) (drop start source) in
    let word : Lexeme = record { kind = kind; text = text; start = start; line = line } in
    word ≡ lexeme_at source start kind taken
word_here source start taken line kind is =
    let same : start + taken - start ≡ taken = omega arith in
    let word : ℕ → ℕ → Lexeme =
    λ size line. record { kind = kind; text = take size (drop start source); start = start; line = line } in
    ap (λ size. word size line) same ∙ ap (word taken) is

-- each text is the slice at its start
slice_at : (source : List ℕ) (place taken : ℕ)
    → take taken (drop place source) ≡ slice_range source place
    (place + length (take taken (drop place source)))
slice_at source place taken =
    let text = take taken (drop place source) in
    let same : place + length text - place ≡ min taken (length (drop place source)) =
    omega (arith, length-take taken (drop place source)) in
    sym (ap (λ n. take n (drop place source)) same ∙ take_min taken (drop place source))

slices_on : {source : List ℕ} {place : ℕ} {words : List Lexeme}
    → SpellsFrom source place words
    → AllByRecursion (λ word. word.text ≡ slice_range source word.start (word.start + length word.text)) words
slices_on (at_end here) = tt
slices_on (after_blank here rest) = slices_on rest
slices_on {source} (word_then {place = place} {length = taken} here rest) =
    (slice_at source place taken, slices_on rest)

pub slices : (source : List ℕ) (words : List Lexeme) → Spells source words → AreSlices source words
slices source words spells =
    All-from_recursion (λ word. word.text ≡ slice_range source word.start (word.start + length word.text))
    words (slices_on spells)

-- a number before increasing numbers, where it is less than the first of them
rising_more : (first : ℕ) (numbers : List ℕ)
    → (0 < length numbers → first < get_or numbers 0 0)
    → IsStrictlyIncreasing numbers
    → IsStrictlyIncreasing (first ∷ numbers)
rising_more first numbers below rising zero within = below (omega arith)
rising_more first numbers below rising (suc k) within = rw add-one (rw add-one at (rising k (omega arith)))

starts_from : {source : List ℕ} {place : ℕ} {words : List Lexeme}
    → SpellsFrom source place words
    → 0 < length (map (λ word. word.start) words)
    → place ≤ get_or (map (λ word. word.start) words) 0 0
starts_from (at_end here) some = absurd (omega arith)
starts_from (after_blank here rest) some = omega (arith, starts_from rest some)
starts_from (word_then here rest) some = omega arith

rising_on : {source : List ℕ} {place : ℕ} {words : List Lexeme}
    → SpellsFrom source place words
    → StartsRise words
rising_on (at_end here) = λ k within. absurd (omega arith)
rising_on (after_blank here rest) = rising_on rest
rising_on {source} (word_then {place = place} {length = taken} {kind = kind} {words = words} here rest) =
    let fits : FitsIn (length (drop place source)) (Spelled kind taken) =
    subst (FitsIn (length (drop place source))) here (item_fits (drop place source)) in
    rising_more place (map (λ word. word.start) words)
    (λ some. omega (arith, fits.0, starts_from rest some)) (rising_on rest)

pub rising : (source : List ℕ) (words : List Lexeme) → Spells source words → StartsRise words
rising source words spells = rising_on spells
