-- What follows from the definitions: each text has one reading.
use Rattle.words.proofs.Prelude.{◌≡◌, ℕ, zero, suc, ◌+◌, ◌<◌, ◌≤◌, ◌⊎◌, inl, inr, List, [], ◌∷◌, length, drop, refl, sym, ap, ◌∙◌, subst, arith, length-drop, Fault, Cause, Item, Ending, Blank, Spelled, Wrong, Kind, item_at, FitsIn, Lexeme, lexeme_at, line_at, fault_of, SpellsFrom, at_end, after_blank, word_then, FaultFrom, fault_here, fault_after_blank, fault_after_word, HasOneReading}
use Rattle.words.proofs.ItemsLemmas.{item_fits}

-- how a reading continues after the item at its place
module _ (source : List ℕ) where
  spells_at_end : {place : ℕ} {words : List Lexeme}
      → SpellsFrom source place words
      → item_at (drop place source) ≡ Ending
      → words ≡ []
  spells_at_end (at_end here) is = refl
  spells_at_end (after_blank here rest) is = absurd (cc)
  spells_at_end (word_then here rest) is = absurd (cc)

  spells_after_blank : {place : ℕ} {words : List Lexeme} (taken : ℕ)
      → SpellsFrom source place words
      → item_at (drop place source) ≡ Blank taken
      → SpellsFrom source (place + taken) words
  spells_after_blank taken (at_end here) is = absurd (cc)
  spells_after_blank taken (after_blank {place = place} {length = length} {words = words} here rest) is =
      let same : length ≡ taken = cc in
      subst (λ n. SpellsFrom source (place + n) words) same rest
  spells_after_blank taken (word_then here rest) is = absurd (cc)

  spells_after_word : {place : ℕ} {words : List Lexeme} (kind : Kind) (taken : ℕ)
      → SpellsFrom source place words
      → item_at (drop place source) ≡ Spelled kind taken
      → (rest : List Lexeme) × SpellsFrom source (place + taken) rest
      × (words ≡ lexeme_at source place kind taken ∷ rest)
  spells_after_word kind taken (at_end here) is = absurd (cc)
  spells_after_word kind taken (after_blank here rest) is = absurd (cc)
  spells_after_word kind taken
      (word_then {place = place} {length = length} {kind = spelled} {words = words} here rest) is =
      let same : length ≡ taken = cc in
      let same_kind : spelled ≡ kind = cc in
      (words, subst (λ n. SpellsFrom source (place + n) words) same rest, ap (λ n. lexeme_at source place spelled n ∷ words) same ∙ ap (λ k. lexeme_at source place k taken ∷ words) same_kind)

  spells_no_fault : {place : ℕ} {words : List Lexeme} (cause : Cause)
      → SpellsFrom source place words
      → item_at (drop place source) ≡ Wrong cause
      → ⊥
  spells_no_fault cause (at_end here) is = cc
  spells_no_fault cause (after_blank here rest) is = cc
  spells_no_fault cause (word_then here rest) is = cc

  fault_at_once : {place : ℕ} {fault : Fault} (cause : Cause)
      → FaultFrom source place fault
      → item_at (drop place source) ≡ Wrong cause
      → fault ≡ fault_of cause place (line_at source place)
  fault_at_once cause (fault_here {place = place} {cause = other} here) is =
      let same : other ≡ cause = cc in
      ap (λ c. fault_of c place (line_at source place)) same
  fault_at_once cause (fault_after_blank here rest) is = absurd (cc)
  fault_at_once cause (fault_after_word here rest) is = absurd (cc)

  fault_past_blank : {place : ℕ} {fault : Fault} (taken : ℕ)
      → FaultFrom source place fault
      → item_at (drop place source) ≡ Blank taken
      → FaultFrom source (place + taken) fault
  fault_past_blank taken (fault_here here) is = absurd (cc)
  fault_past_blank taken (fault_after_blank {place = place} {length = length} {fault = fault} here rest) is =
      let same : length ≡ taken = cc in
      subst (λ n. FaultFrom source (place + n) fault) same rest
  fault_past_blank taken (fault_after_word here rest) is = absurd (cc)

  fault_past_word : {place : ℕ} {fault : Fault} (kind : Kind) (taken : ℕ)
      → FaultFrom source place fault
      → item_at (drop place source) ≡ Spelled kind taken
      → FaultFrom source (place + taken) fault
  fault_past_word kind taken (fault_here here) is = absurd (cc)
  fault_past_word kind taken (fault_after_blank here rest) is = absurd (cc)
  fault_past_word kind taken (fault_after_word {place = place} {length = length} {fault = fault} here rest)
      is =
      let same : length ≡ taken = cc in
      subst (λ n. FaultFrom source (place + n) fault) same rest

-- from a place on there is at most one list of words
one_spelling : (source : List ℕ) {place : ℕ} {some others : List Lexeme}
    → SpellsFrom source place some
    → SpellsFrom source place others
    → some ≡ others
one_spelling source (at_end here) others = sym (spells_at_end source others here)
one_spelling source (after_blank {length = taken} here rest) others =
    one_spelling source rest (spells_after_blank source taken others here)
one_spelling source (word_then {place = place} {length = taken} {kind = kind} here rest) others =
    let other = spells_after_word source kind taken others here in
    ap (λ words. lexeme_at source place kind taken ∷ words) (one_spelling source rest other.1) ∙ sym other.2

-- and at most one first fault
one_fault : (source : List ℕ) {place : ℕ} {one other : Fault}
    → FaultFrom source place one
    → FaultFrom source place other
    → one ≡ other
one_fault source (fault_here {cause = cause} here) other = sym (fault_at_once source cause other here)
one_fault source (fault_after_blank {length = taken} here rest) other =
    one_fault source rest (fault_past_blank source taken other here)
one_fault source (fault_after_word {length = taken} {kind = kind} here rest) other =
    one_fault source rest (fault_past_word source kind taken other here)

-- and not both
not_both : (source : List ℕ) {place : ℕ} {words : List Lexeme} {fault : Fault}
    → SpellsFrom source place words
    → FaultFrom source place fault
    → ⊥
not_both source words (fault_here {cause = cause} here) = spells_no_fault source cause words here
not_both source words (fault_after_blank {length = taken} here rest) =
    not_both source (spells_after_blank source taken words here) rest
not_both source words (fault_after_word {length = taken} {kind = kind} here rest) =
    not_both source (spells_after_word source kind taken words here).1 rest

-- and there is one of the two: a reading from after the item at a place gives one from the place
abbrev pub Reads : List ℕ → ℕ → Type 0
Reads source place =
    ((words : List Lexeme) × SpellsFrom source place words) ⊎ ((fault : Fault) × FaultFrom source place fault)

reads_past_blank : (source : List ℕ) (place taken : ℕ)
    → item_at (drop place source) ≡ Blank taken
    → Reads source (place + taken)
    → Reads source place
reads_past_blank source place taken is (inl rest) = inl (rest.0, after_blank is rest.1)
reads_past_blank source place taken is (inr rest) = inr (rest.0, fault_after_blank is rest.1)

reads_past_word : (source : List ℕ) (place taken : ℕ) (kind : Kind)
    → item_at (drop place source) ≡ Spelled kind taken
    → Reads source (place + taken)
    → Reads source place
reads_past_word source place taken kind is (inl rest) =
    inl (lexeme_at source place kind taken ∷ rest.0, word_then is rest.1)
reads_past_word source place taken kind is (inr rest) = inr (rest.0, fault_after_word is rest.1)

reads_at : (source : List ℕ) (place : ℕ) (item : Item)
    → item_at (drop place source) ≡ item
    → FitsIn (length (drop place source)) item
    → ((taken : ℕ) → 0 < taken → taken ≤ length (drop place source) → Reads source (place + taken))
    → Reads source place
reads_at source place Ending is fits later = inl ([], at_end is)
reads_at source place (Blank taken) is fits later =
    reads_past_blank source place taken is (later taken fits.0 fits.1)
reads_at source place (Spelled kind taken) is fits later =
    reads_past_word source place taken kind is (later taken fits.0 fits.1)
reads_at source place (Wrong cause) is fits later =
    inr (fault_of cause place (line_at source place), fault_here is)

-- by a count that is no less than the bytes that are left
reads_on : (fuel : ℕ) (source : List ℕ) (place : ℕ) → length source ≤ place + fuel → Reads source place
reads_on zero source place enough =
    reads_at source place (item_at (drop place source)) refl (item_fits (drop place source))
    (λ taken some most. absurd (omega (arith, length-drop place source)))
reads_on (suc fuel) source place enough =
    reads_at source place (item_at (drop place source)) refl (item_fits (drop place source))
    (λ taken some most. reads_on fuel source (place + taken) (omega arith))

-- a text has one reading
pub one_reading : (source : List ℕ) → HasOneReading source
one_reading source = record {
  some = reads_on (length source) source 0 (omega arith);
  one_spelling = λ one other left right. one_spelling source left right;
  one_fault = λ one other left right. one_fault source left right;
  not_both = λ words fault left right. not_both source left right;
}
