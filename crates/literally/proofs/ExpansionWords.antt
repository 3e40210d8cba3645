-- One word of the list after another.
use Rattle.literally.proofs.Prelude.{◌≡◌, ℕ, ◌+◌, ◌-◌, ◌<◌, ◌≤◌, false, List, [], ◌∷◌, length, get_or, take, drop, refl, sym, ap, ◌∙◌, subst, arith, add-one, drop-cons, take_rest, drop_all, Word, Lexeme, lexeme_of, lexemes_of, MOST_WORDS, Fault, IsSound, is_defined_again, ExpandsFrom, after_word, FaultFrom, fault_after_word, Adds}

-- what the words after a word make of the output that it leaves
module _ (output : List Lexeme) (processed : ℕ) (word : Lexeme) (words whole : List Lexeme) (count : ℕ)
    (added : Adds output processed word whole count) (sound : IsSound output word)
    (once : is_defined_again output word words ≡ false) where
  room : processed + added.1 ≤ MOST_WORDS
  room = omega (arith, added.4, added.5)

  pub expands_on : (all : List Lexeme)
      → ExpandsFrom whole count words all
      → ExpandsFrom output processed (word ∷ words) all
  expands_on all rest =
      after_word once sound added.2 room
      (subst (λ w. ExpandsFrom w (processed + added.1) words all) added.3
      (subst (λ n. ExpandsFrom whole n words all) added.4 rest))

  pub fault_on : (fault : Fault)
      → FaultFrom whole count words fault
      → FaultFrom output processed (word ∷ words) fault
  fault_on fault rest =
      fault_after_word once sound added.2 room
      (subst (λ w. FaultFrom w (processed + added.1) words fault) added.3
      (subst (λ n. FaultFrom whole n words fault) added.4 rest))

-- the words from a place on: the one there, and those after it
pub words_at : (words : List Word) (place : ℕ) (word : Word)
    → place < length words
    → word ≡ get_or words place word
    → lexemes_of (drop place words) ≡ lexeme_of word
    ∷ lexemes_of (take (length words - (place + 1)) (drop (place + 1) words))
words_at words place word within is =
    let split : drop place words ≡ get_or words place word ∷ drop (place + 1) words =
    rw (add-one, drop-cons words place word) refl in
    ap lexemes_of
    (split ∙ ap (λ first. first ∷ drop (place + 1) words) (sym is)
    ∙ ap (λ after. word ∷ after) (sym (take_rest words (place + 1))))

-- and none after the last
pub words_end : (words : List Word) (place : ℕ) → length words ≤ place → lexemes_of (drop place words) ≡ []
words_end words place past = ap lexemes_of (drop_all place words past)

pub words_after : (words : List Word) (place : ℕ)
    → lexemes_of (drop (place + 1) words)
    ≡ lexemes_of (take (length words - (place + 1)) (drop (place + 1) words))
words_after words place = ap lexemes_of (sym (take_rest words (place + 1)))
