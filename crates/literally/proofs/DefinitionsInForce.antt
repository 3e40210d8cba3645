-- What an output defines, word by word.
use Rattle.literally.proofs.Prelude.{◌≡◌, ℕ, List, [], ◌∷◌, ◌++◌, None, Some, reverse, cond, sym, ap, ◌∙◌, refl, append-nil, append_assoc, reverse-append, option_map, Kind, Name, Reserved, Number, String, Mark, name_of, Lexeme, is_name, is_string, text_of, name_before, definition_by, text_if, text_in, in_force, false}
use Rattle.literally.proofs.DefinitionsNoStrings.{HasNoString}

-- one more word
pub text_in_push : (name : List ℕ) (output : List Lexeme) (word : Lexeme)
    → text_in name (reverse (output ++ word ∷ []))
    ≡ text_if name (definition_by word (reverse output)) (text_in name (reverse output))
text_in_push name output word = ap (text_in name) (reverse-append output (word ∷ []))

-- a word that is no string completes no definition
pub completes_none : (word : Lexeme) (before : List Lexeme)
    → is_string word.kind ≡ false
    → definition_by word before ≡ None
completes_none word before other =
    ap (λ b. option_map (λ name. (name, text_of word)) (cond b (name_before before) None)) other

-- words without a string define nothing
pub text_in_after : (name : List ℕ) (output now : List Lexeme)
    → HasNoString now
    → text_in name (reverse (output ++ now)) ≡ text_in name (reverse output)
text_in_after name output [] none = ap (λ words. text_in name (reverse words)) (append-nil output)
text_in_after name output (word ∷ now) none =
    ap (λ words. text_in name (reverse words)) (sym (append_assoc output (word ∷ []) now))
    ∙ text_in_after name (output ++ word ∷ []) now none.1
    ∙ text_in_push name output word ∙ ap (λ definition. text_if name definition (text_in name (reverse output))) (completes_none word (reverse output) none.0)

-- a name that is in force is no string, and its text is that of its name
pub name_in_force : (output : List Lexeme) (word : Lexeme) (text : List ℕ)
    → in_force output word ≡ Some text
    → is_string word.kind ≡ false
name_in_force output word text is = by word.kind is
  where
    by : (kind : Kind)
        → (cond (is_name kind) (text_in (name_of word.text) (reverse output)) None) ≡ Some text
        → is_string kind ≡ false
    by Name there = refl
    by String never = absurd (cc)
    by (Reserved word) never = absurd (cc)
    by (Number value) never = absurd (cc)
    by (Mark mark) never = absurd (cc)

pub text_in_force : (output : List Lexeme) (word : Lexeme) (text : List ℕ)
    → in_force output word ≡ Some text
    → text_in (name_of word.text) (reverse output) ≡ Some text
text_in_force output word text is = by word.kind is
  where
    by : (kind : Kind)
        → (cond (is_name kind) (text_in (name_of word.text) (reverse output)) None) ≡ Some text
        → text_in (name_of word.text) (reverse output) ≡ Some text
    by Name there = there
    by String never = absurd (cc)
    by (Reserved word) never = absurd (cc)
    by (Number value) never = absurd (cc)
    by (Mark mark) never = absurd (cc)
