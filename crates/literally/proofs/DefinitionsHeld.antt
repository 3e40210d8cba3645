-- The map of definitions and the output.
use Rattle.literally.proofs.Prelude.{◌≡◌, is_some, ◌&&◌, IfSome, ℕ, List, [], ◌∷◌, ◌++◌, Bool, true, false, cond, Option, None, Some, reverse, refl, sym, ap, ◌∙◌, subst, bytes_eq-Decides, bytes_eq, lookup, option_map, Vec, Global, Word, Name, name_of, Lexeme, lexemes_of, IsSound, IsSoundText, is_defined_again, begins_with_literally, Adds, has_quote, text_of, text_in, text_if, in_force, name_defined, definition_by, words_for, Agree, AreHeld, IsTextOf, StandsFor}
use Rattle.indexmap.specs.IndexMap.{IndexMap, insert_entry}
use Rattle.literally.specs.declared.names.Name.{Name as Key}
use Rattle.literally.proofs.DefinitionsInForce.{text_in_push, text_in_after, name_in_force, text_in_force}
use Rattle.literally.proofs.DefinitionsNoStrings.{HasNoString, becomes_no_string}

-- what a name stands for, where the map holds words for it
pub stands : (output : List Lexeme) (word : Lexeme) (words : Vec Word Global)
    → word.kind ≡ Name
    → (text : Option (List ℕ))
    → text_in (name_of word.text) (reverse output) ≡ text
    → Agree text (Some words)
    → StandsFor output word (lexemes_of words.items)
stands output word words kind None is agree = absurd agree
stands output word words kind (Some text) is agree =
    let inside : in_force output word ≡ Some text = rw kind is in
    (text, inside, agree)

-- how a look-up goes through the first entry, where the key is that of the entry, and where it is another
module _ {X : Type 0} (name : List ℕ) (key other : List ℕ) (value was : X) (rest : Option X) where
  through_same : key ≡ other
      → cond (bytes_eq name other) (Some value) rest
      ≡ cond (bytes_eq name key) (Some value) (cond (bytes_eq name other) (Some was) rest)
  through_same same = by (bytes_eq name other) refl
    where
      by : (b : Bool)
          → bytes_eq name other ≡ b
          → cond b (Some value) rest ≡ cond (bytes_eq name key) (Some value) (cond b (Some was) rest)
      by true is = rw (ap (bytes_eq name) same ∙ is) refl
      by false is = rw (ap (bytes_eq name) same ∙ is) refl

  through_other : bytes_eq key other ≡ false
      → (rest_then : Option X)
      → rest_then ≡ cond (bytes_eq name key) (Some value) rest
      → cond (bytes_eq name other) (Some was) rest_then
      ≡ cond (bytes_eq name key) (Some value) (cond (bytes_eq name other) (Some was) rest)
  through_other differ rest_then later = by (bytes_eq name other) (bytes_eq name key) refl refl later
    where
      by : (b k : Bool)
          → bytes_eq name other ≡ b
          → bytes_eq name key ≡ k
          → rest_then ≡ cond k (Some value) rest
          → cond b (Some was) rest_then ≡ cond k (Some value) (cond b (Some was) rest)
      by true true one two later =
          absurd (cc ((bytes_eq-Decides key other).1
          (sym ((bytes_eq-Decides name key).0 two) ∙ (bytes_eq-Decides name other).0 one)))
      by true false one two later = refl
      by false k one two later = later

-- the words for a name after an insertion
pub words_for_inserted : {X : Type 0} (entries : List (Key × X)) (key : Key) (value : X) (name : List ℕ)
    → lookup (λ k. bytes_eq name (name_of k.text.now))
    (insert_entry (λ a b. bytes_eq (name_of a.text.now) (name_of b.text.now)) entries key value)
    ≡ cond (bytes_eq name (name_of key.text.now)) (Some value)
    (lookup (λ k. bytes_eq name (name_of k.text.now)) entries)
words_for_inserted {X} [] key value name = refl
words_for_inserted {X} (entry ∷ entries) key value name =
    by (bytes_eq (name_of key.text.now) (name_of entry.0.text.now)) refl
    (words_for_inserted entries key value name)
  where
    found : List (Key × X) → Option X
    found entries = lookup (λ k. bytes_eq name (name_of k.text.now)) entries

    after : List (Key × X)
    after = insert_entry (λ a b. bytes_eq (name_of a.text.now) (name_of b.text.now)) entries key value

    by : (b : Bool)
        → bytes_eq (name_of key.text.now) (name_of entry.0.text.now) ≡ b
        → found after ≡ cond (bytes_eq name (name_of key.text.now)) (Some value) (found entries)
        → found (cond b ((entry.0, value) ∷ entries) (entry ∷ after))
        ≡ cond (bytes_eq name (name_of key.text.now)) (Some value) (found (entry ∷ entries))
    by true is later =
        through_same name (name_of key.text.now) (name_of entry.0.text.now) value entry.1 (found entries)
        ((bytes_eq-Decides (name_of key.text.now) (name_of entry.0.text.now)).0 is)
    by false is later =
        through_other name (name_of key.text.now) (name_of entry.0.text.now) value entry.1 (found entries)
        is (found after) later

-- the definition that a word completes, by its name
pub definition_is : {N : Type 0} (name_in : N → List ℕ) (name : N) (word : Lexeme) (before : List Lexeme)
    → Some (name_in name) ≡ name_defined word before
    → definition_by word before ≡ Some (name_in name, text_of word)
definition_is name_in name word before is = ap (option_map (λ name. (name, text_of word))) (sym is)

-- the definition of the last word is held with those before it
pub held_then : {S : Type 0} (output : List Lexeme) (word : Lexeme) (name : List ℕ) (words : Vec Word Global)
    (map after : IndexMap Key (Vec Word Global) S)
    → definition_by word (reverse output) ≡ Some (name, text_of word)
    → IsTextOf (text_of word) (lexemes_of words.items)
    → ((other : List ℕ) → words_for after other
    ≡ cond (bytes_eq other name) (Some words) (words_for map other)) → AreHeld output map
    → AreHeld (output ++ word ∷ []) after
held_then output word name words map after is text inserted held other =
    let read_back : text_in other (reverse (output ++ word ∷ []))
    ≡ cond (bytes_eq other name) (Some (text_of word)) (text_in other (reverse output)) =
    text_in_push other output word ∙ ap
    (λ definition. text_if other definition (text_in other (reverse output))) is in
    subst (λ t. Agree t (words_for after other)) (sym read_back)
    (subst (Agree (cond (bytes_eq other name) (Some (text_of word)) (text_in other (reverse output))))
    (sym (inserted other)) (by (bytes_eq other name)))
  where
    by : (b : Bool)
        → Agree (cond b (Some (text_of word)) (text_in other (reverse output)))
        (cond b (Some words) (words_for map other))
    by true = text
    by false = held other

-- the definition of a text without a quote that spells words is sound
pub sound_by : (output : List Lexeme) (word : Lexeme) (name : List ℕ) (words : List Lexeme)
    → definition_by word (reverse output) ≡ Some (name, text_of word)
    → IsTextOf (text_of word) words
    → IsSound output word
sound_by output word name words is text =
    subst (λ definition. IfSome definition (λ d. IsSoundText d.1)) (sym is) (text.0, (words, text.1))

-- no text in force holds a quote
pub free_in_force : {S : Type 0} (output : List Lexeme) (map : IndexMap Key (Vec Word Global) S)
    → AreHeld output map
    → (word : Lexeme) (text : List ℕ)
    → in_force output word ≡ Some text
    → has_quote text ≡ false
free_in_force output map held word text is =
    agree _ (subst (λ t. Agree t (words_for map (name_of word.text))) (text_in_force output word text is)
    (held (name_of word.text)))
  where
    agree : (found : Option (Vec Word Global)) → Agree (Some text) found → has_quote text ≡ false
    agree None never = absurd never
    agree (Some words) fact = fact.0

-- words without a string leave the held definitions as they are
pub held_append : {S : Type 0} (output now : List Lexeme) (map : IndexMap Key (Vec Word Global) S)
    → HasNoString now
    → AreHeld output map
    → AreHeld (output ++ now) map
held_append output now map none held name =
    subst (λ text. Agree text (words_for map name)) (sym (text_in_after name output now none)) (held name)

-- so does what a name in force becomes
pub held_after : {S : Type 0} (output : List Lexeme) (processed : ℕ) (word : Lexeme) (inner : List Lexeme)
    (whole : List Lexeme) (count : ℕ) (map : IndexMap Key (Vec Word Global) S)
    → StandsFor output word inner
    → AreHeld output map
    → Adds output processed word whole count
    → AreHeld whole map
held_after output processed word inner whole count map stands held added =
    let none =
    becomes_no_string (free_in_force output map held)
    (name_in_force output word stands.0 stands.1, tt) added.2 in
    subst (λ words. AreHeld words map) (sym added.3) (held_append output added.0 map none held)

-- a name in force before LITERALLY
pub is_again : (output : List Lexeme) (word : Lexeme) (inner words : List Lexeme)
    → StandsFor output word inner
    → begins_with_literally words ≡ true
    → is_defined_again output word words ≡ true
is_again output word inner words stands begins = ap (λ text. is_some text && begins_with_literally words) stands.1 ∙ begins
