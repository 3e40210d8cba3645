-- Labels at the end of words.
use Rattle.std.proofs.Common.{◌≡◌, ◌<◌, ◌&&◌, ◌∙◌, ℕ, Bool, false, IsTrue, List, [], ◌∷◌, length, reverse, ap, sym, arith, refl}
use Rattle.symbols.specs.Names.{name_of, is_name as is_valid_name}
use Rattle.convert.specs.declared.class.Seen.{Seen}
use Rattle.convert.specs.Labels.{has_label, is_label_of}

-- one word or none has no label
pub none_in_few : (name : List ℕ) (words : List Seen) → length words < 2 → false ≡ has_label name (reverse words)
none_in_few name [] few = refl
none_in_few name (word ∷ []) few = refl
none_in_few name (word ∷ other ∷ words) few = absurd (omega (arith, few))

-- a true condition before another changes nothing
after_true : (test found : Bool) → IsTrue test → found ≡ (test && found)
after_true test found holds = ap (λ (t : Bool). t && found) (sym holds)

-- a word that is a name is a label where the name is one
pub name_found : (name text : List ℕ) (words : List Seen) (found : Bool)
    → IsTrue (is_valid_name (name_of text))
    → name ≡ name_of text
    → found ≡ has_label name (reverse words)
    → found ≡ is_label_of words text
name_found name text words found valid same is =
    is ∙ ap (λ (n : List ℕ). has_label n (reverse words)) same ∙ after_true _ _ valid
