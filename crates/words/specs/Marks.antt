-- Marks (PL/M-80 Programming Manual, on special characters and operators).
use Rattle.std.specs.Prelude.{ℕ, List, [], ◌∷◌, length, find, nat_eq, Option, codes}
use Rattle.std.specs.List.{starts_with}
use Rattle.std.specs.Option.{option_map_or}
use Rattle.words.specs.declared.items.Cause.TheVariants.{BadCharacter}
use Rattle.words.specs.declared.items.Item.{Item}
use Rattle.words.specs.declared.items.Item.TheVariants.{Spelled, Wrong}
use Rattle.words.specs.declared.vocabulary.Kind.TheVariants.{Mark as MarkWord}
use Rattle.words.specs.declared.vocabulary.Mark.{Mark}
use Rattle.words.specs.declared.vocabulary.Mark.TheVariants.{EqualSign, LessSign, GreaterSign}
use Rattle.words.specs.declared.vocabulary.Mark.TheVariants.{LessEqualSign, GreaterEqualSign, UnequalSign}
use Rattle.words.specs.declared.vocabulary.Mark.TheVariants.{PlusSign, MinusSign, Asterisk, Slash}
use Rattle.words.specs.declared.vocabulary.Mark.TheVariants.{LeftParenthesis, RightParenthesis}
use Rattle.words.specs.declared.vocabulary.Mark.TheVariants.{Comma, Semicolon, Colon, Period, AssignSign}

-- how each mark is written, the marks of two bytes first
abbrev pub marks : List (List ℕ × Mark)
marks =
    (codes "<=", LessEqualSign) ∷
    (codes ">=", GreaterEqualSign) ∷
    (codes "<>", UnequalSign) ∷
    (codes ":=", AssignSign) ∷
    (codes "=", EqualSign) ∷
    (codes "<", LessSign) ∷
    (codes ">", GreaterSign) ∷
    (codes "+", PlusSign) ∷
    (codes "-", MinusSign) ∷
    (codes "*", Asterisk) ∷
    (codes "/", Slash) ∷
    (codes "(", LeftParenthesis) ∷
    (codes ")", RightParenthesis) ∷
    (codes ",", Comma) ∷
    (codes ";", Semicolon) ∷
    (codes ":", Colon) ∷
    (codes ".", Period) ∷ []

-- the longest mark that the text begins with
unfoldable pub mark_at : List ℕ → Option (List ℕ × Mark)
mark_at text = find (λ mark. starts_with nat_eq text mark.0) marks

-- a mark, or a byte that begins no word
abbrev pub mark_item : List ℕ → Item
mark_item text =
    option_map_or (λ mark. Spelled (MarkWord mark.1) (length mark.0)) (mark_at text) (Wrong BadCharacter)
