-- How the parser reads lists. The numbers bound how many items there can be: the symbols that are left are
-- always enough.
use Rattle.std.specs.Prelude.{◌≡◌, ℕ, zero, suc, ◌≤◌, ◌<◌, Bool, List, [], ◌∷◌, ◌++◌, drop, length, Ok, Err, if◌then◌else◌}
use Rattle.words.specs.declared.vocabulary.Mark.TheVariants.{Comma, LeftParenthesis, RightParenthesis}
use Rattle.grammar.specs.Symbols.{Symbol}
use Rattle.syntax.specs.internal.Reader.{Parser, Reading, Unexpected, ◌>>=◌, at_mark, mark}

-- {`,` item}
abbrev pub more_items : {A : Type 0} → Parser A → ℕ → Parser (List A)
more_items item zero symbols = Ok ([], symbols)
more_items item (suc count) symbols =
    if at_mark Comma symbols then (do
      first ← item (drop 1 symbols)
      others ← more_items item count first.1
      Ok (first.0 ∷ others.0, others.1))
    else Ok ([], symbols)

-- {`,` item}, as many as there are
unfoldable pub all_more_items : {A : Type 0} → Parser A → Parser (List A)
all_more_items item symbols = more_items item (length symbols) symbols

-- item {`,` item}
abbrev pub items : {A : Type 0} → Parser A → Parser (List A)
items item symbols = do
  first ← item symbols
  others ← all_more_items item first.1
  Ok (first.0 ∷ others.0, others.1)

-- an item in parentheses
abbrev pub in_parentheses : {A : Type 0} → Parser A → Parser A
in_parentheses inner symbols = do
  later ← mark LeftParenthesis symbols
  found ← inner later
  rest ← mark RightParenthesis found.1
  Ok (found.0, rest)

-- a reading of items, with others before those that were read
abbrev pub after_items : {A : Type 0} → List A → Reading (List A) → Reading (List A)
after_items before (Ok others) = Ok (before ++ others.0, others.1)
after_items before (Err cause) = Err cause

-- {item}, up to where a list ends
abbrev pub many_items : {A : Type 0} → (List Symbol → Bool) → Parser A → ℕ → Parser (List A)
many_items ends item zero symbols = if ends symbols then Ok ([], symbols) else Err Unexpected
many_items ends item (suc count) symbols =
    if ends symbols then Ok ([], symbols) else (do
      first ← item symbols
      others ← many_items ends item count first.1
      Ok (first.0 ∷ others.0, others.1))

-- {item}, as many as there are
unfoldable pub many : {A : Type 0} → (List Symbol → Bool) → Parser A → Parser (List A)
many ends item symbols = many_items ends item (length symbols) symbols

-- reading leaves no more symbols than there were, or fewer
abbrev pub Keeps : {A : Type 0} → Parser A → Type 0
Keeps {A} item =
    (symbols rest : List Symbol) (a : A)
    → item symbols ≡ Ok (a, rest)
    → length rest ≤ length symbols

abbrev pub Shrinks : {A : Type 0} → Parser A → Type 0
Shrinks {A} item =
    (symbols rest : List Symbol) (a : A)
    → item symbols ≡ Ok (a, rest)
    → length rest < length symbols
