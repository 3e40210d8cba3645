-- How the parser looks at symbols. No public clause cites these definitions.
use Rattle.std.specs.Prelude.{Bool, true, false, ◌==◌, List, ◌∷◌, drop, Option, Some, None, Result, Ok, Err, if◌then◌else◌}
use Rattle.words.specs.declared.vocabulary.Mark.{Mark}
use Rattle.words.specs.declared.vocabulary.Mark.TheVariants as marks
use Rattle.words.specs.declared.vocabulary.ReservedWord.{ReservedWord}
use Rattle.words.specs.declared.vocabulary.ReservedWord.TheVariants as words
use Rattle.words.specs.Ordinals.{mark_number, word_number}
use Rattle.trees.specs.declared.identifier.Identifier.{Identifier}
use Rattle.trees.specs.declared.identifier.Number.{Number}
use Rattle.trees.specs.declared.identifier.Place.{Place}
use Rattle.grammar.specs.Symbols.{Symbol, NameSymbol, NumberSymbol, StringSymbol, ReservedSymbol, PlacedSymbol, MarkSymbol, SemicolonSymbol}
use Rattle.trees.specs.Trees.{StringTree, ConstantTree, NumberConstant, StringConstant}

-- why there is nothing to read: a symbol that can't stand there, too many levels, or another name after END
pub data Cause : Type 0 where
  Unexpected : Cause
  TooDeep : Cause
  OtherEndName : Cause

-- a reading: a value and the symbols after it, or the cause of a failure
abbrev pub Reading : Type 0 → Type 0
Reading A = Result (A × List Symbol) Cause

-- how a part of the grammar is read
abbrev pub Parser : Type 0 → Type 0
Parser A = List Symbol → Reading A

infixl 10 ◌>>=◌
abbrev pub ◌>>=◌ : {A B : Type 0} → Result A Cause → (A → Result B Cause) → Result B Cause
(Ok a) >>= next = next a
(Err cause) >>= next = Err cause

-- whether the tree keeps the place of a reserved word
abbrev pub keeps_place : ReservedWord → Bool
keeps_place words.At = true
keeps_place words.Call = true
keeps_place words.Data = true
keeps_place words.Do = true
keeps_place words.External = true
keeps_place words.Goto = true
keeps_place words.Halt = true
keeps_place words.If = true
keeps_place words.Initial = true
keeps_place words.Public = true
keeps_place words.Reentrant = true
keeps_place words.Return = true
keeps_place word = false

-- whether a mark is a semicolon, whose place the tree keeps
abbrev pub is_semicolon : Mark → Bool
is_semicolon marks.Semicolon = true
is_semicolon mark = false

-- whether the next symbol is this mark, other than a semicolon
abbrev pub at_mark : Mark → List Symbol → Bool
at_mark mark (MarkSymbol found ∷ rest) = mark_number found == mark_number mark
at_mark mark symbols = false

-- whether the next symbol is this reserved word, whose place is not kept
abbrev pub at_word : ReservedWord → List Symbol → Bool
at_word word (ReservedSymbol found ∷ rest) = word_number found == word_number word
at_word word symbols = false

-- the place of this reserved word, if it is the next symbol, and its place is kept
abbrev pub place_of_word : ReservedWord → List Symbol → Option Place
place_of_word word (PlacedSymbol found place ∷ rest) =
    if word_number found == word_number word then Some place else None
place_of_word word symbols = None

-- the place of a semicolon, if it is the next symbol
abbrev pub next_semicolon : List Symbol → Option Place
next_semicolon (SemicolonSymbol place ∷ rest) = Some place
next_semicolon symbols = None

-- the next symbol, if it is a name
abbrev pub next_name : List Symbol → Option Identifier
next_name (NameSymbol name ∷ rest) = Some name
next_name symbols = None

-- the next symbol, if it is a number or a string
abbrev pub next_constant : List Symbol → Option ConstantTree
next_constant (NumberSymbol number ∷ rest) = Some (NumberConstant number)
next_constant (StringSymbol string ∷ rest) = Some (StringConstant string)
next_constant symbols = None

-- this mark
abbrev pub mark : Mark → List Symbol → Result (List Symbol) Cause
mark wanted symbols = if at_mark wanted symbols then Ok (drop 1 symbols) else Err Unexpected

-- this reserved word
abbrev pub word : ReservedWord → List Symbol → Result (List Symbol) Cause
word wanted symbols = if at_word wanted symbols then Ok (drop 1 symbols) else Err Unexpected

-- what was found as the next symbol
abbrev pub taken : {A : Type 0} → Option A → Parser A
taken (Some found) symbols = Ok (found, drop 1 symbols)
taken None symbols = Err Unexpected

-- a semicolon, read as its place
abbrev pub semicolon : Parser Place
semicolon symbols = taken (next_semicolon symbols) symbols

-- a name
abbrev pub name : Parser Identifier
name symbols = taken (next_name symbols) symbols

-- constant: number | string
abbrev pub constant : Parser ConstantTree
constant symbols = taken (next_constant symbols) symbols

-- a number
abbrev pub number : Parser Number
number (NumberSymbol found ∷ rest) = Ok (found, rest)
number symbols = Err Unexpected

-- a string
abbrev pub string : Parser StringTree
string (StringSymbol found ∷ rest) = Ok (found, rest)
string symbols = Err Unexpected

-- a number as a constant
abbrev pub number_constant : Parser ConstantTree
number_constant symbols = do
  found ← number symbols
  Ok (NumberConstant found.0, found.1)

-- a string as a constant
abbrev pub string_constant : Parser ConstantTree
string_constant symbols = do
  found ← string symbols
  Ok (StringConstant found.0, found.1)
