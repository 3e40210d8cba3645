-- What the grammar reads of words.
use Rattle.std.specs.Prelude.{ℕ, List, map, if◌then◌else◌}
use Rattle.words.specs.declared.vocabulary.Kind.{Kind}
use Rattle.words.specs.declared.vocabulary.Kind.TheVariants.{Name, Reserved, Number as NumberWord, String, Mark as MarkWord}
use Rattle.words.specs.declared.vocabulary.Mark.{Mark}
use Rattle.words.specs.declared.vocabulary.Mark.TheVariants.{Semicolon}
use Rattle.words.specs.declared.vocabulary.ReservedWord.{ReservedWord}
use Rattle.words.specs.declared.vocabulary.ReservedWord.TheVariants.{At, Call, Data, Do, External, Goto, Halt, If, Initial, Public, Reentrant, Return}
use Rattle.words.specs.Spelling.{Lexeme}
use Rattle.words.specs.Strings.{characters_of}
use Rattle.trees.specs.declared.identifier.Identifier.{Identifier}
use Rattle.trees.specs.declared.identifier.Number.{Number}
use Rattle.trees.specs.declared.identifier.Place.{Place}
use Rattle.symbols.specs.Names.{is_name, name_of}
use Rattle.trees.specs.Trees.{StringTree}

-- A name, a number and a string by their values and places; a reserved word, for some with its place;
-- or a mark, for a semicolon with its place.
-- A word that is said to be a name and has other characters is a symbol that the grammar doesn't have.
pub data Symbol : Type 0 where
  NameSymbol : Identifier → Symbol
  NumberSymbol : Number → Symbol
  StringSymbol : StringTree → Symbol
  ReservedSymbol : ReservedWord → Symbol
  PlacedSymbol : ReservedWord → Place → Symbol
  MarkSymbol : Mark → Symbol
  SemicolonSymbol : Place → Symbol
  UnknownSymbol : Symbol

-- a reserved word, with its place if a tree keeps it: that of an attribute, and of a word that begins a statement
abbrev pub reserved_symbol : ReservedWord → Place → Symbol
reserved_symbol At place = PlacedSymbol At place
reserved_symbol Call place = PlacedSymbol Call place
reserved_symbol Data place = PlacedSymbol Data place
reserved_symbol Do place = PlacedSymbol Do place
reserved_symbol External place = PlacedSymbol External place
reserved_symbol Goto place = PlacedSymbol Goto place
reserved_symbol Halt place = PlacedSymbol Halt place
reserved_symbol If place = PlacedSymbol If place
reserved_symbol Initial place = PlacedSymbol Initial place
reserved_symbol Public place = PlacedSymbol Public place
reserved_symbol Reentrant place = PlacedSymbol Reentrant place
reserved_symbol Return place = PlacedSymbol Return place
reserved_symbol word place = ReservedSymbol word

-- a mark, with its place if a tree keeps it: that of a semicolon, which may be a statement
abbrev pub mark_symbol : Mark → Place → Symbol
mark_symbol Semicolon place = SemicolonSymbol place
mark_symbol mark place = MarkSymbol mark

-- the symbol of a word of a kind, from its bytes and its place
abbrev pub symbol_at : Kind → List ℕ → Place → Symbol
symbol_at Name text place =
    if is_name (name_of text) then NameSymbol (record { name = name_of text; place = place })
    else UnknownSymbol
symbol_at (Reserved word) text place = reserved_symbol word place
symbol_at (NumberWord value) text place = NumberSymbol (record { value = value; place = place })
symbol_at String text place = StringSymbol (record { characters = characters_of text; place = place })
symbol_at (MarkWord mark) text place = mark_symbol mark place

-- the symbol of a word
abbrev pub symbol_of : Lexeme → Symbol
symbol_of word = symbol_at word.kind word.text (record { start = word.start; line = word.line })

-- the symbols of words
abbrev pub symbols_of : List Lexeme → List Symbol
symbols_of words = map symbol_of words
