-- What a statement begins with at a word.
use Rattle.syntax.proofs.Prelude.{◌≡◌, Bool, true, false, List, ◌∷◌, if◌then◌else◌, refl, ReservedWord, Identifier, Place, Symbol, NameSymbol, UnknownSymbol, reserved_symbol, next_beginning, beginning_at}
use Rattle.words.specs.declared.vocabulary.ReservedWord.TheVariants as words
use Rattle.syntax.specs.declared.statements.Beginning.TheVariants as beginnings

-- at a reserved word
pub next_beginning_reserved : (word : ReservedWord) (place : Place) (rest : List Symbol)
    → next_beginning (reserved_symbol word place ∷ rest) ≡ beginning_at word place
next_beginning_reserved words.Call place rest = refl
next_beginning_reserved words.Return place rest = refl
next_beginning_reserved words.Halt place rest = refl
next_beginning_reserved words.Goto place rest = refl
next_beginning_reserved words.If place rest = refl
next_beginning_reserved words.Do place rest = refl
next_beginning_reserved word place rest = refl

-- at a name, whatever its characters
pub next_beginning_name : (valid : Bool) (name : Identifier) (rest : List Symbol)
    → next_beginning ((if valid then NameSymbol name else UnknownSymbol) ∷ rest) ≡ beginnings.Name
next_beginning_name true name rest = refl
next_beginning_name false name rest = refl
