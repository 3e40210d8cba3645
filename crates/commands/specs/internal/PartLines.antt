-- Parts of the code of the interpreter that have a line.
use Rattle.std.specs.Prelude.{ℕ, List, length}
use Rattle.interpreter.specs.internal.Counted.{IsPartOf}
use Rattle.interpreter.specs.internal.StackPart.{StackPart}
use Rattle.sources.specs.declared.lines.SourceLines.{SourceLines}
use Rattle.sources.specs.internal.Counted.{AreLinesOf}

-- a part has a line in the tables of a module, and in all that are of a text
abbrev pub HasLineIn : SourceLines → StackPart → Type 0
HasLineIn lines part = IsPartOf (length lines.procedures.items) (length lines.statements.items) part

abbrev pub HasLine : List ℕ → StackPart → Type 0
HasLine text part = (lines : SourceLines) → AreLinesOf text lines → HasLineIn lines part
