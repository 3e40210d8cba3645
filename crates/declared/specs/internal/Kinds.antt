-- What the kind of a byte says.
use Rattle.std.specs.Prelude.{Bool, true, false}
use Rattle.placing.specs.declared.table.ByteKind.{ByteKind}
use Rattle.placing.specs.declared.table.ByteKind.TheVariants.{Undeclared, Writable, Constant}

-- whether something that is declared has the byte, and whether a constant has it
abbrev pub says_declared : ByteKind → Bool
says_declared Undeclared = false
says_declared Writable = true
says_declared Constant = true

abbrev pub says_constant : ByteKind → Bool
says_constant Undeclared = false
says_constant Writable = false
says_constant Constant = true
