-- The types of the results of LOW, HIGH and DOUBLE (PL/M-80 Programming Manual, "Built-in procedures").
use Rattle.trees.specs.declared.declaration.ScalarType.{ScalarType}
use Rattle.trees.specs.declared.declaration.ScalarType.TheVariants.{Byte, Address}
use Rattle.trees.specs.declared.functions.UnaryFunction.{UnaryFunction}
use Rattle.trees.specs.declared.functions.UnaryFunction.TheVariants.{Low, High, Double}

-- LOW and HIGH give a BYTE, DOUBLE an ADDRESS
abbrev pub type_of_function : UnaryFunction → ScalarType
type_of_function Low = Byte
type_of_function High = Byte
type_of_function Double = Address
