-- Worked values: trees whose types hold, and some whose types do not; references, frames and globals that fit their
-- module, and some that do not.
use Rattle.typed_trees.proofs.Prelude.{◌≡◌, ℕ, Bool, true, false, List, [], ◌∷◌, Option, None, Some, length, refl, ap, arith, All-nil, ScalarType, Byte, Address, Subtract, Multiply, NumberNode, ValueNode, LocationNode, ConversionNode, BinaryNode, CallNode, ShiftNode, InputNode, TypedReference, PartOf, NoSubscript, At, NoArguments, MoreArguments, ReturnStatement, NoStatements, ListOf, Home, InData, BasedOn, InFrame, ObjectType, ScalarObject, StructureObject, TypedObject, TypedProcedure, TypedModule, IsPartOf, IsScalarOf}
use Rattle.typed_trees.specs.declared.parts.GlobalItem.{GlobalItem}
use Rattle.typed_trees.specs.declared.parts.GlobalItem.TheVariants.{GlobalProcedure}
use Rattle.typed_trees.specs.declared.parts.NumberOrigin.TheVariants.{FromDigits}
use Rattle.typed_trees.specs.declared.parts.ShiftFunction.TheVariants.{RotateLeft}
use Rattle.typed_trees.specs.declared.parts.Visibility.TheVariants.{Private, Public}
use Rattle.typed_trees.specs.TypedTrees.{TypedExpression}
use Rattle.typed_trees.specs.WellTyped.{Within, WithinProcedure, WithinMain, TypesHold, TypesHoldIn}
use Rattle.typed_trees.specs.Frames.{FrameFits, HasParameters}
use Rattle.typed_trees.specs.Globals.{ListsGlobals}

abbrev object_in : Home → Option ℕ → ObjectType → (is_parameter : Bool) → TypedObject
object_in home dimension object_type is_parameter = record {
  name = [];
  dimension = dimension;
  object_type = object_type;
  home = home;
  is_public = false;
  is_parameter = is_parameter;
}

-- F(X) BYTE REENTRANT with a BYTE parameter and so many frame bytes
abbrev procedure_of : (frame_bytes : ℕ) → TypedProcedure
procedure_of frame_bytes = record {
  name = [];
  visibility = Public;
  result = Some Byte;
  is_reentrant = true;
  parameter_types = Byte ∷ [];
  parameters = 0 ∷ [];
  frame_bytes = frame_bytes;
  body = ListOf 0 [] NoStatements;
}

-- a module with this procedure, its parameter, an array of three BYTEs in its frame, a W ADDRESS, and a B
-- BASED on it
abbrev module_with : (frame_bytes : ℕ) → List GlobalItem → TypedModule
module_with frame_bytes globals = record {
  name = [];
  objects = object_in (InFrame 0) None (ScalarObject Byte) true
      ∷ object_in (InFrame 0) (Some 3) (ScalarObject Byte) false
      ∷ object_in (InData []) None (ScalarObject Address) false
      ∷ object_in (BasedOn 2) None (ScalarObject Byte) false
      ∷ [];
  procedures = procedure_of frame_bytes ∷ [];
  constants = record { lists = []; items = [] };
  globals = globals;
  main = record (procedure_of 0) { visibility = Private; parameter_types = []; parameters = [] };
}

abbrev one : TypedModule
one = module_with 3 (GlobalProcedure 0 ∷ [])

abbrev in_procedure : Within
in_procedure = WithinProcedure 0 (Some Byte)

abbrev byte : ℕ → TypedExpression
byte value = NumberNode Byte value FromDigits

abbrev whole : ℕ → TypedReference
whole object = PartOf object NoSubscript None 0 NoSubscript

abbrev as_address : TypedExpression → TypedExpression
as_address expression = ConversionNode Address expression

-- 255 is a BYTE, and 300 none
greatest_byte : TypesHold one WithinMain (byte 255)
greatest_byte = omega arith

too_great : TypesHold one WithinMain (byte 300) → ⊥
too_great is = omega (arith, is)

-- the parameter less 1; a BYTE less an ADDRESS; the product of two BYTEs, which is to be one of ADDRESSes
less_one : TypesHold one in_procedure (BinaryNode Byte Subtract (ValueNode Byte (whole 0)) (byte 1))
less_one = (tt, (((refl, ((tt, (refl, refl)), refl, refl)), (tt, tt)), refl), (omega arith, refl))

abbrev is_byte : ScalarType → Bool
is_byte Byte = true
is_byte Address = false

byte_less_address : TypesHold one WithinMain (BinaryNode Byte Subtract (byte 1) (ValueNode Address (whole 2)))
    → ⊥
byte_less_address is = let same : false ≡ true = ap is_byte is.2.1 in absurd cc

product_of_bytes : TypesHold one WithinMain (BinaryNode Byte Multiply (byte 1) (byte 1)) → ⊥
product_of_bytes is = let same : true ≡ false = ap is_byte is.0 in absurd cc

-- F(1) and F(300): the argument is a BYTE
called : TypesHold one WithinMain (CallNode 0 Byte (MoreArguments (byte 1) NoArguments))
called = ((refl, refl), (omega arith, tt))

without_argument : TypesHold one WithinMain (CallNode 0 Byte NoArguments) → ⊥
without_argument is = omega (arith, ap (λ (types : List ScalarType). length types) is.0.1)

-- ROL of an ADDRESS
rotated_address : TypesHold one WithinMain
    (ShiftNode Address RotateLeft (ValueNode Address (whole 2)) (byte 1)) → ⊥
rotated_address is = let same : false ≡ true = ap is_byte is.0 in absurd cc

-- what is BASED on W is seen everywhere; the parameter outside of its procedure is not, and has no location
based : TypesHold one WithinMain (ValueNode Byte (whole 3))
based = ((((refl, refl), tt), ((tt, (refl, refl)), refl, refl)), (tt, tt))

parameter_outside : TypesHold one WithinMain (ValueNode Byte (whole 0)) → ⊥
parameter_outside is = is.0.0

located_in_a_frame : TypesHold one in_procedure (LocationNode (whole 0)) → ⊥
located_in_a_frame is = is.0.1

-- RETURN 300 in a BYTE procedure, and RETURN in the main program
wide_result : TypesHoldIn one in_procedure (ReturnStatement (Some (NumberNode Address 300 FromDigits))) → ⊥
wide_result is = let same : false ≡ true = ap is_byte is.1 in absurd cc

-- the greatest port, and one more
greatest_port : TypesHold one WithinMain (InputNode 255)
greatest_port = omega arith

no_port : TypesHold one WithinMain (InputNode 256) → ⊥
no_port is = omega (arith, is)

return_in_main : TypesHoldIn one WithinMain (ReturnStatement None) → ⊥
return_in_main is = is

-- the array by a subscript, as a whole, and with a dimension that it has not
abbrev array : TypedObject
array = object_in (InFrame 0) (Some 3) (ScalarObject Byte) false

abbrev element : (count : ℕ) → TypedReference
element count = PartOf 1 (At 1 count (as_address (byte 0))) None 0 NoSubscript

element_is : IsScalarOf array Byte (element 3)
element_is = (((refl, refl), (refl, refl)), tt, refl)

whole_is_part : IsPartOf array (whole 1)
whole_is_part = (tt, (refl, refl))

abbrev is_none_of : Option ℕ → Bool
is_none_of None = true
is_none_of (Some count) = false

whole_is_no_scalar : IsScalarOf array Byte (whole 1) → ⊥
whole_is_no_scalar is = let same : false ≡ true = ap is_none_of is.1 in absurd cc

abbrev or_none : Option ℕ → ℕ
or_none None = 0
or_none (Some count) = count

other_dimension : IsPartOf array (element 4) → ⊥
other_dimension is = omega (arith, ap or_none is.0.1)

-- the second member of a structure begins after the first
abbrev structure : TypedObject
structure = object_in (InData []) None (StructureObject (
    record { name = []; dimension = Some 5; scalar = Byte }
    ∷ record { name = []; dimension = None; scalar = Address } ∷ [])) false

second_member : IsScalarOf structure Address (PartOf 0 NoSubscript (Some 1) 5 NoSubscript)
second_member = ((tt, (refl, tt)), refl, (refl, refl))

further_on : IsPartOf structure (PartOf 0 NoSubscript (Some 1) 7 NoSubscript) → ⊥
further_on is = omega (arith, is.1.0)

-- a frame that forgets the array, and parameters without an object
forgets_the_array : FrameFits one.objects 0 (procedure_of 0) → ⊥
forgets_the_array fits = omega (arith, fits.variables)

without_parameter : HasParameters one 0 (record (procedure_of 3) { parameters = [] }) → ⊥
without_parameter has = has.objects

-- the PUBLIC procedure is listed, once
listed : ListsGlobals (record one { objects = [] })
listed = record { objects = refl; procedures = refl; here = All-nil _ }

not_listed : ListsGlobals (module_with 3 []) → ⊥
not_listed lists = omega (arith, ap (λ (numbers : List ℕ). length numbers) lists.procedures)

listed_twice : ListsGlobals (module_with 3 (GlobalProcedure 0 ∷ GlobalProcedure 0 ∷ [])) → ⊥
listed_twice lists = omega (arith, ap (λ (numbers : List ℕ). length numbers) lists.procedures)
