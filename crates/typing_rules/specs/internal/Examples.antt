-- Worked typings by the rules. Before them is declared: A BYTE, W ADDRESS, V(5) BYTE, R BYTE DATA (1).
use Rattle.std.specs.Prelude.{ℕ, false, List, [], ◌∷◌, Option, None, Some, codes, refl}
use Rattle.trees.specs.declared.declaration.ScalarType.{ScalarType}
use Rattle.trees.specs.declared.declaration.ScalarType.TheVariants.{Byte, Address}
use Rattle.trees.specs.declared.expression.BinaryOperator.TheVariants.{Add}
use Rattle.trees.specs.declared.identifier.Identifier.{Identifier}
use Rattle.trees.specs.declared.identifier.Place.{Place}
use Rattle.trees.specs.Trees.{NumberConstant, ExpressionTree, ConstantLeaf, ReferenceLeaf, BinaryNode, ReferenceTree, ReferenceTo, NoMember, NoArguments, MoreArguments}
use Rattle.names.specs.declared.entity.Entity.TheVariants.{Object}
use Rattle.names.specs.Environment.{Here, empty_body, at_the_start}
use Rattle.typed_trees.specs.declared.parts.InitialValue.TheVariants.{ByteValue}
use Rattle.typed_trees.specs.declared.parts.NumberOrigin.TheVariants.{FromDigits}
use Rattle.typed_trees.specs.TypedTrees.{NumberNode, ValueNode, ConversionNode, BinaryNode as TypedBinary, TypedReference, PartOf, NoSubscript, At, ScalarObject, Home, InData, InConstants, TypedObject, Constants}
use Rattle.typing.specs.declared.fault.Cause.TheVariants.{SubscriptMismatch, ConstantWritten}
use Rattle.typing.specs.References.{Known}
use Rattle.typing_rules.specs.Constants.{digits}
use Rattle.typing_rules.specs.ExpressionFaults.{ExpressionFault, in_value, in_part, TargetFault, target_with_data, in_subscripts, wrong_number, no_element}
use Rattle.typing_rules.specs.Expressions.{ExpressionTyping, constant, scalar_value, binary, without_member, no_array, element}
use Rattle.typing_rules.specs.Names.{IsVariable, at_name}

abbrev pub line_one : Place
line_one = record { start = 0; line = 1 }

abbrev pub called : List ℕ → Identifier
called text = record { name = text; place = line_one }

abbrev pub alone : List ℕ → ReferenceTree
alone text = ReferenceTo (called text) NoArguments NoMember

abbrev pub number : ℕ → ExpressionTree
number value = ConstantLeaf (NumberConstant (record { value = value; place = line_one }))

abbrev pub declared : List ℕ → Option ℕ → ScalarType → Home → TypedObject
declared text dimension scalar home = record {
  name = text;
  dimension = dimension;
  object_type = ScalarObject scalar;
  home = home;
  is_public = false;
  is_parameter = false;
}

abbrev pub here : Here
here = record at_the_start {
  body = record empty_body {
    block =
        (codes "A", Object 0) ∷ (codes "W", Object 1) ∷ (codes "V", Object 2) ∷ (codes "R", Object 3) ∷ [];
  };
}

abbrev pub known : Known
known = record {
  here = here;
  objects =
      declared (codes "A") None Byte (InData []) ∷ declared (codes "W") None Address (InData [])
      ∷ declared (codes "V") (Some 5) Byte (InData [])
      ∷ declared (codes "R") None Byte (InConstants (ByteValue 1 ∷ [])) ∷ [];
  procedures = [];
}

abbrev pub whole : ℕ → TypedReference
whole object = PartOf object NoSubscript None 0 NoSubscript

pub a_is : IsVariable known (called (codes "A")) 0 (declared (codes "A") None Byte (InData []))
a_is = record { named = refl; listed = refl }

pub w_is : IsVariable known (called (codes "W")) 1 (declared (codes "W") None Address (InData []))
w_is = record { named = refl; listed = refl }

pub v_is : IsVariable known (called (codes "V")) 2 (declared (codes "V") (Some 5) Byte (InData []))
v_is = record { named = refl; listed = refl }

pub r_is : IsVariable known (called (codes "R")) 3 (declared (codes "R") None Byte (InConstants (ByteValue 1 ∷ [])))
r_is = record { named = refl; listed = refl }

-- A + W: the BYTE is extended
pub a_plus_w : (constants : Constants)
    → ExpressionTyping known constants
    (BinaryNode Add (ReferenceLeaf (alone (codes "A"))) (ReferenceLeaf (alone (codes "W"))))
    (TypedBinary Address Add (ConversionNode Address (ValueNode Byte (whole 0))) (ValueNode Address (whole 1)))
    constants
a_plus_w constants =
    binary (scalar_value a_is (without_member no_array)) (scalar_value w_is (without_member no_array))

-- 255 + 1: a sum of BYTEs is a BYTE
pub sum_of_bytes : (constants : Constants)
    → ExpressionTyping known constants (BinaryNode Add (number 255) (number 1))
    (TypedBinary Byte Add (NumberNode Byte 255 FromDigits) (NumberNode Byte 1 FromDigits)) constants
sum_of_bytes constants = binary (constant digits) (constant digits)

-- V(A): the subscript is converted
pub v_of_a : (constants : Constants)
    → ExpressionTyping known constants
    (ReferenceLeaf (ReferenceTo (called (codes "V")) (MoreArguments (ReferenceLeaf (alone (codes "A"))) NoArguments) NoMember))
    (ValueNode Byte (PartOf 2 (At 1 5 (ConversionNode Address (ValueNode Byte (whole 0)))) None 0 NoSubscript)) constants
v_of_a constants =
    scalar_value v_is (without_member (element (scalar_value a_is (without_member no_array))))

-- V: C13, at V
pub v_alone : (constants : Constants)
    → ExpressionFault known constants (ReferenceLeaf (alone (codes "V"))) (at_name SubscriptMismatch (called (codes "V")))
v_alone constants = in_value (in_part v_is (in_subscripts (wrong_number no_element)))

-- R as a target: C16, at R
pub r_as_target : (constants : Constants)
    → TargetFault known constants (alone (codes "R")) (at_name ConstantWritten (called (codes "R")))
r_as_target constants = target_with_data r_is refl
