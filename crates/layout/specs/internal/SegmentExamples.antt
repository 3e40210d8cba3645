-- Worked segments, each beside the declarations that it is of.
use Rattle.std.specs.Prelude.{◌≡◌, ℕ, List, [], ◌∷◌, Option, None, Some, false, codes, refl}
use Rattle.typed_trees.specs.ScalarType.{ScalarType}
use Rattle.typed_trees.specs.ScalarType.TheVariants.{Byte, Address}
use Rattle.typed_trees.specs.declared.parts.AtAddress.TheVariants.{AtNumber, AtObject}
use Rattle.typed_trees.specs.declared.parts.ConstantItem.{ConstantItem}
use Rattle.typed_trees.specs.declared.parts.ConstantItem.TheVariants.{ConstantObject, ConstantList}
use Rattle.typed_trees.specs.declared.parts.InitialValue.TheVariants.{ByteValue, LocationValue}
use Rattle.typed_trees.specs.declared.parts.Visibility.TheVariants.{Private}
use Rattle.typed_trees.specs.TypedTrees.{Home, InData, InConstants, Placed, Elsewhere, NoStatements, ListOf, ScalarObject, TypedObject, TypedModule}
use Rattle.layout.specs.declared.slot.Segment.TheVariants.{Data}
use Rattle.layout.specs.Segments.{SegmentStart, ExternalName, Absolute, After, location_of, SegmentByte, constant_places, data_places}

-- a scalar, or an array of scalars
abbrev object : (dimension : Option ℕ) → ScalarType → Home → TypedObject
object dimension scalar home = record {
  name = codes "X";
  dimension = dimension;
  object_type = ScalarObject scalar;
  home = home;
  is_public = false;
  is_parameter = false;
}

-- a module without procedures and statements
abbrev module_of : List TypedObject → (lists : List (List ℕ)) → List ConstantItem → TypedModule
module_of objects lists items = record {
  name = [];
  objects = objects;
  procedures = [];
  constants = record { lists = lists; items = items };
  globals = [];
  main = record {
    name = [];
    visibility = Private;
    result = None;
    is_reentrant = false;
    parameter_types = [];
    parameters = [];
    frame_bytes = 0;
    body = ListOf 0 [] NoStatements;
  };
}

-- a byte that is set and gains nothing
abbrev byte : ℕ → Option SegmentByte
byte value = Some (record { value = value; target = None })

-- DECLARE K (5) BYTE DATA (1, 2), L BYTE DATA (9), and a constant list .(7, 8) between them
abbrev constants_module : TypedModule
constants_module =
    module_of
    (object (Some 5) Byte (InConstants (ByteValue 1 ∷ ByteValue 2 ∷ []))
    ∷ object None Byte (InConstants (ByteValue 9 ∷ [])) ∷ [])
    ((7 ∷ 8 ∷ []) ∷ []) (ConstantObject 0 ∷ ConstantList 0 ∷ ConstantObject 1 ∷ [])

constants_in_text_order :
    constant_places constants_module
    ≡ byte 1 ∷ byte 2 ∷ None ∷ None ∷ None ∷ byte 7 ∷ byte 8 ∷ byte 9 ∷ []
constants_in_text_order = refl

no_variables : data_places constants_module ≡ []
no_variables = refl

-- DECLARE A (2) ADDRESS, B ADDRESS AT (.A(1)), C BYTE AT (.B + 1), D BYTE AT (65535), E BYTE AT (.D + 3),
-- X BYTE EXTERNAL, P (4) ADDRESS INITIAL (.C, .E, .X + 258)
abbrev variables_module : TypedModule
variables_module =
    module_of
    (object (Some 2) Address (InData [])
    ∷ object None Address (Placed (AtObject 0 2))
    ∷ object None Byte (Placed (AtObject 1 1))
    ∷ object None Byte (Placed (AtNumber 65535))
    ∷ object None Byte (Placed (AtObject 3 3))
    ∷ object None Byte Elsewhere
    ∷ object (Some 4) Address (InData (LocationValue 2 0 ∷ LocationValue 4 0 ∷ LocationValue 5 258 ∷ []))
    ∷ [])
    [] []

-- AT goes through chains of objects
chain_in_a_segment : location_of variables_module 2 ≡ After (SegmentStart Data) 3
chain_in_a_segment = refl

chain_past_the_end : location_of variables_module 4 ≡ Absolute 2
chain_past_the_end = refl

-- each location is a word, which gains the address of a segment or of a name, or nothing
locations_are_words :
    data_places variables_module
    ≡ None ∷ None ∷ None ∷ None
    ∷ Some (record { value = 3; target = Some (SegmentStart Data) }) ∷ byte 0
    ∷ byte 2 ∷ byte 0
    ∷ Some (record { value = 2; target = Some (ExternalName (codes "X")) }) ∷ byte 1
    ∷ None ∷ None ∷ []
locations_are_words = refl
