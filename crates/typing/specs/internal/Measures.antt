-- Worked values: declarations, sizes, charges and weights.
use Rattle.std.specs.Prelude.{◌≡◌, ℕ, false, List, [], ◌∷◌, ◌++◌, map, None, Some, Ok, codes, refl}
use Rattle.trees.specs.declared.declaration.Dimension.TheVariants.{Implied}
use Rattle.trees.specs.declared.declaration.Linkage.TheVariants as linkages
use Rattle.trees.specs.declared.declaration.ScalarType.TheVariants.{Byte, Address}
use Rattle.trees.specs.declared.declaration.Sign.TheVariants.{Plus}
use Rattle.trees.specs.declared.declaration.Storage.TheVariants.{Data}
use Rattle.trees.specs.declared.expression.BinaryOperator.TheVariants.{Subtract, Equal}
use Rattle.trees.specs.Trees.{ExpressionTree, ReferenceTo, MemberOf, BinaryNode as Binary, LocationOrigin, RestrictedTree, ItemTypeTree, ScalarItem, StructureItem, ElementTree, ItemElement, HeadingTree, StatementTree, CallStatement as Call, ReturnStatement as Return, IfStatement as If, NoElse, DeclarationTree, DeclareTree, ModuleTree}
use Rattle.names.specs.BuiltIns.{built_in_of}
use Rattle.typing.specs.declared.fault.Cause.TheVariants.{NotByte, TooLarge}
use Rattle.typed_trees.specs.declared.parts.Measure.TheVariants.{Size, Last}
use Rattle.typed_trees.specs.declared.parts.AtAddress.TheVariants.{AtObject}
use Rattle.typed_trees.specs.declared.parts.InitialValue.TheVariants.{ByteValue, WordValue, LocationValue}
use Rattle.typed_trees.specs.declared.parts.NumberOrigin.TheVariants.{FromDigits, FromMeasure}
use Rattle.typed_trees.specs.TypedTrees.{NumberNode, ConversionNode, At, PartOf, StoredIn, SentTo, AssignmentStatement, ScalarObject, Home, InData, InConstants, Placed, TypedObject, NoStatements, MoreStatements, ListOf, TypedModule}
use Rattle.typed_trees.specs.Sizes.{size_of_object}
use Rattle.typing.specs.internal.Checks.{Checked, ◌>>=◌, refuse}
use Rattle.typed_trees.specs.Charge.{charge_of}
use Rattle.typed_trees.specs.Weight.{weight_of, code_bound}
use Rattle.typing.specs.internal.Typing.{typing_of}
use Rattle.typing.specs.internal.Samples.{on_line, name_on, number_on, string_on, a_number, plain, arguments_of, at_subscript, value_of, item_with, scalar_item, array_item, data_item, alone, unlabelled, assigns, heading_on, procedure_of, module_of}
use Rattle.typing.specs.internal.Examples.{main_of}

-- a measure of a module that is typed
abbrev pub measured : {A : Type 0} → (TypedModule → A) → ModuleTree → Checked A
measured measure tree = typing_of tree >>= (λ (typed : TypedModule). Ok (measure typed))

-- the charges of the procedures, in the order of their headings, and of the main program
abbrev pub charges : TypedModule → List ℕ
charges typed = map charge_of typed.procedures ++ charge_of typed.main ∷ []

abbrev pub sizes : TypedModule → List ℕ
sizes typed = map size_of_object typed.objects

abbrev pub homes : TypedModule → List Home
homes typed = map (λ (object : TypedObject). object.home) typed.objects

-- DECLARE S(2) STRUCTURE (A BYTE, B(2) ADDRESS), X BYTE AT (.S + 8);
abbrev pub structure_type : ItemTypeTree
structure_type = StructureItem (
    record { name = name_on 2 (codes "A"); dimension = None; scalar = Byte }
    ∷ record {
      name = name_on 2 (codes "B");
      dimension = Some (record { value = 2; place = on_line 2 });
      scalar = Address;
    }
    ∷ [])

abbrev pub eight_after : List ℕ → RestrictedTree
eight_after text = record {
  origin = LocationOrigin (name_on 2 text);
  offsets = record { sign = Plus; constant = number_on 2 8 } ∷ [];
}

abbrev pub placed_item : (line : ℕ) → List ℕ → RestrictedTree → ElementTree
placed_item line text address =
    ItemElement (record (item_with line text (ScalarItem Byte)) {
      at = Some (record { place = on_line line; address = address });
    })

abbrev pub structures : DeclarationTree
structures = DeclareTree (
    array_item 2 (codes "S") 2 structure_type
    ∷ placed_item 2 (codes "X") (eight_after (codes "S"))
    ∷ [])

-- S takes 10 bytes and X one, which lies 8 bytes after the beginning of S
pub structure_sizes : measured sizes (module_of (structures ∷ []) []) ≡ Ok (10 ∷ 1 ∷ [])
unfolding typing_of built_in_of
structure_sizes = refl

pub structure_homes :
    measured homes (module_of (structures ∷ []) []) ≡ Ok (InData [] ∷ Placed (AtObject 0 8) ∷ [])
unfolding typing_of built_in_of
structure_homes = refl

-- S(1).B(1) = SIZE(S): elements of 5 bytes, and B is the second member, one byte after the first
pub member :
    main_of (module_of (structures ∷ [])
    (assigns
    (ReferenceTo (name_on 3 (codes "S")) (arguments_of (a_number 3 1 ∷ []))
    (MemberOf (name_on 3 (codes "B")) (arguments_of (a_number 3 1 ∷ []))) ∷ [])
    (value_of (at_subscript 3 (codes "SIZE") (value_of (plain 3 (codes "S")) ∷ []))) ∷ []))
    ≡ Ok (ListOf 0 [] (MoreStatements
    (AssignmentStatement
    (StoredIn Byte Address
    (PartOf 0
    (At 5 2 (ConversionNode Address (NumberNode Byte 1 FromDigits))) (Some 1) 1
    (At 2 2 (ConversionNode Address (NumberNode Byte 1 FromDigits)))) ∷ [])
    (NumberNode Byte 10 (FromMeasure Size 0 None)))
    NoStatements))
unfolding typing_of built_in_of
member = refl

-- OUTPUT(0) = LAST(S)
pub last_of_structures :
    main_of (module_of (structures ∷ [])
    (assigns (at_subscript 3 (codes "OUTPUT") (a_number 3 0 ∷ []) ∷ [])
    (value_of (at_subscript 3 (codes "LAST") (value_of (plain 3 (codes "S")) ∷ []))) ∷ []))
    ≡ Ok (ListOf 0 [] (MoreStatements
    (AssignmentStatement (SentTo Byte 0 ∷ []) (NumberNode Byte 1 (FromMeasure Last 0 None)))
    NoStatements))
unfolding typing_of built_in_of
last_of_structures = refl

-- DECLARE T(*) BYTE DATA ('ABC', 3), U(*) ADDRESS DATA ('AG', .T);: as many elements as the lists need
abbrev pub implied_item : (line : ℕ) → List ℕ → ItemTypeTree → List RestrictedTree → ElementTree
implied_item line text item_type values =
    ItemElement (record (item_with line text item_type) {
      dimension = Some Implied;
      value_list = Some (record { storage = Data (on_line line); values = values });
    })

abbrev pub location_alone : (line : ℕ) → List ℕ → RestrictedTree
location_alone line text = record { origin = LocationOrigin (name_on line text); offsets = [] }

pub implied_dimensions :
    measured (λ (typed : TypedModule). typed.objects) (module_of (DeclareTree (
    implied_item 2 (codes "T") (ScalarItem Byte)
    (alone (string_on 2 (codes "ABC")) ∷ alone (number_on 2 3) ∷ [])
    ∷ implied_item 2 (codes "U") (ScalarItem Address)
    (alone (string_on 2 (codes "AG")) ∷ location_alone 2 (codes "T") ∷ [])
    ∷ []) ∷ []) [])
    ≡ Ok (
    record {
      name = codes "T";
      dimension = Some 4;
      object_type = ScalarObject Byte;
      home = InConstants (ByteValue 65 ∷ ByteValue 66 ∷ ByteValue 67 ∷ ByteValue 3 ∷ []);
      is_public = false;
      is_parameter = false;
    }
    ∷ record {
      name = codes "U";
      dimension = Some 2;
      object_type = ScalarObject Address;
      home = InConstants (WordValue 16711 ∷ LocationValue 0 0 ∷ []);
      is_public = false;
      is_parameter = false;
    }
    ∷ [])
unfolding typing_of built_in_of
implied_dimensions = refl

-- DECLARE X BYTE DATA (256);
pub value_too_great :
    typing_of (module_of (DeclareTree
    (data_item 2 (codes "X") Byte (alone (number_on 3 256) ∷ []) ∷ []) ∷ []) [])
    ≡ refuse NotByte (on_line 3)
unfolding typing_of built_in_of
value_too_great = refl

-- DECLARE X(65535) ADDRESS;
pub object_too_large :
    typing_of (module_of (DeclareTree (array_item 2 (codes "X") 65535 (ScalarItem Address) ∷ []) ∷ []) [])
    ≡ refuse TooLarge (on_line 2)
unfolding typing_of built_in_of
object_too_large = refl

-- P: PROCEDURE; OUTPUT(0) = 1; END P; Q: PROCEDURE; CALL P; END Q; CALL P; CALL Q;
abbrev pub calls : (line : ℕ) → List ℕ → StatementTree
calls line text = unlabelled (Call (on_line line) (name_on line text) (arguments_of []))

abbrev pub sends : (line port : ℕ) → ExpressionTree → StatementTree
sends line port value = assigns (at_subscript line (codes "OUTPUT") (a_number line port ∷ []) ∷ []) value

abbrev pub two_procedures : ModuleTree
two_procedures = module_of (
    procedure_of (heading_on 2 (codes "P") [] None) [] (sends 2 0 (a_number 2 1) ∷ [])
    ∷ procedure_of (heading_on 3 (codes "Q") [] None) [] (calls 3 (codes "P") ∷ [])
    ∷ [])
    (calls 4 (codes "P") ∷ calls 4 (codes "Q") ∷ [])

pub charges_of_two_procedures : measured charges two_procedures ≡ Ok (12 ∷ 12 ∷ 12 ∷ [])
unfolding typing_of built_in_of charge_of
charges_of_two_procedures = refl

-- three statements in procedures and two in the main program, a target, a number, and two procedures
pub weight_of_two_procedures : measured weight_of two_procedures ≡ Ok 8
unfolding typing_of built_in_of weight_of
weight_of_two_procedures = refl

pub bound_of_two_procedures : measured code_bound two_procedures ≡ Ok 3072
unfolding typing_of built_in_of weight_of code_bound
bound_of_two_procedures = refl

-- ODD: PROCEDURE(N) BYTE EXTERNAL; DECLARE N BYTE; END ODD; EVEN: PROCEDURE(N) BYTE PUBLIC REENTRANT; DECLARE
-- N BYTE; IF N = 0 THEN RETURN 1; RETURN ODD(N - 1); END EVEN; OUTPUT(7) = EVEN(5);
abbrev pub a_parameter : (line : ℕ) → DeclarationTree
a_parameter line = DeclareTree (scalar_item line (codes "N") Byte ∷ [])

abbrev pub odd_heading : HeadingTree
odd_heading = record (heading_on 2 (codes "ODD") (name_on 2 (codes "N") ∷ []) (Some Byte)) {
  linkage = Some (linkages.External (on_line 2));
}

abbrev pub even_heading : HeadingTree
even_heading = record (heading_on 3 (codes "EVEN") (name_on 3 (codes "N") ∷ []) (Some Byte)) {
  linkage = Some (linkages.Public (on_line 3));
  reentrant = Some (on_line 3);
}

abbrev pub even_body : List StatementTree
even_body =
    unlabelled (If (on_line 3)
    (Binary Equal (value_of (plain 3 (codes "N"))) (a_number 3 0))
    (unlabelled (Return (on_line 3) (Some (a_number 3 1))))
    NoElse)
    ∷ unlabelled (Return (on_line 3)
    (Some (value_of (at_subscript 3 (codes "ODD")
    (Binary Subtract (value_of (plain 3 (codes "N"))) (a_number 3 1) ∷ [])))))
    ∷ []

abbrev pub even_module : ModuleTree
even_module = module_of
    (procedure_of odd_heading (a_parameter 2 ∷ []) []
    ∷ procedure_of even_heading (a_parameter 3 ∷ []) even_body
    ∷ [])
    (sends 4 7 (value_of (at_subscript 4 (codes "EVEN") (a_number 4 5 ∷ []))) ∷ [])

-- the charge of ODD is that of its heading alone, as long as its body is another module's
pub charges_of_even : measured charges even_module ≡ Ok (12 ∷ 20 ∷ 16 ∷ [])
unfolding typing_of built_in_of charge_of
charges_of_even = refl

-- ODD 2; EVEN 2, IF 1, its condition 3, RETURN 1 twice, a number 1, the call 1 and its argument 3; main 1, a
-- target 1, the call 1 and its argument 1
pub weight_of_even : measured weight_of even_module ≡ Ok 19
unfolding typing_of built_in_of weight_of
weight_of_even = refl
