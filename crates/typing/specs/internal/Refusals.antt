-- Worked values: declarations and procedures that are refused, and frames.
use Rattle.std.specs.Prelude.{◌≡◌, ℕ, List, [], ◌∷◌, None, Some, Ok, codes, refl}
use Rattle.trees.specs.declared.declaration.Linkage.TheVariants.{Public, External}
use Rattle.trees.specs.declared.declaration.ScalarType.TheVariants.{Byte, Address}
use Rattle.trees.specs.declared.declaration.Storage.TheVariants.{Initial}
use Rattle.trees.specs.declared.expression.BinaryOperator.TheVariants.{Add, Subtract, Equal}
use Rattle.trees.specs.Trees.{ExpressionTree, LocationLeaf, ReferenceTree, BinaryNode as Binary, ScalarItem, SingleSubject, ElementTree, ItemElement, HeadingTree, NullStatement as Null, ReturnStatement as Return, IfStatement as If, NoElse, DeclareTree, ModuleTree}
use Rattle.names.specs.BuiltIns.{built_in_of}
use Rattle.typing.specs.declared.fault.Cause.TheVariants.{UnknownName, DeclaredTwice, ParameterNotScalar, ParameterNotDeclared, NoBase, MisplacedLinkage, MisplacedValues, ExternalContents, ZeroDimension, NoLocation, TooLarge}
use Rattle.typed_trees.specs.TypedTrees.{BasedOn, InData, InFrame}
use Rattle.typing.specs.internal.Checks.{refuse}
use Rattle.typed_trees.specs.Charge.{charge_of}
use Rattle.typing.specs.internal.Typing.{typing_of}
use Rattle.typing.specs.internal.Samples.{on_line, name_on, number_on, a_number, plain, at_subscript, value_of, item_with, scalar_item, array_item, alone, unlabelled, assigns, heading_on, procedure_of, module_of}
use Rattle.typing.specs.internal.Measures.{measured, charges, homes, a_parameter, sends}

abbrev pub based_item : (line : ℕ) → (name base : List ℕ) → ElementTree
based_item line name base =
    ItemElement (record (item_with line name (ScalarItem Byte)) {
      subject = SingleSubject (name_on line name) (Some (name_on line base));
    })

abbrev pub initial_byte : (line : ℕ) → List ℕ → ElementTree
initial_byte line name =
    ItemElement (record (item_with line name (ScalarItem Byte)) {
      value_list = Some (record { storage = Initial (on_line line); values = alone (number_on line 1) ∷ [] });
    })

abbrev pub declares : List ElementTree → ModuleTree
declares elements = module_of (DeclareTree elements ∷ []) []

-- a procedure P(N) with such a heading
abbrev pub heading_p : HeadingTree
heading_p = heading_on 3 (codes "P") (name_on 3 (codes "N") ∷ []) None

abbrev pub reentrant_p : HeadingTree
reentrant_p = record heading_p { reentrant = Some (on_line 3) }

-- DECLARE P ADDRESS, X BASED P BYTE;
pub based_on_address :
    measured homes (declares (scalar_item 2 (codes "P") Address ∷ based_item 2 (codes "X") (codes "P") ∷ []))
    ≡ Ok (InData [] ∷ BasedOn 0 ∷ [])
unfolding typing_of built_in_of
based_on_address = refl

-- DECLARE P BYTE, X BASED P BYTE;: a base is an ADDRESS
pub base_of_a_byte :
    typing_of (declares (scalar_item 2 (codes "P") Byte ∷ based_item 3 (codes "X") (codes "P") ∷ []))
    ≡ refuse NoBase (on_line 3)
unfolding typing_of built_in_of
base_of_a_byte = refl

-- DECLARE X BASED X BYTE;: a name is known from the end of its element on
pub base_of_itself : typing_of (declares (based_item 2 (codes "X") (codes "X") ∷ [])) ≡ refuse UnknownName (on_line 2)
unfolding typing_of built_in_of
base_of_itself = refl

-- DECLARE X(0) BYTE;
pub no_elements :
    typing_of (declares (array_item 2 (codes "X") 0 (ScalarItem Byte) ∷ [])) ≡ refuse ZeroDimension (on_line 2)
unfolding typing_of built_in_of
no_elements = refl

-- P: PROCEDURE(N); END P;: a parameter that is not declared
pub undeclared_parameter : typing_of (module_of (procedure_of heading_p [] [] ∷ []) []) ≡ refuse ParameterNotDeclared (on_line 3)
unfolding typing_of built_in_of
undeclared_parameter = refl

-- P: PROCEDURE(N); DECLARE N(2) BYTE; END P;
pub parameter_array :
    typing_of (module_of (procedure_of heading_p
    (DeclareTree (array_item 4 (codes "N") 2 (ScalarItem Byte) ∷ []) ∷ []) [] ∷ []) [])
    ≡ refuse ParameterNotScalar (on_line 4)
unfolding typing_of built_in_of
parameter_array = refl

-- P: PROCEDURE(N); DECLARE N BYTE; DECLARE N BYTE; END P;
pub parameter_twice :
    typing_of (module_of (procedure_of heading_p (a_parameter 4 ∷ a_parameter 5 ∷ []) [] ∷ []) [])
    ≡ refuse DeclaredTwice (on_line 5)
unfolding typing_of built_in_of
parameter_twice = refl

-- Q: PROCEDURE; P: PROCEDURE(N) PUBLIC; DECLARE N BYTE; END P; END Q;
pub nested_public :
    typing_of (module_of (procedure_of (heading_on 2 (codes "Q") [] None)
    (procedure_of (record heading_p { linkage = Some (Public (on_line 3)) }) (a_parameter 4 ∷ []) [] ∷ [])
    [] ∷ []) [])
    ≡ refuse MisplacedLinkage (on_line 3)
unfolding typing_of built_in_of
nested_public = refl

-- P: PROCEDURE(N) REENTRANT; DECLARE N BYTE, A BYTE INITIAL (1); END P;
pub initial_in_a_frame :
    typing_of (module_of (procedure_of reentrant_p
    (a_parameter 4 ∷ DeclareTree (initial_byte 5 (codes "A") ∷ []) ∷ []) [] ∷ []) [])
    ≡ refuse MisplacedValues (on_line 5)
unfolding typing_of built_in_of
initial_in_a_frame = refl

-- P: PROCEDURE(N) EXTERNAL; DECLARE N BYTE; ; END P;
pub statement_in_an_external :
    typing_of (module_of (procedure_of (record heading_p { linkage = Some (External (on_line 3)) })
    (a_parameter 4 ∷ [])
    (unlabelled (Null (on_line 5)) ∷ []) ∷ []) [])
    ≡ refuse ExternalContents (on_line 5)
unfolding typing_of built_in_of
statement_in_an_external = refl

-- P: PROCEDURE(N) EXTERNAL; DECLARE N BYTE, A BYTE; END P;
pub variable_in_an_external :
    typing_of (module_of (procedure_of (record heading_p { linkage = Some (External (on_line 3)) })
    (DeclareTree (scalar_item 4 (codes "N") Byte ∷ scalar_item 5 (codes "A") Byte ∷ []) ∷ []) [] ∷ []) [])
    ≡ refuse ExternalContents (on_line 5)
unfolding typing_of built_in_of
variable_in_an_external = refl

-- P: PROCEDURE(N) REENTRANT; DECLARE N BYTE, W ADDRESS; W = .N; END P;
pub location_in_a_frame :
    typing_of (module_of (procedure_of reentrant_p
    (DeclareTree (scalar_item 4 (codes "N") Byte ∷ scalar_item 4 (codes "W") Address ∷ []) ∷ [])
    (assigns (plain 5 (codes "W") ∷ []) (LocationLeaf (plain 5 (codes "N"))) ∷ []) ∷ []) [])
    ≡ refuse NoLocation (on_line 5)
unfolding typing_of built_in_of
location_in_a_frame = refl

-- P: PROCEDURE(N) REENTRANT; DECLARE N BYTE, A(1024) BYTE, B BYTE; END P;
pub frame_too_large :
    typing_of (module_of (procedure_of reentrant_p
    (DeclareTree (scalar_item 4 (codes "N") Byte ∷ array_item 4 (codes "A") 1024 (ScalarItem Byte)
    ∷ scalar_item 5 (codes "B") Byte ∷ []) ∷ [])
    [] ∷ []) [])
    ≡ refuse TooLarge (on_line 5)
unfolding typing_of built_in_of
frame_too_large = refl

-- G: PROCEDURE(N) BYTE REENTRANT; DECLARE N BYTE, S(3) BYTE; S(N) = 7; IF N = 0 THEN RETURN S(0) + S(1);
-- RETURN G(N - 1) + S(N); END G; OUTPUT(0) = G(2);
abbrev pub element : (line : ℕ) → ExpressionTree → ReferenceTree
element line index = at_subscript line (codes "S") (index ∷ [])

abbrev pub n_value : ExpressionTree
n_value = value_of (plain 4 (codes "N"))

abbrev pub recursive : ModuleTree
recursive = module_of
    (procedure_of
    (record (heading_on 3 (codes "G") (name_on 3 (codes "N") ∷ []) (Some Byte))
    { reentrant = Some (on_line 3) })
    (DeclareTree (scalar_item 4 (codes "N") Byte ∷ array_item 4 (codes "S") 3 (ScalarItem Byte) ∷ []) ∷ [])
    (assigns (element 4 n_value ∷ []) (a_number 4 7)
    ∷ unlabelled (If (on_line 4) (Binary Equal n_value (a_number 4 0))
    (unlabelled (Return (on_line 4)
    (Some (Binary Add (value_of (element 4 (a_number 4 0))) (value_of (element 4 (a_number 4 1)))))))
    NoElse)
    ∷ unlabelled (Return (on_line 4)
    (Some (Binary Add
    (value_of (at_subscript 4 (codes "G") (Binary Subtract n_value (a_number 4 1) ∷ [])))
    (value_of (element 4 n_value)))))
    ∷ [])
    ∷ [])
    (sends 5 0 (value_of (at_subscript 5 (codes "G") (a_number 5 2 ∷ []))) ∷ [])

pub recursive_homes : measured homes recursive ≡ Ok (InFrame 0 ∷ InFrame 0 ∷ [])
unfolding typing_of built_in_of
recursive_homes = refl

-- one parameter, three bytes of S, and a height of 5: 10 + 2 + 3 + 10
pub recursive_charges : measured charges recursive ≡ Ok (25 ∷ 16 ∷ [])
unfolding typing_of built_in_of charge_of
recursive_charges = refl
