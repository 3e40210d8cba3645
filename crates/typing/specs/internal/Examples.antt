-- Worked values of the typing: expressions, statements and refusals.
use Rattle.std.specs.Prelude.{◌≡◌, ℕ, [], ◌∷◌, None, Ok, codes, refl}
use Rattle.trees.specs.declared.declaration.ScalarType.TheVariants.{Byte, Address}
use Rattle.trees.specs.declared.expression.BinaryOperator.TheVariants.{Add, Multiply}
use Rattle.trees.specs.declared.expression.UnaryOperator.TheVariants.{Negate}
use Rattle.trees.specs.Trees.{ConstantLeaf, LocationLeaf, ListLeaf, UnaryNode as Unary, BinaryNode as Binary, LabelledStatement, NullStatement as Null, AssignmentStatement as AssignmentTree, GotoStatement as Goto, CaseStatement as Case, ModuleTree, DeclareTree}
use Rattle.names.specs.BuiltIns.{built_in_of}
use Rattle.typing.specs.declared.fault.Cause.TheVariants.{UnknownName, DeclaredTwice, SubscriptMismatch, PortTooLarge, ConstantWritten, MisplacedLabel, UnknownLabel}
use Rattle.typed_trees.specs.declared.parts.NumberOrigin.TheVariants.{FromDigits}
use Rattle.typed_trees.specs.TypedTrees.{NumberNode, ValueNode, LocationNode, ListNode, ConversionNode, UnaryNode, BinaryNode, InputNode, TypedReference, PartOf, NoSubscript, At, StoredIn, SentTo, TypedStatement, LabelStatement, NullStatement, AssignmentStatement, GotoStatement, NoStatements, MoreStatements, TypedList, ListOf, TypedModule}
use Rattle.typing.specs.internal.Checks.{Checked, ◌>>=◌, refuse}
use Rattle.typing.specs.internal.Typing.{typing_of}
use Rattle.typing.specs.internal.Samples.{on_line, name_on, number_on, string_on, a_number, plain, at_subscript, value_of, scalar_item, unlabelled, assigns, forever, statements_of, module_of, doing}

-- the statements of the main program of a module
abbrev pub main_of : ModuleTree → Checked TypedList
main_of tree = typing_of tree >>= (λ (typed : TypedModule). Ok typed.main.body)

-- objects as a whole: A is the first, W the second, V the third and K the fourth
abbrev pub whole : ℕ → TypedReference
whole object = PartOf object NoSubscript None 0 NoSubscript

abbrev pub does : TypedStatement → Checked TypedList
does statement = Ok (ListOf 0 [] (MoreStatements statement NoStatements))

-- A, W = 300: each target converts the value itself
pub two_targets :
    main_of (doing (assigns (plain 3 (codes "A") ∷ plain 3 (codes "W") ∷ []) (a_number 3 300) ∷ []))
    ≡ does (AssignmentStatement
    (StoredIn Address Byte (whole 0) ∷ StoredIn Address Address (whole 1) ∷ [])
    (NumberNode Address 300 FromDigits))
unfolding typing_of built_in_of
two_targets = refl

-- W = -1: the minus sign works on a BYTE, and zeros are added as the value is stored
pub minus_one :
    main_of (doing (assigns (plain 3 (codes "W") ∷ []) (Unary Negate (a_number 3 1)) ∷ []))
    ≡ does (AssignmentStatement
    (StoredIn Byte Address (whole 1) ∷ [])
    (UnaryNode Byte Negate (NumberNode Byte 1 FromDigits)))
unfolding typing_of built_in_of
minus_one = refl

-- A = V(A) * 2: a subscript is an ADDRESS, and so are the sides of a product
pub product :
    main_of (doing (assigns (plain 3 (codes "A") ∷ [])
    (Binary Multiply (value_of (at_subscript 3 (codes "V") (value_of (plain 3 (codes "A")) ∷ [])))
    (a_number 3 2)) ∷ []))
    ≡ does (AssignmentStatement
    (StoredIn Address Byte (whole 0) ∷ [])
    (BinaryNode Address Multiply
    (ConversionNode Address (ValueNode Byte
    (PartOf 2 (At 1 2 (ConversionNode Address (ValueNode Byte (whole 0)))) None 0 NoSubscript)))
    (ConversionNode Address (NumberNode Byte 2 FromDigits))))
unfolding typing_of built_in_of
product = refl

-- OUTPUT(1) = INPUT('A') + .V, W = .(1, 300): ports are numbers or strings of one character; lists are
-- numbered
pub ports_as_numbers :
    main_of (doing (assigns (at_subscript 3 (codes "OUTPUT") (a_number 3 1 ∷ []) ∷ [])
    (Binary Add
    (value_of (at_subscript 3 (codes "INPUT") (ConstantLeaf (string_on 3 (codes "A")) ∷ [])))
    (LocationLeaf (plain 3 (codes "V")))) ∷ []))
    ≡ does (AssignmentStatement
    (SentTo Address 1 ∷ [])
    (BinaryNode Address Add (ConversionNode Address (InputNode 65)) (LocationNode (whole 2))))
unfolding typing_of built_in_of
ports_as_numbers = refl

pub list_of_constants :
    main_of (doing (assigns (plain 3 (codes "W") ∷ [])
    (ListLeaf (number_on 3 1 ∷ number_on 3 300 ∷ [])) ∷ []))
    ≡ does (AssignmentStatement (StoredIn Address Address (whole 1) ∷ []) (ListNode 0))
unfolding typing_of built_in_of
list_of_constants = refl

-- ; L: A = 1; GOTO L;: a label is a statement before the one that it names
pub goto_of_label :
    main_of (doing (
    unlabelled (Null (on_line 3))
    ∷ LabelledStatement (name_on 3 (codes "L") ∷ [])
    (AssignmentTree (plain 3 (codes "A") ∷ []) (a_number 3 1))
    ∷ unlabelled (Goto (on_line 3) (name_on 3 (codes "L")))
    ∷ []))
    ≡ Ok (ListOf 0 (1 ∷ []) (
    MoreStatements NullStatement
    (MoreStatements (LabelStatement 0)
    (MoreStatements (AssignmentStatement (StoredIn Byte Byte (whole 0) ∷ []) (NumberNode Byte 1 FromDigits))
    (MoreStatements (GotoStatement 0)
    NoStatements)))))
unfolding typing_of built_in_of
goto_of_label = refl

-- A = V: an array without a subscript has no value
pub array_as_value :
    main_of (doing (assigns (plain 3 (codes "A") ∷ []) (value_of (plain 3 (codes "V"))) ∷ []))
    ≡ refuse SubscriptMismatch (on_line 3)
unfolding typing_of built_in_of
array_as_value = refl

-- Z = 1: a name that is not declared; the name of the module is in no scope
pub unknown : main_of (doing (assigns (plain 3 (codes "M") ∷ []) (a_number 3 1) ∷ [])) ≡ refuse UnknownName (on_line 3)
unfolding typing_of built_in_of
unknown = refl

-- K = 1, where K has DATA
pub written :
    main_of (doing (assigns (plain 3 (codes "K") ∷ []) (a_number 3 1) ∷ [])) ≡ refuse ConstantWritten (on_line 3)
unfolding typing_of built_in_of
written = refl

-- OUTPUT(256) = 1
pub port_too_great :
    main_of (doing (assigns (at_subscript 3 (codes "OUTPUT") (a_number 4 256 ∷ []) ∷ []) (a_number 3 1) ∷ []))
    ≡ refuse PortTooLarge (on_line 4)
unfolding typing_of built_in_of
port_too_great = refl

-- GOTO L; DO WHILE 1; L: ; END;: L is known in its list alone
pub jump_into_a_loop :
    main_of (doing (
    unlabelled (Goto (on_line 3) (name_on 3 (codes "L")))
    ∷ unlabelled (forever 4 (LabelledStatement (name_on 5 (codes "L") ∷ []) (Null (on_line 5)) ∷ []))
    ∷ []))
    ≡ refuse UnknownLabel (on_line 3)
unfolding typing_of built_in_of
jump_into_a_loop = refl

-- DO CASE 0; L: ; END;
pub label_in_a_case :
    main_of (doing (
    unlabelled (Case (on_line 3) (a_number 3 0)
    (statements_of (LabelledStatement (name_on 4 (codes "L") ∷ []) (Null (on_line 4)) ∷ [])))
    ∷ []))
    ≡ refuse MisplacedLabel (on_line 4)
unfolding typing_of built_in_of
label_in_a_case = refl

-- A: ;, where A is declared
pub label_named_as_a_variable :
    main_of (doing (LabelledStatement (name_on 3 (codes "A") ∷ []) (Null (on_line 3)) ∷ []))
    ≡ refuse DeclaredTwice (on_line 3)
unfolding typing_of built_in_of
label_named_as_a_variable = refl

-- DECLARE A BYTE; DECLARE A BYTE;
pub declared_twice :
    typing_of (module_of (
    DeclareTree (scalar_item 2 (codes "A") Byte ∷ []) ∷ DeclareTree
    (scalar_item 3 (codes "A") Byte ∷ []) ∷ []) [])
    ≡ refuse DeclaredTwice (on_line 3)
unfolding typing_of built_in_of
declared_twice = refl
