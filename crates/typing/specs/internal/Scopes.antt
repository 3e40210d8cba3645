-- Worked values: labels of lists in lists, procedures in blocks, and names that hide others.
use Rattle.std.specs.Prelude.{◌≡◌, ℕ, List, [], ◌∷◌, map, None, Ok, codes, refl}
use Rattle.trees.specs.declared.declaration.ScalarType.TheVariants.{Byte, Address}
use Rattle.trees.specs.Trees.{NullStatement as Null, AssignmentStatement as AssignmentTree, DoStatement as Do, CallStatement as Call, GotoStatement as Goto, LabelledStatement, DeclareTree, ModuleTree}
use Rattle.names.specs.BuiltIns.{built_in_of}
use Rattle.typing.specs.declared.fault.Cause.TheVariants.{UnknownName, NoVariable, UnknownLabel}
use Rattle.typed_trees.specs.declared.parts.NumberOrigin.TheVariants.{FromDigits}
use Rattle.typed_trees.specs.TypedTrees.{NumberNode, ValueNode, ConversionNode, StoredIn, NoArguments, MoreArguments, LabelStatement, NullStatement, AssignmentStatement, CallStatement, DoStatement, NoStatements, MoreStatements, TypedList, ListOf, TypedProcedure, TypedModule}
use Rattle.typing.specs.internal.Checks.{refuse}
use Rattle.typing.specs.internal.Typing.{typing_of}
use Rattle.typing.specs.internal.Samples.{on_line, name_on, a_number, plain, arguments_of, value_of, scalar_item, unlabelled, assigns, forever, typed_forever, statements_of, declarations_of, heading_on, procedure_of, module_of, doing}
use Rattle.typing.specs.internal.Examples.{main_of, whole, does}
use Rattle.typing.specs.internal.Measures.{measured, calls}

-- L: DO WHILE 1; M: ; N: ; END; K: ;: the labels of a list are numbered before those of the lists in it
pub labels_of_lists :
    main_of (module_of [] (
    LabelledStatement (name_on 2 (codes "L") ∷ [])
    (forever 2 (
    LabelledStatement (name_on 3 (codes "M") ∷ []) (Null (on_line 3))
    ∷ LabelledStatement (name_on 3 (codes "N") ∷ []) (Null (on_line 3))
    ∷ []))
    ∷ LabelledStatement (name_on 4 (codes "K") ∷ []) (Null (on_line 4))
    ∷ []))
    ≡ Ok (ListOf 0 (0 ∷ 2 ∷ []) (
    MoreStatements (LabelStatement 0)
    (MoreStatements
    (typed_forever (ListOf 2 (0 ∷ 2 ∷ []) (
    MoreStatements (LabelStatement 2)
    (MoreStatements NullStatement
    (MoreStatements (LabelStatement 3)
    (MoreStatements NullStatement
    NoStatements))))))
    (MoreStatements (LabelStatement 1)
    (MoreStatements NullStatement
    NoStatements)))))
unfolding typing_of built_in_of
labels_of_lists = refl

-- P: PROCEDURE(N); Q: PROCEDURE; CALL P(1); END Q; DECLARE N ADDRESS; END P;
-- the type of N is known before its declaration is reached
abbrev pub early_call : ModuleTree
early_call = module_of
    (procedure_of (heading_on 2 (codes "P") (name_on 2 (codes "N") ∷ []) None)
    (procedure_of (heading_on 3 (codes "Q") [] None) []
    (unlabelled (Call (on_line 3) (name_on 3 (codes "P")) (arguments_of (a_number 3 1 ∷ []))) ∷ [])
    ∷ DeclareTree (scalar_item 4 (codes "N") Address ∷ [])
    ∷ [])
    []
    ∷ [])
    []

abbrev pub bodies : TypedModule → List TypedList
bodies typed = map (λ (procedure : TypedProcedure). procedure.body) typed.procedures

pub bodies_of_early_call :
    measured bodies early_call
    ≡ Ok (
    ListOf 0 [] NoStatements
    ∷ ListOf 0 [] (MoreStatements
    (CallStatement 0 (MoreArguments (ConversionNode Address (NumberNode Byte 1 FromDigits)) NoArguments))
    NoStatements)
    ∷ [])
unfolding typing_of built_in_of
bodies_of_early_call = refl

abbrev pub parameters : TypedModule → List (List ℕ)
parameters typed = map (λ (procedure : TypedProcedure). procedure.parameters) typed.procedures

pub parameters_of_early_call : measured parameters early_call ≡ Ok ((0 ∷ []) ∷ [] ∷ [])
unfolding typing_of built_in_of
parameters_of_early_call = refl

-- DO; DECLARE A ADDRESS; A = 1; END;: the inner A hides the outer one
pub hidden :
    main_of (doing (unlabelled (Do (on_line 3)
    (declarations_of (DeclareTree (scalar_item 3 (codes "A") Address ∷ []) ∷ []))
    (statements_of (assigns (plain 3 (codes "A") ∷ []) (a_number 3 1) ∷ []))) ∷ []))
    ≡ does (DoStatement (ListOf 0 [] (MoreStatements
    (AssignmentStatement (StoredIn Byte Address (whole 4) ∷ []) (NumberNode Byte 1 FromDigits))
    NoStatements)))
unfolding typing_of built_in_of
hidden = refl

-- DO; P: PROCEDURE; END P; END; CALL P;: a name is known in its own block alone
pub outside_of_its_block :
    main_of (module_of [] (
    unlabelled (Do (on_line 2)
    (declarations_of (procedure_of (heading_on 2 (codes "P") [] None) [] [] ∷ [])) (statements_of []))
    ∷ calls 3 (codes "P")
    ∷ []))
    ≡ refuse UnknownName (on_line 3)
unfolding typing_of built_in_of
outside_of_its_block = refl

-- DECLARE LOW BYTE; LOW = LOW;: a declaration hides a built-in procedure
pub hidden_built_in :
    main_of (module_of (DeclareTree (scalar_item 2 (codes "LOW") Byte ∷ []) ∷ [])
    (assigns (plain 3 (codes "LOW") ∷ []) (value_of (plain 3 (codes "LOW"))) ∷ []))
    ≡ does (AssignmentStatement (StoredIn Byte Byte (whole 0) ∷ []) (ValueNode Byte (whole 0)))
unfolding typing_of built_in_of
hidden_built_in = refl

-- P: PROCEDURE; GOTO L; END P; L: ;: a label is known in its own body alone
pub jump_out_of_a_procedure :
    main_of (module_of
    (procedure_of (heading_on 2 (codes "P") [] None) []
    (unlabelled (Goto (on_line 2) (name_on 2 (codes "L"))) ∷ []) ∷ [])
    (LabelledStatement (name_on 3 (codes "L") ∷ []) (Null (on_line 3)) ∷ []))
    ≡ refuse UnknownLabel (on_line 2)
unfolding typing_of built_in_of
jump_out_of_a_procedure = refl

-- L: A = L;: a label has no value
pub label_as_value :
    main_of (doing (LabelledStatement (name_on 3 (codes "L") ∷ [])
    (AssignmentTree (plain 3 (codes "A") ∷ []) (value_of (plain 4 (codes "L")))) ∷ []))
    ≡ refuse NoVariable (on_line 4)
unfolding typing_of built_in_of
label_as_value = refl
