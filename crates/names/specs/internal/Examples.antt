-- Small modules, with the bindings of their uses of names, or their first fault. Each is computed.
use Rattle.std.specs.Prelude.{◌≡◌, ℕ, List, [], ◌∷◌, Option, Some, None, codes, refl}
use Rattle.trees.specs.declared.declaration.ScalarType.TheVariants.{Byte}
use Rattle.trees.specs.declared.functions.UnaryFunction.TheVariants.{Low}
use Rattle.trees.specs.declared.identifier.Identifier.{Identifier}
use Rattle.trees.specs.declared.identifier.Place.{Place}
use Rattle.trees.specs.Trees.{ReferenceLeaf, ReferenceTree, ReferenceTo, NoMember, NoArguments, ElementTree, ItemElement, ScalarItem, SingleSubject, StatementTree, LabelledStatement, StatementKindTree, NullStatement, AssignmentStatement, CallStatement, GotoStatement, DoStatement, LoopStatement, WhileHead, StatementTrees, NoStatements, MoreStatements, DeclarationTree, DeclareTree, ProcedureTree, DeclarationTrees, NoDeclarations, MoreDeclarations, ModuleTree}
use Rattle.names.specs.declared.entity.Binding.TheVariants.{Declared, BuiltInName, UnknownLabel}
use Rattle.names.specs.declared.entity.BuiltIn.TheVariants.{Unary}
use Rattle.names.specs.declared.entity.Entity.TheVariants.{Object, Procedure, Label}
use Rattle.names.specs.declared.fault.Fault.TheVariants.{Unknown, DeclaredTwice}
use Rattle.names.specs.internal.Binding.{IsBinding, first_fault}
use Rattle.names.specs.BuiltIns.{built_in_of}
use Rattle.names.specs.internal.Events.{declares, events_of, in_turn, jumps_to, moves, nothing, see_item, uses_of}

-- a place on a line, and a name there
abbrev on_line : ℕ → Place
on_line line = record { start = 0; line = line }

abbrev on : ℕ → List ℕ → Identifier
on line name = record { name = name; place = on_line line }

abbrev alone : ℕ → List ℕ → ReferenceTree
alone line name = ReferenceTo (on line name) NoArguments NoMember

-- target = value;
abbrev assign : ℕ → List ℕ → List ℕ → StatementKindTree
assign line target value = AssignmentStatement (alone line target ∷ []) (ReferenceLeaf (alone line value))

abbrev at : Place
at = record { start = 0; line = 1 }

-- statements, one after another
abbrev lines : List StatementTree → StatementTrees
lines [] = NoStatements
lines (first ∷ others) = MoreStatements first (lines others)

abbrev plain : StatementKindTree → StatementTree
plain kind = LabelledStatement [] kind

abbrev labelled : ℕ → List ℕ → StatementKindTree → StatementTree
labelled line label kind = LabelledStatement (on line label ∷ []) kind

-- DO WHILE A; .. END;
abbrev while_a : ℕ → List StatementTree → StatementTree
while_a line body = plain (LoopStatement at (WhileHead (ReferenceLeaf (alone line (codes "A")))) (lines body))

-- DECLARE name BYTE, or name BASED base BYTE
abbrev variable : ℕ → List ℕ → Option Identifier → ElementTree
variable line name base = ItemElement (record {
  subject = SingleSubject (on line name) base;
  dimension = None;
  item_type = ScalarItem Byte;
  linkage = None;
  at = None;
  value_list = None;
})

abbrev declare : ℕ → List ℕ → DeclarationTree
declare line name = DeclareTree (variable line name None ∷ [])

abbrev declarations : List DeclarationTree → DeclarationTrees
declarations [] = NoDeclarations
declarations (first ∷ others) = MoreDeclarations first (declarations others)

-- a procedure P with these parameters
abbrev procedure : List Identifier → List DeclarationTree → List StatementTree → DeclarationTree
procedure parameters declared body =
    ProcedureTree
    (record { name = on 1 (codes "P"); parameters = parameters; result = None; linkage = None; reentrant = None })
    (declarations declared) (lines body) None

abbrev of_parts : List DeclarationTree → List StatementTree → ModuleTree
of_parts declared body = record {
  name = on 1 (codes "M");
  place = at;
  declarations = declarations declared;
  statements = lines body;
  end_name = None;
}

-- DECLARE A BYTE; DO; DECLARE A BYTE; A = A; END; A = LOW;
-- The inner uses are bound to the inner name, and the built-in procedure is known.
abbrev inner_name : ModuleTree
inner_name =
    of_parts (declare 1 (codes "A") ∷ [])
    (plain (DoStatement at (declarations (declare 2 (codes "A") ∷ [])) (lines (plain (assign 2 (codes "A") (codes "A")) ∷ [])))
    ∷ plain (assign 3 (codes "A") (codes "LOW")) ∷ [])

inner_name-is : IsBinding inner_name (Declared (Object 1) ∷ Declared (Object 1) ∷ Declared (Object 0) ∷ BuiltInName (Unary Low) ∷ [])
unfolding in_turn see_item declares nothing moves jumps_to uses_of built_in_of
inner_name-is = record { faultless = refl; bound = refl }

-- DECLARE A BASED A BYTE; the base is not known yet
abbrev own_base : ModuleTree
own_base = of_parts (DeclareTree (variable 3 (codes "A") (Some (on 3 (codes "A"))) ∷ []) ∷ []) []

own_base-is : first_fault (events_of own_base) ≡ Some (Unknown (on_line 3))
unfolding in_turn see_item declares nothing moves jumps_to uses_of built_in_of
own_base-is = refl

-- DECLARE P BYTE, A BASED P BYTE; the base is known from the end of its element
abbrev base_before : ModuleTree
base_before =
    of_parts (DeclareTree (variable 1 (codes "P") None ∷ variable 1 (codes "A") (Some (on 1 (codes "P"))) ∷ []) ∷ []) []

base_before-is : IsBinding base_before (Declared (Object 0) ∷ [])
unfolding in_turn see_item declares nothing moves jumps_to uses_of built_in_of
base_before-is = record { faultless = refl; bound = refl }

-- GOTO L; DO WHILE A; L: ; END; the label is not known outside its list
abbrev outside_list : ModuleTree
outside_list =
    of_parts (declare 1 (codes "A") ∷ [])
    (plain (GotoStatement at (on 1 (codes "L")))
    ∷ while_a 2 (labelled 2 (codes "L") (NullStatement at) ∷ [])
    ∷ [])

outside_list-is : IsBinding outside_list (UnknownLabel ∷ Declared (Object 0) ∷ [])
unfolding in_turn see_item declares nothing moves jumps_to uses_of built_in_of
outside_list-is = record { faultless = refl; bound = refl }

-- GOTO L; DO WHILE A; GOTO L; END; L: ; it is known in the whole of it and within
abbrev within_list : ModuleTree
within_list =
    of_parts (declare 1 (codes "A") ∷ [])
    (plain (GotoStatement at (on 1 (codes "L")))
    ∷ while_a 2 (plain (GotoStatement at (on 2 (codes "L"))) ∷ [])
    ∷ labelled 3 (codes "L") (NullStatement at)
    ∷ [])

within_list-is : IsBinding within_list (Declared (Label 0) ∷ Declared (Object 0) ∷ Declared (Label 0) ∷ [])
unfolding in_turn see_item declares nothing moves jumps_to uses_of built_in_of
within_list-is = record { faultless = refl; bound = refl }

-- two labels of one name in lists of one body; a label that a simple DO before it declares
abbrev two_labels : ModuleTree
two_labels =
    of_parts (declare 1 (codes "A") ∷ [])
    (while_a 1 (labelled 2 (codes "L") (NullStatement at) ∷ [])
    ∷ labelled 3 (codes "L") (NullStatement at)
    ∷ [])

two_labels-is : first_fault (events_of two_labels) ≡ Some (DeclaredTwice (on_line 3))
unfolding in_turn see_item declares nothing moves jumps_to uses_of built_in_of
two_labels-is = refl

abbrev label_of_a_name : ModuleTree
label_of_a_name =
    of_parts []
    (plain (DoStatement at (declarations (declare 2 (codes "L") ∷ [])) NoStatements)
    ∷ labelled 3 (codes "L") (NullStatement at)
    ∷ [])

label_of_a_name-is : first_fault (events_of label_of_a_name) ≡ Some (DeclaredTwice (on_line 3))
unfolding in_turn see_item declares nothing moves jumps_to uses_of built_in_of
label_of_a_name-is = refl

-- P: PROCEDURE (X); DECLARE X BYTE; P: X = A; CALL P; END P; L: CALL P;
-- The parameter is an object, the label P hides the procedure in its own body, and the outer name is known there.
abbrev with_parameter : ModuleTree
with_parameter =
    of_parts
    (declare 1 (codes "A")
    ∷ procedure (on 2 (codes "X") ∷ []) (declare 3 (codes "X") ∷ [])
    (labelled 4 (codes "P") (assign 4 (codes "X") (codes "A"))
    ∷ plain (CallStatement at (on 5 (codes "P")) NoArguments) ∷ [])
    ∷ [])
    (labelled 6 (codes "L") (CallStatement at (on 6 (codes "P")) NoArguments) ∷ [])

with_parameter-is : IsBinding with_parameter (Declared (Object 1) ∷ Declared (Object 0) ∷ Declared (Label 0) ∷ Declared (Procedure 0) ∷ [])
unfolding in_turn see_item declares nothing moves jumps_to uses_of built_in_of
with_parameter-is = record { faultless = refl; bound = refl }

-- a parameter is not known before its DECLARE, and the module's name is in no scope
abbrev parameter_too_early : ModuleTree
parameter_too_early =
    of_parts (procedure (on 1 (codes "X") ∷ []) [] (plain (assign 2 (codes "X") (codes "X")) ∷ []) ∷ []) []

parameter_too_early-is : first_fault (events_of parameter_too_early) ≡ Some (Unknown (on_line 2))
unfolding in_turn see_item declares nothing moves jumps_to uses_of built_in_of
parameter_too_early-is = refl

abbrev module_name : ModuleTree
module_name = of_parts (declare 1 (codes "A") ∷ []) (plain (assign 2 (codes "A") (codes "M")) ∷ [])

module_name-is : first_fault (events_of module_name) ≡ Some (Unknown (on_line 2))
unfolding in_turn see_item declares nothing moves jumps_to uses_of built_in_of
module_name-is = refl

-- a name twice in one DECLARE comes before a base that is not known
abbrev twice_before_unknown : ModuleTree
twice_before_unknown =
    of_parts (declare 1 (codes "A") ∷ DeclareTree (variable 2 (codes "A") (Some (on 2 (codes "B"))) ∷ []) ∷ []) []

twice_before_unknown-is : first_fault (events_of twice_before_unknown) ≡ Some (DeclaredTwice (on_line 2))
unfolding in_turn see_item declares nothing moves jumps_to uses_of built_in_of
twice_before_unknown-is = refl
