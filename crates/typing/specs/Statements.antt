-- Progress through statements, their labels and their places (PL/M-80 Programming Manual, "Statements").
use Rattle.std.specs.Prelude.{ℕ, ◌+◌, List, [], ◌∷◌, ◌++◌, length, map}
use Rattle.trees.specs.declared.identifier.Identifier.{Identifier}
use Rattle.trees.specs.declared.identifier.Place.{Place}
use Rattle.trees.specs.Trees.{ReferenceTree, ReferenceTo, StatementTree, LabelledStatement, StatementKindTree, NullStatement, AssignmentStatement, CallStatement, ReturnStatement, HaltStatement, GotoStatement, IfStatement, DoStatement, LoopStatement, CaseStatement, StatementTrees, NoStatements, MoreStatements}
use Rattle.names.specs.Environment.{Here}
use Rattle.typed_trees.specs.TypedTrees.{TypedExpression, TypedStatement, LabelStatement, AssignmentStatement as TypedAssignment, TypedStatements, MoreStatements as MoreTypedStatements, Constants}
use Rattle.typing.specs.References.{no_place, place_of}
use Rattle.typed_trees.specs.ExpressionTypes.{type_of}
use Rattle.typing.specs.Nodes.{Destination, target_of}
use Rattle.typing.specs.Blocks.{Progress}

-- progress with other meanings of names, or with other constants
abbrev pub with_here : Here → Progress → Progress
with_here here progress = record progress { known = record progress.known { here = here } }

abbrev pub with_constants : Constants → Progress → Progress
with_constants constants progress = record progress { constants = constants }

abbrev pub assigned : List Destination → TypedExpression → TypedStatement
assigned places source =
    TypedAssignment (map (λ (place : Destination). target_of place (type_of source)) places) source

-- the labels before a statement
abbrev pub labels_before : StatementTree → List Identifier
labels_before (LabelledStatement labels kind) = labels

-- the places from one on
abbrev pub places_of : (place : ℕ) → List Identifier → List ℕ
places_of place [] = []
places_of place (label ∷ others) = place ∷ places_of (place + 1) others

-- Where the labels of a list stand, each a statement of its own before the one that it names.
abbrev pub places_from : (place : ℕ) → StatementTrees → List ℕ
places_from place NoStatements = []
places_from place (MoreStatements first others) =
    places_of place (labels_before first) ++ places_from (place + length (labels_before first) + 1) others

-- statements after labels, which are numbered from one on
abbrev pub after_labels : (label : ℕ) → List Identifier → TypedStatements → TypedStatements
after_labels label [] statements = statements
after_labels label (first ∷ others) statements =
    MoreTypedStatements (LabelStatement label) (after_labels (label + 1) others statements)

-- where a statement begins
abbrev pub place_of_targets : List ReferenceTree → Place
place_of_targets [] = no_place
place_of_targets (ReferenceTo name subscripts part ∷ others) = place_of name

abbrev pub place_of_kind : StatementKindTree → Place
place_of_kind (NullStatement place) = place
place_of_kind (AssignmentStatement targets source) = place_of_targets targets
place_of_kind (CallStatement place name trees) = place
place_of_kind (ReturnStatement place result) = place
place_of_kind (HaltStatement place) = place
place_of_kind (GotoStatement place label) = place
place_of_kind (IfStatement place condition body otherwise) = place
place_of_kind (DoStatement place declared body) = place
place_of_kind (LoopStatement place head body) = place
place_of_kind (CaseStatement place choice body) = place

abbrev pub place_of_statement : StatementTree → Place
place_of_statement (LabelledStatement [] kind) = place_of_kind kind
place_of_statement (LabelledStatement (label ∷ others) kind) = place_of label
