-- The names that parts of a text declare.
use Rattle.std.specs.Prelude.{List, [], ◌∷◌, ◌++◌}
use Rattle.trees.specs.declared.identifier.Identifier.{Identifier}
use Rattle.trees.specs.Trees.{LabelledStatement, StatementTrees, NoStatements, MoreStatements, SubjectTree, SingleSubject, GroupSubject}

-- the names that an item declares
abbrev pub declared_by : SubjectTree → List Identifier
declared_by (SingleSubject name base) = name ∷ []
declared_by (GroupSubject names) = names

-- the labels of the statements of a list
abbrev pub labels_of : StatementTrees → List Identifier
labels_of NoStatements = []
labels_of (MoreStatements (LabelledStatement labels kind) others) = labels ++ labels_of others
