-- Where the labels of lists stand, and the labels to which GOTOs go.
use Rattle.std.specs.Prelude.{◌≡◌, ◌≢◌, ℕ, ◌+◌, ◌<◌, ◌≤◌, List, [], ◌∷◌, ◌++◌, length, flat_map, All, AllPairs, Any}
use Rattle.typed_trees.specs.TypedTrees.{TypedStatement, LabelStatement, NullStatement, AssignmentStatement, CallStatement, MoveStatement, ReturnStatement, HaltStatement, GotoStatement, IfStatement, DoStatement, LoopStatement, CaseStatement, TypedElse, NoElse, ElseStatement, TypedStatements, NoStatements, MoreStatements, TypedList, ListOf, TypedProcedure, TypedModule}

-- the labels of a list: `count` numbers from the first on
pub record LabelsOf : Type 0 where
  pub first : ℕ
  pub count : ℕ

abbrev pub IsAmongLabels : (label : ℕ) → LabelsOf → Type 0
IsAmongLabels label labels = (labels.first ≤ label) × (label < labels.first + labels.count)

abbrev pub labels_of_list : ℕ → List ℕ → LabelsOf
labels_of_list first places = record { first = first; count = length places }

abbrev mutual
  -- each GOTO in a statement goes to a label of one of the lists around it
  pub JumpsStay : (around : List LabelsOf) → TypedStatement → Type 0
  JumpsStay around (LabelStatement label) = Unit {0}
  JumpsStay around NullStatement = Unit {0}
  JumpsStay around (AssignmentStatement targets value) = Unit {0}
  JumpsStay around (CallStatement procedure values) = Unit {0}
  JumpsStay around (MoveStatement count source destination) = Unit {0}
  JumpsStay around (ReturnStatement value) = Unit {0}
  JumpsStay around HaltStatement = Unit {0}
  JumpsStay around (GotoStatement label) = Any (IsAmongLabels label) around
  JumpsStay around (IfStatement condition body otherwise) =
      JumpsStay around body × JumpsStayInElse around otherwise
  JumpsStay around (DoStatement body) = JumpsStayInList around body
  JumpsStay around (LoopStatement head body) = JumpsStayInList around body
  JumpsStay around (CaseStatement choice body) = JumpsStayInStatements around body

  pub JumpsStayInElse : (around : List LabelsOf) → TypedElse → Type 0
  JumpsStayInElse around NoElse = Unit {0}
  JumpsStayInElse around (ElseStatement statement) = JumpsStay around statement

  pub JumpsStayInStatements : (around : List LabelsOf) → TypedStatements → Type 0
  JumpsStayInStatements around NoStatements = Unit {0}
  JumpsStayInStatements around (MoreStatements first others) =
      JumpsStay around first × JumpsStayInStatements around others

  pub JumpsStayInList : (around : List LabelsOf) → TypedList → Type 0
  JumpsStayInList around (ListOf first places statements) =
      JumpsStayInStatements (labels_of_list first places ∷ around) statements

-- no jump leaves a body
abbrev pub IsClosed : TypedList → Type 0
IsClosed body = JumpsStayInList [] body

-- The labels of statements are numbered from one on, and the places are theirs, counted from one on.
abbrev pub LabelsStand : (label place : ℕ) → (places : List ℕ) → TypedStatements → Type 0
LabelsStand label place places NoStatements = places ≡ []
LabelsStand label place [] (MoreStatements (LabelStatement number) others) = ⊥
LabelsStand label place (first ∷ places) (MoreStatements (LabelStatement number) others) =
    (number ≡ label) × (first ≡ place) × LabelsStand (label + 1) (place + 1) places others
LabelsStand label place places (MoreStatements statement others) = LabelsStand label (place + 1) places others

-- a statement that is not a label before another
abbrev pub IsNoLabel : TypedStatement → Type 0
IsNoLabel (LabelStatement label) = ⊥
IsNoLabel statement = Unit {0}

abbrev mutual
  -- The labels of each list in a statement stand where its places say, numbered from its first label on.
  -- Labels stand in lists alone: not after THEN or ELSE, and not in a DO CASE.
  pub ListsStand : TypedStatement → Type 0
  ListsStand (LabelStatement label) = Unit {0}
  ListsStand NullStatement = Unit {0}
  ListsStand (AssignmentStatement targets value) = Unit {0}
  ListsStand (CallStatement procedure values) = Unit {0}
  ListsStand (MoveStatement count source destination) = Unit {0}
  ListsStand (ReturnStatement value) = Unit {0}
  ListsStand HaltStatement = Unit {0}
  ListsStand (GotoStatement label) = Unit {0}
  ListsStand (IfStatement condition body otherwise) =
      IsNoLabel body × ListsStand body × ListsStandInElse otherwise
  ListsStand (DoStatement body) = ListStands body
  ListsStand (LoopStatement head body) = ListStands body
  ListsStand (CaseStatement choice body) = ListsStandInCases body

  pub ListsStandInElse : TypedElse → Type 0
  ListsStandInElse NoElse = Unit {0}
  ListsStandInElse (ElseStatement statement) = IsNoLabel statement × ListsStand statement

  pub ListsStandInCases : TypedStatements → Type 0
  ListsStandInCases NoStatements = Unit {0}
  ListsStandInCases (MoreStatements first others) =
      IsNoLabel first × ListsStand first × ListsStandInCases others

  pub ListsStandInStatements : TypedStatements → Type 0
  ListsStandInStatements NoStatements = Unit {0}
  ListsStandInStatements (MoreStatements first others) = ListsStand first × ListsStandInStatements others

  -- a list itself, and the lists in it
  pub ListStands : TypedList → Type 0
  ListStands (ListOf first places statements) =
      LabelsStand first 0 places statements × ListsStandInStatements statements

-- the body of a procedure is sound: no jump leaves it, and in each list the labels stand where its places say
pub record BodyIsSound (body : TypedList) : Type 0 where
  pub closed : IsClosed body
  pub stands : ListStands body

abbrev mutual
  -- the numbers of the labels in a statement, in the order of the text
  pub labels_in : TypedStatement → List ℕ
  labels_in (LabelStatement label) = label ∷ []
  labels_in NullStatement = []
  labels_in (AssignmentStatement targets value) = []
  labels_in (CallStatement procedure values) = []
  labels_in (MoveStatement count source destination) = []
  labels_in (ReturnStatement value) = []
  labels_in HaltStatement = []
  labels_in (GotoStatement label) = []
  labels_in (IfStatement condition body otherwise) = labels_in body ++ labels_in_else otherwise
  labels_in (DoStatement body) = labels_in_list body
  labels_in (LoopStatement head body) = labels_in_list body
  labels_in (CaseStatement choice body) = labels_in_statements body

  pub labels_in_else : TypedElse → List ℕ
  labels_in_else NoElse = []
  labels_in_else (ElseStatement statement) = labels_in statement

  pub labels_in_statements : TypedStatements → List ℕ
  labels_in_statements NoStatements = []
  labels_in_statements (MoreStatements first others) = labels_in first ++ labels_in_statements others

  pub labels_in_list : TypedList → List ℕ
  labels_in_list (ListOf first places statements) = labels_in_statements statements

abbrev pub labels_in_procedure : TypedProcedure → List ℕ
labels_in_procedure procedure = labels_in_list procedure.body

-- the numbers of all labels of a module
abbrev pub labels_in_module : TypedModule → List ℕ
labels_in_module typed = flat_map labels_in_procedure typed.procedures ++ labels_in_procedure typed.main

-- The bodies of all procedures of a module, and that of its main program, are sound, and no two labels of the
-- module have the same number.
pub record JumpsAreSound (typed : TypedModule) : Type 0 where
  pub procedures : All (λ (procedure : TypedProcedure). BodyIsSound procedure.body) typed.procedures
  pub main : BodyIsSound typed.main.body
  pub labels : AllPairs (λ (one other : ℕ). one ≢ other) (labels_in_module typed)
