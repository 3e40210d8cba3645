-- The names that expressions and items use, in the order of the text. Names of members and names after END are not
-- uses.
use Rattle.std.specs.Prelude.{List, [], ◌∷◌, ◌++◌, Option, Some, None}
use Rattle.std.specs.List.{flat_map}
use Rattle.trees.specs.declared.identifier.Identifier.{Identifier}
use Rattle.trees.specs.Trees.{ExpressionTree, ConstantLeaf, ReferenceLeaf, LocationLeaf, ListLeaf, ParenthesizedNode, AssignmentNode, UnaryNode, BinaryNode, ReferenceTree, ReferenceTo, MemberTree, NoMember, MemberOf, ArgumentTrees, NoArguments, MoreArguments, OriginTree, ConstantOrigin, LocationOrigin, RestrictedTree, SubjectTree, SingleSubject, GroupSubject, AtTree, ValueListTree, ItemTree, IterationTree, LoopHeadTree, of_loop_head}

abbrev mutual
  pub names_in_expression : ExpressionTree → List Identifier
  names_in_expression (ConstantLeaf constant) = []
  names_in_expression (ReferenceLeaf reference) = names_in_reference reference
  names_in_expression (LocationLeaf reference) = names_in_reference reference
  names_in_expression (ListLeaf constants) = []
  names_in_expression (ParenthesizedNode inner) = names_in_expression inner
  names_in_expression (AssignmentNode target value) = names_in_reference target ++ names_in_expression value
  names_in_expression (UnaryNode operator operand) = names_in_expression operand
  names_in_expression (BinaryNode operator left right) = names_in_expression left ++ names_in_expression right

  pub names_in_reference : ReferenceTree → List Identifier
  names_in_reference (ReferenceTo name arguments member) =
      name ∷ names_in_arguments arguments ++ names_in_member member

  pub names_in_member : MemberTree → List Identifier
  names_in_member NoMember = []
  names_in_member (MemberOf name arguments) = names_in_arguments arguments

  pub names_in_arguments : ArgumentTrees → List Identifier
  names_in_arguments NoArguments = []
  names_in_arguments (MoreArguments first others) = names_in_expression first ++ names_in_arguments others

-- of something that may be left out
abbrev pub names_in_optional : {A : Type 0} → (A → List Identifier) → Option A → List Identifier
names_in_optional names None = []
names_in_optional names (Some a) = names a

-- the bounds and the step of an iterative DO
abbrev pub names_in_bounds : IterationTree → List Identifier
names_in_bounds iteration =
    names_in_expression iteration.first ++ names_in_expression iteration.last
    ++ names_in_optional names_in_expression iteration.step

-- the variable of an iterative DO, and then the bounds and the step
abbrev pub names_in_iteration : IterationTree → List Identifier
names_in_iteration iteration = iteration.variable ∷ names_in_bounds iteration

-- the head of a loop
abbrev pub names_in_head : LoopHeadTree → List Identifier
names_in_head = of_loop_head names_in_expression names_in_iteration

-- a constant, or the name of the located object
abbrev pub names_in_origin : OriginTree → List Identifier
names_in_origin (ConstantOrigin constant) = []
names_in_origin (LocationOrigin name) = name ∷ []

abbrev pub names_in_restricted : RestrictedTree → List Identifier
names_in_restricted restricted = names_in_origin restricted.origin

-- the name after BASED
abbrev pub names_in_subject : SubjectTree → List Identifier
names_in_subject (SingleSubject name None) = []
names_in_subject (SingleSubject name (Some base)) = base ∷ []
names_in_subject (GroupSubject names) = []

-- an item: BASED, AT, and the list of INITIAL or DATA
abbrev pub names_in_item : ItemTree → List Identifier
names_in_item item =
    names_in_subject item.subject
    ++ names_in_optional (λ (at : AtTree). names_in_restricted at.address) item.at
    ++ names_in_optional (λ (list : ValueListTree). flat_map names_in_restricted list.values) item.value_list
