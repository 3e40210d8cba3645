-- Trees of small texts, for worked values.
use Rattle.std.specs.Prelude.{ℕ, List, [], ◌∷◌, Option, None, Some, codes}
use Rattle.trees.specs.declared.declaration.Dimension.TheVariants.{Count}
use Rattle.trees.specs.declared.declaration.ScalarType.{ScalarType}
use Rattle.trees.specs.declared.declaration.ScalarType.TheVariants.{Byte, Address}
use Rattle.trees.specs.declared.declaration.Storage.TheVariants.{Data}
use Rattle.trees.specs.declared.identifier.Identifier.{Identifier}
use Rattle.trees.specs.declared.identifier.Place.{Place}
use Rattle.trees.specs.Trees.{ConstantTree, NumberConstant, StringConstant, ExpressionTree, ConstantLeaf, ReferenceLeaf, ReferenceTree, ReferenceTo, NoMember, ArgumentTrees, NoArguments, MoreArguments, ConstantOrigin, RestrictedTree, ItemTypeTree, ScalarItem, SingleSubject, ItemTree, ElementTree, ItemElement, HeadingTree, WhileHead, StatementTree, LabelledStatement, StatementKindTree, AssignmentStatement, LoopStatement, StatementTrees, NoStatements, MoreStatements, DeclarationTree, DeclareTree, ProcedureTree, DeclarationTrees, NoDeclarations, MoreDeclarations, ModuleTree}
use Rattle.typed_trees.specs.declared.parts.NumberOrigin.TheVariants.{FromDigits}
use Rattle.typed_trees.specs.TypedTrees.{NumberNode, WhileHead as TypedWhile, TypedStatement, LoopStatement as TypedLoop, TypedList}

-- a place on a line
abbrev pub on_line : ℕ → Place
on_line line = record { start = 0; line = line }

-- a name on a line
abbrev pub name_on : (line : ℕ) → List ℕ → Identifier
name_on line text = record { name = text; place = on_line line }

abbrev pub number_on : (line : ℕ) → ℕ → ConstantTree
number_on line value = NumberConstant (record { value = value; place = on_line line })

abbrev pub string_on : (line : ℕ) → List ℕ → ConstantTree
string_on line characters = StringConstant (record { characters = characters; place = on_line line })

abbrev pub a_number : (line : ℕ) → ℕ → ExpressionTree
a_number line value = ConstantLeaf (number_on line value)

-- a name alone, and a name with arguments
abbrev pub plain : (line : ℕ) → List ℕ → ReferenceTree
plain line text = ReferenceTo (name_on line text) NoArguments NoMember

abbrev pub arguments_of : List ExpressionTree → ArgumentTrees
arguments_of [] = NoArguments
arguments_of (first ∷ others) = MoreArguments first (arguments_of others)

abbrev pub at_subscript : (line : ℕ) → List ℕ → List ExpressionTree → ReferenceTree
at_subscript line text given = ReferenceTo (name_on line text) (arguments_of given) NoMember

-- a name with a type, without attributes
abbrev pub item_with : (line : ℕ) → List ℕ → ItemTypeTree → ItemTree
item_with line text item_type = record {
  subject = SingleSubject (name_on line text) None;
  dimension = None;
  item_type = item_type;
  linkage = None;
  at = None;
  value_list = None;
}

abbrev pub scalar_item : (line : ℕ) → List ℕ → ScalarType → ElementTree
scalar_item line text scalar = ItemElement (item_with line text (ScalarItem scalar))

abbrev pub statements_of : List StatementTree → StatementTrees
statements_of [] = NoStatements
statements_of (first ∷ others) = MoreStatements first (statements_of others)

abbrev pub declarations_of : List DeclarationTree → DeclarationTrees
declarations_of [] = NoDeclarations
declarations_of (first ∷ others) = MoreDeclarations first (declarations_of others)

-- a statement without labels
abbrev pub unlabelled : StatementKindTree → StatementTree
unlabelled kind = LabelledStatement [] kind

-- a statement that assigns a value to targets
abbrev pub assigns : List ReferenceTree → ExpressionTree → StatementTree
assigns targets value = unlabelled (AssignmentStatement targets value)

-- DO WHILE 1, and what it is as a typed statement
abbrev pub forever : (line : ℕ) → List StatementTree → StatementKindTree
forever line done = LoopStatement (on_line line) (WhileHead (a_number line 1)) (statements_of done)

abbrev pub typed_forever : TypedList → TypedStatement
typed_forever body = TypedLoop (TypedWhile (NumberNode Byte 1 FromDigits)) body

-- a module M of these declarations and statements
abbrev pub module_of : List DeclarationTree → List StatementTree → ModuleTree
module_of declared done = record {
  name = name_on 1 (codes "M");
  place = on_line 1;
  declarations = declarations_of declared;
  statements = statements_of done;
  end_name = None;
}

-- DECLARE A BYTE, W ADDRESS, V(2) BYTE, K BYTE DATA (3)
abbrev pub array_item : (line : ℕ) → List ℕ → (count : ℕ) → ItemTypeTree → ElementTree
array_item line text count item_type =
    ItemElement (record (item_with line text item_type) {
      dimension = Some (Count (record { value = count; place = on_line line }));
    })

-- a constant alone in a list
abbrev pub alone : ConstantTree → RestrictedTree
alone constant = record { origin = ConstantOrigin constant; offsets = [] }

abbrev pub data_item : (line : ℕ) → List ℕ → ScalarType → List RestrictedTree → ElementTree
data_item line text scalar values =
    ItemElement (record (item_with line text (ScalarItem scalar)) {
      value_list = Some (record { storage = Data (on_line line); values = values });
    })

abbrev pub four_objects : DeclarationTree
four_objects = DeclareTree (
    scalar_item 2 (codes "A") Byte
    ∷ scalar_item 2 (codes "W") Address
    ∷ array_item 2 (codes "V") 2 (ScalarItem Byte)
    ∷ data_item 2 (codes "K") Byte (alone (number_on 2 3) ∷ [])
    ∷ [])

-- a module that declares these and does something
abbrev pub doing : List StatementTree → ModuleTree
doing done = module_of (four_objects ∷ []) done

-- the heading of a procedure with one parameter
abbrev pub heading_on : (line : ℕ) → List ℕ → (parameters : List Identifier) → Option ScalarType → HeadingTree
heading_on line text parameters result = record {
  name = name_on line text;
  parameters = parameters;
  result = result;
  linkage = None;
  reentrant = None;
}

abbrev pub procedure_of : HeadingTree → List DeclarationTree → List StatementTree → DeclarationTree
procedure_of heading declared done =
    ProcedureTree heading (declarations_of declared) (statements_of done) None

-- the value of a variable, a function or a built-in function
abbrev pub value_of : ReferenceTree → ExpressionTree
value_of reference = ReferenceLeaf reference
