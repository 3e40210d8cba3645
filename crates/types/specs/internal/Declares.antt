-- What a module declares: as its text says it, and as the tables of its typing have it. The tables keep neither which
-- names are declared together, nor LITERALLY, nor places. What a rule computes of a declaration is in the typing alone:
-- where AT puts a variable, which variable is its base, whether INITIAL is there and what it and DATA fill, in which
-- procedure's frame it lies, how many elements `(*)` stands for, and which objects the parameters are beside their names.
use Rattle.std.specs.Prelude.{◌≡◌, ℕ, Bool, true, false, List, [], ◌∷◌, ◌++◌, map, filter_map, Option, None, Some, is_some, slice_get}
use Rattle.std.specs.List.{AllZip}
use Rattle.std.specs.Option.{option_map, option_map_or}
use Rattle.trees.specs.declared.declaration.Dimension.{Dimension}
use Rattle.trees.specs.declared.declaration.Dimension.TheVariants.{Count, Implied}
use Rattle.trees.specs.declared.declaration.Member.{Member}
use Rattle.trees.specs.declared.identifier.Identifier.{Identifier}
use Rattle.trees.specs.declared.identifier.Number.{Number}
use Rattle.trees.specs.Trees as trees
use Rattle.trees.specs.Trees.{ItemTypeTree, ScalarItem, StructureItem, ItemTree, ElementTree, LiterallyElement, ItemElement, HeadingTree, StatementTree, LabelledStatement, StatementKindTree, ElseTree, StatementTrees, DeclarationTree, DeclareTree, ProcedureTree, DeclarationTrees, NoDeclarations, MoreDeclarations, ModuleTree}
use Rattle.names.specs.DeclaredNames.{declared_by}
use Rattle.typed_trees.specs.declared.parts.TypedMember.{TypedMember}
use Rattle.typed_trees.specs.TypedTrees.{ObjectType, ScalarObject, StructureObject, Home, InData, InConstants, Placed, BasedOn, Elsewhere, Nowhere, InFrame, TypedObject, TypedProcedure, TypedModule}
use Rattle.typing.specs.Blocks.{is_external_linkage, is_public_linkage}
use Rattle.typing.specs.Items.{base_of, is_data}
use Rattle.typing.specs.Procedures.{visibility_of}

-- a variable or a parameter, with the item that declares it; or a procedure, with its heading
pub data Entry : Type 0 where
  ObjectEntry : ItemTree → Identifier → Entry
  ProcedureEntry : HeadingTree → Entry

abbrev pub declared_object : Entry → Option (ItemTree × Identifier)
declared_object (ObjectEntry item name) = Some (item, name)
declared_object (ProcedureEntry heading) = None

abbrev pub declared_procedure : Entry → Option HeadingTree
declared_procedure (ObjectEntry item name) = None
declared_procedure (ProcedureEntry heading) = Some heading

-- what a text declares, in its order
abbrev pub entries_in_element : ElementTree → List Entry
entries_in_element (LiterallyElement name text) = []
entries_in_element (ItemElement item) = map (ObjectEntry item) (declared_by item.subject)

abbrev pub entries_in_elements : List ElementTree → List Entry
entries_in_elements [] = []
entries_in_elements (element ∷ others) = entries_in_element element ++ entries_in_elements others

abbrev mutual
  pub entries_in_statement : StatementTree → List Entry
  entries_in_statement (LabelledStatement labels kind) = entries_in_kind kind

  pub entries_in_kind : StatementKindTree → List Entry
  entries_in_kind (trees.NullStatement place) = []
  entries_in_kind (trees.AssignmentStatement targets value) = []
  entries_in_kind (trees.CallStatement place name values) = []
  entries_in_kind (trees.ReturnStatement place value) = []
  entries_in_kind (trees.HaltStatement place) = []
  entries_in_kind (trees.GotoStatement place label) = []
  entries_in_kind (trees.IfStatement place condition body otherwise) =
      entries_in_statement body ++ entries_in_else otherwise
  entries_in_kind (trees.DoStatement place declared body) = entries_in declared ++ entries_in_statements body
  entries_in_kind (trees.LoopStatement place head body) = entries_in_statements body
  entries_in_kind (trees.CaseStatement place choice body) = entries_in_statements body

  pub entries_in_else : ElseTree → List Entry
  entries_in_else trees.NoElse = []
  entries_in_else (trees.ElseStatement statement) = entries_in_statement statement

  pub entries_in_statements : StatementTrees → List Entry
  entries_in_statements trees.NoStatements = []
  entries_in_statements (trees.MoreStatements first others) =
      entries_in_statement first ++ entries_in_statements others

  pub entries_in_declaration : DeclarationTree → List Entry
  entries_in_declaration (DeclareTree elements) = entries_in_elements elements
  entries_in_declaration (ProcedureTree heading declared body end_name) =
      ProcedureEntry heading ∷ entries_in declared ++ entries_in_statements body

  pub entries_in : DeclarationTrees → List Entry
  entries_in NoDeclarations = []
  entries_in (MoreDeclarations first others) = entries_in_declaration first ++ entries_in others

abbrev pub entries_of : ModuleTree → List Entry
entries_of tree = entries_in tree.declarations ++ entries_in_statements tree.statements

-- the type that an item says
abbrev pub member_of : Member → TypedMember
member_of member = record {
  name = member.name.name;
  dimension = option_map (λ (number : Number). number.value) member.dimension;
  scalar = member.scalar;
}

abbrev pub type_of_item : ItemTypeTree → ObjectType
type_of_item (ScalarItem scalar) = ScalarObject scalar
type_of_item (StructureItem members) = StructureObject (map member_of members)

-- an array has as many elements as its dimension says; where that is `(*)`, it is an array
abbrev pub FitsDimension : Option Dimension → Option ℕ → Type 0
FitsDimension None dimension = dimension ≡ None
FitsDimension (Some (Count number)) dimension = dimension ≡ Some number.value
FitsDimension (Some Implied) dimension = is_some dimension ≡ true

-- what says where a variable lives: BASED, EXTERNAL, AT or DATA, or none of them
pub data HomeWord : Type 0 where
  SaysBased : HomeWord
  SaysExternal : HomeWord
  SaysAt : HomeWord
  SaysData : HomeWord
  SaysNothing : HomeWord

abbrev pub word_of_home : Home → HomeWord
word_of_home (BasedOn base) = SaysBased
word_of_home Elsewhere = SaysExternal
word_of_home (Placed address) = SaysAt
word_of_home (InConstants values) = SaysData
word_of_home (InData values) = SaysNothing
word_of_home Nowhere = SaysNothing
word_of_home (InFrame procedure) = SaysNothing

abbrev pub first_word : (based external placed data_values : Bool) → HomeWord
first_word true external placed data_values = SaysBased
first_word false true placed data_values = SaysExternal
first_word false false true data_values = SaysAt
first_word false false false true = SaysData
first_word false false false false = SaysNothing

abbrev pub word_of_item : ItemTree → HomeWord
word_of_item item =
    first_word (is_some (base_of item.subject)) (is_external_linkage item.linkage) (is_some item.at)
    (is_data item.value_list)

-- an entry of the table of objects is what an item declares by a name
pub record IsDeclared (declared : ItemTree × Identifier) (object : TypedObject) : Type 0 where
  pub name : object.name ≡ (declared.1).name
  pub dimension : FitsDimension (declared.0).dimension object.dimension
  pub object_type : object.object_type ≡ type_of_item (declared.0).item_type
  pub home : word_of_home object.home ≡ word_of_item declared.0
  pub is_public : object.is_public ≡ is_public_linkage (declared.0).linkage

-- the name of an object of a table
abbrev pub name_in : List TypedObject → ℕ → List ℕ
name_in objects number =
    option_map_or (λ (object : TypedObject). object.name) (slice_get objects number) []

-- an entry of the table of procedures is what a heading says, with the objects of its parameters in their order
pub record HasHeading (objects : List TypedObject) (heading : HeadingTree) (procedure : TypedProcedure) :
    Type 0 where
  pub name : procedure.name ≡ heading.name.name
  pub visibility : procedure.visibility ≡ visibility_of heading.linkage
  pub result : procedure.result ≡ heading.result
  pub is_reentrant : procedure.is_reentrant ≡ is_some heading.reentrant
  pub parameters : map (name_in objects) procedure.parameters
      ≡ map (λ (parameter : Identifier). parameter.name) heading.parameters

-- The tables of a typing have what the text of a module declares, each once, in the order of the text, and nothing
-- else.
pub record Declares (tree : ModuleTree) (found : TypedModule) : Type 0 where
  pub name : found.name ≡ tree.name.name
  pub objects : AllZip IsDeclared (filter_map declared_object (entries_of tree)) found.objects
  pub procedures : AllZip (HasHeading found.objects) (filter_map declared_procedure (entries_of tree)) found.procedures
