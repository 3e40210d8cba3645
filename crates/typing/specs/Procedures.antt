-- Headings of procedures and their parameters (PL/M-80 Programming Manual, "Procedures").
use Rattle.std.specs.Prelude.{ℕ, true, List, [], ◌∷◌, ◌++◌, length, map, Option, Some, None, is_some, unwrap_or, slice_set, if◌then◌else◌}
use Rattle.std.specs.Option.{option_or}
use Rattle.trees.specs.declared.declaration.Linkage.{Linkage}
use Rattle.trees.specs.declared.declaration.Linkage.TheVariants as linkages
use Rattle.trees.specs.declared.declaration.ScalarType.{ScalarType}
use Rattle.trees.specs.declared.declaration.ScalarType.TheVariants.{Byte}
use Rattle.trees.specs.declared.identifier.Identifier.{Identifier}
use Rattle.trees.specs.Trees.{ItemTypeTree, ScalarItem, StructureItem, ElementTree, LiterallyElement, ItemElement, HeadingTree, DeclarationTree, DeclareTree, ProcedureTree, DeclarationTrees, NoDeclarations, MoreDeclarations}
use Rattle.names.specs.Environment.{Here, is_among, out_of_body}
use Rattle.names.specs.DeclaredNames.{declared_by}
use Rattle.typed_trees.specs.declared.parts.Visibility.{Visibility}
use Rattle.typed_trees.specs.declared.parts.Visibility.TheVariants.{Private, Public, External}
use Rattle.typed_trees.specs.declared.parts.GlobalItem.TheVariants.{GlobalProcedure}
use Rattle.typed_trees.specs.TypedTrees.{NoStatements as NoTyped, TypedList, ListOf, TypedProcedure}
use Rattle.typing.specs.Blocks.{OfProcedure, Block, Progress, with_global}

abbrev pub visibility_of : Option Linkage → Visibility
visibility_of None = Private
visibility_of (Some (linkages.Public place)) = Public
visibility_of (Some (linkages.External place)) = External

-- The type that a procedure's own block declares a name with. A procedure can be called before that is
-- reached.
abbrev pub scalar_of_type : ItemTypeTree → ScalarType
scalar_of_type (ScalarItem scalar) = scalar
scalar_of_type (StructureItem members) = Byte

abbrev pub scalar_in_element : ElementTree → List ℕ → Option ScalarType
scalar_in_element (LiterallyElement defined text) name = None
scalar_in_element (ItemElement item) name =
    if is_among (map (λ (declared : Identifier). declared.name) (declared_by item.subject)) name
    then Some (scalar_of_type item.item_type) else None

abbrev pub scalar_in_elements : List ElementTree → List ℕ → Option ScalarType
scalar_in_elements [] name = None
scalar_in_elements (element ∷ others) name =
    option_or (scalar_in_element element name) (scalar_in_elements others name)

abbrev pub scalar_in_declaration : DeclarationTree → List ℕ → Option ScalarType
scalar_in_declaration (DeclareTree elements) name = scalar_in_elements elements name
scalar_in_declaration (ProcedureTree heading declared body end_name) name = None

abbrev pub scalar_in_block : DeclarationTrees → List ℕ → Option ScalarType
scalar_in_block NoDeclarations name = None
scalar_in_block (MoreDeclarations first others) name =
    option_or (scalar_in_declaration first name) (scalar_in_block others name)

-- the types of parameters; one that is not declared is refused later
abbrev pub parameter_types : DeclarationTrees → List Identifier → List ScalarType
parameter_types declared parameters =
    map (λ (parameter : Identifier). unwrap_or (scalar_in_block declared parameter.name) Byte) parameters

-- a procedure by its heading, and by the parts that become known later
abbrev pub procedure_with :
    HeadingTree → List ScalarType → (parameters : List ℕ) → (frame_bytes : ℕ) → TypedList → TypedProcedure
procedure_with heading types parameters frame_bytes body = record {
  name = heading.name.name;
  visibility = visibility_of heading.linkage;
  result = heading.result;
  is_reentrant = is_some heading.reentrant;
  parameter_types = types;
  parameters = parameters;
  frame_bytes = frame_bytes;
  body = body;
}

abbrev pub empty_list : TypedList
empty_list = ListOf 0 [] NoTyped

-- A heading, up to where its body begins. The procedure is known from there on, in itself too. A REENTRANT
-- procedure and an EXTERNAL one contain none.
abbrev pub with_heading : HeadingTree → List ScalarType → Here → Progress → Progress
with_heading heading types here progress = record progress {
  known = record progress.known {
    here = here;
    procedures = progress.known.procedures ++ procedure_with heading types [] 0 empty_list ∷ [];
  };
  globals = with_global heading.linkage (GlobalProcedure (length progress.known.procedures)) progress.globals;
  frame = 0;
}

-- the block of the procedure of a heading, which gets the next number
abbrev pub own_block : HeadingTree → Progress → Block
own_block heading progress = record {
  owner = OfProcedure (length progress.known.procedures) heading;
  is_own = true;
}

-- the end of a procedure, which is now complete
abbrev pub close_procedure :
    HeadingTree → DeclarationTrees → (number : ℕ) → (parameters : List ℕ) → TypedList → Progress → Progress
close_procedure heading declared number parameters body progress = record progress {
  known = record progress.known {
    here = out_of_body progress.known.here;
    procedures = slice_set progress.known.procedures number
        (procedure_with heading (parameter_types declared heading.parameters) parameters progress.frame body);
  };
  frame = 0;
}
