-- The views of the parts of the checker of expressions.
use Rattle.std.specs.Prelude.{map, vec_items}
use Rattle.typed_trees.specs.TypedTrees.{Constants}
use Rattle.typed_trees.specs.Views.{reference_view, object_view, procedure_view}
use Rattle.typed_expressions.specs.declared.filling.Contents.{Contents as CodeContents}
use Rattle.typed_expressions.specs.declared.filling.Extents.{Extents as CodeExtents}
use Rattle.typed_expressions.specs.declared.filling.Extents.TheVariants as code_extents
use Rattle.typed_expressions.specs.declared.known.Constants.{Constants as CodeConstants}
use Rattle.typed_expressions.specs.declared.known.Known.{Known as CodeKnown}
use Rattle.typed_expressions.specs.declared.known.Destination.{Destination as CodeDestination}
use Rattle.typed_expressions.specs.declared.known.Destination.TheVariants as destinations
use Rattle.typing.specs.References.{Known}
use Rattle.typing.specs.Filling.{Extents, NoArray, Elements, AsListed, Contents}
use Rattle.typing.specs.Nodes.{Destination, Variable, Port}

abbrev pub destination_view : CodeDestination → Destination
destination_view (destinations.Variable scalar reference) = Variable scalar (reference_view reference)
destination_view (destinations.Port port) = Port port

abbrev pub known_view : CodeKnown → Known
known_view known = record {
  here = known.scopes;
  objects = map object_view known.objects.items;
  procedures = map procedure_view known.procedures.items;
}

abbrev pub constants_view : CodeConstants → Constants
constants_view constants =
    record { lists = map vec_items constants.lists.items; items = constants.items.items }

abbrev pub extents_view : CodeExtents → Extents
extents_view code_extents.NoArray = NoArray
extents_view (code_extents.Elements count) = Elements count
extents_view code_extents.AsListed = AsListed

abbrev pub contents_view : CodeContents → Contents
contents_view contents = record { dimension = contents.dimension; values = contents.values.items }
