-- Placings as one pass over the modules finds them, and the refusals that speak of ranges alone.
use Rattle.std.specs.Prelude.{ℕ, ◌+◌, List, [], ◌∷◌, map, sum_by, find, Option, option_map}
use Rattle.std.specs.Option.{option_or}
use Rattle.mem80.specs.declared.range.Range.{Range}
use Rattle.typed_trees.specs.declared.module.Typed.{Typed}
use Rattle.typed_trees.specs.TypedTrees.{TypedObject, TypedModule}
use Rattle.typed_trees.specs.Views.{module_view}
use Rattle.layout.specs.declared.slot.Layout.{Layout}
use Rattle.layout.specs.Following.{Bases}
use Rattle.layout.specs.Placement.{ModulePlacement}
use Rattle.layout.specs.Placing.{PlacingRefusal, segment_too_large, past_memory, overlapping, is_misplaced, module_placement_by}
use Rattle.layout.specs.Storage.{Storage}
use Rattle.layout.specs.Views.{layout_view}
use Rattle.placing.specs.declared.addresses.Bases.{Bases as CodeBases}

abbrev pub bases_view : CodeBases → Bases
bases_view bases = record { code_base = bases.code_base; data_base = bases.data_base }

-- where the segments of the next module begin
abbrev pub bases_after : Bases → Storage → (length : ℕ) → Bases
bases_after bases storage length =
    record { code_base = bases.code_base + length; data_base = bases.data_base + storage.data_size }

-- the placements of modules, with the segments of the first at these bases
abbrev pub placements_from :
    Bases → List TypedModule → List Storage → (code_lengths : List ℕ) → List ModulePlacement
placements_from bases (typed ∷ others) (storage ∷ storages) (length ∷ lengths) =
    module_placement_by bases typed storage
    ∷ placements_from (bases_after bases storage length) others storages lengths
placements_from bases modules storages code_lengths = []

-- the bytes of all data segments
abbrev pub data_sizes : List Storage → ℕ
data_sizes storages = sum_by (λ (storage : Storage). storage.data_size) storages

-- the same over the code's lists
abbrev pub code_placements :
    CodeBases → List Typed → List Layout → (code_lengths : List ℕ) → List ModulePlacement
code_placements bases modules layouts code_lengths =
    placements_from (bases_view bases) (map module_view modules) (map layout_view layouts) code_lengths

abbrev pub layout_sizes : List Layout → ℕ
layout_sizes layouts = data_sizes (map layout_view layouts)

-- the first of these that holds
abbrev pub range_refusal : (code variables stack : Range) → Option PlacingRefusal
range_refusal code variables stack =
    option_or (segment_too_large code variables)
    (option_or (past_memory code variables stack) (overlapping code variables stack))

-- the name of the first object with AT that may not lie where it does
abbrev pub name_of_misplaced : (code stack : Range) → List (TypedObject × ℕ) → Option (List ℕ)
name_of_misplaced code stack objects =
    option_map (λ (placed : TypedObject × ℕ). (placed.0).name) (find (is_misplaced code stack) objects)
