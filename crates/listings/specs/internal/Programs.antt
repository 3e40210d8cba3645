-- Modules of a program as the code keeps them.
use Rattle.std.specs.Prelude.{◌≡◌, ◌≤◌, ◌⊎◌, ℕ, suc, ◌+◌, ◌*◌, ◌++◌, List, [], ◌∷◌, flat_map, map, slice_get, take, Some}
use Rattle.std.specs.List.{AllByRecursion}
use Rattle.layout.specs.Placement.{ModulePlacement}
use Rattle.mem80.specs.declared.range.Piece.{Piece}
use Rattle.object_modules.specs.Image.{Symbol, range_at}
use Rattle.object_modules.specs.Module.{ObjectModule, length_of}
use Rattle.object_modules.specs.Runs.{fixes_in}
use Rattle.object_modules.specs.declared.segment.Segment.TheVariants.{Code, Data}
use Rattle.placing.specs.Views.{module_placement_view}
use Rattle.sources.specs.Programs.{program_modules}
use Rattle.tool.specs.Construction.{Construction}
use Rattle.typed_trees.specs.TypedTrees.{TypedModule}
use Rattle.typed_trees.specs.Views.{module_view}
use Rattle.typed_trees.specs.Weight.{constant_bytes}
use Rattle.listings.specs.Listing.{ListsModule}
use Rattle.listings.specs.Names.{IsCodeName, module_symbols, public_symbols}
use Rattle.listings.specs.declared.named.Named.{Named}
use Rattle.listings.specs.declared.parts.Part.{Part}
use Rattle.listings.specs.internal.Parts.{IsCodePart}
use Rattle.listings.specs.internal.Views.{named_view}
use Rattle.listings.specs.declared.view.ModuleView.{ModuleView}

-- a module as the definitions have it: its text, its tables, its object module, and where its objects lie
abbrev pub text_of : ModuleView → List ℕ
text_of view = view.text.now

abbrev pub typed_of : ModuleView → TypedModule
typed_of view = module_view view.typed.now

abbrev pub object_of : ModuleView → ObjectModule
object_of view = view.object.now

abbrev pub placed_of : ModuleView → ModulePlacement
placed_of view = module_placement_view view.placed.now

abbrev pub pair_of : ModuleView → TypedModule × ModulePlacement
pair_of view = (typed_of view, placed_of view)

-- how many bytes its segments have
abbrev pub code_size : ModuleView → ℕ
code_size view = length_of (object_of view) Code

abbrev pub data_size : ModuleView → ℕ
data_size view = length_of (object_of view) Data

-- a part of the code of a module
abbrev pub IsPartOfCode : List Piece → ModuleView → Part → Type 0
IsPartOfCode pieces view part =
    IsCodePart pieces (fixes_in (object_of view) Code) view.code_base
    (view.code_base + constant_bytes (typed_of view)) (view.code_base + code_size view) part

-- modules whose segments follow one another, from these addresses on up to others
abbrev pub Follow : (code_base data_base : ℕ) → List ModuleView → (code_end data_end : ℕ) → Type 0
Follow code_base data_base [] code_end data_end = (code_base ≡ code_end) × (data_base ≡ data_end)
Follow code_base data_base (view ∷ views) code_end data_end =
    (view.code_base ≡ code_base) × (view.data_base ≡ data_base)
    × Follow (code_base + code_size view) (data_base + data_size view) views code_end data_end

-- a module is that of a number of a program, and its segments begin at these addresses
pub record IsViewAt (texts : List (List ℕ)) (built : Construction) (number code_base data_base : ℕ)
    (view : ModuleView) : Type 0 where
  pub text : slice_get texts number ≡ Some (text_of view)
  pub typed : slice_get (program_modules built.program) number ≡ Some (typed_of view)
  pub object : slice_get built.objects number ≡ Some (object_of view)
  pub placed : slice_get built.placement.modules number ≡ Some (placed_of view)
  pub code : view.code_base ≡ code_base
  pub data_at : view.data_base ≡ data_base

-- the first `count` modules of a program, whose segments end before these addresses, each after at most 65535 bytes
pub record AreFirstViews (texts : List (List ℕ)) (built : Construction) (count code_end data_end : ℕ)
    (views : List ModuleView) : Type 0 where
  pub text_of_each : map text_of views ≡ take count texts
  pub typed_of_each : map typed_of views ≡ take count (program_modules built.program)
  pub object_of_each : map object_of views ≡ take count built.objects
  pub placed_of_each : map placed_of views ≡ take count built.placement.modules
  pub follow : Follow built.plan.code built.plan.data_base views code_end data_end
  pub code_within : code_end ≤ 65535 * suc count
  pub data_within : data_end ≤ 65535 * suc count

-- all modules of a program of these texts
pub record AreViews (texts : List (List ℕ)) (built : Construction) (views : List ModuleView) : Type 0 where
  pub code_end : ℕ
  pub data_end : ℕ
  pub text_of_each : map text_of views ≡ texts
  pub typed_of_each : map typed_of views ≡ program_modules built.program
  pub object_of_each : map object_of views ≡ built.objects
  pub placed_of_each : map placed_of views ≡ built.placement.modules
  pub follow : Follow built.plan.code built.plan.data_base views code_end data_end

-- the names of the objects of modules, and of their PUBLIC procedures
abbrev pub object_names : List ModuleView → List Symbol
object_names views = flat_map (λ (view : ModuleView). module_symbols (pair_of view)) views

abbrev pub public_names : List ModuleView → List Symbol
public_names views =
    flat_map (λ (view : ModuleView). public_symbols view.code_base (typed_of view) (object_of view)) views

-- what is another name in the code of a module, and of one of these
abbrev pub IsNameIn : ModuleView → Symbol → Type 0
IsNameIn view symbol = IsCodeName view.code_base (typed_of view) (object_of view) symbol

abbrev pub IsNameAmong : List ModuleView → Symbol → Type 0
IsNameAmong [] symbol = ⊥
IsNameAmong (view ∷ views) symbol = IsNameIn view symbol ⊎ IsNameAmong views symbol

-- names were added, each of them one of these
pub record AddsNames (P : Symbol → Type 0) (old new : List Named) : Type 0 where
  pub added : List Named
  pub new_is : new ≡ old ++ added
  pub each : AllByRecursion P (map named_view added)

-- such names were added of all modules but those that are left
pub record AddsNamesSoFar (all left : List ModuleView) (old new : List Named) : Type 0 where
  pub fits : (symbol : Symbol) → IsNameAmong left symbol → IsNameAmong all symbol
  pub adds : AddsNames (IsNameAmong all) old new

-- all names of modules
pub record HasNames (views : List ModuleView) (names : List Symbol) : Type 0 where
  pub others : List Symbol
  pub names_are : names ≡ object_names views ++ public_names views ++ others
  pub each : AllByRecursion (IsNameAmong views) others

-- the listing of a module, with these names
abbrev pub ListsView : (names : List Symbol) → List Piece → ModuleView → (text : List ℕ) → Type 0
ListsView names pieces view text =
    ListsModule names pieces (range_at view.code_base (code_size view)) (constant_bytes (typed_of view))
    (fixes_in (object_of view) Code) (range_at view.data_base (data_size view)) (typed_of view).name (text_of view) text

-- the listings of modules, one after another
pub data ListsViews (names : List Symbol) (pieces : List Piece) :
    List ModuleView → (text : List ℕ) → Type 0 where
  no_view : ListsViews names pieces [] []
  next_view : (view : ModuleView) (views : List ModuleView) (first more : List ℕ)
      → ListsView names pieces view first
      → ListsViews names pieces views more
      → ListsViews names pieces (view ∷ views) (first ++ more)

-- the listing of modules, with their names
pub record IsListingOf (pieces : List Piece) (views : List ModuleView) (text : List ℕ) : Type 0 where
  pub names : List Symbol
  pub each : HasNames views names
  pub listed : ListsViews names pieces views text
