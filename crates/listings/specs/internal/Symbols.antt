-- Lines of symbols that are added to others.
use Rattle.std.specs.Prelude.{◌≡◌, ℕ, ◌+◌, ◌<◌, ◌≤◌, Bool, true, false, List, [], ◌∷◌, ◌++◌, codes, filter, flat_map, map, zip, Option, Some, None, IfSome}
use Rattle.std.specs.List.{AllByRecursion}
use Rattle.layout.specs.Placement.{PieceKind}
use Rattle.typed_trees.specs.TypedTrees.{TypedModule, TypedObject, TypedProcedure}
use Rattle.typed_trees.specs.Weight.{constant_bytes}
use Rattle.listings.specs.Names.{IsInCode}
use Rattle.listings.specs.Symbols.{AreCodeOf, AreOwnersOf, HasSymbols, is_own, object_line, procedure_line, source_line}
use Rattle.listings.specs.declared.view.ModuleView.{ModuleView}
use Rattle.listings.specs.internal.Programs.{code_size, object_of, placed_of, text_of, typed_of}

-- the procedures that are not EXTERNAL
abbrev pub own_of : List TypedProcedure → List TypedProcedure
own_of procedures = filter (λ (procedure : TypedProcedure). is_own procedure.visibility) procedures

-- the lines of procedures
pub record HasProcedureLines (view : ModuleView) (procedures : List TypedProcedure) (text : List ℕ) : Type 0 where
  pub places : List (ℕ × ℕ)
  pub each : AreCodeOf (constant_bytes (typed_of view)) (object_of view) (own_of procedures) places
  pub text_is : text
      ≡ flat_map (procedure_line (typed_of view).name view.code_base) (zip (own_of procedures) places)

-- the names of the procedures of a module
abbrev pub procedure_names : TypedModule → List (List ℕ)
procedure_names typed = map (λ (procedure : TypedProcedure). procedure.name) typed.procedures

-- the name of an owner, or a dash
abbrev pub owner_text : Option (List ℕ) → List ℕ
owner_text None = codes "-"
owner_text (Some name) = name

-- the lines of objects, numbered from a number on, with their addresses
pub record HasObjectLines (typed : TypedModule) (placed : ℕ × (List TypedObject × List ℕ)) (text : List ℕ) : Type 0 where
  pub owners : List (List ℕ)
  pub each : AreOwnersOf typed placed.0 (placed.1).0 owners
  pub text_is : text ≡ flat_map (object_line typed.name) (zip (zip (placed.1).0 (placed.1).1) owners)

-- something lies somewhere
abbrev pub has_kind : Option PieceKind → Bool
has_kind None = false
has_kind (Some kind) = true

-- numbers rise, from one on
abbrev pub Rises : (number : ℕ) → List (ℕ × ℕ) → Type 0
Rises number [] = Unit {0}
Rises number (line ∷ lines) = (number ≤ line.0) × Rises (line.0 + 1) lines

-- a place is one of the code of a module
abbrev pub IsPlaceIn : ModuleView → (place : ℕ) → Type 0
IsPlaceIn view place = IsInCode (constant_bytes (typed_of view)) (code_size view) place

-- the line of a line of the source of a module, if it has a place
abbrev pub line_of : ModuleView → (number : ℕ) → (place : Option ℕ) → List ℕ
line_of view number None = []
line_of view number (Some place) = source_line (typed_of view).name view.code_base (number, place)

-- places of code, each in that of a module, after its constants, or at its end
abbrev pub ArePlacesIn : ModuleView → List (Option ℕ) → Type 0
ArePlacesIn view places = AllByRecursion (λ (place : Option ℕ). IfSome place (IsPlaceIn view)) places

-- places stay such, where one more is in the code
abbrev pub KeepsPlaces : (place : ℕ) → (old new : List (Option ℕ)) → Type 0
KeepsPlaces place old new = (view : ModuleView) → IsPlaceIn view place → ArePlacesIn view old → ArePlacesIn view new

-- the lines of source lines, from a number on and below another
pub record HasSourceLines (view : ModuleView) (end number : ℕ) (text : List ℕ) : Type 0 where
  pub lines : List (ℕ × ℕ)
  pub rising : Rises number lines
  pub below : AllByRecursion (λ (line : ℕ × ℕ). line.0 < end) lines
  pub each : AllByRecursion (λ (line : ℕ × ℕ). IsPlaceIn view line.1) lines
  pub text_is : text ≡ flat_map (source_line (typed_of view).name view.code_base) lines

-- the line of the line of a number, or none
pub record HasLine (view : ModuleView) (number : ℕ) (text : List ℕ) : Type 0 where
  pub place : Option ℕ
  pub in_code : IfSome place (IsPlaceIn view)
  pub text_is : text ≡ line_of view number place

-- the symbols of a module, and of modules, one after another
abbrev pub HasSymbolsOf : ModuleView → (text : List ℕ) → Type 0
HasSymbolsOf view text =
    HasSymbols view.code_base (text_of view) (typed_of view) (object_of view) (placed_of view) text

pub data HaveSymbolsOf : List ModuleView → (text : List ℕ) → Type 0 where
  no_view : HaveSymbolsOf [] []
  next_view : (view : ModuleView) (views : List ModuleView) (first more : List ℕ)
      → HasSymbolsOf view first
      → HaveSymbolsOf views more
      → HaveSymbolsOf (view ∷ views) (first ++ more)
