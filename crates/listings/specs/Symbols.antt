-- The symbols of a program: its procedures, its variables, and the lines of its sources, with addresses. Which
-- lines have code, and where it begins, no definition says, nor where a procedure ends, where one begins that is not PUBLIC,
-- and in which procedure a variable is declared that is no parameter: rows of tests try it.
use Rattle.std.specs.Prelude.{◌≡◌, ◌⊎◌, ℕ, ◌+◌, ◌<◌, ◌≤◌, ◌==◌, min, List, [], ◌∷◌, ◌++◌, codes, length, All, AllPairs, Contains, filter, find, flat_map, map, zip}
use Rattle.std.specs.Prelude.{Bool, true, false, Option, Some, None, IfSome}
use Rattle.std.specs.Fmt.{decimal}
use Rattle.std.specs.List.{list_any}
use Rattle.layout.specs.Placement.{ModulePlacement, PieceKind, kind_of}
use Rattle.object_commands.specs.Placing.{address_digits, range_line}
use Rattle.object_modules.specs.Module.{ObjectModule, length_of}
use Rattle.object_modules.specs.declared.segment.Segment.TheVariants.{Code}
use Rattle.sources.specs.Programs.{program_modules}
use Rattle.tool.specs.Construction.{Construction}
use Rattle.typed_trees.specs.Sizes.{size_of_object}
use Rattle.typed_trees.specs.TypedTrees.{TypedModule, TypedObject, TypedProcedure}
use Rattle.typed_trees.specs.Weight.{constant_bytes}
use Rattle.typed_trees.specs.declared.parts.Visibility.{Visibility}
use Rattle.typed_trees.specs.declared.parts.Visibility.TheVariants.{External}
use Rattle.listings.specs.Listing.{lines_of}
use Rattle.listings.specs.Names.{IsInCode, code_address, public_place}

-- the line of a procedure of a module whose code begins at an address: the names of the module and of the procedure, the
-- address where its code begins, and how many bytes that has, by the place in the code of the module
abbrev pub procedure_line : (of_module : List ℕ) → (code_base : ℕ) → TypedProcedure × (ℕ × ℕ) → List ℕ
procedure_line of_module code_base (procedure, (place, size)) =
    range_line (codes "PROC " ++ of_module ++ 32 ∷ procedure.name) (code_address code_base place) size

-- the line of an object that lies somewhere: the names of its module, of the procedure in which it is declared and of
-- itself, its address, and how many bytes it takes; a size above 4294967295 is printed as that number
abbrev pub line_if : Option PieceKind → (line : List ℕ) → List ℕ
line_if None line = []
line_if (Some kind) line = line

abbrev pub object_line : (of_module : List ℕ) → (TypedObject × ℕ) × List ℕ → List ℕ
object_line of_module ((object, address), owner) =
    line_if (kind_of object.home)
    (range_line (codes "VAR " ++ of_module ++ 32 ∷ owner ++ 32 ∷ object.name) address (min (size_of_object object) 4294967295))

-- the line of a line of the source: the name of its module, its number, and the address of its first code, by the place
-- of that
abbrev pub source_line : (of_module : List ℕ) → (code_base : ℕ) → (number_and_place : ℕ × ℕ) → List ℕ
source_line of_module code_base (number, place) =
    codes "LINE " ++ of_module ++ 32 ∷ decimal number ++ 32 ∷ address_digits (code_address code_base place) ++ 10 ∷ []

-- the procedures that are not EXTERNAL
abbrev pub is_own : Visibility → Bool
is_own External = false
is_own visibility = true

abbrev pub own_procedures : TypedModule → List TypedProcedure
own_procedures typed = filter (λ (procedure : TypedProcedure). is_own procedure.visibility) typed.procedures

-- The code of a procedure from a place on: it lies in the code of its module, after the constants, and has a byte at least;
-- and that of a PUBLIC procedure begins where the object module has its name.
pub record IsCodeOf (constants : ℕ) (object : ObjectModule) (procedure : TypedProcedure) (place size : ℕ) : Type 0 where
  pub past : constants ≤ place
  pub some : 0 < size
  pub within : place + size ≤ length_of object Code
  pub named : IfSome (public_place object.publics procedure) (λ begun. begun ≡ place)

-- one for each procedure
abbrev pub AreCodeOf : (constants : ℕ) → ObjectModule → List TypedProcedure → (places : List (ℕ × ℕ)) → Type 0
AreCodeOf constants object [] [] = Unit {0}
AreCodeOf constants object (procedure ∷ procedures) (place ∷ places) =
    IsCodeOf constants object procedure place.0 place.1 × AreCodeOf constants object procedures places
AreCodeOf constants object procedures places = ⊥

-- the first procedure that has the object of a number as a parameter
abbrev pub procedure_with : (object : ℕ) → List TypedProcedure → Option TypedProcedure
procedure_with object procedures =
    find (λ (procedure : TypedProcedure). list_any (λ number. number == object) procedure.parameters) procedures

-- The owner of an object: none, which is a dash, if it is PUBLIC; the procedure whose parameter it is; and for another object
-- a procedure of the module or none.
abbrev pub IsOwnerBy : (is_public : Bool) → Option TypedProcedure → (names : List (List ℕ)) → (owner : List ℕ) → Type 0
IsOwnerBy true procedure names owner = owner ≡ codes "-"
IsOwnerBy false (Some procedure) names owner = owner ≡ procedure.name
IsOwnerBy false None names owner = (owner ≡ codes "-") ⊎ Contains names owner

abbrev pub IsOwnerOf : TypedModule → (number : ℕ) → TypedObject → (owner : List ℕ) → Type 0
IsOwnerOf typed number object owner =
    IsOwnerBy object.is_public (procedure_with number typed.procedures)
    (map (λ (procedure : TypedProcedure). procedure.name) typed.procedures) owner

-- one for each object, where these are numbered from a number on
abbrev pub AreOwnersOf : TypedModule → (number : ℕ) → List TypedObject → (owners : List (List ℕ)) → Type 0
AreOwnersOf typed number [] [] = Unit {0}
AreOwnersOf typed number (object ∷ objects) (owner ∷ owners) =
    IsOwnerOf typed number object owner × AreOwnersOf typed (number + 1) objects owners
AreOwnersOf typed number objects owners = ⊥

-- A module of this source that is placed, with its code from an address on, has these symbols: its procedures but the
-- EXTERNAL ones, each once; its objects that lie somewhere, each once, with their addresses and their sizes; and some of
-- the lines of the source, by rising numbers from one on, each with an address in its code.
pub record HasSymbols (code_base : ℕ) (source : List ℕ) (typed : TypedModule) (object : ObjectModule)
    (placed : ModulePlacement) (text : List ℕ) : Type 0 where
  pub places : List (ℕ × ℕ)
  pub owners : List (List ℕ)
  pub lines : List (ℕ × ℕ)
  pub each_procedure : AreCodeOf (constant_bytes typed) object (own_procedures typed) places
  pub each_object : AreOwnersOf typed 0 typed.objects owners
  pub from_one : All (λ (line : ℕ × ℕ). 0 < line.0) lines
  pub of_source : All (λ (line : ℕ × ℕ). line.0 ≤ length (lines_of source)) lines
  pub rising : AllPairs (λ (one other : ℕ × ℕ). one.0 < other.0) lines
  pub each_line : All (λ (line : ℕ × ℕ). IsInCode (constant_bytes typed) (length_of object Code) line.1) lines
  pub text_is : text
      ≡ flat_map (procedure_line typed.name code_base) (zip (own_procedures typed) places)
      ++ flat_map (object_line typed.name) (zip (zip typed.objects placed.objects) owners)
      ++ flat_map (source_line typed.name code_base) lines

-- modules of these sources whose code begins at an address, one after another, have these symbols
pub data HaveSymbols :
    (code_base : ℕ) → (sources : List (List ℕ)) → List TypedModule → List ObjectModule → List ModulePlacement
    → (text : List ℕ) → Type 0 where
  no_symbols : {code_base : ℕ} → HaveSymbols code_base [] [] [] [] []
  next_symbols : {code_base : ℕ} {source first more : List ℕ} {sources : List (List ℕ)} {typed : TypedModule}
      {modules : List TypedModule} {object : ObjectModule} {objects : List ObjectModule} {placed : ModulePlacement}
      {others : List ModulePlacement}
      → HasSymbols code_base source typed object placed first
      → HaveSymbols (code_base + length_of object Code) sources modules objects others more
      → HaveSymbols code_base (source ∷ sources) (typed ∷ modules) (object ∷ objects) (placed ∷ others) (first ++ more)

-- the program of these sources has these symbols
abbrev pub SymbolsOfProgram : (sources : List (List ℕ)) → Construction → (text : List ℕ) → Type 0
SymbolsOfProgram sources built text =
    HaveSymbols built.plan.code sources (program_modules built.program) built.objects built.placement.modules text
