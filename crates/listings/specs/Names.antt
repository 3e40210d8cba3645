-- The names that stand for addresses in the listing of a program.
use Rattle.std.specs.Prelude.{◌≡◌, ◌⊎◌, ℕ, ◌+◌, ◌%◌, ◌<◌, ◌≤◌, ◌==◌, Bool, true, false, ◌&&◌, if◌then◌else◌}
use Rattle.std.specs.Prelude.{List, [], ◌∷◌, ◌++◌, codes, All, Contains, filter, filter_map, flat_map, map, zip, Option, Some, None, option_map}
use Rattle.std.specs.Str.{bytes_eq}
use Rattle.layout.specs.Placement.{ModulePlacement}
use Rattle.mem80.specs.declared.memory.TheConstants.{MEMORY_SIZE}
use Rattle.object_modules.specs.Image.{Symbol}
use Rattle.object_modules.specs.Module.{ObjectModule, Public as PublicName, length_of}
use Rattle.object_modules.specs.declared.segment.Segment.{Segment}
use Rattle.object_modules.specs.declared.segment.Segment.TheVariants.{Code}
use Rattle.sources.specs.Programs.{program_modules}
use Rattle.tool.specs.Construction.{Construction}
use Rattle.typed_trees.specs.TypedTrees.{Home, InData, InConstants, TypedModule, TypedObject, TypedProcedure}
use Rattle.typed_trees.specs.Weight.{constant_bytes}
use Rattle.typed_trees.specs.declared.parts.Visibility.{Visibility}
use Rattle.typed_trees.specs.declared.parts.Visibility.TheVariants.{Private, Public}

-- a name at an address
abbrev pub symbol_of : (name : List ℕ) → (address : ℕ) → Symbol
symbol_of name address = record { name = name; address = address }

-- the name of an object that lies in a segment of its module
abbrev pub symbol_by : Home → Symbol → Option Symbol
symbol_by (InData values) symbol = Some symbol
symbol_by (InConstants values) symbol = Some symbol
symbol_by home symbol = None

abbrev pub object_symbol : TypedObject × ℕ → Option Symbol
object_symbol (object, address) = symbol_by object.home (symbol_of object.name address)

-- those of a module, and of a program, by the placement
abbrev pub module_symbols : TypedModule × ModulePlacement → List Symbol
module_symbols (typed, placed) = filter_map object_symbol (zip typed.objects placed.objects)

abbrev pub object_symbols : Construction → List Symbol
object_symbols built = flat_map module_symbols (zip (program_modules built.program) built.placement.modules)

-- the place in the code of a module that has this public name
abbrev pub is_code : Segment → Bool
is_code Code = true
is_code segment = false

abbrev pub code_place : List PublicName → (name : List ℕ) → Option ℕ
code_place [] name = None
code_place (public ∷ publics) name =
    if is_code public.segment && bytes_eq public.name name then Some public.offset else code_place publics name

-- where a PUBLIC procedure begins in the code of its module: where the object module has its name
abbrev pub place_by : Visibility → (place : Option ℕ) → Option ℕ
place_by Public place = place
place_by visibility place = None

abbrev pub public_place : List PublicName → TypedProcedure → Option ℕ
public_place publics procedure = place_by procedure.visibility (code_place publics procedure.name)

-- the address of a place of code that begins at an address
abbrev pub code_address : (code_base place : ℕ) → ℕ
code_address code_base place = (code_base + place) % MEMORY_SIZE

-- the names of the PUBLIC procedures of a module, and of modules whose code begins at an address, one after another
abbrev pub procedure_symbol : (code_base : ℕ) → List PublicName → TypedProcedure → Option Symbol
procedure_symbol code_base publics procedure =
    option_map (λ place. symbol_of procedure.name (code_address code_base place)) (public_place publics procedure)

abbrev pub public_symbols : (code_base : ℕ) → TypedModule → ObjectModule → List Symbol
public_symbols code_base typed object = filter_map (procedure_symbol code_base object.publics) typed.procedures

abbrev pub procedure_symbols : (code_base : ℕ) → List TypedModule → List ObjectModule → List Symbol
procedure_symbols code_base (typed ∷ modules) (object ∷ objects) =
    public_symbols code_base typed object ++ procedure_symbols (code_base + length_of object Code) modules objects
procedure_symbols code_base modules objects = []

-- the names of the routines, in the order of their code
abbrev pub routine_names : List (List ℕ)
routine_names =
    codes "Multiply"
    ∷ codes "Divide"
    ∷ codes "ShiftLeftByte"
    ∷ codes "ShiftRightByte"
    ∷ codes "ShiftLeftAddress"
    ∷ codes "ShiftRightAddress"
    ∷ codes "RotateLeft"
    ∷ codes "RotateRight"
    ∷ codes "Move"
    ∷ []

-- the procedures of a module that are neither PUBLIC nor EXTERNAL, and their names with those of the routines
abbrev pub is_private : Visibility → Bool
is_private Private = true
is_private visibility = false

abbrev pub names_in_code : TypedModule → List (List ℕ)
names_in_code typed =
    map (λ (procedure : TypedProcedure). procedure.name)
    (filter (λ (procedure : TypedProcedure). is_private procedure.visibility) typed.procedures)
    ++ routine_names

-- a place in the code of a module, after its constants, or the place just past that code
pub record IsInCode (constants size place : ℕ) : Type 0 where
  pub past : constants ≤ place
  pub within : place ≤ size

-- a place where a byte of that code lies
pub record BeginsInCode (constants size place : ℕ) : Type 0 where
  pub past : constants ≤ place
  pub within : place < size

-- The name of such a procedure or of a routine stands for the address of a byte in the code of its module. No
-- definition says which byte.
pub record IsCodeName (code_base : ℕ) (typed : TypedModule) (object : ObjectModule) (symbol : Symbol) : Type 0 where
  pub name : Contains (names_in_code typed) symbol.name
  pub place : ℕ
  pub in_code : BeginsInCode (constant_bytes typed) (length_of object Code) place
  pub address : symbol.address ≡ code_address code_base place

-- one of modules whose code begins at an address, one after another, has this name in its code
abbrev pub IsCodeNameAmong : (code_base : ℕ) → List TypedModule → List ObjectModule → Symbol → Type 0
IsCodeNameAmong code_base (typed ∷ modules) (object ∷ objects) symbol =
    IsCodeName code_base typed object symbol
    ⊎ IsCodeNameAmong (code_base + length_of object Code) modules objects symbol
IsCodeNameAmong code_base modules objects symbol = ⊥

-- The names of a program: those of its objects, each where the object lies; those of its PUBLIC procedures, each where
-- the procedure begins; and then others, which are names in code.
pub record AreNamesOf (built : Construction) (names : List Symbol) : Type 0 where
  pub others : List Symbol
  pub names_are : names
      ≡ object_symbols built
      ++ procedure_symbols built.plan.code (program_modules built.program) built.objects
      ++ others
  pub each : All (IsCodeNameAmong built.plan.code (program_modules built.program) built.objects) others

-- the first of names that stands for an address, if one does
abbrev pub symbol_at : List Symbol → (address : ℕ) → Option Symbol
symbol_at [] address = None
symbol_at (symbol ∷ symbols) address = if symbol.address == address then Some symbol else symbol_at symbols address
