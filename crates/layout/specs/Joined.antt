-- Modules joined into a program (PL/M-80 Programming Manual, "Extended scope: the PUBLIC and EXTERNAL
-- attributes"). Each EXTERNAL name stands for the PUBLIC of that name.
use Rattle.std.specs.Prelude.{◌≡◌, ℕ, ◌+◌, Bool, true, false, not, ◌&&◌, ◌==◌, List, [], ◌∷◌, filter, filter_map, flat_map, find, position, count_by, Option, Some, None, option_map, if◌then◌else◌, slice_get}
use Rattle.std.specs.List.{list_any}
use Rattle.std.specs.Option.{option_or, option_map_or}
use Rattle.std.specs.Str.{bytes_eq}
use Rattle.typed_trees.specs.ScalarType.{ScalarType}
use Rattle.typed_trees.specs.ScalarType.TheVariants.{Byte, Address}
use Rattle.typed_trees.specs.declared.parts.Visibility.{Visibility}
use Rattle.typed_trees.specs.declared.parts.Visibility.TheVariants.{Public, External}
use Rattle.typed_trees.specs.declared.parts.GlobalItem.TheVariants.{GlobalObject, GlobalProcedure}
use Rattle.typed_trees.specs.declared.parts.GlobalItem.{GlobalItem}
use Rattle.typed_trees.specs.declared.parts.TypedMember.{TypedMember}
use Rattle.typed_trees.specs.TypedTrees.{NoStatements, MoreStatements, TypedList, ListOf, ObjectType, ScalarObject, StructureObject, Home, Elsewhere, TypedObject, TypedProcedure, TypedModule}

-- whether two declarations agree: types, dimensions, and members by their position, whatever their names
abbrev pub same_scalar : ScalarType → ScalarType → Bool
same_scalar Byte Byte = true
same_scalar Address Address = true
same_scalar left right = false

abbrev pub same_dimension : Option ℕ → Option ℕ → Bool
same_dimension None None = true
same_dimension (Some left) (Some right) = left == right
same_dimension left right = false

abbrev pub same_members : List TypedMember → List TypedMember → Bool
same_members [] [] = true
same_members (left ∷ lefts) (right ∷ rights) =
    same_scalar left.scalar right.scalar && same_dimension left.dimension right.dimension
    && same_members lefts rights
same_members lefts rights = false

abbrev pub same_type : ObjectType → ObjectType → Bool
same_type (ScalarObject left) (ScalarObject right) = same_scalar left right
same_type (StructureObject left) (StructureObject right) = same_members left right
same_type left right = false

abbrev pub same_result : Option ScalarType → Option ScalarType → Bool
same_result None None = true
same_result (Some left) (Some right) = same_scalar left right
same_result left right = false

abbrev pub same_parameters : List ScalarType → List ScalarType → Bool
same_parameters [] [] = true
same_parameters (left ∷ lefts) (right ∷ rights) = same_scalar left right && same_parameters lefts rights
same_parameters lefts rights = false

-- the declaration of a global
pub data Declared : Type 0 where
  DeclaredObject : TypedObject → Declared
  DeclaredProcedure : TypedProcedure → Declared

abbrev pub agree : Declared → Declared → Bool
agree (DeclaredObject left) (DeclaredObject right) =
    same_dimension left.dimension right.dimension && same_type left.object_type right.object_type
agree (DeclaredProcedure left) (DeclaredProcedure right) =
    same_result left.result right.result && same_parameters left.parameter_types right.parameter_types
agree left right = false

-- a name that modules share, in one of them
pub record Global : Type 0 where
  pub name : List ℕ
  pub is_public : Bool
  pub declared : Declared

abbrev pub is_public_procedure : Visibility → Bool
is_public_procedure Public = true
is_public_procedure visibility = false

abbrev pub global_object : TypedObject → Global
global_object object =
    record { name = object.name; is_public = object.is_public; declared = DeclaredObject object }

abbrev pub global_procedure : TypedProcedure → Global
global_procedure procedure = record {
  name = procedure.name;
  is_public = is_public_procedure procedure.visibility;
  declared = DeclaredProcedure procedure;
}

abbrev pub global_of : TypedModule → GlobalItem → Option Global
global_of typed (GlobalObject object) = option_map global_object (slice_get typed.objects object)
global_of typed (GlobalProcedure procedure) =
    option_map global_procedure (slice_get typed.procedures procedure)

-- the globals of modules, in the order of the modules and in that of each text
abbrev pub globals_of : List TypedModule → List Global
globals_of modules = flat_map (λ (typed : TypedModule). filter_map (global_of typed) typed.globals) modules

abbrev pub publics_of : List TypedModule → List Global
publics_of modules = filter (λ (global : Global). global.is_public) (globals_of modules)

abbrev pub externals_of : List TypedModule → List Global
externals_of modules = filter (λ (global : Global). not global.is_public) (globals_of modules)

-- the PUBLIC of a name
abbrev pub public_named : List Global → List ℕ → Option Global
public_named publics name = find (λ (global : Global). bytes_eq global.name name) publics

-- the first PUBLIC with the name of one before it
abbrev pub first_repeated : (before : List (List ℕ)) → List Global → Option Global
first_repeated before [] = None
first_repeated before (global ∷ others) =
    if list_any (bytes_eq global.name) before then Some global
    else first_repeated (global.name ∷ before) others

-- an EXTERNAL that no module has as PUBLIC, or that its PUBLIC does not agree with
abbrev pub lacks_public : List Global → Global → Bool
lacks_public publics external =
    option_map_or (λ (public : Global). false) (public_named publics external.name) true

abbrev pub differs_from_public : List Global → Global → Bool
differs_from_public publics external =
    option_map_or (λ (public : Global). not (agree external.declared public.declared))
    (public_named publics external.name) false

-- a main module has a statement at its outer level
abbrev pub has_statement : TypedList → Bool
has_statement (ListOf first_label places NoStatements) = false
has_statement (ListOf first_label places (MoreStatements first others)) = true

abbrev pub is_main : TypedModule → Bool
is_main typed = has_statement typed.main.body

-- why modules do not make a program
pub data JoinRefusal : Type 0 where
  -- an EXTERNAL without PUBLIC, two PUBLICs of a name, an EXTERNAL and a PUBLIC that differ: with the name
  NoPublic : (name : List ℕ) → JoinRefusal
  PublicTwice : (name : List ℕ) → JoinRefusal
  DeclarationsDiffer : (name : List ℕ) → JoinRefusal
  -- no main module, or more than one
  NotOneMain : JoinRefusal

abbrev pub without_public : List TypedModule → Option JoinRefusal
without_public modules =
    option_map (λ (global : Global). NoPublic global.name)
    (find (lacks_public (publics_of modules)) (externals_of modules))

abbrev pub public_twice : List TypedModule → Option JoinRefusal
public_twice modules =
    option_map (λ (global : Global). PublicTwice global.name) (first_repeated [] (publics_of modules))

abbrev pub declared_otherwise : List TypedModule → Option JoinRefusal
declared_otherwise modules =
    option_map (λ (global : Global). DeclarationsDiffer global.name)
    (find (differs_from_public (publics_of modules)) (externals_of modules))

abbrev pub not_one_main : List TypedModule → Option JoinRefusal
not_one_main modules = if count_by is_main modules == 1 then None else Some NotOneMain

-- the first of these that holds
unfoldable pub join_refusal : List TypedModule → Option JoinRefusal
join_refusal modules =
    option_or (without_public modules)
    (option_or (public_twice modules)
    (option_or (declared_otherwise modules) (not_one_main modules)))

-- a program
abbrev pub IsJoined : List TypedModule → Type 0
IsJoined modules = join_refusal modules ≡ None

-- an object or a procedure of a program: by its module and its number there
pub record InProgram : Type 0 where
  pub number_of_module : ℕ
  pub number : ℕ

abbrev pub in_module : (number_of_module : ℕ) → Option ℕ → Option InProgram
in_module number_of_module found =
    option_map (λ number. record { number_of_module = number_of_module; number = number }) found

-- the first module in which something is found, with its number there
abbrev pub first_found :
    (number_of_module : ℕ) → (in_one : TypedModule → Option ℕ) → List TypedModule → Option InProgram
first_found number_of_module in_one [] = None
first_found number_of_module in_one (typed ∷ others) =
    option_or (in_module number_of_module (in_one typed)) (first_found (number_of_module + 1) in_one others)

-- the PUBLIC object of a name, and the PUBLIC procedure
abbrev pub public_object_in : List ℕ → TypedModule → Option ℕ
public_object_in name typed =
    position (λ (object : TypedObject). object.is_public && bytes_eq object.name name) typed.objects

abbrev pub public_procedure_in : List ℕ → TypedModule → Option ℕ
public_procedure_in name typed =
    position
    (λ (procedure : TypedProcedure). is_public_procedure procedure.visibility && bytes_eq procedure.name name)
    typed.procedures

-- what an object of a module stands for: an EXTERNAL one for the PUBLIC of its name, and any other for itself
abbrev pub object_meant : List TypedModule → InProgram → TypedObject → Home → Option InProgram
object_meant modules at object Elsewhere = first_found 0 (public_object_in object.name) modules
object_meant modules at object home = Some at

-- what a procedure of a module stands for where it is called, likewise
abbrev pub procedure_meant : List TypedModule → InProgram → TypedProcedure → Visibility → Option InProgram
procedure_meant modules at procedure External = first_found 0 (public_procedure_in procedure.name) modules
procedure_meant modules at procedure visibility = Some at
