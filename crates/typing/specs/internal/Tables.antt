-- The tables of a module, compared with what is known at a place of its text.
use Rattle.std.specs.Prelude.{◌≡◌, ℕ, List, [], Some, unwrap_or, slice_get}
use Rattle.names.specs.declared.entity.Entity.TheVariants.{Object, Procedure}
use Rattle.names.specs.Environment.{entity_of}
use Rattle.typed_trees.specs.TypedTrees.{TypedObject, TypedProcedure, TypedModule, Constants}
use Rattle.typing.specs.References.{Known, members_of}
use Rattle.typing.specs.internal.Untyped.{object_name, procedure_name, members_of_object}

-- objects that are known at a place are those of the tables at the end of the module
abbrev pub AgreesOnObjects : TypedModule → Known → Type 0
AgreesOnObjects tables known =
    (name : List ℕ) (number : ℕ) (object : TypedObject)
    → entity_of known.here name ≡ Some (Object number)
    → slice_get known.objects number ≡ Some object
    → (object_name tables number ≡ name)
    × (members_of_object tables number ≡ unwrap_or (members_of object.object_type) [])

-- and of procedures
abbrev pub AgreesOnProcedures : TypedModule → Known → Type 0
AgreesOnProcedures tables known =
    (name : List ℕ) (number : ℕ) (procedure : TypedProcedure)
    → entity_of known.here name ≡ Some (Procedure number)
    → slice_get known.procedures number ≡ Some procedure
    → procedure_name tables number ≡ name

abbrev pub Agrees : TypedModule → Known → Type 0
Agrees tables known = AgreesOnObjects tables known × AgreesOnProcedures tables known

-- constants that continue others: each constant list keeps its number
abbrev pub Grows : Constants → Constants → Type 0
Grows before after =
    (number : ℕ) (bytes : List ℕ)
    → slice_get before.lists number ≡ Some bytes
    → slice_get after.lists number ≡ Some bytes

-- the tables have the constant lists so far
abbrev pub HasLists : TypedModule → Constants → Type 0
HasLists tables constants =
    (number : ℕ) (bytes : List ℕ)
    → slice_get constants.lists number ≡ Some bytes
    → slice_get tables.constants.lists number ≡ Some bytes
