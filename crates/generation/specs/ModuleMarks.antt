-- Where the parts of the code of a module lie in its object module.
use Rattle.std.specs.Prelude.{◌≤◌, ◌<◌, ℕ, List}
use Rattle.std.specs.List.{AllZip}
use Rattle.object_modules.specs.declared.segment.Segment.TheVariants.{Code}
use Rattle.object_modules.specs.Module.{ObjectModule, Public as PublicName, length_of}
use Rattle.typed_trees.specs.TypedTrees.{TypedModule, TypedProcedure}
use Rattle.typed_trees.specs.Weight.{constant_bytes}
use Rattle.typed_trees.specs.declared.parts.Visibility.{Visibility}
use Rattle.typed_trees.specs.declared.parts.Visibility.TheVariants.{External, Public}
use Rattle.codegen8080.specs.Marks.{LieInCode, StandFor}
use Rattle.codegen8080.specs.declared.module.CodeMarks.{CodeMarks}

-- a procedure begins where a byte of code lies, after the constants; an EXTERNAL one has no code
abbrev pub OwnBeginsWithin : (constants end : ℕ) → Visibility → (place : ℕ) → Type 0
OwnBeginsWithin constants end External place = Unit {0}
OwnBeginsWithin constants end visibility place = (constants ≤ place) × (place < end)

-- the name of a PUBLIC procedure stands for a place
abbrev pub IsNamedBy : List PublicName → Visibility → (name : List ℕ) → (place : ℕ) → Type 0
IsNamedBy publics Public name place = StandFor publics name place
IsNamedBy publics visibility name place = Unit {0}

-- The marks of the code of a module lie in that code, after its constants. Its procedures begin there, one by one,
-- and where it is PUBLIC the object module has the name of a procedure at the place where that begins.
pub record LieInModule (marks : CodeMarks) (typed : TypedModule) (object : ObjectModule) : Type 0 where
  pub parts : LieInCode (constant_bytes typed) object marks.parts.items
  pub begin :
      AllZip
      (λ (procedure : TypedProcedure) (place : ℕ).
      OwnBeginsWithin (constant_bytes typed) (length_of object Code) procedure.visibility place)
      typed.procedures marks.procedures.items
  pub named :
      AllZip
      (λ (procedure : TypedProcedure) (place : ℕ).
      IsNamedBy object.publics procedure.visibility procedure.name place)
      typed.procedures marks.procedures.items
