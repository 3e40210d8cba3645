-- Marks of sources in the code of object modules, and where procedures begin there. They are tests, since ghost fields say them.
use Rattle.std.specs.Prelude.{◌≡◌, ◌&&◌, ◌==◌, ℕ, nat_le, nat_lt, Bool, true, false, List, [], ◌∷◌, Option, Some, None}
use Rattle.std.specs.List.{list_all}
use Rattle.object_modules.specs.Module.{ObjectModule, length_of}
use Rattle.object_modules.specs.declared.segment.Segment.TheVariants.{Code}
use Rattle.typed_trees.specs.TypedTrees.{TypedModule, TypedProcedure}
use Rattle.typed_trees.specs.Weight.{constant_bytes}
use Rattle.typed_trees.specs.declared.parts.Visibility.{Visibility}
use Rattle.typed_trees.specs.declared.parts.Visibility.TheVariants.{External}
use Rattle.codegen8080.specs.declared.marking.CodePart.{CodePart}
use Rattle.codegen8080.specs.declared.marking.CodePart.TheVariants.{Routine}
use Rattle.tool.specs.declared.marking.SourceMark.{SourceMark}
use Rattle.tool.specs.declared.marking.SourceMarks.{SourceMarks}
use Rattle.listings.specs.Names.{public_place}

-- a part of code begins at the end of all code at the latest, and a routine before that
abbrev pub is_before : (end : ℕ) → CodePart → (place : ℕ) → Bool
is_before end (Routine routine) place = nat_lt place end
is_before end part place = nat_le place end

-- marks lie after the constants, and not after the end of all code
abbrev pub lies_within : (constants end : ℕ) → SourceMark → Bool
lies_within constants end mark = nat_le constants mark.place && is_before end mark.part mark.place

abbrev pub LieWithin : (constants end : ℕ) → List SourceMark → Type 0
LieWithin constants end marks = list_all (lies_within constants end) marks ≡ true

-- the marks of a source lie in the code of its module
abbrev pub LieInCode : TypedModule → ObjectModule → SourceMarks → Type 0
LieInCode typed object marks = LieWithin (constant_bytes typed) (length_of object Code) marks.marks.items

-- and so do those of sources in the code of theirs, one by one
abbrev pub AreMarksOf : List TypedModule → List ObjectModule → List SourceMarks → Type 0
AreMarksOf [] [] [] = Unit {0}
AreMarksOf (typed ∷ modules) (object ∷ objects) (marks ∷ all) =
    LieInCode typed object marks × AreMarksOf modules objects all
AreMarksOf modules objects all = ⊥

-- a place is that of a name, if there is one
abbrev pub is_place_of : Option ℕ → (place : ℕ) → Bool
is_place_of None place = true
is_place_of (Some begun) place = begun == place

-- a procedure begins where a byte of code lies, after the constants, and where the object module has its name; an EXTERNAL one
-- has no code
abbrev pub begins_by : (constants end : ℕ) → (named : Option ℕ) → Visibility → (place : ℕ) → Bool
begins_by constants end named External place = true
begins_by constants end named visibility place =
    nat_le constants place && (nat_lt place end && is_place_of named place)

abbrev pub begins_in : (constants : ℕ) → ObjectModule → TypedProcedure → (place : ℕ) → Bool
begins_in constants object procedure place =
    begins_by constants (length_of object Code) (public_place object.publics procedure) procedure.visibility place

-- and so do procedures, one by one
abbrev pub begin_in : (constants : ℕ) → ObjectModule → List TypedProcedure → (places : List ℕ) → Bool
begin_in constants object [] [] = true
begin_in constants object (procedure ∷ procedures) (place ∷ places) =
    begins_in constants object procedure place && begin_in constants object procedures places
begin_in constants object procedures places = false

-- the procedures of a module begin at these places
abbrev pub BeginIn : TypedModule → ObjectModule → (places : List ℕ) → Type 0
BeginIn typed object places = begin_in (constant_bytes typed) object typed.procedures places ≡ true
