-- Where the parts of the code of a module lie.
use Rattle.std.specs.Prelude.{◌≡◌, ◌≤◌, ◌<◌, ℕ, IfSome, List, slice_get}
use Rattle.std.specs.List.{AllByRecursion, AllZip}
use Rattle.object_modules.specs.declared.segment.Segment.TheVariants.{Code}
use Rattle.object_modules.specs.Module.{ObjectModule, Public, length_of}
use Rattle.treecode.specs.declared.module.PublicName.{PublicName}
use Rattle.treecode.specs.declared.module.PublicPlace.{PublicPlace}
use Rattle.treecode.specs.declared.module.PublicPlace.TheVariants.{Object, Procedure}
use Rattle.treecode.specs.declared.procedure.ProcedureKind.{ProcedureKind}
use Rattle.treecode.specs.declared.procedure.ProcedureKind.TheVariants.{External}
use Rattle.treecode.specs.declared.procedure.TreeProcedure.{TreeProcedure}
use Rattle.codegen8080.specs.declared.marking.CodePart.{CodePart}
use Rattle.codegen8080.specs.declared.marking.CodePart.TheVariants.{Routine}
use Rattle.codegen8080.specs.declared.marking.Mark.{Mark}

-- a part of code begins at the end of all code at the latest, and a routine before that
abbrev pub IsBefore : (end : ℕ) → CodePart → (place : ℕ) → Type 0
IsBefore end (Routine routine) place = place < end
IsBefore end part place = place ≤ end

-- a mark lies after the constants, and not after the end of all code
abbrev pub LiesWithin : (constants end : ℕ) → Mark → Type 0
LiesWithin constants end mark = (constants ≤ mark.place) × IsBefore end mark.part mark.place

-- each mark lies in the code of an object module, after its constants, or at its end
abbrev pub LieInCode : (constants : ℕ) → ObjectModule → List Mark → Type 0
LieInCode constants object marks = AllByRecursion (LiesWithin constants (length_of object Code)) marks

-- a procedure begins where a byte of code lies, after the constants; an EXTERNAL one has no code
abbrev pub BeginsWithin : (constants end : ℕ) → ProcedureKind → (place : ℕ) → Type 0
BeginsWithin constants end (External name) place = Unit {0}
BeginsWithin constants end kind place = (constants ≤ place) × (place < end)

-- each of the procedures begins so in an object module
abbrev pub BeginInCode : (constants : ℕ) → ObjectModule → List TreeProcedure → (places : List ℕ) → Type 0
BeginInCode constants object procedures places =
    AllZip
    (λ (procedure : TreeProcedure) (place : ℕ). BeginsWithin constants (length_of object Code) procedure.kind place)
    procedures places

-- the names of an object module that are this one stand for a place
abbrev pub StandFor : List Public → (name : List ℕ) → (place : ℕ) → Type 0
StandFor publics name place =
    AllByRecursion (λ (public : Public). public.name ≡ name → public.offset ≡ place) publics

-- the PUBLIC name of a procedure stands for the place where that begins
abbrev pub IsNamedAt : List Public → (places : List ℕ) → (name : List ℕ) → PublicPlace → Type 0
IsNamedAt publics places name (Object place) = Unit {0}
IsNamedAt publics places name (Procedure number) = IfSome (slice_get places number) (StandFor publics name)

-- so does each of these
abbrev pub NamesBegin : List Public → (places : List ℕ) → List PublicName → Type 0
NamesBegin publics places names =
    AllByRecursion (λ (name : PublicName). IsNamedAt publics places name.name name.place) names
