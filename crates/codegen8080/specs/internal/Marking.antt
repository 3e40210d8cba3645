-- Where the parts of the code of a module begin. It is said of routines and of procedures: which marks stand before those of
-- the routines no definition says.
use Rattle.std.specs.Prelude.{◌≡◌, ℕ, suc, Bool, if◌then◌else◌, List, [], ◌∷◌, ◌++◌, flat_map}
use Rattle.asm8080.specs.Assembled.{Assembled, Assembles}
use Rattle.runtime8080.specs.declared.routine.Routine.{Routine}
use Rattle.treecode.specs.declared.module.TreeModule.{TreeModule}
use Rattle.treecode.specs.declared.procedure.TreeProcedure.{TreeProcedure}
use Rattle.steps8080.specs.internal.Writer.{Written, place_of_label}
use Rattle.exprgen8080.specs.internal.Emission.{has_routine, module_label_of_routine}
use Rattle.codegen8080.specs.declared.marking.CodePart.TheVariants as parts
use Rattle.codegen8080.specs.declared.marking.Mark.{Mark}
use Rattle.codegen8080.specs.internal.Modules.{IsCodeWritten, all_routines}

-- the mark of a routine, at the place of its label, if code calls it
abbrev pub routine_mark : Routine → (is_called : Bool) → (place : ℕ) → List Mark
routine_mark routine is_called place =
    if is_called then record { part = parts.Routine routine; place = place } ∷ [] else []

-- the marks of the routines that are called, where labels have these places
abbrev pub routine_marks :
    TreeModule → (called : List Bool) → (place_at : (label : ℕ) → ℕ) → List Routine → List Mark
routine_marks tree called place_at routines =
    flat_map
    (λ (routine : Routine).
    routine_mark routine (has_routine called routine) (place_at (module_label_of_routine tree routine).index))
    routines

-- the places of procedures, numbered from a number on, where labels have these places
abbrev pub procedure_places : (place_at : (label : ℕ) → ℕ) → (number : ℕ) → List TreeProcedure → List ℕ
procedure_places place_at number [] = []
procedure_places place_at number (procedure ∷ procedures) =
    place_at number ∷ procedure_places place_at (suc number) procedures

-- The marks of the code of a module: those of its own code, and then those of the routines that are called; and the places of the
-- labels of its procedures.
pub record AreMarksOf (tree : TreeModule) (marks : List Mark) (procedures : List ℕ) : Type 0 where
  pub start_label : ℕ
  pub code : Written
  pub bytes : Assembled
  pub code_is : IsCodeWritten tree start_label code
  pub assembles : Assembles code.code bytes
  pub own : List Mark
  pub marks_are :
      marks ≡ own ++ routine_marks tree code_is.called (place_of_label code bytes) all_routines
  pub procedures_are : procedures ≡ procedure_places (place_of_label code bytes) 0 tree.procedures.items
