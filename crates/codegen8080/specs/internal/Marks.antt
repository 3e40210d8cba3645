-- Marks as they are made.
use Rattle.std.specs.Prelude.{◌≡◌, ℕ, suc, ◌+◌, min, Bool, false, List, [], ◌∷◌, ◌++◌, Option, drop, length, slice_index_or}
use Rattle.asm8080.specs.Assembled.{Assembled}
use Rattle.asm8080.specs.Items.{size_of_items}
use Rattle.asm8080.specs.declared.item.Item.{Item}
use Rattle.runtime8080.specs.declared.routine.Routine.{Routine}
use Rattle.treecode.specs.declared.module.TreeModule.{TreeModule}
use Rattle.treecode.specs.declared.procedure.TreeProcedure.{TreeProcedure}
use Rattle.steps8080.specs.internal.Externals.{entry}
use Rattle.steps8080.specs.internal.Writer.{place_of_known}
use Rattle.exprgen8080.specs.internal.Emission.{module_routine_label}
use Rattle.codegen8080.specs.declared.marking.CodePart.{CodePart}
use Rattle.codegen8080.specs.declared.marking.CodePart.TheVariants as parts
use Rattle.codegen8080.specs.declared.marking.OwnPart.{OwnPart}
use Rattle.codegen8080.specs.declared.marking.OwnPart.TheVariants as own_parts
use Rattle.codegen8080.specs.declared.marking.Mark.{Mark}
use Rattle.codegen8080.specs.declared.marking.Marks.{Marks}
use Rattle.codegen8080.specs.declared.marking.Begun.{Begun}
use Rattle.codegen8080.specs.internal.Marking.{routine_mark}

-- a part that is not a routine, among all parts
abbrev pub code_part : OwnPart → CodePart
code_part own_parts.Main = parts.Main
code_part (own_parts.Procedure number) = parts.Procedure number
code_part (own_parts.Statement number) = parts.Statement number

-- a part is put at the end of items, after those that come after the last part
pub record PutsPart (items : List Item) (part : OwnPart) (before after : Marks) : Type 0 where
  pub list : after.list.items
      ≡ before.list.items
      ++ record { part = part; distance = min (size_of_items (drop before.items items)) 65535 } ∷ []
  pub counted : after.items ≡ length items

-- the marks of parts that come after a place, in code that ends at another
abbrev pub marks_of_parts : (place end : ℕ) → List Begun → List Mark
marks_of_parts place end [] = []
marks_of_parts place end (part ∷ parts) =
    record { part = code_part part.part; place = min (place + part.distance) end }
    ∷ marks_of_parts (min (place + part.distance) end) end parts

-- the marks of the routines that are called, whose labels are those of the routines from an index on, in code with these
-- labels
abbrev pub marks_from :
    TreeModule → (called : List Bool) → Assembled → (labels : List (Option ℕ)) → (index : ℕ) → List Routine → List Mark
marks_from tree called bytes labels index [] = []
marks_from tree called bytes labels index (routine ∷ routines) =
    routine_mark routine (slice_index_or called index false)
    (place_of_known bytes (entry labels (module_routine_label tree index).index))
    ++ marks_from tree called bytes labels (suc index) routines

-- the places of procedures, numbered from a number on, in code with these labels
abbrev pub places_from : Assembled → (labels : List (Option ℕ)) → (number : ℕ) → List TreeProcedure → List ℕ
places_from bytes labels number [] = []
places_from bytes labels number (procedure ∷ procedures) =
    place_of_known bytes (entry labels number) ∷ places_from bytes labels (suc number) procedures
