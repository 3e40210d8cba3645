-- The tables of a program as the code fills them, one instruction after another.
use Rattle.std.specs.Prelude.{ℕ, zero, suc, ◌+◌, min, List, [], ◌∷◌, map, slice_get, slice_set}
use Rattle.std.specs.Option.{option_map_or}
use Rattle.typed_trees.specs.TypedTrees.{TypedProcedure, TypedModule}
use Rattle.typed_trees.specs.Charge.{charge_of}
use Rattle.stack_code.specs.declared.instruction.Instruction.{Instruction}
use Rattle.stack_code.specs.declared.instruction.Instruction.TheVariants.{Begin, Mark}
use Rattle.stack_code.specs.declared.program.Entry.{Entry}
use Rattle.stack_code.specs.declared.program.ModuleTable.{ModuleTable}

-- the table of a module
pub record Row : Type 0 where
  pub entries : List Entry
  pub labels : List ℕ

-- the table of a module in the code, as such a row
abbrev pub row_view : ModuleTable → Row
row_view table = record { entries = table.procedures.items; labels = table.labels.items }

-- a table with nothing in it
abbrev pub empty_row : Row
empty_row = record { entries = []; labels = [] }

-- before anything is found
abbrev pub started_entry : TypedProcedure → Entry
started_entry procedure = record { begin = 0; charge = min (charge_of procedure) 4294967295 }

abbrev pub started_row : TypedModule → Row
started_row typed = record { entries = map started_entry typed.procedures; labels = [] }

-- the first of two places, where 0 means no place
abbrev pub first_of : (first second : ℕ) → ℕ
first_of zero second = second
first_of (suc first) second = suc first

-- a list that is filled up to a count
abbrev pub padded : {A : Type 0} → A → List A → (count : ℕ) → List A
padded fill items zero = items
padded fill [] (suc count) = fill ∷ padded fill [] count
padded fill (item ∷ items) (suc count) = item ∷ padded fill items count

-- a list with a changed item, if it has it
abbrev pub updated : {A : Type 0} → (A → A) → List A → (number : ℕ) → List A
updated change items number =
    option_map_or (λ item. slice_set items number (change item)) (slice_get items number) items

-- the places of labels with one more, if the label has none
abbrev pub with_label : List ℕ → (label after : ℕ) → List ℕ
with_label labels label after = updated (λ place. first_of place after) (padded 0 labels (label + 1)) label

abbrev pub row_labelled : (label after : ℕ) → Row → Row
row_labelled label after row = record { entries = row.entries; labels = with_label row.labels label after }

-- an entry with a place, if it has none, and the same in a table
abbrev pub entry_begun : (after : ℕ) → Entry → Entry
entry_begun after entry = record { begin = first_of entry.begin after; charge = entry.charge }

abbrev pub row_begun : (number after : ℕ) → Row → Row
row_begun number after row =
    record { entries = updated (entry_begun after) row.entries number; labels = row.labels }

-- the tables once an instruction is noted that stands before a place
abbrev pub noted : List Row → (after : ℕ) → Instruction → List Row
noted rows after (Mark number_of_module label) =
    updated (row_labelled label after) (padded empty_row rows (suc number_of_module)) number_of_module
noted rows after (Begin number_of_module number) = updated (row_begun number after) rows number_of_module
noted rows after instruction = rows

-- the tables once instructions are noted that stand from a place on
abbrev pub noted_all : List Row → (at : ℕ) → List Instruction → List Row
noted_all rows at [] = rows
noted_all rows at (first ∷ others) = noted_all (noted rows (at + 1) first) (at + 1) others
