-- A program as stack code, with its tables.
use Rattle.std.specs.Prelude.{◌≡◌, ℕ, min, List, [], slice_get, slice_index_or, Option, Some, option_map}
use Rattle.std.specs.Option.{option_and_then, option_map_or}
use Rattle.typed_trees.specs.TypedTrees.{TypedProcedure, TypedModule}
use Rattle.typed_trees.specs.Charge.{charge_of}
use Rattle.layout.specs.Joined.{InProgram}
use Rattle.layout.specs.Placement.{Placement}
use Rattle.meaning.specs.Meaning.{procedure_at}
use Rattle.stack_code.specs.declared.instruction.Instruction.{Instruction}
use Rattle.stack_code.specs.declared.program.Entry.{Entry}
use Rattle.stack_code.specs.declared.program.ModuleTable.{ModuleTable}
use Rattle.stack_code.specs.declared.program.StackProgram.{StackProgram}
use Rattle.stack_code.specs.internal.Machine.{after_first, is_begin, is_mark}
use Rattle.stack_code.specs.internal.Code.{program_code}

-- the entry of the tables for a procedure
abbrev pub entry_in : List ModuleTable → InProgram → Option Entry
entry_in tables at =
    option_and_then (λ (table : ModuleTable). slice_get table.procedures.items at.number)
    (slice_get tables at.number_of_module)

-- and for a label: which instruction follows its mark, or 0 if it has none
abbrev pub label_in : List ModuleTable → (number_of_module label : ℕ) → ℕ
label_in tables number_of_module label =
    option_map_or (λ (table : ModuleTable). slice_index_or table.labels.items label 0)
    (slice_get tables number_of_module) 0

-- where a procedure begins in the code, and what its calls are charged with
abbrev pub entry_of : List Instruction → InProgram → TypedProcedure → Entry
entry_of code at procedure =
    record { begin = after_first (is_begin at) code; charge = min (charge_of procedure) 4294967295 }

-- the tables say where each procedure and each label of the modules stands in the code
pub record AreTablesOf (modules : List TypedModule) (code : List Instruction) (tables : List ModuleTable) : Type 0 where
  pub entries : (at : InProgram) → entry_in tables at
      ≡ option_map (λ (found : TypedModule × TypedProcedure). entry_of code at found.1) (procedure_at modules at)
  pub labels : (number_of_module label : ℕ) → label_in tables number_of_module label
      ≡ after_first (is_mark number_of_module label) code

-- the code of a program whose main module has this number, with its tables
pub record IsProgramAt
    (modules : List TypedModule) (placement : Placement) (number_of_main : ℕ) (main : TypedModule)
    (program : StackProgram) : Type 0 where
  pub code : program.instructions.items ≡ program_code modules placement number_of_main main
  pub tables : AreTablesOf modules program.instructions.items program.modules.items
