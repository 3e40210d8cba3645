-- A file judged from its front: its parts, or its first fault.
use Rattle.std.specs.Prelude.{ℕ, zero, suc, List, [], ◌∷◌, length, drop, reverse, Option, Some, None, Result, Ok, Err}
use Rattle.omf80.specs.Records.{record_end}
use Rattle.object_modules.specs.declared.fault.Fault.{Fault}
use Rattle.object_modules.specs.declared.fault.Fault.TheVariants.{OutOfOrder}
use Rattle.object_modules.specs.Module.{ObjectModule}
use Rattle.object_modules.specs.Parts.{Part}
use Rattle.object_modules.specs.Reading.{first_part}
use Rattle.object_modules.specs.Rules.{fault_at}
use Rattle.object_modules.specs.Spelling.{module_of}

-- the fault, if there is one, or else the judgement after the part in front; nothing comes after the end of
-- the file
abbrev pub judged_by :
    (judged_next : List Part → Result (List Part) Fault) → (before : List Part) → Option Fault → Option Part
    → Result (List Part) Fault
judged_by judged_next before (Some fault) part = Err fault
judged_by judged_next before None None = Ok (reverse before)
judged_by judged_next before None (Some part) = judged_next (part ∷ before)

-- the parts before, given latest first, and then those of the bytes; or the first fault
abbrev pub judged_after : (count : ℕ) → (before : List Part) → (bytes : List ℕ) → Result (List Part) Fault
judged_after zero before bytes = Err OutOfOrder
judged_after (suc count) before bytes =
    judged_by (λ parts. judged_after count parts (drop (record_end bytes) bytes)) before
    (fault_at before bytes) (first_part bytes)

-- the parts of a file; each record has at least one byte
unfoldable pub parts_of : List ℕ → Result (List Part) Fault
parts_of bytes = judged_after (suc (length bytes)) [] bytes

abbrev pub module_from : Result (List Part) Fault → Result ObjectModule Fault
module_from (Ok parts) = Ok (module_of parts)
module_from (Err fault) = Err fault

-- the module that a file spells, or its first fault
abbrev pub judgement_of : List ℕ → Result ObjectModule Fault
judgement_of bytes = module_from (parts_of bytes)
