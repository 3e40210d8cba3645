-- The order of records, by the kind of the latest one.
use Rattle.std.specs.Prelude.{◌==◌, Bool, false, Option, Some, None}
use Rattle.omf80.specs.declared.kind.RecordKind.{RecordKind}
use Rattle.object_modules.specs.Before.{rank_of, is_header, may_come_after}

abbrev pub may_come : (latest : Option RecordKind) → RecordKind → Bool
may_come None kind = is_header kind
may_come (Some latest) kind = may_come_after latest kind

-- the latest record ends the file
abbrev pub is_over : (latest : Option RecordKind) → Bool
is_over None = false
is_over (Some latest) = rank_of latest == 5
