-- A byte that is moved is a byte.
use Rattle.object_modules.proofs.Prelude.{None, Option, Some, arith, ℕ, ◌<◌}
use Rattle.object_modules.specs.declared.segment.FixKind.TheVariants.{Both, High, Low}
use Rattle.object_modules.specs.declared.segment.FixKind.{FixKind}
use Rattle.object_modules.specs.Module.{Fixup, SetByte}
use Rattle.object_modules.specs.declared.segment.Target.{Target}
use Rattle.object_modules.specs.Moving.{after_fixup, first_byte_moved, value_after, value_moved}

-- a fix makes a byte of a byte
pub first_is_byte : (kind : FixKind) (value gain : ℕ) → first_byte_moved kind value gain < 256
first_is_byte Low value gain = omega arith
first_is_byte High value gain = omega arith
first_is_byte Both value gain = omega arith

pub second_is_byte :
    (gain_of : Target → ℕ) (first value : ℕ) (kind : FixKind) (target : Target) → value < 256
    → after_fixup gain_of first value (Some (record { kind = kind; target = target })) < 256
second_is_byte gain_of first value Low target low = low
second_is_byte gain_of first value High target low = low
second_is_byte gain_of first value Both target low = omega arith

pub after_is_byte :
    (gain_of : Target → ℕ) (first value : ℕ) (fixup : Option Fixup) → value < 256
    → after_fixup gain_of first value fixup < 256
after_is_byte gain_of first value None low = low
after_is_byte gain_of first value (Some fixup) low =
    second_is_byte gain_of first value fixup.kind fixup.target low

pub place_is_byte :
    (gain_of : Target → ℕ) (before : Option SetByte) (value : ℕ) → value < 256
    → value_after gain_of before value < 256
place_is_byte gain_of None value low = low
place_is_byte gain_of (Some before) value low = after_is_byte gain_of before.value value before.fixup low

pub moved_is_byte :
    (gain_of : Target → ℕ) (before : Option SetByte) (value : ℕ) (fixup : Option Fixup) → value < 256
    → value_moved gain_of before (record { value = value; fixup = fixup }) < 256
moved_is_byte gain_of before value None low = place_is_byte gain_of before value low
moved_is_byte gain_of before value (Some fixup) low = first_is_byte fixup.kind value (gain_of fixup.target)
