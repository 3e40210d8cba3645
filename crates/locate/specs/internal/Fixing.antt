-- The bytes of a run with the fixes among them applied, place by place: the fixes are by their places and are
-- taken from the front.
use Rattle.std.specs.Prelude.{ℕ, ◌+◌, ◌==◌, if◌then◌else◌, List, [], ◌∷◌, Option, Some, None}
use Rattle.object_modules.specs.declared.segment.Fix.{Fix}
use Rattle.object_modules.specs.declared.segment.FixKind.{FixKind}
use Rattle.object_modules.specs.declared.segment.FixKind.TheVariants.{Low, High, Both}
use Rattle.object_modules.specs.declared.segment.Target.{Target}
use Rattle.object_modules.specs.Moving.{first_byte_moved, second_byte_moved}

-- the first byte of a word as it was, and the gain of the word
pub record Carry : Type 0 where
  pub first : ℕ
  pub gain : ℕ

-- a place in a segment, the fixes from there on, and the word that began at the place before
pub record Walk : Type 0 where
  pub offset : ℕ
  pub fixes : List Fix
  pub word : Option Carry

-- the fix that begins at an offset, if the first of these does
abbrev pub first_at : (offset : ℕ) → List Fix → Option Fix
first_at offset [] = None
first_at offset (fix ∷ others) = if fix.offset == offset then Some fix else None

-- the fixes after that
abbrev pub after_first : Option Fix → List Fix → List Fix
after_first None fixes = fixes
after_first (Some fix) [] = []
after_first (Some fix) (first ∷ others) = others

-- only a fix of both bytes reaches the next place
abbrev pub carry_by : FixKind → (value gain : ℕ) → Option Carry
carry_by Low value gain = None
carry_by High value gain = None
carry_by Both value gain = Some (record { first = value; gain = gain })

-- a byte where no fix begins
abbrev pub second_by : (value : ℕ) → Option Carry → ℕ
second_by value None = value
second_by value (Some word) = second_byte_moved word.first value word.gain

-- the new value of a byte, by the fix that begins there and the word before
abbrev pub value_by : (gain_of : Target → ℕ) → (value : ℕ) → Option Carry → Option Fix → ℕ
value_by gain_of value word None = second_by value word
value_by gain_of value word (Some fix) = first_byte_moved fix.kind value (gain_of fix.target)

abbrev pub word_by : (gain_of : Target → ℕ) → (value : ℕ) → Option Fix → Option Carry
word_by gain_of value None = None
word_by gain_of value (Some fix) = carry_by fix.kind value (gain_of fix.target)

abbrev pub value_at : (gain_of : Target → ℕ) → Walk → (value : ℕ) → ℕ
value_at gain_of walk value = value_by gain_of value walk.word (first_at walk.offset walk.fixes)

abbrev pub walk_after : (gain_of : Target → ℕ) → Walk → (value : ℕ) → Walk
walk_after gain_of walk value = record {
  offset = walk.offset + 1;
  fixes = after_first (first_at walk.offset walk.fixes) walk.fixes;
  word = word_by gain_of value (first_at walk.offset walk.fixes);
}

-- the new values of the bytes from a place on
abbrev pub values_from : (gain_of : Target → ℕ) → Walk → List ℕ → List ℕ
values_from gain_of walk [] = []
values_from gain_of walk (value ∷ others) =
    value_at gain_of walk value ∷ values_from gain_of (walk_after gain_of walk value) others

-- the fixes after these bytes
abbrev pub fixes_after : (gain_of : Target → ℕ) → Walk → List ℕ → List Fix
fixes_after gain_of walk [] = walk.fixes
fixes_after gain_of walk (value ∷ others) = fixes_after gain_of (walk_after gain_of walk value) others

abbrev pub walk_at : (offset : ℕ) → List Fix → Walk
walk_at offset fixes = record { offset = offset; fixes = fixes; word = None }
