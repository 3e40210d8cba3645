-- Checks: something is found, or a fault of a cause is at a place.
use Rattle.std.specs.Prelude.{Bool, true, false, Option, Some, None, Result, Ok, Err}
use Rattle.trees.specs.declared.identifier.Place.{Place}
use Rattle.typing.specs.declared.fault.Cause.{Cause}
use Rattle.typing.specs.declared.fault.Fault.{Fault}

-- the result of a check, or the first fault
abbrev pub Checked : Type 0 → Type 0
Checked A = Result A Fault

-- continues if there is no fault
infixl 10 ◌>>=◌
abbrev pub ◌>>=◌ : {A B : Type 0} → Result A Fault → (A → Result B Fault) → Result B Fault
(Ok a) >>= next = next a
(Err fault) >>= next = Err fault

-- a fault of a cause at a place
abbrev pub refuse : {A : Type 0} → Cause → (place : Place) → Checked A
refuse cause place = Err (record { cause = cause; place = place })

-- a condition holds, or it is refused
abbrev pub require : Bool → Cause → (place : Place) → Checked (Unit {0})
require true cause place = Ok tt
require false cause place = refuse cause place

-- something is there, or it is refused
abbrev pub found : {A : Type 0} → Option A → Cause → (place : Place) → Checked A
found (Some a) cause place = Ok a
found None cause place = refuse cause place
