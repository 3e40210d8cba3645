-- The bodies of procedures and main programs.
use Rattle.std.specs.Prelude.{ℕ, ◌+◌, ◌%◌, Bool, true, false, ◌||◌, nat_eq, Option, Some, None}
use Rattle.treecode.specs.declared.place.Location.{Location}
use Rattle.treecode.specs.declared.place.Location.TheVariants.{Static, Frame}
use Rattle.treecode.specs.declared.reference.Reference.{Reference}
use Rattle.frames.specs.internal.Frames.{distance_of}
use Rattle.steps8080.specs.declared.step.LabelNumber.{LabelNumber}
use Rattle.statements8080.specs.declared.body.Body.{Body}
use Rattle.statements8080.specs.internal.Plans.{nth_label}

-- the label of the code for a label of a body, by its number there
abbrev pub body_label : Body → (number : ℕ) → LabelNumber
body_label body number = nth_label body.first_label.index number

-- whether a word at this distance above the stack pointer is one of the two next to it
abbrev pub is_next_to_stack : (distance : ℕ) → Bool
is_next_to_stack distance = nat_eq distance 0 || nat_eq distance 2

-- whether the code loads and stores a word at a location without its address in HL: in memory, or as one of
-- the two words next to the stack pointer, when nothing is pushed
abbrev pub is_near : Body → Option Location → Bool
is_near body (Some (Static place)) = true
is_near body (Some (Frame variable offset)) =
    is_next_to_stack ((distance_of body.frame.now variable + offset) % 65536)
is_near body None = false

-- a whole object
abbrev pub whole : (object : ℕ) → Reference
whole object = record { object = object; subscript = None; offset = 0; member_subscript = None }
