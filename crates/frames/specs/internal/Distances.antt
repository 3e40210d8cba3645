-- The distances of a frame as one pass over it computes them, in 16 bits.
use Rattle.std.specs.Prelude.{◌≡◌, ℕ, zero, suc, ◌+◌, ◌-◌, ◌*◌, min, List, [], ◌∷◌, length, Option, Some, None}
use Rattle.treecode.specs.declared.procedure.FrameVariable.{FrameVariable}
use Rattle.treecode.specs.declared.procedure.TreeProcedure.{TreeProcedure}
use Rattle.frames.specs.declared.frame_plan.FramePlan.{FramePlan}
use Rattle.frames.specs.internal.Frames.{variable_bytes}

-- a sum saturated at 16 bits
abbrev pub capped : ℕ → ℕ
capped n = min n 65535

-- the words between the variables and the word of a parameter with `followers` parameters after it
abbrev pub capped_words : (followers : ℕ) → ℕ
capped_words zero = 0
capped_words (suc others) = capped (suc others + 1)

-- a BYTE is the high byte of its word
abbrev pub capped_in_word : (word size : ℕ) → ℕ
capped_in_word word (suc zero) = capped (word + 1)
capped_in_word word size = word

abbrev pub capped_parameter : (bytes followers size : ℕ) → ℕ
capped_parameter bytes followers size =
    capped_in_word (capped (bytes + capped (capped_words followers * 2))) size

abbrev pub capped_distance : (bytes parameters next size : ℕ) → (parameter : Option ℕ) → ℕ
capped_distance bytes parameters next size None = next
capped_distance bytes parameters next size (Some index) = capped_parameter bytes (parameters - index - 1) size

-- the distance of the next variable
abbrev pub next_after : (next size : ℕ) → (parameter : Option ℕ) → ℕ
next_after next size None = capped (next + size)
next_after next size (Some index) = next

abbrev pub distances_from : (bytes parameters next : ℕ) → List FrameVariable → List ℕ
distances_from bytes parameters next [] = []
distances_from bytes parameters next (first ∷ others) =
    capped_distance bytes parameters next first.size first.parameter
    ∷ distances_from bytes parameters (next_after next first.size first.parameter) others

-- the results of one pass over the frame of a procedure
pub record IsFound (procedure : TreeProcedure) (plan : FramePlan) : Type 0 where
  pub variable_bytes : plan.variable_bytes ≡ capped (variable_bytes procedure.frame.items)
  pub parameter_count : plan.parameter_count ≡ capped (length procedure.parameters.items)
  pub distances :
      plan.distances.items
      ≡ distances_from plan.variable_bytes plan.parameter_count 0 procedure.frame.items
