-- The places of the variables and parameters of a call of a REENTRANT procedure on the stack. Upwards from
-- the stack pointer, when nothing is pushed, these are: the variables in the order of their declarations; a
-- word with the last parameter; the return address; a word with each other parameter, from the last to the
-- first. Without parameters the return address follows the variables. Distances are in bytes, upwards from
-- the stack pointer.
use Rattle.std.specs.Prelude.{◌≡◌, ℕ, zero, suc, ◌+◌, ◌-◌, ◌*◌, ◌<◌, ◌≤◌, List, [], ◌∷◌, length, take, Option, Some, None, slice_get, slice_index_or}
use Rattle.std.specs.Option.{option_map_or}
use Rattle.mem80.specs.declared.memory.TheConstants.{MEMORY_SIZE}
use Rattle.mem80.specs.declared.range.Range.{Range}
use Rattle.mem80.specs.Range.{IsIn}
use Rattle.typed_trees.specs.Sizes.{size_of_scalar}
use Rattle.treecode.specs.declared.procedure.FrameVariable.{FrameVariable}
use Rattle.treecode.specs.declared.procedure.Parameter.{Parameter}
use Rattle.treecode.specs.declared.procedure.TreeProcedure.{TreeProcedure}
use Rattle.frames.specs.declared.frame_plan.FramePlan.{FramePlan}

-- the bytes that a variable takes before the return address; a parameter has a word instead
abbrev pub bytes_by_parameter : (size : ℕ) → (parameter : Option ℕ) → ℕ
bytes_by_parameter size None = size
bytes_by_parameter size (Some index) = 0

-- the bytes of the variables of a frame, without its parameters
abbrev pub variable_bytes : List FrameVariable → ℕ
variable_bytes [] = 0
variable_bytes (first ∷ others) = bytes_by_parameter first.size first.parameter + variable_bytes others

-- the distance of the return address, from the bytes of the variables and the number of parameters
abbrev pub return_distance : (bytes parameters : ℕ) → ℕ
return_distance bytes zero = bytes
return_distance bytes (suc others) = bytes + 2

-- the distance of the word of a parameter with `followers` parameters after it
abbrev pub word_distance : (bytes followers : ℕ) → ℕ
word_distance bytes zero = bytes
word_distance bytes (suc others) = bytes + 4 + 2 * others

-- the distance of a parameter of `size` bytes: a BYTE is the high byte of its word
abbrev pub parameter_distance : (bytes followers size : ℕ) → ℕ
parameter_distance bytes followers size = word_distance bytes followers + (2 - size)

-- the distance of the variable or parameter with this number in the frame
abbrev pub distance_by_parameter :
    List FrameVariable → (parameters number size : ℕ) → (parameter : Option ℕ) → ℕ
distance_by_parameter frame parameters number size None = variable_bytes (take number frame)
distance_by_parameter frame parameters number size (Some index) =
    parameter_distance (variable_bytes frame) (parameters - index - 1) size

abbrev pub distance_in : List FrameVariable → (parameters number : ℕ) → FrameVariable → ℕ
distance_in frame parameters number variable =
    distance_by_parameter frame parameters number variable.size variable.parameter

-- all bytes of a call: the return address, a word for each parameter, and the variables
abbrev pub bytes_of_call : TreeProcedure → ℕ
bytes_of_call procedure = 2 + 2 * length procedure.parameters.items + procedure.frame_bytes

-- the parameter was found, and its type has `size` bytes
abbrev pub HasSize : (size : ℕ) → Option Parameter → Type 0
HasSize size None = ⊥
HasSize size (Some parameter) = size ≡ size_of_scalar parameter.scalar

-- The frame of a typed procedure, if it is smaller than memory. A larger one never fits when called.
pub record HasFrame (procedure : TreeProcedure) : Type 0 where
  -- each parameter in it is one of the procedure's, and has the size of its type
  pub parameters :
      (number index : ℕ) (variable : FrameVariable)
      → slice_get procedure.frame.items number ≡ Some variable
      → variable.parameter ≡ Some index
      → HasSize variable.size (slice_get procedure.parameters.items index)
  -- no parameter is in it twice
  pub once :
      (number other index : ℕ) (variable same : FrameVariable)
      → slice_get procedure.frame.items number ≡ Some variable
      → slice_get procedure.frame.items other ≡ Some same
      → variable.parameter ≡ Some index
      → same.parameter ≡ Some index
      → number ≡ other
  pub bytes : procedure.frame_bytes ≡ variable_bytes procedure.frame.items
  pub in_memory : bytes_of_call procedure < MEMORY_SIZE

-- the distance of the variable or parameter with this number in a plan, and that of the return address
abbrev pub distance_of : FramePlan → (number : ℕ) → ℕ
distance_of plan number = slice_index_or plan.distances.items number 0

abbrev pub return_of : FramePlan → Range
return_of plan = record { start = return_distance plan.variable_bytes plan.parameter_count; len = 2 }

-- the plan of a procedure without a frame
pub record HasNothing (plan : FramePlan) : Type 0 where
  pub distances : plan.distances.items ≡ []
  pub variable_bytes : plan.variable_bytes ≡ 0
  pub parameter_count : plan.parameter_count ≡ 0

-- the plan of a frame
pub record IsPlanOf (procedure : TreeProcedure) (plan : FramePlan) : Type 0 where
  pub variable_bytes : plan.variable_bytes ≡ procedure.frame_bytes
  pub parameter_count : plan.parameter_count ≡ length procedure.parameters.items
  pub distances :
      (number : ℕ) (variable : FrameVariable)
      → slice_get procedure.frame.items number ≡ Some variable
      → distance_of plan number
      ≡ distance_in procedure.frame.items (length procedure.parameters.items) number variable

-- the size in bytes of the variable or parameter with this number
abbrev pub size_in : List FrameVariable → (number : ℕ) → ℕ
size_in frame number = option_map_or (λ (variable : FrameVariable). variable.size) (slice_get frame number) 0

-- Each byte of a frame has a place of its own among the bytes of the call, outside the return address. The
-- bytes of one variable or parameter are consecutive, upwards.
pub record LiesApart (procedure : TreeProcedure) (plan : FramePlan) : Type 0 where
  pub within :
      (number offset : ℕ)
      → offset < size_in procedure.frame.items number
      → distance_of plan number + offset < bytes_of_call procedure
  pub return_within : (return_of plan).start + 2 ≤ bytes_of_call procedure
  pub off_return :
      (number offset : ℕ)
      → offset < size_in procedure.frame.items number
      → ¬ IsIn (distance_of plan number + offset) (return_of plan)
  pub apart :
      (number offset other other_offset : ℕ)
      → offset < size_in procedure.frame.items number
      → other_offset < size_in procedure.frame.items other
      → distance_of plan number + offset ≡ distance_of plan other + other_offset
      → number ≡ other
