-- The frames of calls: the bytes of an object in the frame of a procedure, and the results of reads and writes of
-- the last frame.
use Rattle.std.specs.Prelude.{ℕ, ◌+◌, ◌*◌, ◌/◌, ◌%◌, ◌==◌, Bool, false, List, [], ◌∷◌, length, map, replicate, slice_index, slice_set, Option, Some, None, if◌then◌else◌}
use Rattle.trees.specs.declared.declaration.ScalarType.{ScalarType}
use Rattle.trees.specs.declared.declaration.ScalarType.TheVariants.{Byte, Address}
use Rattle.typed_trees.specs.TypedTrees.{Home, InFrame, TypedObject, TypedModule}
use Rattle.typed_trees.specs.Sizes.{size_of_object}
use Rattle.meaning.specs.Access.{frame_bytes}

-- which procedure's frame an object is in, if any, and how many bytes it has there
pub record FrameObject : Type 0 where
  pub procedure : Option ℕ
  pub size : ℕ

-- the objects of a module in frames, and how many procedures it has
pub record ModuleFrames : Type 0 where
  pub objects : List FrameObject
  pub procedures : ℕ

-- an object by where it lives
abbrev pub frame_object_by : Home → (size : ℕ) → FrameObject
frame_object_by (InFrame procedure) size = record { procedure = Some procedure; size = size }
frame_object_by home size = record { procedure = None; size = 0 }

abbrev pub frame_object : TypedObject → FrameObject
frame_object object = frame_object_by object.home (size_of_object object)

abbrev pub module_frames : TypedModule → ModuleFrames
module_frames typed =
    record { objects = map frame_object typed.objects; procedures = length typed.procedures }

-- how many bytes an object has in the frame of a procedure
abbrev pub is_procedure : (procedure : ℕ) → Option ℕ → Bool
is_procedure procedure None = false
is_procedure procedure (Some other) = procedure == other

abbrev pub size_in : (procedure : ℕ) → FrameObject → ℕ
size_in procedure object = if is_procedure procedure object.procedure then object.size else 0

abbrev pub sizes_in : (procedure : ℕ) → List FrameObject → List ℕ
sizes_in procedure objects = map (size_in procedure) objects

-- the frame of a procedure as a call begins: zeros
abbrev pub zeroed : (sizes : List ℕ) → List (List ℕ)
zeroed sizes = map (λ size. replicate size 0) sizes

abbrev pub zeroed_frame : (procedure : ℕ) → ModuleFrames → List (List ℕ)
zeroed_frame procedure frames = zeroed (sizes_in procedure frames.objects)

-- the last frame; it is empty while only the main program runs
abbrev pub current_frame : List (List (List ℕ)) → List (List ℕ)
current_frame [] = []
current_frame (frame ∷ callers) = frame

-- the frames with the last one changed
abbrev pub with_current : (List (List ℕ) → List (List ℕ)) → List (List (List ℕ)) → List (List (List ℕ))
with_current change [] = []
with_current change (frame ∷ callers) = change frame ∷ callers

-- a frame with a byte of an object written
abbrev pub frame_with_byte : (object offset byte : ℕ) → List (List ℕ) → List (List ℕ)
frame_with_byte object offset byte frame =
    slice_set frame object (slice_set (frame_bytes frame object) offset byte)

-- a scalar in a frame; of an ADDRESS the low byte comes first
abbrev pub frame_scalar : ScalarType → List (List ℕ) → (object offset : ℕ) → ℕ
frame_scalar Byte frame object offset = slice_index (frame_bytes frame object) offset
frame_scalar Address frame object offset =
    slice_index (frame_bytes frame object) offset + 256 * slice_index (frame_bytes frame object) (offset + 1)

-- a frame with a scalar of an object written
abbrev pub frame_with_scalar : ScalarType → (object offset number : ℕ) → List (List ℕ) → List (List ℕ)
frame_with_scalar Byte object offset number frame = frame_with_byte object offset (number % 256) frame
frame_with_scalar Address object offset number frame =
    frame_with_byte object (offset + 1) (number / 256) (frame_with_byte object offset (number % 256) frame)
