-- The activations and contexts of the bodies of a module.
use Rattle.std.specs.Prelude.{ℕ, ◌+◌, ◌*◌, length, slice_get, if◌then◌else◌}
use Rattle.std.specs.Borrow.{Bor}
use Rattle.std.specs.Option.{option_map_or}
use Rattle.typed_trees.specs.Frames.{is_in_frame}
use Rattle.typed_trees.specs.Sizes.{size_of_object}
use Rattle.typed_trees.specs.TypedTrees.{TypedModule, TypedObject, TypedProcedure}
use Rattle.typed_trees.specs.WellTyped.{Within}
use Rattle.meaning.specs.Meaning.{later_by}
use Rattle.treecode.specs.internal.Homes.{frame_number}
use Rattle.treecode.specs.internal.Lowered.{labels_numbered_in_list}
use Rattle.frames.specs.declared.frame_plan.FramePlan.{FramePlan}
use Rattle.frames.specs.internal.Frames.{distance_of, return_of}
use Rattle.code_meaning.specs.internal.Activations.{Activation}
use Rattle.steps8080.specs.internal.Facts.{no_facts}
use Rattle.statements8080.specs.declared.body.Body.{Body}
use Rattle.statement_laws.specs.internal.CodeContexts.{Context}
use Rattle.statement_laws.specs.internal.Bodies.{BodyContext}
use Rattle.procedure_laws.specs.internal.Modules.{ModuleCode, surroundings_in}

-- where an activation lies: the lowest byte of the stack that it may change; where the stack pointer is when nothing is
-- pushed; how far above that each object of its frame begins, and how many bytes it has; how far above it the return
-- address and the caller's stack are
pub record Shape : Type 0 where
  pub floor : ℕ
  pub level : ℕ
  pub distance : (object : ℕ) → ℕ
  pub size : (object : ℕ) → ℕ
  pub back : ℕ
  pub whole : ℕ

-- an activation of code of a module, with so much room on the stack
abbrev pub activation_in : ModuleCode → (room : ℕ) → Shape → Activation
activation_in code room shape = record {
  around = surroundings_in code room;
  layout = code.layout;
  image = code.image;
  floor = shape.floor;
  level = shape.level;
  distance = shape.distance;
  size = shape.size;
  back = shape.back;
  whole = shape.whole;
}

-- What a body of a module is carried out in, where further turns, jumps and calls are tied by a bound, and calls are
-- known in runs of less than a number.
abbrev pub context_in : ModuleCode → Within → Bor FramePlan → (bound number room : ℕ) → Shape → Context
context_in code within frame bound number room shape = record {
  typed = code.typed;
  storage = code.storage;
  within = within;
  site = record { tree = code.tree; frame = frame; facts = no_facts };
  called = code.called;
  later = later_by bound;
  number = number;
  activation = activation_in code room shape;
}

-- a body of a module, with the numbers of its labels
abbrev pub body_in : ModuleCode → Within → Body → TypedProcedure → (bound number room : ℕ) → Shape → BodyContext
body_in code within body found bound number room shape = record {
  context = context_in code within body.frame bound number room shape;
  body = body;
  labels = labels_numbered_in_list found.body;
}

-- without a frame and a return address, as in the main program
abbrev pub main_shape : (floor level : ℕ) → Shape
main_shape floor level = record {
  floor = floor;
  level = level;
  distance = λ object. 0;
  size = λ object. 0;
  back = 0;
  whole = 0;
}

-- without a frame, and with the return address at the stack pointer
abbrev pub static_shape : (floor level : ℕ) → Shape
static_shape floor level = record {
  floor = floor;
  level = level;
  distance = λ object. 0;
  size = λ object. 0;
  back = 0;
  whole = 2;
}

-- how many bytes an object has in the frame of a procedure
abbrev pub size_in_frame : TypedModule → (procedure object : ℕ) → ℕ
size_in_frame typed procedure object =
    option_map_or
    (λ (found : TypedObject). if is_in_frame procedure found.home then size_of_object found else 0)
    (slice_get typed.objects object) 0

-- with the frame of a plan
abbrev pub frame_shape : TypedModule → (procedure : ℕ) → TypedProcedure → FramePlan → (floor level : ℕ) → Shape
frame_shape typed procedure found plan floor level = record {
  floor = floor;
  level = level;
  distance = λ object. distance_of plan (frame_number typed procedure object);
  size = λ object. size_in_frame typed procedure object;
  back = (return_of plan).start;
  whole = 2 + 2 * length found.parameters + found.frame_bytes;
}
