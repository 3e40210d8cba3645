-- What object modules of the modules of a program come to: they can be linked and placed, and loaded they do what the program
-- says.
use Rattle.std.specs.Prelude.{◌≡◌, ℕ, ◌≤◌, List, All, length, zip, None, Ok}
use Rattle.std.specs.List.{AllZip}
use Rattle.mem80.specs.declared.memory.TheConstants.{MEMORY_SIZE}
use Rattle.mem80.specs.Memory.{IsMemory}
use Rattle.mem80.specs.Pieces.{IsLoaded}
use Rattle.ports.specs.declared.event.Event.{Event}
use Rattle.ports.specs.Input.{IsScript}
use Rattle.isa8080.specs.State.{HoldBytes, Registers}
use Rattle.isa8080.specs.Step.{running, state_after}
use Rattle.object_modules.specs.Image.{Image, image_of}
use Rattle.object_modules.specs.Merge.{merge_of}
use Rattle.object_modules.specs.Module.{ObjectModule}
use Rattle.typed_trees.specs.Storable.{IsStorable}
use Rattle.typed_trees.specs.TypedTrees.{TypedModule}
use Rattle.typed_trees.specs.Weight.{constant_bytes}
use Rattle.layout.specs.Joined.{IsJoined}
use Rattle.layout.specs.Lawful.{IsLawful}
use Rattle.layout.specs.Placement.{AgreesOnDeclared}
use Rattle.layout.specs.Placing.{Plan, placing_refusal}
use Rattle.layout.specs.StartingMemory.{starting_memory}
use Rattle.meaning.specs.Run.{NeverOutside, source_outcome, source_run}
use Rattle.image_laws.specs.internal.AtPlans.{code_lengths_of, plan_of}
use Rattle.image_laws.specs.internal.ProgramInMemory.{placement_of}
use Rattle.image_laws.specs.internal.Names.{HaveImage}
use Rattle.program_laws.specs.Agreement.{Agrees}
use Rattle.program_laws.specs.MemoryAtEnd.{EndsAlike}
use Rattle.generation.specs.Kept.{KeepsContract}

-- The object modules of a joined program are merged, placed by a plan at which it lies lawfully, and put into a memory.
pub record AreLoaded
    (plan : Plan) (modules : List TypedModule) (objects : List ObjectModule) (merged : ObjectModule) (image : Image)
    (before after : List ℕ) : Type 0 where
  pub joined : IsJoined modules
  pub lawful : IsLawful modules (placement_of plan modules objects)
  pub merge : merge_of objects ≡ Ok merged
  pub placed : image_of (plan_of plan) merged ≡ Ok image
  pub loaded : IsLoaded image.byte_at before after
  pub size : length before ≡ MEMORY_SIZE

-- Object modules make the program of modules.
pub record MakeTheProgram (modules : List TypedModule) (objects : List ObjectModule) : Type 0 where
  -- there is a code segment for each module, which holds its constants, and a place for its objects
  pub lengths : length (code_lengths_of objects) ≡ length modules
  pub constants :
      All (λ (segment : TypedModule × ℕ). constant_bytes segment.0 ≤ segment.1)
      (zip modules (code_lengths_of objects))
  pub storable : All IsStorable modules
  -- each object module keeps what `generate` promises
  pub contracts : AllZip KeepsContract modules objects
  -- they can be linked and placed by each plan that the program is not refused for
  pub linked :
      (plan : Plan)
      → IsJoined modules
      → placing_refusal plan modules (code_lengths_of objects) ≡ None
      → HaveImage plan objects
  -- loaded, each declared byte begins as in a run of the source
  pub starts :
      (plan : Plan) (merged : ObjectModule) (image : Image) (before after : List ℕ)
      → AreLoaded plan modules objects merged image before after
      → AgreesOnDeclared modules (placement_of plan modules objects)
      (starting_memory modules (placement_of plan modules objects) before) after
  -- and the machine performs what the source does, from every memory and with every script
  pub does :
      (plan : Plan) (merged : ObjectModule) (image : Image) (before after : List ℕ)
      (script : List (List ℕ)) (events : List Event) (registers : Registers)
      → AreLoaded plan modules objects merged image before after
      → IsMemory after
      → IsScript script
      → HoldBytes registers
      → NeverOutside
      (source_run modules (placement_of plan modules objects) (placement_of plan modules objects).stack.len before
      script events)
      → Agrees
      (source_run modules (placement_of plan modules objects) (placement_of plan modules objects).stack.len before
      script events)
      (λ (steps : ℕ).
      state_after script steps (running (record registers { pc = image.start }) after events))
  -- and ends with the memory of the source
  pub memory :
      (plan : Plan) (merged : ObjectModule) (image : Image) (before after : List ℕ)
      (script : List (List ℕ)) (events : List Event) (registers : Registers)
      → AreLoaded plan modules objects merged image before after
      → IsMemory after
      → IsScript script
      → HoldBytes registers
      → NeverOutside
      (source_run modules (placement_of plan modules objects)
      (placement_of plan modules objects).stack.len before script events)
      → EndsAlike modules (placement_of plan modules objects)
      (source_outcome modules (placement_of plan modules objects)
      (placement_of plan modules objects).stack.len before script events)
      (λ (steps : ℕ).
      state_after script steps (running (record registers { pc = image.start }) after events))
