-- A program whose object modules are made of its modules, linked and placed, does what its sources say, and
-- ends with their memory.
use Rattle.tool.proofs.Prelude.{ℕ, List, sym, subst, arith, IsMemory, ObjectModule, TypedModule, IsJoined, IsLawful, placement_by, plan_view, Plan, Absolute, loaded, Agrees, EndsAlike, AreLoaded, AreSoundlyMade, make_the_program, DoesWhatItSays, EndsWithItsMemory, machine_run, IsImageOfObjects, StartsAsItsSource, code_lengths, GivesImageOfObjects}
use Rattle.meaning.specs.Run.{source_outcome, source_run}
use Rattle.isa8080.specs.{State.{HoldBytes}, Step.{initial_registers, initial_state, state_after}}

-- the object modules of a program are loaded into a memory with their image
loads :
    (plan : Plan) (modules : List TypedModule) (objects : List ObjectModule) (image : Absolute)
    → IsJoined modules
    → IsLawful modules (placement_by (plan_view plan) modules (code_lengths objects))
    → (linked : IsImageOfObjects plan objects image)
    → GivesImageOfObjects plan objects image
    → (memory : List ℕ)
    → IsMemory memory
    → AreLoaded (plan_view plan) modules objects linked.merged linked.placed.image memory
    (loaded image.pieces memory)
loads plan modules objects image joined lawful linked gives memory is_memory =
    let placed = linked.placed in
    record {
      joined = joined;
      lawful = lawful;
      merge = linked.merge;
      placed = placed.found;
      loaded = (gives linked.merged linked.merge placed.image placed.found memory is_memory).has_image;
      size = is_memory.size;
    }

-- registers of 0 hold bytes
hold_bytes : (start : ℕ) → HoldBytes (initial_registers start)
hold_bytes start = record {
  a = omega arith;
  b = omega arith;
  c = omega arith;
  d = omega arith;
  e = omega arith;
  h = omega arith;
  l = omega arith;
}

-- For every program whose object modules are made of its modules, every memory, every script and all events before it, if
-- the source never goes outside with the stack of the plan, the image performs exactly the port reads and
-- writes of the source, in order and with the same values, and it halts exactly if the source ends.
pub does_what_it_says :
    (plan : Plan) (modules : List TypedModule) (objects : List ObjectModule) (image : Absolute)
    → IsJoined modules
    → AreSoundlyMade modules objects
    → IsLawful modules (placement_by (plan_view plan) modules (code_lengths objects))
    → IsImageOfObjects plan objects image
    → GivesImageOfObjects plan objects image
    → DoesWhatItSays modules (placement_by (plan_view plan) modules (code_lengths objects))
    plan.stack_size image
unfolding machine_run placement_by
does_what_it_says plan modules objects image joined made lawful linked gives memory script events
    is_memory is_script never =
    let placed = linked.placed in
    subst (λ (start : ℕ).
    Agrees (source_run modules (placement_by (plan_view plan) modules (code_lengths objects)) plan.stack_size
    memory script events)
    (λ (steps : ℕ). state_after script steps (initial_state (loaded image.pieces memory) events start)))
    (sym placed.start)
    ((make_the_program modules objects made).does (plan_view plan) linked.merged placed.image memory
    (loaded image.pieces memory)
    script events (initial_registers placed.image.start)
    (loads plan modules objects image joined lawful linked gives memory is_memory)
    (gives linked.merged linked.merge placed.image placed.found memory is_memory).is_memory
    is_script (hold_bytes placed.image.start)
    never)

-- And where the source ends, the image ends with its memory.
pub ends_with_its_memory :
    (plan : Plan) (modules : List TypedModule) (objects : List ObjectModule) (image : Absolute)
    → IsJoined modules
    → AreSoundlyMade modules objects
    → IsLawful modules (placement_by (plan_view plan) modules (code_lengths objects))
    → IsImageOfObjects plan objects image
    → GivesImageOfObjects plan objects image
    → EndsWithItsMemory modules (placement_by (plan_view plan) modules (code_lengths objects))
    plan.stack_size image
unfolding machine_run placement_by
ends_with_its_memory plan modules objects image joined made lawful linked gives memory script events
    is_memory is_script never =
    let placed = linked.placed in
    subst (λ (start : ℕ).
    EndsAlike modules (placement_by (plan_view plan) modules (code_lengths objects))
    (source_outcome modules (placement_by (plan_view plan) modules (code_lengths objects)) plan.stack_size
    memory script events)
    (λ (steps : ℕ). state_after script steps (initial_state (loaded image.pieces memory) events start)))
    (sym placed.start)
    ((make_the_program modules objects made).memory (plan_view plan) linked.merged placed.image memory
    (loaded image.pieces memory)
    script events (initial_registers placed.image.start)
    (loads plan modules objects image joined lawful linked gives memory is_memory)
    (gives linked.merged linked.merge placed.image placed.found memory is_memory).is_memory
    is_script (hold_bytes placed.image.start) never)

-- and in every memory into which the image is loaded each declared byte begins as its source has it
pub declared_bytes_start :
    (plan : Plan) (modules : List TypedModule) (objects : List ObjectModule) (image : Absolute)
    → IsJoined modules
    → AreSoundlyMade modules objects
    → IsLawful modules (placement_by (plan_view plan) modules (code_lengths objects))
    → IsImageOfObjects plan objects image
    → GivesImageOfObjects plan objects image
    → StartsAsItsSource modules (placement_by (plan_view plan) modules (code_lengths objects)) image
unfolding placement_by
declared_bytes_start plan modules objects image joined made lawful linked gives memory is_memory =
    (make_the_program modules objects made).starts (plan_view plan) linked.merged linked.placed.image memory
    (loaded image.pieces memory)
    (loads plan modules objects image joined lawful linked gives memory is_memory)
