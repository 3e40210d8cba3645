-- A program that is built with as much stack as it needs.
use Rattle.built_laws.proofs.Prelude.{◌≡◌, ℕ, ◌+◌, ◌<◌, ◌≤◌, List, Some, min, arith, ap, subst, TypedModule, program_modules, Construction, IsConstruction}
use Rattle.ports.specs.declared.event.Event.{Event}
use Rattle.layout.specs.{Placement.{Placement}, Placing.{placement_by}}
use Rattle.meaning.specs.{declared.reason.Reason.{Reason, TheVariants.{Divide, Byte, Constant, Stack}}, Run.{NeverOutside, source_run}}
use Rattle.stack_need.specs.StackNeed.{IsEnough, TellsNeed}
use Rattle.built_laws.specs.NeededRoom.{DoesWhatItSaysWithRoom, EndsWithItsMemoryWithRoom, NeverOutsideButForStack}

-- with enough room, a program that goes outside for no other reason than the stack never goes outside
never_outside : (modules : List TypedModule) (placement : Placement) (need room : ℕ) (memory : List ℕ)
    (script : List (List ℕ)) (events : List Event) → IsEnough modules need → need ≤ room
    → NeverOutsideButForStack (source_run modules placement room memory script events)
    → NeverOutside (source_run modules placement room memory script events)
never_outside modules placement need room memory script events enough fits other budget Divide =
    other budget Divide (λ same. cc)
never_outside modules placement need room memory script events enough fits other budget Byte =
    other budget Byte (λ same. cc)
never_outside modules placement need room memory script events enough fits other budget Constant =
    other budget Constant (λ same. cc)
never_outside modules placement need room memory script events enough fits other budget Stack =
    enough placement room memory script events budget fits

-- room for what is told is room for the need, where the room is less than the greatest number of 32 bits
room_for_need : (need room : ℕ) → min need 4294967295 ≤ room → room < 4294967295 → need ≤ room
room_for_need need room fits small = omega (arith, fits, small)

-- the same with room for what is told of the need
never_with_room : (modules : List TypedModule) (placement : Placement) (shown room : ℕ) (memory : List ℕ)
    (script : List (List ℕ)) (events : List Event)
    → TellsNeed modules (Some shown) → shown ≤ room → room < 4294967295
    → NeverOutsideButForStack (source_run modules placement room memory script events)
    → NeverOutside (source_run modules placement room memory script events)
unfolding TellsNeed
never_with_room modules placement shown room memory script events (acyclic, (need, (is, shown_is))) fits
    small =
    never_outside modules placement need room memory script events is.enough
    (room_for_need need room (subst (λ n. n ≤ room) shown_is fits) small)

-- the stack of a program that is built lies in memory
stack_of : (built : Construction) → IsConstruction built
    → built.placement.stack ≡ record { start = built.plan.stack; len = built.plan.stack_size }
unfolding placement_by
stack_of built is = ap (λ (placement : Placement). placement.stack) is.as_planned

small_stack : (built : Construction) → IsConstruction built → built.plan.stack_size < 4294967295
small_stack built is =
    let lies : built.plan.stack + built.plan.stack_size ≤ 65536 =
    rw (stack_of built is) at is.lawful.stack_in_memory in
    omega (arith, lies)

-- A program that needs so much stack, and is built with a stack of at least as many bytes, does what its
-- sources say or goes outside for another reason than the stack.
pub built_with_room : (built : Construction) (shown : ℕ) → IsConstruction built → TellsNeed (program_modules built.program) (Some shown) → shown ≤ built.plan.stack_size
    → DoesWhatItSaysWithRoom (program_modules built.program) built.placement built.plan.stack_size built.image
built_with_room built shown is tells fits memory script events is_memory is_script other =
    is.headline memory script events is_memory is_script
    (never_with_room (program_modules built.program) built.placement shown built.plan.stack_size memory script
    events tells fits (small_stack built is) other)

-- And it ends with their memory, or goes outside for another reason than the stack.
pub built_ends_with_room :
    (built : Construction) (shown : ℕ)
    → IsConstruction built
    → TellsNeed (program_modules built.program) (Some shown)
    → shown ≤ built.plan.stack_size
    → EndsWithItsMemoryWithRoom (program_modules built.program) built.placement built.plan.stack_size
    built.image
built_ends_with_room built shown is tells fits memory script events is_memory is_script other =
    is.memory memory script events is_memory is_script
    (never_with_room (program_modules built.program) built.placement shown built.plan.stack_size memory script
    events tells fits (small_stack built is) other)
