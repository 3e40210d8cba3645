-- A program whose object modules are made of its modules, linked, placed and loaded, does what its source
-- does.
use Rattle.program_laws.proofs.Prelude.{◌≡◌, ℕ, zero, suc, List, [], ◌∷◌, Option, Some, None, Ok, length, refl, sym, subst, ◌∙◌, slice_get, none-some, same_Some, MEMORY_SIZE, IsMemory, Event, IsScript, Image, image_of, merge_of, ObjectModule, IsLoaded, TypedModule, IsJoined, IsLawful, PlacingPlan, NeverOutside, source_outcome, source_run, HoldBytes, Registers, running, state_after, plan_of, IsInMemory, placement_of, is_linked, AreMadeOf, Agrees, EndsAlike, ModulesAre, ModuleIs, AreSoundlyMade, IsSoundlyMade}
use Rattle.program_laws.proofs.Made.{is_in_memory}
use Rattle.program_laws.proofs.Programs.{program_does, program_ends}

-- without what is known of their types and words
pub are_made : (modules : List TypedModule) (objects : List ObjectModule)
    → AreSoundlyMade modules objects
    → AreMadeOf modules objects
are_made [] [] made = tt
are_made [] (object ∷ objects) made = absurd made
are_made (typed ∷ modules) [] made = absurd made
are_made (typed ∷ modules) (object ∷ objects) made = (made.0.made, are_made modules objects made.1)

-- one of them
record SoundAt (objects : List ObjectModule) (number : ℕ) (typed : TypedModule) : Type 0 where
  object : ObjectModule
  found : slice_get objects number ≡ Some object
  sound : IsSoundlyMade typed object

sound_at : (modules : List TypedModule) (objects : List ObjectModule) (number : ℕ) (typed : TypedModule)
    → AreSoundlyMade modules objects
    → slice_get modules number ≡ Some typed
    → SoundAt objects number typed
sound_at [] objects number typed made found = absurd (none-some typed found)
sound_at (first ∷ modules) [] number typed made found = absurd made
sound_at (first ∷ modules) (object ∷ objects) zero typed made found = record {
  object = object;
  found = refl;
  sound = subst (λ (typed : TypedModule). IsSoundlyMade typed object) (same_Some first typed found) made.0;
}
sound_at (first ∷ modules) (object ∷ objects) (suc number) typed made found =
    let rest = sound_at modules objects number typed made.1 found in
    record { object = rest.object; found = rest.found; sound = rest.sound }

module _
    (plan : PlacingPlan) (modules : List TypedModule) (objects : List ObjectModule) (merged : ObjectModule)
    (image : Image) (before after : List ℕ)
    (made : AreSoundlyMade modules objects)
    (is : IsInMemory plan modules objects merged image before after)
  where
    abbrev At : ℕ → Type 0
    At number = ModuleIs plan modules objects merged before after number

    module_at : (number : ℕ) (typed : TypedModule) → slice_get modules number ≡ Some typed → At number
    module_at number typed found =
        let sound = sound_at modules objects number typed made found in
        let linked = is_linked plan modules objects merged image before after is number typed found in
        record {
          typed = typed;
          found = found;
          at = linked;
          sound =
              subst (IsSoundlyMade typed)
              (same_Some sound.object linked.linked.object (sym sound.found ∙ linked.object_found))
              sound.sound;
        }

    found_at : (number : ℕ) (found : Option TypedModule) → slice_get modules number ≡ found
        → Option (At number)
    found_at number None there = None
    found_at number (Some typed) there = Some (module_at number typed there)

    all_at : (number : ℕ) (typed : TypedModule) (found : Option TypedModule)
        (there : slice_get modules number ≡ found)
        → found ≡ Some typed
        → (module_is : At number) × (found_at number found there ≡ Some module_is)
    unfolding found_at
    all_at number typed None there same = absurd (none-some typed same)
    all_at number typed (Some other) there same = (module_at number other there, refl)

    modules_are : ModulesAre plan modules objects merged before after
    modules_are = record {
      at = λ number. found_at number (slice_get modules number) refl;
      all = λ number typed found. all_at number typed (slice_get modules number) refl found;
    }

module _
    (plan : PlacingPlan) (modules : List TypedModule) (objects : List ObjectModule) (merged : ObjectModule)
    (image : Image) (before after : List ℕ)
    (joined : IsJoined modules)
    (made : AreSoundlyMade modules objects)
    (lawful : IsLawful modules (placement_of plan modules objects))
    (merge : merge_of objects ≡ Ok merged)
    (placed : image_of (plan_of plan) merged ≡ Ok image)
    (loaded : IsLoaded image.byte_at before after)
    (size : length before ≡ MEMORY_SIZE)
    (is_memory : IsMemory after)
    (script : List (List ℕ)) (events : List Event) (r : Registers)
    (bytes : IsScript script)
    (registers : HoldBytes r)
    (never : NeverOutside
    (λ (budget : ℕ).
    source_run modules (placement_of plan modules objects) (placement_of plan modules objects).stack.len
    before script events
    budget))
  where
    in_memory : IsInMemory plan modules objects merged image before after
    in_memory =
        is_in_memory plan modules objects merged image before after joined (are_made modules objects made)
        lawful merge placed loaded size

    -- The machine performs exactly the port reads and writes of the source, in order and with the same
    -- values, and halts exactly if the source ends, for every starting memory and every script.
    pub made_program_does :
        Agrees
        (λ (budget : ℕ).
        source_run modules (placement_of plan modules objects) (placement_of plan modules objects).stack.len
        before script events
        budget)
        (λ (steps : ℕ). state_after script steps (running (record r { pc = image.start }) after events))
    made_program_does =
        program_does plan modules objects merged image before after in_memory script bytes is_memory
        (modules_are plan modules objects merged image before after made in_memory)
        events r registers never

    -- And it ends with the memory of the source.
    pub made_program_ends :
        EndsAlike modules (placement_of plan modules objects)
        (λ (budget : ℕ).
        source_outcome modules (placement_of plan modules objects)
        (placement_of plan modules objects).stack.len
        before script events
        budget)
        (λ (steps : ℕ). state_after script steps (running (record r { pc = image.start }) after events))
    made_program_ends =
        program_ends plan modules objects merged image before after in_memory script bytes is_memory
        (modules_are plan modules objects merged image before after made in_memory)
        events r registers never
