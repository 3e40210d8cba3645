-- Object modules that are soundly made of the modules of a program make the program.
use Rattle.generation.proofs.Prelude.{List, [], ◌∷◌, ObjectModule, TypedModule, segment_is_within_its_bound, are_storable, as_many_lengths, each_holds_constants, have_image, hold_constants, is_in_memory, has_names, has_segments, is_object_of, NumbersFitInModule, AreSoundlyMade, IsSoundlyMade, are_made, made_program_does, made_program_ends, generated_does, AllZip, KeepsBound, KeepsContract}
use Rattle.image_laws.proofs.Memory.Starting.{starts_as_its_source}
use Rattle.generation.specs.internal.Programs.{MakeTheProgram}
use Rattle.generation.proofs.Bounding.{sound_for_bounds}

-- the code segment of an object module that is soundly made of a module is within the code bound of the
-- module
keeps_bound : (typed : TypedModule) (object : ObjectModule) → IsSoundlyMade typed object
    → KeepsBound typed object
keeps_bound typed object made =
    let is = made.made in (
      (hold_constants (typed ∷ []) (object ∷ []) (is, tt)).0,
      segment_is_within_its_bound typed is.storage is.tree object
          (sound_for_bounds typed made.facts) is.lowered
          is.generated,
    )

-- the numbers of a module have the width of a word
pub numbers_fit :
    (typed : TypedModule) (object : ObjectModule) → IsSoundlyMade typed object → NumbersFitInModule typed
numbers_fit typed object made = (generated_does typed object made).numbers

-- an object module that is soundly made of a module keeps what `generate` promises
pub keeps_contract :
    (typed : TypedModule) (object : ObjectModule) → IsSoundlyMade typed object → KeepsContract typed object
keeps_contract typed object made =
    let is = made.made in
    record {
      does = generated_does typed object made;
      valid = is.valid;
      is_object = is_object_of typed is.storage is.tree object is.laid is.lowered is.valid is.generated;
      segments = has_segments typed is.storage is.tree object is.laid is.lowered is.valid is.generated;
      names = has_names typed is.storage is.tree object is.laid is.lowered is.generated;
      bound = keeps_bound typed object made;
    }

keep_contracts :
    (modules : List TypedModule) (objects : List ObjectModule)
    → AreSoundlyMade modules objects
    → AllZip KeepsContract modules objects
keep_contracts [] [] made = tt
keep_contracts [] (object ∷ objects) made = absurd made
keep_contracts (typed ∷ modules) [] made = absurd made
keep_contracts (typed ∷ modules) (object ∷ objects) made =
    (keeps_contract typed object made.0, keep_contracts modules objects made.1)

pub make_the_program :
    (modules : List TypedModule) (objects : List ObjectModule)
    → AreSoundlyMade modules objects
    → MakeTheProgram modules objects
make_the_program modules objects made =
    let are = are_made modules objects made in
    record {
      lengths = as_many_lengths modules objects are;
      constants = each_holds_constants modules objects are;
      storable = are_storable modules objects are;
      contracts = keep_contracts modules objects made;
      linked = λ plan joined may_lie. have_image plan modules objects joined are may_lie;
      starts = λ plan merged image before after loaded.
          starts_as_its_source plan modules objects merged image before after
          (is_in_memory plan modules objects merged image before after loaded.joined are
          loaded.lawful loaded.merge
          loaded.placed loaded.loaded loaded.size);
      does = λ plan merged image before after script events registers loaded is_memory is_script bytes never.
          made_program_does plan modules objects merged image before after loaded.joined made
          loaded.lawful loaded.merge
          loaded.placed loaded.loaded loaded.size is_memory script events registers is_script bytes never;
      memory =
          λ plan merged image before after script events registers loaded is_memory is_script bytes never.
          made_program_ends plan modules objects merged image before after loaded.joined made
          loaded.lawful loaded.merge
          loaded.placed loaded.loaded loaded.size is_memory script events registers is_script bytes never;
    }
