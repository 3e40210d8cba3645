-- Object modules and refusals by the code bound.
use Rattle.generation.proofs.Prelude.{Result, Ok, Err, subst, ObjectModule, TypedModule, TreeModule, IsLowered, stored, Fault, TooLong, Generated, IsGenerated, MayRefuse, IsSound, code_is_within_its_bound, segment_is_within_its_bound, too_long_is_past_its_bound, IsPastBound, IsWithinBound, MakesNone}
use Rattle.failure.specs.{declared.Failure.{Failure}, Failure.{IfFault}}
use Rattle.failure.specs.declared.Failure.TheVariants as failures
use Rattle.layout.specs.{Storage.{Storage, storage_with}, Sound.{IsSoundlyTyped}}

-- what the size of code depends on
pub sound_for_bounds : (typed : TypedModule) → IsSoundlyTyped typed → IsSound typed
sound_for_bounds typed sound = record {
  types = sound.types;
  jumps = sound.jumps;
  frames = sound.frames;
  parameters = sound.parameters;
  storable = sound.storable;
}

pub within_bound : (tree : TreeModule) (object : ObjectModule) → IsGenerated tree object
    → IsWithinBound tree object
within_bound tree object is typed code =
    segment_is_within_its_bound typed code.storage tree object code.sound code.lowered is

past_bound : (tree : TreeModule) (fault : Fault) → MayRefuse tree fault → IsPastBound tree fault
past_bound tree TooLong refused = λ typed code.
    too_long_is_past_its_bound typed code.storage tree code.sound code.few code.lowered refused

pub refusal_past_bound :
    (tree : TreeModule) (result : Result Generated (Failure Fault))
    → IfFault result (λ fault. MayRefuse tree fault)
    → IfFault result (λ fault. IsPastBound tree fault)
refusal_past_bound tree (Ok generated) is = tt
refusal_past_bound tree (Err (failures.Fault fault)) is = past_bound tree fault is
refusal_past_bound tree (Err failures.Memory) is = tt

-- so no object module is made of the module
not_made : (tree : TreeModule) (fault : Fault) → MayRefuse tree fault → MakesNone tree fault
not_made tree fault refused = λ typed code.
    let laid = stored typed code.storage code.laid_out in
    let sound = sound_for_bounds typed code.sound in
    let lowered : IsLowered typed (storage_with typed) tree =
    subst (λ (storage : Storage). IsLowered typed storage tree) laid.storage_is code.lowered in
    record {
      tree = tree;
      lowered = lowered;
      refused = refused;
      bound = λ start written is.
          code_is_within_its_bound typed (storage_with typed) tree start written sound lowered is;
      passes =
          past_bound tree fault refused typed
          (record {
            storage = storage_with typed;
            lowered = lowered;
            sound = sound;
            few = laid.data_fits;
          });
    }

pub refusal_makes_none :
    (tree : TreeModule) (result : Result Generated (Failure Fault))
    → IfFault result (λ fault. MayRefuse tree fault)
    → IfFault result (λ fault. MakesNone tree fault)
refusal_makes_none tree (Ok generated) is = tt
refusal_makes_none tree (Err (failures.Fault fault)) is = not_made tree fault is
refusal_makes_none tree (Err failures.Memory) is = tt
