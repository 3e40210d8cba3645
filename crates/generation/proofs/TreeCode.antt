-- What tree code of a module keeps of the module.
use Rattle.generation.proofs.Prelude.{◌≡◌, ℕ, IfOk, IfOk-weaker, List, Result, length, Some, slice_get, sym, ap, ◌∙◌, TypedModule, TypedProcedure, stored, TreeModule, TreeProcedure, IsLowered, nodes_of, OfItsModule}
use Rattle.std.specs.Prelude.{map, zip}
use Rattle.trees.specs.declared.declaration.ScalarType.{ScalarType}
use Rattle.layout.specs.{Storage.{Storage}, Sound.{IsSoundlyTyped}}
use Rattle.treecode.specs.{internal.Homes.{parameter_at}, declared.procedure.Parameter.{Parameter}}
use Rattle.frames.specs.internal.Charges.{IsChargedAs}
use Rattle.frames.proofs.{Frames.{parameter_count}, Parameters.{has_parameters}}
use Rattle.codegen8080.specs.internal.Sources.{IsOfModule}
use Rattle.measure_laws.proofs.Labels.Placing.{labels_have_places}
use Rattle.generation.specs.internal.TreeCode.{KeepsModule}
use Rattle.generation.proofs.{Bounding.{sound_for_bounds}, Contract.{code_does}, Counting.{tree_bound_is}}

module _
    (typed : TypedModule) (storage : Storage) (tree : TreeModule)
    (sound : IsSoundlyTyped typed) (lowered : IsLowered typed storage tree)
  where
    -- a procedure of a number is charged as its heading
    charged :
        (number : ℕ) (procedure : TreeProcedure) (heading : TypedProcedure)
        → slice_get tree.procedures.items number ≡ Some procedure
        → slice_get typed.procedures number ≡ Some heading
        → IsChargedAs procedure heading
    charged number procedure heading there stands =
        let is = lowered.procedures number procedure heading there stands in
        record {
          parameters =
              parameter_count typed number heading (nodes_of tree).homes procedure.parameters.items
              (has_parameters typed number heading sound.parameters stands) is.has_body.parameters;
          frame_bytes = is.frame_bytes;
          height = is.has_body.height;
        }

    -- the main program has no parameters and no frame
    main_charged : IsChargedAs tree.main typed.main
    main_charged = record {
      parameters =
          ap (λ (parameters : List Parameter). length parameters) lowered.main.parameters
          ∙ ap
          (λ (types : List ScalarType).
          length (map (parameter_at (nodes_of tree).homes) (zip types typed.main.parameters)))
          sound.parameters.main.0
          ∙ sym (ap (λ (places : List ℕ). length places) sound.parameters.main.1);
      frame_bytes = lowered.main_frame_bytes ∙ sym sound.frames.main;
      height = lowered.main.height;
    }

keeps_module :
    (typed : TypedModule) (storage : Storage) (tree : TreeModule)
    → IsLowered typed storage tree
    → KeepsModule typed storage tree
unfolding KeepsModule OfItsModule
keeps_module typed storage tree lowered sound laid_out = record {
  procedures = charged typed storage tree sound lowered;
  main = main_charged typed storage tree sound lowered;
  bound = tree_bound_is typed storage tree sound (stored typed storage laid_out) lowered;
  does = λ object generated valid.
      code_does tree object generated valid typed
      (record { sound = sound; storage = storage; laid_out = laid_out; lowered = lowered });
}

-- so does that of a result, if there is one
pub keeps_result :
    {E : Type 0} (typed : TypedModule) (storage : Storage) (result : Result TreeModule E)
    → IfOk result (IsLowered typed storage)
    → IfOk result (KeepsModule typed storage)
keeps_result typed storage result lowered =
    IfOk-weaker result _ _ (λ tree is. keeps_module typed storage tree is) lowered

-- it is of the module that it is lowered from
pub source_result :
    {E : Type 0} (typed : TypedModule) (storage : Storage) (result : Result TreeModule E)
    → IsSoundlyTyped typed
    → IfOk result (IsLowered typed storage)
    → IfOk result IsOfModule
source_result typed storage result sound lowered =
    IfOk-weaker result _ _ (λ tree is. record {
      typed = typed;
      storage = storage;
      jumps = sound.jumps;
      globals = sound.globals;
      lowered = is;
      placed = labels_have_places typed storage tree (sound_for_bounds typed sound) is;
    }) lowered
