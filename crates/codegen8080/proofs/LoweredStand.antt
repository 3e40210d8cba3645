-- The bodies of lowered tree code stand: so its code can be generated.
use Rattle.codegen8080.proofs.Prelude.{◌≡◌, ◌<◌, length, Result, Ok, Err, IfOk, slice_get_within, arith, TreeModule}
use Rattle.typed_trees.specs.TypedTrees.{TypedModule}
use Rattle.layout.specs.Storage.{Storage}
use Rattle.treecode.specs.internal.Lowered.{IsLowered}
use Rattle.treecode.proofs.OwnNames.{item_within}
use Rattle.codegen8080.proofs.Standing.{list_stands}
use Rattle.codegen8080.specs.internal.Standing.{BodiesStand}

-- each procedure of the tree code has its heading in the module
pub bodies_stand :
    (typed : TypedModule) (storage : Storage) (tree : TreeModule)
    → IsLowered typed storage tree
    → BodiesStand tree
bodies_stand typed storage tree lowered = record {
  main = list_stands lowered.main.body;
  procedures = λ number procedure there.
      let as_many : length tree.procedures.items ≡ length typed.procedures = lowered.procedure_count in
      let within : number < length tree.procedures.items =
      slice_get_within tree.procedures.items number procedure there in
      let heading = item_within typed.procedures number (omega (arith, as_many, within)) in
      list_stands (lowered.procedures number procedure heading.0 there heading.1).has_body.body;
}

-- so do those of a result, if there is one
pub stands_result :
    {E : Type 0} (typed : TypedModule) (storage : Storage) (result : Result TreeModule E)
    → IfOk result (IsLowered typed storage)
    → IfOk result BodiesStand
stands_result typed storage (Ok tree) lowered = bodies_stand typed storage tree lowered
stands_result typed storage (Err fault) lowered = lowered
