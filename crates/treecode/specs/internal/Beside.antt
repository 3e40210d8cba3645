-- The parts of a module that is being lowered beside its tables of nodes.
use Rattle.std.specs.Prelude.{ℕ, List, Option}
use Rattle.treecode.specs.declared.lowering.Lowering.{Lowering}
use Rattle.treecode.specs.declared.module.ExternalName.{ExternalName}
use Rattle.treecode.specs.declared.procedure.TreeProcedure.{TreeProcedure}
use Rattle.treecode.specs.internal.Nodes.{Nodes, nodes_of}
use Rattle.treecode.specs.internal.Walking.{Walk}

-- the parts that no statement changes
pub record Outside : Type 0 where
  pub name : List ℕ
  pub externals : List ExternalName
  pub procedures : List TreeProcedure
  pub main : TreeProcedure

-- the parts that no expression changes
pub record Beside : Type 0 where
  pub labels : List (Option ℕ)
  pub label_count : ℕ
  pub height : ℕ
  pub outside : Outside

unfoldable pub beside : Lowering → Beside
beside lowering = record {
  labels = lowering.labels.entries.items;
  label_count = lowering.label_count;
  height = lowering.height;
  outside = record {
    name = lowering.tree.name;
    externals = lowering.tree.externals.items;
    procedures = lowering.tree.procedures.items;
    main = lowering.tree.main;
  };
}

abbrev pub outside : Lowering → Outside
outside lowering = (beside lowering).outside

-- the body that is being lowered
abbrev pub walk_with : Nodes → Beside → Walk
walk_with nodes around = record {
  nodes = nodes;
  labels = around.labels;
  label_count = around.label_count;
  height = around.height;
}

abbrev pub walk_of : Lowering → Walk
walk_of lowering = walk_with (nodes_of lowering.tree) (beside lowering)
