-- Procedures with headings that are completed with their bodies.
use Rattle.std.specs.Prelude.{◌≡◌, ℕ, ◌<◌, List, length, Some, slice_get, slice_set, All}
use Rattle.std.specs.Option.{option_map_or}
use Rattle.typed_trees.specs.Jumps.{BodyIsSound}
use Rattle.typed_trees.specs.TypedTrees.{TypedModule, TypedProcedure}
use Rattle.layout.specs.Storage.{Storage}
use Rattle.treecode.specs.declared.module.TreeModule.{TreeModule}
use Rattle.treecode.specs.declared.procedure.TreeProcedure.{TreeProcedure}
use Rattle.treecode.specs.declared.procedures.Body.{Body}
use Rattle.treecode.specs.internal.Homes.{parameters_of}
use Rattle.treecode.specs.internal.Lowered.{HasBody}
use Rattle.treecode.specs.internal.Nodes.{nodes_of}
use Rattle.treecode.specs.internal.Beside.{Outside}
use Rattle.treecode.specs.internal.Sound.{Leads}
use Rattle.treecode.specs.internal.Walking.{Walk, begun, list_in}

-- a procedure with its body
abbrev pub completed : TreeProcedure → Body → TreeProcedure
completed procedure body = record procedure {
  parameters = body.parameters;
  body = body.range;
  reaches_its_end = body.reaches_its_end;
  label_count = body.label_count;
  height = body.height;
}

-- the body of a procedure was added
pub record IsBody (storage : Storage) (before after : Walk) (body : Body) (tree : TypedProcedure) : Type 0 where
  pub added : list_in storage (begun before) tree.body
      ≡ (after, record { range = body.range; reaches_its_end = body.reaches_its_end })
  pub parameters : body.parameters.items ≡ parameters_of (before.nodes).homes tree
  pub label_count : body.label_count ≡ after.label_count
  pub height : body.height ≡ after.height

-- the parts of a procedure that come from its heading are the same
pub record SameHeading (old now : TreeProcedure) : Type 0 where
  pub kind : now.kind ≡ old.kind
  pub result : now.result ≡ old.result
  pub frame : now.frame ≡ old.frame
  pub frame_bytes : now.frame_bytes ≡ old.frame_bytes

pub record HasHeading (procedures : List TreeProcedure) (number : ℕ) (now : TreeProcedure) : Type 0 where
  pub old : TreeProcedure
  pub at : slice_get procedures number ≡ Some old
  pub same : SameHeading old now

-- the first `done` procedures of a module are complete
pub record AreComplete (storage : Storage) (first now : Walk) (before after : Outside)
    (headings : List TypedProcedure) (done : ℕ) : Type 0 where
  pub leads : Leads first.nodes now.nodes
  pub others : after ≡ record before { procedures = after.procedures }
  pub count : length after.procedures ≡ length before.procedures
  pub headed :
      (number : ℕ) (procedure : TreeProcedure) → slice_get after.procedures number ≡ Some procedure
      → HasHeading before.procedures number procedure
  pub complete :
      (number : ℕ) (procedure : TreeProcedure) (tree : TypedProcedure) → number < done
      → slice_get after.procedures number ≡ Some procedure → slice_get headings number ≡ Some tree
      → HasBody now.nodes storage procedure tree

-- the main program is complete
pub record MainIsComplete (storage : Storage) (first now : Walk) (before after : Outside) (tree : TypedProcedure) :
    Type 0 where
  pub leads : Leads first.nodes now.nodes
  pub others : after ≡ record before { main = after.main }
  pub heading : SameHeading before.main after.main
  pub has_body : HasBody now.nodes storage after.main tree

-- the bodies of procedures are sound
abbrev pub BodiesAreSound : List TypedProcedure → Type 0
BodiesAreSound procedures = All (λ (procedure : TypedProcedure). BodyIsSound procedure.body) procedures

-- the procedure with this number, if any, is completed with its body
abbrev pub with_body : Outside → (number : ℕ) → Body → Outside
with_body before number body = record before {
  procedures = option_map_or
      (λ (procedure : TreeProcedure). slice_set before.procedures number (completed procedure body))
      (slice_get before.procedures number) before.procedures;
}

abbrev pub with_main : Outside → Body → Outside
with_main before body = record before { main = completed before.main body }

-- the bodies of the procedures and of the main program were added to the tables of a module
pub record BodiesAreAdded (typed : TypedModule) (storage : Storage) (before after : TreeModule) : Type 0 where
  pub leads : Leads (nodes_of before) (nodes_of after)
  pub name : after.name ≡ before.name
  pub externals : after.externals.items ≡ before.externals.items
  pub count : length after.procedures.items ≡ length before.procedures.items
  pub headed :
      (number : ℕ) (procedure : TreeProcedure) → slice_get after.procedures.items number ≡ Some procedure
      → HasHeading before.procedures.items number procedure
  pub complete :
      (number : ℕ) (procedure : TreeProcedure) (tree : TypedProcedure)
      → slice_get after.procedures.items number ≡ Some procedure → slice_get typed.procedures number ≡ Some tree
      → HasBody (nodes_of after) storage procedure tree
  pub main_heading : SameHeading before.main after.main
  pub main : HasBody (nodes_of after) storage after.main typed.main
