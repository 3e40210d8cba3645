use Rattle.treecode.proofs.Prelude.{◌∙◌, sym, arith, layout_view, walk_of}
use Rattle.treecode.proofs.StatementLoops.{goal_added, goals_all_added}
use Rattle.treecode.proofs.lowering.Lowering.goals.Goals as goal

pub loop-target-preserved : goal.loop-target-preserved
loop-target-preserved c = (
  c.in_ok-target.ensures.kept ∙ (c.loop-target.invariant).0,
  goal_added (layout_view c.args.storage.now) (walk_of c.loop-target.self) c.loop-target.added.items _
      c.args.targets.now c.loop-target.target-index (c.loop-target.invariant).1
      c.target-item.result (walk_of c.goal.new.self) c.in_ok-target.target c.push.new.self.items
      (omega arith) c.target-item.is c.in_ok-target.ensures.ok c.in_ok-push.ensures.items,
)

pub returns-clause-ok : goal.returns-clause-ok
returns-clause-ok c =
    sym (goals_all_added (layout_view c.args.storage.now) (walk_of c.loop-target.self)
    c.loop-target.added.items _
    c.args.targets.now c.loop-target.target-index (c.loop-target.invariant).1 (omega arith))
