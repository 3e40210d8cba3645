use Rattle.treecode.proofs.Prelude.{List, map, ap, sym, ◌∙◌, IfOk-weaker, target_view, layout_view, Target, walk_of, goals_in}
use Rattle.treecode.proofs.PutNodes.{targets_put}
use Rattle.treecode.proofs.lowering.Lowering.targets.Goals as goal

pub returns-clause-ok : goal.returns-clause-ok
returns-clause-ok c =
    IfOk-weaker c.add_targets.result _ _
    (λ range added.
    targets_put c.goals.new.self c.add_targets.new.self
    (goals_in (layout_view c.args.storage.now) (walk_of c.args.self.now) (map target_view c.args.targets.now))
    c.as_slice.result.now range
    (c.in_ok-added.ensures.ok
    ∙ ap (λ (all : List Target). (walk_of c.goals.new.self, all)) (sym c.as_slice.ensures.value))
    c.add_targets.ensures.kept added.0 added.1 added.2)
    c.add_targets.ensures.ok
