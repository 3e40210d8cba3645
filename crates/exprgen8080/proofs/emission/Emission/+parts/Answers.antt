use Rattle.exprgen8080.proofs.Prelude.{◌<◌, refl, rules, sym, ap, subst, ◌∙◌, take, AddsWithLabels, Site, Emission, part_measure, step_measure, task_labels, task_steps}
use Rattle.exprgen8080.proofs.Ranks.Tasks.{measure_falls}
use Rattle.exprgen8080.proofs.Emitting.{IsWriting, none_passed, step_passed, writing_begins, writing_ends}
use Rattle.exprgen8080.proofs.emission.Emission.+parts.Goals.{emit-in-Some+in_ok-add, emit-in_default}
use Rattle.exprgen8080.proofs.emission.Emission.+parts.Goals as goal

pub emit-add-requires : goal.emit-add-requires
emit-add-requires t c =
    let lower : step_measure c.args.site.now.tree.now c.in-Some.step
    < part_measure c.args.site.now.tree.now c.args.part =
    measure_falls c.args.site.now.tree.now c.args.part c.loop-index.self.steps.list.items c.loop-index.index _
    c.loop-index.invariant.below (sym c.get.ensures ∙ c.in-Some.is) in
    search rules

pub emit-loop-index-init : goal.emit-loop-index-init
emit-loop-index-init t c =
    let planned : Emission = record (c.args.self.now) { steps = c.plan_task.new.steps } in
    subst (λ start. IsWriting c.args.site.now c.args.part c.args.self.now planned start c.count-end.result)
    (sym c.count-start.ensures)
    (writing_begins c.args.site.now c.args.part c.args.self.now c.args.self.now planned
    c.count-end.result refl
    (subst
    (λ (here : Site). AddsWithLabels c.args.self.now.steps c.plan_task.new.steps
    (task_labels here c.args.part)
    (task_steps here c.args.part))
    c.site-here.ensures c.in_ok-plan_task.ensures)
    c.plan_task.new.steps.few
    c.requires
    (sym c.count-end.ensures))

pub emit-loop-index-preserved : goal.emit-loop-index-preserved
emit-loop-index-preserved t c = elim c.match-get.branch [
  | emit-in-Some+in_ok-add w ↦
      rw (w.self-is)
      (step_passed c.args.site.now c.args.part c.args.self.now c.loop-index.self _ c.loop-index.index
      c.count-end.result c.loop-index.invariant _
      (sym c.get.ensures ∙ w.in-Some.is)
      w.in_ok-add.ensures)
  | emit-in_default w ↦
      rw (w.self-is)
      (none_passed c.args.site.now c.args.part c.args.self.now c.loop-index.self c.loop-index.index
      c.count-end.result c.loop-index.invariant
      (sym c.get.ensures ∙ w.in_default.is))
]

pub emit-returns : goal.emit-returns
emit-returns t c =
    writing_ends c.args.site.now c.args.part c.args.self.now c.loop-index.self
    (record (c.loop-index.self) { steps = c.truncate.new.self })
    c.loop-index.index c.count-end.result c.loop-index.invariant c.loop-index-test.false refl
    (c.truncate.ensures.list ∙ ap (λ count. take count c.loop-index.self.steps.list.items)
    c.count-start.ensures)
    c.truncate.ensures.labels
