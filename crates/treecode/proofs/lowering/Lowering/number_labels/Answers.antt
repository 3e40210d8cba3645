use Rattle.treecode.proofs.Prelude.{◌∙◌, refl, sym, arith, walk_of}
use Rattle.treecode.proofs.LabelLoop.{labels_begin, label_more, labels_end}
use Rattle.treecode.proofs.lowering.Lowering.number_labels.Goals as goal

pub loop-index-init : goal.loop-index-init
loop-index-init c = (refl, labels_begin (walk_of c.args.self.now) c.args.first c.args.count)

pub loop-index-preserved : goal.loop-index-preserved
loop-index-preserved c = (
  c.in_ok-number_label.ensures.kept ∙ (c.loop-index.invariant).0,
  label_more (walk_of c.loop-index.self) (walk_of c.number_label.new.self) _ c.args.first
      c.loop-index.index c.args.count
      c.in_ok-label.label (omega arith) c.in_ok-label.ensures c.in_ok-number_label.ensures.ok
      (c.loop-index.invariant).1,
)

pub returns-clause-ok : goal.returns-clause-ok
returns-clause-ok c =
    sym (labels_end (walk_of c.loop-index.self) c.args.first c.loop-index.index c.args.count (omega arith))
    ∙ (c.loop-index.invariant).1
