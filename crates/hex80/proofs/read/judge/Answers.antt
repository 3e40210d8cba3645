use Rattle.hex80.proofs.Prelude.{ap, sym, subst, refl, ◌∙◌, arith, lines, judged_after, Marks, unmarked}
use Rattle.hex80.proofs.ReadLemmas.{no_marks, judged_first, judge_on, judge_fault}
use Rattle.hex80.proofs.read.judge.Goals as goal

pub loop-at-init : goal.loop-at-init
unfolding unmarked
loop-at-init c = record {
  within = omega arith;
  marks =
      subst (Marks c.unmarked-used.result) (sym c.new-pieces.ensures.items)
      (no_marks 65536 c.unmarked-used.result refl c.unmarked-used.ensures);
  judged =
      ap (λ pieces. judged_after pieces (lines c.args.text.now)) c.new-pieces.ensures.items
      ∙ judged_first c.args.text.now;
}

pub loop-at-preserved : goal.loop-at-preserved
loop-at-preserved c = record {
  within = omega (arith, c.first_line-line.ensures.within);
  marks = c.in-Ok.ensures.marks;
  judged =
      judge_on c.args.text.now _ c.loop-at.at c.first_line-line.result.size _ _ _ c.loop-at.invariant.judged
      c.first_line-line.ensures.lines (sym c.is_end_line.ensures ∙ c.if-is_end_line.false)
      c.in-Ok.ensures.ok;
}

pub returns-in-Err-Fault-clause-fault : goal.returns-in-Err-Fault-clause-fault
returns-in-Err-Fault-clause-fault c =
    rw c.in-Err-Fault.field-0-is
    (judge_fault c.args.text.now _ c.loop-at.at c.first_line-line.result.size c.loop-at.pieces.items _ _
    c.loop-at.invariant.judged c.first_line-line.ensures.lines
    (sym c.is_end_line.ensures ∙ c.if-is_end_line.false)
    (rw c.in-Err-Fault.field-0-is at c.in-Err-Fault.ensures.fault))
