use Rattle.commands.proofs.{Prelude.{◌==◌, ◌∙◌, ap, arith, eqb-true, false_from_ne_true, byte_at}, StepReads.{reads_nothing}}
use Rattle.commands.proofs.image_runs.next_read.Goals as goal

pub returns-else-get-clause-nothing : goal.returns-else-get-clause-nothing
returns-else-get-clause-nothing g c = λ none.
    reads_nothing c.args.machine.now c.registers-place.result.pc c.get.result (ap (λ (r : _). r.pc) c.registers-place.ensures)
    (c.get.ensures.byte ∙ ap (λ memory. byte_at memory c.registers-place.result.pc) c.memory.ensures) (omega arith)
    (false_from_ne_true (c.get.result == 219) (λ is. c.if-get.false (eqb-true c.get.result 219 is)))
