use Rattle.stack_compiler.proofs.Prelude.{on_ok_weaker}
use Rattle.stack_compiler.proofs.Counted.{procedure_numbered}
use Rattle.stack_compiler.proofs.procedures.emit_procedure.Goals as goal

pub returns-clause-numbers : goal.returns-clause-numbers
returns-clause-numbers c =
    on_ok_weaker c.emit_all.result
    (λ done. procedure_numbered c.args.number _ c.args.marks.now c.put.new.self c.emit_list.new.marks
    c.in_ok-put.ensures c.in_ok-emit_list.ensures.numbers)
    c.emit_all.ensures
