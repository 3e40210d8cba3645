use Rattle.std.proofs.lemmas.List.{length-map}
use Rattle.stack_compiler.proofs.Prelude.{arith, procedure_view, site_view}
use Rattle.stack_compiler.proofs.Counted.{no_procedures_left, procedures_left, so_far_all, so_far_more}
use Rattle.stack_compiler.proofs.ProcedureLoops.{procedure_emitted, procedures_emitted}
use Rattle.stack_compiler.proofs.procedures.emit_procedures.Goals as goal

pub loop-number-preserved : goal.loop-number-preserved
loop-number-preserved c = (
  procedure_emitted (site_view c.args.site.now) c.loop-number.code.items _ c.args.procedures.now
      c.loop-number.number c.loop-number.invariant.0
      c.index-procedures-number.result c.emit_procedure.new.code.items (omega arith)
      c.index-procedures-number.is c.in_ok-emit_procedure.ensures.code,
  so_far_more _ _ _ _ _ c.args.marks.now c.loop-number.marks c.emit_procedure.new.marks c.loop-number.invariant.1
      (c.in_ok-emit_procedure.ensures.numbers _
      (omega (arith, length-map c.args.procedures.now procedure_view)))
      (procedures_left c.args.procedures.now c.loop-number.number c.index-procedures-number.result (omega arith)
      c.index-procedures-number.is),
)

pub returns-clause-code : goal.returns-clause-code
returns-clause-code c =
    procedures_emitted (site_view c.args.site.now) c.loop-number.code.items _ c.args.procedures.now
    c.loop-number.number c.loop-number.invariant.0 (omega arith)

pub returns-clause-numbers : goal.returns-clause-numbers
returns-clause-numbers c =
    so_far_all _ 0 _ _ c.args.marks.now c.loop-number.marks c.loop-number.invariant.1
    (no_procedures_left c.args.procedures.now c.loop-number.number (omega arith))
