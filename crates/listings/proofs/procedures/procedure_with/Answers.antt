use Rattle.listings.proofs.ProcedureCodes.{parameter_here, parameter_later}
use Rattle.listings.proofs.procedures.procedure_with.Goals as goal

pub returns-then-has_parameter : goal.returns-then-has_parameter
returns-then-has_parameter c =
    parameter_here c.args.object c.loop-rest.rest.now c.procedure-item.result _ c.has_parameter.result _
    c.in-len1-up.len_at_least c.procedure-item.is c.has_parameter.ensures c.if-has_parameter.true
    c.loop-rest.invariant

pub loop-rest-preserved : goal.loop-rest-preserved
loop-rest-preserved c =
    parameter_later c.args.object c.loop-rest.rest.now c.procedure-item.result _ c.has_parameter.result _
    c.in-len1-up.len_at_least c.procedure-item.is c.has_parameter.ensures c.if-has_parameter.false
    c.loop-rest.invariant
