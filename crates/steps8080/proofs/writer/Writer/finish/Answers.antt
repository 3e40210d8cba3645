use Rattle.steps8080.proofs.Prelude.{rules}
use Rattle.steps8080.proofs.Refused.{finished, refused_for}
use Rattle.steps8080.proofs.writer.Writer.finish.Goals as goal

pub returns-in-Err-Fault-clause-fault : goal.returns-in-Err-Fault-clause-fault
returns-in-Err-Fault-clause-fault c =
    refused_for _ c.args.self _ c.finish.result c.in-Err-Fault.fault c.self.view_is (search rules)
    c.finish.ensures.fault

pub returns-in-Ok-clause-code : goal.returns-in-Ok-clause-code
returns-in-Ok-clause-code c =
    finished _ c.args.self c.self.inside.is_marked.items c.in-Ok.bytes c.self.view_is c.self.invariant
    (search rules) c.in-Ok.ensures.done
