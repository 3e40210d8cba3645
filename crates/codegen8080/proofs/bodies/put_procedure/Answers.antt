use Rattle.codegen8080.proofs.BodyParts.{external_added, procedure_added}
use Rattle.codegen8080.proofs.bodies.put_procedure.Goals as goal

pub returns-in-External : goal.returns-in-External
returns-in-External c =
    external_added c.args.tree.now c.args.number c.in-External.field-0 c.args.procedure.now
    c.args.generator.now
    c.in-External.is

pub returns-in-Static : goal.returns-in-Static
returns-in-Static c =
    procedure_added c.args.tree.now c.args.number c.args.procedure.now c.args.generator.now
    c.put_own.new.generator
    c.put_own.result c.in-Static.is c.put_own.ensures
