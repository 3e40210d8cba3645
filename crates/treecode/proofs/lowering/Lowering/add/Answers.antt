use Rattle.treecode.proofs.PutNodes.{statement_put}
use Rattle.treecode.proofs.lowering.Lowering.add.Goals as goal

pub returns-clause-ok : goal.returns-clause-ok
returns-clause-ok c =
    statement_put c.args.self.now c.add_statement.new.self c.args.statement c.args.reaches_its_end
    c.in_ok-number.number c.add_statement.ensures.kept c.in_ok-number.ensures.ok.0 c.in_ok-number.ensures.ok.1
