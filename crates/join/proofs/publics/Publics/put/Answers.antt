use Rattle.join.proofs.PublicTables.{put_again, put_new}
use Rattle.join.proofs.publics.Publics.put.Goals as goal

pub returns-then-is_some-clause-ok : goal.returns-then-is_some-clause-ok
returns-then-is_some-clause-ok c =
    put_again c.args.self.now c.args.global c.name-name.result c.named.result c.or-self.result
    c.name-name.ensures c.named.ensures (cc) c.or-self.ensures

pub returns-clause-ok : goal.returns-clause-ok
returns-clause-ok c =
    put_new c.args.self.now c.insert.new.self c.args.global c.name-name.result c.named.result
    c.name-name.ensures c.named.ensures (cc) c.in_ok-insert.ensures.entries
    c.in_ok-insert.ensures.repeated
