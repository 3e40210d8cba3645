use Rattle.listings.proofs.{Prelude.{name_at}, Shown.{lone_put}}
use Rattle.listings.proofs.lines.put_part.Goals as goal

pub returns-in-None : goal.returns-in-None
returns-in-None c =
    lone_put (name_at c.args.names.now) c.args.part.now c.args.lines.now.items c.put_name.new.lines.items
    c.put_margin.new.lines.items c.put_lone.new.lines.items c.put_lone.result c.in-None.is
    c.requires.good c.in_ok-put_name.ensures c.in_ok-put_margin.ensures c.put_lone.ensures
