use Rattle.placing.proofs.Coverage.{table_told}
use Rattle.placing.proofs.table.kinds_of.Goals as goal

pub returns : goal.returns
returns c =
    table_told _ c.in_ok-reaches.reaches c.add_modules.new.self _ c.in_ok-reaches.ensures
    c.add_modules.ensures
    c.fill.ensures
