use Rattle.treecode.proofs.Prelude.{arith}
use Rattle.treecode.proofs.NumberTables.{reached}
use Rattle.treecode.proofs.numbers.Numbers.reach.Goals as goal

pub returns-in_ok-resize : goal.returns-in_ok-resize
returns-in_ok-resize c =
    reached c.args.self.now.entries.items _ c.args.index c.args.self.now.entries.len
    c.args.self.now.entries.ok.0
    (omega arith) c.in_ok-resize.ensures.items
