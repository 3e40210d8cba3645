use Rattle.stack_compiler.proofs.Prelude.{arith}
use Rattle.stack_compiler.proofs.RowLoops.{zero_pushed, zeros_pushed}
use Rattle.stack_compiler.proofs.tables.pad_places.Goals as goal

pub loop-places-preserved : goal.loop-places-preserved
loop-places-preserved c =
    zero_pushed c.loop-places.places.items _ c.args.count c.loop-places.invariant c.push.new.self.items
    (omega arith) c.in_ok-push.ensures.items

pub returns : goal.returns
returns c = zeros_pushed c.loop-places.places.items _ c.args.count c.loop-places.invariant (omega arith)
