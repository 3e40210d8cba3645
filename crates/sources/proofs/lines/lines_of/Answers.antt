use Rattle.std.proofs.Common.{ap, arith, length}
use Rattle.std.proofs.Common.{map}
use Rattle.trees.specs.internal.Views.{module_tree}
use Rattle.sources.specs.internal.Counted.{counts_of, lines_of_body}
use Rattle.sources.proofs.LinesCounted.{has_line_of_each}
use Rattle.sources.proofs.lines.lines_of.Goals as goal

pub returns : goal.returns
returns c =
    has_line_of_each (module_tree c.args.parsed.now) c.block.new.self (counts_of c.new-walk.result)
    (length c.block.new.lines.items) c.in_ok-lines.lines (ap (map lines_of_body) c.new-walk.ensures)
    c.in_ok-block.ensures.bodies (omega (arith, c.in_ok-block.ensures.lines, ap length c.new-main.ensures.items))
    c.in_ok-lines.ensures.procedures c.in_ok-lines.ensures.statements
