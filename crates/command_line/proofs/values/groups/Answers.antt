use Rattle.command_line.proofs.Prelude.{lit<, map_from_collect, YieldsList-from_str_split}
use Rattle.command_line.proofs.values.groups.Goals as goal

pub returns : goal.returns
returns c =
    map_from_collect _ c.collect.ensures.ran
    (YieldsList-from_str_split 47 c.args.text.now (lit< tt) c.split.ensures.text c.split.ensures.has_more
    c.split.ensures.pattern)
