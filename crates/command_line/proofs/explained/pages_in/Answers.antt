use Rattle.command_line.proofs.Prelude.{rules, tests, map_from_collect, YieldsList-from_slice_split}
use Rattle.command_line.proofs.explained.pages_in.Goals as goal

pub returns : goal.returns
returns c =
    map_from_collect _ c.collect.ensures.ran
    (YieldsList-from_slice_split _ _ c.args.text.now c.split.ensures.rest c.split.ensures.done
    c.split.ensures.closure (λ x r q k. search (rules, tests)))
