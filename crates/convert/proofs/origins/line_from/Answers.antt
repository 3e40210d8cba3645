use Rattle.std.proofs.Common.{arith}
use Rattle.convert.proofs.LinesOfPlaces.{further}
use Rattle.convert.proofs.origins.line_from.Goals as goal

pub returns-then-place-source : goal.returns-then-place-source
returns-then-place-source c =
    further c.args.source.now c.args.mark.place c.args.place c.args.mark.line c.line_feeds.result
    (omega (arith, c.if-mark-place.true)) c.requires c.line_feeds.ensures.count
