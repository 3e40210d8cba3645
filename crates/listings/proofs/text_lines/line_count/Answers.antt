use Rattle.listings.proofs.SourceLines.{line_counted}
use Rattle.listings.proofs.text_lines.line_count.Goals as goal

pub loop-rest-preserved : goal.loop-rest-preserved
loop-rest-preserved c =
    line_counted c.loop-rest.count c.in_ok-count.count c.line_length-length.result _ c.loop-rest.rest.now _ c.in-len1-up.len_at_least c.in_ok-count.ensures.ok
    c.line_length-length.ensures.length c.after_line-rest.ensures c.loop-rest.invariant
