use Rattle.listings.proofs.{Prelude.{refl}, SourceLines.{length_done, length_more, within_more}}
use Rattle.listings.proofs.text_lines.line_length.Goals as goal

pub loop-rest-preserved : goal.loop-rest-preserved
loop-rest-preserved c = record {
  counted =
      length_more c.loop-rest.rest.now _ _ c.loop-rest.count _ c.in-len1-up.len_at_least refl
      c.if-byte-eq10.false c.loop-rest.invariant.counted;
  within =
      within_more c.loop-rest.rest.now c.loop-rest.count _ c.in-len1-up.len_at_least
      c.loop-rest.invariant.within;
}

pub returns-clause-length : goal.returns-clause-length
returns-clause-length c =
    length_done c.loop-rest.rest.now c.loop-rest.count _ c.in_default.len_below c.loop-rest.invariant.counted
