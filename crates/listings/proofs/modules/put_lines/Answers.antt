use Rattle.listings.proofs.{Prelude.{◌+◌, ◌++◌, length, map, refl, ap, ◌∙◌, lines_of, listed_from, lined, name_at}, SourceLines.{next_count, next_line}}
use Rattle.listings.proofs.modules.put_lines.Goals as goal

pub loop-text-preserved : goal.loop-text-preserved
loop-text-preserved c =
    let parts = map (lined (name_at c.args.names.now)) c.args.parts.now in
    let next = c.in_ok-number.number in
    record {
      made =
          ap (λ text. c.put_parts_in.new.lines.items
          ++ listed_from (next + 1) (name_at c.args.names.now) (lines_of text) parts)
          c.after_line-text.ensures
          ∙ next_line (name_at c.args.names.now) c.loop-text.number next c.line_length-length.result
          c.loop-text.text.now _ parts c.loop-text.lines.items c.put_line.new.lines.items
          c.put_parts_in.new.lines.items _ c.in-len1-up.len_at_least c.in_ok-number.ensures.ok
          c.line_length-length.ensures.length refl c.in_ok-put_line.ensures c.in_ok-put_parts_in.ensures
          c.loop-text.invariant.made;
      counted =
          ap (λ text. next + length (lines_of text)) c.after_line-text.ensures
          ∙ next_count c.loop-text.number next c.line_length-length.result _ c.loop-text.text.now
          c.in-len1-up.len_at_least c.in_ok-number.ensures.ok c.line_length-length.ensures.length
          c.loop-text.invariant.counted;
    }
