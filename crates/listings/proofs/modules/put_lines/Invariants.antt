use Rattle.listings.proofs.Prelude.{◌≡◌, ◌++◌, ◌+◌, length, map, lines_of, listed_from, lined, name_at}
use Rattle.listings.proofs.modules.put_lines.Given as goal

-- what was added, and then what the lines that are left add, is all
abbrev pub invariant-loop-text : goal.invariant-loop-text
invariant-loop-text l = record {
  made : l.lines.items ++ listed_from (l.number + 1) (name_at l.names) (lines_of l.text)
      (map (lined (name_at l.names)) l.parts)
      ≡ l.initial.lines.items ++ listed_from 1 (name_at l.names) (lines_of l.source)
      (map (lined (name_at l.names)) l.parts);
  counted : l.number + length (lines_of l.text) ≡ length (lines_of l.source);
}

abbrev pub decreases-loop-text : goal.decreases-loop-text
decreases-loop-text l = length l.text
