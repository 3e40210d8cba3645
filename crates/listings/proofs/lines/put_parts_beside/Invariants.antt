use Rattle.listings.proofs.Prelude.{◌≡◌, ◌++◌, length, map, AllByRecursion, parts_beside, parts_text, IsGood, lined, name_at}
use Rattle.listings.proofs.lines.put_parts_beside.Given as goal

-- what was added, and then what the rest adds, is all
abbrev pub invariant-loop-rest : goal.invariant-loop-rest
invariant-loop-rest l = record {
  made : l.lines.items ++ parts_text (name_at l.names)
      (parts_beside l.count (map (lined (name_at l.names)) l.rest))
      ≡ l.initial.lines.items ++ parts_text (name_at l.names)
      (parts_beside l.count (map (lined (name_at l.names)) l.initial.rest));
  good : AllByRecursion IsGood l.rest;
}

abbrev pub decreases-loop-rest : goal.decreases-loop-rest
decreases-loop-rest l = length l.rest
