use Rattle.words.proofs.Prelude.{◌≡◌, ◌≤◌, take, length, name_of}
use Rattle.words.proofs.numbers.up_to_last_character.Given as goal

-- what is cut off has no character
abbrev pub invariant-loop-count : goal.invariant-loop-count
invariant-loop-count l = record {
  in_range : l.count ≤ length l.text;
  same : name_of (take l.count l.text) ≡ name_of l.text;
}

abbrev pub decreases-loop-count : goal.decreases-loop-count
decreases-loop-count l = l.count
