use Rattle.runtime8080.proofs.Prelude.{◌≡◌, ◌++◌, length, map, Fits, item_of}
use Rattle.runtime8080.proofs.parts.emit_parts.Given as goal

-- what was added, and what is left of it, is all; and what is left may be added
abbrev pub invariant-loop-rest : goal.invariant-loop-rest
invariant-loop-rest l = record {
  all :
      record l.code { items = l.code.items ++ map item_of l.rest }
      ≡ record l.initial.code { items = l.initial.code.items ++ map item_of l.parts };
  fits : Fits l.code (map item_of l.rest);
}

abbrev pub decreases-loop-rest : goal.decreases-loop-rest
decreases-loop-rest l = length l.rest
