use Rattle.std.proofs.Common.{◌≡◌, ◌≤◌, ◌++◌, length}
use Rattle.convert.specs.Edits.{changes_of}
use Rattle.convert.specs.Converting.{changes_after}
use Rattle.convert.proofs.converting.change_all.Given as goal

abbrev pub invariant-loop-rest : goal.invariant-loop-rest
invariant-loop-rest l = record {
  changed :
      changes_of l.edits.items ++ changes_after l.rules l.source l.passed l.rest
      ≡ changes_of l.initial.edits.items ++ changes_after l.rules l.source 0 l.words;
  short : length l.rest ≤ 4294967296;
}

abbrev pub decreases-loop-rest : goal.decreases-loop-rest
decreases-loop-rest l = length l.rest
