use Rattle.objmod.proofs.Prelude.{◌≡◌, ◌++◌, true, length, list_all, is_name}
use Rattle.objmod.proofs.parts.read_externals.Given as goal

abbrev pub invariant-loop-name : goal.invariant-loop-name
invariant-loop-name l = record {
  read : l.names.items ++ l.walk.externals ≡ l.fn.walk.externals;
  valid : list_all is_name l.walk.externals ≡ true;
  rest : l.walk ≡ record l.fn.walk { externals = l.walk.externals };
}

abbrev pub decreases-loop-name : goal.decreases-loop-name
decreases-loop-name l = length l.walk.externals
