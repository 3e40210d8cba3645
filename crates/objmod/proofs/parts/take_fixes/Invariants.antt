use Rattle.objmod.proofs.Prelude.{◌≡◌, length, put_all}
use Rattle.objmod.proofs.parts.take_fixes.Given as goal

abbrev pub invariant-loop-fix : goal.invariant-loop-fix
invariant-loop-fix l = record {
  put : put_all l.table.items l.offset l.walk.fixes ≡ put_all l.fn.table.items l.offset l.fn.walk.fixes;
  rest : l.walk ≡ record l.fn.walk { fixes = l.walk.fixes };
}

abbrev pub decreases-loop-fix : goal.decreases-loop-fix
decreases-loop-fix l = length l.walk.fixes
