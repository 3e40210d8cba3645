use Rattle.join.proofs.Prelude.{◌≡◌, ◌≤◌, length, drop, same_members}
use Rattle.join.proofs.agreement.same_members.Given as goal

abbrev pub invariant-loop-position : goal.invariant-loop-position
invariant-loop-position l = record {
  within : l.position ≤ length l.right;
  rest : same_members (drop l.position l.left) (drop l.position l.right) ≡ same_members l.left l.right;
}
