-- The members so far, and those that are left, are all of them.
use Rattle.declared.proofs.Prelude.{◌≡◌, ◌+◌, drop, sum_by, size_of_member}
use Rattle.declared.proofs.slots.size_of_members.Given as goal

abbrev pub invariant-loop-position : goal.invariant-loop-position
invariant-loop-position l =
    l.size + sum_by size_of_member (drop l.position l.members) ≡ sum_by size_of_member l.members
