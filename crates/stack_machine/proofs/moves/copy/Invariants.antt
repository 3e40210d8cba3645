-- The bytes that are left, copied from here on, are all of them copied from the first memory on.
use Rattle.stack_machine.proofs.Prelude.{◌≡◌, placement_view, modules_in, bytes_moved}
use Rattle.stack_machine.proofs.moves.copy.Given as goal

abbrev pub invariant-loop-left : goal.invariant-loop-left
invariant-loop-left l =
    bytes_moved (modules_in l.joined) (placement_view l.placement) l.memory l.left l.from l.to
    ≡ bytes_moved (modules_in l.joined) (placement_view l.placement) l.fn.memory l.count
    l.source l.destination

abbrev pub decreases-loop-left : goal.decreases-loop-left
decreases-loop-left l = l.left
