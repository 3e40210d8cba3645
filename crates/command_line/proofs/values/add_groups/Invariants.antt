use Rattle.command_line.proofs.Prelude.{◌≡◌, length, map, all_groups, group_bytes, in_front}
use Rattle.command_line.proofs.values.add_groups.Given as goal

abbrev pub invariant-loop-rest : goal.invariant-loop-rest
invariant-loop-rest l =
    in_front l.input.items (all_groups group_bytes (map (λ group. group.now) l.rest))
    ≡ in_front l.initial.input.items (all_groups group_bytes (map (λ group. group.now) l.initial.rest))

abbrev pub decreases-loop-rest : goal.decreases-loop-rest
decreases-loop-rest l = length l.rest
