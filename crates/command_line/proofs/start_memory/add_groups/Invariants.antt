use Rattle.command_line.proofs.Prelude.{◌≡◌, length, map, all_groups, memory_group, in_front}
use Rattle.command_line.proofs.start_memory.add_groups.Given as goal

abbrev pub invariant-loop-rest : goal.invariant-loop-rest
invariant-loop-rest l =
    in_front l.memory.items (all_groups memory_group (map (λ group. group.now) l.rest))
    ≡ in_front l.initial.memory.items (all_groups memory_group (map (λ group. group.now) l.initial.rest))

abbrev pub decreases-loop-rest : goal.decreases-loop-rest
decreases-loop-rest l = length l.rest
