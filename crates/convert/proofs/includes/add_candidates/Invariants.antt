use Rattle.std.proofs.Common.{◌≡◌, ◌++◌, length, map}
use Rattle.std.specs.List.{flat_map}
use Rattle.convert.specs.Includes.{forms_in, with_slash}
use Rattle.convert.proofs.includes.add_candidates.Given as goal

abbrev pub invariant-loop-rest : goal.invariant-loop-rest
invariant-loop-rest l =
    map (λ one. one.items) l.names.items
    ++ flat_map (forms_in l.name) (map with_slash (map (λ folder. folder.now) l.rest))
    ≡ map (λ one. one.items) l.initial.names.items
    ++ flat_map (forms_in l.name) (map with_slash (map (λ folder. folder.now) l.folders))

abbrev pub decreases-loop-rest : goal.decreases-loop-rest
decreases-loop-rest l = length l.rest
