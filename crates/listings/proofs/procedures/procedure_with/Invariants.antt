use Rattle.listings.proofs.Prelude.{◌≡◌, length, map, module_view, procedure_view, procedure_with}
use Rattle.listings.proofs.procedures.procedure_with.Given as goal

-- the first procedure of those that are left that has the object is that of all
abbrev pub invariant-loop-rest : goal.invariant-loop-rest
invariant-loop-rest l =
    procedure_with l.object (map procedure_view l.rest)
    ≡ procedure_with l.object (module_view l.typed).procedures

abbrev pub decreases-loop-rest : goal.decreases-loop-rest
decreases-loop-rest l = length l.rest
