use Rattle.listings.proofs.Prelude.{◌≡◌, ◌==◌, length, list_any}
use Rattle.listings.proofs.procedures.has_parameter.Given as goal

-- the object is among the parameters that are left, if it is one
abbrev pub invariant-loop-rest : goal.invariant-loop-rest
invariant-loop-rest l =
    list_any (λ number. number == l.object) l.rest ≡ list_any (λ number. number == l.object) l.initial.rest

abbrev pub decreases-loop-rest : goal.decreases-loop-rest
decreases-loop-rest l = length l.rest
