use Rattle.codegen8080.proofs.Prelude.{[], ◌∷◌, subst, Step, EmitsSteps, site_of}
use Rattle.codegen8080.proofs.Driving.{emits_after}
use Rattle.codegen8080.proofs.carrying.byte_at_address.Goals as goal

pub returns : goal.returns
returns c =
    emits_after _ _ _ _ _ _ c.add-2.result
    (subst
    (λ (step : Step). EmitsSteps (site_of c.args.body.now) (step ∷ []) c.args.emission.now c.add.new.emission)
    c.address.ensures c.in_ok-add.ensures)
    c.add-2.ensures
