use Rattle.codegen8080.proofs.Prelude.{[], ◌∷◌, subst, Step, EmitsSteps, emits_then, site_of}
use Rattle.codegen8080.proofs.Driving.{emits_after}
use Rattle.codegen8080.proofs.carrying.frame_word.Goals as goal

pub returns : goal.returns
returns c =
    emits_after _ _ _ _ _ _ c.add-5.result
    (emits_then _ _ _ _ _ _
    (emits_then _ _ _ _ _ _
    (emits_then _ _ _ _ _ _
    (subst
    (λ (step : Step). EmitsSteps (site_of c.args.body.now) (step ∷ []) c.args.emission.now c.add.new.emission)
    c.address.ensures c.in_ok-add.ensures)
    c.in_ok-add-2.ensures)
    c.in_ok-add-3.ensures)
    c.in_ok-add-4.ensures)
    c.add-5.ensures
