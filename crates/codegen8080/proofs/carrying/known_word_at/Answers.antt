use Rattle.codegen8080.proofs.Prelude.{[], ◌∷◌, Some, OnOk, subst, Facts, Holds, EmitsSteps, site_of}
use Rattle.codegen8080.proofs.Driving.{emits_after}
use Rattle.codegen8080.proofs.carrying.known_word_at.Goals as goal

pub returns : goal.returns
returns c =
    emits_after _ _ _ _ _ _ c.add.result c.in_ok-word_at.ensures
    (subst
    (λ (none : Facts). OnOk c.add.result (EmitsSteps (site_of c.args.body.now)
    (Holds (record none { word_in_hl = Some c.args.location }) ∷ []) c.word_at.new.emission
    c.add.new.emission))
    c.none.ensures c.add.ensures)
