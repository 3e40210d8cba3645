use Rattle.listings.proofs.Prelude.{◌+◌, ◌∙◌, length, ap, refl, arith}
use Rattle.listings.proofs.LineOrigins.{no_lines_in}
use Rattle.listings.proofs.origins.origins_of.Goals as goal

pub loop-view-init : goal.loop-view-init
loop-view-init c =
    (refl, no_lines_in (length c.args.views.now) c.in_ok-origins.origins.items c.in_ok-origins.ensures)

pub loop-view-preserved : goal.loop-view-preserved
loop-view-preserved c = (
  c.in_ok-number.ensures.ok ∙ ap (λ number. number + 1) c.loop-view.invariant.0,
  c.note_module.ensures (length c.args.views.now) (omega (arith, c.loop-view.invariant.0))
      c.loop-view.invariant.1,
)

pub returns : goal.returns
returns c = c.loop-view.invariant.1
