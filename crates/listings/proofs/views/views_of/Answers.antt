use Rattle.std.proofs.Common.{rules}
use Rattle.listings.proofs.{Prelude.{◌+◌, ◌≤◌, length, arith, refl, ap, subst, texts_of}, ViewsMade.{all_views, as_many, no_views, view_added}}
use Rattle.listings.proofs.views.views_of.Goals as goal

pub loop-number-init : goal.loop-number-init
loop-number-init c =
    rw c.new-views.ensures.items
    (no_views (texts_of c.args.sources.now) c.args.built.now _ _ (search rules) (search rules)
    (omega arith) (omega arith))

pub view_of-view-requires-clause-as_many : goal.view_of-view-requires-clause-as_many
view_of-view-requires-clause-as_many c =
    as_many c.args.sources.now c.args.built.now c.requires.program c.plan-plan.ensures.construction

pub overflow_add-code_base : goal.overflow_add-code_base
overflow_add-code_base c =
    omega (
      arith,
      ap length c.objects-number-end.ensures.shown,
      as_many c.args.sources.now c.args.built.now c.requires.program c.plan-plan.ensures.construction,
    )

pub overflow_add-data_base : goal.overflow_add-data_base
overflow_add-data_base c =
    omega (
      arith,
      ap length c.objects-number-end.ensures.shown,
      as_many c.args.sources.now c.args.built.now c.requires.program c.plan-plan.ensures.construction,
    )

pub loop-number-preserved : goal.loop-number-preserved
loop-number-preserved c =
    view_added (texts_of c.args.sources.now) c.args.built.now c.loop-number.number (c.loop-number.number + 1)
    c.loop-number.code_base c.loop-number.data_base _ _ c.loop-number.views.items c.push.new.self.items
    c.view_of-view.result c.loop-number.invariant c.view_of-view.ensures
    (ap (λ n. c.loop-number.code_base + n) c.length.ensures)
    (ap (λ n. c.loop-number.data_base + n) c.length-in-loop-number.ensures)
    (subst (λ n. n ≤ 65535) c.length.ensures (omega arith))
    (subst (λ n. n ≤ 65535) c.length-in-loop-number.ensures (omega arith))
    c.in_ok-push.ensures.items refl

pub returns : goal.returns
returns c =
    all_views c.args.sources.now c.args.built.now c.loop-number.number c.loop-number.code_base
    c.loop-number.data_base
    c.loop-number.views.items c.loop-number.invariant c.plan-plan.ensures.construction
    (omega (
      arith,
      ap length c.objects-number-end.ensures.shown,
      as_many c.args.sources.now c.args.built.now c.requires.program c.plan-plan.ensures.construction,
    ))
    (omega (arith, ap length c.objects-number-end.ensures.shown))
