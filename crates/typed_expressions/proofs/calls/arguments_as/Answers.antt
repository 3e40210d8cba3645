use Rattle.typed_expressions.proofs.Prelude.{◌≡◌, ◌∷◌, ◌∙◌, Ok, length, refl, ap, sym, arith, into_iter_items, into_iter_len, arguments_view, arguments_as}
use Rattle.typed_expressions.proofs.ArgumentLoops.{converts_on, converts_no_more}
use Rattle.typed_expressions.proofs.calls.arguments_as.Goals as goal

pub loop-value-preserved : goal.loop-value-preserved
loop-value-preserved c =
    let steps : into_iter_items c.loop-value.value-iterator
    ≡ c.in-Some.value ∷ into_iter_items c.next.new.self = c.in-Some.ensures.steps.0 in
    let shorter = ap length steps in
    record {
      left = rw c.in_ok-push.ensures.items
          (converts_on c.args.scalars.now c.loop-value.made.items c.in-Some.value c.in_ok-value.value
          (into_iter_items c.loop-value.value-iterator) (into_iter_items c.next.new.self)
          c.len-in-loop-value.result _ steps (omega arith)
          (c.in_ok-value.ensures ∙ rw c.scalar_at.ensures refl) c.loop-value.invariant.left);
      counted = omega (arith, c.in-Some.ensures.steps.1, c.loop-value.invariant.counted);
    }

pub returns : goal.returns
returns c =
    ap (λ made. Ok made)
    (sym (converts_no_more c.args.scalars.now c.loop-value.made.items
    (into_iter_items c.loop-value.value-iterator) (into_iter_len c.loop-value.value-iterator) _
    c.loop-value.invariant.counted c.in-None.ensures.steps.0 c.loop-value.invariant.left
    ∙ ap (λ items. arguments_as c.args.scalars.now (arguments_view items))
    c.into_iter-value-iterator.ensures.into_iter_gives.0))
