use Rattle.steps8080.proofs.Prelude.{◌≡◌, ℕ, ◌+◌, ◌-◌, suc, ◌<◌, List, [], ◌∷◌, ◌++◌, replicate, ap, ◌∙◌, append_assoc, arith}
use Rattle.steps8080.specs.declared.step.Step.{Step}
use Rattle.steps8080.proofs.instructions.repeat.Goals as goal

-- one more step of those that remain
one_more :
    (made now total : List Step) (step : Step) (count done : ℕ)
    → made ++ replicate (count - done) step ≡ total
    → now ≡ made ++ step ∷ []
    → done < count
    → now ++ replicate (count - (done + 1)) step ≡ total
one_more made now total step count done whole added some =
    ap (λ steps. steps ++ replicate (count - (done + 1)) step) added
    ∙ append_assoc made (step ∷ []) (replicate (count - (done + 1)) step)
    ∙ ap (λ left. made ++ replicate left step) (left_is count done some)
    ∙ whole
  where
    left_is : (count done : ℕ) → done < count → suc (count - (done + 1)) ≡ count - done
    left_is count done some = omega arith

pub loop-preserved : goal.loop-preserved
loop-preserved c = record {
  added = one_more c.loop.steps.list.items c.plain.new.self.list.items _ _ c.args.count c.loop.counter
      c.loop.invariant.added c.in_ok-plain.ensures.added (omega arith);
  labels = c.in_ok-plain.ensures.labels ∙ c.loop.invariant.labels;
}
