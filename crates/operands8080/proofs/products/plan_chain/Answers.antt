use Rattle.std.proofs.Common.{ap, ◌∙◌, arith}
use Rattle.operands8080.specs.internal.Products.{has_bit}
use Rattle.operands8080.proofs.Chains.{bit_added, chain_ended}
use Rattle.operands8080.proofs.products.plan_chain.Goals as goal

pub loop-index-preserved : goal.loop-index-preserved
loop-index-preserved c = record {
  added = bit_added c.loop-index.steps.list.items c.plan_bit.new.steps.list.items _
      c.args.number c.loop-index.index
      c.args.twice c.args.once_more c.loop-index.is_below c.has_bit-is_set.result c.loop-index.invariant.added
      c.in_ok-plan_bit.ensures.added
      (c.has_bit-is_set.ensures ∙ ap (has_bit c.args.number) c.saturating_sub.ensures)
      c.loop-index-test.true;
  labels = c.in_ok-plan_bit.ensures.labels ∙ c.loop-index.invariant.labels;
}

pub returns : goal.returns
returns c = record {
  added = chain_ended c.loop-index.steps.list.items _ c.args.number c.loop-index.index
      c.args.twice c.args.once_more
      c.loop-index.is_below c.loop-index.invariant.added (omega arith);
  labels = c.loop-index.invariant.labels;
}
