use Rattle.std.proofs.Common.{◌≡◌, ◌++◌, ◌-◌}
use Rattle.operands8080.specs.internal.Products.{chain_from, chain_steps}
use Rattle.operands8080.proofs.products.plan_chain.Given as goal

abbrev pub invariant-loop-index : goal.invariant-loop-index
invariant-loop-index l = record {
  added : l.steps.list.items ++ chain_from (16 - l.index) l.number l.twice l.once_more l.is_below
      ≡ l.fn.steps.list.items ++ chain_steps l.number l.twice l.once_more;
  labels : l.steps.labels ≡ l.fn.steps.labels;
}
