use Rattle.treecode.proofs.Prelude.{◌≡◌, drop, arguments_view, layout_view, nodes_of, numbers_in, with_item, beside}
use Rattle.treecode.proofs.ArgumentLoop.{after_numbers}
use Rattle.treecode.proofs.lowering.Lowering.+expression.Given as goal

abbrev pub invariant-arguments-loop-argument : goal.invariant-arguments-loop-argument
invariant-arguments-loop-argument l =
    (beside l.self ≡ beside l.fn.self)
    × (with_item (after_numbers l.numbers.items)
    (numbers_in (layout_view l.storage) (nodes_of l.self.tree)
    (arguments_view (drop l.argument-index l.arguments)))
    ≡ numbers_in (layout_view l.storage) (nodes_of l.fn.self.tree) (arguments_view l.arguments))
