use Rattle.stack_need.proofs.Prelude.{◌≡◌, ◌++◌, drop, map, module_view, first_numbers}
use Rattle.stack_need.proofs.call_graph.first_numbers.Given as goal

abbrev pub invariant-loop-typed : goal.invariant-loop-typed
invariant-loop-typed l =
    l.firsts.items ++ first_numbers l.next (map module_view (drop l.typed-index l.modules))
    ≡ first_numbers 1 (map module_view l.modules)
