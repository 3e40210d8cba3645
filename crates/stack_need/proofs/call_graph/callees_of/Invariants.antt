use Rattle.stack_need.proofs.Prelude.{◌≡◌, ◌++◌, drop, filter_map, site_view, callee_at}
use Rattle.stack_need.proofs.call_graph.callees_of.Given as goal

abbrev pub invariant-loop-call : goal.invariant-loop-call
invariant-loop-call l =
    l.callees.items ++ filter_map (callee_at (site_view l.site) l.firsts) (drop l.call-index l.calls)
    ≡ filter_map (callee_at (site_view l.site) l.firsts) l.calls
