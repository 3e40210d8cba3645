use Rattle.stack_need.proofs.Prelude.{◌≡◌, ◌++◌, drop, map, procedure_view, site_view, body_of, modules_at, capped, body_view}
use Rattle.stack_need.proofs.call_graph.add_bodies.Given as goal

abbrev pub invariant-loop-procedure : goal.invariant-loop-procedure
invariant-loop-procedure l =
    map body_view l.graph.items ++ map capped
    (map (body_of (modules_at (site_view l.site)) l.site.number_of_module)
    (map procedure_view (drop l.procedure-index l.procedures)))
    ≡ map body_view l.fn.graph.items ++ map capped
    (map (body_of (modules_at (site_view l.site)) l.site.number_of_module)
    (map procedure_view l.procedures))
