use Rattle.call_graphs.proofs.Prelude.{◌≡◌, map, [], HasNeed, body_view, graph_view, search_view, HaveNeeds, IsTrueOf}
use Rattle.call_graphs.proofs.search.need_in.Given as goal

abbrev pub invariant-loop-body : goal.invariant-loop-body
invariant-loop-body l = record {
  graph : graph_view l.search ≡ map body_view l.graph;
  known : IsTrueOf (graph_view l.search) (search_view l.search);
  path : (search_view l.search).path ≡ [];
  need : HasNeed (map body_view l.graph) 0 l.need;
  needs : HaveNeeds (map body_view l.graph) l.body;
}
