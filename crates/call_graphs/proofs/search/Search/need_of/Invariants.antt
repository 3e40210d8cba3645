use Rattle.call_graphs.proofs.Prelude.{◌≡◌, graph_view, search_view, Searches, left}
use Rattle.call_graphs.proofs.search.Search.need_of.Given as goal

abbrev pub invariant-loop-visit : goal.invariant-loop-visit
invariant-loop-visit l = record {
  graph : graph_view l.self ≡ graph_view l.fn.self;
  searches : Searches (graph_view l.self) l.root (search_view l.self);
}

-- each step leaves less to do
abbrev pub decreases-loop-visit : goal.decreases-loop-visit
decreases-loop-visit l = left (graph_view l.self) (search_view l.self)
