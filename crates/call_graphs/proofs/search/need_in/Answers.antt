use Rattle.call_graphs.proofs.Prelude.{◌∙◌, map, refl, sym, arith, length-map, body_view, graph_view, search_view}
use Rattle.call_graphs.proofs.AllBodies.{all_answers, cycle_answers, known_at_first, need_added, need_found, no_needs, path_ended, still_known}
use Rattle.call_graphs.proofs.search.need_in.Goals as goal

pub need_of-requires-clause-known : goal.need_of-requires-clause-known
need_of-requires-clause-known c =
    known_at_first c.args.graph.now (graph_view c.in_ok-search.search) (search_view c.in_ok-search.search)
    c.in_ok-search.ensures.graph c.in_ok-search.ensures.state

pub returns-in_default : goal.returns-in_default
returns-in_default c =
    cycle_answers (map body_view c.args.graph.now) (graph_view c.in_ok-search.search) 0 c.in_ok-need.field-0
    (search_view c.need_of.new.self) c.in_ok-search.ensures.graph c.in_default.not-Some
    c.in_ok-need.ensures.found

pub loop-body-init : goal.loop-body-init
loop-body-init c = record {
  graph = c.in_ok-need.ensures.graph ∙ c.in_ok-search.ensures.graph;
  known =
      still_known (graph_view c.need_of.new.self) (graph_view c.in_ok-search.search) 0 c.in-Some.need
      c.in_ok-need.field-0 (search_view c.need_of.new.self) (sym c.in_ok-need.ensures.graph) c.in-Some.is
      c.in_ok-need.ensures.found;
  path =
      path_ended (graph_view c.in_ok-search.search) (graph_view c.in_ok-search.search) 0 c.in-Some.need
      c.in_ok-need.field-0 (search_view c.need_of.new.self) refl c.in-Some.is c.in_ok-need.ensures.found;
  need =
      need_found (map body_view c.args.graph.now) (graph_view c.in_ok-search.search) 0 c.in-Some.need
      c.in_ok-need.field-0 (search_view c.need_of.new.self) c.in_ok-search.ensures.graph c.in-Some.is
      c.in_ok-need.ensures.found;
  needs = no_needs (map body_view c.args.graph.now);
}

pub returns-in_default-2 : goal.returns-in_default-2
returns-in_default-2 c =
    cycle_answers (map body_view c.args.graph.now) (graph_view c.loop-body.search) c.loop-body.body
    c.in_ok-need_of.field-0 (search_view c.need_of-in-loop-body.new.self) c.loop-body.invariant.graph
    c.in_default-2.not-Some c.in_ok-need_of.ensures.found

pub loop-body-preserved : goal.loop-body-preserved
loop-body-preserved c = record {
  graph = c.in_ok-need_of.ensures.graph ∙ c.loop-body.invariant.graph;
  known =
      still_known (graph_view c.need_of-in-loop-body.new.self) (graph_view c.loop-body.search)
      c.loop-body.body c.in-Some-2.field-0 c.in_ok-need_of.field-0
      (search_view c.need_of-in-loop-body.new.self)
      (sym c.in_ok-need_of.ensures.graph) c.in-Some-2.is c.in_ok-need_of.ensures.found;
  path =
      path_ended (graph_view c.loop-body.search) (graph_view c.loop-body.search) c.loop-body.body
      c.in-Some-2.field-0 c.in_ok-need_of.field-0
      (search_view c.need_of-in-loop-body.new.self) refl c.in-Some-2.is
      c.in_ok-need_of.ensures.found;
  need = c.loop-body.invariant.need;
  needs =
      need_added (map body_view c.args.graph.now) c.loop-body.body c.in-Some-2.field-0
      c.loop-body.invariant.needs
      (need_found (map body_view c.args.graph.now) (graph_view c.loop-body.search) c.loop-body.body
      c.in-Some-2.field-0 c.in_ok-need_of.field-0 (search_view c.need_of-in-loop-body.new.self)
      c.loop-body.invariant.graph c.in-Some-2.is c.in_ok-need_of.ensures.found);
}

pub returns : goal.returns
returns c =
    all_answers (map body_view c.args.graph.now) c.in-Some.need c.loop-body.body c.loop-body.invariant.need
    c.loop-body.invariant.needs
    (let count = length-map c.args.graph.now body_view in omega (arith, count))
