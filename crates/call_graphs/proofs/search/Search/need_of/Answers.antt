use Rattle.call_graphs.proofs.Prelude.{◌∙◌, ap, sym, Going, Finished, Cyclic, graph_view, mark_of, search_view, left}
use Rattle.call_graphs.proofs.Turns.{begins_with, has_cycle, has_finished, known_before, turned}
use Rattle.call_graphs.proofs.search.Search.need_of.Goals as goal

pub returns-in-Done-clause-found : goal.returns-in-Done-clause-found
returns-in-Done-clause-found c =
    known_before (graph_view c.args.self.now) c.args.root c.in-Done.need (search_view c.args.self.now)
    c.requires.known c.requires.path
    (ap (λ marks. mark_of marks c.args.root) (sym c.as_slice.ensures.value)
    ∙ sym c.mark_of.ensures ∙ c.in-Done.is)

pub loop-visit-init : goal.loop-visit-init
loop-visit-init c = record {
  graph = c.in_ok-begin.ensures.graph;
  searches =
      begins_with (graph_view c.args.self.now) (graph_view c.begin.new.self) c.args.root
      (search_view c.args.self.now) (search_view c.begin.new.self) c.in_ok-begin.ensures.graph
      c.requires.known c.requires.path c.in_ok-begin.ensures.state;
}

pub loop-visit-smaller : goal.loop-visit-smaller
loop-visit-smaller c =
    (turned (graph_view c.loop-visit.self) (graph_view c.step.new.self) c.args.root
    c.loop-visit.self.marks.items c.loop-visit.self.path c.pop.new.self c.in-Some.visit
    (search_view c.step.new.self)
    c.in_ok-step.field-0 Going c.in_ok-step.ensures.graph c.loop-visit.invariant.searches c.in-Some.ensures
    c.in_ok-step.ensures.state c.in-Going.is).1

pub loop-visit-preserved : goal.loop-visit-preserved
loop-visit-preserved c = record {
  graph = c.in_ok-step.ensures.graph ∙ c.loop-visit.invariant.graph;
  searches =
      (turned (graph_view c.loop-visit.self) (graph_view c.step.new.self) c.args.root
      c.loop-visit.self.marks.items c.loop-visit.self.path c.pop.new.self c.in-Some.visit
      (search_view c.step.new.self)
      c.in_ok-step.field-0 Going c.in_ok-step.ensures.graph c.loop-visit.invariant.searches c.in-Some.ensures
      c.in_ok-step.ensures.state c.in-Going.is).0;
}

pub returns-in-Finished : goal.returns-in-Finished
returns-in-Finished c = record {
  graph = c.in_ok-step.ensures.graph ∙ c.loop-visit.invariant.graph;
  found =
      has_finished (graph_view c.step.new.self) (graph_view c.args.self.now) c.args.root
      (left (graph_view c.loop-visit.self) (search_view c.loop-visit.self)) c.in-Finished.need
      (search_view c.step.new.self)
      (c.in_ok-step.ensures.graph ∙ c.loop-visit.invariant.graph)
      (turned (graph_view c.loop-visit.self) (graph_view c.step.new.self) c.args.root
      c.loop-visit.self.marks.items c.loop-visit.self.path c.pop.new.self c.in-Some.visit
      (search_view c.step.new.self)
      c.in_ok-step.field-0 (Finished c.in-Finished.need) c.in_ok-step.ensures.graph
      c.loop-visit.invariant.searches c.in-Some.ensures c.in_ok-step.ensures.state c.in-Finished.is);
}

pub returns-in-Cyclic : goal.returns-in-Cyclic
returns-in-Cyclic c = record {
  graph = c.in_ok-step.ensures.graph ∙ c.loop-visit.invariant.graph;
  found =
      has_cycle (graph_view c.step.new.self) (graph_view c.args.self.now) c.args.root
      (left (graph_view c.loop-visit.self) (search_view c.loop-visit.self)) (search_view c.step.new.self)
      (c.in_ok-step.ensures.graph ∙ c.loop-visit.invariant.graph)
      (turned (graph_view c.loop-visit.self) (graph_view c.step.new.self) c.args.root
      c.loop-visit.self.marks.items c.loop-visit.self.path c.pop.new.self c.in-Some.visit
      (search_view c.step.new.self)
      c.in_ok-step.field-0 Cyclic c.in_ok-step.ensures.graph c.loop-visit.invariant.searches c.in-Some.ensures
      c.in_ok-step.ensures.state c.in-Cyclic.is);
}
