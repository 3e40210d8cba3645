-- What the search answers is the need of the program.
use Rattle.stack_need.proofs.Prelude.{◌≡◌, ℕ, List, [], ◌∷◌, map, Option, Some, None, Contains, sym, subst, ◌∙◌, TypedModule, Body, HasCycle, IsChain, call_graph, end_of_chain, capped, Answers}
use Rattle.stack_need.specs.StackNeed.{TellsNeed}
use Rattle.call_graphs.proofs.Needs.{attained, chains_within, from_stopped, same_callees}
use Rattle.stack_need.proofs.WithinRuns.{is_enough}

-- charges that stop change no chain
module _ (graph : List Body) where
  chain_before : (others : List ℕ) (from : ℕ) → IsChain (map capped graph) from others
      → IsChain graph from others
  chain_before [] from chain = tt
  chain_before (callee ∷ others) from chain =
      (subst (λ bodies. Contains bodies callee) (same_callees graph from) chain.0, chain_before others callee chain.1)

  chain_after : (others : List ℕ) (from : ℕ) → IsChain graph from others
      → IsChain (map capped graph) from others
  chain_after [] from chain = tt
  chain_after (callee ∷ others) from chain =
      (subst (λ bodies. Contains bodies callee) (sym (same_callees graph from)) chain.0, chain_after others callee chain.1)

  cycle_before : HasCycle (map capped graph) → HasCycle graph
  cycle_before cycle =
      (cycle.0, (cycle.1.0, (chain_before cycle.1.0 cycle.0 cycle.1.1.0, subst (λ bodies. Contains bodies cycle.0) (same_callees graph (end_of_chain cycle.0 cycle.1.0)) cycle.1.1.1)))

  cycle_after : HasCycle graph → HasCycle (map capped graph)
  cycle_after cycle =
      (cycle.0, (cycle.1.0, (chain_after cycle.1.0 cycle.0 cycle.1.1.0, subst (λ bodies. Contains bodies cycle.0) (sym (same_callees graph (end_of_chain cycle.0 cycle.1.0))) cycle.1.1.1)))

tells_of : (modules : List TypedModule) (found : Option ℕ) → Answers (map capped (call_graph modules)) found
    → TellsNeed modules found
unfolding Answers TellsNeed
tells_of modules None answers = cycle_before (call_graph modules) answers
tells_of modules (Some shown) answers =
    let before = from_stopped (call_graph modules) 0 answers.0.0 answers.0.1.0 in (
      (λ cycle. answers.1 (cycle_after (call_graph modules) cycle)),
      (
        before.0,
        (
          record {
            enough =
                is_enough modules before.0
                (λ others chain. chains_within (call_graph modules) others 0 before.0 before.1.0 chain);
            of_a_chain = attained (call_graph modules) 0 before.0 before.1.0;
          },
          answers.0.1.1 ∙ sym before.1.1,
        ),
      ),
    )

pub tells_need : (modules : List TypedModule) (graph : List Body) (found : Option ℕ)
    → graph ≡ map capped (call_graph modules) → Answers graph found → TellsNeed modules found
tells_need modules graph found is answers =
    tells_of modules found (subst (λ one. Answers one found) is answers)
