-- The turns of the loop of a search.
use Rattle.call_graphs.proofs.Prelude.{◌≡◌, ℕ, List, [], ◌∷◌, Some, None, ap, sym, subst, ◌∙◌, Visit, Mark, Done, Progress, Finished, Cyclic, Body, HasCycle, HasNeed, Searched, begun, mark_of, stepped, Finds, GoesTo, IsTrueOf, Searches, left}
use Rattle.call_graphs.proofs.Searching.{starts, step_of_search}

-- what a turn comes to, with the graph that it had before and after
pub turned : (graph after_graph : List Body) (root : ℕ) (marks : List Mark) (path below : List Visit)
    (visit : Visit) (after : Searched) (found progress : Progress) → after_graph ≡ graph
    → Searches graph root (record { marks = marks; path = path }) → path ≡ visit ∷ below
    → (after, found) ≡ stepped graph visit (record { marks = marks; path = below }) → found ≡ progress
    → GoesTo after_graph root (left graph (record { marks = marks; path = path })) after progress
turned graph after_graph root marks path below visit after found progress same before taken is named =
    let there : Searches graph root (record { marks = marks; path = visit ∷ below }) =
    subst (λ one. Searches graph root (record { marks = marks; path = one })) taken before in
    let state : (stepped graph visit (record { marks = marks; path = below })).0 ≡ after =
    ap (λ (pair : Searched × Progress). pair.0) (sym is) in
    let end : (stepped graph visit (record { marks = marks; path = below })).1 ≡ progress =
    ap (λ (pair : Searched × Progress). pair.1) (sym is) ∙ named in
    let goes : GoesTo graph root (left graph (record { marks = marks; path = visit ∷ below })) after
    progress =
    subst (λ one. GoesTo graph root (left graph (record { marks = marks; path = visit ∷ below })) after one)
    end
    (subst (λ one. GoesTo graph root (left graph (record { marks = marks; path = visit ∷ below })) one
    (stepped graph visit (record { marks = marks; path = below })).1) state
    (step_of_search graph root visit (record { marks = marks; path = below }) there)) in
    subst (λ one. GoesTo one root (left graph (record { marks = marks; path = path })) after progress)
    (sym same)
    (subst (λ one. GoesTo graph root (left graph (record { marks = marks; path = one })) after progress)
    (sym taken) goes)

-- where the need was known before
pub known_before : (graph : List Body) (root need : ℕ) (s : Searched) → IsTrueOf graph s → s.path ≡ []
    → mark_of s.marks root ≡ Done need → Finds graph root (Some need) s
unfolding Finds
known_before graph root need s before none is = (before.done root need is, (before, none))

pub begins_with : (graph after_graph : List Body) (root : ℕ) (s after : Searched) → after_graph ≡ graph
    → IsTrueOf graph s → s.path ≡ [] → after ≡ begun root s → Searches after_graph root after
begins_with graph after_graph root s after same before none is =
    subst (λ one. Searches one root after) (sym same)
    (subst (Searches graph root) (sym is) (starts graph root s before none))

pub has_finished : (graph first : List Body) (root before need : ℕ) (after : Searched) → graph ≡ first
    → GoesTo graph root before after (Finished need) → Finds first root (Some need) after
unfolding Finds
has_finished graph first root before need after same goes =
    subst (λ one. HasNeed one root need × (IsTrueOf one after × (after.path ≡ []))) same goes

pub has_cycle : (graph first : List Body) (root before : ℕ) (after : Searched) → graph ≡ first
    → GoesTo graph root before after Cyclic → Finds first root None after
unfolding Finds
has_cycle graph first root before after same goes = subst HasCycle same goes
