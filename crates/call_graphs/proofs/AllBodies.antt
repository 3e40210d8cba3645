-- The loop over the bodies of a graph.
use Rattle.call_graphs.proofs.Prelude.{◌≡◌, ℕ, zero, suc, ◌+◌, ◌<◌, ◌≤◌, Bool, true, false, List, [], ◌∷◌, length, map, replicate, slice_get, Option, Some, None, Contains, nat_le, leb-true, leb-false, arith, refl, ap, sym, subst, ◌∙◌, inl, inr, option_map_or, length-map, length-replicate, New, Open, Done, Body, HasCycle, IsChain, callees_of, charge_in, end_of_chain, of_body, GreatestOf, of_none, HasNeed, Searched, body_view, Answers, Finds, HaveNeeds, IsTrueOf}
use Rattle.call_graphs.specs.declared.body.Body.{Body as CodeBody}
use Rattle.call_graphs.proofs.Marks.{all_new}
use Rattle.call_graphs.proofs.Needs.{never_back, nothing_in_none}

module _ (graph : List Body) where
  -- a body that is not there calls nothing
  past_end : {A : Type 0} (items : List A) (place : ℕ) → length items ≤ place → slice_get items place ≡ None
  past_end [] place past = refl
  past_end (first ∷ others) zero past = absurd (omega (arith, past))
  past_end (first ∷ others) (suc place) past = past_end others place (omega (arith, past))

  not_there : (body : ℕ) → length graph ≤ body → HasNeed graph body 0
  not_there body past =
      let none : slice_get graph body ≡ None = past_end graph body past in
      let charge : charge_in graph body ≡ 0 =
      ap (λ found. option_map_or (λ (one : Body). one.charge) found 0) none in
      let callees : callees_of graph body ≡ [] =
      ap (λ found. option_map_or (λ (one : Body). one.callees) found []) none in
      (0, (of_body body 0 0 (subst (λ bodies. GreatestOf graph bodies 0) (sym callees) (of_none 0 refl)) (omega (arith, charge)), omega arith))

  nothing_is_known : IsTrueOf graph (record { marks = replicate (length graph) New; path = [] })
  nothing_is_known = record {
    size = length-replicate (length graph) New;
    done = λ body need is.
        elim (all_new (length graph) body) [
          | inl new ↦
              let same : New ≡ Done need = sym new ∙ is in
              let bad : ⊥ = cc in
              absurd bad
          | inr past ↦
              let same : Done 0 ≡ Done need = sym past.0 ∙ is in
              let equal : 0 ≡ need = cc in
              subst (HasNeed graph body) equal (not_there body past.1)
        ];
    is_open = λ body is.
        elim (all_new (length graph) body) [
          | inl new ↦
              let same : New ≡ Open = sym new ∙ is in
              let bad : ⊥ = cc in
              bad
          | inr past ↦
              let same : Done 0 ≡ Open = sym past.0 ∙ is in
              let bad : ⊥ = cc in
              bad
        ];
  }

  -- one body more
  pub need_added : (count need : ℕ) → HaveNeeds graph count → HasNeed graph count need
      → HaveNeeds graph (count + 1)
  need_added count need all one body below = by (nat_le count body) refl
    where
      by : (test : Bool) → nat_le count body ≡ test → (shown : ℕ) × HasNeed graph body shown
      by true above =
          let least : count ≤ body = leb-true count body above in
          let same : count ≡ body = omega (arith, least, below) in
          (need, subst (λ other. HasNeed graph other need) same one)
      by false not_above =
          let less : body < count = leb-false count body not_above in
          all body less

  -- a body that is on a cycle is there
  caller_is_there : (body callee : ℕ) → Contains (callees_of graph body) callee → body < length graph
  caller_is_there body callee called = by (nat_le (length graph) body) refl
    where
      by : (test : Bool) → nat_le (length graph) body ≡ test → body < length graph
      by true past =
          let least : length graph ≤ body = leb-true (length graph) body past in
          let none : callees_of graph body ≡ [] =
          ap (λ found. option_map_or (λ (one : Body). one.callees) found [])
          (past_end graph body least) in
          absurd (nothing_in_none callee (subst (λ bodies. Contains bodies callee) none called))
      by false within = leb-false (length graph) body within

  no_cycle_from : HaveNeeds graph (length graph) → (from : ℕ) (others : List ℕ) → IsChain graph from others
      → Contains (callees_of graph (end_of_chain from others)) from → from < length graph → ⊥
  no_cycle_from all from others chain called below =
      let need = all from below in never_back graph from need.1.0 need.1.1.0 others chain called

  no_cycle : HaveNeeds graph (length graph) → (from : ℕ) (others : List ℕ) → IsChain graph from others
      → Contains (callees_of graph (end_of_chain from others)) from → ⊥
  no_cycle all from [] chain called =
      no_cycle_from all from [] chain called (caller_is_there from from called)
  no_cycle all from (callee ∷ others) chain called =
      no_cycle_from all from (callee ∷ others) chain called (caller_is_there from callee chain.0)

-- what the loop needs
pub known_at_first : (bodies : List CodeBody) (graph : List Body) (s : Searched)
    → graph ≡ map body_view bodies → s ≡ record { marks = replicate (length bodies) New; path = [] }
    → IsTrueOf graph s
known_at_first bodies graph s same is =
    let all : length bodies ≡ length graph = sym (length-map bodies body_view) ∙ ap length (sym same) in
    subst (IsTrueOf graph) (sym (is ∙ ap (λ count. record { marks = replicate count New; path = [] }) all))
    (nothing_is_known graph)

pub cycle_answers : (first graph : List Body) (root : ℕ) (found : Option ℕ) (s : Searched) → graph ≡ first
    → ((need : ℕ) → found ≡ Some need → ⊥) → Finds graph root found s → Answers first None
unfolding Finds Answers
cycle_answers first graph root None s same none finds = subst HasCycle same finds
cycle_answers first graph root (Some need) s same none finds = absurd (none need refl)

module _ (first graph : List Body) (root need : ℕ) (found : Option ℕ) (s : Searched) (same : graph ≡ first)
    (is : found ≡ Some need) (finds : Finds graph root found s) where
  is_found : HasNeed graph root need × (IsTrueOf graph s × (s.path ≡ []))
  unfolding Finds
  is_found = subst (λ one. Finds graph root one s) is finds

  pub need_found : HasNeed first root need
  need_found = subst (λ one. HasNeed one root need) same is_found.0

  pub still_known : IsTrueOf first s
  still_known = subst (λ one. IsTrueOf one s) same is_found.1.0

  pub path_ended : s.path ≡ []
  path_ended = is_found.1.1

pub no_needs : (graph : List Body) → HaveNeeds graph 0
no_needs graph body below = absurd (omega (arith, below))

pub all_answers : (graph : List Body) (need count : ℕ) → HasNeed graph 0 need → HaveNeeds graph count
    → length graph ≤ count → Answers graph (Some need)
unfolding Answers
all_answers graph need count first all past =
    (first, λ cycle. no_cycle graph (λ body below. all body (omega (arith, below, past))) cycle.0 cycle.1.0 cycle.1.1.0 cycle.1.1.1)
