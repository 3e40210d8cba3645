-- What the need of a body says of chains of calls.
use Rattle.call_graphs.proofs.Prelude.{◌≡◌, ℕ, zero, suc, ◌+◌, ◌<◌, ◌≤◌, Bool, true, false, List, [], ◌∷◌, ◌++◌, length, map, max, min, slice_get, slice_index_or, nat_le, option_map, leb-true, leb-false, Option, Some, None, Contains, arith, refl, ap, sym, subst, ◌∙◌, ◌⊎◌, inl, inr, option_map_or, slice_get-map, Body, IsChain, callees_of, charge_in, charges_of_chain, end_of_chain, NeedOf, of_body, GreatestOf, of_none, of_more, capped}
use Rattle.call_graphs.proofs.Elements.{at_head, in_tail}

-- an element is the first or one of the others
in_either : {A : Type 0} (item : A) (others : List A) (one : A) → Contains (item ∷ others) one
    → (item ≡ one) ⊎ Contains others one
in_either item others one (place, within, is) = by place within is
  where
    by : (place : ℕ) → place < length (item ∷ others) → slice_index_or (item ∷ others) place one ≡ one
        → (item ≡ one) ⊎ Contains others one
    by zero within is = inl is
    by (suc place) within is = inr (place, omega (arith, within), is)

pub nothing_in_none : {A : Type 0} (one : A) → Contains [] one → ⊥
nothing_in_none one found = omega (arith, found.1)

module _ (graph : List Body) where
  -- what is among bodies has a need, which is not more than the greatest
  among : (bodies : List ℕ) (greatest : ℕ) → GreatestOf graph bodies greatest → (one : ℕ)
      → Contains bodies one → (need : ℕ) × (NeedOf graph one need × (need ≤ greatest))
  among [] greatest all one found = absurd (nothing_in_none one found)
  among (first ∷ others) all (of_more _ _ need greatest _ head tail is) one found =
      elim (in_either first others one found) [
        | inl same ↦ (need, (subst (λ body. NeedOf graph body need) same head, omega (arith, is)))
        | inr later ↦ let rest =
            among others greatest tail one later in (rest.0, (rest.1.0, omega (arith, is, rest.1.1)))
      ]

  -- no chain from a body is charged more than its need
  pub chains_within : (others : List ℕ) (body need : ℕ) → NeedOf graph body need → IsChain graph body others
      → charges_of_chain graph body others ≤ need
  chains_within [] body need (of_body _ _ greatest all is) chain = omega (arith, is)
  chains_within (callee ∷ others) body need (of_body _ _ greatest all is) chain =
      let next = among (callees_of graph body) greatest all callee chain.0 in
      let rest : charges_of_chain graph callee others ≤ next.0 =
      chains_within others callee next.0 next.1.0 chain.1 in
      omega (arith, is, rest, next.1.1)

  -- the need of a body is what some chain is charged, or that of bodies is 0
  abbrev IsAttained : (body need : ℕ) → Type 0
  IsAttained body need =
      (others : List ℕ) × (IsChain graph body others × (charges_of_chain graph body others ≡ need))

  abbrev IsAttainedAmong : (bodies : List ℕ) → (greatest : ℕ) → Type 0
  IsAttainedAmong bodies greatest =
      (greatest ≡ 0) ⊎ ((callee : ℕ) × (Contains bodies callee × IsAttained callee greatest))

  later_attained : (first : ℕ) (others : List ℕ) (greatest all : ℕ) → greatest ≡ all
      → IsAttainedAmong others greatest → IsAttainedAmong (first ∷ others) all
  later_attained first others greatest all is (inl none) = inl (sym is ∙ none)
  later_attained first others greatest all is (inr found) =
      inr (found.0, (in_tail first others found.0 found.1.0, subst (IsAttained found.0) is found.1.1))

  greater_attained : (test : Bool) (first : ℕ) (others : List ℕ) (need greatest all : ℕ)
      → nat_le greatest need ≡ test → all ≡ max need greatest → IsAttained first need
      → IsAttainedAmong others greatest → IsAttainedAmong (first ∷ others) all
  greater_attained true first others need greatest all test is one rest =
      let below : greatest ≤ need = leb-true greatest need test in
      let same : need ≡ all = omega (arith, is, below) in
      inr (first, (at_head first others, subst (IsAttained first) same one))
  greater_attained false first others need greatest all test is one rest =
      let above : need < greatest = leb-false greatest need test in
      let same : greatest ≡ all = omega (arith, is, above) in
      later_attained first others greatest all same rest

  of_callees : (body need greatest : ℕ) → need ≡ charge_in graph body + greatest
      → IsAttainedAmong (callees_of graph body) greatest → IsAttained body need
  of_callees body need greatest is (inl none) = ([], (tt, omega (arith, is, none)))
  of_callees body need greatest is (inr found) =
      (found.0 ∷ found.1.1.0, ((found.1.0, found.1.1.1.0), omega (arith, is, found.1.1.1.1)))

  mutual
    pub attained : (body need : ℕ) → NeedOf graph body need → IsAttained body need
    attained body need (of_body _ _ greatest all is) =
        of_callees body need greatest is (attained_among (callees_of graph body) greatest all)

    attained_among : (bodies : List ℕ) (greatest : ℕ) → GreatestOf graph bodies greatest
        → IsAttainedAmong bodies greatest
    attained_among _ greatest (of_none _ is) = inl is
    attained_among _ all (of_more first others need greatest _ head tail is) =
        greater_attained (nat_le greatest need) first others need greatest all refl is
        (attained first need head) (attained_among others greatest tail)

  -- a chain with one more body
  pub chain_more : (others : List ℕ) (from last : ℕ) → IsChain graph from others
      → Contains (callees_of graph (end_of_chain from others)) last → IsChain graph from (others ++ last ∷ [])
  chain_more [] from last chain called = (called, tt)
  chain_more (callee ∷ others) from last chain called =
      (chain.0, chain_more others callee last chain.1 called)

  pub end_more : (others : List ℕ) (from last : ℕ) → end_of_chain from (others ++ last ∷ []) ≡ last
  end_more [] from last = refl
  end_more (callee ∷ others) from last = end_more others callee last

  -- a body with a need is called at the end of no chain from it
  abbrev NeverBack : ℕ → Type 0
  NeverBack body =
      (others : List ℕ) → IsChain graph body others
      → Contains (callees_of graph (end_of_chain body others)) body → ⊥

  back_to_callee : (body : ℕ) → ((callee : ℕ) → Contains (callees_of graph body) callee → NeverBack callee)
      → NeverBack body
  back_to_callee body never [] chain called = never body called [] tt called
  back_to_callee body never (callee ∷ others) chain called =
      never callee chain.0 (others ++ body ∷ []) (chain_more others callee body chain.1 called)
      (subst (λ last. Contains (callees_of graph last) callee) (sym (end_more others callee body)) chain.0)

  never_either : (first : ℕ) (others : List ℕ) → NeverBack first
      → ((one : ℕ) → Contains others one → NeverBack one) → (one : ℕ)
      → Contains (first ∷ others) one → NeverBack one
  never_either first others head tail one found =
      elim (in_either first others one found) [
        | inl same ↦ subst NeverBack same head
        | inr later ↦ tail one later
      ]

  mutual
    pub never_back : (body need : ℕ) → NeedOf graph body need → NeverBack body
    never_back body need (of_body _ _ greatest all is) =
        back_to_callee body (never_among (callees_of graph body) greatest all)

    never_among : (bodies : List ℕ) (greatest : ℕ) → GreatestOf graph bodies greatest → (one : ℕ)
        → Contains bodies one → NeverBack one
    never_among _ greatest (of_none _ is) = λ one found. absurd (nothing_in_none one found)
    never_among _ all (of_more first others need greatest _ head tail is) =
        never_either first others (never_back first need head) (never_among others greatest tail)

  -- a graph whose charges stop
  abbrev stopped : List Body
  stopped = map capped graph

  pub same_callees : (body : ℕ) → callees_of stopped body ≡ callees_of graph body
  same_callees body = by (slice_get graph body) (slice_get-map capped graph body)
    where
      by : (found : Option Body) → slice_get stopped body ≡ option_map capped found
          → option_map_or (λ (one : Body). one.callees) (slice_get stopped body) []
          ≡ option_map_or (λ (one : Body). one.callees) found []
      by None is = ap (λ found. option_map_or (λ (one : Body). one.callees) found []) is
      by (Some one) is = ap (λ found. option_map_or (λ (one : Body). one.callees) found []) is

  stopped_charge : (body : ℕ) → charge_in stopped body ≡ min (charge_in graph body) 4294967295
  stopped_charge body = by (slice_get graph body) (slice_get-map capped graph body)
    where
      by : (found : Option Body) → slice_get stopped body ≡ option_map capped found
          → option_map_or (λ (one : Body). one.charge) (slice_get stopped body) 0
          ≡ min (option_map_or (λ (one : Body). one.charge) found 0) 4294967295
      by None is = ap (λ found. option_map_or (λ (one : Body). one.charge) found 0) is ∙ omega arith
      by (Some one) is = ap (λ found. option_map_or (λ (one : Body). one.charge) found 0) is

  abbrev IsBeforeStop : (number stop : ℕ) → Type 0
  IsBeforeStop number stop = min number 4294967295 ≡ min stop 4294967295

  mutual
    pub from_stopped : (body need : ℕ) → NeedOf stopped body need
        → (before : ℕ) × (NeedOf graph body before × IsBeforeStop before need)
    from_stopped body need (of_body _ _ greatest all is) =
        let rest = from_stopped_among (callees_of stopped body) greatest all in
        let charge = stopped_charge body in (
          charge_in graph body + rest.0,
          (
            of_body body (charge_in graph body + rest.0) rest.0
                (subst (λ bodies. GreatestOf graph bodies rest.0) (same_callees body) rest.1.0) refl,
            omega (arith, is, charge, rest.1.1),
          ),
        )

    from_stopped_among : (bodies : List ℕ) (greatest : ℕ) → GreatestOf stopped bodies greatest
        → (before : ℕ) × (GreatestOf graph bodies before × IsBeforeStop before greatest)
    from_stopped_among _ greatest (of_none _ is) = (greatest, (of_none greatest is, refl))
    from_stopped_among _ all (of_more first others need greatest _ head tail is) =
        let one = from_stopped first need head in
        let rest = from_stopped_among others greatest tail in
        (max one.0 rest.0, (of_more first others one.0 rest.0 (max one.0 rest.0) one.1.0 rest.1.0 refl, omega (arith, is, one.1.1, rest.1.1)))
