-- A step of a search: what holds along it, and what it comes to.
use Rattle.call_graphs.proofs.Prelude.{◌≡◌, ℕ, zero, suc, ◌+◌, ◌<◌, ◌≤◌, List, [], ◌∷◌, ◌++◌, length, take, max, slice_get, slice_set, Option, Some, None, Contains, arith, refl, ap, sym, subst, ◌∙◌, inl, inr, AllByRecursion, length-set, Visit, Mark, New, Open, Done, Progress, Body, HasCycle, IsChain, callees_of, charge_in, end_of_chain, NeedOf, of_body, GreatestOf, of_none, of_more, HasNeed, Searched, begun, finished, mark_of, need_shown, passed, stepped, stepped_to, GoesTo, HasPassed, IsOnPath, IsTrueOf, Leads, Searches, left, waiting, slice_get_within, take_found}
use Rattle.call_graphs.specs.internal.Search.{called}
use Rattle.call_graphs.proofs.Elements.{at_head, in_tail}
use Rattle.call_graphs.proofs.Marks.{done_is_not_open, waiting_after_need, mark_set, opened}
use Rattle.call_graphs.proofs.Needs.{chain_more, end_more}

past_list : {A : Type 0} (items : List A) (place : ℕ) → slice_get items place ≡ None
    → take place items ≡ items
past_list [] zero is = refl
past_list [] (suc place) is = refl
past_list (first ∷ others) zero is = let bad : ⊥ = cc in absurd bad
past_list (first ∷ others) (suc place) is = ap (λ rest. first ∷ rest) (past_list others place is)

among_list : {A : Type 0} (items : List A) (place : ℕ) (item : A) → slice_get items place ≡ Some item
    → Contains items item
among_list [] place item is = let bad : ⊥ = cc in absurd bad
among_list (first ∷ others) zero item is =
    let same : first ≡ item = cc in subst (Contains (first ∷ others)) same (at_head first others)
among_list (first ∷ others) (suc place) item is = in_tail first others item (among_list others place item is)

module _ (graph : List Body) where
  -- the greatest need of bodies and one more
  greatest_more : (bodies : List ℕ) (greatest one need : ℕ) → GreatestOf graph bodies greatest
      → NeedOf graph one need → GreatestOf graph (bodies ++ one ∷ []) (max greatest need)
  greatest_more [] greatest one need (of_none _ is) last =
      of_more one [] need 0 (max greatest need) last (of_none 0 refl) (omega (arith, is))
  greatest_more (first ∷ others) all one need (of_more _ _ first_need greatest _ head tail is) last =
      of_more first (others ++ one ∷ []) first_need (max greatest need) (max all need) head
      (greatest_more others greatest one need tail last) (omega (arith, is))

  passes : (visit : Visit) (callee need : ℕ)
      → slice_get (callees_of graph visit.body) visit.next ≡ Some callee → HasPassed graph visit
      → HasNeed graph callee need → HasPassed graph (passed visit need)
  passes visit callee need is before one =
      let more : take visit.next (callees_of graph visit.body) ++ callee ∷ []
      ≡ take (visit.next + 1) (callees_of graph visit.body) =
      sym (take_found (callees_of graph visit.body) visit.next callee is)
      ∙ ap (λ count. take count (callees_of graph visit.body))
      (let same : suc visit.next ≡ visit.next + 1 = omega arith in same) in (
        max before.0 one.0,
        (
          subst (λ bodies. GreatestOf graph bodies (max before.0 one.0)) more
              (greatest_more (take visit.next (callees_of graph visit.body)) before.0 callee one.0
              before.1.0 one.1.0),
          omega (arith, before.1.1, one.1.1),
        ),
      )

  has_need : (visit : Visit) → slice_get (callees_of graph visit.body) visit.next ≡ None
      → HasPassed graph visit → HasNeed graph visit.body (need_shown graph visit)
  has_need visit is before = (
    charge_in graph visit.body + before.0,
    (
      of_body visit.body (charge_in graph visit.body + before.0) before.0
          (subst (λ bodies. GreatestOf graph bodies before.0)
          (past_list (callees_of graph visit.body) visit.next is) before.1.0) refl,
      omega (arith, before.1.1),
    ),
  )

  -- a chain from a body on the path to the last one on it
  chain_to_last : (root body : ℕ) (visit : Visit) (others : List Visit) → Leads graph root (visit ∷ others)
      → IsOnPath body (visit ∷ others)
      → (chain : List ℕ) × (IsChain graph body chain × (end_of_chain body chain ≡ visit.body))
  chain_to_last root body visit others leads (inl same) = ([], (tt, sym same))
  chain_to_last root body visit [] leads (inr never) = absurd never
  chain_to_last root body visit (before ∷ others) leads (inr on) =
      let rest = chain_to_last root body before others leads.1 on in
      let called : Contains (callees_of graph (end_of_chain body rest.0)) visit.body =
      subst (λ last. Contains (callees_of graph last) visit.body) (sym rest.1.1)
      (among_list (callees_of graph before.body) before.next visit.body leads.0) in
      (rest.0 ++ visit.body ∷ [], (chain_more graph rest.0 body visit.body rest.1.0 called, end_more graph rest.0 body visit.body))

  cycle_found : (root callee : ℕ) (visit : Visit) (others : List Visit)
      → slice_get (callees_of graph visit.body) visit.next ≡ Some callee → Leads graph root (visit ∷ others)
      → IsOnPath callee (visit ∷ others) → HasCycle graph
  cycle_found root callee visit others is leads on =
      let chain = chain_to_last root callee visit others leads on in
      (callee, (chain.0, (chain.1.0, subst (λ last. Contains (callees_of graph last) callee) (sym chain.1.1) (among_list (callees_of graph visit.body) visit.next callee is))))

  -- the marks after a need is set
  done_set : (visit : Visit) (s : Searched) (need : ℕ) → HasNeed graph visit.body need
      → IsTrueOf graph (record s { path = visit ∷ s.path })
      → IsTrueOf graph (record s { marks = slice_set s.marks visit.body (Done need) })
  done_set visit s need has before = record {
    size = length-set s.marks visit.body (Done need) ∙ before.size;
    done = λ body other is.
        elim (mark_set s.marks visit.body body (Done need)) [
          | inl here ↦
              let same : Done need ≡ Done other = sym here.0 ∙ is in
              let equal : need ≡ other = cc in
              subst (HasNeed graph body) equal (subst (λ one. HasNeed graph one need) here.1 has)
          | inr there ↦ before.done body other (sym there ∙ is)
        ];
    is_open = λ body is.
        elim (mark_set s.marks visit.body body (Done need)) [
          | inl here ↦
              let same : Done need ≡ Open = sym here.0 ∙ is in
              let bad : ⊥ = cc in
              absurd bad
          | inr there ↦
              elim (before.is_open body (sym there ∙ is)) [
                | inl here ↦ absurd
                    (done_is_not_open s.marks visit.body need
                    (subst (λ one. mark_of (slice_set s.marks visit.body (Done need)) one ≡ Open) (sym here)
                    is))
                | inr on ↦ on
              ]
        ];
  }

  -- the marks after a body is begun
  open_set : (callee : ℕ) (s : Searched) → IsTrueOf graph s → IsTrueOf graph (begun callee s)
  open_set callee s before = record {
    size = length-set s.marks callee Open ∙ before.size;
    done = λ body need is.
        elim (mark_set s.marks callee body Open) [
          | inl here ↦
              let same : Open ≡ Done need = sym here.0 ∙ is in
              let bad : ⊥ = cc in
              absurd bad
          | inr there ↦ before.done body need (sym there ∙ is)
        ];
    is_open = λ body is.
        elim (mark_set s.marks callee body Open) [
          | inl here ↦ inl here.1
          | inr there ↦ inr (before.is_open body (sym there ∙ is))
        ];
  }

  -- what a path leads to does not rest on which call its last visit is at
  leads_still : (root need : ℕ) (visit : Visit) (others : List Visit) → Leads graph root (visit ∷ others)
      → Leads graph root (passed visit need ∷ others)
  leads_still root need visit [] leads = leads
  leads_still root need visit (before ∷ others) leads = leads

  -- a body is begun
  pub begins : (root callee : ℕ) (visit : Visit) (s : Searched) → mark_of s.marks callee ≡ New
      → slice_get (callees_of graph visit.body) visit.next ≡ Some callee
      → Searches graph root (record s { path = visit ∷ s.path })
      → GoesTo graph root (left graph (record s { path = visit ∷ s.path }))
      (begun callee (record s { path = visit ∷ s.path })) Progress.Going
  begins root callee visit s new is before =
      let less : waiting graph s.marks ≡ 2 + length (callees_of graph callee)
      + waiting graph (slice_set s.marks callee Open) =
      opened graph s.marks callee before.marks.size new in (
        record {
          marks = open_set callee (record s { path = visit ∷ s.path }) before.marks;
          leads = (is, before.leads);
          passed = ((0, (of_none 0 refl, omega arith)), before.passed);
        },
        omega (arith, less),
      )

  goes_on : (root callee : ℕ) (mark : Mark) (visit : Visit) (s : Searched) → mark_of s.marks callee ≡ mark
      → slice_get (callees_of graph visit.body) visit.next ≡ Some callee
      → Searches graph root (record s { path = visit ∷ s.path })
      → GoesTo graph root (left graph (record s { path = visit ∷ s.path })) (called mark visit callee s).0
      (called mark visit callee s).1
  goes_on root callee New visit s mark is before = begins root callee visit s mark is before
  goes_on root callee Open visit s mark is before =
      cycle_found root callee visit s.path is before.leads (before.marks.is_open callee mark)
  goes_on root callee (Done need) visit s mark is before =
      let within : visit.next < length (callees_of graph visit.body) =
      slice_get_within (callees_of graph visit.body) visit.next callee is in (
        record {
          marks = record { size = before.marks.size; done = before.marks.done; is_open = before.marks.is_open };
          leads = leads_still root need visit s.path before.leads;
          passed =
              (passes visit callee need is before.passed.0 (before.marks.done callee need mark), before.passed.1);
        },
        omega (arith, within),
      )

  -- a visit ends
  ends : (root : ℕ) (visit : Visit) (marks : List Mark) (path : List Visit)
      → slice_get (callees_of graph visit.body) visit.next ≡ None
      → Searches graph root (record { marks = marks; path = visit ∷ path })
      → GoesTo graph root (left graph (record { marks = marks; path = visit ∷ path }))
      (finished graph visit (record { marks = marks; path = path })).0
      (finished graph visit (record { marks = marks; path = path })).1
  ends root visit marks [] is before =
      let need : HasNeed graph visit.body (need_shown graph visit) = has_need visit is before.passed.0 in
      (subst (λ body. HasNeed graph body (need_shown graph visit)) before.leads need, (done_set visit (record { marks = marks; path = [] }) (need_shown graph visit) need before.marks, refl))
  ends root visit marks (after ∷ others) is before =
      let need : HasNeed graph visit.body (need_shown graph visit) = has_need visit is before.passed.0 in
      let less : waiting graph (slice_set marks visit.body (Done (need_shown graph visit)))
      ≤ waiting graph marks = waiting_after_need graph marks visit.body (need_shown graph visit) in (
        record {
          marks = done_set visit (record { marks = marks; path = after ∷ others })
              (need_shown graph visit) need before.marks;
          leads = before.leads.1;
          passed = before.passed.1;
        },
        omega (arith, less),
      )

  pub step_of_search : (root : ℕ) (visit : Visit) (s : Searched)
      → Searches graph root (record s { path = visit ∷ s.path })
      → GoesTo graph root (left graph (record s { path = visit ∷ s.path })) (stepped graph visit s).0
      (stepped graph visit s).1
  step_of_search root visit s before = by (slice_get (callees_of graph visit.body) visit.next) refl
    where
      by : (call : Option ℕ) → slice_get (callees_of graph visit.body) visit.next ≡ call
          → GoesTo graph root (left graph (record s { path = visit ∷ s.path }))
          (stepped_to call graph visit s).0 (stepped_to call graph visit s).1
      by None is = ends root visit s.marks s.path is before
      by (Some callee) is = goes_on root callee (mark_of s.marks callee) visit s refl is before

  -- a search begins within a body
  pub starts : (root : ℕ) (s : Searched) → IsTrueOf graph s → s.path ≡ [] → Searches graph root (begun root s)
  starts root s before none = record {
    marks = open_set root s before;
    leads = subst (λ path. Leads graph root (record { body = root; next = 0; greatest = 0 } ∷ path))
        (sym none) refl;
    passed = ((0, (of_none 0 refl, omega arith)), subst (AllByRecursion (HasPassed graph)) (sym none) tt);
  }
