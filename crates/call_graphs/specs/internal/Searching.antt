-- What holds along a search.
use Rattle.std.specs.Prelude.{◌≡◌, ℕ, ◌+◌, ◌-◌, ◌<◌, List, [], ◌∷◌, length, slice_get, take, Option, Some, None, ◌⊎◌}
use Rattle.std.specs.List.{AllByRecursion}
use Rattle.call_graphs.specs.declared.path.Visit.{Visit}
use Rattle.call_graphs.specs.declared.search.Mark.{Mark}
use Rattle.call_graphs.specs.declared.search.Mark.TheVariants.{New, Open, Done}
use Rattle.call_graphs.specs.declared.search.Progress.{Progress}
use Rattle.call_graphs.specs.declared.search.Progress.TheVariants.{Going, Finished, Cyclic}
use Rattle.call_graphs.specs.Chains.{Body, HasCycle, callees_of}
use Rattle.call_graphs.specs.internal.Needs.{HasGreatest, HasNeed}
use Rattle.call_graphs.specs.internal.Search.{Searched, mark_of}

-- a body is on a path
abbrev pub IsOnPath : (body : ℕ) → List Visit → Type 0
IsOnPath body [] = ⊥
IsOnPath body (visit ∷ others) = (visit.body ≡ body) ⊎ IsOnPath body others

-- a path that begins with a body, and on which each visit is at its call of the one after it
abbrev pub Leads : List Body → (root : ℕ) → List Visit → Type 0
Leads graph root [] = ⊥
Leads graph root (visit ∷ []) = visit.body ≡ root
Leads graph root (visit ∷ before ∷ others) =
    (slice_get (callees_of graph before.body) before.next ≡ Some visit.body) × Leads graph root (before ∷ others)

-- the calls that a visit has passed have needs, and it has the greatest
abbrev pub HasPassed : List Body → Visit → Type 0
HasPassed graph visit = HasGreatest graph (take visit.next (callees_of graph visit.body)) visit.greatest

-- the marks tell the truth
pub record IsTrueOf (graph : List Body) (s : Searched) : Type 0 where
  pub size : length s.marks ≡ length graph
  pub done : (body need : ℕ) → mark_of s.marks body ≡ Done need → HasNeed graph body need
  pub is_open : (body : ℕ) → mark_of s.marks body ≡ Open → IsOnPath body s.path

-- a search within a body that it began with
pub record Searches (graph : List Body) (root : ℕ) (s : Searched) : Type 0 where
  pub marks : IsTrueOf graph s
  pub leads : Leads graph root s.path
  pub passed : AllByRecursion (HasPassed graph) s.path

-- the remaining steps: two for each body that is not known, and one for each of its calls
abbrev pub weight : Body → Mark → ℕ
weight body New = 2 + length body.callees
weight body Open = 0
weight body (Done need) = 0

abbrev pub waiting : List Body → List Mark → ℕ
waiting [] marks = 0
waiting (body ∷ bodies) [] = 0
waiting (body ∷ bodies) (mark ∷ marks) = weight body mark + waiting bodies marks

abbrev pub unfinished : List Body → List Visit → ℕ
unfinished graph [] = 0
unfinished graph (visit ∷ others) =
    1 + (length (callees_of graph visit.body) - visit.next) + unfinished graph others

abbrev pub left : List Body → Searched → ℕ
left graph s = waiting graph s.marks + unfinished graph s.path

-- the result of a step
abbrev pub GoesTo : List Body → (root before : ℕ) → Searched → Progress → Type 0
GoesTo graph root before s Going = Searches graph root s × (left graph s < before)
GoesTo graph root before s (Finished need) = HasNeed graph root need × (IsTrueOf graph s × (s.path ≡ []))
GoesTo graph root before s Cyclic = HasCycle graph

-- the result of a search for the need of a body
unfoldable pub Finds : List Body → (root : ℕ) → Option ℕ → Searched → Type 0
Finds graph root None s = HasCycle graph
Finds graph root (Some need) s = HasNeed graph root need × (IsTrueOf graph s × (s.path ≡ []))

-- the first `count` bodies have needs
abbrev pub HaveNeeds : List Body → (count : ℕ) → Type 0
HaveNeeds graph count = (body : ℕ) → body < count → (need : ℕ) × HasNeed graph body need
