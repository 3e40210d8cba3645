-- The need of a body: its charge, and the greatest need of the bodies that are called in it.
use Rattle.std.specs.Prelude.{◌≡◌, ℕ, ◌+◌, List, [], ◌∷◌, max, min, Option, Some, None}
use Rattle.call_graphs.specs.Chains.{Body, HasCycle, callees_of, charge_in}

mutual
  pub data NeedOf (graph : List Body) : (body need : ℕ) → Type 0 where
    of_body :
        (body need greatest : ℕ)
        → GreatestOf graph (callees_of graph body) greatest
        → need ≡ charge_in graph body + greatest
        → NeedOf graph body need

  -- the greatest need of some bodies, 0 if there are none
  pub data GreatestOf (graph : List Body) : (bodies : List ℕ) → (greatest : ℕ) → Type 0 where
    of_none : (greatest : ℕ) → greatest ≡ 0 → GreatestOf graph [] greatest
    of_more :
        (first : ℕ) (others : List ℕ) (need greatest all : ℕ)
        → NeedOf graph first need
        → GreatestOf graph others greatest
        → all ≡ max need greatest
        → GreatestOf graph (first ∷ others) all

-- the same in numbers that stop at the greatest of 32 bits
abbrev pub HasNeed : List Body → (body shown : ℕ) → Type 0
HasNeed graph body shown = (need : ℕ) × (NeedOf graph body need × (shown ≡ min need 4294967295))

abbrev pub HasGreatest : List Body → (bodies : List ℕ) → (shown : ℕ) → Type 0
HasGreatest graph bodies shown =
    (greatest : ℕ) × (GreatestOf graph bodies greatest × (shown ≡ min greatest 4294967295))

-- a graph whose charges stop at the greatest number of 32 bits
abbrev pub capped : Body → Body
capped body = record { charge = min body.charge 4294967295; callees = body.callees }

-- the answer for a graph: None exactly if it has a cycle, and else the need of its first body
unfoldable pub Answers : List Body → Option ℕ → Type 0
Answers graph None = HasCycle graph
Answers graph (Some need) = HasNeed graph 0 need × (HasCycle graph → ⊥)
