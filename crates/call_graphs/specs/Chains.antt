-- Call graphs, whose bodies are numbered, and chains of calls in them.
use Rattle.std.specs.Prelude.{ℕ, ◌+◌, List, [], ◌∷◌, Contains, slice_get}
use Rattle.std.specs.Option.{option_map_or}

-- a body in the graph: the charge of a call of it, and the bodies that are called in it
pub record Body : Type 0 where
  pub charge : ℕ
  pub callees : List ℕ

-- the bodies that are called in a body, by its number, and the charge of a call of it
abbrev pub callees_of : List Body → (body : ℕ) → List ℕ
callees_of graph body = option_map_or (λ (found : Body). found.callees) (slice_get graph body) []

abbrev pub charge_in : List Body → (body : ℕ) → ℕ
charge_in graph body = option_map_or (λ (found : Body). found.charge) (slice_get graph body) 0

-- a chain of calls: in each body the next one is called
abbrev pub IsChain : List Body → (from : ℕ) → (others : List ℕ) → Type 0
IsChain graph from [] = Unit {0}
IsChain graph from (callee ∷ others) = Contains (callees_of graph from) callee × IsChain graph callee others

-- the body that a chain ends with
abbrev pub end_of_chain : (from : ℕ) → (others : List ℕ) → ℕ
end_of_chain from [] = from
end_of_chain from (callee ∷ others) = end_of_chain callee others

-- the charges of all calls of a chain together
abbrev pub charges_of_chain : List Body → (from : ℕ) → (others : List ℕ) → ℕ
charges_of_chain graph from [] = charge_in graph from
charges_of_chain graph from (callee ∷ others) = charge_in graph from + charges_of_chain graph callee others

-- some chain ends with a body that calls its first one
abbrev pub HasCycle : List Body → Type 0
HasCycle graph =
    (from : ℕ) × ((others : List ℕ)
    × (IsChain graph from others × Contains (callees_of graph (end_of_chain from others)) from))
