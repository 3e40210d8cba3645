-- Items that compute the meaning of a part of an expression.
use Rattle.std.specs.Prelude.{◌≡◌, ℕ, List}
use Rattle.meaning.specs.Outcomes.{State as SourceState, Outcome}
use Rattle.isa8080.specs.State.{Registers}
use Rattle.asm8080.specs.declared.item.Item.{Item}
use Rattle.code_meaning.specs.Landing.{Does, at_place}
use Rattle.code_meaning.specs.internal.Activations.{Activation, Arrives, HasRoom, IsReady, IsThere, loaded_of}

-- Take items at any place, with `pushed` bytes pushed and room for `need` bytes. A machine that is ready, and
-- for which `Known` holds, does what is meant. It is ready at their end, where `Holds` holds for the value.
abbrev pub Computes :
    {A : Type 0} → Activation → (pushed need : ℕ) → (Known : Registers → List ℕ → Type 0) → List Item
    → (meant : SourceState → Outcome A) → (Holds : A → Registers → List ℕ → Type 0) → Type 0
Computes activation pushed need Known items meant Holds =
    (from to top : ℕ) (base : List ℕ) (s : SourceState) (r : Registers) (memory : List ℕ)
    → IsThere activation items from to
    → HasRoom activation top pushed need
    → IsReady activation top base s.memory s.frame r memory
    → Known r memory
    → Does (loaded_of activation) s.budget 0 (at_place from r memory s.events) (meant s)
    (Arrives activation top base to Holds)
