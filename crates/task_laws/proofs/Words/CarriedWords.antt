-- The code of a value in HL, for each need of stack and from any start.
use Rattle.task_laws.proofs.Prelude.{ℕ, ◌*◌, ◌<◌, ◌≤◌, List, ScalarType, height_of, TypedExpression, value, SourceState, Registers, ExpressionNumber, Does, loaded_of, at_place, Arrives, HasRoom, Facts, Context, WordIsGiven}
use Rattle.task_laws.proofs.Machine.Rules.{GoesOn}

-- the value of a tree is put into HL
abbrev pub IsCarriedOut :
    Context → (facts : Facts) → (number : ExpressionNumber) → TypedExpression → ScalarType
    → (pushed from : ℕ) → (last : Facts)
    → (to : ℕ) → Type 0
IsCarriedOut context facts number tree scalar pushed from last to =
    (top need : ℕ) (base : List ℕ) (s : SourceState) (r : Registers) (memory : List ℕ)
    → s.budget < context.number
    → HasRoom context.activation top pushed need
    → 2 * height_of tree ≤ need
    → GoesOn context facts top base s.memory s.frame r memory
    → Does (loaded_of context.activation) s.budget 0 (at_place from r memory s.events)
    (value context.later context.activation.around tree s)
    (Arrives context.activation top base to (WordIsGiven context last number scalar r memory))
