-- Runs after runs.
use Rattle.asm8080.proofs.Prelude.{ℕ, ◌+◌, ◌≤◌, List, sym, ap, ◌∙◌, arith, State, state_after, state_after_sum, Comes, Spends}

enough_on : (budget middle left j k : ℕ) → budget ≤ middle + j → middle ≤ left + k → budget ≤ left + (k + j)
enough_on budget middle left j k h g = omega arith

spent_on : (budget middle left : ℕ) → middle ≤ budget → left ≤ middle → left ≤ budget
spent_on budget middle left h g = omega arith

pub comes_on :
    (script : List (List ℕ)) (j k : ℕ) (s t u : State)
    → Comes script j s t
    → Comes script k t u
    → Comes script (k + j) s u
comes_on script j k s t u first second =
    second ∙ ap (state_after script k) first ∙ sym (state_after_sum script k j s)

pub spends_on :
    (script : List (List ℕ)) (budget middle left : ℕ) (s t u : State)
    → Spends script budget s middle t
    → Spends script middle t left u
    → Spends script budget s left u
spends_on script budget middle left s t u first second = record {
  count = second.count + first.count;
  run = comes_on script first.count second.count s t u first.run second.run;
  enough = enough_on budget middle left first.count second.count first.enough second.enough;
  spent = spent_on budget middle left first.spent second.spent;
}
