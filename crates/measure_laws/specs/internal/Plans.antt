-- The labels of planned steps: those that they jump to, and those that they bind.
use Rattle.std.specs.Prelude.{◌≡◌, ◌⊎◌, ℕ, List, [], ◌∷◌}
use Rattle.steps8080.specs.declared.step.Step.TheVariants as steps
use Rattle.statements8080.specs.declared.plan.Planned.{Planned}
use Rattle.statements8080.specs.declared.plan.Planned.TheVariants as planned

-- a planned step that is no part of an expression jumps to one of these labels, or to none
abbrev pub JumpTo : (ok : ℕ → Type 0) → Planned → Type 0
JumpTo ok (planned.Code (steps.Jump form label)) = ok label.index
JumpTo ok (planned.JumpOn label) = ok label.index
JumpTo ok (planned.Turn other end) = ok end.index
JumpTo ok step = Unit {0}

-- the same for planned steps: a condition for each jump
abbrev pub JumpsTo : (ok : ℕ → Type 0) → List Planned → Type 0
JumpsTo ok [] = Unit {0}
JumpsTo ok (planned.Code (steps.Jump form label) ∷ others) = ok label.index × JumpsTo ok others
JumpsTo ok (planned.JumpOn label ∷ others) = ok label.index × JumpsTo ok others
JumpsTo ok (planned.Turn other end ∷ others) = ok end.index × JumpsTo ok others
JumpsTo ok (step ∷ others) = JumpsTo ok others

-- a label is bound by a planned step, by one of planned steps
abbrev pub PlannedBinds : (label : ℕ) → Planned → Type 0
PlannedBinds label (planned.Code (steps.Mark other)) = label ≡ other.index
PlannedBinds label (planned.Code step) = ⊥
PlannedBinds label (planned.Turn other end) = label ≡ other.index
PlannedBinds label (planned.Meet other) = label ≡ other.index
PlannedBinds label (planned.Again other facts is_entered) = label ≡ other.index
PlannedBinds label step = ⊥

abbrev pub PlanBinds : (label : ℕ) → List Planned → Type 0
PlanBinds label [] = ⊥
PlanBinds label (step ∷ others) = PlannedBinds label step ⊎ PlanBinds label others
