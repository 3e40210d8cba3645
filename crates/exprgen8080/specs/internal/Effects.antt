-- Code that evaluates expressions for their effects.
use Rattle.std.specs.Prelude.{ℕ, false, List, [], ◌∷◌, ◌++◌, Option, Some, None, if◌then◌else◌}
use Rattle.isa8080.specs.declared.instr.Instr.TheVariants.{In}
use Rattle.treecode.specs.declared.expression.ExpressionForm.{ExpressionForm}
use Rattle.treecode.specs.declared.expression.ExpressionForm.TheVariants as forms
use Rattle.treecode.specs.declared.expression.ExpressionNumber.{ExpressionNumber}
use Rattle.treecode.specs.declared.reference.Reference.{Reference}
use Rattle.treecode.specs.declared.reference.Subscript.{Subscript}
use Rattle.steps8080.specs.declared.step.Step.{Step}
use Rattle.steps8080.specs.declared.step.Step.TheVariants.{Plain}
use Rattle.steps8080.specs.declared.step.Task.TheVariants as tasks
use Rattle.steps8080.specs.internal.Step.{part}
use Rattle.steps8080.specs.declared.sites.site.Site.{Site}
use Rattle.steps8080.specs.internal.Site.{expression}
use Rattle.exprgen8080.specs.internal.Bytes.{embedded_steps}
use Rattle.exprgen8080.specs.internal.Calls.{call_steps}

-- the effects of a subscript, if there is one
unfoldable pub subscript_effects_steps : Option Subscript → (pushed : ℕ) → List Step
subscript_effects_steps (Some subscript) pushed = part (tasks.Effects subscript.index) pushed ∷ []
subscript_effects_steps None pushed = []

-- the effects of the subscripts of an object or a part of it
unfoldable pub reference_effects_steps : Reference → (pushed : ℕ) → List Step
reference_effects_steps reference pushed =
    subscript_effects_steps reference.subscript pushed
    ++ subscript_effects_steps reference.member_subscript pushed

-- the effects of two expressions
unfoldable pub both_effects_steps : (first second : ExpressionNumber) → (pushed : ℕ) → List Step
both_effects_steps first second pushed =
    part (tasks.Effects first) pushed ∷ part (tasks.Effects second) pushed ∷ []

-- the effects of an expression of this form
unfoldable pub form_effects_steps : Site → ExpressionForm → (pushed : ℕ) → List Step
form_effects_steps site (forms.Number number) pushed = []
form_effects_steps site (forms.List offset) pushed = []
form_effects_steps site (forms.Value reference) pushed = reference_effects_steps reference pushed
form_effects_steps site (forms.Location reference) pushed = reference_effects_steps reference pushed
form_effects_steps site (forms.Conversion operand) pushed = part (tasks.Effects operand) pushed ∷ []
form_effects_steps site (forms.Unary operator operand) pushed = part (tasks.Effects operand) pushed ∷ []
form_effects_steps site (forms.Function function operand) pushed = part (tasks.Effects operand) pushed ∷ []
form_effects_steps site (forms.Binary operands operator left right) pushed =
    both_effects_steps left right pushed
form_effects_steps site (forms.Shift function value count) pushed = both_effects_steps value count pushed
form_effects_steps site (forms.Assignment target value) pushed = embedded_steps target value false pushed
form_effects_steps site (forms.Call procedure arguments) pushed = call_steps site procedure arguments pushed
form_effects_steps site (forms.Input port) pushed = Plain (In port) ∷ []

-- the effects of an expression, without its value: none if it is quiet
unfoldable pub effects_steps : Site → ExpressionNumber → (pushed : ℕ) → List Step
effects_steps site number pushed = elim (expression site number) [
  | Some found ↦ if found.traits.is_quiet then [] else form_effects_steps site found.form pushed
  | None ↦ []
]
