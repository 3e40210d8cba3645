-- The code of calls of procedures.
use Rattle.std.specs.Prelude.{ℕ, zero, suc, ◌+◌, ◌-◌, ◌%◌, List, [], ◌∷◌, ◌++◌, Some, None}
use Rattle.isa8080.specs.declared.instr.Instr.{Instr}
use Rattle.isa8080.specs.declared.instr.Instr.TheVariants.{Push}
use Rattle.isa8080.specs.declared.instr.StackPair.TheVariants.{Psw, StackHl}
use Rattle.trees.specs.declared.declaration.ScalarType.{ScalarType}
use Rattle.trees.specs.declared.declaration.ScalarType.TheVariants.{Byte, Address}
use Rattle.treecode.specs.declared.expression.ExpressionNumber.{ExpressionNumber}
use Rattle.treecode.specs.declared.lists.Range.{Range}
use Rattle.treecode.specs.internal.Queries.{argument}
use Rattle.steps8080.specs.declared.step.Step.{Step}
use Rattle.steps8080.specs.declared.step.Step.TheVariants.{CallProcedure, Plain}
use Rattle.steps8080.specs.declared.step.Task.{Task}
use Rattle.steps8080.specs.declared.step.Task.TheVariants as tasks
use Rattle.steps8080.specs.internal.Step.{part}
use Rattle.steps8080.specs.declared.sites.site.Site.{Site}
use Rattle.steps8080.specs.internal.Site.{scalar}

-- the task of putting a value into A or HL, by its type
unfoldable pub value_task : ScalarType → ExpressionNumber → Task
value_task Byte expression = tasks.Byte expression
value_task Address expression = tasks.Word expression

-- puts an argument into A or HL, by its type
unfoldable pub last_argument_steps : Site → ExpressionNumber → (pushed : ℕ) → List Step
last_argument_steps site expression pushed = part (value_task (scalar site expression) expression) pushed ∷ []

-- pushes a value from A or HL, by its type
unfoldable pub push_of : ScalarType → Instr
push_of Byte = Push Psw
push_of Address = Push StackHl

-- pushes an argument
unfoldable pub pushed_argument_steps : Site → ExpressionNumber → (pushed : ℕ) → List Step
pushed_argument_steps site expression pushed =
    last_argument_steps site expression pushed ++ (Plain (push_of (scalar site expression)) ∷ [])

-- an argument with `others` arguments after it: the last one stays in A or HL, any other is pushed
unfoldable pub argument_steps : Site → ExpressionNumber → (others pushed : ℕ) → List Step
argument_steps site expression zero pushed = last_argument_steps site expression pushed
argument_steps site expression (suc others) pushed = pushed_argument_steps site expression pushed

-- the last `count` arguments of a call; each but the last one leaves a word on the stack
unfoldable pub arguments_steps : Site → Range → (count pushed : ℕ) → List Step
arguments_steps site arguments zero pushed = []
arguments_steps site arguments (suc others) pushed =
    elim (argument site.tree.now arguments (arguments.count - suc others)) [
      | Some expression ↦
          argument_steps site expression others pushed
          ++ arguments_steps site arguments others ((pushed + 2) % 65536)
      | None ↦ arguments_steps site arguments others pushed
    ]

-- calls a procedure by its number in the module; the arguments are evaluated from left to right, and pushed
-- except for the last one, which is in A or HL; the result is in A or HL
unfoldable pub call_steps : Site → (procedure : ℕ) → Range → (pushed : ℕ) → List Step
call_steps site procedure arguments pushed =
    arguments_steps site arguments arguments.count pushed ++ (CallProcedure procedure ∷ [])
