-- The steps of each task. Those of each task are in a file: Bytes, Words, Effects and Calls here, Addresses,
-- Stores and Branches in operands8080.
use Rattle.std.specs.Prelude.{ℕ, List}
use Rattle.steps8080.specs.declared.step.Part.{Part}
use Rattle.steps8080.specs.declared.step.Step.{Step}
use Rattle.steps8080.specs.declared.step.Task.{Task}
use Rattle.steps8080.specs.declared.step.Task.TheVariants as tasks
use Rattle.steps8080.specs.declared.sites.site.Site.{Site}
use Rattle.operands8080.specs.internal.Addresses.{address_steps}
use Rattle.operands8080.specs.internal.Stores.{store_steps}
use Rattle.operands8080.specs.internal.Branches.{branch_labels, branch_steps}
use Rattle.exprgen8080.specs.internal.Bytes.{byte_steps}
use Rattle.exprgen8080.specs.internal.Calls.{call_steps}
use Rattle.exprgen8080.specs.internal.Effects.{effects_steps}
use Rattle.exprgen8080.specs.internal.Words.{word_steps}

-- the number of labels that the steps of a task take when `pushed` bytes are pushed: only branches take any
unfoldable pub labels_of : Site → Task → (pushed : ℕ) → ℕ
labels_of site (tasks.Branch condition label sense) pushed = branch_labels site condition label sense pushed
labels_of site task pushed = 0

-- the steps of a task when `pushed` bytes are pushed, with the first label that is not taken
unfoldable pub steps_of : Site → Task → (pushed first : ℕ) → List Step
-- puts the low byte of a value into A
steps_of site (tasks.Byte number) pushed first = byte_steps site number pushed
-- puts a value into HL
steps_of site (tasks.Word number) pushed first = word_steps site number pushed
-- evaluates an expression for its effects
steps_of site (tasks.Effects number) pushed first = effects_steps site number pushed
-- puts the address of an object or a part of it into HL
steps_of site (tasks.Address reference) pushed first = address_steps site reference pushed
-- jumps to a label by the lowest bit of a value
steps_of site (tasks.Branch condition label sense) pushed first =
    branch_steps site condition label sense pushed first
-- stores A or HL in a target
steps_of site (tasks.Store target is_wanted) pushed first = store_steps site target is_wanted pushed
-- passes the arguments, and calls the procedure
steps_of site (tasks.Call procedure arguments) pushed first = call_steps site procedure arguments pushed

-- the number of labels that the steps of a part take
unfoldable pub task_labels : Site → Part → ℕ
task_labels site part = labels_of site part.task part.pushed

-- the steps of a part, with the first label that is not taken; only the first step uses the facts of the site
unfoldable pub task_steps : Site → Part → (first : ℕ) → List Step
task_steps site part first = steps_of site part.task part.pushed first
