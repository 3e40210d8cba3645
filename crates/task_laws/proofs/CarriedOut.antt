-- Each kind of task is carried out by its steps.
use Rattle.task_laws.proofs.Prelude.{ℕ, Bool, List, refl, Item, ExpressionNumber, Facts, LabelNumber, Part, Task, branch_steps, IsThere, Emission, IsWritten, knowing, Emits, HasAll, steps_of, task_steps, Context, IsSound, StepsStand, BranchDoes, PartDoes, TaskDoes}
use Rattle.steps8080.specs.declared.step.Task.TheVariants as tasks
use Rattle.exprgen8080.proofs.Emitting.{is_kept}
use Rattle.task_laws.proofs.Places.AddressLaws.{addresses_do}
use Rattle.task_laws.proofs.Bytes.AskedOfBytes.{bytes_asked}
use Rattle.task_laws.proofs.Branches.BranchLaws.{branch_law}
use Rattle.task_laws.proofs.Bytes.Bytes.{byte_does}
use Rattle.task_laws.proofs.Calls.Calls.{call_does}
use Rattle.task_laws.proofs.Machine.EffectForms.{effects_done}
use Rattle.task_laws.proofs.Stores.StoreLaws.{store_does}
use Rattle.task_laws.proofs.Words.WordLaws.{words_do}
use Rattle.task_laws.proofs.Machine.StepItems.{CarryOut, part_stands}

-- The law of jumps where a condition holds.
pub branch_does :
    (context : Context) {facts last : Facts} {pushed from to : ℕ} (condition : ExpressionNumber)
    (label : LabelNumber)
    (sense : Bool) (first : ℕ)
    → IsSound context
    → StepsStand context (PartDoes context) facts from
    (branch_steps (knowing context.site facts) condition label sense pushed first) last to
    → BranchDoes context facts condition label sense pushed from last to
branch_does context condition label sense first sound stand =
    branch_law first (bytes_asked context sound) sound stand

-- If parts do what they mean, so do the steps of each task: of values, effects, addresses, jumps, stores and
-- calls.
pub carry_out : (context : Context) → IsSound context → CarryOut context
unfolding task_steps steps_of
carry_out context sound before after part label from to stand = by part.task part.pushed stand
  where
    by : (task : Task) (pushed : ℕ)
        → StepsStand context (PartDoes context) before from
        (steps_of (knowing context.site before) task pushed label) after to
        → TaskDoes context before task pushed from after to
    by (tasks.Byte number) pushed stands =
        byte_does context sound (bytes_asked context sound) before after number pushed from to stands
    by (tasks.Word number) pushed stands = words_do context sound before after number pushed from to stands
    by (tasks.Effects number) pushed stands = effects_done number sound stands
    by (tasks.Address reference) pushed stands =
        addresses_do context sound before after reference pushed from to stands
    by (tasks.Branch condition target sense) pushed stands =
        branch_does context condition target sense label sound stands
    by (tasks.Store target is_wanted) pushed stands = store_does context target is_wanted sound stands
    by (tasks.Call procedure arguments) pushed stands = call_does procedure arguments sound stands

-- So does all code that was written for a part, wherever it is placed.
pub written_does :
    (context : Context) {facts last : Facts} {part : Part} {list : List Item} (from to : ℕ)
    → IsSound context
    → IsWritten context.site context.called facts part list last
    → IsThere context.activation list from to
    → PartDoes context facts part from last to
written_does context from to sound written there =
    part_stands context context.site context.called refl refl (carry_out context sound) from to written there

-- And so does all code that `emit_expression` adds, in a module with code that calls the same routines.
pub emitted_does :
    (context : Context) {part : Part} {before after : Emission} (from to : ℕ)
    → IsSound context
    → (emits : Emits context.site part before after)
    → HasAll after.is_called.items context.called
    → IsThere context.activation emits.list from to
    → PartDoes context before.facts part from after.facts to
emitted_does context from to sound emits called there =
    written_does context from to sound (is_kept called emits.written) there
