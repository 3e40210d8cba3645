use Rattle.commands.proofs.{Prelude.{refl}, Shown.{fault_shown, memory_shown, program_printed, program_stopped}, Untold.{few_built, few_but, few_sources}}
use Rattle.commands.proofs.showing.show_sources.Goals as goal

pub show_built-requires-clause-few : goal.show_built-requires-clause-few
show_built-requires-clause-few g c = few_sources _ _ _ c.in-Ok.ensures.too_many

pub returns-in-Ok-clause-printed : goal.returns-in-Ok-clause-printed
returns-in-Ok-clause-printed g c = λ done.
    program_printed _ _ _ _ _ _ (few_built _ _ _ c.in-Ok.ensures.too_many) c.in-Ok.ensures.program c.in-Ok.ensures.plan c.in-Ok.ensures.construction
    (c.show_built.ensures.printed done)

pub returns-in-Ok-clause-refused : goal.returns-in-Ok-clause-refused
returns-in-Ok-clause-refused g c = λ refused.
    program_stopped _ _ _ _ _ _ (few_built _ _ _ c.in-Ok.ensures.too_many) c.in-Ok.ensures.program c.in-Ok.ensures.plan c.in-Ok.ensures.construction _ _ _
    (c.show_built.ensures.stopped refused)

pub returns-in-Err-Fault-clause-refused : goal.returns-in-Err-Fault-clause-refused
returns-in-Err-Fault-clause-refused g c = λ refused. fault_shown _ _ _ _ _ _ _ _ _ _ c.as_slice.ensures.value c.in-Err-Fault.fault-is
    (rw c.in-Err-Fault.field-0-is at c.in-Err-Fault.ensures.refused) (few_but _ _ _ refl (rw c.in-Err-Fault.field-0-is at c.in-Err-Fault.ensures.too_many))
    (rw c.in-Err-Fault.field-0-is at c.in-Err-Fault.ensures.order) c.refuse_sources.ensures.line

pub returns-in-Err-Memory-clause-refused : goal.returns-in-Err-Memory-clause-refused
returns-in-Err-Memory-clause-refused g c = λ refused. memory_shown _ _ _ _ _ _ _ c.refuse_memory.ensures.line
