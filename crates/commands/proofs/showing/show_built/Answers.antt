use Rattle.commands.proofs.Shown.{no_text, text_begun, text_printed}
use Rattle.commands.proofs.showing.show_built.Goals as goal

pub returns-in-Err-clause-stopped : goal.returns-in-Err-clause-stopped
returns-in-Err-clause-stopped g c = λ refused. no_text _ _ _ _ _ _ c.refuse_memory.ensures.line

pub returns-clause-printed : goal.returns-clause-printed
returns-clause-printed g c = λ done.
    text_printed _ _ _ _ _ _ _ c.in-Ok.ensures c.as_slice.ensures.value (c.print_text.ensures.printed done)

pub returns-clause-stopped : goal.returns-clause-stopped
returns-clause-stopped g c = λ refused.
    text_begun _ _ _ _ _ _ _ _ _ c.in-Ok.ensures c.as_slice.ensures.value
    (c.print_text.ensures.unwritten refused) (c.print_text.ensures.stopped refused)
