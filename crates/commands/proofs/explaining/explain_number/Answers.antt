use Rattle.commands.proofs.Explained.{page_unknown, page_unwritten, prints_page}
use Rattle.commands.proofs.explaining.explain_number.Goals as goal

pub returns-in-Ok-clause-printed : goal.returns-in-Ok-clause-printed
returns-in-Ok-clause-printed g c = λ done. prints_page _ _ _ _ c.in-Ok.ensures (c.print_text.ensures.printed done)

pub returns-in-Ok-clause-refused : goal.returns-in-Ok-clause-refused
returns-in-Ok-clause-refused g c = λ refused. page_unwritten _ _ _ _ _ _ c.in-Ok.ensures (c.print_text.ensures.unwritten refused) (c.print_text.ensures.stopped refused)

pub returns-in-Err-Memory-clause-refused : goal.returns-in-Err-Memory-clause-refused
returns-in-Err-Memory-clause-refused g c = λ refused. page_unknown _ _ _ _ c.refuse_memory.ensures.line
