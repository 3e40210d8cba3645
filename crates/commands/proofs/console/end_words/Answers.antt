use Rattle.commands.proofs.{Prelude.{wanted_by, ap, texts, status_of, refl, subst, sym, files_stay, tells_no_file, IsWrong}, Untold.{runs_out}, OrdersKept.{converts_by_words, kept_by_words, kept_stops, memory_converts, tells_any, tells_by_words}, ProgramsTold.{memory_by_words, quiet_by_any, quiet_by_words, refuses_by_words, runs_by_words}, TextsTold.{help_at_most, none_asked, none_told, wrong_not_done, wrong_not_refused}}
use Rattle.commands.proofs.console.end_words.Goals as goal

pub returns-in-Ok-clause-not_wrong : goal.returns-in-Ok-clause-not_wrong
returns-in-Ok-clause-not_wrong g c = λ help none wrong. none_told _ _ _ _ c.in-Ok.ensures.order (none c.in-Ok.ensures.ok) (c.carry_out.ensures.refused_text wrong)

pub returns-in-Err-Fault-clause-unchanged : goal.returns-in-Err-Fault-clause-unchanged
returns-in-Err-Fault-clause-unchanged g c = kept_by_words (wanted_by (texts c.args.words.now)) (g.F.Files.files c.args.files.now) (g.F.Files.files c.args.files.now) (files_stay (g.F.Files.files c.args.files.now))

pub returns-in-Err-Fault-clause-stopped : goal.returns-in-Err-Fault-clause-stopped
returns-in-Err-Fault-clause-stopped g c = λ other. kept_stops (wanted_by (texts c.args.words.now)) (g.F.Files.files c.args.files.now) (g.F.Files.files c.args.files.now) (files_stay (g.F.Files.files c.args.files.now))

pub returns-in-Err-Fault-clause-told : goal.returns-in-Err-Fault-clause-told
returns-in-Err-Fault-clause-told g c = λ refused. tells_any _ _ _ (tells_no_file _ _ _ _ _ _ refl (c.end_line.ensures.told refused))

pub returns-in-Err-Fault-clause-not_wrong : goal.returns-in-Err-Fault-clause-not_wrong
returns-in-Err-Fault-clause-not_wrong g c = λ help none wrong. help_at_most _ _ help (rw c.in-Err-Fault.field-0-is at c.in-Err-Fault.ensures.fault)
    (subst IsWrong c.in-Err-Fault.fault-is (c.end_line.ensures.not_wrong wrong))

pub returns-in-Err-Fault-clause-usage : goal.returns-in-Err-Fault-clause-usage
returns-in-Err-Fault-clause-usage g c = λ fault none done.
    wrong_not_done _ (c.end_line.ensures.usage (subst IsWrong (sym c.in-Err-Fault.fault-is) (none_asked _ _ none (rw c.in-Err-Fault.field-0-is at c.in-Err-Fault.ensures.fault)))) done

pub returns-in-Err-Fault-clause-wrong : goal.returns-in-Err-Fault-clause-wrong
returns-in-Err-Fault-clause-wrong g c = λ fault none refused.
    absurd (wrong_not_refused _ (c.end_line.ensures.usage (subst IsWrong (sym c.in-Err-Fault.fault-is) (none_asked _ _ none (rw c.in-Err-Fault.field-0-is at c.in-Err-Fault.ensures.fault)))) refused)

pub returns-in-Err-Memory-clause-wrong : goal.returns-in-Err-Memory-clause-wrong
returns-in-Err-Memory-clause-wrong g c = λ fault none refused. runs_out _ _ _ _ _ refl c.refuse_memory.ensures.line

pub returns-in-Err-Memory-clause-unchanged : goal.returns-in-Err-Memory-clause-unchanged
returns-in-Err-Memory-clause-unchanged g c = kept_by_words (wanted_by (texts c.args.words.now)) (g.F.Files.files c.args.files.now) (g.F.Files.files c.args.files.now) (files_stay (g.F.Files.files c.args.files.now))

pub returns-in-Err-Memory-clause-stopped : goal.returns-in-Err-Memory-clause-stopped
returns-in-Err-Memory-clause-stopped g c = λ other. kept_stops (wanted_by (texts c.args.words.now)) (g.F.Files.files c.args.files.now) (g.F.Files.files c.args.files.now) (files_stay (g.F.Files.files c.args.files.now))

pub returns-in-Err-Memory-clause-told : goal.returns-in-Err-Memory-clause-told
returns-in-Err-Memory-clause-told g c = λ refused. tells_any _ _ _ (tells_no_file _ _ _ _ _ _ refl c.refuse_memory.ensures.told)

pub returns-in-Ok-clause-ran : goal.returns-in-Ok-clause-ran
returns-in-Ok-clause-ran g c = λ clean refused wrong. runs_by_words _ _ _ _ _ _ _ _ _ c.in-Ok.ensures.order (c.carry_out.ensures.ran refused wrong)

pub returns-in-Ok-clause-quiet : goal.returns-in-Ok-clause-quiet
returns-in-Ok-clause-quiet g c = λ refused wrong. quiet_by_words _ _ _ _ c.in-Ok.ensures.order (c.carry_out.ensures.quiet refused wrong)

pub returns-in-Err-Fault-clause-quiet : goal.returns-in-Err-Fault-clause-quiet
returns-in-Err-Fault-clause-quiet g c = λ refused wrong. quiet_by_any _ _ _ (c.end_line.ensures.quiet refused wrong)

pub returns-in-Ok-clause-refused : goal.returns-in-Ok-clause-refused
returns-in-Ok-clause-refused g c = λ clean refused. refuses_by_words _ _ _ _ _ _ _ _ _ _ c.in-Ok.ensures.order (c.carry_out.ensures.refused refused)

pub returns-in-Err-Memory-clause-refused : goal.returns-in-Err-Memory-clause-refused
returns-in-Err-Memory-clause-refused g c = λ clean refused. memory_by_words _ _ _ _ _ _ _ _ _ (files_stay (g.F.Files.files c.args.files.now)) (runs_out _ _ _ _ _ refl c.refuse_memory.ensures.line)

pub returns-in-Ok-clause-told : goal.returns-in-Ok-clause-told
returns-in-Ok-clause-told g c = λ refused. tells_by_words _ _ _ _ _ _ _ c.in-Ok.ensures.order (c.carry_out.ensures.told refused)

pub returns-in-Ok-clause-converted : goal.returns-in-Ok-clause-converted
returns-in-Ok-clause-converted g c = λ clean. converts_by_words _ _ _ _ _ _ _ _ _ _ _ c.in-Ok.ensures.order c.carry_out.ensures.converted

pub returns-in-Err-Memory-clause-converted : goal.returns-in-Err-Memory-clause-converted
returns-in-Err-Memory-clause-converted g c = λ clean. memory_converts _ _ _ _ _ _ _ _ _ _ (ap status_of c.refuse_memory.ensures.ending) (files_stay (g.F.Files.files c.args.files.now)) (runs_out _ _ _ _ _ refl c.refuse_memory.ensures.line)

pub returns-in-Err-Fault-clause-untouched : goal.returns-in-Err-Fault-clause-untouched
returns-in-Err-Fault-clause-untouched g c = λ wrong. files_stay (g.F.Files.files c.args.files.now)

pub returns-in-Err-Memory-clause-untouched : goal.returns-in-Err-Memory-clause-untouched
returns-in-Err-Memory-clause-untouched g c = λ wrong. files_stay (g.F.Files.files c.args.files.now)
