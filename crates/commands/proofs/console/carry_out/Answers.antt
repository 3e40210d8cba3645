use Rattle.commands.proofs.{Prelude.{refl, files_stay, tells_no_file, wanted_in}, OrdersKept.{kept_as_wanted, stops_as_wanted}}
use Rattle.commands.proofs.console.carry_out.Goals as goal

pub returns-in-Explain-clause-unchanged : goal.returns-in-Explain-clause-unchanged
returns-in-Explain-clause-unchanged g c = kept_as_wanted (wanted_in c.args.order.now) (g.F.Files.files c.args.files.now) _ (files_stay (g.F.Files.files c.args.files.now))

pub returns-in-Explain-clause-stopped : goal.returns-in-Explain-clause-stopped
returns-in-Explain-clause-stopped g c = λ other. stops_as_wanted (wanted_in c.args.order.now) (g.F.Files.files c.args.files.now) _ (files_stay (g.F.Files.files c.args.files.now))

pub returns-in-Explain-clause-told : goal.returns-in-Explain-clause-told
returns-in-Explain-clause-told g c = λ refused. rw c.in-Explain.is (tells_no_file _ _ _ _ _ _ refl (c.explain_number.ensures.told refused))

pub returns-in-Explain-clause-refused : goal.returns-in-Explain-clause-refused
returns-in-Explain-clause-refused g c = λ refused. rw c.in-Explain.is (refl, c.explain_number.ensures.refused refused)

pub returns-in-Explain-clause-untouched : goal.returns-in-Explain-clause-untouched
returns-in-Explain-clause-untouched g c = λ wrong. files_stay (g.F.Files.files c.args.files.now)
