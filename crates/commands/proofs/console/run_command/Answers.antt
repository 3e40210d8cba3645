use Rattle.commands.proofs.{Prelude.{◌≤◌, ℕ, subst, sym, ◌∙◌}, ProgramsTold.{runs_by_status}, OrdersKept.{converts_with_status, done_is, refused_is}, TextsTold.{wrong_is}}
use Rattle.commands.proofs.console.run_command.Goals as goal

pub returns-clause-not_wrong : goal.returns-clause-not_wrong
returns-clause-not_wrong g c = λ help none wrong. c.end_words-ending.ensures.not_wrong help none (wrong_is _ (sym c.status.ensures ∙ wrong))

pub returns-clause-ran : goal.returns-clause-ran
returns-clause-ran g c = λ clean not_one not_two. runs_by_status _ _ _ _ _ _ _ _ _ c.status.ensures not_one not_two (c.end_words-ending.ensures.ran clean)

pub returns-clause-refused : goal.returns-clause-refused
returns-clause-refused g c = λ clean one. c.end_words-ending.ensures.refused clean (refused_is _ (sym c.status.ensures ∙ one))

pub returns-clause-silent : goal.returns-clause-silent
returns-clause-silent g c = λ two. c.end_words-ending.ensures.silent (wrong_is _ (sym c.status.ensures ∙ two))

pub returns-clause-usage : goal.returns-clause-usage
returns-clause-usage g c = λ fault none zero. c.end_words-ending.ensures.usage fault none (done_is _ (sym c.status.ensures ∙ zero))

pub returns-clause-wrong : goal.returns-clause-wrong
returns-clause-wrong g c = λ fault none one. c.end_words-ending.ensures.wrong fault none (refused_is _ (sym c.status.ensures ∙ one))

pub returns-clause-faulty : goal.returns-clause-faulty
returns-clause-faulty g c = λ fault. subst (λ (s : ℕ). s ≤ 2) (sym c.status.ensures) (c.end_words-ending.ensures.faulty fault)

pub returns-clause-converted : goal.returns-clause-converted
returns-clause-converted g c = λ clean. converts_with_status _ _ _ _ _ _ _ _ _ _ _ c.status.ensures (c.end_words-ending.ensures.converted clean)

pub returns-clause-told : goal.returns-clause-told
returns-clause-told g c = λ one. c.end_words-ending.ensures.told (refused_is _ (sym c.status.ensures ∙ one))

pub returns-clause-untouched : goal.returns-clause-untouched
returns-clause-untouched g c = λ two. c.end_words-ending.ensures.untouched (wrong_is _ (sym c.status.ensures ∙ two))
