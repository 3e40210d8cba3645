use Rattle.commands.proofs.{Prelude.{◌∙◌, Some, [], ap, inl, map, refl, files_stay, values_in, file_names, port_file_in, PrintsWith}, RefusedRuns.{refused_ended, refused_unended}, RunOrders.{memory_with}, Delivered.{kept_but, kept_then_but, kept_then_delivered, not_wrong_after, told_instead}}
use Rattle.commands.proofs.runs.run_to_files.Goals as goal

pub returns-in-Refused-clause-unchanged : goal.returns-in-Refused-clause-unchanged
returns-in-Refused-clause-unchanged g c = kept_but _ _ _ c.run_with.ensures.unchanged

pub returns-in-Refused-clause-told : goal.returns-in-Refused-clause-told
returns-in-Refused-clause-told g c = λ refused. inl (c.run_with.ensures.told c.in-Refused.is)

pub returns-clause-unchanged : goal.returns-clause-unchanged
returns-clause-unchanged g c =
    kept_then_but _ _ _ _ _ (ap (λ ports. file_names (map port_file_in ports)) (c.as_slice-in_default-run_with.ensures.value ∙ c.in-Ok.ensures.items ∙ c.as_slice.ensures.value))
    c.run_with.ensures.unchanged c.deliver.ensures.unchanged

pub returns-clause-not_wrong : goal.returns-clause-not_wrong
returns-clause-not_wrong g c = not_wrong_after _ _ c.run_with.ensures.not_wrong c.deliver.ensures.same

pub returns-clause-told : goal.returns-clause-told
returns-clause-told g c = λ refused. told_instead _ _ _ _ _ _ _ _ _ _ _ _ c.in_default-run_with.not-Refused refused
    (ap (λ ports. file_names (map port_file_in ports)) (c.as_slice-in_default-run_with.ensures.value ∙ c.in-Ok.ensures.items ∙ c.as_slice.ensures.value))
    (c.run_with.ensures.count c.in_default-run_with.not-Refused) (c.run_with.ensures.quiet c.in_default-run_with.not-Refused) c.deliver.ensures.told

pub returns-clause-count : goal.returns-clause-count
returns-clause-count g c = λ other. c.deliver.ensures.count other ∙ c.run_with.ensures.count c.in_default-run_with.not-Refused

pub returns-clause-ran : goal.returns-clause-ran
returns-clause-ran g c = λ other.
    kept_then_delivered (PrintsWith c.args.order.now (values_in c.args.values.now) (g.F.Files.files c.args.files.now)) _ _ _ _ _ _ _ _ _ _ _ _ _ _ (c.deliver.ensures.same other)
    (ap (λ ports. file_names (map port_file_in ports)) (c.as_slice-in_default-run_with.ensures.value ∙ c.in-Ok.ensures.items ∙ c.as_slice.ensures.value))
    c.run_with.ensures.unchanged (c.run_with.ensures.quiet c.in_default-run_with.not-Refused)
    (rw c.new-lines.ensures.items at (c.run_with.ensures.ran c.in_default-run_with.not-Refused))
    (rw c.as_slice-in_default-run_with-2.ensures.value at (rw c.as_slice-in_default-run_with-3.ensures.value at (c.deliver.ensures.delivered other)))

pub returns-in-Refused-clause-refused : goal.returns-in-Refused-clause-refused
returns-in-Refused-clause-refused g c = λ refused. refused_unended _ _ _ _ _ _ _ _ _ _ _ (rw c.new-lines.ensures.items at (c.run_with.ensures.refused c.in-Refused.is)) c.run_with.ensures.unchanged

pub returns-clause-refused : goal.returns-clause-refused
returns-clause-refused g c = λ refused. refused_ended _ _ _ _ _ _ _ _ _ _ _ _ _ _ _ _ _ _ _ c.in_default-run_with.not-Refused refused
    (ap (λ ports. file_names (map port_file_in ports)) (c.as_slice-in_default-run_with.ensures.value ∙ c.in-Ok.ensures.items ∙ c.as_slice.ensures.value))
    c.run_with.ensures.unchanged (c.run_with.ensures.count c.in_default-run_with.not-Refused) (c.run_with.ensures.quiet c.in_default-run_with.not-Refused)
    (rw c.new-lines.ensures.items at (c.run_with.ensures.ran c.in_default-run_with.not-Refused))
    (rw c.as_slice-in_default-run_with-2.ensures.value at (rw c.as_slice-in_default-run_with-3.ensures.value at c.deliver.ensures.undelivered))

pub returns-in_default-clause-refused : goal.returns-in_default-clause-refused
returns-in_default-clause-refused g c = λ refused. refused_unended _ _ _ _ _ _ _ _ _ _ [] (memory_with _ _ _ _ _ _ _ (Some []) refl c.refuse_memory.ensures.line) (files_stay (g.F.Files.files c.args.files.now))
