use Rattle.codegen8080.proofs.Prelude.{ap, subst, ◌∙◌, entry, NumbersNames, Writes, Written, contents_items}
use Rattle.steps8080.specs.internal.Writer.{GrowsFor}
use Rattle.codegen8080.proofs.{ModuleParts.{data_items}, PlacedLabels.{data_bound}}
use Rattle.codegen8080.proofs.module.variables_of.Goals as goal

pub returns-clause-items : goal.returns-clause-items
returns-clause-items c =
    data_items c.sharing-writer.result c.put_contents.new.writer c.args.tree.now.variables.items
    (ap (λ (written : Written). written.code.items) c.sharing-writer.ensures)
    (subst (λ contents. Writes c.sharing-writer.result c.put_contents.new.writer (contents_items contents))
    c.as_slice.ensures.value c.in_ok-put_contents.ensures)

pub returns-clause-externals : goal.returns-clause-externals
returns-clause-externals c = λ number found given.
    c.in_ok-put_contents.ensures.externals number found
    (ap (λ (written : Written). entry written.externals number) c.sharing-writer.ensures ∙ given)

pub returns-clause-names : goal.returns-clause-names
returns-clause-names c =
    subst (λ contents. NumbersNames c.args.externals c.put_contents.new.writer.externals
    (contents_items contents))
    c.as_slice.ensures.value
    (subst (λ (written : Written). NumbersNames written.externals c.put_contents.new.writer.externals
    (contents_items c.as_slice.result.now)) c.sharing-writer.ensures c.in_ok-put_contents.ensures.names)

pub returns-clause-grown : goal.returns-clause-grown
returns-clause-grown c =
    subst (λ contents. GrowsFor c.args.externals c.put_contents.new.writer.externals (contents_items contents))
    c.as_slice.ensures.value
    (subst (λ (written : Written). GrowsFor written.externals c.put_contents.new.writer.externals
    (contents_items c.as_slice.result.now)) c.sharing-writer.ensures c.in_ok-put_contents.ensures.grown)

pub returns-clause-bound : goal.returns-clause-bound
returns-clause-bound c =
    data_bound c.sharing-writer.result c.put_contents.new.writer c.args.tree.now.variables.items
    (ap (λ (written : Written). written.code.labels) c.sharing-writer.ensures)
    (subst (λ contents. Writes c.sharing-writer.result c.put_contents.new.writer (contents_items contents))
    c.as_slice.ensures.value c.in_ok-put_contents.ensures)
