use Rattle.codegen8080.proofs.Prelude.{ap, ◌∙◌, Emission}
use Rattle.codegen8080.proofs.ModuleParts.{code_all_bound, code_written_with}
use Rattle.codegen8080.proofs.module.code_of.Goals as goal

pub returns-clause-written : goal.returns-clause-written
returns-clause-written c =
    code_written_with c.args.tree.now c.in_ok-start.start.index c.in_ok-generator.generator
    c.put_own_code.new.generator
    c.as_slice.result.now _ _ c.in_ok-writer.writer c.in_ok-generator.ensures.emission c.in_ok-start.ensures
    (c.as_slice.ensures.value
    ∙ ap (λ table. table.items)
    (c.into_code-writer.ensures.called ∙ ap (λ (emission : Emission). emission.is_called)
    c.into_parts-emission.ensures))
    (ap (λ table. table.items)
    (c.into_code-writer.ensures.called ∙ ap (λ (emission : Emission). emission.is_called)
    c.into_parts-emission.ensures))
    (c.into_code-writer.ensures.writer ∙ ap (λ (emission : Emission). emission.writer)
    c.into_parts-emission.ensures)
    c.in_ok-writer.ensures c.requires.source c.in_ok-within_labels.ensures

pub returns-clause-bound : goal.returns-clause-bound
returns-clause-bound c =
    code_all_bound c.args.tree.now c.in_ok-start.start.index c.in_ok-generator.generator
    c.put_own_code.new.generator
    c.as_slice.result.now _ c.in_ok-writer.writer c.in_ok-generator.ensures.emission c.in_ok-start.ensures
    (c.as_slice.ensures.value
    ∙ ap (λ table. table.items)
    (c.into_code-writer.ensures.called ∙ ap (λ (emission : Emission). emission.is_called)
    c.into_parts-emission.ensures))
    (c.into_code-writer.ensures.writer ∙ ap (λ (emission : Emission). emission.writer)
    c.into_parts-emission.ensures)
    c.in_ok-writer.ensures c.requires.source c.in_ok-within_labels.ensures
