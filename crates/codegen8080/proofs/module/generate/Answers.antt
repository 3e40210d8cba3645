use Rattle.codegen8080.proofs.Prelude.{ap, length, Assembled, rules, subst, ◌∙◌, Extends, NumbersNames, contents_items, AreListed}
use Rattle.codegen8080.proofs.ModuleParts.{data_within}
use Rattle.codegen8080.proofs.Marked.{begin_in_code, called_by, lie_in_code, marked, size_made}
use Rattle.codegen8080.proofs.NamedPlaces.{names_of_tree}
use Rattle.codegen8080.proofs.ObjectParts.{generated, made_of_same}
use Rattle.codegen8080.specs.internal.Names.{Linkage}
use Rattle.codegen8080.proofs.Refused.{code_refused, data_refused}
use Rattle.codegen8080.proofs.module.generate.Goals as goal

pub names_of-requires-clause-within : goal.names_of-requires-clause-within
names_of-requires-clause-within c =
    data_within c.args.tree.now c.in_ok-writer.field-0.writer.externals _ c.in_ok-variables_of.field-0.externals _
    c.requires.source c.in_ok-writer.ensures.written.code.within c.in_ok-code.ensures.externals
    c.in_ok-variables_of.ensures.grown c.in_ok-variables.ensures.externals

pub returns-clause-made : goal.returns-clause-made
returns-clause-made c =
    generated c.args.tree.now c.in_ok-writer.field-0.start.index c.in_ok-writer.field-0.writer
    c.in_ok-variables_of.field-0
    c.in_ok-code.code.bytes c.in_ok-variables.variables.bytes c.in_ok-code.code.labels.items
    c.in_ok-variables.variables.labels.items c.in_ok-listed.ensures.listed c.in_ok-listed.listed.names
    c.in_ok-listed.listed.numbers.items c.start_of-start.result c.in_ok-object.object
    c.in_ok-writer.ensures.written.code
    c.in_ok-code.ensures.finishes
    c.in_ok-variables_of.ensures.items
    (subst (λ table. Extends table c.in_ok-variables_of.field-0.externals) c.in_ok-code.ensures.externals
    c.in_ok-variables_of.ensures.externals)
    (subst
    (λ table. NumbersNames table c.in_ok-variables_of.field-0.externals
    (contents_items c.args.tree.now.variables.items))
    c.in_ok-code.ensures.externals c.in_ok-variables_of.ensures.names)
    c.in_ok-variables.ensures.finishes
    (subst
    (λ table. AreListed c.args.tree.now.externals.items table c.in_ok-listed.listed.numbers.items
    c.in_ok-listed.ensures.listed)
    c.in_ok-variables.ensures.externals c.in_ok-listed.ensures.externals)
    c.in_ok-listed.ensures.same
    c.in_ok-listed.ensures.publics
    c.start_of-start.ensures
    (made_of_same c.args.tree.now.name c.into_bytes.result c.in_ok-code.code.bytes c.into_bytes-2.result
    c.in_ok-variables.variables.bytes _ c.in_ok-listed.listed.names c.as_slice-2.result.now
    c.in_ok-listed.listed.numbers.items c.start_of-start.result c.in_ok-object.object
    c.into_bytes.ensures c.into_bytes-2.ensures c.into_parts-names.ensures.names
    (c.as_slice-2.ensures.value ∙ ap (λ table. table.items) c.into_parts-names.ensures.numbers)
    c.in_ok-object.ensures)

pub returns-clause-marked : goal.returns-clause-marked
returns-clause-marked c =
    marked c.args.tree.now c.in_ok-writer.field-0.start.index c.in_ok-writer.field-0.is_called.items
    c.in_ok-writer.field-0.writer c.in_ok-code.code.bytes
    c.in_ok-code.code.labels.items _ c.in_ok-marks.marks.items c.in_ok-procedures.procedures.items
    c.in_ok-writer.ensures.written
    c.in_ok-code.ensures.finishes
    (called_by c.args.tree.now c.as_slice.result.now c.in_ok-writer.field-0.is_called.items c.in_ok-code.code.bytes
    c.in_ok-code.code.labels.items _ c.in_ok-marks.marks.items c.as_slice.ensures.value c.in_ok-marks.ensures.marks)
    c.in_ok-procedures.ensures

pub returns-clause-within : goal.returns-clause-within
returns-clause-within c =
    lie_in_code c.args.tree.now c.in_ok-writer.field-0.start.index c.in_ok-writer.field-0.is_called.items
    c.in_ok-writer.field-0.writer c.in_ok-code.code.bytes
    c.in_ok-code.code.labels.items c.in_ok-writer.field-0.marks.list.items c.in_ok-marks.marks.items
    c.in_ok-object.object
    c.in_ok-writer.ensures.written
    c.in_ok-code.ensures.finishes
    c.with_routines.ensures.few
    (called_by c.args.tree.now c.as_slice.result.now c.in_ok-writer.field-0.is_called.items c.in_ok-code.code.bytes
    c.in_ok-code.code.labels.items _ c.in_ok-marks.marks.items c.as_slice.ensures.value c.in_ok-marks.ensures.marks)
    (size_made c.args.tree.now.name c.into_bytes.result c.into_bytes-2.result
    _ c.as_slice-2.result.now c.start_of-start.result c.in_ok-object.object c.in_ok-object.ensures
    ∙ ap (λ (bytes : Assembled). length bytes.bytes) c.into_bytes.ensures)

pub returns-clause-begin : goal.returns-clause-begin
returns-clause-begin c =
    begin_in_code c.args.tree.now c.in_ok-writer.field-0.start.index c.in_ok-writer.field-0.is_called.items
    c.in_ok-writer.field-0.writer c.in_ok-code.code.bytes
    c.in_ok-code.code.labels.items c.in_ok-procedures.procedures.items c.in_ok-object.object
    c.requires.source
    c.in_ok-writer.ensures.written
    c.in_ok-code.ensures.finishes
    c.in_ok-procedures.ensures
    (size_made c.args.tree.now.name c.into_bytes.result c.into_bytes-2.result
    _ c.as_slice-2.result.now c.start_of-start.result c.in_ok-object.object c.in_ok-object.ensures
    ∙ ap (λ (bytes : Assembled). length bytes.bytes) c.into_bytes.ensures)

pub returns-clause-named : goal.returns-clause-named
returns-clause-named c =
    names_of_tree c.args.tree.now c.in_ok-code.code.labels.items c.in_ok-code.code.bytes
    c.in_ok-listed.listed.names.publics c.in_ok-object.object.publics c.in_ok-procedures.procedures.items
    c.requires.linkable
    c.in_ok-listed.ensures.publics
    (c.in_ok-object.ensures.publics ∙ ap (λ (names : Linkage). names.publics) c.into_parts-names.ensures.names)
    c.in_ok-procedures.ensures

pub returns-in_err-code-clause-refused : goal.returns-in_err-code-clause-refused
returns-in_err-code-clause-refused c =
    code_refused c.args.tree.now c.in_ok-writer.field-0.start.index
    c.in_ok-writer.field-0.writer _ _ c.finish.result
    c.from_residual-in_err-code.result c.in_err-code.field-0.0 (search rules) (search rules)
    c.in_ok-writer.ensures.written.code
    c.finish.ensures.refused

pub returns-in_err-variables-clause-refused : goal.returns-in_err-variables-clause-refused
returns-in_err-variables-clause-refused c =
    data_refused c.args.tree.now c.in_ok-writer.field-0.start.index c.in_ok-writer.field-0.writer
    c.in_ok-variables_of.field-0 _ _ c.finish-2.result c.from_residual-in_err-variables.result
    c.in_err-variables.field-0.0 (search rules) (search rules) c.in_ok-writer.ensures.written.code
    c.in_ok-variables_of.ensures.items
    (subst (λ table. Extends table c.in_ok-variables_of.field-0.externals) c.in_ok-code.ensures.externals
    c.in_ok-variables_of.ensures.externals)
    c.finish-2.ensures.refused
