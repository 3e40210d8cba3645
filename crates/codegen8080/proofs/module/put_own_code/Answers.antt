use Rattle.codegen8080.proofs.Prelude.{refl, ap, sym, subst, LabelNumber, Writes, Emission, contents_items, AddsProcedures}
use Rattle.codegen8080.specs.internal.Standing.{AllStand}
use Rattle.codegen8080.proofs.ModuleParts.{own_code_added}
use Rattle.codegen8080.proofs.module.put_own_code.Goals as goal

pub returns : goal.returns
returns c =
    let written : Emission = record (c.args.generator.now.emission) {
      writer = c.put_contents.new.writer;
      steps = c.label-start.new.self;
    } in
    own_code_added c.args.tree.now c.label-start.result.index c.args.generator.now
    (record (c.args.generator.now) { emission = written; marks = c.begin.new.self }) c.put_main_if_any.new.generator
    c.put_procedures.new.generator
    (subst
    (λ contents. Writes c.args.generator.now.emission.writer c.put_contents.new.writer
    (contents_items contents))
    c.as_slice.ensures.value c.in_ok-put_contents.ensures)
    refl (ap (λ (label : LabelNumber). label.index) c.label-start.ensures.label)
    c.label-start.ensures.taken c.in_ok-put_main_if_any.ensures
    (subst
    (λ procedures. AddsProcedures c.args.tree.now 0 procedures c.put_main_if_any.new.generator
    c.put_procedures.new.generator)
    c.as_slice-2.ensures.value c.in_ok-put_procedures.ensures)

pub put_procedures-requires-clause-stands : goal.put_procedures-requires-clause-stands
put_procedures-requires-clause-stands c =
    subst (AllStand c.args.tree.now) (sym c.as_slice-2.ensures.value) c.requires.stands.procedures
