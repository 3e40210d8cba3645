use Rattle.sources.specs.Programs.{program_modules}
use Rattle.codegen8080.specs.declared.module.CodeMarks.{CodeMarks}
use Rattle.listings.proofs.Prelude.{ap, arith, map, module_view, refl, sym, subst, ◌∙◌}
use Rattle.listings.proofs.MarksMade.{as_many_lists, as_many_marks, begin_at, marks_at}
use Rattle.listings.proofs.ViewsMade.{module_at, object_at, placed_at, text_at}
use Rattle.listings.specs.internal.Marks.{BeginIn}
use Rattle.listings.proofs.views.view_of.Goals as goal

pub bounds-marks-number : goal.bounds-marks-number
bounds-marks-number c =
    omega (
      arith,
      c.requires.number,
      as_many_marks (program_modules c.args.built.now.program) c.args.built.now.objects c.args.marks.now
          c.requires.marked,
    )

pub bounds-marks-number-2 : goal.bounds-marks-number-2
bounds-marks-number-2 c =
    omega (
      arith,
      c.requires.number,
      (as_many_lists (program_modules c.args.built.now.program) c.args.built.now.objects c.marks.result.now
          c.marks.ensures.marked).0,
    )

pub invariant_of-result : goal.invariant_of-result
invariant_of-result c =
    let typed =
    module_at c.args.built.now c.modules.result.now c.args.number c.index-modules-number.result
    c.program.ensures.construction
    (ap (map module_view) c.modules.ensures ∙ ap program_modules c.program.ensures.shown) c.requires.number
    c.index-modules-number.is in
    record {
      marks_lie_in_code =
          marks_at (program_modules c.args.built.now.program) c.args.built.now.objects c.objects.result.now
          c.args.marks.now c.args.number (module_view c.index-modules-number.result) c.index-objects-number.result
          c.index-marks-number.result c.requires.marked c.requires.number c.objects.ensures.shown typed
          c.index-objects-number.is c.index-marks-number.is;
      procedures_begin =
          subst (BeginIn (module_view c.index-modules-number.result) c.index-objects-number.result)
          (ap (λ (marks : CodeMarks). marks.procedures.items) c.index-marks-number-2.is ∙ sym c.as_slice.ensures.value)
          (begin_at (program_modules c.args.built.now.program) c.args.built.now.objects c.objects.result.now
          c.marks.result.now c.args.number (module_view c.index-modules-number.result) c.index-objects-number.result
          c.index-marks-number-2.result c.marks.ensures.marked c.requires.number c.objects.ensures.shown typed
          c.index-objects-number.is c.index-marks-number-2.is);
    }

pub returns : goal.returns
returns c = record {
  text = text_at c.args.sources.now c.args.number _ (omega (arith, c.requires.number, c.requires.as_many));
  typed =
      module_at c.args.built.now c.modules.result.now c.args.number c.index-modules-number.result
      c.program.ensures.construction
      (ap (map module_view) c.modules.ensures ∙ ap program_modules c.program.ensures.shown) c.requires.number
      c.index-modules-number.is;
  object =
      object_at c.args.built.now c.objects.result.now c.args.number c.index-objects-number.result
      c.objects.ensures.shown c.requires.number c.index-objects-number.is;
  placed =
      placed_at c.args.built.now c.modules-2.result.now c.args.number c.index-modules-number-2.result
      c.program.ensures.construction
      (c.modules-2.ensures ∙ ap (λ placement. placement.modules) c.placement.ensures.shown) c.requires.number
      c.index-modules-number-2.is;
  code = refl;
  data_at = refl;
}
