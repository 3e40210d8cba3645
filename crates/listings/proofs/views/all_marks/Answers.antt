use Rattle.listings.proofs.Prelude.{arith, refl, texts_of, ◌∙◌}
use Rattle.sources.specs.Programs.{program_modules}
use Rattle.listings.proofs.{MarksMade.{all_marked, as_many_lists, marks_added}, ViewsMade.{as_many, program_sources, source_at}}
use Rattle.listings.proofs.views.all_marks.Goals as goal

pub marks_of-requires : goal.marks_of-requires
marks_of-requires c = record {
  source =
      source_at c.args.sources.now c.loop-number.number _
      (program_sources (texts_of c.args.sources.now) (program_modules c.args.built.now.program) c.requires.program)
      c.loop-number-test.true;
}

pub bounds-marks-number : goal.bounds-marks-number
bounds-marks-number c =
    let long = as_many_lists (program_modules c.args.built.now.program) c.args.built.now.objects c.marks-marks.result.now
    c.marks-marks.ensures.marked in
    omega (
      arith,
      long.0,
      as_many c.args.sources.now c.args.built.now c.requires.program c.marks-marks.ensures.construction,
      c.loop-number-test.true,
    )

pub loop-number-preserved : goal.loop-number-preserved
loop-number-preserved c =
    let long = as_many_lists (program_modules c.args.built.now.program) c.args.built.now.objects c.marks-marks.result.now
    c.marks-marks.ensures.marked in
    let sources = as_many c.args.sources.now c.args.built.now c.requires.program c.marks-marks.ensures.construction in
    marks_added (program_modules c.args.built.now.program) c.args.built.now.objects c.marks-marks.result.now
    c.loop-number.all.items c.push.new.self.items
    c.loop-number.number _ _ c.in_ok-marks_of.field-0
    (omega (arith, long.0, long.1, sources, c.loop-number-test.true))
    (omega (arith, sources, c.loop-number-test.true))
    c.marks-marks.ensures.marked c.loop-number.invariant
    (c.in_ok-marks_of.ensures ∙ c.as_slice.ensures.value)
    c.in_ok-push.ensures.items refl

pub returns : goal.returns
returns c =
    let long = as_many_lists (program_modules c.args.built.now.program) c.args.built.now.objects c.marks-marks.result.now
    c.marks-marks.ensures.marked in
    let sources = as_many c.args.sources.now c.args.built.now c.requires.program c.marks-marks.ensures.construction in
    all_marked (program_modules c.args.built.now.program) c.args.built.now.objects c.loop-number.all.items
    c.loop-number.number c.loop-number.invariant
    (omega (arith, long.0, long.1, sources, c.loop-number-test.false))
    (omega (arith, sources, c.loop-number-test.false))
