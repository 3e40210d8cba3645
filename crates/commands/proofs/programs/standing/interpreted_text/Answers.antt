use Rattle.std.proofs.Common.{length, subst, sym, ◌<◌, ℕ}
use Rattle.std.specs.Prelude.{Contains}
use Rattle.join.specs.Views.{modules_of}
use Rattle.join.specs.declared.joined.Joined.{Joined}
use Rattle.listings.proofs.ViewsMade.{source_at}
use Rattle.sources.specs.Programs.{program_modules}
use Rattle.interpreter.specs.internal.Counted.{AreInModules}
use Rattle.interpreter.specs.internal.Marked.{AreOfModules}
use Rattle.commands.proofs.PartLines.{mark_has_line, mark_within}
use Rattle.commands.proofs.programs.standing.interpreted_text.Goals as goal

pub marked_line-requires : goal.marked_line-requires
marked_line-requires c =
    let marks = c.in_ok-marks.marks.items in
    let mark = c.part_at-mark.result in
    let there = subst (λ list. Contains list mark) c.as_slice.ensures.value c.part_at-mark.ensures in
    let of_modules =
    subst (λ (program : Joined). AreOfModules (length (modules_of program)) marks) c.program.ensures.shown
    c.in_ok-marks.ensures.of_modules in
    let in_modules =
    subst (λ (program : Joined). AreInModules (program_modules program) marks) c.program.ensures.shown
    c.in_ok-marks.ensures.in_modules in
    let within = subst (λ (count : ℕ). mark.number_of_module < count) (sym c.requires.as_many)
    (mark_within (length (modules_of c.args.built.now.program)) marks mark of_modules there) in
    record {
      source = source_at c.args.sources.now mark.number_of_module _ c.requires.sources within;
      part =
          mark_has_line c.args.sources.now c.args.built.now.program marks mark _ c.requires.program in_modules there
          within;
    }
