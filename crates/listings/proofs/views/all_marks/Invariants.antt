use Rattle.sources.specs.Programs.{program_modules}
use Rattle.listings.proofs.Prelude.{take}
use Rattle.listings.specs.internal.Marks.{AreMarksOf}
use Rattle.listings.proofs.views.all_marks.Given as goal

-- those of the first modules so far
abbrev pub invariant-loop-number : goal.invariant-loop-number
invariant-loop-number l =
    AreMarksOf (take l.number (program_modules l.built.program)) (take l.number l.built.objects) l.all.items
