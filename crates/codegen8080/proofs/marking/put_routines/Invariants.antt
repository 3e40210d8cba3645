use Rattle.codegen8080.proofs.Prelude.{◌≡◌, ◌++◌, drop}
use Rattle.codegen8080.specs.internal.Marks.{marks_from}
use Rattle.codegen8080.proofs.marking.put_routines.Given as goal

abbrev pub invariant-loop-routine : goal.invariant-loop-routine
invariant-loop-routine l =
    l.marks.items
    ++ marks_from l.tree l.is_called l.code.bytes l.code.labels.items l.index (drop l.routine-index l.routines)
    ≡ l.fn.marks.items ++ marks_from l.tree l.is_called l.code.bytes l.code.labels.items 0 l.routines
