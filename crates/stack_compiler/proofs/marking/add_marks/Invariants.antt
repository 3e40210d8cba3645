use Rattle.stack_compiler.proofs.Prelude.{◌≡◌, ◌++◌, drop, map, stack_mark}
use Rattle.stack_compiler.proofs.marking.add_marks.Given as goal

abbrev pub invariant-loop-mark : goal.invariant-loop-mark
invariant-loop-mark l =
    l.list.items ++ map (stack_mark l.number_of_module l.before) (drop l.mark-index l.marks)
    ≡ l.fn.list.items ++ map (stack_mark l.number_of_module l.before) l.marks
