use Rattle.tool.proofs.Prelude.{◌≡◌, ◌++◌, drop, map}
use Rattle.tool.specs.Marks.{mark_of}
use Rattle.tool.proofs.marking.with_lines.Given as goal

-- the marks so far, and those that are left, are all
abbrev pub invariant-loop-mark : goal.invariant-loop-mark
invariant-loop-mark l = map mark_of l.lined.items ++ drop l.mark-index l.marks ≡ l.marks
