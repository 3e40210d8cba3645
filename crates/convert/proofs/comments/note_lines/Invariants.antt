use Rattle.std.proofs.Common.{◌≡◌, ◌++◌, ◌+◌, length, map}
use Rattle.convert.specs.declared.comments.Within.TheVariants.{Program}
use Rattle.convert.specs.Comments.{comment_notes_from}
use Rattle.convert.proofs.comments.note_lines.Given as goal

abbrev pub invariant-loop-rest : goal.invariant-loop-rest
invariant-loop-rest l = record {
  noted :
      l.notes.items ++ comment_notes_from l.advice l.file l.number l.within (map (λ line. line.now) l.rest)
      ≡ l.initial.notes.items ++ comment_notes_from l.advice l.file 1 Program (map (λ line. line.now) l.lines);
  count : l.number + length l.rest ≡ 1 + length l.lines;
}

abbrev pub decreases-loop-rest : goal.decreases-loop-rest
decreases-loop-rest l = length l.rest
