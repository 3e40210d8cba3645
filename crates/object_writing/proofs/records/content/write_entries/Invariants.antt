use Rattle.object_writing.proofs.Prelude.{map, drop, records_of, fix_entry}
use Rattle.object_writing.proofs.Sequences.{HasWritten}
use Rattle.object_writing.proofs.records.content.write_entries.Given as goal

abbrev pub invariant-loop-fix : goal.invariant-loop-fix
invariant-loop-fix g l =
    HasWritten (g.W.Write.contents l.initial.out) (g.W.Write.contents l.out)
    (records_of l.group (map (fix_entry l.referred l.kind) (drop l.fix-index l.fixes)))
    (records_of l.initial.group (map (fix_entry l.referred l.kind) l.fixes))
