use Rattle.object_writing.proofs.Prelude.{map, drop, records_of, name_entry}
use Rattle.object_writing.proofs.Sequences.{HasWritten}
use Rattle.object_writing.proofs.records.names.write_names.Given as goal

abbrev pub invariant-loop-name : goal.invariant-loop-name
invariant-loop-name g l =
    HasWritten (g.W.Write.contents l.initial.out) (g.W.Write.contents l.out)
    (records_of l.group (map name_entry (drop l.name-index l.names)))
    (records_of l.initial.group (map name_entry l.names))
