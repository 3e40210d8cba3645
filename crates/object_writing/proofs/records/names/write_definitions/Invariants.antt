use Rattle.object_writing.proofs.Prelude.{map, drop, records_of, owned_entry}
use Rattle.object_writing.proofs.Sequences.{HasWritten}
use Rattle.object_writing.proofs.records.names.write_definitions.Given as goal

abbrev pub invariant-loop-public : goal.invariant-loop-public
invariant-loop-public g l =
    HasWritten (g.W.Write.contents l.initial.out) (g.W.Write.contents l.out)
    (records_of l.group (map (owned_entry l.segment) (drop l.public-index l.publics)))
    (records_of l.initial.group (map (owned_entry l.segment) l.publics))
