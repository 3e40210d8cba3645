use Rattle.object_writing.proofs.Prelude.{◌≡◌, ◌+◌, ◌*◌, ◌≤◌, ◌++◌, length, take, flat_map, listed_bytes}
use Rattle.object_writing.proofs.records.header.put_entries.Given as goal

abbrev pub invariant-loop-entry : goal.invariant-loop-entry
invariant-loop-entry l = record {
  bytes : l.body ≡ l.initial.body ++ flat_map listed_bytes (take l.entry-index l.entries);
  longer : length l.body ≤ length l.initial.body + 4 * l.entry-index;
}
