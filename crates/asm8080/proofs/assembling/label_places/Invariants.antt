use Rattle.asm8080.proofs.Prelude.{◌≡◌, ◌+◌, ◌*◌, ◌≤◌, drop, size_of_items, places_after, places_of}
use Rattle.asm8080.proofs.assembling.label_places.Given as goal

abbrev pub invariant-loop-stored : goal.invariant-loop-stored
invariant-loop-stored l = record {
  table : places_after l.offset (drop l.stored-index l.items) l.places.items ≡ places_of l.labels l.items;
  sum : l.offset + size_of_items (drop l.stored-index l.items) ≡ size_of_items l.items;
  few : l.offset ≤ 65535 * l.stored-index;
}
