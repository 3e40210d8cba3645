use Rattle.asm8080.proofs.Prelude.{◌≡◌, ◌+◌, ◌≤◌, drop, length, SEGMENT_LIMIT, size_of_items, place_in, layout_from, no_code, with_items}
use Rattle.asm8080.proofs.assembling.assemble.Given as goal

abbrev pub invariant-loop-stored : goal.invariant-loop-stored
invariant-loop-stored l = record {
  code :
      with_items (layout_from (place_in l.places)) l.code (drop l.stored-index l.items)
      ≡ with_items (layout_from (place_in l.places)) no_code l.items;
  room : length l.code.bytes + size_of_items (drop l.stored-index l.items) ≤ SEGMENT_LIMIT;
  flags : length l.code.is_set + size_of_items (drop l.stored-index l.items) ≤ SEGMENT_LIMIT;
}
