use Rattle.asm8080.proofs.Prelude.{◌≡◌, ◌+◌, ◌*◌, ◌≤◌, drop, size_of_items}
use Rattle.asm8080.proofs.assembling.items_size.Given as goal

abbrev pub invariant-loop-stored : goal.invariant-loop-stored
invariant-loop-stored l = record {
  sum : l.size + size_of_items (drop l.stored-index l.items) ≡ size_of_items l.items;
  few : l.size ≤ 65535 * l.stored-index;
}
