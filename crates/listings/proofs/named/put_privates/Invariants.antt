use Rattle.listings.proofs.Prelude.{◌≡◌, true, length, map, AddsNames, IsNameIn, constant_bytes, object_of, procedure_view, typed_of}
use Rattle.listings.proofs.NamesAdded.{PrivatesAre}
use Rattle.listings.specs.internal.Marks.{begin_in}
use Rattle.listings.proofs.named.put_privates.Given as goal

-- names were added, and the procedures that are left begin at the places that are left
abbrev pub invariant-loop-rest : goal.invariant-loop-rest
invariant-loop-rest l = record {
  adds : AddsNames (IsNameIn l.view) l.fn.names.items l.names.items;
  named : PrivatesAre (typed_of l.view) (map procedure_view l.rest);
  begin : begin_in (constant_bytes (typed_of l.view)) (object_of l.view) (map procedure_view l.rest) l.places ≡ true;
}

abbrev pub decreases-loop-rest : goal.decreases-loop-rest
decreases-loop-rest l = length l.rest
