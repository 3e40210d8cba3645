use Rattle.listings.proofs.Prelude.{◌≡◌, true, length, map, constant_bytes, object_of, procedure_view, IsBegun, typed_of, HasProcedureLines}
use Rattle.listings.specs.internal.Marks.{begin_in}
use Rattle.listings.proofs.symbol_lines.put_procedures.Given as goal

-- lines were added, and the procedures that are left begin at the places that are left
abbrev pub invariant-loop-rest : goal.invariant-loop-rest
invariant-loop-rest l = record {
  begun : IsBegun (HasProcedureLines l.view) (typed_of l.view).procedures (map procedure_view l.rest)
      l.fn.lines.items l.lines.items;
  begin : begin_in (constant_bytes (typed_of l.view)) (object_of l.view) (map procedure_view l.rest) l.places ≡ true;
}

abbrev pub decreases-loop-rest : goal.decreases-loop-rest
decreases-loop-rest l = length l.rest
