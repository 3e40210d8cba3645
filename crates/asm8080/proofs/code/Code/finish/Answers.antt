use Rattle.asm8080.proofs.Prelude.{refl, with_places}
use Rattle.asm8080.proofs.Places.{finished, fits_segment, table_of, too_long, unbound, with_table}
use Rattle.asm8080.proofs.code.Code.finish.Goals as goal

pub returns-then-not-all_placed-clause-fault : goal.returns-then-not-all_placed-clause-fault
returns-then-not-all_placed-clause-fault c =
    unbound c.args.self c.as_slice-items.result.now c.as_slice-places.result.now c.all_placed.result
    (table_of c.args.self _ c.as_slice-items.result.now c.in_ok-table.table.items c.as_slice-places.result.now
    c.self.view_is c.self.invariant c.as_slice-items.ensures.value c.in_ok-table.ensures.places
    c.as_slice-places.ensures.value)
    c.all_placed.ensures c.if-not-all_placed.true

pub returns-then-size-clause-fault : goal.returns-then-size-clause-fault
returns-then-size-clause-fault c =
    too_long c.args.self c.as_slice-items.result.now c.as_slice-places.result.now
    c.all_placed.result c.in_ok-table.size
    (table_of c.args.self _ c.as_slice-items.result.now c.in_ok-table.table.items c.as_slice-places.result.now
    c.self.view_is c.self.invariant c.as_slice-items.ensures.value c.in_ok-table.ensures.places
    c.as_slice-places.ensures.value)
    c.all_placed.ensures c.if-not-all_placed.false c.in_ok-table.ensures.size c.if-size.true

pub with_places-requires : goal.with_places-requires
with_places-requires c = record {
  fits =
      fits_segment c.args.self (with_places c.in_ok-table.table.items c.in_ok-code.code)
      (finished c.args.self c.as_slice-items.result.now c.as_slice-places.result.now c.all_placed.result
      c.in_ok-table.size (with_places c.in_ok-table.table.items c.in_ok-code.code)
      (table_of c.args.self _ c.as_slice-items.result.now c.in_ok-table.table.items
      c.as_slice-places.result.now
      c.self.view_is c.self.invariant c.as_slice-items.ensures.value c.in_ok-table.ensures.places
      c.as_slice-places.ensures.value)
      c.all_placed.ensures c.if-not-all_placed.false c.in_ok-table.ensures.size c.if-size.false
      (with_table c.as_slice-items.result.now c.as_slice-places.result.now
      c.in_ok-table.table.items c.in_ok-code.code
      (with_places c.in_ok-table.table.items c.in_ok-code.code) c.as_slice-places.ensures.value
      c.in_ok-code.ensures
      refl));
}

pub returns-clause-done : goal.returns-clause-done
returns-clause-done c =
    finished c.args.self c.as_slice-items.result.now c.as_slice-places.result.now
    c.all_placed.result c.in_ok-table.size
    c.with_places.result
    (table_of c.args.self _ c.as_slice-items.result.now c.in_ok-table.table.items c.as_slice-places.result.now
    c.self.view_is c.self.invariant c.as_slice-items.ensures.value c.in_ok-table.ensures.places
    c.as_slice-places.ensures.value)
    c.all_placed.ensures c.if-not-all_placed.false c.in_ok-table.ensures.size c.if-size.false
    (with_table c.as_slice-items.result.now c.as_slice-places.result.now
    c.in_ok-table.table.items c.in_ok-code.code
    c.with_places.result c.as_slice-places.ensures.value c.in_ok-code.ensures c.with_places.ensures)
