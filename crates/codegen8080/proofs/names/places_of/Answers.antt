use Rattle.codegen8080.proofs.Prelude.{rules}
use Rattle.codegen8080.proofs.NameLoops.{placing_step}
use Rattle.codegen8080.proofs.names.places_of.Goals as goal

pub loop-left-preserved : goal.loop-left-preserved
loop-left-preserved c =
    placing_step c.args.count c.args.numbers.now c.loop-left.places.items c.with_place-place.new.places.items
    c.loop-left.place c.with_place-place.result c.loop-left.left.now _ (search rules) c.loop-left.invariant
    c.with_place-place.ensures.none c.with_place-place.ensures.same c.with_place-place.ensures.placed
    c.with_place-place.ensures.next
