use Rattle.listings.proofs.Prelude.{length, map, object_view, IsBegun, typed_of, HasObjectLines}
use Rattle.listings.proofs.symbol_lines.put_objects.Given as goal

abbrev pub invariant-loop-objects : goal.invariant-loop-objects
invariant-loop-objects l =
    IsBegun (HasObjectLines (typed_of l.view))
    (0, ((typed_of l.view).objects, l.view.placed.now.objects.items))
    (l.number, (map object_view l.objects, l.addresses)) l.fn.lines.items l.lines.items

abbrev pub decreases-loop-objects : goal.decreases-loop-objects
decreases-loop-objects l = length l.objects
