use Rattle.interpreter.proofs.Prelude.{◌≡◌, drop, flat_map, bytes_of_value, written, address_of, site_view}
use Rattle.interpreter.proofs.contents.values.put_values.Given as goal

abbrev pub invariant-loop-value : goal.invariant-loop-value
invariant-loop-value l =
    written l.memory l.address
    (flat_map (bytes_of_value (address_of (site_view l.site))) (drop l.value-index l.values))
    ≡ written l.fn.memory l.start (flat_map (bytes_of_value (address_of (site_view l.site))) l.values)
