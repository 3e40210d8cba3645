-- What was made, and what the modules that are left make, is all of it.
use Rattle.stack_machine.proofs.Prelude.{◌≡◌, ◌++◌, drop, map, module_view, module_frames}
use Rattle.stack_machine.proofs.slots.slots_of.Given as goal

abbrev pub invariant-loop-typed : goal.invariant-loop-typed
invariant-loop-typed l =
    l.slots.items ++ map module_frames (map module_view (drop l.typed-index l.typed-items))
    ≡ map module_frames (map module_view l.typed-items)
