use Rattle.commands.proofs.Prelude.{◌≡◌, ◌++◌, length, map, zip, flat_map, object_view, object_line}
use Rattle.commands.proofs.programs.map.put_module.Given as goal

-- what was added, and then what the objects that are left add, is all
abbrev pub invariant-loop-objects : goal.invariant-loop-objects
invariant-loop-objects l =
    l.lines.items ++ flat_map (object_line l.typed.name) (zip (map object_view l.objects) l.addresses)
    ≡ l.initial.lines.items ++ flat_map (object_line l.typed.name) (zip (map object_view l.initial.objects) l.initial.addresses)

abbrev pub decreases-loop-objects : goal.decreases-loop-objects
decreases-loop-objects l = length l.objects
