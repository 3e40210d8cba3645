use Rattle.commands.proofs.Prelude.{◌≡◌, ◌++◌, length, map, zip, flat_map, module_view, module_placement_view, module_text}
use Rattle.commands.proofs.programs.map.put_modules.Given as goal

-- what was added, and then what the modules that are left add, is all
abbrev pub invariant-loop-modules : goal.invariant-loop-modules
invariant-loop-modules l =
    l.lines.items ++ flat_map module_text (zip (map module_view l.modules) (map module_placement_view l.places))
    ≡ l.initial.lines.items ++ flat_map module_text (zip (map module_view l.initial.modules) (map module_placement_view l.initial.places))

abbrev pub decreases-loop-modules : goal.decreases-loop-modules
decreases-loop-modules l = length l.modules
