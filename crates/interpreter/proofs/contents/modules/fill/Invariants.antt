use Rattle.interpreter.proofs.Prelude.{◌≡◌, drop, map, module_placement_view, program_view, contents_from, with_all}
use Rattle.interpreter.proofs.contents.modules.fill.Given as goal

abbrev pub invariant-loop-number_of_module : goal.invariant-loop-number_of_module
invariant-loop-number_of_module l =
    with_all l.memory (contents_from (program_view l.program) l.number_of_module
    (map module_placement_view (drop l.number_of_module l.placements)))
    ≡ with_all l.fn.memory (contents_from (program_view l.program) 0 (map module_placement_view l.placements))
