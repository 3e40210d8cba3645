use Rattle.stack_compiler.proofs.Prelude.{◌≡◌, ◌++◌, drop, length, map, module_view, placement_view, modules_code_from, AreMarksOf}
use Rattle.stack_compiler.specs.internal.Counted.{HaveParts}
use Rattle.stack_compiler.proofs.procedures.emit_modules.Given as goal

abbrev pub invariant-loop-number_of_module : goal.invariant-loop-number_of_module
invariant-loop-number_of_module l =
    (l.code.items
    ++ modules_code_from (map module_view l.program.modules.now)
    (placement_view l.program.placement.now) l.number_of_module
    (map module_view (drop l.number_of_module l.modules))
    ≡ l.fn.code.items
    ++ modules_code_from (map module_view l.program.modules.now) (placement_view l.program.placement.now) 0
    (map module_view l.modules))
    × AreMarksOf (length l.program.modules.now) l.marks
    × (l.marks.main_module ≡ l.fn.marks.main_module)
    × (HaveParts (map module_view l.program.modules.now) l.fn.marks
    → HaveParts (map module_view l.program.modules.now) l.marks)
