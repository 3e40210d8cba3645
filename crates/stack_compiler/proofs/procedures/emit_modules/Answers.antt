use Rattle.stack_compiler.proofs.Prelude.{ap, arith, length, map, module_view, option_map, placement_view, refl, slice_get-map, slice_get_read, ◌∙◌}
use Rattle.std.proofs.lemmas.Bool.{eqb-true}
use Rattle.stack_compiler.proofs.Counted.{module_has_parts}
use Rattle.stack_compiler.proofs.Marked.{module_marked}
use Rattle.stack_compiler.proofs.ProcedureLoops.{module_emitted, modules_emitted}
use Rattle.stack_compiler.proofs.procedures.emit_modules.Goals as goal

pub loop-number_of_module-preserved : goal.loop-number_of_module-preserved
loop-number_of_module-preserved c = (
  module_emitted (map module_view c.args.program.now.modules.now)
      (placement_view c.args.program.now.placement.now)
      c.loop-number_of_module.code.items _ c.args.program.now.modules.now
      c.loop-number_of_module.number_of_module c.loop-number_of_module.invariant.0
      c.index-modules-number_of_module.result c.emit_module.new.code.items (omega arith)
      c.index-modules-number_of_module.is c.in_ok-emit_module.ensures.code,
  module_marked (length c.args.program.now.modules.now) c.loop-number_of_module.number_of_module
      c.loop-number_of_module.marks c.add_module.new.self c.emit_module.new.marks.list.items (omega arith)
      c.loop-number_of_module.invariant.1 c.in_ok-add_module.ensures.list c.add_module.ensures.main,
  c.add_module.ensures.main ∙ c.loop-number_of_module.invariant.2,
  λ have. module_has_parts (map module_view c.args.program.now.modules.now) c.loop-number_of_module.number_of_module
      (module_view c.index-modules-number_of_module.result)
      (slice_get-map module_view c.args.program.now.modules.now c.loop-number_of_module.number_of_module
      ∙ ap (option_map module_view)
      (slice_get_read c.args.program.now.modules.now (length c.args.program.now.modules.now)
      c.loop-number_of_module.number_of_module c.index-modules-number_of_module.result refl (omega arith)
      c.index-modules-number_of_module.is))
      c.loop-number_of_module.marks c.add_module.new.self c.of_module-own.result c.emit_module.new.marks eqb-true
      c.of_module-own.ensures.list c.of_module-own.ensures.statements c.in_ok-emit_module.ensures.numbers
      c.in_ok-add_module.ensures.list c.add_module.ensures.main c.in_ok-add_module.ensures.before
      (c.loop-number_of_module.invariant.3 have),
)

pub returns-clause-code : goal.returns-clause-code
returns-clause-code c =
    modules_emitted (map module_view c.args.program.now.modules.now)
    (placement_view c.args.program.now.placement.now)
    c.loop-number_of_module.code.items _ c.args.program.now.modules.now
    c.loop-number_of_module.number_of_module c.loop-number_of_module.invariant.0 (omega arith)
