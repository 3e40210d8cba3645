use Rattle.stack_compiler.proofs.Prelude.{ap, map, module_view, option_map, slice_get-map, ◌∙◌}
use Rattle.stack_compiler.proofs.Counted.{no_parts, program_has_parts}
use Rattle.stack_compiler.proofs.compiler.marks_with_main.Goals as goal

pub returns-clause-in_modules : goal.returns-clause-in_modules
returns-clause-in_modules c =
    let modules = c.args.program.now.modules.now in
    let found = slice_get-map module_view modules c.args.number ∙ ap (option_map module_view) c.requires.main in
    program_has_parts (map module_view modules) c.args.number (module_view c.args.main.now) found
    c.code_with_main.new.marks c.new-of_main.result c.code_with_main.new.of_main c.in_ok-list.list.items
    (c.in_ok-code.ensures.main ∙ c.new-marks.ensures.main)
    (c.in_ok-code.ensures.parts
    (no_parts (map module_view modules) c.args.number (module_view c.args.main.now) c.new-marks.result found
    c.new-marks.ensures.main c.new-marks.ensures.before c.new-marks.ensures.list))
    c.new-of_main.ensures.list c.new-of_main.ensures.statements c.in_ok-code.ensures.numbers c.in_ok-list.ensures
