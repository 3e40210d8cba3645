use Rattle.stack_compiler.proofs.MainModules.{compiled_there}
use Rattle.stack_compiler.proofs.compiler.compile.Goals as goal

pub returns : goal.returns
returns c =
    compiled_there c.compile_program.result _ _ c.in_ok-program.ensures.placed c.compile_program.ensures
