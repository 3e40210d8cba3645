use Rattle.tool.proofs.CompiledLemmas.{compiled_to}
use Rattle.tool.proofs.compiled.compile.Goals as goal

pub returns-clause-compiled : goal.returns-clause-compiled
returns-clause-compiled c = compiled_to c.args.text.now c.in_ok-source.field-0 c.in_ok-source.ensures.compiled
