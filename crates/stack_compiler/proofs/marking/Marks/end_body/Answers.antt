use Rattle.stack_compiler.proofs.Prelude.{refl}
use Rattle.stack_compiler.specs.declared.marking.StackPart.TheVariants.{Statement}
use Rattle.stack_compiler.proofs.Counted.{takes_kept}
use Rattle.stack_compiler.proofs.marking.Marks.end_body.Goals as goal

pub returns : goal.returns
returns c = takes_kept (Statement 0) c.args.self.now c.put.new.self _ c.in_ok-put.ensures refl refl
