use Rattle.codegen8080.proofs.Prelude.{rules}
use Rattle.codegen8080.proofs.ModuleParts.{putting_step}
use Rattle.codegen8080.proofs.module.put_contents.Goals as goal

pub loop-left-preserved : goal.loop-left-preserved
loop-left-preserved c =
    putting_step c.args.writer.now c.loop-left.writer c.put_content.new.writer c.args.contents.now
    c.loop-left.left.now
    _ (search rules) c.loop-left.invariant c.in_ok-put_content.ensures
