use Rattle.codegen8080.proofs.Prelude.{rules}
use Rattle.codegen8080.proofs.NameLoops.{listing_names_step}
use Rattle.codegen8080.proofs.names.names_with.Goals as goal

pub loop-left-preserved : goal.loop-left-preserved
loop-left-preserved c =
    listing_names_step c.args.externals.now c.args.numbers.now c.loop-left.rest.now c.loop-left.left.now
    c.loop-left.names c.in_ok-names.names _ c.external-item.result (search rules) (search rules)
    c.loop-left.invariant c.in_ok-names.ensures.publics c.in_ok-names.ensures.externals
