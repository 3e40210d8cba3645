use Rattle.codegen8080.proofs.Prelude.{rules}
use Rattle.codegen8080.proofs.ModuleParts.{others_stand, procedures_done, procedures_step}
use Rattle.codegen8080.proofs.module.put_procedures.Goals as goal

pub loop-left-preserved : goal.loop-left-preserved
loop-left-preserved c = record {
  putting =
      procedures_step c.args.tree.now c.args.generator.now c.loop-left.generator c.put_procedure.new.generator
      c.loop-left.number c.in_ok-number.number c.args.procedures.now c.loop-left.left.now _
      c.in_ok-number.ensures.ok (search rules) c.loop-left.invariant.putting c.in_ok-put_procedure.ensures;
  stand = others_stand c.args.tree.now c.loop-left.left.now c.procedure-item.result (search rules) c.loop-left.invariant.stand;
}

pub put_procedure-requires-clause-stands : goal.put_procedure-requires-clause-stands
put_procedure-requires-clause-stands c = c.loop-left.invariant.stand 0 c.procedure-item.result (search rules)

pub returns : goal.returns
returns c =
    procedures_done c.args.tree.now c.args.generator.now c.loop-left.generator c.loop-left.number
    c.args.procedures.now c.loop-left.left.now c.in_default.len_below c.loop-left.invariant.putting
