use Rattle.link_modules.proofs.Prelude.{◌≡◌, [], Err, map, rules, arith, public_names, refusal_of, LinkFault, gathered, handed_on, modules_ended, public_name, module_added, module_repeats}
use Rattle.link_modules.proofs.names.public_names_of.Goals as goal

pub loop-input-preserved : goal.loop-input-preserved
loop-input-preserved g c =
    module_added c.loop-input.table _ c.args.inputs.now c.loop-input.input-index c.loop-input.invariant
    c.input-item.result _ c.add.new.self (omega arith) c.input-item.is c.walk.ensures.publics
    c.in_ok-add.ensures.ok

pub returns-clause-ok : goal.returns-clause-ok
returns-clause-ok g c =
    modules_ended c.loop-input.table _ c.args.inputs.now c.loop-input.input-index
    c.loop-input.invariant (omega arith)

pub returns-in_err-add-clause-fault : goal.returns-in_err-add-clause-fault
returns-in_err-add-clause-fault g c =
    handed_on c.from_residual.result c.add.result c.in_err-add.field-0.0
    (λ (fault : LinkFault).
    gathered c.loop-input.table (map public_name (g.L.Linkable.told c.walk.result).publics)
    ≡ Err (refusal_of fault))
    (λ (fault : LinkFault).
    gathered c.loop-input.table (map public_name (g.L.Linkable.told c.walk.result).publics)
    ≡ Err (refusal_of fault))
    (λ (fault : LinkFault). gathered [] (public_names c.args.inputs.now) ≡ Err (refusal_of fault))
    (search rules) c.in_err-add.was
    (λ fault h k.
    module_repeats c.loop-input.table _ c.args.inputs.now c.loop-input.input-index c.loop-input.invariant
    c.input-item.result _ (refusal_of fault) (omega arith) c.input-item.is c.walk.ensures.publics h)
    c.add.ensures.fault c.add.ensures.fault
