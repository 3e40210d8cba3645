use Rattle.link_modules.proofs.Prelude.{◌≡◌, [], Err, rules, merge_of, public_names, refusal_of, LinkFault, gathered, by_names, handed_on}
use Rattle.link_modules.proofs.merging.merge.Goals as goal

pub returns-in_err-names-clause-refused : goal.returns-in_err-names-clause-refused
returns-in_err-names-clause-refused g c =
    handed_on c.from_residual.result c.public_names_of.result c.in_err-names.field-0.0
    (λ (fault : LinkFault). gathered [] (public_names c.args.inputs.now) ≡ Err (refusal_of fault))
    (λ (fault : LinkFault). gathered [] (public_names c.args.inputs.now) ≡ Err (refusal_of fault))
    (λ (fault : LinkFault). merge_of c.args.inputs.now ≡ Err (refusal_of fault))
    (search rules) c.in_err-names.was (λ fault h k. by_names c.args.inputs.now (refusal_of fault) h)
    c.public_names_of.ensures.fault c.public_names_of.ensures.fault
