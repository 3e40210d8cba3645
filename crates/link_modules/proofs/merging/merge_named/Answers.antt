use Rattle.link_modules.proofs.Prelude.{◌≡◌, true, Err, sym, ◌∙◌, rules, linked_modules, SegmentTooLong, merge_of, some_segment_is_too_long, refusal_of, LinkFault, by_externals, by_lengths, handed_on}
use Rattle.link_modules.proofs.merging.merge_named.Goals as goal

pub returns-in_err-pieces-in-None-clause-refused : goal.returns-in_err-pieces-in-None-clause-refused
returns-in_err-pieces-in-None-clause-refused g c =
    handed_on c.from_residual.result c.pieces_of.result c.in_err-pieces-in-None.field-0.0
    (λ (fault : LinkFault). refusal_of fault ≡ SegmentTooLong)
    (λ (fault : LinkFault). some_segment_is_too_long c.args.inputs.now (linked_modules c.args.inputs.now)
    ≡ true)
    (λ (fault : LinkFault). merge_of c.args.inputs.now ≡ Err (refusal_of fault))
    (search rules) c.in_err-pieces-in-None.was
    (λ fault h k.
    by_lengths c.args.inputs.now c.args.names.now c.requires (sym c.in-None.is ∙ c.unresolved_in.ensures)
    (refusal_of fault) h k)
    c.pieces_of.ensures.fault c.pieces_of.ensures.too_long

pub returns-in-Some-clause-refused : goal.returns-in-Some-clause-refused
returns-in-Some-clause-refused g c =
    by_externals c.args.inputs.now c.args.names.now c.requires c.in-Some.name
    (sym c.in-Some.is ∙ c.unresolved_in.ensures)
