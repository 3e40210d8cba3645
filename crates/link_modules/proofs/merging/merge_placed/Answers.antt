use Rattle.link_modules.proofs.Prelude.{◌≡◌, true, Err, refl, ap, sym, ◌∙◌, rules, list_any, all_publics, HighByteMoves, merge_of, some_high_byte_moves, refusal_of, LinkFault, names_same, by_highs, none_refused, joined_merged, made_kept, made_merged, handed_on}
use Rattle.link_modules.proofs.merging.merge_placed.Goals as goal

pub new-publics-requires : goal.new-publics-requires
new-publics-requires g c =
    names_same c.args.inputs.now c.args.names.now c.in_ok-owned.owned.items c.requires.known
    (c.in_ok-owned.ensures ∙ ap all_publics (c.as_slice-placed.ensures.value ∙ c.requires.placed))

pub returns-in_err-code-clause-refused : goal.returns-in_err-code-clause-refused
returns-in_err-code-clause-refused g c =
    handed_on c.from_residual-in_err-code.result c.still_segments.result c.in_err-code.field-0.0
    (λ (fault : LinkFault). refusal_of fault ≡ HighByteMoves)
    (λ (fault : LinkFault).
    list_any (some_high_byte_moves c.new-publics.result) c.as_slice-placed.result.now ≡ true)
    (λ (fault : LinkFault). merge_of c.args.inputs.now ≡ Err (refusal_of fault))
    (search rules) c.in_err-code.was
    (λ fault h k.
    by_highs c.args.inputs.now c.args.names.now c.requires.known c.requires.resolved
    c.requires.fits c.requires.single
    c.new-publics.result c.as_slice-placed.result.now _ (c.as_slice-placed.ensures.value ∙ c.requires.placed)
    (c.new-publics.ensures ∙ c.in_ok-owned.ensures
    ∙ ap all_publics (c.as_slice-placed.ensures.value ∙ c.requires.placed))
    refl k ∙ ap Err (sym h))
    c.still_segments.ensures.fault c.still_segments.ensures.moves

pub from_parts-requires : goal.from_parts-requires
from_parts-requires g c =
    let named = c.new-publics.ensures ∙ c.in_ok-owned.ensures
    ∙ ap all_publics (c.as_slice-placed.ensures.value ∙ c.requires.placed) in
    made_kept c.args.inputs.now c.parts_of-parts.result
    (none_refused c.args.inputs.now c.args.names.now c.requires.known c.requires.resolved c.requires.fits
    c.requires.single c.new-publics.result c.as_slice-placed.result.now _
    (c.as_slice-placed.ensures.value ∙ c.requires.placed) named refl c.in_ok-code.ensures.still)
    (joined_merged c.args.inputs.now c.new-publics.result c.args.pieces.now.placed.items
    c.args.pieces.now.stack_length _ c.parts_of-parts.result c.parts_of-parts.ensures c.requires.placed named
    c.requires.stack c.requires.main c.requires.valid)
    c.requires.valid

pub returns-clause-merged : goal.returns-clause-merged
returns-clause-merged g c =
    let named = c.new-publics.ensures ∙ c.in_ok-owned.ensures
    ∙ ap all_publics (c.as_slice-placed.ensures.value ∙ c.requires.placed) in
    made_merged c.args.inputs.now c.parts_of-parts.result c.new.result.object
    (none_refused c.args.inputs.now c.args.names.now c.requires.known c.requires.resolved c.requires.fits
    c.requires.single c.new-publics.result c.as_slice-placed.result.now _
    (c.as_slice-placed.ensures.value ∙ c.requires.placed) named refl c.in_ok-code.ensures.still)
    (joined_merged c.args.inputs.now c.new-publics.result c.args.pieces.now.placed.items
    c.args.pieces.now.stack_length _ c.parts_of-parts.result c.parts_of-parts.ensures c.requires.placed named
    c.requires.stack c.requires.main c.requires.valid)
    (c.new.ensures.object ∙ c.from_parts.ensures)
