use Rattle.link_modules.proofs.Prelude.{◌+◌, ◌≤◌, sym, subst, ◌∙◌, Code, Data, length_of, start_of, Resolved, piece_grown}
use Rattle.link_modules.proofs.contents.add_module.Goals as goal

pub add_contents-requires-clause-code : goal.add_contents-requires-clause-code
add_contents-requires-clause-code g c =
    subst
    (λ (r : Resolved). start_of r.start Code + length_of (g.L.Linkable.told c.item-item.result.now) Code
    ≤ 65535)
    (sym c.in_ok-resolved.ensures) c.item-item.ensures.code

pub add_contents-requires-clause-data_bytes : goal.add_contents-requires-clause-data_bytes
add_contents-requires-clause-data_bytes g c =
    subst
    (λ (r : Resolved). start_of r.start Data + length_of (g.L.Linkable.told c.item-item.result.now) Data
    ≤ 65535)
    (sym c.in_ok-resolved.ensures) c.item-item.ensures.data_bytes

pub returns-clause-code : goal.returns-clause-code
returns-clause-code g c =
    c.in_ok-add_contents.ensures.code
    ∙ piece_grown c.args.publics.now Code c.args.placed.now _ c.in_ok-resolved.resolved c.args.code.now
    c.item-item.ensures.same c.in_ok-resolved.ensures

pub returns-clause-data_bytes : goal.returns-clause-data_bytes
returns-clause-data_bytes g c =
    c.in_ok-add_contents.ensures.data_bytes
    ∙ piece_grown c.args.publics.now Data c.args.placed.now _ c.in_ok-resolved.resolved c.args.data_bytes.now
    c.item-item.ensures.same c.in_ok-resolved.ensures
