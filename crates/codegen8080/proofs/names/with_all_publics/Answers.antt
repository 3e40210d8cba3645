use Rattle.codegen8080.proofs.Prelude.{rules, ap, ◌∙◌, is_among, names_of, owned_public_view}
use Rattle.codegen8080.proofs.NameLoops.{next_public_is_here, next_public_is_new, public_is_named, publics_end, publics_step}
use Rattle.codegen8080.proofs.names.with_all_publics.Goals as goal

pub public_of-requires : goal.public_of-requires
public_of-requires c =
    next_public_is_here c.args.code.now.labels.items c.args.code.now.bytes c.args.publics.now c.args.names
    c.loop-left.names c.loop-left.left.now c.public-item.result (search rules) c.loop-left.invariant

pub with_public-requires-clause-new : goal.with_public-requires-clause-new
with_public-requires-clause-new c =
    ap (λ name. is_among name (names_of c.loop-left.names))
    (public_is_named c.args.code.now.labels.items c.args.code.now.bytes c.public-item.result.name
    c.public-item.result.place (owned_public_view c.public_of.result) c.public_of.ensures.is)
    ∙ next_public_is_new c.args.code.now.labels.items c.args.code.now.bytes c.args.publics.now c.args.names
    c.loop-left.names c.loop-left.left.now c.public-item.result (search rules) c.loop-left.invariant

pub loop-left-preserved : goal.loop-left-preserved
loop-left-preserved c =
    publics_step c.args.code.now.labels.items c.args.code.now.bytes c.args.publics.now
    c.args.names c.loop-left.names
    c.in_ok-names.names c.loop-left.left.now c.public-item.result
    (owned_public_view c.public_of.result)
    (search rules) c.loop-left.invariant c.public_of.ensures.is c.in_ok-names.ensures.externals
    c.in_ok-names.ensures.publics

pub returns-clause-publics : goal.returns-clause-publics
returns-clause-publics c =
    publics_end c.args.code.now.labels.items c.args.code.now.bytes c.args.publics.now
    c.args.names c.loop-left.names
    c.loop-left.left.now c.in_default.len_below c.loop-left.invariant
