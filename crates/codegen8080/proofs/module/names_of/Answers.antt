use Rattle.codegen8080.proofs.Prelude.{IsTrue, [], ap, subst, sym, ◌∙◌, are_new, used_names, names_of_externals}
use Rattle.codegen8080.proofs.NewNames.{externals_are_new, publics_are_new}
use Rattle.codegen8080.proofs.module.names_of.Goals as goal

pub listed_names-requires-clause-new : goal.listed_names-requires-clause-new
listed_names-requires-clause-new c =
    subst (λ externals. IsTrue (are_new (names_of_externals externals) [])) (sym c.as_slice.ensures.value)
    (externals_are_new c.args.tree.now c.requires.linkable)

pub with_publics-requires-clause-new : goal.with_publics-requires-clause-new
with_publics-requires-clause-new c =
    publics_are_new c.args.tree.now c.args.externals.now c.in_ok-listed.listed.names c.requires.linkable
    (c.in_ok-listed.ensures.names_are ∙ ap (used_names c.args.externals.now) c.as_slice.ensures.value)
    c.in_ok-listed.ensures.publics
