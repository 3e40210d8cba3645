use Rattle.codegen8080.proofs.Prelude.{◌≡◌, ℕ, length, rules, refl, ap, ◌∙◌, subst, sym, HasNothing, TreeModule, Site, Emission, Generator}
use Rattle.treecode.specs.{internal.Nodes.{nodes_of}, internal.Rising.{NumbersRise}}
use Rattle.codegen8080.specs.internal.Standing.{ListStands}
use Rattle.codegen8080.proofs.BodyParts.{main_added}
use Rattle.codegen8080.proofs.bodies.put_main.Goals as goal

pub returns : goal.returns
returns c =
    let marked : Generator = record (c.body_of-body.new.generator) { marks = c.put.new.self } in
    let labelled : Generator = record marked { emission = c.add.new.self } in
    let written : Emission = record (c.add.new.self) { writer = c.stack_end.new.self } in
    let ready : Generator = record marked { emission = written } in
    let after : Generator = record (c.list.new.self) { emission = c.add-2.new.self } in
    main_added c.args.tree.now c.args.entry c.body_of-body.result c.site_of.result c.site_of-2.result
    c.args.generator.now c.body_of-body.new.generator labelled ready c.list.new.self after
    c.body_of-body.ensures.tree c.body_of-body.ensures.procedure
    (subst HasNothing (sym c.body_of-body.ensures.frame) c.empty-frame.ensures)
    c.body_of-body.ensures.first c.body_of-body.ensures.emission c.body_of-body.ensures.labels
    c.in_ok-add.ensures c.in_ok-stack_end.ensures refl
    c.in_ok-list.ensures.code c.in_ok-add-2.ensures

pub list-requires-clause-rise : goal.list-requires-clause-rise
list-requires-clause-rise c =
    subst (λ (tree : TreeModule). NumbersRise (nodes_of tree)) (sym c.body_of-body.ensures.tree) c.requires.rise

pub add-requires-2 : goal.add-requires-2
add-requires-2 c =
    subst (λ (tree : TreeModule). NumbersRise (nodes_of tree))
    (sym (ap (λ (site : Site). site.tree.now) c.site_of-2.ensures ∙ c.body_of-body.ensures.tree)) c.requires.rise

pub list-requires-clause-stands : goal.list-requires-clause-stands
list-requires-clause-stands c =
    let counted : c.len.result ≡ length c.args.tree.now.statements.items = search rules in
    subst (λ (tree : TreeModule). ListStands (nodes_of tree) c.len.result c.args.tree.now.main.body)
    (sym c.body_of-body.ensures.tree)
    (subst (λ (bound : ℕ). ListStands (nodes_of c.args.tree.now) bound c.args.tree.now.main.body) (sym counted) c.requires.stands)
