use Rattle.codegen8080.proofs.Prelude.{◌≡◌, ℕ, length, rules, true, refl, subst, sym, TreeModule, Generator, IsFrameOf}
use Rattle.treecode.specs.{internal.Nodes.{nodes_of}, internal.Rising.{NumbersRise}}
use Rattle.codegen8080.specs.internal.Standing.{ListStands}
use Rattle.codegen8080.proofs.BodyParts.{own_added}
use Rattle.codegen8080.proofs.bodies.put_own.Goals as goal

pub returns : goal.returns
returns c =
    let labelled : Generator = record (c.body_of-body.new.generator) {
      emission = c.add.new.self;
      goes_on = true;
      marks = c.put.new.self;
    } in
    own_added c.args.tree.now c.args.procedure.now c.args.entry c.body_of-body.result c.site_of.result
    c.args.generator.now c.body_of-body.new.generator labelled c.put_entry.new.generator c.list.new.self
    c.put_end.new.generator c.body_of-body.ensures.tree c.body_of-body.ensures.procedure
    (subst (IsFrameOf c.args.procedure.now) (sym c.body_of-body.ensures.frame) c.in_ok-frame.ensures)
    c.body_of-body.ensures.first c.body_of-body.ensures.emission c.body_of-body.ensures.labels
    c.in_ok-add.ensures refl c.in_ok-put_entry.ensures
    c.in_ok-list.ensures.code c.in_ok-put_end.ensures

pub put_entry-requires : goal.put_entry-requires
put_entry-requires c =
    subst (λ (tree : TreeModule). NumbersRise (nodes_of tree)) (sym c.body_of-body.ensures.tree) c.requires.rise

pub list-requires-clause-rise : goal.list-requires-clause-rise
list-requires-clause-rise c =
    subst (λ (tree : TreeModule). NumbersRise (nodes_of tree)) (sym c.body_of-body.ensures.tree) c.requires.rise

pub put_end-requires : goal.put_end-requires
put_end-requires c =
    subst (λ (tree : TreeModule). NumbersRise (nodes_of tree)) (sym c.body_of-body.ensures.tree) c.requires.rise

pub list-requires-clause-stands : goal.list-requires-clause-stands
list-requires-clause-stands c =
    let counted : c.len.result ≡ length c.args.tree.now.statements.items = search rules in
    subst (λ (tree : TreeModule). ListStands (nodes_of tree) c.len.result c.args.procedure.now.body)
    (sym c.body_of-body.ensures.tree)
    (subst (λ (bound : ℕ). ListStands (nodes_of c.args.tree.now) bound c.args.procedure.now.body) (sym counted) c.requires.stands)
