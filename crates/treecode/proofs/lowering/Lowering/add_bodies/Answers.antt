use Rattle.treecode.proofs.Prelude.{map, ap, sym, ◌∙◌, subst, arith, procedure_view, layout_view, Outside, outside, walk_of, IsBody, with_body, Walk}
use Rattle.treecode.proofs.Bodies.{all_complete, next_complete, none_complete, tree_at}
use Rattle.treecode.proofs.lowering.Lowering.add_bodies.Goals as goal

pub loop-number-init : goal.loop-number-init
loop-number-init c =
    none_complete (layout_view c.args.storage.now) (walk_of c.args.self.now) (outside c.args.self.now)
    (map procedure_view c.args.procedures.now) c.requires.sound

pub loop-number-preserved : goal.loop-number-preserved
loop-number-preserved c =
    next_complete (layout_view c.args.storage.now) (walk_of c.args.self.now) (walk_of c.loop-number.self)
    (walk_of c.put_body.new.self) (outside c.args.self.now) (outside c.loop-number.self)
    (outside c.put_body.new.self)
    (map procedure_view c.args.procedures.now) c.loop-number.number c.in_ok-body.body
    (procedure_view c.index-procedures-number.result) c.loop-number.invariant c.requires.jumps
    (tree_at c.args.procedures.now c.loop-number.number c.index-procedures-number.result (omega arith)
    c.index-procedures-number.is)
    (subst
    (λ (after : Walk). IsBody (layout_view c.args.storage.now) (walk_of c.loop-number.self)
    after c.in_ok-body.body
    (procedure_view c.index-procedures-number.result))
    (sym c.put_body.ensures.walk) c.in_ok-body.ensures.ok)
    (c.put_body.ensures.outside
    ∙ ap (λ (one : Outside). with_body one c.loop-number.number c.in_ok-body.body) c.in_ok-body.ensures.kept)

pub returns : goal.returns
returns c = all_complete c.args.procedures.now c.loop-number.number (omega arith) c.loop-number.invariant
