use Rattle.treecode.proofs.Prelude.{ap, sym, ◌∙◌, subst, procedure_view, layout_view, Outside, outside, walk_of, IsBody, with_main, Walk}
use Rattle.treecode.proofs.Bodies.{main_is}
use Rattle.treecode.proofs.lowering.Lowering.add_main.Goals as goal

pub returns : goal.returns
returns c =
    main_is (layout_view c.args.storage.now) (walk_of c.args.self.now) (walk_of c.put_main.new.self)
    (outside c.args.self.now) (outside c.put_main.new.self) c.in_ok-body.body
    (procedure_view c.args.typed.now)
    c.requires.sound c.requires.jumps
    (subst
    (λ (after : Walk). IsBody (layout_view c.args.storage.now) (walk_of c.args.self.now)
    after c.in_ok-body.body
    (procedure_view c.args.typed.now))
    (sym c.put_main.ensures.walk) c.in_ok-body.ensures.ok)
    (c.put_main.ensures.outside
    ∙ ap (λ (one : Outside). with_main one c.in_ok-body.body) c.in_ok-body.ensures.kept)
