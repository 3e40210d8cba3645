use Rattle.treecode.proofs.Prelude.{List, map, ap, sym, ◌∙◌, subst, Procedure, module_view, procedure_view, layout_view, TreeModule, nodes_of, BodiesAreAdded, BodiesAreSound}
use Rattle.treecode.proofs.ModuleBodies.{bodies_added, none_sound}
use Rattle.treecode.proofs.lowering.with_bodies.Goals as goal

pub add_bodies-requires-clause-sound : goal.add_bodies-requires-clause-sound
add_bodies-requires-clause-sound c =
    none_sound (nodes_of c.new-lowering.result.tree)
    (ap (λ (tree : TreeModule). tree.expressions.items) c.new-lowering.ensures ∙ c.requires.expressions)

pub add_bodies-requires-clause-jumps : goal.add_bodies-requires-clause-jumps
add_bodies-requires-clause-jumps c =
    subst (λ (all : List Procedure). BodiesAreSound (map procedure_view all)) (sym c.as_slice.ensures.value)
    c.requires.jumps.procedures

pub add_main-requires-clause-sound : goal.add_main-requires-clause-sound
add_main-requires-clause-sound c = c.in_ok-add_bodies.ensures.leads.sound

pub add_main-requires-clause-jumps : goal.add_main-requires-clause-jumps
add_main-requires-clause-jumps c = c.requires.jumps.main

pub returns : goal.returns
returns c =
    subst (λ (tree : TreeModule). BodiesAreAdded (module_view c.args.typed.now)
    (layout_view c.args.storage.now) tree
    c.finish.result) c.new-lowering.ensures
    (subst (BodiesAreAdded (module_view c.args.typed.now) (layout_view c.args.storage.now)
    c.new-lowering.result.tree)
    (sym c.finish.ensures)
    (bodies_added (module_view c.args.typed.now) (layout_view c.args.storage.now) c.new-lowering.result
    c.add_bodies.new.self c.add_main.new.self c.as_slice.result.now
    (ap (map procedure_view) (sym c.as_slice.ensures.value))
    c.in_ok-add_bodies.ensures c.in_ok-add_main.ensures))
