use Rattle.tool.proofs.Prelude.{module_view, layout_view}
use Rattle.tool.proofs.CompiledLemmas.{generation_refused, linkable, made_of, marks_of_module, sound_tree_code}
use Rattle.tool.proofs.compiled.generated_of.Goals as goal

pub generate-generated-requires-clause-linkable : goal.generate-generated-requires-clause-linkable
generate-generated-requires-clause-linkable c =
    linkable (module_view c.args.source.now.typed) c.in_ok-tree.tree c.in_ok-tree.ensures.names
    c.requires.names c.requires.sound

pub returns-in-Ok-clause-made : goal.returns-in-Ok-clause-made
returns-in-Ok-clause-made c =
    made_of (module_view c.args.source.now.typed) c.in_ok-tree.tree c.in-Ok.generated.object
    (sound_tree_code (module_view c.args.source.now.typed) (layout_view c.args.source.now.storage)
    c.in_ok-tree.tree c.requires.sound c.requires.source
    c.requires.storage c.in_ok-tree.ensures.lowered)
    c.in-Ok.ensures.sound

pub returns-in-Ok-clause-marked : goal.returns-in-Ok-clause-marked
returns-in-Ok-clause-marked c =
    marks_of_module (module_view c.args.source.now.typed) c.in_ok-tree.tree c.in-Ok.generated.object
    c.in-Ok.generated.marks
    (sound_tree_code (module_view c.args.source.now.typed) (layout_view c.args.source.now.storage)
    c.in_ok-tree.tree c.requires.sound c.requires.source
    c.requires.storage c.in_ok-tree.ensures.lowered)
    c.in-Ok.ensures.lie

pub returns-in-Err-clause-refused : goal.returns-in-Err-clause-refused
returns-in-Err-clause-refused c =
    rw c.of_code.ensures
    (generation_refused c.args.file (module_view c.args.source.now.typed) c.in_ok-tree.tree c.in-Err.failure
    (sound_tree_code (module_view c.args.source.now.typed) (layout_view c.args.source.now.storage)
    c.in_ok-tree.tree c.requires.sound c.requires.source
    c.requires.storage c.in_ok-tree.ensures.lowered)
    c.in-Err.ensures.not_made)
