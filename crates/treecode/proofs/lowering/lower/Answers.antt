use Rattle.treecode.proofs.Prelude.{ap, ◌∙◌, vec_items, module_view, layout_view}
use Rattle.treecode.proofs.ModuleBodies.{procedures_are, procedures_counted}
use Rattle.treecode.proofs.lowering.lower.Goals as goal

pub returns : goal.returns
returns c = record {
  lowered = record {
    name = c.in_ok-tree-2.ensures.name ∙ c.in_ok-tree.ensures.name;
    homes = c.in_ok-tree-2.ensures.leads.homes ∙ c.in_ok-tree.ensures.homes;
    externals = c.in_ok-tree-2.ensures.externals ∙ c.in_ok-tree.ensures.externals;
    publics = c.in_ok-tree-5.ensures;
    constants = c.in_ok-tree-3.ensures;
    variables = c.in_ok-tree-4.ensures;
    procedure_count =
        procedures_counted (module_view c.args.typed.now) (layout_view c.args.storage.now) c.in_ok-tree.tree
        c.in_ok-tree-2.tree c.in_ok-tree.ensures.headings c.in_ok-tree-2.ensures;
    procedures =
        procedures_are (module_view c.args.typed.now) (layout_view c.args.storage.now) c.in_ok-tree.tree
        c.in_ok-tree-2.tree c.in_ok-tree.ensures.headings c.in_ok-tree-2.ensures;
    main = c.in_ok-tree-2.ensures.main;
    main_kind = c.in_ok-tree-2.ensures.main_heading.kind ∙ c.in_ok-tree.ensures.main_kind;
    main_frame = ap vec_items c.in_ok-tree-2.ensures.main_heading.frame ∙ c.in_ok-tree.ensures.main_frame;
    main_frame_bytes =
        c.in_ok-tree-2.ensures.main_heading.frame_bytes ∙ c.in_ok-tree.ensures.main_frame_bytes;
    main_result = c.in_ok-tree-2.ensures.main_heading.result ∙ c.in_ok-tree.ensures.main_result;
    traits = c.in_ok-tree-2.ensures.leads.sound.keeps;
    order = c.in_ok-tree-2.ensures.leads.sound.rises;
  };
}
