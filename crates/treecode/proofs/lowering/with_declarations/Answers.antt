use Rattle.treecode.proofs.Prelude.{List, ◌++◌, map, ap, ◌∙◌, Procedure, module_view, procedure_view, layout_view, TreeModule, TreeProcedure, Gathered, gathered_view, heading_of, headings_in, placed_in}
use Rattle.treecode.proofs.GatheredLaws.{names_gathered}
use Rattle.treecode.proofs.PlacedLaws.{headings_of_module, homes_of_module}
use Rattle.treecode.proofs.lowering.with_declarations.Goals as goal

pub returns-clause-externals : goal.returns-clause-externals
returns-clause-externals c =
    ap (λ (all : Gathered). all.names) c.in_ok-externals.ensures
    ∙ names_gathered (module_view c.args.typed.now)

pub returns-clause-homes : goal.returns-clause-homes
returns-clause-homes c =
    homes_of_module (module_view c.args.typed.now) (layout_view c.args.storage.now)
    (gathered_view c.in_ok-externals.externals) (placed_in c.add_headings.new.tree)
    (placed_in c.add_homes.new.tree)
    c.in_ok-externals.ensures
    (ap (λ (tree : TreeModule). tree.homes.items) c.in_ok-add_headings.ensures.kept
    ∙ c.empty_module-tree.ensures.homes)
    (c.in_ok-add_headings.ensures.headings
    ∙ ap (λ (procedures : List TreeProcedure). map heading_of procedures
    ++ headings_in c.in_ok-externals.externals.procedures.entries.items 0
    (map procedure_view c.as_slice.result.now)) c.empty_module-tree.ensures.procedures
    ∙ ap (λ (procedures : List Procedure). headings_in c.in_ok-externals.externals.procedures.entries.items 0
    (map procedure_view procedures)) c.as_slice.ensures.value)
    c.in_ok-add_homes.ensures.placed

pub returns-clause-headings : goal.returns-clause-headings
returns-clause-headings c =
    headings_of_module (module_view c.args.typed.now) (layout_view c.args.storage.now)
    (gathered_view c.in_ok-externals.externals) (placed_in c.add_headings.new.tree)
    (placed_in c.add_homes.new.tree)
    c.in_ok-externals.ensures
    (ap (λ (tree : TreeModule). tree.homes.items) c.in_ok-add_headings.ensures.kept
    ∙ c.empty_module-tree.ensures.homes)
    (c.in_ok-add_headings.ensures.headings
    ∙ ap (λ (procedures : List TreeProcedure). map heading_of procedures
    ++ headings_in c.in_ok-externals.externals.procedures.entries.items 0
    (map procedure_view c.as_slice.result.now)) c.empty_module-tree.ensures.procedures
    ∙ ap (λ (procedures : List Procedure). headings_in c.in_ok-externals.externals.procedures.entries.items 0
    (map procedure_view procedures)) c.as_slice.ensures.value)
    c.in_ok-add_homes.ensures.placed
