use Rattle.types.proofs.Prelude.{rules, refl, declaration_trees, heading_tree, block_view, progress_view, leaves_fault}
use Rattle.types.proofs.Headings.{opening_fails, opening_gives}
use Rattle.types.proofs.checker.Checker.open_procedure.Goals as goal

pub returns-in_err-open_heading-clause-opened : goal.returns-in_err-open_heading-clause-opened
returns-in_err-open_heading-clause-opened c =
    leaves_fault _ c.in_err-open_heading.field-0.0 _ _ (search rules)
    (opening_fails (block_view c.args.block) (heading_tree c.args.heading.now)
    (declaration_trees c.args.declared.now) (progress_view c.args.self.now) _
    c.in_err-open_heading.ensures)

pub returns-clause-opened : goal.returns-clause-opened
returns-clause-opened c =
    opening_gives (block_view c.args.block) (heading_tree c.args.heading.now)
    (declaration_trees c.args.declared.now) (progress_view c.args.self.now)
    c.in_ok-types.types.items c.open_heading.new.scopes c.args.self.now.known.procedures.items
    c.push.new.self.items c.headed.result c.in_ok-number.number c.add_global.new.globals.items
    (search rules) c.in_ok-open_heading.ensures refl c.in_ok-push.ensures.items c.headed.ensures
    (search rules) c.in_ok-add_global.ensures
