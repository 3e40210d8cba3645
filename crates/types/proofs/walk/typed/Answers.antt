use Rattle.types.proofs.Prelude.{rules, ◌∙◌, ap, sym, Ok, module_tree, list_view, progress_view, answers_fault}
use Rattle.typed_trees.proofs.Numbers.{numbers_fit}
use Rattle.types.proofs.Modules.{typing_fails, typing_given}
use Rattle.types.proofs.walk.typed.Goals as goal

pub returns-in_err-body-clause-typing : goal.returns-in_err-body-clause-typing
returns-in_err-body-clause-typing c =
    answers_fault _ _ c.in_err-body.field-0.0 _ (search rules)
    (typing_fails (module_tree c.args.parsed.now) (progress_view c.new-checker.result) _ c.new-checker.ensures
    c.in_err-body.ensures)

pub returns-clause-typing : goal.returns-clause-typing
returns-clause-typing c =
    typing_given (module_tree c.args.parsed.now) (progress_view c.new-checker.result)
    (list_view c.in_ok-body.body) (progress_view c.module.new.self) c.new-checker.ensures
    c.in_ok-body.ensures
    ∙ ap Ok (sym c.into_typed.ensures)

pub returns-clause-numbers : goal.returns-clause-numbers
returns-clause-numbers c = numbers_fit c.into_typed.result
