use Rattle.names.proofs.Prelude.{◌≡◌, ◌∙◌, rules, subst, Ok, block_declarations, block_statements, at_the_start, see_block, Walk, FailsBy, fault_in, gives}
use Rattle.names.proofs.BindingWalks.{whole_given, refuses_whole}
use Rattle.names.proofs.bound.bindings_of.Goals as goal

pub returns-clause-ok : goal.returns-clause-ok
returns-clause-ok c =
    let body = c.args.parsed.now.body in
    let whole =
    whole_given (see_block (block_declarations body) (block_statements body))
    at_the_start c.module.new.self
    (subst (λ (walk : Walk). gives (see_block (block_declarations body) (block_statements body)) walk
    ≡ Ok c.module.new.self) c.new-binder.ensures c.in_ok-module.ensures) in
    record { faultless = whole.0; bound = c.into_bindings.ensures ∙ whole.1 }

pub returns-in_err-module-clause-fault : goal.returns-in_err-module-clause-fault
returns-in_err-module-clause-fault c =
    let body = c.args.parsed.now.body in
    refuses_whole (see_block (block_declarations body) (block_statements body)) at_the_start
    c.from_residual.result c.in_err-module.field-0.0 (search rules)
    (subst (λ (walk : Walk). FailsBy (fault_in c.in_err-module.field-0.0)
    (gives (see_block (block_declarations body) (block_statements body)) walk)) c.new-binder.ensures
    c.in_err-module.ensures)
