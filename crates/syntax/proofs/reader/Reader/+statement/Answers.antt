use Rattle.syntax.proofs.Prelude.{not, sym, ◌∙◌, ap, arith, refl, err_from_is_err_and, declare_or, conditional, simple_do, case_do, loop_do, procedure}
use Rattle.syntax.proofs.StatementInsides.{statement_in, declaration_in, statement-deep, declaration-deep, declaration-declares}
use Rattle.syntax.proofs.StatementLoops.{statements-more, statements-end, statement-smaller, statements-fails, statements-fails_at_end, declarations-more, declarations-end, declaration-smaller, declarations-fails}
use Rattle.syntax.proofs.ReaderResults.{fails_bind, gives_made}
use Rattle.syntax.proofs.reader.Reader.+statement.Goals as goal

pub take_statement-returns-then-room-eq0 : goal.take_statement-returns-then-room-eq0
take_statement-returns-then-room-eq0 t c = statement-deep _ _ _ c.if-room-eq0.true c.too_deep.ensures

pub take_statements-returns-in_err-expect_word : goal.take_statements-returns-in_err-expect_word
take_statements-returns-in_err-expect_word t c =
    let p = err_from_is_err_and c.from_residual.result c.from_residual.ensures.1 in
    let e = c.in_err-expect_word.ensures.err in
    rw (p.1, p.2) (statements-fails_at_end _ _ _ _ _ c.more.invariant e.1 e.0)

pub take_statements-returns-in_err-statement : goal.take_statements-returns-in_err-statement
take_statements-returns-in_err-statement t c =
    let p =
    err_from_is_err_and c.from_residual-in_err-statement.result c.from_residual-in_err-statement.ensures.1 in
    rw (p.1, p.2)
    (statements-fails _ _ _ _ _ c.more.invariant c.in_ok-expect_word.ensures.ok
    (sym c.more-test.true ∙ c.at_word.ensures) c.in_err-statement.ensures)

pub take_declarations-returns-in_err-declaration : goal.take_declarations-returns-in_err-declaration
take_declarations-returns-in_err-declaration t c =
    let p = err_from_is_err_and c.from_residual.result c.from_residual.ensures.1 in
    rw (p.1, p.2)
    (declarations-fails _ _ _ _ _ c.more.invariant
    (ap not (sym c.more-test.true) ∙ c.begins_declaration.ensures) c.in_err-declaration.ensures)

pub take_declaration-returns-then-room-eq0 : goal.take_declaration-returns-then-room-eq0
take_declaration-returns-then-room-eq0 t c =
    declaration-deep _ _ _ c.if-room-eq0.true (sym c.if-at_word.false ∙ c.at_word.ensures) c.too_deep.ensures

pub take_declaration-returns-then-at_word : goal.take_declaration-returns-then-at_word
take_declaration-returns-then-at_word t c =
    rw (declaration-declares _ _ _ (sym c.if-at_word.true ∙ c.at_word.ensures) c.skip.ensures)
    c.take_declare.ensures

pub take_statement-returns-in_err-kind : goal.take_statement-returns-in_err-kind
take_statement-returns-in_err-kind t c = grind (arith, fails_bind, statement_in)

pub take_statement-returns : goal.take_statement-returns
take_statement-returns t c = grind (arith, statement_in)

pub take_statements-more-smaller : goal.take_statements-more-smaller
take_statements-more-smaller t c = grind (arith, statement-smaller)

pub take_statements-more-preserved : goal.take_statements-more-preserved
take_statements-more-preserved t c = grind (arith, statements-more)

pub take_statements-returns : goal.take_statements-returns
take_statements-returns t c = grind (arith, statements-end)

pub take_declarations-more-smaller : goal.take_declarations-more-smaller
take_declarations-more-smaller t c = grind (arith, declaration-smaller)

pub take_declarations-more-preserved : goal.take_declarations-more-preserved
take_declarations-more-preserved t c = grind (arith, declarations-more)

pub take_declarations-returns : goal.take_declarations-returns
take_declarations-returns t c = grind (arith, declarations-end)

pub take_declaration-returns : goal.take_declaration-returns
unfolding declare_or
take_declaration-returns t c = grind (arith, declaration_in)

pub take_if-returns : goal.take_if-returns
unfolding conditional
take_if-returns t c =
    gives_made _ _ _ _ _ _ c.or_memory.ensures c.if_then.ensures.view
    (rw (c.in_ok-condition.ensures, c.in_ok-take_word.ensures, c.in_ok-body.ensures, c.in_ok-otherwise.ensures) refl)

pub take_simple_do-returns : goal.take_simple_do-returns
unfolding simple_do
take_simple_do-returns t c =
    gives_made _ _ _ _ _ _ c.or_memory.ensures c.simple_do.ensures.view
    (rw (c.in_ok-block.ensures, c.in_ok-take_end_of_do.ensures) refl)

pub take_case-returns : goal.take_case-returns
unfolding case_do
take_case-returns t c =
    gives_made _ _ _ _ _ _ c.or_memory.ensures c.do_case.ensures.view
    (grind arith)

pub take_loop-returns : goal.take_loop-returns
unfolding loop_do
take_loop-returns t c =
    gives_made _ _ _ _ _ _ c.or_memory.ensures c.do_loop.ensures.view
    (rw (c.in_ok-head.ensures, c.in_ok-take_semicolon.ensures, c.in_ok-body.ensures) refl)

pub take_procedure-returns : goal.take_procedure-returns
unfolding procedure
take_procedure-returns t c =
    gives_made _ _ _ _ _ _ c.or_memory.ensures c.procedure.ensures.view
    (rw (c.in_ok-heading.ensures, c.in_ok-take_semicolon.ensures, c.in_ok-body.ensures, c.in_ok-end_name.ensures) refl)
