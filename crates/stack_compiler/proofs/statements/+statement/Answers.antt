use Rattle.stack_compiler.proofs.Prelude.{CodeStatement, List, ◌+◌, ◌++◌, ◌∷◌, [], Option, ap, subst, sym, ◌∙◌, arith, on_ok_weaker, TypedStatement, else_view, expression_view, head_view, list_view, statement_view, statements_view, choice_code, else_code, expression_code, statement_code, closed, opened, opening, site_view}
use Rattle.stack_compiler.proofs.Counted.{both_numbered, case_numbered, first_numbered, loop_numbered, no_statements_left, so_far_all, so_far_more, statements_left}
use Rattle.stack_compiler.specs.internal.Counted.{Numbers, numbered_else, numbered_parts, numbered_statements}
use Rattle.stack_compiler.proofs.Cases.{case_opened, cases_made, cases_opened}
use Rattle.stack_compiler.proofs.JumpsFilled.{if_with, if_without, loop_made}
use Rattle.stack_compiler.proofs.StatementLoops.{statement_emitted, statements_emitted}
use Rattle.stack_compiler.proofs.statements.+statement.Goals as goal

pub cases_of-returns-clause-code : goal.cases_of-returns-clause-code
cases_of-returns-clause-code t c =
    cases_made (site_view c.args.site.now) c.args.statements.now c.in_ok-cases.cases.items
    c.open_cases.new.cases.items
    c.close_cases.new.code.items c.open_cases.new.ends.items c.in_ok-cases.ensures
    (c.in_ok-open_cases.ensures.code
    ∙ ap (λ ends. opened (site_view c.args.site.now) 0 (opening c.in_ok-cases.cases.items ends)
    (statements_view c.args.statements.now)) c.new-ends.ensures.items)
    (c.close_cases.ensures ∙ ap (λ ends. closed ends c.open_cases.new.cases.items) c.as_slice.ensures.value)

pub emit_loop-returns-clause-code : goal.emit_loop-returns-clause-code
emit_loop-returns-clause-code t c =
    on_ok_weaker c.emit_turn_end.result
    (λ made.
    made
    ∙ loop_made (site_view c.args.site.now) (head_view c.args.turns.now.head)
    (list_view c.args.turns.now.body) c.args.code.now.items c.emit_first.new.code.items c.emit.new.code.items c.emit_list.new.code.items
    c.next_place-start.result c.in_ok-emit_first.ensures c.next_place-start.ensures c.in_ok-emit.ensures
    c.in_ok-emit_list.ensures.code)
    c.emit_turn_end.ensures

pub emit_statements-loop-statement-preserved : goal.emit_statements-loop-statement-preserved
emit_statements-loop-statement-preserved t c = (
  statement_emitted (site_view c.args.site.now) c.loop-statement.code.items _ c.args.statements.now
      c.loop-statement.statement-index c.loop-statement.invariant.0
      c.statement-item.result c.emit_statement.new.code.items (omega arith) c.statement-item.is
      c.in_ok-emit_statement.ensures.code,
  λ procedures. so_far_more procedures _ _ _ _ c.args.marks.now c.loop-statement.marks
      c.emit_statement.new.marks (c.loop-statement.invariant.1 procedures)
      (c.in_ok-emit_statement.ensures.numbers.in_any procedures)
      (statements_left c.args.statements.now c.loop-statement.statement-index c.statement-item.result
      (omega arith) c.statement-item.is),
)

pub emit_statements-returns-clause-code : goal.emit_statements-returns-clause-code
emit_statements-returns-clause-code t c =
    statements_emitted (site_view c.args.site.now) c.loop-statement.code.items _ c.args.statements.now
    c.loop-statement.statement-index c.loop-statement.invariant.0 (omega arith)

pub emit_statements-returns-clause-numbers : goal.emit_statements-returns-clause-numbers
emit_statements-returns-clause-numbers t c = record {
  in_any = λ procedures. so_far_all procedures 0 _ _ c.args.marks.now c.loop-statement.marks
      (c.loop-statement.invariant.1 procedures)
      (no_statements_left c.args.statements.now c.loop-statement.statement-index (omega arith));
}

pub emit_if-returns-in_ok-emit_statement-in-Some-clause-code : goal.emit_if-returns-in_ok-emit_statement-in-Some-clause-code
emit_if-returns-in_ok-emit_statement-in-Some-clause-code t c =
    let site = site_view c.args.site.now in
    let condition = expression_code site (expression_view c.args.branch.now.condition) in
    let body = statement_code site (statement_view c.args.branch.now.body) in
    if_with c.args.code.now.items c.emit_expression.new.code.items c.emit.new.code.items
    c.emit_statement.new.code.items c.emit-in-Some.new.code.items
    c.close_jump_unless.new.code.items c.emit_statement-in-Some.new.code.items
    c.close_jump.new.code.items condition body
    (statement_code site (statement_view c.in-Some.otherwise)) c.next_place-choice.result
    c.next_place-end.result
    c.in_ok-emit_expression.ensures c.next_place-choice.ensures c.in_ok-emit.ensures
    c.in_ok-emit_statement.ensures.code c.next_place-end.ensures
    c.in_ok-emit-in-Some.ensures c.close_jump_unless.ensures c.in_ok-emit_statement-in-Some.ensures.code
    c.close_jump.ensures
    ∙ ap (λ (one : Option TypedStatement). c.args.code.now.items
    ++ (condition ++ choice_code body (else_code site (else_view one)))) (sym c.in-Some.is)

pub emit_if-returns-in-None-clause-code : goal.emit_if-returns-in-None-clause-code
emit_if-returns-in-None-clause-code t c =
    let site = site_view c.args.site.now in
    let condition = expression_code site (expression_view c.args.branch.now.condition) in
    let body = statement_code site (statement_view c.args.branch.now.body) in
    if_without c.args.code.now.items c.emit_expression.new.code.items c.emit.new.code.items
    c.emit_statement.new.code.items
    c.close_jump_unless-in-None.new.code.items condition body c.next_place-choice.result
    c.in_ok-emit_expression.ensures c.next_place-choice.ensures c.in_ok-emit.ensures
    c.in_ok-emit_statement.ensures.code c.close_jump_unless-in-None.ensures
    ∙ ap (λ (one : Option TypedStatement). c.args.code.now.items
    ++ (condition ++ choice_code body (else_code site (else_view one)))) (sym c.in-None.is)

pub open_cases-loop-entry-preserved : goal.open_cases-loop-entry-preserved
open_cases-loop-entry-preserved t c = (
  case_opened (site_view c.args.site.now) c.loop-entry.cases.items c.loop-entry.ends.items _
      c.args.statements.now c.loop-entry.entry c.loop-entry.invariant.0
      c.index-statements-entry.result c.close_jump.new.code.items c.emit_statement.new.code.items
      c.emit.new.code.items c.push.new.self.items
      (omega arith) c.index-statements-entry.is c.close_jump.ensures c.in_ok-emit_statement.ensures.code
      c.in_ok-emit.ensures
      (c.in_ok-push.ensures.items ∙ ap (λ count. c.loop-entry.ends.items ++ (count ∷ []))
      (c.len.ensures ∙ c.emit.new.code.ok.0)),
  λ procedures. so_far_more procedures _ _ _ _ c.args.marks.now c.loop-entry.marks
      c.emit_statement.new.marks (c.loop-entry.invariant.1 procedures)
      (c.in_ok-emit_statement.ensures.numbers.in_any procedures)
      (statements_left c.args.statements.now c.loop-entry.entry c.index-statements-entry.result
      (omega arith) c.index-statements-entry.is),
)

pub open_cases-returns-clause-code : goal.open_cases-returns-clause-code
open_cases-returns-clause-code t c =
    cases_opened (site_view c.args.site.now) c.loop-entry.cases.items c.loop-entry.ends.items _
    c.args.statements.now c.loop-entry.entry c.loop-entry.invariant.0
    c.close_jump-2.new.code.items (omega arith) (omega arith) c.close_jump-2.ensures

pub open_cases-returns-clause-numbers : goal.open_cases-returns-clause-numbers
open_cases-returns-clause-numbers t c = record {
  in_any = λ procedures. so_far_all procedures 1 _ _ c.args.marks.now c.loop-entry.marks
      (c.loop-entry.invariant.1 procedures)
      (no_statements_left c.args.statements.now c.loop-entry.entry (omega arith));
}

pub emit_loop-returns-clause-numbers : goal.emit_loop-returns-clause-numbers
emit_loop-returns-clause-numbers t c =
    on_ok_weaker c.emit_turn_end.result
    (λ done. loop_numbered _ c.args.marks.now c.emit_list.new.marks c.end_body.new.self
    c.in_ok-emit_list.ensures.numbers c.in_ok-end_body.ensures)
    c.emit_turn_end.ensures

pub emit_case-returns-clause-numbers : goal.emit_case-returns-clause-numbers
emit_case-returns-clause-numbers t c =
    case_numbered _ c.args.marks.now c.enter-base.new.self c.cases_of.new.marks c.leave.new.self
    c.enter-base.ensures
    (subst (λ (statements : List CodeStatement). Numbers 1 (numbered_statements (statements_view statements))
    c.enter-base.new.self c.cases_of.new.marks) c.as_slice.ensures.value c.in_ok-cases.ensures.numbers)
    c.leave.ensures

pub emit_if-returns-in_ok-emit_statement-in-Some-clause-numbers :
    goal.emit_if-returns-in_ok-emit_statement-in-Some-clause-numbers
emit_if-returns-in_ok-emit_statement-in-Some-clause-numbers t c =
    subst (λ (one : Option TypedStatement). Numbers 1
    (numbered_parts (statement_view c.args.branch.now.body) + 1 + numbered_else (else_view one))
    c.args.marks.now c.emit_statement-in-Some.new.marks) (sym c.in-Some.is)
    (both_numbered _ _ c.args.marks.now c.emit_statement.new.marks c.emit_statement-in-Some.new.marks
    c.in_ok-emit_statement.ensures.numbers c.in_ok-emit_statement-in-Some.ensures.numbers)

pub emit_if-returns-in-None-clause-numbers : goal.emit_if-returns-in-None-clause-numbers
emit_if-returns-in-None-clause-numbers t c =
    first_numbered _ _ c.args.marks.now c.emit_statement.new.marks
    c.in_ok-emit_statement.ensures.numbers (ap (λ one. numbered_else (else_view one)) c.in-None.is)
