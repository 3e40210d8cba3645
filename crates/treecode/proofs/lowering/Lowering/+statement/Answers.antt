use Rattle.treecode.proofs.Prelude.{◌≡◌, List, rules, ap, sym, ◌∙◌, true, arith, CaseStatement, DoStatement, LoopStatement, expression_view, head_view, list_view, statement_view, statements_view, layout_view, StatementNumber, walk_of, items_in, statements_in}
use Rattle.treecode.proofs.PutNodes.{list_put, outside_lists}
use Rattle.treecode.proofs.StatementLoops.{items_all_added}
use Rattle.treecode.proofs.StatementViews.{case_returned, case_view, do_returned, do_view, loop_returned, loop_view, view_returned}
use Rattle.treecode.proofs.lowering.Lowering.+statement.Goals as goal

pub choose_case-returns-clause-ok : goal.choose_case-returns-clause-ok
choose_case-returns-clause-ok t c =
    case_returned c.add.result (layout_view c.args.storage.now) (walk_of c.args.self.now) _
    (expression_view c.args.choice.now.choice) (statements_view c.args.choice.now.body.items)
    (walk_of c.value.new.self) c.in_ok-number.number (walk_of c.statements.new.self) c.in_ok-body.body
    c.in_ok-number.ensures.ok
    (ap (λ all. statements_in (layout_view c.args.storage.now) (walk_of c.value.new.self)
    (statements_view all))
    (sym c.as_slice.ensures.value)
    ∙ c.in_ok-body.ensures.ok)
    c.add.ensures.ok

pub repeat-returns-clause-ok : goal.repeat-returns-clause-ok
repeat-returns-clause-ok t c =
    loop_returned c.add.result (layout_view c.args.storage.now) (walk_of c.args.self.now) _
    (head_view c.args.turns.now.head) (list_view c.args.turns.now.body)
    (walk_of c.head.new.self) c.in_ok-head.head (walk_of c.list.new.self) c.in_ok-body.body
    c.ends-reaches_its_end.result
    c.in_ok-head.ensures.ok c.in_ok-body.ensures.ok c.ends-reaches_its_end.ensures c.add.ensures.ok

pub statement-returns-in_ok-list-in-Do-clause-ok : goal.statement-returns-in_ok-list-in-Do-clause-ok
statement-returns-in_ok-list-in-Do-clause-ok t c =
    let held : c.deref-in-Do.result.now ≡ c.in-Do.body.value = search (rules, c.deref-in-Do.ensures) in
    do_returned c.add-in-Do.result (layout_view c.args.storage.now) (walk_of c.args.self.now)
    (walk_of c.add-in-Do.new.self) c.args.statement.now
    (list_view c.deref-in-Do.result.now) (walk_of c.list.new.self) c.in_ok-list-in-Do.list
    (ap statement_view c.in-Do.is ∙ do_view c.in-Do.body
    ∙ ap (λ list. DoStatement (list_view list)) (sym held))
    c.in_ok-list-in-Do.ensures.ok c.add-in-Do.ensures.ok

pub statement-returns-in-Loop-clause-ok : goal.statement-returns-in-Loop-clause-ok
statement-returns-in-Loop-clause-ok t c =
    let held : c.deref-in-Loop.result.now ≡ c.in-Loop.turns.value =
    search (rules, c.deref-in-Loop.ensures) in
    view_returned c.repeat.result (layout_view c.args.storage.now) (walk_of c.args.self.now)
    (walk_of c.repeat.new.self) c.args.statement.now
    (LoopStatement (head_view c.deref-in-Loop.result.now.head) (list_view c.deref-in-Loop.result.now.body))
    (ap statement_view c.in-Loop.is ∙ loop_view c.in-Loop.turns
    ∙ ap (λ one. LoopStatement (head_view one.head) (list_view one.body)) (sym held))
    c.repeat.ensures.ok

pub statement-returns-in-Case-clause-ok : goal.statement-returns-in-Case-clause-ok
statement-returns-in-Case-clause-ok t c =
    let held : c.deref-in-Case.result.now ≡ c.in-Case.choice.value =
    search (rules, c.deref-in-Case.ensures) in
    view_returned c.choose_case.result (layout_view c.args.storage.now) (walk_of c.args.self.now)
    (walk_of c.choose_case.new.self) c.args.statement.now
    (CaseStatement (expression_view c.deref-in-Case.result.now.choice)
    (statements_view c.deref-in-Case.result.now.body.items))
    (ap statement_view c.in-Case.is ∙ case_view c.in-Case.choice
    ∙ ap (λ one. CaseStatement (expression_view one.choice) (statements_view one.body.items)) (sym held))
    c.choose_case.ensures.ok

pub statements-returns-clause-kept : goal.statements-returns-clause-kept
statements-returns-clause-kept t c =
    outside_lists c.loop-statement.self c.add_list.new.self c.add_list.ensures.kept
    ∙ (c.loop-statement.invariant).0

pub statements-returns-clause-ok : goal.statements-returns-clause-ok
statements-returns-clause-ok t c =
    list_put c.loop-statement.self c.add_list.new.self
    (items_in (layout_view c.args.storage.now) (walk_of c.args.self.now) true
    (statements_view c.args.statements.now))
    c.as_slice.result.now c.loop-statement.reaches_its_end c.in_ok-range.range
    (sym
    (items_all_added (layout_view c.args.storage.now) (walk_of c.loop-statement.self)
    c.loop-statement.reaches_its_end
    c.loop-statement.numbers.items _ c.args.statements.now c.loop-statement.statement-index
    (c.loop-statement.invariant).1 (omega arith))
    ∙ ap (λ (all : List StatementNumber).
    (walk_of c.loop-statement.self, record { numbers = all; reaches_its_end = c.loop-statement.reaches_its_end }))
    (sym c.as_slice.ensures.value))
    c.add_list.ensures.kept c.in_ok-range.ensures.ok.0 c.in_ok-range.ensures.ok.1 c.in_ok-range.ensures.ok.2
