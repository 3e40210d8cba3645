use Rattle.names.proofs.Prelude.{List, arith, rules, Statement, declaration_tree, declaration_trees, kind_tree, statement_tree, statement_trees, see_cases, see_declaration, see_declarations, see_kind, see_statement, see_statements, gives}
use Rattle.trees.specs.declared.statement.Declaration.{Declaration}
use Rattle.names.proofs.TreesOfParts.{if_tree_is, do_tree_is, loop_tree_is, case_tree_is, procedure_is}
use Rattle.names.proofs.Loops.{goes_on, fails_within, loop_ended, hands_on}
use Rattle.names.proofs.BindingWalks.{gives_turn, gives_nothing, gives_then, gives_three, fails_then, fails_middle}
use Rattle.names.proofs.binder.Binder.+walk.Goals as goal

pub statements-loop-statement-preserved : goal.statements-loop-statement-preserved
statements-loop-statement-preserved t c =
    goes_on
    (λ (statement : Statement) walk. gives (see_statement (statement_tree statement)) walk)
    (λ (statements : List Statement) walk. gives (see_statements (statement_trees statements)) walk)
    (λ statement statements walk. gives_turn (see_statement (statement_tree statement))
    (see_statements (statement_trees statements)) walk)
    c.args.statements.now c.loop-statement.statement-index c.statement-item.result c.loop-statement.self
    c.statement.new.self _
    c.loop-statement-test.true c.statement-item.is c.loop-statement.invariant c.in_ok-statement.ensures

pub statements-returns-in_err-statement : goal.statements-returns-in_err-statement
statements-returns-in_err-statement t c =
    hands_on c.from_residual.result c.in_err-statement.field-0.0 c.statement.new.self _ (search rules)
    (fails_within
    (λ (statement : Statement) walk. gives (see_statement (statement_tree statement)) walk)
    (λ (statements : List Statement) walk. gives (see_statements (statement_trees statements)) walk)
    (λ statement statements walk. gives_turn (see_statement (statement_tree statement))
    (see_statements (statement_trees statements)) walk)
    c.args.statements.now c.loop-statement.statement-index c.statement-item.result c.loop-statement.self _ _
    c.loop-statement-test.true c.statement-item.is c.loop-statement.invariant c.in_err-statement.ensures)

pub statements-returns : goal.statements-returns
statements-returns t c =
    loop_ended
    (λ (statement : Statement) walk. gives (see_statement (statement_tree statement)) walk)
    (λ (statements : List Statement) walk. gives (see_statements (statement_trees statements)) walk)
    (λ statement statements walk. gives_turn (see_statement (statement_tree statement))
    (see_statements (statement_trees statements)) walk)
    c.args.statements.now c.loop-statement.statement-index c.loop-statement.self _ _
    c.loop-statement-test.false c.loop-statement.invariant
    (gives_nothing c.loop-statement.self)

pub cases-loop-statement-preserved : goal.cases-loop-statement-preserved
cases-loop-statement-preserved t c =
    goes_on
    (λ (statement : Statement) walk. gives (see_kind (kind_tree statement.kind)) walk)
    (λ (statements : List Statement) walk. gives (see_cases (statement_trees statements)) walk)
    (λ statement statements walk. gives_turn (see_kind (kind_tree statement.kind))
    (see_cases (statement_trees statements)) walk)
    c.args.statements.now c.loop-statement.statement-index c.statement-item.result
    c.loop-statement.self c.kind.new.self _
    c.loop-statement-test.true c.statement-item.is c.loop-statement.invariant c.in_ok-kind.ensures

pub cases-returns-in_err-kind : goal.cases-returns-in_err-kind
cases-returns-in_err-kind t c =
    hands_on c.from_residual.result c.in_err-kind.field-0.0 c.kind.new.self _ (search rules)
    (fails_within
    (λ (statement : Statement) walk. gives (see_kind (kind_tree statement.kind)) walk)
    (λ (statements : List Statement) walk. gives (see_cases (statement_trees statements)) walk)
    (λ statement statements walk. gives_turn (see_kind (kind_tree statement.kind))
    (see_cases (statement_trees statements)) walk)
    c.args.statements.now c.loop-statement.statement-index c.statement-item.result c.loop-statement.self _ _
    c.loop-statement-test.true c.statement-item.is c.loop-statement.invariant c.in_err-kind.ensures)

pub cases-returns : goal.cases-returns
cases-returns t c =
    loop_ended
    (λ (statement : Statement) walk. gives (see_kind (kind_tree statement.kind)) walk)
    (λ (statements : List Statement) walk. gives (see_cases (statement_trees statements)) walk)
    (λ statement statements walk. gives_turn (see_kind (kind_tree statement.kind))
    (see_cases (statement_trees statements)) walk)
    c.args.statements.now c.loop-statement.statement-index c.loop-statement.self _ _
    c.loop-statement-test.false c.loop-statement.invariant
    (gives_nothing c.loop-statement.self)

pub declarations-loop-declaration-preserved : goal.declarations-loop-declaration-preserved
declarations-loop-declaration-preserved t c =
    goes_on
    (λ (declaration : Declaration) walk. gives (see_declaration (declaration_tree declaration)) walk)
    (λ (declarations : List Declaration) walk. gives (see_declarations (declaration_trees declarations)) walk)
    (λ declaration declarations walk. gives_turn (see_declaration (declaration_tree declaration))
    (see_declarations (declaration_trees declarations)) walk)
    c.args.declarations.now c.loop-declaration.declaration-index c.declaration-item.result
    c.loop-declaration.self c.declaration.new.self _
    c.loop-declaration-test.true c.declaration-item.is c.loop-declaration.invariant
    c.in_ok-declaration.ensures

pub declarations-returns-in_err-declaration : goal.declarations-returns-in_err-declaration
declarations-returns-in_err-declaration t c =
    hands_on c.from_residual.result c.in_err-declaration.field-0.0 c.declaration.new.self _ (search rules)
    (fails_within
    (λ (declaration : Declaration) walk. gives (see_declaration (declaration_tree declaration)) walk)
    (λ (declarations : List Declaration) walk. gives (see_declarations (declaration_trees declarations)) walk)
    (λ declaration declarations walk. gives_turn (see_declaration (declaration_tree declaration))
    (see_declarations (declaration_trees declarations)) walk)
    c.args.declarations.now c.loop-declaration.declaration-index c.declaration-item.result
    c.loop-declaration.self _ _
    c.loop-declaration-test.true c.declaration-item.is c.loop-declaration.invariant
    c.in_err-declaration.ensures)

pub declarations-returns : goal.declarations-returns
declarations-returns t c =
    loop_ended
    (λ (declaration : Declaration) walk. gives (see_declaration (declaration_tree declaration)) walk)
    (λ (declarations : List Declaration) walk. gives (see_declarations (declaration_trees declarations)) walk)
    (λ declaration declarations walk. gives_turn (see_declaration (declaration_tree declaration))
    (see_declarations (declaration_trees declarations)) walk)
    c.args.declarations.now c.loop-declaration.declaration-index c.loop-declaration.self _ _
    c.loop-declaration-test.false c.loop-declaration.invariant
    (gives_nothing c.loop-declaration.self)

pub statement-returns-in_err-labels : goal.statement-returns-in_err-labels
statement-returns-in_err-labels t c = grind (arith, fails_then)

pub statement-returns : goal.statement-returns
statement-returns t c = grind (arith, gives_then)

pub conditional-returns-in_err-expression : goal.conditional-returns-in_err-expression
conditional-returns-in_err-expression t c = grind (arith, fails_then)

pub conditional-returns-in_err-kind : goal.conditional-returns-in_err-kind
conditional-returns-in_err-kind t c = grind (arith, fails_middle)

pub conditional-returns : goal.conditional-returns
conditional-returns t c = grind (arith, gives_three)

pub simple_do-returns-in_err-open_block : goal.simple_do-returns-in_err-open_block
simple_do-returns-in_err-open_block t c = grind (arith, fails_then)

pub simple_do-returns-in_err-block : goal.simple_do-returns-in_err-block
simple_do-returns-in_err-block t c = grind (arith, fails_middle)

pub simple_do-returns : goal.simple_do-returns
simple_do-returns t c = grind (arith, gives_three)

pub do_loop-returns-in_err-head : goal.do_loop-returns-in_err-head
do_loop-returns-in_err-head t c = grind (arith, fails_then)

pub do_loop-returns : goal.do_loop-returns
do_loop-returns t c = grind (arith, gives_then)

pub do_case-returns-in_err-expression : goal.do_case-returns-in_err-expression
do_case-returns-in_err-expression t c = grind (arith, fails_then)

pub do_case-returns : goal.do_case-returns
do_case-returns t c = grind (arith, gives_then)

pub list-returns-in_err-open_list : goal.list-returns-in_err-open_list
list-returns-in_err-open_list t c = grind (arith, fails_then)

pub list-returns-in_err-statements : goal.list-returns-in_err-statements
list-returns-in_err-statements t c = grind (arith, fails_middle)

pub list-returns : goal.list-returns
list-returns t c = grind (arith, gives_three)

pub block-returns-in_err-declarations : goal.block-returns-in_err-declarations
block-returns-in_err-declarations t c = grind (arith, fails_then)

pub block-returns : goal.block-returns
block-returns t c = grind (arith, gives_then)

pub procedure-returns-in_err-procedure_name : goal.procedure-returns-in_err-procedure_name
procedure-returns-in_err-procedure_name t c = grind (arith, fails_then)

pub procedure-returns : goal.procedure-returns
procedure-returns t c = grind (arith, gives_then)

pub procedure_body-returns-in_err-open_body : goal.procedure_body-returns-in_err-open_body
procedure_body-returns-in_err-open_body t c = grind (arith, fails_then)

pub procedure_body-returns-in_err-procedure_inside : goal.procedure_body-returns-in_err-procedure_inside
procedure_body-returns-in_err-procedure_inside t c = grind (arith, fails_middle)

pub procedure_body-returns : goal.procedure_body-returns
procedure_body-returns t c = grind (arith, gives_three)

pub procedure_inside-returns-in_err-parameters : goal.procedure_inside-returns-in_err-parameters
procedure_inside-returns-in_err-parameters t c = grind (arith, fails_then)

pub procedure_inside-returns : goal.procedure_inside-returns
procedure_inside-returns t c = grind (arith, gives_then)

pub kind-returns-in-Null : goal.kind-returns-in-Null
kind-returns-in-Null t c = grind (arith, gives_nothing)

pub kind-returns-in-Null-2 : goal.kind-returns-in-Null-2
kind-returns-in-Null-2 t c = grind (arith, gives_nothing)

pub kind-returns-in-If : goal.kind-returns-in-If
kind-returns-in-If t c = grind (arith, if_tree_is)

pub kind-returns-in-Do : goal.kind-returns-in-Do
kind-returns-in-Do t c = grind (arith, do_tree_is)

pub kind-returns-in-Loop : goal.kind-returns-in-Loop
kind-returns-in-Loop t c = grind (arith, loop_tree_is)

pub kind-returns-in-Case : goal.kind-returns-in-Case
kind-returns-in-Case t c = grind (arith, case_tree_is)

pub otherwise-returns-in-None : goal.otherwise-returns-in-None
otherwise-returns-in-None t c = grind (arith, gives_nothing)

pub declaration-returns-in-Procedure : goal.declaration-returns-in-Procedure
declaration-returns-in-Procedure t c = grind (arith, procedure_is)
