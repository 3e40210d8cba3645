use Rattle.std.proofs.Common.{List, ap, arith, length, refl, sym, ◌∙◌}
use Rattle.std.proofs.lemmas.List.{length-map}
use Rattle.trees.specs.declared.statement.Declaration.{Declaration}
use Rattle.trees.specs.declared.statement.Procedure.{out-Procedure}
use Rattle.trees.specs.declared.statement.Statement.{Statement}
use Rattle.trees.specs.internal.Views.{block_statements, declaration_tree, declaration_trees, statement_tree, statement_trees}
use Rattle.names.proofs.TreesOfParts.{procedure_is}
use Rattle.typing.specs.internal.Untyped.{bodies_in, bodies_in_declaration, bodies_in_statement, bodies_in_statements}
use Rattle.sources.specs.internal.Counted.{count_of_statement, count_of_statements, counts_of, lines_of_body}
use Rattle.sources.proofs.LinesCounted.{bodies_ended, bodies_go_on, case_bodies, case_parts, count_ended, count_goes_on, do_bodies, do_parts, loop_bodies, loop_parts, procedure_counted}
use Rattle.sources.proofs.lines.LineWalk.+walk.Goals as goal

pub statements-loop-statement-preserved : goal.statements-loop-statement-preserved
statements-loop-statement-preserved t c = (
  bodies_go_on (λ (statements : List Statement). bodies_in_statements (statement_trees statements))
      (λ (statement : Statement). bodies_in_statement (statement_tree statement)) (λ first others. refl)
      c.args.statements.now c.loop-statement.statement-index (counts_of c.loop-statement.self) _
      c.loop-statement.invariant.0 c.statement-item.result
      (counts_of c.statement.new.self) c.loop-statement-test.true c.statement-item.is c.in_ok-statement.ensures.bodies,
  count_goes_on (λ (statements : List Statement). count_of_statements (statement_trees statements))
      (λ (statement : Statement). count_of_statement (statement_tree statement)) (λ first others. refl)
      c.args.statements.now c.loop-statement.statement-index (length c.loop-statement.lines.items) _
      c.loop-statement.invariant.1 c.statement-item.result
      (length c.statement.new.lines.items) c.loop-statement-test.true c.statement-item.is c.in_ok-statement.ensures.lines,
)

pub statements-returns-clause-bodies : goal.statements-returns-clause-bodies
statements-returns-clause-bodies t c =
    bodies_ended (λ (statements : List Statement). bodies_in_statements (statement_trees statements))
    (λ (statement : Statement). bodies_in_statement (statement_tree statement)) (λ first others. refl)
    c.args.statements.now c.loop-statement.statement-index (counts_of c.loop-statement.self) _
    c.loop-statement.invariant.0 refl c.loop-statement-test.false

pub statements-returns-clause-lines : goal.statements-returns-clause-lines
statements-returns-clause-lines t c =
    count_ended (λ (statements : List Statement). count_of_statements (statement_trees statements))
    (λ (statement : Statement). count_of_statement (statement_tree statement)) (λ first others. refl)
    c.args.statements.now c.loop-statement.statement-index (length c.loop-statement.lines.items) _
    c.loop-statement.invariant.1 refl c.loop-statement-test.false

pub declarations-loop-declaration-preserved : goal.declarations-loop-declaration-preserved
declarations-loop-declaration-preserved t c =
    bodies_go_on (λ (declarations : List Declaration). bodies_in (declaration_trees declarations))
    (λ (declaration : Declaration). bodies_in_declaration (declaration_tree declaration)) (λ first others. refl)
    c.args.declarations.now c.loop-declaration.declaration-index (counts_of c.loop-declaration.self) _
    c.loop-declaration.invariant c.declaration-item.result
    (counts_of c.declaration.new.self) c.loop-declaration-test.true c.declaration-item.is
    c.in_ok-declaration.ensures.bodies

pub declarations-returns : goal.declarations-returns
declarations-returns t c =
    record {
      bodies = bodies_ended (λ (declarations : List Declaration). bodies_in (declaration_trees declarations))
          (λ (declaration : Declaration). bodies_in_declaration (declaration_tree declaration)) (λ first others. refl)
          c.args.declarations.now c.loop-declaration.declaration-index (counts_of c.loop-declaration.self) _
          c.loop-declaration.invariant refl c.loop-declaration-test.false;
    }

pub declaration-returns-in-Procedure : goal.declaration-returns-in-Procedure
declaration-returns-in-Procedure t c = grind (arith, procedure_is)

pub procedure-returns : goal.procedure-returns
procedure-returns t c = record {
  bodies = procedure_counted (counts_of c.args.self.now) (counts_of c.begin.new.self)
      (counts_of c.block.new.self) (counts_of c.complete.new.self) c.in_ok-number.number
      (length c.block.new.lines.items) (block_statements (out-Procedure c.args.procedure.now).body) _
      (c.in_ok-number.ensures.number ∙ sym (length-map c.args.self.now.procedures.items lines_of_body))
      c.in_ok-number.ensures.begun c.in_ok-block.ensures.bodies
      (omega (arith, c.in_ok-block.ensures.lines, ap length c.new-lines.ensures.items)) c.complete.ensures;
}

pub kind-returns-in-Do-clause-bodies : goal.kind-returns-in-Do-clause-bodies
kind-returns-in-Do-clause-bodies t c = grind (arith, do_bodies)

pub kind-returns-in-Do-clause-lines : goal.kind-returns-in-Do-clause-lines
kind-returns-in-Do-clause-lines t c = grind (arith, do_parts)

pub kind-returns-in-Loop-clause-bodies : goal.kind-returns-in-Loop-clause-bodies
kind-returns-in-Loop-clause-bodies t c = grind (arith, loop_bodies)

pub kind-returns-in-Loop-clause-lines : goal.kind-returns-in-Loop-clause-lines
kind-returns-in-Loop-clause-lines t c = grind (arith, loop_parts)

pub kind-returns-in-Case-clause-bodies : goal.kind-returns-in-Case-clause-bodies
kind-returns-in-Case-clause-bodies t c = grind (arith, case_bodies)

pub kind-returns-in-Case-clause-lines : goal.kind-returns-in-Case-clause-lines
kind-returns-in-Case-clause-lines t c = grind (arith, case_parts)
