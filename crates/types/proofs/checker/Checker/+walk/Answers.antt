use Rattle.types.proofs.Prelude.{arith, rules, if_tree_is, do_tree_is, loop_tree_is, case_tree_is, procedure_is, fault_in, leaves_fault, Leaves, subst, sym, ◌∙◌, length-map, ap, declaration_trees, procedure_view, listed_view, block_view, progress_view}
use Rattle.types.proofs.StatementLists.{cases_go_on, cases_fail, cases_ended, statements_go_on, places_go_on, statements_ended}
use Rattle.types.proofs.Bodies.{procedure_fails, procedure_whole}
use Rattle.types.specs.internal.Walking.{inside_view}
use Rattle.types.proofs.checker.Checker.+walk.Goals as goal

pub cases-loop-tree-preserved : goal.cases-loop-tree-preserved
cases-loop-tree-preserved t c =
    cases_go_on (block_view c.args.block) c.args.trees.now c.loop-tree.tree-index c.tree-item.result
    c.loop-tree.made.items c.push.new.self.items c.in_ok-typed.typed
    (progress_view c.loop-tree.self) (progress_view c.alone.new.self) _ c.loop-tree-test.true c.tree-item.is
    c.loop-tree.invariant c.in_ok-typed.ensures c.in_ok-push.ensures.items

pub cases-returns : goal.cases-returns
cases-returns t c =
    cases_ended (block_view c.args.block) c.args.trees.now c.loop-tree.tree-index c.loop-tree.made.items
    (progress_view c.loop-tree.self) _ c.loop-tree-test.false c.loop-tree.invariant

pub statements-loop-tree-preserved : goal.statements-loop-tree-preserved
statements-loop-tree-preserved t c = record {
  typed = statements_go_on (block_view c.args.block) c.args.trees.now c.loop-tree.tree-index
      c.tree-item.result c.loop-tree-test.true c.tree-item.is c.in_ok-typed.typed
      (listed_view c.loop-tree.listed) (listed_view c.push.new.self) c.as_slice.result.now
      c.as_slice.ensures.value c.in_ok-push.ensures.ok (progress_view c.loop-tree.self)
      (progress_view c.statement.new.self) _ c.loop-tree.invariant.typed c.in_ok-typed.ensures;
  placed =
      places_go_on (block_view c.args.block) c.args.trees.now c.loop-tree.tree-index c.tree-item.result
      c.loop-tree-test.true c.tree-item.is c.in_ok-typed.typed
      (listed_view c.loop-tree.listed) (listed_view c.push.new.self) c.as_slice.result.now
      c.as_slice.ensures.value c.in_ok-push.ensures.ok _ c.loop-tree.invariant.placed;
}

pub statements-returns-clause-statements : goal.statements-returns-clause-statements
statements-returns-clause-statements t c =
    statements_ended (block_view c.args.block) c.args.trees.now c.loop-tree.tree-index
    c.loop-tree.listed.statements.items c.loop-tree.listed.label
    (progress_view c.loop-tree.self) _ c.loop-tree-test.false c.loop-tree.invariant.typed

pub kind-returns-in-If : goal.kind-returns-in-If
kind-returns-in-If t c = grind (arith, if_tree_is)

pub kind-returns-in-Do : goal.kind-returns-in-Do
kind-returns-in-Do t c = grind (arith, do_tree_is)

pub kind-returns-in-Loop : goal.kind-returns-in-Loop
kind-returns-in-Loop t c = grind (arith, loop_tree_is)

pub kind-returns-in-Case : goal.kind-returns-in-Case
kind-returns-in-Case t c = grind (arith, case_tree_is)

pub declaration-returns-in-Procedure : goal.declaration-returns-in-Procedure
declaration-returns-in-Procedure t c = grind (arith, procedure_is)

pub cases-returns-in_err-typed : goal.cases-returns-in_err-typed
cases-returns-in_err-typed t c =
    let failed =
    cases_fail (block_view c.args.block) c.args.trees.now c.loop-tree.tree-index c.tree-item.result
    c.loop-tree.made.items (progress_view c.loop-tree.self) _
    (fault_in c.in_err-typed.field-0.0) c.loop-tree-test.true c.tree-item.is c.loop-tree.invariant
    c.in_err-typed.ensures in
    search rules

pub procedure-returns-in_err-inside : goal.procedure-returns-in_err-inside
procedure-returns-in_err-inside t c =
    leaves_fault c.from_residual-in_err-inside.result c.in_err-inside.field-0.0
    (progress_view c.procedure_inside.new.self) _ (search rules)
    (procedure_fails (block_view c.args.block) c.args.procedure.now _
    (ap declaration_trees c.as_slice-declared.ensures.value) (progress_view c.args.self.now)
    (progress_view c.open_procedure.new.self) c.in_ok-number.number
    (c.in_ok-number.ensures.number ∙ sym (length-map c.args.self.now.known.procedures.items procedure_view))
    c.in_ok-number.ensures.opened _ c.in_err-inside.ensures)

pub procedure-returns : goal.procedure-returns
procedure-returns t c =
    subst (Leaves c.close_procedure.result (progress_view c.close_procedure.new.self))
    (procedure_whole (block_view c.args.block) c.args.procedure.now _
    (ap declaration_trees c.as_slice-declared.ensures.value) (progress_view c.args.self.now)
    (progress_view c.open_procedure.new.self) c.in_ok-number.number
    (c.in_ok-number.ensures.number ∙ sym (length-map c.args.self.now.known.procedures.items procedure_view))
    c.in_ok-number.ensures.opened
    (inside_view c.in_ok-inside.inside) (progress_view c.procedure_inside.new.self) c.in_ok-inside.ensures)
    c.close_procedure.ensures
