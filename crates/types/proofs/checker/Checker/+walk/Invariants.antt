use Rattle.types.proofs.Prelude.{◌≡◌, ◌++◌, length, drop, declaration_trees, statement_trees, places_from, cases, declarations, statements, statements_after, block_view, progress_view, in_front}
use Rattle.types.proofs.checker.Checker.+walk.Given as goal

abbrev pub invariant-cases-loop-tree : goal.invariant-cases-loop-tree
invariant-cases-loop-tree l =
    in_front (statements_after l.made.items)
    (cases (block_view l.block) (statement_trees (drop l.tree-index l.trees)) (progress_view l.self))
    ≡ cases (block_view l.block) (statement_trees l.trees) (progress_view l.fn.self)

abbrev pub invariant-statements-loop-tree : goal.invariant-statements-loop-tree
invariant-statements-loop-tree l = record {
  typed : in_front (statements_after l.listed.statements.items)
      (statements (block_view l.block) (statement_trees (drop l.tree-index l.trees)) l.listed.label
      (progress_view l.self))
      ≡ statements (block_view l.block) (statement_trees l.trees) l.first_label (progress_view l.fn.self);
  placed : l.listed.places.items ++ places_from (length l.listed.statements.items)
      (statement_trees (drop l.tree-index l.trees)) ≡ places_from 0 (statement_trees l.trees);
}

abbrev pub invariant-declarations-loop-tree : goal.invariant-declarations-loop-tree
invariant-declarations-loop-tree l =
    declarations (block_view l.block) (declaration_trees (drop l.tree-index l.trees)) (progress_view l.self)
    ≡ declarations (block_view l.block) (declaration_trees l.trees) (progress_view l.fn.self)
