-- The heads of loops: what is true of each, the nodes that lowering adds for them, and that these are kept.
use Rattle.treecode.proofs.Prelude.{◌≡◌, List, Option, refl, ap, ◌∙◌, height_of, height_of_head, height_of_iteration, TypedHead, Storage, ExpressionNumber, Home, Place, Iteration, LoopHead, known_number, known_value, IsHead, IsWhileHead, IsCountHead, ends_by, head_ends, Grows, Nodes, Walk, head_in, iteration_in, loop_ends, value_in}
use Rattle.typed_trees.specs.TypedTrees.{WhileHead, CountHead}
use Rattle.treecode.specs.declared.statement.LoopHead.TheVariants as heads
use Rattle.treecode.proofs.AddedExpressions.{AreSound, AsExpression}
use Rattle.treecode.proofs.AddedValues.{AsIteration, Noted, iteration_added, value_added}
use Rattle.treecode.proofs.Grown.{expression_in_stays, iteration_stays}
use Rattle.treecode.proofs.KeptValues.{known_kept}

-- what is true of each condition and of each iteration is true of each head
pub each_head : (P : LoopHead → Type 0)
    → ((condition : ExpressionNumber) → P (heads.While condition))
    → ((iteration : Iteration) → P (heads.Count iteration))
    → (head : LoopHead)
    → P head
each_head P conditions iterations (heads.While condition) = conditions condition
each_head P conditions iterations (heads.Count iteration) = iterations iteration

-- a head remains the same tree
pub head_stays : (before after : Nodes) (storage : Storage) → Grows before after
    → {head : LoopHead} {tree : TypedHead} → IsHead before storage head tree → IsHead after storage head tree
head_stays before after storage grows (IsWhileHead condition) =
    IsWhileHead (expression_in_stays before after storage grows condition)
head_stays before after storage grows (IsCountHead iteration) =
    IsCountHead (iteration_stays before after storage grows iteration)

module _ (storage : Storage) where
  abbrev pub AsHead : TypedHead → Nodes → LoopHead → Type 0
  AsHead tree nodes head = IsHead nodes storage head tree

  pub head_added : (walk : Walk) (tree : TypedHead) → AreSound walk.nodes
      → Noted (AsHead tree) walk (head_in storage walk tree) (height_of_head tree)
  head_added walk (WhileHead test) sound =
      let added : Noted (AsExpression storage test) walk (value_in storage walk test) (height_of test)
      = value_added storage walk test sound in
      record { steps = added.steps; is = IsWhileHead added.is }
  head_added walk (CountHead tree) sound =
      let added : Noted (AsIteration storage tree) walk (iteration_in storage walk tree)
      (height_of_iteration tree)
      = iteration_added storage walk tree sound in
      record { steps = added.steps; is = IsCountHead added.is }

  -- a loop can end if that of its tree can
  pub ends_as_tree : (nodes : Nodes) (homes : List Home) (head : LoopHead) (tree : TypedHead)
      → AreSound nodes → nodes.homes ≡ homes → AsHead tree nodes head
      → loop_ends nodes head ≡ head_ends homes storage tree
  ends_as_tree nodes homes head tree sound same (IsWhileHead {test = test} is) =
      ap (λ (known : Option Place). ends_by (known_number known)) (known_kept nodes storage sound.keeps is)
      ∙ ap (λ (starts : List Home). ends_by (known_number (known_value starts storage test))) same
  ends_as_tree nodes homes head tree sound same (IsCountHead is) = refl
