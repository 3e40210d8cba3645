-- The head of a loop: what it gives, and that it keeps what each of its values keeps.
use Rattle.typing.proofs.Prelude.{Option, Some, None, Ok, Err, refl, IfOk, ExpressionTree, IterationTree, LoopHeadTree, TypedHead, Checked, bound, Progress, value, counter_bound, step, iteration, loop_head, List, Identifier, Fault, TypedExpression, TypedIteration, ◌>>=◌, names_in_expression, names_in_iteration, names_in_head, members_in_expression, members_in_iteration, members_in_head}
use Rattle.trees.specs.Trees.{WhileHead, CountHead}
use Rattle.typed_trees.specs.TypedTrees.{WhileHead as TypedWhile, CountHead as TypedCount}
use Rattle.typing.proofs.Kept.{Gives, gives_ok, gives_fault, in_turn, gives_after, then_more}

-- what it gives, by what its condition or its values give
pub head_gives : (Says : LoopHeadTree → TypedHead × Progress → Type 0) (progress : Progress)
    → ((tree : ExpressionTree)
    → Gives (λ found. Says (WhileHead tree) (TypedWhile found.0, found.1)) (value tree progress))
    → ((tree : IterationTree)
    → Gives (λ found. Says (CountHead tree) (TypedCount found.0, found.1)) (iteration tree progress))
    → (head : LoopHeadTree) → Gives (Says head) (loop_head head progress)
head_gives Says progress of_condition of_values (WhileHead condition) =
    in_turn (of_condition condition) λ tested is. gives_ok is
head_gives Says progress of_condition of_values (CountHead counting) =
    in_turn (of_values counting) λ counted is. gives_ok is

-- what is said of it by the names and the members in it
pub head_says : (Says : List Identifier → List Fault → Checked (TypedHead × Progress) → Type 0)
    (progress : Progress)
    → ((tree : ExpressionTree) (make : TypedExpression → TypedHead)
    → Says (names_in_expression tree) (members_in_expression tree)
    (value tree progress >>= λ found. Ok (make found.0, found.1)))
    → ((tree : IterationTree) (make : TypedIteration → TypedHead)
    → Says (names_in_iteration tree) (members_in_iteration tree)
    (iteration tree progress >>= λ found. Ok (make found.0, found.1)))
    → (head : LoopHeadTree) → Says (names_in_head head) (members_in_head head) (loop_head head progress)
head_says Says progress of_condition of_values (WhileHead condition) = of_condition condition TypedWhile
head_says Says progress of_condition of_values (CountHead counting) = of_values counting TypedCount

-- a predicate of places
module _ (Is : Progress → Type 0)
    (value_is : (tree : ExpressionTree) (progress : Progress)
    → Is progress → Gives (λ found. Is found.1) (value tree progress)) where
  step_is : (tree : Option ExpressionTree) (progress : Progress)
      → Is progress → Gives (λ found. Is found.1) (step tree progress)
  step_is None progress is = gives_ok is
  step_is (Some tree) progress is = in_turn (value_is tree progress is) λ found after. gives_ok after

  iteration_is : (tree : IterationTree) (progress : Progress)
      → Is progress → Gives (λ found. Is found.1) (iteration tree progress)
  iteration_is tree progress is =
      gives_after (bound progress.known tree.variable) λ binding.
      gives_after (counter_bound progress.known binding tree.variable) λ counter.
      in_turn (value_is tree.first progress is) λ first after_first.
      in_turn (value_is tree.last first.1 after_first) λ last after_last.
      in_turn (step_is tree.step last.1 after_last) λ by after.
      gives_ok after

  head_is : (head : LoopHeadTree) (progress : Progress)
      → Is progress → Gives (λ found. Is found.1) (loop_head head progress)
  head_is head progress is =
      head_gives (λ head found. Is found.1) progress (λ tree. value_is tree progress is)
      (λ tree. iteration_is tree progress is) head

-- the two ways to say what holds of all that a check gives
given_if : {A : Type 0} {P : A → Type 0} (result : Checked A) → IfOk result P → Gives P result
given_if (Ok a) is = gives_ok is
given_if (Err fault) is = gives_fault

if_given : {A : Type 0} {P : A → Type 0} (result : Checked A) → Gives P result → IfOk result P
if_given (Ok a) gives = gives.holds a refl
if_given (Err fault) gives = tt

pub head_keeps : (Is : Progress → Type 0)
    → ((tree : ExpressionTree) (progress : Progress)
    → Is progress → IfOk (value tree progress) (λ typed. Is typed.1))
    → (head : LoopHeadTree) (progress : Progress)
    → Is progress → IfOk (loop_head head progress) (λ typed. Is typed.1)
head_keeps Is value_is head progress is =
    if_given (loop_head head progress)
    (head_is Is (λ tree before so_far. given_if (value tree before) (value_is tree before so_far))
    head progress is)

-- a relation of places that follows on
pub head_follows : (Follows : Progress → Progress → Type 0)
    → ((progress : Progress) → Follows progress progress)
    → ((before between after : Progress) → Follows before between → Follows between after
    → Follows before after)
    → ((tree : ExpressionTree) (progress : Progress)
    → Gives (λ found. Follows progress found.1) (value tree progress))
    → (head : LoopHeadTree) (progress : Progress)
    → Gives (λ found. Follows progress found.1) (loop_head head progress)
head_follows Follows nowhere then value_follows head progress =
    head_is (Follows progress)
    (λ tree between so_far. then_more (value_follows tree between) λ found more.
    then progress between found.1 so_far more)
    head progress (nowhere progress)
