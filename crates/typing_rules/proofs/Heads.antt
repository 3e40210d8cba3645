-- The head of a loop: what the typing gives of it has a typing by the rules, and the fault that it gives is
-- one of the rules. A typing or a fault of it by the rules is the one that the typing gives.
use Rattle.typing_rules.proofs.Prelude.{◌≡◌, ℕ, Bool, true, false, not, Option, Some, None, Ok, refl, sym, subst, slice_get, ScalarType, Identifier, Place, ExpressionTree, Binding, Declared, BuiltInName, UnknownLabel, Object, Procedure, Label, Definition, binding_of, Constants, NoVariable, UnknownName, Fault, Checked, ◌>>=◌, Known, scalar_of, ap, TypedExpression, Err, Cause, require, at_name}
use Rattle.std.specs.Prelude.{◌&&◌, is_none}
use Rattle.trees.specs.Trees.{IterationTree, LoopHeadTree, WhileHead, CountHead}
use Rattle.typing.specs.Blocks.{Progress}
use Rattle.typing.specs.Statements.{with_constants}
use Rattle.typing.specs.internal.StatementChecks.{counter_bound, step, iteration, loop_head}
use Rattle.typing_rules.specs.Statements.{IsCounter, StepTyping, no_step, a_step, IterationTyping, iterates, HeadTyping, do_while, iterative_do}
use Rattle.typing_rules.specs.StatementFaults.{CounterFault, unknown_counter, counter_of_no_variable, counter_with_data, counter_in_array, based_counter, counter_with_members, StepFault, in_step, IterationFault, in_counter, in_first_value, in_last_value, in_step_value, HeadFault, in_while_condition, in_iteration}
use Rattle.typing_rules.proofs.Judged.{Judged, judged_ok, then_judged, then_found, then_ok, passed, got, fault_of, then_fault, failed, got_none}
use Rattle.typed_trees.specs.TypedTrees.{TypedHead, TypedIteration}
use Rattle.typing_rules.proofs.ExpressionsRefused.{is_nothing, NoObject, no_object, value_fault}
use Rattle.typing_rules.proofs.ExpressionsTyped.{value_is}
use Rattle.typing_rules.proofs.StatementsJudged.{Reaches, then_reached, value_judged, counter_judged}

-- what the typing gives is of the rules
step_judged : (tree : Option ExpressionTree) (progress : Progress)
    → Judged (Reaches (StepTyping progress.known progress.constants tree) progress)
    (StepFault progress.known progress.constants tree)
    (step tree progress)
step_judged None progress =
    judged_ok (record { after = progress.constants; typing = no_step; reached = refl })
step_judged (Some tree) progress =
    then_reached _ (value_judged tree progress) (λ fault is. in_step is) (λ typed after is.
    judged_ok (record { after = after; typing = a_step is; reached = refl }))

iteration_judged : (head : IterationTree) (progress : Progress)
    → Judged (Reaches (IterationTyping progress.known progress.constants head) progress)
    (IterationFault progress.known progress.constants head)
    (iteration head progress)
iteration_judged head progress =
    then_found (binding_of progress.known.here head.variable.name) UnknownName head.variable.place
    (λ none. in_counter (unknown_counter none)) (λ binding named.
    then_judged (counter_judged progress.known binding head.variable named)
    (λ fault is. in_counter is) (λ counter is.
    then_reached _ (value_judged head.first progress) (λ fault its. in_first_value is its) (λ first one its.
    then_reached _ (value_judged head.last (with_constants one progress))
    (λ fault more. in_last_value is its more) (λ last two more.
    then_reached _ (step_judged head.step (with_constants two progress))
    (λ fault by. in_step_value is its more by) (λ step after by.
    judged_ok (record { after = after; typing = iterates is its more by; reached = refl }))))))

pub head_judged : (head : LoopHeadTree) (progress : Progress)
    → Judged (Reaches (HeadTyping progress.known progress.constants head) progress)
    (HeadFault progress.known progress.constants head)
    (loop_head head progress)
head_judged (WhileHead condition) progress =
    then_reached _ (value_judged condition progress) (λ fault is. in_while_condition is) (λ tested after is.
    judged_ok (record { after = after; typing = do_while is; reached = refl }))
head_judged (CountHead head) progress =
    then_reached _ (iteration_judged head progress) (λ fault is. in_iteration is) (λ iteration after is.
    judged_ok (record { after = after; typing = iterative_do is; reached = refl }))

-- a typing by the rules is what the typing gives
both_are : {one other : Bool} → one ≡ true → other ≡ true → (one && other) ≡ true
both_are {other = other} first second = subst (λ it. (it && other) ≡ true) (sym first) second

counter_is : {known : Known} {name : Identifier} {number : ℕ} {scalar : ScalarType}
    → IsCounter known name number scalar
    → counter_bound known (Declared (Object number)) name ≡ Ok (record { object = number; scalar = scalar })
counter_is is =
    then_ok _ (got _ _ is.variable.listed) (then_ok _ (passed _ _ (ap not is.without_data))
    (then_ok _ (passed _ _ (both_are (ap is_none is.no_array) is.not_based))
    (then_ok _ (got _ _ (ap scalar_of is.is_scalar)) refl)))

step_is : {tree : Option ExpressionTree} {typed : Option TypedExpression} {after : Constants}
    (progress : Progress)
    → StepTyping progress.known progress.constants tree typed after
    → step tree progress ≡ Ok (typed, with_constants after progress)
step_is progress no_step = refl
step_is progress (a_step is) = then_ok _ (value_is progress is) refl

iteration_is : {head : IterationTree} {typed : TypedIteration} {after : Constants} (progress : Progress)
    → IterationTyping progress.known progress.constants head typed after
    → iteration head progress ≡ Ok (typed, with_constants after progress)
iteration_is progress (iterates {one = one} {two = two} is first last by) =
    then_ok _ (got _ _ is.variable.named) (then_ok _ (counter_is is) (then_ok _ (value_is progress first)
    (then_ok _ (value_is (with_constants one progress) last)
    (then_ok _ (step_is (with_constants two progress) by) refl))))

pub head_is : {head : LoopHeadTree} {typed : TypedHead} {after : Constants} (progress : Progress)
    → HeadTyping progress.known progress.constants head typed after
    → loop_head head progress ≡ Ok (typed, with_constants after progress)
head_is progress (do_while is) = then_ok _ (value_is progress is) refl
head_is progress (iterative_do is) = then_ok _ (iteration_is progress is) refl

-- a fault by the rules is what the typing gives
no_counter_is : (known : Known) (name : Identifier) (binding : Binding)
    → NoObject known binding
    → counter_bound known binding name ≡ Err (at_name NoVariable name)
no_counter_is known name (Declared (Object number)) none =
    then_fault _
    (got_none _ _ (is_nothing (slice_get known.objects number) (λ object e. none number object refl e)))
no_counter_is known name (Declared (Procedure number)) none = refl
no_counter_is known name (Declared (Label number)) none = refl
no_counter_is known name (Declared Definition) none = refl
no_counter_is known name (BuiltInName built_in) none = refl
no_counter_is known name UnknownLabel none = refl

first_is_false : {one : Bool} (other : Bool) → one ≡ false → (one && other) ≡ false
first_is_false other is = subst (λ it. (it && other) ≡ false) (sym is) refl

last_is_false : (one : Bool) {other : Bool} → other ≡ false → (one && other) ≡ false
last_is_false true is = is
last_is_false false is = refl

-- a structure that is neither an array nor BASED, and one that is
no_scalar_is : {A : Type 0} {cause : Cause} {place : Place} (test : Bool) (next : Checked A)
    → next ≡ Err (fault_of cause place)
    → (require test cause place >>= λ _. next) ≡ Err (fault_of cause place)
no_scalar_is true next e = e
no_scalar_is false next e = refl

counter_fault : {fault : Fault} (head : IterationTree) (progress : Progress)
    → CounterFault progress.known head.variable fault
    → iteration head progress ≡ Err fault
counter_fault head progress (unknown_counter none) = then_fault _ (got_none _ _ none)
counter_fault head progress (counter_of_no_variable is) =
    then_ok _ (got _ _ is.named)
    (then_fault _ (no_counter_is progress.known head.variable is.binding (no_object is)))
counter_fault head progress (counter_with_data is has) =
    then_ok _ (got _ _ is.named)
    (then_fault _ (then_ok _ (got _ _ is.listed) (then_fault _ (failed _ _ (ap not has)))))
counter_fault head progress (counter_in_array is plain array) =
    then_ok _ (got _ _ is.named)
    (then_fault _ (then_ok _ (got _ _ is.listed) (then_ok _ (passed _ _ (ap not plain))
    (then_fault _ (failed _ _ (first_is_false _ (ap is_none array)))))))
counter_fault head progress (based_counter is plain based) =
    then_ok _ (got _ _ is.named)
    (then_fault _ (then_ok _ (got _ _ is.listed) (then_ok _ (passed _ _ (ap not plain))
    (then_fault _ (failed _ _ (last_is_false _ based))))))
counter_fault head progress (counter_with_members is plain members) =
    then_ok _ (got _ _ is.named)
    (then_fault _ (then_ok _ (got _ _ is.listed) (then_ok _ (passed _ _ (ap not plain))
    (no_scalar_is _ _ (then_fault _ (got_none _ _ (ap scalar_of members)))))))

step_fault : {tree : Option ExpressionTree} {fault : Fault} (progress : Progress)
    → StepFault progress.known progress.constants tree fault
    → step tree progress ≡ Err fault
step_fault progress (in_step is) = then_fault _ (value_fault progress is)

iteration_fault : {head : IterationTree} {fault : Fault} (progress : Progress)
    → IterationFault progress.known progress.constants head fault
    → iteration head progress ≡ Err fault
iteration_fault progress (in_counter {head = head} is) = counter_fault head progress is
iteration_fault progress (in_first_value is fault) =
    then_ok _ (got _ _ is.variable.named)
    (then_ok _ (counter_is is) (then_fault _ (value_fault progress fault)))
iteration_fault progress (in_last_value {one = one} is first fault) =
    then_ok _ (got _ _ is.variable.named) (then_ok _ (counter_is is) (then_ok _ (value_is progress first)
    (then_fault _ (value_fault (with_constants one progress) fault))))
iteration_fault progress (in_step_value {one = one} {two = two} is first last fault) =
    then_ok _ (got _ _ is.variable.named) (then_ok _ (counter_is is) (then_ok _ (value_is progress first)
    (then_ok _ (value_is (with_constants one progress) last)
    (then_fault _ (step_fault (with_constants two progress) fault)))))

pub head_fault : {head : LoopHeadTree} {fault : Fault} (progress : Progress)
    → HeadFault progress.known progress.constants head fault
    → loop_head head progress ≡ Err fault
head_fault progress (in_while_condition is) = then_fault _ (value_fault progress is)
head_fault progress (in_iteration is) = then_fault _ (iteration_fault progress is)
