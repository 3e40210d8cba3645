-- Statements without statements in them are given back.
use Rattle.typing.proofs.Prelude.{◌≡◌, ℕ, List, [], ◌∷◌, map, Option, None, Some, option_map, is_none, ◌==◌, codes, refl, sym, ap, ap₂, ◌∙◌, ScalarType, Address, Identifier, Place, ExpressionTree, ReferenceTree, ArgumentTrees, IterationTree, LoopHeadTree, StatementKindTree, Binding, Declared, BuiltInName, Move, Procedure, Label, jump_of, ArgumentCount, CallOfTyped, TypedExpression, TypedArguments, NoTyped, MoreTyped, TypedHead, TypedIteration, TypedStatement, LabelStatement, TypedModule, Constants, type_of, Checked, require, Destination, target_of, Known, place_of, count_of_given, Owner, TheModule, OfProcedure, Progress, with_constants, value, destinations, assignment, moved, call_bound, call, return_with, return_from, goto_bound, goto, Counter, counter_bound, step, iteration, loop_head, nowhere, named, nameless, plain_expression, plain_reference, plain_arguments, plain_head, plain_iteration, plain_kind, object_name, untyped_expression, untyped_target, untyped_arguments, untyped_head, untyped_iteration, untyped_kind}
use Rattle.trees.specs.Trees as trees
use Rattle.typing.proofs.Kept.{Gives, gives_ok, gives_fault, in_turn, gives_after, then_more, Kept, kept_at, kept_more, kept_both}
use Rattle.typing.proofs.Heads.{head_gives}
use Rattle.typing.proofs.NamesBack.{Binds, is_bound, is_procedure, bound_spelled}
use Rattle.typing.proofs.ReferencesBack.{as_type_back}
use Rattle.typing.proofs.ExpressionsBack.{expression_kept, arguments_kept, target_kept, given_arguments, call_kept, counter_named}
use Rattle.typing.proofs.Walked.{Holds, agrees, Walked, walked_kept, walked_nothing, walked_then, walked_as}

-- a statement that is no label
abbrev pub IsNoLabel : TypedStatement → Type 0
IsNoLabel (LabelStatement label) = ⊥
IsNoLabel statement = Unit {0}

-- what a statement does is given back
abbrev pub KindBack : StatementKindTree → TypedStatement → TypedModule → Type 0
KindBack tree statement tables = IsNoLabel statement × (untyped_kind tables statement ≡ plain_kind tree)

-- a statement's kind is typed from one place on
abbrev pub KindWalks : StatementKindTree → Progress → List trees.StatementTrees
    → Checked (TypedStatement × Progress) → Type 0
KindWalks tree before texts checked =
    Gives (λ (done : TypedStatement × Progress). Walked before done.1 texts (KindBack tree done.0)) checked

pub value-walks : (tree : ExpressionTree) (progress : Progress) → Holds progress
    → Gives
    (λ (done : TypedExpression × Progress).
    Walked progress done.1 [] (λ tables. untyped_expression tables done.0 ≡ plain_expression tree))
    (value tree progress)
value-walks tree progress holds =
    in_turn (expression_kept progress.known tree progress.constants) λ found kept.
    gives_ok (walked_kept progress holds kept)

-- the targets of an assignment
destinations-kept : (known : Known) (targets : List ReferenceTree) (constants : Constants)
    → Gives
    (λ (done : List Destination × Constants).
    Kept known constants done.1
    (λ tables. (from : ScalarType)
    → map (untyped_target tables) (map (λ (place : Destination). target_of place from) done.0)
    ≡ map plain_reference targets))
    (destinations known targets constants)
destinations-kept known [] constants = gives_ok (kept_at (λ tables agree from. refl))
destinations-kept known (first ∷ others) constants =
    in_turn (target_kept known first constants) λ found one.
    in_turn (destinations-kept known others found.1) λ rest more.
    gives_ok
    (kept_both one more
    (λ tables agree head tail from.
    ap₂ (λ (place : ReferenceTree) (places : List ReferenceTree). place ∷ places) (head from) (tail from)))

pub assignment-walks : (targets : List ReferenceTree) (source : ExpressionTree) (progress : Progress)
    → Holds progress
    → KindWalks (trees.AssignmentStatement targets source) progress [] (assignment targets source progress)
assignment-walks targets source progress holds =
    in_turn (destinations-kept progress.known targets progress.constants) λ places kept.
    in_turn (value-walks source (with_constants places.1 progress) holds) λ found w.
    gives_ok
    (walked_as (walked_then (walked_kept progress holds kept) w)
    (λ tables back. (tt, ap₂ trees.AssignmentStatement (back.0 (type_of found.0)) back.1)))

-- CALL
abbrev call_statement : List ℕ → ArgumentTrees → StatementKindTree
call_statement name values = trees.CallStatement nowhere (named name) values

moved-back : (place : Place) (values : TypedArguments)
    → Gives
    (λ (moving : TypedStatement).
    (tables : TypedModule) → IsNoLabel moving
    × (untyped_kind tables moving
    ≡ call_statement (codes "MOVE") (untyped_arguments tables values)))
    (moved place values)
moved-back place (MoreTyped count (MoreTyped source (MoreTyped destination NoTyped))) =
    gives_ok (λ tables. (
      tt,
      ap (call_statement (codes "MOVE"))
          (ap₂ trees.MoreArguments (as_type_back tables Address count)
          (ap₂ trees.MoreArguments (as_type_back tables Address source)
          (ap (λ k. trees.MoreArguments k trees.NoArguments) (as_type_back tables Address destination)))),
    ))
moved-back place values = gives_fault

call_bound-kept : (known : Known) (binding : Binding) (name : Identifier) (values : ArgumentTrees)
    (constants : Constants)
    → Binds known name binding
    → Gives
    (λ (done : TypedStatement × Constants).
    Kept known constants done.1
    (λ tables. IsNoLabel done.0
    × (untyped_kind tables done.0 ≡ call_statement name.name (plain_arguments values))))
    (call_bound known binding name (given_arguments known values) constants)
call_bound-kept known (Declared (Procedure number)) name values constants is =
    in_turn (is_procedure known name number is) λ procedure its_name.
    gives_after (require (is_none procedure.result) CallOfTyped (place_of name)) λ untyped.
    in_turn (call_kept known procedure (place_of name) values constants) λ found kept.
    gives_ok (kept_more kept (λ tables agree same. (tt, ap₂ call_statement (its_name tables agree) same)))
call_bound-kept known (BuiltInName Move) name values constants is =
    gives_after (require (count_of_given (given_arguments known values) == 3) ArgumentCount (place_of name))
    λ three.
    in_turn (arguments_kept known values constants) λ found kept.
    in_turn (moved-back (place_of name) found.0) λ moving back.
    gives_ok
    (kept_more kept
    (λ tables agree same. (
      (back tables).0,
      (back tables).1 ∙ ap₂ call_statement (sym (bound_spelled known.here name.name Move is)) same,
    )))
call_bound-kept known binding name values constants is = gives_fault

pub call-walks : (place : Place) (name : Identifier) (values : ArgumentTrees) (progress : Progress)
    → Holds progress
    → KindWalks (trees.CallStatement place name values) progress []
    (call name (given_arguments progress.known values) progress)
call-walks place name values progress holds =
    in_turn (is_bound progress.known name) λ binding is.
    in_turn (call_bound-kept progress.known binding name values progress.constants is) λ done kept.
    gives_ok (walked_kept progress holds kept)

-- RETURN
return_with-walks : (place : Place) (result : Option ScalarType) (tree : Option ExpressionTree)
    (progress : Progress)
    → Holds progress
    → KindWalks (trees.ReturnStatement place tree) progress [] (return_with place result tree progress)
return_with-walks place None None progress holds =
    gives_ok (walked_nothing progress holds (λ tables reaches. (tt, refl)))
return_with-walks place (Some scalar) (Some tree) progress holds =
    in_turn (value-walks tree progress holds) λ found w.
    gives_ok
    (walked_as w
    (λ tables back.
    (tt, ap (λ k. trees.ReturnStatement nowhere (Some k)) (as_type_back tables scalar found.0 ∙ back))))
return_with-walks place None (Some tree) progress holds = gives_fault
return_with-walks place (Some scalar) None progress holds = gives_fault

pub return_from-walks : (place : Place) (owner : Owner) (tree : Option ExpressionTree)
    (progress : Progress)
    → Holds progress
    → KindWalks (trees.ReturnStatement place tree) progress [] (return_from place owner tree progress)
return_from-walks place TheModule tree progress holds = gives_fault
return_from-walks place (OfProcedure number heading) tree progress holds =
    return_with-walks place heading.result tree progress holds

-- GOTO
goto_bound-back : (place : Place) (binding : Binding)
    → Gives
    (λ (done : TypedStatement).
    (tables : TypedModule) → IsNoLabel done
    × (untyped_kind tables done ≡ trees.GotoStatement nowhere nameless))
    (goto_bound place binding)
goto_bound-back place (Declared (Label label)) = gives_ok (λ tables. (tt, refl))
goto_bound-back place binding = gives_fault

pub goto-walks : (place : Place) (label : Identifier) (progress : Progress) → Holds progress
    → KindWalks (trees.GotoStatement place label) progress [] (goto label progress)
goto-walks place label progress holds =
    in_turn (goto_bound-back (place_of label) (jump_of progress.known.here label.name)) λ done back.
    gives_ok (walked_nothing progress holds (λ tables reaches. back tables))

-- the head of an iterative DO
step-walks : (tree : Option ExpressionTree) (progress : Progress) → Holds progress
    → Gives
    (λ (done : Option TypedExpression × Progress).
    Walked progress done.1 []
    (λ tables. option_map (untyped_expression tables) done.0 ≡ option_map plain_expression tree))
    (step tree progress)
step-walks None progress holds = gives_ok (walked_nothing progress holds (λ tables reaches. refl))
step-walks (Some tree) progress holds =
    in_turn (value-walks tree progress holds) λ found w.
    gives_ok (walked_as w (λ tables back. ap Some back))

counter-walks : (binding : Binding) (name : Identifier) (progress : Progress) → Holds progress
    → Binds progress.known name binding
    → Gives
    (λ (counter : Counter). Walked progress progress []
    (λ tables. object_name tables counter.object ≡ name.name))
    (counter_bound progress.known binding name)
counter-walks binding name progress holds is =
    then_more (counter_named progress.known binding name is) λ counter same.
    walked_nothing progress holds (λ tables reaches. same tables (agrees tables progress holds reaches))

iteration-walks : (tree : IterationTree) (progress : Progress) → Holds progress
    → Gives
    (λ (done : TypedIteration × Progress).
    Walked progress done.1 [] (λ tables. untyped_iteration tables done.0 ≡ plain_iteration tree))
    (iteration tree progress)
iteration-walks tree progress holds =
    in_turn (is_bound progress.known tree.variable) λ binding is.
    in_turn (counter-walks binding tree.variable progress holds is) λ counter w.
    in_turn (value-walks tree.first progress holds) λ first w₁.
    in_turn (value-walks tree.last first.1 w₁.holds) λ last w₂.
    in_turn (step-walks tree.step last.1 w₂.holds) λ by w₃.
    gives_ok (walked_as (walked_then w (walked_then w₁ (walked_then w₂ w₃))) (λ tables back. cc))

-- the head of a loop
pub head-walks : (head : LoopHeadTree) (progress : Progress) → Holds progress
    → Gives
    (λ (done : TypedHead × Progress).
    Walked progress done.1 [] (λ tables. untyped_head tables done.0 ≡ plain_head head))
    (loop_head head progress)
head-walks head progress holds =
    head_gives
    (λ head (done : TypedHead × Progress).
    Walked progress done.1 [] (λ tables. untyped_head tables done.0 ≡ plain_head head))
    progress
    (λ tree. then_more (value-walks tree progress holds) λ tested w. walked_as w (λ tables back. cc))
    (λ tree. then_more (iteration-walks tree progress holds) λ counted w. walked_as w (λ tables back. cc))
    head
