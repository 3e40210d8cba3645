-- The parts of a module that have no statements in them: expressions, simple statements, heads of loops.
use Rattle.typing.proofs.Prelude.{◌≡◌, List, Option, None, Some, sym, subst, All, IfOk, IfSome, is_none, ◌==◌, option_map_or, ScalarType, Identifier, Place, ExpressionTree, ReferenceTree, LoopHeadTree, Entity, Procedure, Label, Binding, Declared, BuiltInName, UnknownLabel, Move, jump_of, Here, Body, Names, known_in, TypedArguments, NoTyped, MoreTyped, TypedStatement, TypedProcedure, Constants, LabelsOf, JumpsStay, ListsStand, IsNoLabel, BodyIsSound, ArgumentCount, CallOfTyped, require, Known, Given, place_of, count_of_given, bound, procedure_of, call_arguments, expression, Owner, TheModule, OfProcedure, Progress, with_constants, value, destinations, assignment, moved, call_bound, call, return_with, return_from, goto_bound, goto, loop_head}
use Rattle.typing.proofs.Steps.{then_checks, then_any}
use Rattle.typing.proofs.Heads.{head_keeps}
use Rattle.typing.proofs.Jumps.KnownLabels.{IsLabelAround, AreAround}

-- a place of a text, with the labels that are known there and the bodies around its own
pub record IsIn (lists : List Names) (outer : List Body) (here : Here) : Type 0 where
  pub lists_are : here.body.lists ≡ lists
  pub outer_are : here.outer_bodies ≡ outer

abbrev pub AreSound : List TypedProcedure → Type 0
AreSound procedures = All (λ (procedure : TypedProcedure). BodyIsSound procedure.body) procedures

-- what is known at such a place, where all procedures so far are sound
pub record IsAt (lists : List Names) (outer : List Body) (known : Known) : Type 0 where
  pub here : IsIn lists outer known.here
  pub procedures : AreSound known.procedures

-- a statement of these lists
pub record IsSound (around : List LabelsOf) (statement : TypedStatement) : Type 0 where
  pub jumps : JumpsStay around statement
  pub stands : ListsStand statement
  pub is_no_label : IsNoLabel statement

-- a statement that is typed, and the place after it
abbrev pub IsDone : List LabelsOf → List Names → List Body → TypedStatement × Progress → Type 0
IsDone around lists outer typed = IsSound around typed.0 × IsAt lists outer typed.1.known

moved_is : (around : List LabelsOf) (place : Place) (values : TypedArguments)
    → IfOk (moved place values) (IsSound around)
moved_is around place (MoreTyped count (MoreTyped source (MoreTyped destination NoTyped))) =
    record { jumps = tt; stands = tt; is_no_label = tt }
moved_is around place values = tt

call_bound_is : (around : List LabelsOf) (known : Known) (binding : Binding)
    (name : Identifier) (given : Given)
    (constants : Constants) → IfOk (call_bound known binding name given constants)
    (λ typed. IsSound around typed.0)
call_bound_is around known (Declared (Procedure number)) name given constants =
    then_any _ (procedure_of known name number) _ (λ procedure.
    then_any _ (require (is_none procedure.result) CallOfTyped (place_of name)) _ (λ is_untyped.
    then_any _ (call_arguments procedure (place_of name) given constants) _ (λ typed.
    record { jumps = tt; stands = tt; is_no_label = tt })))
call_bound_is around known (BuiltInName Move) name given constants =
    then_any _ (require (count_of_given given == 3) ArgumentCount (place_of name)) _ (λ are_three.
    then_any _ (given.typed constants) _ (λ typed.
    then_checks _ _ (moved (place_of name) typed.0) _
    (moved_is around (place_of name) typed.0) (λ moving is. is)))
call_bound_is around known binding name given constants = tt

goto_bound_is : (around : List LabelsOf) (place : Place) (found : Option Entity)
    → IfSome found (IsLabelAround around)
    → IfOk (goto_bound place (option_map_or Declared found UnknownLabel)) (IsSound around)
goto_bound_is around place None is = tt
goto_bound_is around place (Some (Label label)) is = record { jumps = is; stands = tt; is_no_label = tt }
goto_bound_is around place (Some entity) is = tt

module _ {lists : List Names} {outer : List Body} where
  -- These parts leave the place as it was.
  pub value_is : (tree : ExpressionTree) (progress : Progress)
      → IsAt lists outer progress.known → IfOk (value tree progress) (λ typed. IsAt lists outer typed.1.known)
  value_is tree progress at = then_any _ (expression progress.known tree progress.constants) _ (λ typed. at)

  pub assignment_is : (around : List LabelsOf) (targets : List ReferenceTree)
      (source : ExpressionTree) (progress : Progress)
      → IsAt lists outer progress.known → IfOk (assignment targets source progress)
      (IsDone around lists outer)
  assignment_is around targets source progress at =
      then_any _ (destinations progress.known targets progress.constants) _ (λ places.
      then_checks _ _ (value source (with_constants places.1 progress)) _
      (value_is source (with_constants places.1 progress) at)
      (λ typed after. (record { jumps = tt; stands = tt; is_no_label = tt }, after)))

  pub call_is : (around : List LabelsOf) (name : Identifier) (given : Given)
      (progress : Progress)
      → IsAt lists outer progress.known → IfOk (call name given progress) (IsDone around lists outer)
  call_is around name given progress at =
      then_any _ (bound progress.known name) _ (λ binding.
      then_checks _ _ (call_bound progress.known binding name given progress.constants) _
      (call_bound_is around progress.known binding name given progress.constants) (λ typed is. (is, at)))

  return_with_is : (around : List LabelsOf) (place : Place)
      (result : Option ScalarType) (tree : Option ExpressionTree) (progress : Progress)
      → IsAt lists outer progress.known → IfOk (return_with place result tree progress)
      (IsDone around lists outer)
  return_with_is around place None None progress at =
      (record { jumps = tt; stands = tt; is_no_label = tt }, at)
  return_with_is around place (Some scalar) (Some tree) progress at =
      then_checks _ _ (value tree progress) _ (value_is tree progress at)
      (λ typed after. (record { jumps = tt; stands = tt; is_no_label = tt }, after))
  return_with_is around place result tree progress at = tt

  pub return_is : (around : List LabelsOf) (place : Place) (owner : Owner)
      (tree : Option ExpressionTree) (progress : Progress)
      → IsAt lists outer progress.known → IfOk (return_from place owner tree progress)
      (IsDone around lists outer)
  return_is around place TheModule tree progress at = tt
  return_is around place (OfProcedure number heading) tree progress at =
      return_with_is around place heading.result tree progress at

  pub goto_is : {around : List LabelsOf} (label : Identifier) (progress : Progress)
      → AreAround around lists → IsAt lists outer progress.known
      → IfOk (goto label progress) (IsDone around lists outer)
  goto_is {around = around} label progress are at =
      then_checks _ _ (goto_bound (place_of label) (jump_of progress.known.here label.name)) _
      (goto_bound_is around (place_of label) (known_in progress.known.here.body.lists label.name)
      (subst (λ (lists : List Names). IfSome (known_in lists label.name) (IsLabelAround around))
      (sym at.here.lists_are)
      (are.known label.name)))
      (λ typed is. (is, at))

  pub head_is : (head : LoopHeadTree) (progress : Progress)
      → IsAt lists outer progress.known → IfOk (loop_head head progress)
      (λ typed. IsAt lists outer typed.1.known)
  head_is head progress at =
      head_keeps (λ (progress : Progress). IsAt lists outer progress.known) value_is head progress at
