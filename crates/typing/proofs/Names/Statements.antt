-- What statements need beside the statements in them: their names are known, or one is to blame.
use Rattle.typing.proofs.Prelude.{◌≡◌, ◌==◌, List, [], ◌∷◌, ◌++◌, Option, None, Some, refl, sym, subst, append_assoc, is_none, flat_map, option_map_or, ScalarType, Identifier, Place, ExpressionTree, ReferenceTree, ArgumentTrees, IterationTree, LoopHeadTree, Binding, Declared, BuiltInName, Move, Procedure, Here, jump_of, uses_of, jumps_to, names_in_expression, names_in_reference, names_in_arguments, names_in_optional, names_in_iteration, names_in_head, TypedStatement, Constants, Known, place_of, count_of_given, Owner, TheModule, OfProcedure, Progress, value, with_constants, destinations, assignment, call_bound, call, return_with, return_from, goto, step, iteration, loop_head, ArgumentCount, CallOfTyped, CallOfNoProcedure, ReturnMismatch, ReturnOutside, Fault, Checked, members_in_expression, members_in_reference, members_in_arguments, members_in_iteration, members_in_head}
use Rattle.typing.proofs.Names.Meeting.{Meets, meets_ok, meets_fault, meets_then, after_other, before_other, other_required}
use Rattle.typing.proofs.Names.ChecksWithoutNames.{not_of_names, procedure-other, moved-other, goto-other, counter-other}
use Rattle.typing.proofs.Names.Bound.{AreKnown, IsUnknown, Walks, names_join, bound-finds}
use Rattle.typing.proofs.Names.Expressions.{expression-finds, arguments-find, target-finds, arguments_given, call-finds}
use Rattle.typing.proofs.Heads.{head_says}

-- names are used, and the text is as far as it was
abbrev pub Uses : {A : Type 0} → (before : Progress) → (names : List Identifier) (members : List Fault)
    → Checked (A × Progress) → Type 0
Uses {A} before names members result =
    Meets (AreKnown before.known.here names) (IsUnknown before.known.here names members)
    (λ (done : A × Progress). done.1.known.here ≡ before.known.here) result

-- these are the uses of a part of a text
pub uses_walk : {A : Type 0} (before : Progress) (names : List Identifier) (members : List Fault)
    (result : Checked (A × Progress))
    → Uses before names members result
    → Walks (uses_of names) before.known.here members (λ (done : A × Progress). done.1.known.here) result
unfolding uses_of
uses_walk before names members result uses = record { meets = uses }

pub value-uses : (tree : ExpressionTree) (progress : Progress)
    → Uses progress (names_in_expression tree) (members_in_expression tree) (value tree progress)
value-uses tree progress =
    before_other (expression-finds progress.known tree progress.constants) λ typed _.
    meets_ok tt refl

-- uses where the text is as far as it was
uses_at_last : {A : Type 0} (before progress : Progress) (names : List Identifier) (members : List Fault)
    {result : Checked (A × Progress)}
    → progress.known.here ≡ before.known.here
    → Uses progress names members result
    → Meets (AreKnown before.known.here names) (IsUnknown before.known.here names members)
    (λ (last : A × Progress). last.1.known.here ≡ before.known.here) result
uses_at_last {A} before progress names members {result} same uses =
    subst
    (λ (here : Here). Meets (AreKnown here names) (IsUnknown here names members)
    (λ (last : A × Progress). last.1.known.here ≡ here) result) same uses

-- an assignment
destinations-find : (known : Known) (targets : List ReferenceTree) (constants : Constants)
    → Meets (AreKnown known.here (flat_map names_in_reference targets))
    (IsUnknown known.here (flat_map names_in_reference targets) (flat_map members_in_reference targets))
    (λ _. Unit {0})
    (destinations known targets constants)
destinations-find known [] constants = meets_ok tt tt
destinations-find known (first ∷ others) constants =
    meets_then
    (names_join known.here (names_in_reference first) (flat_map names_in_reference others)
    (members_in_reference first)
    (flat_map members_in_reference others))
    (target-finds known first constants) λ destination _.
    before_other (destinations-find known others destination.1) λ rest _.
    meets_ok tt tt

pub assignment-uses : (targets : List ReferenceTree) (source : ExpressionTree) (progress : Progress)
    → Uses progress (flat_map names_in_reference targets ++ names_in_expression source)
    (flat_map members_in_reference targets ++ members_in_expression source)
    (assignment targets source progress)
assignment-uses targets source progress =
    meets_then
    (names_join progress.known.here (flat_map names_in_reference targets) (names_in_expression source)
    (flat_map members_in_reference targets) (members_in_expression source))
    (destinations-find progress.known targets progress.constants) λ places _.
    before_other (value-uses source (with_constants places.1 progress)) λ typed same.
    meets_ok tt same

-- a CALL
call_bound-finds : (known : Known) (binding : Binding) (name : Identifier) (trees : ArgumentTrees)
    (constants : Constants)
    → Meets (AreKnown known.here (names_in_arguments trees))
    (IsUnknown known.here (names_in_arguments trees) (members_in_arguments trees)) (λ _. Unit {0})
    (call_bound known binding name (arguments_given known trees) constants)
call_bound-finds known (Declared (Procedure number)) name trees constants =
    after_other (procedure-other known name number) λ procedure _.
    after_other (other_required (is_none procedure.result) CallOfTyped (place_of name) not_of_names) λ _ _.
    before_other (call-finds known procedure (place_of name) trees constants) λ typed _.
    meets_ok tt tt
call_bound-finds known (BuiltInName Move) name trees constants =
    after_other
    (other_required (count_of_given (arguments_given known trees) == 3) ArgumentCount (place_of name)
    not_of_names) λ _ _.
    before_other (arguments-find known trees constants) λ typed _.
    after_other (moved-other (place_of name) typed.0) λ moving _.
    meets_ok tt tt
call_bound-finds known binding name trees constants =
    meets_fault CallOfNoProcedure (place_of name) not_of_names

pub call-uses : (name : Identifier) (trees : ArgumentTrees) (progress : Progress)
    → Uses progress (name ∷ names_in_arguments trees) (members_in_arguments trees)
    (call name (arguments_given progress.known trees) progress)
call-uses name trees progress =
    meets_then
    (names_join progress.known.here (name ∷ []) (names_in_arguments trees) [] (members_in_arguments trees))
    (bound-finds progress.known name) λ binding _.
    before_other (call_bound-finds progress.known binding name trees progress.constants) λ typed _.
    meets_ok tt refl

-- RETURN
return_with-uses : (place : Place) (result : Option ScalarType) (tree : Option ExpressionTree)
    (progress : Progress)
    → Uses progress (names_in_optional names_in_expression tree) (option_map_or members_in_expression tree [])
    (return_with place result tree progress)
return_with-uses place None None progress = meets_ok tt refl
return_with-uses place (Some scalar) (Some tree) progress =
    before_other (value-uses tree progress) λ typed same.
    meets_ok tt same
return_with-uses place None (Some tree) progress = meets_fault ReturnMismatch place not_of_names
return_with-uses place (Some scalar) None progress = meets_fault ReturnMismatch place not_of_names

pub return_from-uses : (place : Place) (owner : Owner) (tree : Option ExpressionTree) (progress : Progress)
    → Uses progress (names_in_optional names_in_expression tree) (option_map_or members_in_expression tree [])
    (return_from place owner tree progress)
return_from-uses place TheModule tree progress = meets_fault ReturnOutside place not_of_names
return_from-uses place (OfProcedure number heading) tree progress =
    return_with-uses place heading.result tree progress

-- GOTO, whose label is no use that could be unknown
pub goto-walks : (label : Identifier) (progress : Progress)
    → Walks (jumps_to label) progress.known.here [] (λ (done : TypedStatement × Progress). done.1.known.here)
    (goto label progress)
unfolding jumps_to
goto-walks label progress = record {
  meets = after_other (goto-other (place_of label) (jump_of progress.known.here label.name)) λ typed _.
      meets_ok (refl, tt) refl;
}

-- the head of an iterative DO
step-uses : (tree : Option ExpressionTree) (progress : Progress)
    → Uses progress (names_in_optional names_in_expression tree) (option_map_or members_in_expression tree [])
    (step tree progress)
step-uses None progress = meets_ok tt refl
step-uses (Some tree) progress =
    before_other (value-uses tree progress) λ typed same.
    meets_ok tt same

iteration-uses : (tree : IterationTree) (progress : Progress)
    → Uses progress (names_in_iteration tree) (members_in_iteration tree) (iteration tree progress)
iteration-uses tree progress =
    let here : Here = progress.known.here in
    let first : List Identifier = names_in_expression tree.first in
    let last : List Identifier = names_in_expression tree.last in
    let by : List Identifier = names_in_optional names_in_expression tree.step in
    let members : List Fault = members_in_expression tree.first in
    let others : List Fault = members_in_expression tree.last in
    let more : List Fault = option_map_or members_in_expression tree.step [] in
    subst
    (λ (names : List Identifier). Uses progress (tree.variable ∷ names) (members_in_iteration tree)
    (iteration tree progress))
    (sym (append_assoc first last by))
    (subst (λ (all : List Fault). Uses progress (tree.variable ∷ (first ++ (last ++ by))) all
    (iteration tree progress))
    (sym (append_assoc members others more))
    (meets_then (names_join here (tree.variable ∷ []) (first ++ (last ++ by)) []
    (members ++ (others ++ more)))
    (bound-finds progress.known tree.variable) λ binding _.
    after_other (counter-other progress.known binding tree.variable) λ counter _.
    meets_then (names_join here first (last ++ by) members (others ++ more)) (value-uses tree.first progress)
    λ one same.
    meets_then (names_join here last by others more)
    (uses_at_last progress one.1 last others same (value-uses tree.last one.1)) λ two still.
    before_other (uses_at_last progress two.1 by more still (step-uses tree.step two.1)) λ three kept.
    meets_ok tt kept))

-- the head of a loop
pub head-uses : (head : LoopHeadTree) (progress : Progress)
    → Uses progress (names_in_head head) (members_in_head head) (loop_head head progress)
head-uses head progress =
    head_says (λ names members result. Uses progress names members result) progress
    (λ tree make. before_other (value-uses tree progress) λ tested same. meets_ok tt same)
    (λ tree make. before_other (iteration-uses tree progress) λ counted same. meets_ok tt same) head
