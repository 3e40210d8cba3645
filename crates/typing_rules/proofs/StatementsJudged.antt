-- The parts of statements that hold no statement: what the typing gives of them has a typing by the rules,
-- and the fault that it gives is one of the rules.
use Rattle.typing_rules.proofs.Prelude.{not-false, not-true, ◌≡◌, ℕ, ◌==◌, Bool, true, false, not, List, [], ◌∷◌, length, Option, Some, None, Ok, refl, sym, subst, arith, slice_get, inl, inr, ◌⊎◌, eqb-true, eqb-false, ScalarType, Identifier, Place, ExpressionTree, ReferenceTree, ReferenceTo, ArgumentTrees, Binding, Declared, BuiltInName, UnknownLabel, BuiltIn, Object, Procedure, Label, Definition, TypedArguments, ObjectType, ScalarObject, StructureObject, TypedProcedure, Constants, ArgumentCount, CallOfNoProcedure, ConstantWritten, NoVariable, Fault, Checked, ◌>>=◌, arguments, Known, number_of_arguments, scalar_of, is_constant, StandsFor, IsVariable, IsProcedure, IsBuiltIn, IsNoProcedure, ExpressionTyping, ValuesTyping, no_values, next_value, ExpressionFault}
use Rattle.std.specs.Prelude.{◌&&◌, is_none}
use Rattle.trees.specs.Trees.{HeadingTree, CallStatement, ReturnStatement, GotoStatement}
use Rattle.names.specs.declared.entity.BuiltIn.TheVariants as built_ins
use Rattle.names.specs.BuiltIns.{jump_of}
use Rattle.names.specs.Environment.{Here, with_label, is_label_again}
use Rattle.typed_trees.specs.TypedTrees.{TypedStatement}
use Rattle.typed_trees.specs.declared.parts.TypedMember.{TypedMember}
use Rattle.typing.specs.declared.fault.Cause.TheVariants.{DeclaredTwice, CallOfTyped, NoCounter}
use Rattle.typing.specs.Blocks.{Owner, TheModule, OfProcedure, Block, Progress}
use Rattle.typing.specs.Items.{is_not_based}
use Rattle.typing.specs.Statements.{with_constants}
use Rattle.typing.specs.internal.StatementChecks.{value, destinations, moved, call_bound, return_with, return_from, goto_bound, counter_bound, declare_labels}
use Rattle.typing_rules.specs.Modules.{StatementTyping, call, move, return, return_value, goto}
use Rattle.typing_rules.specs.ModuleFaults.{StatementFault, call_of_no_procedure, call_of_typed, call_with_wrong_count, in_argument_of_call, move_with_wrong_count, in_argument_of_move, return_outside, value_for_no_type, no_value_for_type, in_returned_value, unknown_label}
use Rattle.typing_rules.specs.Statements.{TargetsTyping, no_targets, next_target, IsCounter, AreNewLabels, no_labels, next_label}
use Rattle.typing_rules.specs.StatementFaults.{TargetsFault, in_first_target, in_other_targets, CounterFault, counter_of_no_variable, counter_with_data, counter_in_array, based_counter, counter_with_members, LabelsFault, label_again, in_other_labels}
use Rattle.typing_rules.proofs.Judged.{Judged, judged_ok, judged_fault, then_judged, judged_more, then_when, then_found}
use Rattle.typing.proofs.Types.TypesOfReferences.{scalar_is}
use Rattle.typing_rules.proofs.ReferencesJudged.{is_no_variable, target_judged}
use Rattle.typing_rules.proofs.ExpressionsJudged.{expression_judged, values_judged, its_values_judged}

-- what is found, with the constants after it
pub record Reaches {A : Type 0} (T : A → Constants → Type 0) (progress : Progress)
    (found : A × Progress) : Type 0 where
  pub after : Constants
  pub typing : T found.0 after
  pub reached : found.1 ≡ with_constants after progress

pub then_reached : {A B : Type 0} {T : A → Constants → Type 0} {R : B → Type 0} {Q S : Fault → Type 0}
    {checked : Checked (A × Progress)} {progress : Progress} (next : A × Progress → Checked B)
    → Judged (Reaches T progress) Q checked
    → ((fault : Fault) → Q fault → S fault)
    → ((a : A) (after : Constants) → T a after → Judged R S (next (a, with_constants after progress)))
    → Judged R S (checked >>= next)
then_reached {R = R} {S = S} next is fails then_is =
    then_judged is fails (λ found it.
    subst (λ progress. Judged R S (next (found.0, progress))) (sym it.reached)
    (then_is found.0 it.after it.typing))

pub value_judged : (tree : ExpressionTree) (progress : Progress)
    → Judged (Reaches (ExpressionTyping progress.known progress.constants tree) progress)
    (ExpressionFault progress.known progress.constants tree)
    (value tree progress)
value_judged tree progress =
    then_judged (expression_judged progress.known tree progress.constants) (λ fault is. is) (λ found is.
    judged_ok (record { after = found.1; typing = is; reached = refl }))

-- targets
pub targets_judged : (known : Known) (targets : List ReferenceTree) (before : Constants)
    → Judged (λ found. TargetsTyping known before targets found.0 found.1) (TargetsFault known before targets)
    (destinations known targets before)
targets_judged known [] before = judged_ok no_targets
targets_judged known (ReferenceTo name trees part ∷ others) before =
    then_judged
    (target_judged known name trees part before (values_judged known trees)
    (its_values_judged known part))
    (λ fault is. in_first_target is) (λ destination is.
    then_judged (targets_judged known others destination.1)
    (λ fault more. in_other_targets is more) (λ rest more.
    judged_ok (next_target is more)))

-- iterations
both : (one other : Bool) → (one && other) ≡ true → (one ≡ true) × (other ≡ true)
both true other e = (refl, e)
both false other e = absurd cc

not_both : (one other : Bool) → (one && other) ≡ false → (one ≡ false) ⊎ (other ≡ false)
not_both true other e = inr e
not_both false other e = inl refl

is_empty : {A : Type 0} (option : Option A) → is_none option ≡ true → option ≡ None
is_empty None e = refl
is_empty (Some a) e = absurd cc

is_full : {A : Type 0} (option : Option A) → is_none option ≡ false → (a : A) × (option ≡ Some a)
is_full None e = absurd cc
is_full (Some a) e = (a, refl)

the_members : (object_type : ObjectType) → scalar_of object_type ≡ None
    → (members : List TypedMember) × (object_type ≡ StructureObject members)
the_members (ScalarObject scalar) e = absurd cc
the_members (StructureObject members) e = (members, refl)

pub counter_judged : (known : Known) (binding : Binding) (name : Identifier)
    → StandsFor known name binding
    → Judged (λ counter. IsCounter known name counter.object counter.scalar) (CounterFault known name)
    (counter_bound known binding name)
counter_judged known (Declared (Object number)) name named =
    then_found (slice_get known.objects number) NoVariable name.place
    (λ none. counter_of_no_variable (is_no_variable _ named (λ other object e listed. absurd cc)))
    (λ object listed.
    let is : IsVariable known name number object = record { named = named; listed = listed } in
    then_when (not (is_constant object.home)) ConstantWritten name.place
    (λ has. counter_with_data is (not-false _ has)) (λ _ plain.
    then_when (is_none object.dimension && is_not_based object.home) NoCounter name.place
    (λ wrong. no_counter number object is (not-true _ plain) (not_both _ _ wrong)) (λ _ fits.
    then_found (scalar_of object.object_type) NoCounter name.place
    (λ none. counter_with_members is (not-true _ plain) (the_members object.object_type none).1)
    (λ scalar some.
    judged_ok (record {
      object = object;
      variable = is;
      without_data = not-true _ plain;
      no_array =
          is_empty object.dimension (both (is_none object.dimension) (is_not_based object.home) fits).0;
      not_based = (both (is_none object.dimension) (is_not_based object.home) fits).1;
      is_scalar = scalar_is object.object_type scalar some;
    })))))
  where
    no_counter : (number : ℕ) (object : _)
        → IsVariable known name number object
        → is_constant object.home ≡ false
        → (is_none object.dimension ≡ false) ⊎ (is_not_based object.home ≡ false)
        → CounterFault known name (record { cause = NoCounter; place = name.place })
    no_counter number object is plain (inl array) =
        counter_in_array is plain (is_full object.dimension array).1
    no_counter number object is plain (inr based) = based_counter is plain based
counter_judged known (Declared (Procedure number)) name named =
    judged_fault (counter_of_no_variable (is_no_variable _ named (λ other object e listed. absurd cc)))
counter_judged known (Declared (Label number)) name named =
    judged_fault (counter_of_no_variable (is_no_variable _ named (λ other object e listed. absurd cc)))
counter_judged known (Declared Definition) name named =
    judged_fault (counter_of_no_variable (is_no_variable _ named (λ other object e listed. absurd cc)))
counter_judged known (BuiltInName built_in) name named =
    judged_fault (counter_of_no_variable (is_no_variable _ named (λ other object e listed. absurd cc)))
counter_judged known UnknownLabel name named =
    judged_fault (counter_of_no_variable (is_no_variable _ named (λ other object e listed. absurd cc)))

-- labels
pub labels_judged : (labels : List Identifier) (here : Here)
    → Judged (AreNewLabels here labels) (LabelsFault here labels) (declare_labels labels here)
labels_judged [] here = judged_ok no_labels
labels_judged (label ∷ others) here =
    then_when (not (is_label_again here label.name)) DeclaredTwice label.place
    (λ again. label_again (not-false _ again)) (λ _ new.
    judged_more (labels_judged others (with_label label.name here))
    (λ fault is. in_other_labels (not-true _ new) is)
    (λ after are. next_label (not-true _ new) are))

-- CALL
is_no_procedure : {known : Known} {name : Identifier} (binding : Binding)
    → StandsFor known name binding
    → ((number : ℕ) (procedure : TypedProcedure)
    → binding ≡ Declared (Procedure number) → slice_get known.procedures number ≡ Some procedure → ⊥)
    → IsNoProcedure known name
is_no_procedure binding named none = record {
  binding = binding;
  named = named;
  no_procedure = λ number procedure is.
      let here = is.named in
      let same : binding ≡ Declared (Procedure number) = cc in
      none number procedure same is.listed;
}

abbrev pub CallJudged : Block → Progress → Place → Identifier → ArgumentTrees
    → Checked (TypedStatement × Constants) → Type 0
CallJudged block progress place name trees checked =
    Judged (λ found. StatementTyping block progress (CallStatement place name trees) found.0
    (with_constants found.1 progress))
    (StatementFault block progress (CallStatement place name trees))
    checked

three_values : (block : Block) (progress : Progress) (place : Place) (name : Identifier)
    {trees : ArgumentTrees} {typed : TypedArguments}
    {after : Constants}
    → IsBuiltIn progress.known name built_ins.Move
    → ValuesTyping progress.known progress.constants trees typed after
    → number_of_arguments trees ≡ 3
    → CallJudged block progress place name trees (moved name.place typed >>= λ moving. Ok (moving, after))
three_values block progress place name named no_values count = absurd (omega (arith, count))
three_values block progress place name named (next_value one no_values) count = absurd (omega (arith, count))
three_values block progress place name named (next_value one (next_value two no_values)) count =
    absurd (omega (arith, count))
three_values block progress place name named
    (next_value one (next_value two (next_value three no_values))) count =
    judged_ok (move named (next_value one (next_value two (next_value three no_values))))
three_values block progress place name named
    (next_value one (next_value two (next_value three (next_value four others)))) count =
    absurd (omega (arith, count))

built_in_call_judged : (block : Block) (progress : Progress) (place : Place) (name : Identifier)
    (trees : ArgumentTrees) (built_in : BuiltIn)
    → IsBuiltIn progress.known name built_in
    → CallJudged block progress place name trees
    (call_bound progress.known (BuiltInName built_in) name
    (record { trees = trees; typed = arguments progress.known trees })
    progress.constants)
built_in_call_judged block progress place name trees built_ins.Move named =
    then_when (number_of_arguments trees == 3) ArgumentCount name.place
    (λ wrong. move_with_wrong_count named (eqb-false _ _ wrong)) (λ _ right.
    then_judged (values_judged progress.known trees progress.constants)
    (λ fault is. in_argument_of_move named (eqb-true _ _ right) is) (λ typed is.
    three_values block progress place name named is (eqb-true _ _ right)))
built_in_call_judged block progress place name trees built_in named =
    judged_fault
    (call_of_no_procedure (is_no_procedure _ named (λ number procedure e listed. absurd cc))
    (λ is. absurd cc))

pub call_judged : (block : Block) (progress : Progress) (place : Place) (name : Identifier)
    (trees : ArgumentTrees) (binding : Binding)
    → StandsFor progress.known name binding
    → CallJudged block progress place name trees
    (call_bound progress.known binding name
    (record { trees = trees; typed = arguments progress.known trees }) progress.constants)
call_judged block progress place name trees (Declared (Procedure number)) named =
    then_found (slice_get progress.known.procedures number) CallOfNoProcedure name.place
    (λ none. call_of_no_procedure (is_no_procedure _ named (λ other procedure e listed. absurd cc))
    (λ is. absurd cc))
    (λ procedure listed.
    let is : IsProcedure progress.known name number procedure = record { named = named; listed = listed } in
    then_when (is_none procedure.result) CallOfTyped name.place
    (λ typed. call_of_typed is (is_full procedure.result typed).1)
    (λ _ untyped.
    then_judged
    (then_when (number_of_arguments trees == length procedure.parameter_types) ArgumentCount name.place
    (λ wrong. call_with_wrong_count is (is_empty procedure.result untyped) (eqb-false _ _ wrong))
    (λ _ right. then_judged (values_judged progress.known trees progress.constants)
    (λ fault its. in_argument_of_call is (is_empty procedure.result untyped) (eqb-true _ _ right) its)
    (λ values its. judged_ok (call is (is_empty procedure.result untyped) (eqb-true _ _ right) its))))
    (λ fault its. its)
    (λ values its. judged_ok its)))
call_judged block progress place name trees (Declared (Object number)) named =
    judged_fault
    (call_of_no_procedure (is_no_procedure _ named (λ number procedure e listed. absurd cc))
    (λ is. absurd cc))
call_judged block progress place name trees (Declared (Label number)) named =
    judged_fault
    (call_of_no_procedure (is_no_procedure _ named (λ number procedure e listed. absurd cc))
    (λ is. absurd cc))
call_judged block progress place name trees (Declared Definition) named =
    judged_fault
    (call_of_no_procedure (is_no_procedure _ named (λ number procedure e listed. absurd cc))
    (λ is. absurd cc))
call_judged block progress place name trees (BuiltInName built_in) named =
    built_in_call_judged block progress place name trees built_in named
call_judged block progress place name trees UnknownLabel named =
    judged_fault
    (call_of_no_procedure (is_no_procedure _ named (λ number procedure e listed. absurd cc))
    (λ is. absurd cc))

-- RETURN
abbrev ReturnJudged : Block → Progress → Place → Option ExpressionTree
    → Checked (TypedStatement × Progress) → Type 0
ReturnJudged block progress place tree checked =
    Judged (λ found. StatementTyping block progress (ReturnStatement place tree) found.0 found.1)
    (StatementFault block progress (ReturnStatement place tree))
    checked

result_judged : (block : Block) (progress : Progress) (place : Place) (number : ℕ) (heading : HeadingTree)
    (result : Option ScalarType)
    (tree : Option ExpressionTree)
    → block.owner ≡ OfProcedure number heading
    → heading.result ≡ result
    → ReturnJudged block progress place tree (return_with place result tree progress)
result_judged block progress place number heading None None is result = judged_ok (return is result)
result_judged block progress place number heading (Some scalar) (Some tree) is result =
    then_reached _ (value_judged tree progress)
    (λ fault its. in_returned_value is result its) (λ typed after its.
    judged_ok (return_value is result its))
result_judged block progress place number heading None (Some tree) is result =
    judged_fault (value_for_no_type is result)
result_judged block progress place number heading (Some scalar) None is result =
    judged_fault (no_value_for_type is result)

pub return_judged : (block : Block) (progress : Progress) (place : Place) (owner : Owner)
    (tree : Option ExpressionTree)
    → block.owner ≡ owner
    → ReturnJudged block progress place tree (return_from place owner tree progress)
return_judged block progress place TheModule tree is = judged_fault (return_outside is)
return_judged block progress place (OfProcedure number heading) tree is =
    result_judged block progress place number heading heading.result tree is refl

-- GOTO
pub goto_judged : (block : Block) (progress : Progress) (place : Place)
    (label : Identifier) (binding : Binding)
    → jump_of progress.known.here label.name ≡ binding
    → Judged (λ found. StatementTyping block progress (GotoStatement place label) found progress)
    (StatementFault block progress (GotoStatement place label))
    (goto_bound label.place binding)
goto_judged block progress place label (Declared (Label number)) is = judged_ok (goto is)
goto_judged block progress place label (Declared (Object number)) is =
    judged_fault (unknown_label (λ other e. absurd cc))
goto_judged block progress place label (Declared (Procedure number)) is =
    judged_fault (unknown_label (λ other e. absurd cc))
goto_judged block progress place label (Declared Definition) is =
    judged_fault (unknown_label (λ other e. absurd cc))
goto_judged block progress place label (BuiltInName built_in) is =
    judged_fault (unknown_label (λ other e. absurd cc))
goto_judged block progress place label UnknownLabel is = judged_fault (unknown_label (λ other e. absurd cc))
