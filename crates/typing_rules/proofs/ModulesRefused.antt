-- A fault of a statement, a declaration or a module by the rules is the one that the typing gives. So there
-- is at most one, and none where there is a typing.
use Rattle.typing_rules.proofs.Prelude.{◌≡◌, ◌∙◌, ℕ, not, List, Option, Some, None, Err, refl, sym, ap, subst, slice_get, eq-eqb, ne_eqb, Identifier, Place, ExpressionTree, ReferenceTree, ArgumentTrees, Binding, Declared, BuiltInName, UnknownLabel, BuiltIn, Object, Procedure, Label, Definition, TypedProcedure, Constants, CallOfNoProcedure, Fault, arguments, Known, at_name}
use Rattle.std.specs.Prelude.{is_none}
use Rattle.trees.specs.Trees.{StatementTree, StatementKindTree, ElseTree, StatementTrees, DeclarationTree, DeclarationTrees, ModuleTree}
use Rattle.names.specs.declared.entity.BuiltIn.TheVariants as built_ins
use Rattle.names.specs.Environment.{Here}
use Rattle.typing.specs.declared.fault.Cause.TheVariants.{ReturnOutside, UnknownLabel as NoLabel}
use Rattle.typing.specs.Blocks.{Owner, TheModule, Block, Progress}
use Rattle.typing.specs.Statements.{with_constants}
use Rattle.typing.specs.internal.StatementChecks.{destinations, call_bound, return_from, goto_bound, declare_labels, list_of}
use Rattle.typing.specs.internal.Typing.{kind, alone, else_part, cases, statements, declaration, declarations, typing_of}
use Rattle.typing_rules.specs.ModuleFaults.{StatementFault, in_targets, in_source, call_of_unknown, call_of_no_procedure, call_of_typed, call_with_wrong_count, in_argument_of_call, move_with_wrong_count, in_argument_of_move, return_outside, value_for_no_type, no_value_for_type, in_returned_value, unknown_label, in_condition, in_then, in_else, in_declarations_of_do, in_do, in_head, in_loop, in_choice, in_cases, AloneFault, misplaced_label, in_alone, ElseFault, after_else, CasesFault, in_first_case, in_other_cases, StatementsFault, in_labels, in_first_statement, in_other_statements, ListFault, in_list, DeclarationFault, in_declare, in_heading, in_own_declarations, in_parameters, with_body, in_body, DeclarationsFault, in_first_declaration, in_other_declarations, ModuleFault, in_declarations, in_statements}
use Rattle.typing_rules.specs.StatementFaults.{TargetsFault, in_first_target, in_other_targets, LabelsFault, label_again, in_other_labels}
use Rattle.typing_rules.proofs.Judged.{fault_of, then_ok, then_fault, passed, failed, got, got_none}
use Rattle.typing_rules.proofs.ExpressionsTyped.{target_is, value_is}
use Rattle.typing_rules.proofs.ExpressionsRefused.{is_nothing, values_fault, target_fault_is, value_fault}
use Rattle.typing_rules.proofs.ItemsTyped.{elements_fault}
use Rattle.typing_rules.proofs.ProceduresTyped.{heading_is, objects_are, body_is, heading_fault, objects_fault, body_fault}
use Rattle.typing_rules.proofs.ModulesTyped.{targets_are, labels_are, return_is, statement_is, alone_is, declaration_is, declarations_are}
use Rattle.typing_rules.proofs.Heads.{head_is, head_fault}

targets_fault : {known : Known} {before : Constants} {targets : List ReferenceTree} {fault : Fault}
    → TargetsFault known before targets fault
    → destinations known targets before ≡ Err fault
targets_fault (in_first_target is) = then_fault _ (target_fault_is is)
targets_fault (in_other_targets target is) = then_ok _ (target_is target) (then_fault _ (targets_fault is))

labels_fault : {here : Here} {labels : List Identifier} {fault : Fault}
    → LabelsFault here labels fault
    → declare_labels labels here ≡ Err fault
labels_fault (label_again again) = then_fault _ (failed _ _ (ap not again))
labels_fault (in_other_labels new is) = then_ok _ (passed _ _ (ap not new)) (labels_fault is)

-- CALL
built_in_call_is : (known : Known) (name : Identifier) (trees : ArgumentTrees) (before : Constants)
    (built_in : BuiltIn)
    → ¬ (built_in ≡ built_ins.Move)
    → call_bound known (BuiltInName built_in) name
    (record { trees = trees; typed = arguments known trees }) before
    ≡ Err (at_name CallOfNoProcedure name)
built_in_call_is known name trees before built_ins.Move other = absurd (other refl)
built_in_call_is known name trees before built_in other = refl

no_call_is : (known : Known) (name : Identifier) (trees : ArgumentTrees)
    (before : Constants) (binding : Binding)
    → ((number : ℕ) (procedure : TypedProcedure)
    → binding ≡ Declared (Procedure number) → ¬ (slice_get known.procedures number ≡ Some procedure))
    → ¬ (binding ≡ BuiltInName built_ins.Move)
    → call_bound known binding name (record { trees = trees; typed = arguments known trees }) before
    ≡ Err (at_name CallOfNoProcedure name)
no_call_is known name trees before (Declared (Procedure number)) none other =
    then_fault _
    (got_none _ _ (is_nothing (slice_get known.procedures number)
    (λ procedure e. none number procedure refl e)))
no_call_is known name trees before (Declared (Object number)) none other = refl
no_call_is known name trees before (Declared (Label number)) none other = refl
no_call_is known name trees before (Declared Definition) none other = refl
no_call_is known name trees before (BuiltInName built_in) none other =
    built_in_call_is known name trees before built_in (λ e. other (ap BuiltInName e))
no_call_is known name trees before UnknownLabel none other = refl

-- GOTO
no_label_is : (place : Place) (binding : Binding)
    → ((number : ℕ) → ¬ (binding ≡ Declared (Label number)))
    → goto_bound place binding ≡ Err (fault_of NoLabel place)
no_label_is place (Declared (Label number)) none = absurd (none number refl)
no_label_is place (Declared (Object number)) none = refl
no_label_is place (Declared (Procedure number)) none = refl
no_label_is place (Declared Definition) none = refl
no_label_is place (BuiltInName built_in) none = refl
no_label_is place UnknownLabel none = refl

return_outside_is : {owner : Owner} (progress : Progress) (place : Place) (tree : Option ExpressionTree)
    → owner ≡ TheModule
    → return_from place owner tree progress ≡ Err (fault_of ReturnOutside place)
return_outside_is progress place tree is =
    subst (λ owner. return_from place owner tree progress ≡ Err (fault_of ReturnOutside place)) (sym is) refl

mutual
  pub statement_fault : {block : Block} {progress : Progress} {tree : StatementKindTree} {fault : Fault}
      → StatementFault block progress tree fault
      → kind block tree progress ≡ Err fault
  statement_fault (in_targets is) = then_fault _ (targets_fault is)
  statement_fault (in_source {progress = progress} {middle = middle} targets is) =
      then_ok _ (targets_are targets) (then_fault _ (value_fault (with_constants middle progress) is))
  statement_fault (call_of_unknown none) = then_fault _ (got_none _ _ none)
  statement_fault (call_of_no_procedure {progress = progress} {name = name} {trees = trees} is other) =
      then_ok _ (got _ _ is.named)
      (then_fault _ (no_call_is progress.known name trees progress.constants is.binding
      (λ number procedure e listed. is.no_procedure number procedure
      (record { named = is.named ∙ ap Some e; listed = listed }))
      (λ e. other (is.named ∙ ap Some e))))
  statement_fault (call_of_typed is typed) =
      then_ok _ (got _ _ is.named)
      (then_fault _ (then_ok _ (got _ _ is.listed) (then_fault _ (failed _ _ (ap is_none typed)))))
  statement_fault (call_with_wrong_count is untyped wrong) =
      then_ok _ (got _ _ is.named)
      (then_fault _ (then_ok _ (got _ _ is.listed) (then_ok _ (passed _ _ (ap is_none untyped))
      (then_fault _ (then_fault _ (failed _ _ (ne_eqb _ _ wrong)))))))
  statement_fault (in_argument_of_call is untyped count fault) =
      then_ok _ (got _ _ is.named)
      (then_fault _ (then_ok _ (got _ _ is.listed) (then_ok _ (passed _ _ (ap is_none untyped))
      (then_fault _ (then_ok _ (passed _ _ (eq-eqb _ _ count)) (then_fault _ (values_fault fault)))))))
  statement_fault (move_with_wrong_count named wrong) =
      then_ok _ (got _ _ named) (then_fault _ (then_fault _ (failed _ _ (ne_eqb _ _ wrong))))
  statement_fault (in_argument_of_move named count fault) =
      then_ok _ (got _ _ named)
      (then_fault _ (then_ok _ (passed _ _ (eq-eqb _ _ count)) (then_fault _ (values_fault fault))))
  statement_fault (return_outside {progress = progress} {place = place} {value = tree} is) =
      return_outside_is progress place tree is
  statement_fault (value_for_no_type {progress = progress} {place = place} {value = tree} is has) =
      return_is progress place (Some tree) is has refl
  statement_fault (no_value_for_type {progress = progress} {place = place} is has) =
      return_is progress place None is has refl
  statement_fault (in_returned_value {progress = progress} {place = place} {value = tree} is has fault) =
      return_is progress place (Some tree) is has (then_fault _ (value_fault progress fault))
  statement_fault (unknown_label {label = label} none) = then_fault _ (no_label_is label.place _ none)
  statement_fault (in_condition {progress = progress} is) = then_fault _ (value_fault progress is)
  statement_fault (in_then {progress = progress} condition is) =
      then_ok _ (value_is progress condition) (then_fault _ (alone_fault is))
  statement_fault (in_else {progress = progress} condition body is) =
      then_ok _ (value_is progress condition) (then_ok _ (alone_is body) (then_fault _ (else_fault is)))
  statement_fault (in_declarations_of_do is) = then_fault _ (declarations_fault is)
  statement_fault (in_do declared is) = then_ok _ (declarations_are declared) (then_fault _ (list_fault is))
  statement_fault (in_head {progress = progress} is) = then_fault _ (head_fault progress is)
  statement_fault (in_loop {progress = progress} head is) =
      then_ok _ (head_is progress head) (then_fault _ (list_fault is))
  statement_fault (in_choice {progress = progress} is) = then_fault _ (value_fault progress is)
  statement_fault (in_cases {progress = progress} choice is) =
      then_ok _ (value_is progress choice) (then_fault _ (cases_fault is))

  pub alone_fault : {block : Block} {progress : Progress} {tree : StatementTree} {fault : Fault}
      → AloneFault block progress tree fault
      → alone block tree progress ≡ Err fault
  alone_fault misplaced_label = refl
  alone_fault (in_alone is) = statement_fault is

  pub else_fault : {block : Block} {progress : Progress} {tree : ElseTree} {fault : Fault}
      → ElseFault block progress tree fault
      → else_part block tree progress ≡ Err fault
  else_fault (after_else is) = then_fault _ (alone_fault is)

  pub cases_fault : {block : Block} {progress : Progress} {trees : StatementTrees} {fault : Fault}
      → CasesFault block progress trees fault
      → cases block trees progress ≡ Err fault
  cases_fault (in_first_case is) = then_fault _ (alone_fault is)
  cases_fault (in_other_cases first is) = then_ok _ (alone_is first) (then_fault _ (cases_fault is))

  pub statements_fault : {block : Block} {progress : Progress} {trees : StatementTrees} {fault : Fault}
      → StatementsFault block progress trees fault
      → (label : ℕ)
      → statements block trees label progress ≡ Err fault
  statements_fault (in_labels is) label = then_fault _ (labels_fault is)
  statements_fault (in_first_statement labels is) label =
      then_ok _ (labels_are labels) (then_fault _ (statement_fault is))
  statements_fault (in_other_statements labels first is) label =
      then_ok _ (labels_are labels) (then_ok _ (statement_is first) (then_fault _ (statements_fault is _)))

  pub list_fault : {block : Block} {progress : Progress} {trees : StatementTrees} {fault : Fault}
      → ListFault block progress trees fault
      → list_of trees (λ label. statements block trees label) progress ≡ Err fault
  list_fault (in_list {progress = progress} is) =
      then_fault _ (statements_fault is progress.known.here.labels)

  pub declaration_fault : {block : Block} {progress : Progress} {tree : DeclarationTree} {fault : Fault}
      → DeclarationFault block progress tree fault
      → declaration block tree progress ≡ Err fault
  declaration_fault (in_declare is) = elements_fault is
  declaration_fault (in_heading {declared = declared} is) = then_fault _ (heading_fault declared is)
  declaration_fault (in_own_declarations opening is) =
      then_ok _ (heading_is opening) (then_fault _ (declarations_fault is))
  declaration_fault (in_parameters opening declared is) =
      then_ok _ (heading_is opening) (then_ok _ (declarations_are declared) (then_fault _ (objects_fault is)))
  declaration_fault (with_body opening declared parameters is) =
      then_ok _ (heading_is opening)
      (then_ok _ (declarations_are declared) (then_ok _ (objects_are parameters)
      (then_fault _ (body_fault is))))
  declaration_fault (in_body opening declared parameters body is) =
      then_ok _ (heading_is opening)
      (then_ok _ (declarations_are declared) (then_ok _ (objects_are parameters)
      (then_ok _ (body_is body) (then_fault _ (list_fault is)))))

  pub declarations_fault : {block : Block} {progress : Progress} {trees : DeclarationTrees} {fault : Fault}
      → DeclarationsFault block progress trees fault
      → declarations block trees progress ≡ Err fault
  declarations_fault (in_first_declaration is) = then_fault _ (declaration_fault is)
  declarations_fault (in_other_declarations first is) =
      then_ok _ (declaration_is first) (declarations_fault is)

pub module_fault : {tree : ModuleTree} {fault : Fault} → ModuleFault tree fault → typing_of tree ≡ Err fault
unfolding typing_of
module_fault (in_declarations is) = then_fault _ (declarations_fault is)
module_fault (in_statements declared is) =
    then_ok _ (declarations_are declared) (then_fault _ (list_fault is))
