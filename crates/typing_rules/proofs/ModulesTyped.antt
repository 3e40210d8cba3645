-- A typing of a statement, a declaration or a module by the rules is the one that the typing gives. So there
-- is at most one.
use Rattle.typing_rules.proofs.Prelude.{◌≡◌, ℕ, not, List, Option, Some, None, Ok, refl, sym, ap, subst, eq-eqb, ScalarType, Identifier, Place, ExpressionTree, ReferenceTree, ArgumentTrees, Binding, TypedExpression, MoreTyped, NoTyped, Constants, Checked, Destination, Known, number_of_arguments, ValuesTyping, no_values, next_value}
use Rattle.std.specs.Prelude.{is_none}
use Rattle.trees.specs.Trees.{HeadingTree, StatementTree, StatementKindTree, ElseTree, StatementTrees, DeclarationTree, DeclarationTrees, ModuleTree}
use Rattle.names.specs.Environment.{Here}
use Rattle.typed_trees.specs.TypedTrees.{TypedStatement, TypedElse, TypedStatements, TypedList, TypedModule}
use Rattle.typing.specs.Blocks.{Owner, OfProcedure, Block, Progress}
use Rattle.typing.specs.Statements.{with_constants}
use Rattle.typing.specs.internal.StatementChecks.{value, destinations, return_with, return_from, goto_bound, declare_labels, list_of}
use Rattle.typing.specs.internal.Typing.{kind, alone, else_part, cases, statements, declaration, declarations, typing_of}
use Rattle.typing_rules.specs.Modules.{StatementTyping, null, assignment, call, move, return, return_value, halt, goto, if_then, simple_do, loop, do_case, AloneTyping, unlabelled, ElseTyping, no_else, with_else, CasesTyping, no_case, next_case, StatementsTyping, no_statement, next_statement, ListTyping, list, DeclarationTyping, declare, procedure, DeclarationsTyping, no_declaration, next_declaration, ModuleTyping, whole}
use Rattle.typing_rules.specs.Statements.{TargetsTyping, no_targets, next_target, AreNewLabels, no_labels, next_label}
use Rattle.typing_rules.proofs.Judged.{then_ok, passed, got}
use Rattle.typing_rules.proofs.ExpressionsTyped.{values_is, target_is, value_is}
use Rattle.typing_rules.proofs.ItemsTyped.{elements_are}
use Rattle.typing_rules.proofs.ProceduresTyped.{heading_is, objects_are, body_is}
use Rattle.typing_rules.proofs.Heads.{head_is}

pub targets_are : {known : Known} {before : Constants} {targets : List ReferenceTree}
    {found : List Destination} {after : Constants}
    → TargetsTyping known before targets found after
    → destinations known targets before ≡ Ok (found, after)
targets_are no_targets = refl
targets_are (next_target is others) = then_ok _ (target_is is) (then_ok _ (targets_are others) refl)

pub labels_are : {here after : Here} {labels : List Identifier}
    → AreNewLabels here labels after
    → declare_labels labels here ≡ Ok after
labels_are no_labels = refl
labels_are (next_label new others) = then_ok _ (passed _ _ (ap not new)) (labels_are others)

-- MOVE has three arguments
three_are : {known : Known} {before : Constants} {trees : ArgumentTrees}
    {count source destination : TypedExpression} {after : Constants}
    → ValuesTyping known before trees (MoreTyped count (MoreTyped source (MoreTyped destination NoTyped)))
    after
    → number_of_arguments trees ≡ 3
three_are (next_value one (next_value two (next_value three no_values))) = refl

-- RETURN
pub return_is : {owner : Owner} {result : Option ScalarType}
    {answer : Checked (TypedStatement × Progress)} {number : ℕ}
    {heading : HeadingTree} (progress : Progress) (place : Place) (tree : Option ExpressionTree)
    → owner ≡ OfProcedure number heading
    → heading.result ≡ result
    → return_with place result tree progress ≡ answer
    → return_from place owner tree progress ≡ answer
return_is {answer = answer} progress place tree is has e =
    subst (λ owner. return_from place owner tree progress ≡ answer) (sym is)
    (subst (λ result. return_with place result tree progress ≡ answer) (sym has) e)

pub goto_is : {binding other : Binding} {answer : Checked TypedStatement} (place : Place)
    → binding ≡ other
    → goto_bound place other ≡ answer
    → goto_bound place binding ≡ answer
goto_is {answer = answer} place is e = subst (λ it. goto_bound place it ≡ answer) (sym is) e

mutual
  pub statement_is : {block : Block} {progress : Progress} {tree : StatementKindTree}
      {typed : TypedStatement} {after : Progress}
      → StatementTyping block progress tree typed after
      → kind block tree progress ≡ Ok (typed, after)
  statement_is null = refl
  statement_is (assignment {progress = progress} {middle = middle} targets source) =
      then_ok _ (targets_are targets) (then_ok _ (value_is (with_constants middle progress) source) refl)
  statement_is (call is untyped count values) =
      then_ok _ (got _ _ is.named)
      (then_ok _ (then_ok _ (got _ _ is.listed) (then_ok _ (passed _ _ (ap is_none untyped))
      (then_ok _ (then_ok _ (passed _ _ (eq-eqb _ _ count)) (then_ok _ (values_is values) refl)) refl))) refl)
  statement_is (move named values) =
      then_ok _ (got _ _ named) (then_ok _ (then_ok _ (passed _ _ (eq-eqb _ _ (three_are values)))
      (then_ok _ (values_is values) refl)) refl)
  statement_is (return {progress = progress} {place = place} is has) =
      return_is progress place None is has refl
  statement_is (return_value {progress = progress} {place = place} {value = tree} is has value) =
      return_is progress place (Some tree) is has (then_ok _ (value_is progress value) refl)
  statement_is halt = refl
  statement_is (goto {label = label} is) = then_ok _ (goto_is label.place is refl) refl
  statement_is (if_then {progress = progress} condition body otherwise) =
      then_ok _ (value_is progress condition) (then_ok _ (alone_is body) (then_ok _ (else_is otherwise) refl))
  statement_is (simple_do declared body) =
      then_ok _ (declarations_are declared) (then_ok _ (list_is body) refl)
  statement_is (loop {progress = progress} head body) =
      then_ok _ (head_is progress head) (then_ok _ (list_is body) refl)
  statement_is (do_case {progress = progress} choice body) =
      then_ok _ (value_is progress choice) (then_ok _ (cases_are body) refl)

  pub alone_is : {block : Block} {progress : Progress} {tree : StatementTree}
      {typed : TypedStatement} {after : Progress}
      → AloneTyping block progress tree typed after
      → alone block tree progress ≡ Ok (typed, after)
  alone_is (unlabelled is) = statement_is is

  pub else_is : {block : Block} {progress : Progress} {tree : ElseTree} {typed : TypedElse} {after : Progress}
      → ElseTyping block progress tree typed after
      → else_part block tree progress ≡ Ok (typed, after)
  else_is no_else = refl
  else_is (with_else is) = then_ok _ (alone_is is) refl

  pub cases_are : {block : Block} {progress : Progress} {trees : StatementTrees}
      {typed : TypedStatements} {after : Progress}
      → CasesTyping block progress trees typed after
      → cases block trees progress ≡ Ok (typed, after)
  cases_are no_case = refl
  cases_are (next_case is others) = then_ok _ (alone_is is) (then_ok _ (cases_are others) refl)

  pub statements_are : {block : Block} {label : ℕ} {progress : Progress} {trees : StatementTrees}
      {typed : TypedStatements}
      {after : Progress}
      → StatementsTyping block label progress trees typed after
      → statements block trees label progress ≡ Ok (typed, after)
  statements_are no_statement = refl
  statements_are (next_statement labels is others) =
      then_ok _ (labels_are labels) (then_ok _ (statement_is is) (then_ok _ (statements_are others) refl))

  pub list_is : {block : Block} {progress : Progress} {trees : StatementTrees}
      {typed : TypedList} {after : Progress}
      → ListTyping block progress trees typed after
      → list_of trees (λ label. statements block trees label) progress ≡ Ok (typed, after)
  list_is (list is) = then_ok _ (statements_are is) refl

  pub declaration_is : {block : Block} {progress : Progress} {tree : DeclarationTree} {after : Progress}
      → DeclarationTyping block progress tree after
      → declaration block tree progress ≡ Ok after
  declaration_is (declare is) = elements_are is
  declaration_is (procedure opening declared parameters body statements) =
      then_ok _ (heading_is opening)
      (then_ok _ (declarations_are declared) (then_ok _ (objects_are parameters)
      (then_ok _ (body_is body) (then_ok _ (list_is statements) refl))))

  pub declarations_are : {block : Block} {progress : Progress} {trees : DeclarationTrees} {after : Progress}
      → DeclarationsTyping block progress trees after
      → declarations block trees progress ≡ Ok after
  declarations_are no_declaration = refl
  declarations_are (next_declaration is others) = then_ok _ (declaration_is is) (declarations_are others)

pub module_is : {tree : ModuleTree} {typed : TypedModule} → ModuleTyping tree typed
    → typing_of tree ≡ Ok typed
unfolding typing_of
module_is (whole declared statements) =
    then_ok _ (declarations_are declared) (then_ok _ (list_is statements) refl)
