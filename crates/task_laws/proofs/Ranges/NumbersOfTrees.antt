-- The numbers of a module that is tree code have 16 bits, since those of tree code have. So a program of such
-- modules has types.
use Rattle.task_laws.proofs.Prelude.{◌≡◌, ◌⊎◌, inl, inr, ℕ, suc, ◌<◌, ◌≤◌, List, [], ◌∷◌, length, get_or, Option, Some, None, slice_get, refl, sym, subst, arith, slice_get_cases, slice_get_within, All, AllByRecursion, All-from_recursion, IsScript, ListsGlobals, IsWellTyped, IsJoined, Program, Subscript, TypedArguments, TypedElse, TypedExpression, TypedList, TypedModule, TypedProcedure, TypedReference, TypedStatement, TypedStatements, TypedTarget, Storage, ExpressionForm, ExpressionNumber, Range, TreeModule, TreeProcedure, Reference, IndexNode, Target, Statement, StatementNumber, AreArguments, AreMore, AreMoreStatements, AreNoStatements, AreNone, AreStatements, AreTargets, IsAbsent, IsAssignment, IsBinary, IsCall, IsCallOf, IsCase, IsConstantList, IsConversion, IsDo, IsElse, IsEmbedded, IsExpression, IsForm, IsFunction, IsIf, IsIndex, IsInput, IsList, IsListOf, IsLocation, IsLowered, IsMove, IsNoElse, IsNoValue, IsNode, IsNumber, IsOptional, IsPart, IsReference, IsReturn, IsSent, IsShift, IsSomeElse, IsSomeValue, IsStatement, IsStatementForm, IsStatementNode, IsStored, IsSubscript, IsTarget, IsUnary, IsValue, MoreTargets, NoTargets, Nodes, nodes_of, NumbersAreWords, NumbersFit, NumbersFitIfSome, NumbersFitIn, NumbersFitInArguments, NumbersFitInElse, NumbersFitInList, NumbersFitInModule, NumbersFitInProcedure, NumbersFitInReference, NumbersFitInStatements, NumbersFitInSubscript, NumbersFitInTarget, NumbersFitInTargets, HasTypes}
use Rattle.treecode.specs.internal.Lowered.{IsLoop}
use Rattle.treecode.specs.declared.expression.ExpressionForm.TheVariants as forms
use Rattle.task_laws.proofs.Ranges.Heads.{in_head}

module _ (nodes : Nodes) (storage : Storage) (words : NumbersAreWords nodes) where
  mutual
    pub in_node : {bound index : ℕ} {tree : TypedExpression}
        → IsExpression nodes storage bound index tree → NumbersFit tree
    in_node (IsNode {number = index} {expression = found} below there scalar form) =
        in_form (λ n is. words index n found there is) form

    in_form : {bound : ℕ} {form : ExpressionForm} {tree : TypedExpression}
        → ((n : ℕ) → form ≡ forms.Number n → n < 65536)
        → IsForm nodes storage bound form tree
        → NumbersFit tree
    in_form small (IsNumber {number = n}) = small n refl
    in_form small (IsValue reference) = in_reference reference
    in_form small (IsLocation reference) = in_reference reference
    in_form small IsConstantList = tt
    in_form small (IsConversion is) = in_node is
    in_form small (IsEmbedded target is) = (in_node is, in_target target)
    in_form small (IsUnary is) = in_node is
    in_form small (IsBinary left right) = (in_node left, in_node right)
    in_form small (IsCallOf given) = in_arguments given
    in_form small (IsFunction is) = in_node is
    in_form small (IsShift is by) = (in_node is, in_node by)
    in_form small IsInput = tt

    in_reference : {bound : ℕ} {reference : Reference} {part : TypedReference}
        → IsReference nodes storage bound reference part → NumbersFitInReference part
    in_reference (IsPart first second) = (in_subscript first, in_subscript second)

    in_subscript : {bound : ℕ} {index : Option IndexNode} {subscript : Subscript}
        → IsSubscript nodes storage bound index subscript → NumbersFitInSubscript subscript
    in_subscript IsAbsent = tt
    in_subscript (IsIndex is) = in_node is

    in_target : {bound : ℕ} {target : Target} {to : TypedTarget}
        → IsTarget nodes storage bound target to → NumbersFitInTarget to
    in_target (IsStored reference) = in_reference reference
    in_target IsSent = tt

    in_arguments : {bound first count : ℕ} {trees : TypedArguments}
        → AreArguments nodes storage bound first count trees → NumbersFitInArguments trees
    in_arguments AreNone = tt
    in_arguments (AreMore there is more) = (in_node is, in_arguments more)

  in_optional : {number : Option ExpressionNumber} {tree : Option TypedExpression}
      → IsOptional nodes storage number tree → NumbersFitIfSome tree
  in_optional IsNoValue = tt
  in_optional (IsSomeValue is) = in_node is

  in_targets : {first count : ℕ} {trees : List TypedTarget}
      → AreTargets nodes storage first count trees → NumbersFitInTargets trees
  in_targets NoTargets = tt
  in_targets (MoreTargets there is more) = (in_target is, in_targets more)

  mutual
    in_statement : {labels : List ℕ} {bound number : ℕ} {tree : TypedStatement}
        → IsStatement nodes storage labels bound number tree → NumbersFitIn tree
    in_statement (IsStatementNode below there form) = in_statement_form form

    in_statement_form : {labels : List ℕ} {bound : ℕ} {statement : Statement} {tree : TypedStatement}
        → IsStatementForm nodes storage labels bound statement tree → NumbersFitIn tree
    in_statement_form (IsAssignment targets is) = (in_node is, in_targets targets)
    in_statement_form (IsCall given) = in_arguments given
    in_statement_form (IsMove count from to) = (in_node count, in_node from, in_node to)
    in_statement_form (IsReturn is) = in_optional is
    in_statement_form (IsIf condition body otherwise) =
        (in_node condition, in_statement body, in_else otherwise)
    in_statement_form (IsDo list) = in_list list
    in_statement_form (IsLoop head list) = (
      in_head nodes storage (λ bound number tree is. in_node is) (λ number tree is. in_optional is) head,
      in_list list,
    )
    in_statement_form (IsCase choice list) = (in_node choice, in_statements list)
    in_statement_form form = tt

    in_else : {labels : List ℕ} {bound : ℕ} {number : Option StatementNumber} {tree : TypedElse}
        → IsElse nodes storage labels bound number tree → NumbersFitInElse tree
    in_else IsNoElse = tt
    in_else (IsSomeElse is) = in_statement is

    in_statements : {labels : List ℕ} {bound first count : ℕ} {trees : TypedStatements}
        → AreStatements nodes storage labels bound first count trees → NumbersFitInStatements trees
    in_statements AreNoStatements = tt
    in_statements (AreMoreStatements there is more) = (in_statement is, in_statements more)

    in_list : {labels : List ℕ} {bound : ℕ} {range : Range} {list : TypedList}
        → IsList nodes storage labels bound range list → NumbersFitInList list
    in_list (IsListOf are) = in_statements are

-- a property of the item at each number holds for each item
each_of :
    {X : Type 0} (P : X → Type 0) (items : List X)
    → ((at : ℕ) (item : X) → slice_get items at ≡ Some item → P item)
    → AllByRecursion P items
each_of P [] each = tt
each_of P (first ∷ others) each = (each 0 first refl, each_of P others (λ at item is. each (suc at) item is))

-- the numbers in the trees of a module that is tree code are below 65536
pub numbers_of_lowered :
    (typed : TypedModule) (storage : Storage) (tree : TreeModule)
    → IsLowered typed storage tree
    → NumbersAreWords (nodes_of tree)
    → NumbersFitInModule typed
numbers_of_lowered typed storage tree lowered words = record {
  procedures =
      All-from_recursion NumbersFitInProcedure typed.procedures
      (each_of NumbersFitInProcedure typed.procedures
      (λ number heading is.
      by number heading is (slice_get_cases tree.procedures.items number).1
      (subst (λ (count : ℕ). number < count) (sym lowered.procedure_count)
      (slice_get_within typed.procedures number heading is))));
  main = in_list (nodes_of tree) storage words lowered.main.body;
}
  where
    by : (number : ℕ) (heading : TypedProcedure)
        → slice_get typed.procedures number ≡ Some heading
        → ((x : TreeProcedure) × (number < length tree.procedures.items)
        × (slice_get tree.procedures.items number ≡ Some x) × (get_or tree.procedures.items number x ≡ x))
        ⊎ ((length tree.procedures.items ≤ number) × (slice_get tree.procedures.items number ≡ None))
        → number < length tree.procedures.items
        → NumbersFitInList heading.body
    by number heading is (inl found) less =
        in_list (nodes_of tree) storage words
        (lowered.procedures number found.0 heading found.2 is).has_body.body
    by number heading is (inr past) less = let most = past.0 in absurd (omega (arith, less, most))

-- a typed module is well typed, and its tree code has only numbers of 16 bits
pub record IsTypedCode (typed : TypedModule) : Type 0 where
  pub types : IsWellTyped typed
  pub storage : Storage
  pub tree : TreeModule
  pub lowered : IsLowered typed storage tree
  pub numbers : NumbersAreWords (nodes_of tree)

-- a program of such modules has types
pub has_types :
    (program : Program)
    → IsJoined program.modules
    → All ListsGlobals program.modules
    → IsScript program.script
    → ((number : ℕ) (typed : TypedModule) → slice_get program.modules number ≡ Some typed → IsTypedCode typed)
    → HasTypes program
has_types program joined globals script each = record {
  joined = joined;
  globals = globals;
  types =
      All-from_recursion IsWellTyped program.modules
      (each_of IsWellTyped program.modules (λ number typed is. (each number typed is).types));
  numbers =
      All-from_recursion NumbersFitInModule program.modules
      (each_of NumbersFitInModule program.modules
      (λ number typed is.
      let code = each number typed is in
      numbers_of_lowered typed code.storage code.tree code.lowered code.numbers));
  script = script;
}
