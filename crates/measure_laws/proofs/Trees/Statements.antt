-- The weight of a body of tree code is that of its typed tree.
use Rattle.measure_laws.proofs.Prelude.{◌≡◌, ℕ, zero, suc, ◌+◌, ◌≤◌, List, ◌∷◌, drop, length, take, Option, Some, slice_get, drop-cons, refl, ap, ◌∙◌, arith, sum_by, option_map_or, sum_by-cons, get_or_from_slice_get, slice_get_within, type_of, TypedArguments, TypedElse, TypedExpression, TypedIteration, TypedList, TypedStatement, TypedStatements, TypedTarget, Storage, Expression, ExpressionNumber, Range, Iteration, StatementNumber, AreArguments, AreMoreStatements, AreNoStatements, AreStatements, AreTargets, IsAssignment, IsCall, IsCase, IsDo, IsElse, IsExpressionIn, IsIf, IsIteration, IsList, IsListOf, IsMove, IsNoElse, IsNode, IsNoValue, IsOptional, IsReturn, IsSomeElse, IsSomeValue, IsStatement, IsStatementForm, IsStatementNode, MoreTargets, NoTargets, Nodes, no_traits, traits_at, beside_at, weight_of_body, weight_of_range, weight_within}
use Rattle.treecode.specs.internal.Lowered.{IsLoop}
use Rattle.typed_trees.specs.Weight as typed
use Rattle.treecode.specs.declared.statement.Statement.{Statement}
use Rattle.measure_laws.proofs.Heads.{head_weighs}
use Rattle.measure_laws.proofs.Footprints.Weights.{arguments_weigh, target_weighs, weighs_at}
use Rattle.measure_laws.specs.internal.Bounds.{weight_of_arguments, weight_of_expression, weight_of_iteration, weight_of_statement, weight_of_target}

-- the weight of the entries of a range of a table is that of the first one plus that of the others
entries_weigh :
    {A : Type 0} (weight : A → ℕ) (table : List A) (first others : ℕ) (entry : A)
    → slice_get table first ≡ Some entry
    → sum_by weight (take (suc others) (drop first table))
    ≡ weight entry + sum_by weight (take others (drop (suc first) table))
entries_weigh weight table first others entry there =
    ap (λ rest. sum_by weight (take (suc others) rest))
    (drop-cons table first entry (slice_get_within table first entry there)
    ∙ ap (λ one. one ∷ drop (suc first) table) (get_or_from_slice_get table first entry entry there))
    ∙ sum_by-cons weight entry (take others (drop (suc first) table))

module _ (nodes : Nodes) (storage : Storage) where
  -- the expressions of statements
  expression_weighs :
      (number : ExpressionNumber) (tree : TypedExpression)
      → IsExpressionIn nodes storage number tree
      → weight_of_expression nodes number ≡ typed.weight_of_expression tree
  expression_weighs number tree is =
      weighs_at nodes storage (length nodes.expressions) (length nodes.expressions) number.index
      tree (omega arith) is

  optional_weighs :
      (number : Option ExpressionNumber) (tree : Option TypedExpression)
      → IsOptional nodes storage number tree
      → option_map_or (weight_of_expression nodes) number 0 ≡ typed.weight_of_optional tree
  optional_weighs number tree IsNoValue = refl
  optional_weighs number tree (IsSomeValue {number = one} {tree = value} is) = expression_weighs one value is

  given_weigh :
      (range : Range) (trees : TypedArguments)
      → AreArguments nodes storage (length nodes.expressions) range.first range.count trees
      → weight_of_arguments nodes range ≡ typed.weight_of_arguments trees
  given_weigh range trees are =
      arguments_weigh nodes storage (length nodes.expressions) (beside_at nodes)
      (weighs_at nodes storage (length nodes.expressions)) (omega arith) are

  targets_weigh :
      (first count : ℕ) (trees : List TypedTarget)
      → AreTargets nodes storage first count trees
      → sum_by (weight_of_target nodes) (take count (drop first nodes.targets))
      ≡ sum_by typed.weight_of_target trees
  targets_weigh first count trees NoTargets = refl
  targets_weigh first count trees
      (MoreTargets {count = fewer} {target = target} {tree = tree} {others = others} there one more) =
      let this : weight_of_target nodes target ≡ typed.weight_of_target tree =
      target_weighs nodes storage (length nodes.expressions) (beside_at nodes)
      (weighs_at nodes storage (length nodes.expressions)) (omega arith) one in
      let rest = targets_weigh (suc first) fewer others more in
      let here = entries_weigh (weight_of_target nodes) nodes.targets first fewer target there in
      omega (arith, this, rest, here, sum_by-cons typed.weight_of_target tree others)

  -- the head of an iterative DO
  scalar_is :
      (number : ExpressionNumber) (tree : TypedExpression)
      → IsExpressionIn nodes storage number tree
      → (traits_at nodes number).scalar ≡ type_of tree
  scalar_is number tree (IsNode below there scalar form) =
      ap (λ (entry : Option Expression). (option_map_or (λ (one : Expression). one.traits) entry
      no_traits).scalar) there
      ∙ scalar

  iteration_weighs :
      (head : Iteration) (tree : TypedIteration)
      → IsIteration nodes storage head tree
      → weight_of_iteration nodes head ≡ typed.weight_of_iteration tree
  iteration_weighs head tree is =
      let from =
      ap (λ scalar. typed.weight_of_storing scalar head.scalar)
      (scalar_is head.first tree.first is.first) in
      let to = ap (λ scalar. typed.weight_of_storing (type_of tree.first) scalar) is.scalar in
      omega (
        arith,
        from,
        to,
        expression_weighs head.first tree.first is.first,
        expression_weighs head.last tree.last is.last,
        optional_weighs head.step tree.step is.step,
      )

  module _ (labels : List ℕ) where
    -- this is the weight of the statements with numbers below a limit
    abbrev Weighs : (limit : ℕ) → (weight : ℕ → ℕ) → Type 0
    Weighs limit weight =
        (bound number : ℕ) (tree : TypedStatement) → bound ≤ limit
        → IsStatement nodes storage labels bound number tree
        → weight number ≡ typed.weight_of_statement tree

    row_weighs :
        (limit : ℕ) (weight : ℕ → ℕ) (bound first count : ℕ) (trees : TypedStatements)
        → Weighs limit weight
        → bound ≤ limit
        → AreStatements nodes storage labels bound first count trees
        → sum_by (λ (one : StatementNumber). weight one.index) (take count (drop first nodes.lists))
        ≡ typed.weight_of_statements trees
    row_weighs limit weight bound first count trees weighs enough AreNoStatements = refl
    row_weighs limit weight bound first count trees weighs enough
        (AreMoreStatements {count = fewer} {number = number} {tree = tree} {others = others} there one more) =
        let this : weight number.index ≡ typed.weight_of_statement tree =
        weighs bound number.index tree enough one in
        let rest = row_weighs limit weight bound (suc first) fewer others weighs enough more in
        let here =
        entries_weigh (λ (one : StatementNumber). weight one.index) nodes.lists first
        fewer number there in
        omega (arith, this, rest, here)

    list_weighs :
        (limit : ℕ) (weight : ℕ → ℕ) (bound : ℕ) (range : Range) (list : TypedList)
        → Weighs limit weight
        → bound ≤ limit
        → IsList nodes storage labels bound range list
        → weight_of_range weight nodes range ≡ typed.weight_of_list list
    list_weighs limit weight bound range list weighs enough (IsListOf {trees = trees} are) =
        row_weighs limit weight bound range.first range.count trees weighs enough are

    else_weighs :
        (limit : ℕ) (weight : ℕ → ℕ) (bound : ℕ) (number : Option StatementNumber) (tree : TypedElse)
        → Weighs limit weight
        → bound ≤ limit
        → IsElse nodes storage labels bound number tree
        → option_map_or (λ (one : StatementNumber). weight one.index) number 0 ≡ typed.weight_of_else tree
    else_weighs limit weight bound number tree weighs enough IsNoElse = refl
    else_weighs limit weight bound number tree weighs enough
        (IsSomeElse {number = other} {tree = statement} is) =
        weighs bound other.index statement enough is

    -- a statement, by its form
    form_weighs :
        (limit : ℕ) (weight : ℕ → ℕ) (bound : ℕ) (statement : Statement) (tree : TypedStatement)
        → Weighs limit weight
        → bound ≤ limit
        → IsStatementForm nodes storage labels bound statement tree
        → weight_of_statement weight nodes statement ≡ typed.weight_of_statement tree
    form_weighs limit weight bound statement tree weighs enough
        (IsAssignment {range = range} {value = value} {trees = trees} {tree = from} are is) =
        let to = targets_weigh range.first range.count trees are in
        let one = expression_weighs value from is in
        omega (arith, to, one)
    form_weighs limit weight bound statement tree weighs enough (IsCall {range = range} {trees = trees} are) =
        ap (λ n. 1 + n) (given_weigh range trees are)
    form_weighs limit weight bound statement tree weighs enough
        (IsMove {count = count} {source = source} {destination = destination} {bytes = bytes} {from = from}
        {to = to} one two three) =
        let first = expression_weighs count bytes one in
        let second = expression_weighs source from two in
        let third = expression_weighs destination to three in
        omega (arith, first, second, third)
    form_weighs limit weight bound statement tree weighs enough
        (IsReturn {value = value} {tree = result} is) =
        ap (λ n. 1 + n) (optional_weighs value result is)
    form_weighs limit weight bound statement tree weighs enough
        (IsIf {condition = condition} {body = body} {otherwise = otherwise} {test = test}
        {then_tree = then_tree} {else_tree = else_tree} one two three) =
        let first = expression_weighs condition test one in
        let second = weighs bound body.index then_tree enough two in
        let third = else_weighs limit weight bound otherwise else_tree weighs enough three in
        omega (arith, first, second, third)
    form_weighs limit weight bound statement tree weighs enough (IsDo {range = range} {list = list} is) =
        ap (λ n. 1 + n) (list_weighs limit weight bound range list weighs enough is)
    form_weighs limit weight bound statement tree weighs enough
        (IsLoop {head = head} {range = range} {tree = from} {list = list} one two) =
        let first = head_weighs nodes storage expression_weighs iteration_weighs head from one in
        let second = list_weighs limit weight bound range list weighs enough two in
        omega (arith, first, second)
    form_weighs limit weight bound statement tree weighs enough
        (IsCase {choice = choice} {range = range} {tree = from} {trees = trees} one two) =
        let first = expression_weighs choice from one in
        let second = row_weighs limit weight bound range.first range.count trees weighs enough two in
        omega (arith, first, second)
    form_weighs limit weight bound statement tree weighs enough other = refl

    -- with levels for all numbers below a bound
    within_weighs : (levels : ℕ) → Weighs levels (weight_within nodes levels)
    within_weighs zero bound number tree enough (IsStatementNode below there form) =
        absurd (omega (arith, enough, below))
    within_weighs (suc levels) bound number tree enough
        (IsStatementNode {statement = found} below there form) =
        ap (λ (entry : Option Statement).
        option_map_or (weight_of_statement (weight_within nodes levels) nodes) entry 0) there
        ∙ form_weighs levels (weight_within nodes levels) number found tree (within_weighs levels)
        (omega (arith, enough, below)) form

    pub body_weighs :
        (body : Range) (list : TypedList)
        → IsList nodes storage labels (length nodes.statements) body list
        → weight_of_body nodes body ≡ typed.weight_of_list list
    body_weighs body list is =
        list_weighs (length nodes.statements) (weight_within nodes (length nodes.statements))
        (length nodes.statements)
        body list (within_weighs (length nodes.statements)) (omega arith) is
