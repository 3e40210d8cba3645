-- Nodes are kept when others are added after them.
use Rattle.treecode.proofs.Prelude.{◌≡◌, ℕ, zero, suc, ◌≤◌, List, [], ◌∷◌, ◌++◌, length, Option, Some, None, subst, arith, TypedExpression, TypedReference, Subscript, TypedTarget, TypedArguments, TypedIteration, Storage, ExpressionForm, ExpressionNumber, Reference, IndexNode, Target, Iteration, IsExpression, IsNode, IsForm, IsNumber, IsValue, IsLocation, IsConstantList, IsConversion, IsEmbedded, IsUnary, IsBinary, IsCallOf, IsFunction, IsShift, IsInput, IsReference, IsPart, IsSubscript, IsAbsent, IsIndex, IsTarget, IsStored, IsSent, AreArguments, AreNone, AreMore, IsExpressionIn, IsOptional, IsNoValue, IsSomeValue, AreTargets, NoTargets, MoreTargets, IsIteration, Nodes, Grows, Holds}

abbrev IsNothing : {A : Type 0} → Option A → Type 0
IsNothing None = Unit {0}
IsNothing (Some x) = ⊥

pub nothing_found : {A : Type 0} {x : A} → None ≡ Some x → ⊥
nothing_found e = subst IsNothing e tt

-- a list with others after it has the items that it had
pub holds_with_more : {A : Type 0} (xs ys : List A) → Holds xs (xs ++ ys)
holds_with_more [] ys index x e = absurd (nothing_found e)
holds_with_more (first ∷ xs) ys zero x e = e
holds_with_more (first ∷ xs) ys (suc index) x e = holds_with_more xs ys index x e

module _ (before after : Nodes) (storage : Storage) (grows : Grows before after) where
  mutual
    -- an expression remains the same tree, also with a greater bound
    pub expression_stays : {bound number : ℕ} {tree : TypedExpression} (greater : ℕ) → bound ≤ greater
        → IsExpression before storage bound number tree → IsExpression after storage greater number tree
    expression_stays greater up (IsNode {number = number} {expression = expression} below at scalar form) =
        IsNode (omega arith) (grows.expressions number expression at) scalar (form_stays number
        (omega arith) form)

    pub form_stays : {bound : ℕ} {form : ExpressionForm} {tree : TypedExpression} (greater : ℕ)
        → bound ≤ greater
        → IsForm before storage bound form tree → IsForm after storage greater form tree
    form_stays greater up IsNumber = IsNumber
    form_stays greater up (IsValue reference) = IsValue (reference_stays greater up reference)
    form_stays greater up (IsLocation reference) = IsLocation (reference_stays greater up reference)
    form_stays greater up IsConstantList = IsConstantList
    form_stays greater up (IsConversion inner) = IsConversion (expression_stays greater up inner)
    form_stays greater up (IsEmbedded target value) =
        IsEmbedded (target_stays greater up target) (expression_stays greater up value)
    form_stays greater up (IsUnary operand) = IsUnary (expression_stays greater up operand)
    form_stays greater up (IsBinary left right) =
        IsBinary (expression_stays greater up left) (expression_stays greater up right)
    form_stays greater up (IsCallOf given) = IsCallOf (arguments_stay greater up given)
    form_stays greater up (IsFunction operand) = IsFunction (expression_stays greater up operand)
    form_stays greater up (IsShift moved by) =
        IsShift (expression_stays greater up moved) (expression_stays greater up by)
    form_stays greater up IsInput = IsInput

    pub reference_stays : {bound : ℕ} {reference : Reference} {part : TypedReference} (greater : ℕ)
        → bound ≤ greater
        → IsReference before storage bound reference part → IsReference after storage greater reference part
    reference_stays greater up (IsPart first second) =
        IsPart (subscript_stays greater up first) (subscript_stays greater up second)

    pub subscript_stays : {bound : ℕ} {index : Option IndexNode} {subscript : Subscript} (greater : ℕ)
        → bound ≤ greater → IsSubscript before storage bound index subscript
        → IsSubscript after storage greater index subscript
    subscript_stays greater up IsAbsent = IsAbsent
    subscript_stays greater up (IsIndex index) = IsIndex (expression_stays greater up index)

    pub target_stays : {bound : ℕ} {target : Target} {tree : TypedTarget} (greater : ℕ) → bound ≤ greater
        → IsTarget before storage bound target tree → IsTarget after storage greater target tree
    target_stays greater up (IsStored reference) = IsStored (reference_stays greater up reference)
    target_stays greater up IsSent = IsSent

    pub arguments_stay : {bound first count : ℕ} {trees : TypedArguments} (greater : ℕ) → bound ≤ greater
        → AreArguments before storage bound first count trees
        → AreArguments after storage greater first count trees
    arguments_stay greater up AreNone = AreNone
    arguments_stay greater up (AreMore {first = first} {number = number} at argument others) =
        AreMore (grows.arguments first number at) (expression_stays greater up argument)
        (arguments_stay greater up others)

  pub expression_in_stays : {number : ExpressionNumber} {tree : TypedExpression}
      → IsExpressionIn before storage number tree → IsExpressionIn after storage number tree
  expression_in_stays is = expression_stays (length after.expressions) grows.count is

  pub optional_stays : {number : Option ExpressionNumber} {tree : Option TypedExpression}
      → IsOptional before storage number tree → IsOptional after storage number tree
  optional_stays IsNoValue = IsNoValue
  optional_stays (IsSomeValue is) = IsSomeValue (expression_in_stays is)

  pub targets_stay : {first count : ℕ} {trees : List TypedTarget}
      → AreTargets before storage first count trees
      → AreTargets after storage first count trees
  targets_stay NoTargets = NoTargets
  targets_stay (MoreTargets {first = first} {target = target} at is others) =
      MoreTargets (grows.targets first target at) (target_stays (length after.expressions) grows.count is)
      (targets_stay others)

  pub iteration_stays : {head : Iteration} {tree : TypedIteration} → IsIteration before storage head tree
      → IsIteration after storage head tree
  iteration_stays is = record {
    variable = is.variable;
    scalar = is.scalar;
    first = expression_in_stays is.first;
    last = expression_in_stays is.last;
    step = optional_stays is.step;
  }
