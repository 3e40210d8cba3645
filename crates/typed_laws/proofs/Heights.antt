-- A typed expression is at most 17 times as high as the levels that it takes in the text, and so is what is
-- highest in a statement.
use Rattle.typed_laws.proofs.Prelude.{◌≡◌, ℕ, ◌+◌, ◌*◌, ◌≤◌, List, [], ◌∷◌, length, map, Option, None, Some, IsSomeAnd, slice_get, refl, ap, arith, IfSome, option_map, ScalarType, Identifier, arguments_height, else_height, expression_height, iteration_height, kind_height, optional_height, reference_height, statements_height, targets_height, FromDigits, FromString, FromMeasure, count_of_arguments, height_of, height_of_arguments, height_of_else, height_of_iteration, height_of_list, height_of_optional, height_of_reference, height_of_statement, height_of_statements, height_of_subscript, height_of_target, height_of_targets, type_of, IsInElement, IsPartOf, IsScalarOf, TypedExpression, NumberNode, ValueNode, LocationNode, ListNode, ConversionNode, CallNode, FunctionNode, ShiftNode, InputNode, TypedReference, PartOf, Subscript, NoSubscript, At, TypedTarget, StoredIn, SentTo, TypedArguments, TypedIteration, TypedStatement, LabelStatement, MoveStatement, TypedElse, TypedStatements, TypedList, ListOf, ObjectType, ScalarObject, StructureObject, TypedObject, TypedProcedure, TypedModule, HasLocation, IsReturned, IsSeen, RefersToLocation, RefersToScalar, Takes, TypesHold, TypesHoldIn, TypesHoldInArguments, TypesHoldInElse, TypesHoldInIteration, TypesHoldInList, TypesHoldInReference, TypesHoldInStatements, TypesHoldInSubscript, TypesHoldInTarget, TypesHoldInTargets, Within, WithinProcedure, WithinMain, types_of, nameless, untyped_arguments, untyped_else, untyped_expression, untyped_iteration, untyped_kind, untyped_list, untyped_reference, untyped_statements, untyped_subscript, untyped_target, HasFewParameters, types_count}
use Rattle.typed_laws.proofs.Heads.{head_within}
use Rattle.typed_trees.specs.TypedTrees.{AssignmentNode, UnaryNode, BinaryNode, NoArguments, MoreArguments, NullStatement, AssignmentStatement, CallStatement, ReturnStatement, HaltStatement, GotoStatement, IfStatement, DoStatement, LoopStatement, CaseStatement, NoElse, ElseStatement, NoStatements, MoreStatements}

-- where no member is named there is no subscript of one
abbrev HasNoMore : (member : Option ℕ) → Subscript → Type 0
HasNoMore None subscript = subscript ≡ NoSubscript
HasNoMore (Some position) subscript = Unit {0}

no_more_in :
    (object_type : ObjectType) (member : Option ℕ) (offset : ℕ) (subscript : Subscript)
    → IsInElement object_type member offset subscript
    → HasNoMore member subscript
no_more_in (ScalarObject scalar) None offset subscript is = is.1
no_more_in (StructureObject members) None offset subscript is = is.1
no_more_in object_type (Some position) offset subscript is = tt

abbrev EndsAtNoMember : TypedReference → Type 0
EndsAtNoMember (PartOf number subscript member offset member_subscript) = HasNoMore member member_subscript

module _ (typed : TypedModule) (within : Within) (few : HasFewParameters typed) where
  no_more_of_scalar : (scalar : ScalarType) (reference : TypedReference)
      → RefersToScalar typed within scalar reference → EndsAtNoMember reference
  no_more_of_scalar scalar (PartOf number subscript member offset member_subscript) holds =
      by (slice_get typed.objects number) holds
    where
      by : (found : Option TypedObject)
          → IsSomeAnd found
          (λ (object : TypedObject). IsSeen typed within object.home
          × IsScalarOf object scalar (PartOf number subscript member offset member_subscript))
          → HasNoMore member member_subscript
      by None holds = absurd holds
      by (Some object) holds = no_more_in object.object_type member offset member_subscript ((holds.1).0).1

  no_more_of_location : (reference : TypedReference)
      → RefersToLocation typed within reference → EndsAtNoMember reference
  no_more_of_location (PartOf number subscript member offset member_subscript) holds =
      by (slice_get typed.objects number) holds
    where
      by : (found : Option TypedObject)
          → IsSomeAnd found
          (λ (object : TypedObject). IsSeen typed within object.home × HasLocation object.home
          × IsPartOf object (PartOf number subscript member offset member_subscript))
          → HasNoMore member member_subscript
      by None holds = absurd holds
      by (Some object) holds = no_more_in object.object_type member offset member_subscript (holds.2).1

  -- a call has at most 16 arguments
  few_arguments :
      (procedure : ℕ) (result : Option ScalarType) (values : TypedArguments)
      → Takes typed procedure result values
      → count_of_arguments values ≤ 16
  few_arguments procedure result values takes = by (slice_get typed.procedures procedure) refl takes
    where
      by : (entry : Option TypedProcedure)
          → slice_get typed.procedures procedure ≡ entry
          → IsSomeAnd entry
          (λ (found : TypedProcedure). (found.result ≡ result) × (found.parameter_types ≡ types_of values))
          → count_of_arguments values ≤ 16
      by None is holds = absurd holds
      by (Some found) is holds =
          let limit : length found.parameter_types ≤ 16 = few procedure found is in
          let same : length found.parameter_types ≡ length (types_of values) =
          ap (λ (scalars : List ScalarType). length scalars) holds.1 in
          let count : length (types_of values) ≡ count_of_arguments values = types_count values in
          omega (arith, limit, same, count)

  mutual
    pub expression_within :
        (expression : TypedExpression) → TypesHold typed within expression
        → height_of expression ≤ 17 * expression_height (untyped_expression typed expression)
    expression_within (NumberNode scalar value FromDigits) holds = omega arith
    expression_within (NumberNode scalar value FromString) holds = omega arith
    expression_within (NumberNode scalar value (FromMeasure measure object member)) holds = omega arith
    expression_within (ValueNode scalar reference) holds =
        let part = reference_within reference (no_more_of_scalar scalar reference holds.0) holds.1 in
        omega (arith, part)
    expression_within (LocationNode reference) holds =
        let part = reference_within reference (no_more_of_location reference holds.0) holds.1 in
        omega (arith, part)
    expression_within (ListNode list) holds = omega arith
    expression_within (ConversionNode scalar inner) holds = expression_within inner holds
    expression_within (AssignmentNode target inner) holds =
        let one = target_within (type_of inner) target holds.1 in
        let other = expression_within inner holds.0 in
        omega (arith, one, other)
    expression_within (UnaryNode scalar operator operand) holds =
        let part = expression_within operand holds.0 in omega (arith, part)
    expression_within (BinaryNode operands operator left right) holds =
        let one = expression_within left (holds.1).0 in
        let other = expression_within right (holds.2).0 in
        omega (arith, one, other)
    expression_within (CallNode procedure scalar values) holds =
        let count = few_arguments procedure (Some scalar) values holds.0 in
        let parts = arguments_within values holds.1 in
        omega (arith, count, parts)
    expression_within (FunctionNode function operand) holds =
        let part = expression_within operand holds in omega (arith, part)
    expression_within (ShiftNode scalar function shift_of count) holds =
        let one = expression_within shift_of (holds.1).0 in
        let other = expression_within count (holds.2).0 in
        omega (arith, one, other)
    expression_within (InputNode port) holds = omega arith

    reference_within :
        (reference : TypedReference) → EndsAtNoMember reference → TypesHoldInReference typed within reference
        → height_of_reference reference ≤ 1 + 17 * reference_height (untyped_reference typed reference)
    reference_within (PartOf number subscript None offset NoSubscript) none holds =
        let part = subscript_within subscript holds.0 in omega (arith, part)
    reference_within (PartOf number subscript None offset (At stride count index)) none holds = absurd cc
    reference_within (PartOf number subscript (Some position) offset member_subscript) none holds =
        let one = subscript_within subscript holds.0 in
        let other = subscript_within member_subscript holds.1 in
        omega (arith, one, other)

    subscript_within :
        (subscript : Subscript) → TypesHoldInSubscript typed within subscript
        → height_of_subscript subscript ≤ 17 * arguments_height (untyped_subscript typed subscript)
    subscript_within NoSubscript holds = omega arith
    subscript_within (At stride count index) holds =
        let part = expression_within index holds.0 in omega (arith, part)

    pub target_within :
        (scalar : ScalarType) (target : TypedTarget) → TypesHoldInTarget typed within scalar target
        → height_of_target target ≤ 1 + 17 * reference_height (untyped_target typed target)
    target_within scalar (StoredIn from to reference) holds =
        reference_within reference (no_more_of_scalar to reference holds.1) holds.2
    target_within scalar (SentTo from port) holds = omega arith

    pub arguments_within :
        (values : TypedArguments) → TypesHoldInArguments typed within values
        → height_of_arguments values ≤ 17 * arguments_height (untyped_arguments typed values)
    arguments_within NoArguments holds = omega arith
    arguments_within (MoreArguments first others) holds =
        let one = expression_within first holds.0 in
        let other = arguments_within others holds.1 in
        omega (arith, one, other)

  targets_within :
      (scalar : ScalarType) (targets : List TypedTarget) → TypesHoldInTargets typed within scalar targets
      → height_of_targets targets ≤ 1 + 17 * targets_height (map (untyped_target typed) targets)
  targets_within scalar [] holds = omega arith
  targets_within scalar (first ∷ others) holds =
      let one = target_within scalar first holds.0 in
      let other = targets_within scalar others holds.1 in
      omega (arith, one, other)

  optional_within :
      (value : Option TypedExpression) → IfSome value (TypesHold typed within)
      → height_of_optional value ≤ 17 * optional_height (option_map (untyped_expression typed) value)
  optional_within None holds = omega arith
  optional_within (Some value) holds = expression_within value holds

  iteration_within :
      (head : TypedIteration) → TypesHoldInIteration typed within head
      → height_of_iteration head ≤ 1 + 17 * iteration_height (untyped_iteration typed head)
  iteration_within head holds =
      let first = expression_within head.first holds.1 in
      let last = expression_within head.last holds.2 in
      let step = optional_within head.step holds.3 in
      omega (arith, first, last, step)

  -- what a RETURN gives has types that hold
  returned_within :
      (value : Option TypedExpression) → IsReturned typed within value
      → height_of_optional value ≤ 17 * optional_height (option_map (untyped_expression typed) value)
  returned_within None holds = omega arith
  returned_within (Some value) holds = by within holds (λ hold. expression_within value hold)
    where
      by : (at : Within) → IsReturned typed at (Some value)
          → (TypesHold typed at value
          → height_of value ≤ 17 * expression_height (untyped_expression typed value))
          → height_of value ≤ 17 * expression_height (untyped_expression typed value)
      by (WithinProcedure number None) holds then_is = absurd holds
      by (WithinProcedure number (Some scalar)) holds then_is = then_is holds.0
      by WithinMain holds then_is = absurd holds

  mutual
    pub statement_within :
        (statement : TypedStatement) → TypesHoldIn typed within statement
        → height_of_statement statement ≤ 17 * kind_height (untyped_kind typed statement)
    statement_within (LabelStatement label) holds = omega arith
    statement_within NullStatement holds = omega arith
    statement_within (AssignmentStatement targets value) holds =
        let one = targets_within (type_of value) targets holds.1 in
        let other = expression_within value holds.0 in
        omega (arith, one, other)
    statement_within (CallStatement procedure values) holds =
        let count = few_arguments procedure None values holds.0 in
        let parts = arguments_within values holds.1 in
        omega (arith, count, parts)
    statement_within (MoveStatement count source destination) holds =
        let one = expression_within count (holds.0).0 in
        let two = expression_within source (holds.1).0 in
        let three = expression_within destination (holds.2).0 in
        omega (arith, one, two, three)
    statement_within (ReturnStatement value) holds =
        let part = returned_within value holds in omega (arith, part)
    statement_within HaltStatement holds = omega arith
    statement_within (GotoStatement label) holds = omega arith
    statement_within (IfStatement condition body otherwise) holds =
        let one = expression_within condition holds.0 in
        let two = statement_within body holds.1 in
        let three = else_within otherwise holds.2 in
        omega (arith, one, two, three)
    statement_within (DoStatement body) holds = let part = list_within body holds in omega (arith, part)
    statement_within (LoopStatement head body) holds =
        let one = head_within typed within expression_within iteration_within head holds.0 in
        let other = list_within body holds.1 in
        omega (arith, one, other)
    statement_within (CaseStatement choice body) holds =
        let one = expression_within choice holds.0 in
        let other = statements_within body [] holds.1 in
        omega (arith, one, other)

    else_within :
        (otherwise : TypedElse) → TypesHoldInElse typed within otherwise
        → height_of_else otherwise ≤ 17 * else_height (untyped_else typed otherwise)
    else_within NoElse holds = omega arith
    else_within (ElseStatement statement) holds = statement_within statement holds

    statements_within :
        (statements : TypedStatements) (labels : List Identifier)
        → TypesHoldInStatements typed within statements
        → height_of_statements statements ≤ 17
        * statements_height (untyped_statements typed statements labels)
    statements_within NoStatements labels holds = omega arith
    statements_within (MoreStatements (LabelStatement label) others) labels holds =
        let rest = statements_within others (nameless ∷ labels) holds.1 in omega (arith, rest)
    statements_within (MoreStatements first others) labels holds =
        let one = statement_within first holds.0 in
        let other = statements_within others [] holds.1 in
        omega (arith, one, other)

    pub list_within :
        (list : TypedList) → TypesHoldInList typed within list
        → height_of_list list ≤ 17 * statements_height (untyped_list typed list)
    list_within (ListOf first places statements) holds = statements_within statements [] holds
