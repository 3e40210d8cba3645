-- The traits of nodes follow from the trees that they represent.
use Rattle.treecode.proofs.Prelude.{◌≡◌, ℕ, suc, ◌+◌, ◌%◌, min, max, Option, Some, option_map, slice_get, refl, ap, ◌∙◌, arith, option_map_or, option_and_then, ScalarType, count_of_arguments, height_of, height_of_trees, height_of_part, height_of_index, height_of_goal, type_of, TypedExpression, TypedReference, Subscript, TypedTarget, TypedArguments, Storage, result_of_one, shifted, Expression, ExpressionForm, ExpressionNumber, Place, Number, Reference, IndexNode, Target, Traits, converted_place, function_of_place, known_distance, known_number, known_place, known_subscript, known_value, place_of_part, result_of_known, shift_of_known, IsExpression, IsNode, IsForm, IsNumber, IsValue, IsLocation, IsConstantList, IsConversion, IsEmbedded, IsUnary, IsBinary, IsCallOf, IsFunction, IsShift, IsInput, IsReference, IsPart, IsSubscript, IsAbsent, IsIndex, IsTarget, IsStored, IsSent, AreArguments, AreNone, AreMore, Nodes, home_at, KeepTraits, distance_of, height_at, height_of_arguments, height_of_form, height_of_reference, height_of_subscript, height_of_target, known_at, known_of, no_traits, place_of_reference, traits_at, traits_of}
use Rattle.treecode.proofs.SameTraits.{same_of_both}

-- the traits of the expression with this number
pub node_traits : (nodes : Nodes) (number : ℕ) (expression : Expression) → KeepTraits nodes
    → slice_get nodes.expressions number ≡ Some expression
    → traits_at nodes (record { index = number }) ≡ traits_of nodes expression.traits.scalar expression.form
node_traits nodes number expression keeps at =
    ap (λ (found : Option Expression). option_map_or (λ (e : Expression). e.traits) found no_traits) at
    ∙ keeps number expression at

pub known_of_node : (nodes : Nodes) (number : ℕ) (expression : Expression) → KeepTraits nodes
    → slice_get nodes.expressions number ≡ Some expression
    → known_at nodes (record { index = number }) ≡ known_of nodes expression.traits.scalar expression.form
unfolding traits_of
known_of_node nodes number expression keeps at =
    ap (λ (traits : Traits). traits.known) (node_traits nodes number expression keeps at)

height_of_node : (nodes : Nodes) (number : ℕ) (expression : Expression) → KeepTraits nodes
    → slice_get nodes.expressions number ≡ Some expression
    → height_at nodes (record { index = number }) ≡ height_of_form nodes expression.form
unfolding traits_of
height_of_node nodes number expression keeps at =
    ap (λ (traits : Traits). traits.height) (node_traits nodes number expression keeps at)

-- numbers that saturate at 65535
more : (added kept height : ℕ) → kept ≡ min height 65535 → min (added + kept) 65535
    ≡ min (added + height) 65535
more added kept height e = omega arith

highest : (kept height other_kept other : ℕ) → kept ≡ min height 65535 → other_kept ≡ min other 65535
    → max kept other_kept ≡ min (max height other) 65535
highest kept height other_kept other e f = omega arith

higher : (added kept height other_kept other : ℕ) → kept ≡ min height 65535 → other_kept ≡ min other 65535
    → min (added + max kept other_kept) 65535 ≡ min (added + max height other) 65535
higher added kept height other_kept other e f = omega arith

call_height : (count trees kept height : ℕ) → count ≡ trees → kept ≡ min height 65535
    → min (1 + count + kept) 65535 ≡ min (1 + trees + height) 65535
call_height count trees kept height e f = omega arith

-- the number of arguments
pub arguments_count : {nodes : Nodes} {storage : Storage} {bound first count : ℕ} {trees : TypedArguments}
    → AreArguments nodes storage bound first count trees → count ≡ count_of_arguments trees
arguments_count AreNone = refl
arguments_count (AreMore at argument others) = let e : _ = arguments_count others in omega arith

module _ (nodes : Nodes) (storage : Storage) (keeps : KeepTraits nodes) where
  mutual
    -- a known value among the traits is that of the tree
    pub known_kept : {bound number : ℕ} {tree : TypedExpression}
        → IsExpression nodes storage bound number tree
        → known_at nodes (record { index = number }) ≡ known_value nodes.homes storage tree
    known_kept (IsNode {number = number} {tree = tree} {expression = expression} below at scalar form) =
        known_of_node nodes number expression keeps at
        ∙ ap (λ (of : ScalarType). known_of nodes of expression.form) scalar ∙ known_of_form form

    known_of_form : {bound : ℕ} {form : ExpressionForm} {tree : TypedExpression}
        → IsForm nodes storage bound form tree
        → known_of nodes (type_of tree) form ≡ known_value nodes.homes storage tree
    known_of_form IsNumber = refl
    known_of_form (IsValue reference) = refl
    known_of_form (IsLocation reference) = place_kept reference
    known_of_form IsConstantList = refl
    known_of_form (IsConversion {scalar = scalar} inner) =
        ap (λ (known : Option Place). option_and_then (converted_place scalar) known) (known_kept inner)
    known_of_form (IsEmbedded target value) = refl
    known_of_form (IsUnary {scalar = scalar} {operator = operator} operand) =
        ap
        (λ (known : Option Place).
        option_map (λ number. Number (result_of_one scalar operator number)) (known_number known))
        (known_kept operand)
    known_of_form (IsBinary {operands = operands} {operator = operator} left right) =
        same_of_both (λ (one two : Option Place). result_of_known operands operator one two) (known_kept left)
        (known_kept right)
    known_of_form (IsCallOf given) = refl
    known_of_form (IsFunction {function = function} operand) =
        ap (λ (known : Option Place). option_and_then (function_of_place function) known) (known_kept operand)
    known_of_form (IsShift {scalar = scalar} {function = function} moved by) =
        same_of_both
        (λ (one two : Option Place). shift_of_known (shifted scalar function) (known_number one)
        (known_number two))
        (known_kept moved) (known_kept by)
    known_of_form IsInput = refl

    place_kept : {bound : ℕ} {reference : Reference} {part : TypedReference}
        → IsReference nodes storage bound reference part
        → place_of_reference nodes reference ≡ known_place nodes.homes storage part
    place_kept (IsPart {object = object} {offset = offset} first second) =
        same_of_both
        (λ (one two : Option ℕ). place_of_part (home_at nodes.homes object) (offset % 65536) one two)
        (distance_kept first) (distance_kept second)

    distance_kept : {bound : ℕ} {index : Option IndexNode} {subscript : Subscript}
        → IsSubscript nodes storage bound index subscript
        → distance_of nodes index ≡ known_subscript nodes.homes storage subscript
    distance_kept IsAbsent = refl
    distance_kept (IsIndex {stride = stride} index) =
        ap (λ (known : Option Place). known_distance (stride % 65536) (known_number known)) (known_kept index)

  mutual
    -- a height among the traits is that of the tree, saturated at 65535
    pub height_kept : {bound number : ℕ} {tree : TypedExpression}
        → IsExpression nodes storage bound number tree
        → height_at nodes (record { index = number }) ≡ min (height_of tree) 65535
    height_kept (IsNode {number = number} {tree = tree} {expression = expression} below at scalar form) =
        height_of_node nodes number expression keeps at ∙ form_height form

    pub form_height : {bound : ℕ} {form : ExpressionForm} {tree : TypedExpression}
        → IsForm nodes storage bound form tree
        → height_of_form nodes form ≡ min (height_of tree) 65535
    form_height IsNumber = refl
    form_height (IsValue reference) = reference_height reference
    form_height (IsLocation reference) = reference_height reference
    form_height IsConstantList = refl
    form_height (IsConversion inner) = height_kept inner
    form_height (IsEmbedded target value) = higher 1 _ _ _ _ (target_height target) (height_kept value)
    form_height (IsUnary operand) = more 1 _ _ (height_kept operand)
    form_height (IsBinary left right) = higher 1 _ _ _ _ (height_kept left) (height_kept right)
    form_height (IsCallOf {range = range} given) =
        call_height _ _ _ _ (arguments_count given) (arguments_height given)
    form_height (IsFunction operand) = more 2 _ _ (height_kept operand)
    form_height (IsShift moved by) = higher 3 _ _ _ _ (height_kept moved) (height_kept by)
    form_height IsInput = refl

    reference_height : {bound : ℕ} {reference : Reference} {part : TypedReference}
        → IsReference nodes storage bound reference part
        → height_of_reference nodes reference ≡ min (height_of_part part) 65535
    reference_height (IsPart first second) = higher 1 _ _ _ _ (index_height first) (index_height second)

    index_height : {bound : ℕ} {index : Option IndexNode} {subscript : Subscript}
        → IsSubscript nodes storage bound index subscript
        → height_of_subscript nodes index ≡ min (height_of_index subscript) 65535
    index_height IsAbsent = refl
    index_height (IsIndex index) = height_kept index

    pub target_height : {bound : ℕ} {target : Target} {tree : TypedTarget}
        → IsTarget nodes storage bound target tree
        → height_of_target nodes target ≡ min (height_of_goal tree) 65535
    target_height (IsStored reference) = reference_height reference
    target_height IsSent = refl

    arguments_height : {bound first count : ℕ} {trees : TypedArguments}
        → AreArguments nodes storage bound first count trees
        → height_of_arguments nodes first count ≡ min (height_of_trees trees) 65535
    arguments_height AreNone = refl
    arguments_height (AreMore {first = first} {count = count} {number = number} at argument others) =
        ap
        (λ (found : Option ExpressionNumber).
        max (option_map_or (height_at nodes) found 0) (height_of_arguments nodes (suc first) count)) at
        ∙ highest _ _ _ _ (height_kept argument) (arguments_height others)
