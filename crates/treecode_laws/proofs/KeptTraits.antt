-- The traits of a node, that it is quiet or stores nothing, are those of its tree.
use Rattle.treecode_laws.proofs.Prelude.{◌≡◌, ◌&&◌, Bool, Option, Some, refl, ap, ◌∙◌, slice_get, ℕ, TypedExpression, TypedReference, Subscript, Storage, Expression, ExpressionForm, Reference, IndexNode, Traits, IsExpression, IsNode, IsForm, IsNumber, IsValue, IsLocation, IsConstantList, IsConversion, IsEmbedded, IsUnary, IsBinary, IsCallOf, IsFunction, IsShift, IsInput, IsReference, IsPart, IsSubscript, IsAbsent, IsIndex, Nodes, KeepTraits, is_quiet_form, quiet_at, reference_is_quiet, reference_stores_nothing, stores_nothing_in_form, storing_nothing_at, subscript_is_quiet, subscript_stores_nothing, traits_of, node_traits, same_of_both, is_quiet, part_is_quiet, index_is_quiet, stores_nothing, part_stores_nothing, index_stores_nothing}

quiet_of_node : (nodes : Nodes) (number : ℕ) (expression : Expression) → KeepTraits nodes
    → slice_get nodes.expressions number ≡ Some expression
    → quiet_at nodes (record { index = number }) ≡ is_quiet_form nodes expression.form
unfolding traits_of
quiet_of_node nodes number expression keeps at =
    ap (λ (traits : Traits). traits.is_quiet) (node_traits nodes number expression keeps at)

storing_of_node : (nodes : Nodes) (number : ℕ) (expression : Expression) → KeepTraits nodes
    → slice_get nodes.expressions number ≡ Some expression
    → storing_nothing_at nodes (record { index = number }) ≡ stores_nothing_in_form nodes expression.form
unfolding traits_of
storing_of_node nodes number expression keeps at =
    ap (λ (traits : Traits). traits.stores_nothing) (node_traits nodes number expression keeps at)

module _ (nodes : Nodes) (storage : Storage) (keeps : KeepTraits nodes) where
  mutual
    -- a node is quiet if its tree is
    pub quiet_kept : {bound number : ℕ} {tree : TypedExpression}
        → IsExpression nodes storage bound number tree
        → quiet_at nodes (record { index = number }) ≡ is_quiet tree
    quiet_kept (IsNode {number = number} {expression = expression} below at scalar form) =
        quiet_of_node nodes number expression keeps at ∙ form_quiet form

    form_quiet : {bound : ℕ} {form : ExpressionForm} {tree : TypedExpression}
        → IsForm nodes storage bound form tree
        → is_quiet_form nodes form ≡ is_quiet tree
    form_quiet IsNumber = refl
    form_quiet (IsValue reference) = part_quiet reference
    form_quiet (IsLocation reference) = part_quiet reference
    form_quiet IsConstantList = refl
    form_quiet (IsConversion inner) = quiet_kept inner
    form_quiet (IsEmbedded target value) = refl
    form_quiet (IsUnary operand) = quiet_kept operand
    form_quiet (IsBinary left right) =
        same_of_both (λ (one two : Bool). one && two) (quiet_kept left) (quiet_kept right)
    form_quiet (IsCallOf given) = refl
    form_quiet (IsFunction operand) = quiet_kept operand
    form_quiet (IsShift moved by) =
        same_of_both (λ (one two : Bool). one && two) (quiet_kept moved) (quiet_kept by)
    form_quiet IsInput = refl

    -- the subscripts of a part of an object are quiet if those of its tree are
    pub part_quiet : {bound : ℕ} {reference : Reference} {part : TypedReference}
        → IsReference nodes storage bound reference part
        → reference_is_quiet nodes reference ≡ part_is_quiet part
    part_quiet (IsPart first second) =
        same_of_both (λ (one two : Bool). one && two) (index_quiet first) (index_quiet second)

    pub index_quiet : {bound : ℕ} {index : Option IndexNode} {subscript : Subscript}
        → IsSubscript nodes storage bound index subscript
        → subscript_is_quiet nodes index ≡ index_is_quiet subscript
    index_quiet IsAbsent = refl
    index_quiet (IsIndex index) = quiet_kept index

  mutual
    -- a node stores nothing if its tree stores nothing
    pub storing_kept : {bound number : ℕ} {tree : TypedExpression}
        → IsExpression nodes storage bound number tree
        → storing_nothing_at nodes (record { index = number }) ≡ stores_nothing tree
    storing_kept (IsNode {number = number} {expression = expression} below at scalar form) =
        storing_of_node nodes number expression keeps at ∙ form_storing form

    form_storing : {bound : ℕ} {form : ExpressionForm} {tree : TypedExpression}
        → IsForm nodes storage bound form tree
        → stores_nothing_in_form nodes form ≡ stores_nothing tree
    form_storing IsNumber = refl
    form_storing (IsValue reference) = part_storing reference
    form_storing (IsLocation reference) = part_storing reference
    form_storing IsConstantList = refl
    form_storing (IsConversion inner) = storing_kept inner
    form_storing (IsEmbedded target value) = refl
    form_storing (IsUnary operand) = storing_kept operand
    form_storing (IsBinary left right) =
        same_of_both (λ (one two : Bool). one && two) (storing_kept left) (storing_kept right)
    form_storing (IsCallOf given) = refl
    form_storing (IsFunction operand) = storing_kept operand
    form_storing (IsShift moved by) =
        same_of_both (λ (one two : Bool). one && two) (storing_kept moved) (storing_kept by)
    form_storing IsInput = refl

    -- the subscripts of a part of an object store nothing if those of its tree store nothing
    pub part_storing : {bound : ℕ} {reference : Reference} {part : TypedReference}
        → IsReference nodes storage bound reference part
        → reference_stores_nothing nodes reference ≡ part_stores_nothing part
    part_storing (IsPart first second) =
        same_of_both (λ (one two : Bool). one && two) (index_storing first) (index_storing second)

    pub index_storing : {bound : ℕ} {index : Option IndexNode} {subscript : Subscript}
        → IsSubscript nodes storage bound index subscript
        → subscript_stores_nothing nodes index ≡ index_stores_nothing subscript
    index_storing IsAbsent = refl
    index_storing (IsIndex index) = storing_kept index
