-- The operands of built-in functions.
use Rattle.typed_expressions.proofs.Prelude.{◌≡◌, ℕ, List, [], ◌∷◌, ◌++◌, length, false, refl, ap, sym, ◌∙◌, arith, length-append, ConstantLeaf, ReferenceLeaf, LocationLeaf, ListLeaf, ParenthesizedNode, AssignmentNode, UnaryNode, BinaryNode, ReferenceTo, ArgumentTrees, NoArguments, MoreArguments, Expression, Identifier, Place, MemberOf, argument_trees, TypedExpression, Measure, ShiftFunction, UnaryFunction, TypedObject, arguments_view, ArgumentCount, NotMeasurable, refuse, Known, function_of, shift_of, measured_member, measurement, is_plain}

pub no_operand : (function : UnaryFunction) (place : Place) (values : List TypedExpression)
    → (length values ≡ 1 → ⊥) → function_of function place (arguments_view values)
    ≡ refuse ArgumentCount place
no_operand function place [] other = refl
no_operand function place (value ∷ []) other = absurd (other refl)
no_operand function place (value ∷ second ∷ others) other = refl

pub no_pair : (function : ShiftFunction) (place : Place) (values : List TypedExpression)
    → (length values ≡ 2 → ⊥) → shift_of function place (arguments_view values) ≡ refuse ArgumentCount place
no_pair function place [] other = refl
no_pair function place (value ∷ []) other = refl
no_pair function place (value ∷ second ∷ []) other = absurd (other refl)
no_pair function place (value ∷ second ∷ third ∷ others) other = refl

-- what is left of operands once the last is taken
empty_front : {A : Type 0} (front : List A) (rest : List A)
    → length (front ++ rest) ≡ length rest → front ≡ []
empty_front [] rest same = refl
empty_front (first ∷ others) rest same = absurd (omega (arith, length-append others rest))

pub one_operand : (values front : List TypedExpression) (operand : TypedExpression) → length values ≡ 1
    → values ≡ front ++ operand ∷ [] → values ≡ operand ∷ []
one_operand values front operand one is =
    is ∙ ap (λ before. before ++ operand ∷ []) (empty_front front (operand ∷ []) (ap length (sym is) ∙ one))

pub two_operands : (values front rest : List TypedExpression) (value count : TypedExpression)
    → length values ≡ 2 → values ≡ front ++ count ∷ [] → front ≡ rest ++ value ∷ []
    → values ≡ value ∷ count ∷ []
two_operands values front rest value count two is before =
    let one : length front ≡ 1 = omega (arith, ap length is, length-append front (count ∷ [])) in
    is ∙ ap (λ all. all ++ count ∷ []) (one_operand front rest value one before)

-- a member with arguments is not measured
pub member_with_arguments : (number : ℕ) (object : TypedObject) (name : Identifier)
    (arguments : List Expression) → (length arguments ≡ 0 → ⊥)
    → measured_member number object (MemberOf name (argument_trees arguments))
    ≡ refuse NotMeasurable name.place
member_with_arguments number object name [] other = absurd (other refl)
member_with_arguments number object name (first ∷ others) other = refl

-- what is no variable without subscripts is not measured
pub no_measurement : (known : Known) (measure : Measure) (place : Place) (trees : ArgumentTrees)
    → is_plain trees ≡ false → measurement known measure place trees ≡ refuse NotMeasurable place
no_measurement known measure place NoArguments other = refl
no_measurement known measure place
    (MoreArguments (ReferenceLeaf (ReferenceTo name NoArguments part)) NoArguments) other = absurd (cc)
no_measurement known measure place
    (MoreArguments (ReferenceLeaf (ReferenceTo name NoArguments part)) (MoreArguments second others)) other =
    refl
no_measurement known measure place
    (MoreArguments (ReferenceLeaf (ReferenceTo name (MoreArguments first rest) part)) others) other = refl
no_measurement known measure place (MoreArguments (ConstantLeaf constant) others) other = refl
no_measurement known measure place (MoreArguments (LocationLeaf reference) others) other = refl
no_measurement known measure place (MoreArguments (ListLeaf list) others) other = refl
no_measurement known measure place (MoreArguments (ParenthesizedNode inner) others) other = refl
no_measurement known measure place (MoreArguments (AssignmentNode target value) others) other = refl
no_measurement known measure place (MoreArguments (UnaryNode operator operand) others) other = refl
no_measurement known measure place (MoreArguments (BinaryNode operator left right) others) other = refl
