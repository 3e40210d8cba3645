-- Arguments in lists, where there are too many of them or none.
use Rattle.typed_expressions.proofs.Prelude.{◌≡◌, ℕ, ◌<◌, List, [], ◌∷◌, length, Option, None, Some, refl, ap, slice_get, arith, NumberConstant, StringConstant, ConstantLeaf, ReferenceLeaf, LocationLeaf, ListLeaf, ParenthesizedNode, AssignmentNode, UnaryNode, BinaryNode, ArgumentTrees, NoArguments, MoreArguments, Expression, argument_trees, expression_tree, TypedExpression, NoSubscript, arguments_view, PortNotConstant, refuse, subscript_of, port_of, only_tree, Place}

-- more than one index is no subscript
pub several_indices :
    (stride : ℕ) (dimension : Option ℕ) (indices : List TypedExpression) → 1 < length indices
    → subscript_of stride dimension (arguments_view indices) ≡ NoSubscript
several_indices stride None indices more = refl
several_indices stride (Some count) [] more = absurd (omega arith)
several_indices stride (Some count) (first ∷ []) more = absurd (omega arith)
several_indices stride (Some count) (first ∷ second ∷ others) more = refl

-- no argument, or more than one, tells no port
pub no_port : (place : Place) (trees : ArgumentTrees) → only_tree trees ≡ None
    → port_of place trees ≡ refuse PortNotConstant place
no_port place NoArguments none = refl
no_port place (MoreArguments first NoArguments) none = absurd (cc)
no_port place (MoreArguments (ConstantLeaf (NumberConstant number)) (MoreArguments second others)) none = refl
no_port place (MoreArguments (ConstantLeaf (StringConstant string)) (MoreArguments second others)) none = refl
no_port place (MoreArguments (ReferenceLeaf reference) (MoreArguments second others)) none = refl
no_port place (MoreArguments (LocationLeaf reference) (MoreArguments second others)) none = refl
no_port place (MoreArguments (ListLeaf list) (MoreArguments second others)) none = refl
no_port place (MoreArguments (ParenthesizedNode inner) (MoreArguments second others)) none = refl
no_port place (MoreArguments (AssignmentNode target value) (MoreArguments second others)) none = refl
no_port place (MoreArguments (UnaryNode operator operand) (MoreArguments second others)) none = refl
no_port place (MoreArguments (BinaryNode operator left right) (MoreArguments second others)) none = refl

-- an argument that stands alone, and others
pub one_argument : (arguments : List Expression) (first : Expression) → length arguments ≡ 1
    → slice_get arguments 0 ≡ Some first
    → argument_trees arguments ≡ MoreArguments (expression_tree first) NoArguments
one_argument [] first one is = absurd (omega arith)
one_argument (argument ∷ []) first one is =
    let same : argument ≡ first = cc in ap (λ found. MoreArguments (expression_tree found) NoArguments) same
one_argument (argument ∷ second ∷ others) first one is = absurd (omega arith)

pub no_only : (arguments : List Expression) → (length arguments ≡ 1 → ⊥)
    → only_tree (argument_trees arguments) ≡ None
no_only [] other = refl
no_only (argument ∷ []) other = absurd (other refl)
no_only (argument ∷ second ∷ others) other = refl
