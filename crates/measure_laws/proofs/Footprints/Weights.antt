-- The weights of tree code at a site are those of the typed trees.
use Rattle.measure_laws.proofs.Prelude.{◌≡◌, ℕ, zero, suc, ◌+◌, ◌≤◌, Option, Some, None, slice_get, refl, ap, ◌∙◌, arith, option_map_or, TypedArguments, TypedExpression, TypedReference, TypedTarget, weight_of_arguments, weight_of_expression, weight_of_reference, weight_of_subscript, weight_of_target, Storage, Expression, ExpressionForm, ExpressionNumber, Reference, IndexNode, Target, AreArguments, AreMore, AreNone, IsAbsent, IsBinary, IsCallOf, IsConstantList, IsConversion, IsEmbedded, IsExpression, IsForm, IsFunction, IsIndex, IsInput, IsLocation, IsNode, IsNumber, IsPart, IsReference, IsSent, IsShift, IsStored, IsSubscript, IsTarget, IsUnary, IsValue, Nodes, no_traits, Site, expression, scalar, beside_at, beside_within, weight_in_form, weight_in_target, weight_of_given, weight_of_index, weight_of_indices, beside, type_at}
use Rattle.trees.specs.declared.declaration.ScalarType.TheVariants as scalars
use Rattle.typed_trees.specs.TypedTrees.{Subscript}

-- this is the weight beside 1 of the expressions with numbers below a limit
abbrev pub Weighs : Nodes → Storage → (limit : ℕ) → (beside : ℕ → ℕ) → Type 0
Weighs nodes storage limit beside =
    (bound number : ℕ) (tree : TypedExpression) → bound ≤ limit
    → IsExpression nodes storage bound number tree
    → 1 + beside number ≡ weight_of_expression tree

subscript_weighs :
    (nodes : Nodes) (storage : Storage) (limit : ℕ) (beside : ℕ → ℕ) {bound : ℕ} {index : Option IndexNode}
    {subscript : Subscript}
    → Weighs nodes storage limit beside
    → bound ≤ limit
    → IsSubscript nodes storage bound index subscript
    → weight_of_index beside index ≡ weight_of_subscript subscript
subscript_weighs nodes storage limit beside weighs enough IsAbsent = refl
subscript_weighs nodes storage limit beside {bound = bound} weighs enough
    (IsIndex {number = number} {index = index} one) =
    weighs bound number.index index enough one

pub reference_weighs :
    (nodes : Nodes) (storage : Storage) (limit : ℕ) (beside : ℕ → ℕ) {bound : ℕ} {reference : Reference}
    {part : TypedReference}
    → Weighs nodes storage limit beside
    → bound ≤ limit
    → IsReference nodes storage bound reference part
    → weight_of_indices beside reference ≡ weight_of_reference part
reference_weighs nodes storage limit beside weighs enough
    (IsPart {first = first} {second = second} {subscript = subscript}
    {member_subscript = member_subscript} one two) =
    let before : weight_of_index beside first ≡ weight_of_subscript subscript =
    subscript_weighs nodes storage limit beside weighs enough one in
    let after : weight_of_index beside second ≡ weight_of_subscript member_subscript =
    subscript_weighs nodes storage limit beside weighs enough two in
    omega (arith, before, after)

pub target_weighs :
    (nodes : Nodes) (storage : Storage) (limit : ℕ) (beside : ℕ → ℕ) {bound : ℕ} {target : Target}
    {tree : TypedTarget}
    → Weighs nodes storage limit beside
    → bound ≤ limit
    → IsTarget nodes storage bound target tree
    → 1 + weight_in_target beside target ≡ weight_of_target tree
target_weighs nodes storage limit beside weighs enough
    (IsStored {from = from} {to = to} {reference = reference} {part = part} one) =
    let first : weight_of_indices beside reference ≡ weight_of_reference part =
    reference_weighs nodes storage limit beside weighs enough one in
    omega (arith, first)
target_weighs nodes storage limit beside weighs enough IsSent = refl

pub arguments_weigh :
    (nodes : Nodes) (storage : Storage) (limit : ℕ) (beside : ℕ → ℕ) {bound first count : ℕ}
    {trees : TypedArguments}
    → Weighs nodes storage limit beside
    → bound ≤ limit
    → AreArguments nodes storage bound first count trees
    → weight_of_given beside nodes.arguments first count ≡ weight_of_arguments trees
arguments_weigh nodes storage limit beside weighs enough AreNone = refl
arguments_weigh nodes storage limit beside {bound = bound} weighs enough
    (AreMore {first = first} {count = count} {number = number} {tree = tree}
    {others = others} there one more) =
    let this : 1 + beside number.index ≡ weight_of_expression tree =
    weighs bound number.index tree enough one in
    let rest : weight_of_given beside nodes.arguments (suc first) count ≡ weight_of_arguments others =
    arguments_weigh nodes storage limit beside weighs enough more in
    let here : option_map_or (λ (one : ExpressionNumber). 1 + beside one.index)
    (slice_get nodes.arguments first) 0
    ≡ 1 + beside number.index =
    ap (λ (entry : Option ExpressionNumber). option_map_or
    (λ (one : ExpressionNumber). 1 + beside one.index) entry 0) there in
    omega (arith, this, rest, here)

pub form_weighs :
    (nodes : Nodes) (storage : Storage) (limit : ℕ) (beside : ℕ → ℕ) {bound : ℕ} {form : ExpressionForm}
    {tree : TypedExpression}
    → Weighs nodes storage limit beside
    → bound ≤ limit
    → IsForm nodes storage bound form tree
    → 1 + weight_in_form beside nodes.arguments form ≡ weight_of_expression tree
form_weighs nodes storage limit beside weighs enough IsNumber = refl
form_weighs nodes storage limit beside weighs enough (IsValue part) =
    ap (λ n. 1 + n) (reference_weighs nodes storage limit beside weighs enough part)
form_weighs nodes storage limit beside weighs enough (IsLocation part) =
    ap (λ n. 1 + n) (reference_weighs nodes storage limit beside weighs enough part)
form_weighs nodes storage limit beside weighs enough IsConstantList = refl
form_weighs nodes storage limit beside {bound = bound} weighs enough
    (IsConversion {inner = inner} {tree = tree} one) =
    let first : 1 + beside inner.index ≡ weight_of_expression tree =
    weighs bound inner.index tree enough one in
    omega (arith, first)
form_weighs nodes storage limit beside {bound = bound} weighs enough
    (IsEmbedded {target = target} {value = value} {to = to} {tree = tree} aim one) =
    let first : 1 + beside value.index ≡ weight_of_expression tree =
    weighs bound value.index tree enough one in
    let second : 1 + weight_in_target beside target ≡ weight_of_target to =
    target_weighs nodes storage limit beside weighs enough aim in
    omega (arith, first, second)
form_weighs nodes storage limit beside {bound = bound} weighs enough
    (IsUnary {operand = operand} {tree = tree} one) =
    let first : 1 + beside operand.index ≡ weight_of_expression tree =
    weighs bound operand.index tree enough one in
    omega (arith, first)
form_weighs nodes storage limit beside {bound = bound} weighs enough
    (IsBinary {left = left} {right = right} {first = first} {second = second} one two) =
    let before : 1 + beside left.index ≡ weight_of_expression first =
    weighs bound left.index first enough one in
    let after : 1 + beside right.index ≡ weight_of_expression second =
    weighs bound right.index second enough two in
    omega (arith, before, after)
form_weighs nodes storage limit beside weighs enough (IsCallOf are) =
    ap (λ n. 1 + n) (arguments_weigh nodes storage limit beside weighs enough are)
form_weighs nodes storage limit beside {bound = bound} weighs enough
    (IsFunction {operand = operand} {tree = tree} one) =
    let first : 1 + beside operand.index ≡ weight_of_expression tree =
    weighs bound operand.index tree enough one in
    omega (arith, first)
form_weighs nodes storage limit beside {bound = bound} weighs enough
    (IsShift {value = value} {count = count} {shifted = shifted} {by = by} one two) =
    let before : 1 + beside value.index ≡ weight_of_expression shifted =
    weighs bound value.index shifted enough one in
    let after : 1 + beside count.index ≡ weight_of_expression by = weighs bound count.index by enough two in
    omega (arith, before, after)
form_weighs nodes storage limit beside weighs enough IsInput = refl

-- with levels for all numbers below a bound
within_weighs : (nodes : Nodes) (storage : Storage) (levels : ℕ)
    → Weighs nodes storage levels (beside_within nodes levels)
within_weighs nodes storage zero bound number tree enough (IsNode below there scalar form) =
    absurd (omega (arith, enough, below))
within_weighs nodes storage (suc levels) bound number tree enough
    (IsNode {expression = found} below there scalar form) =
    ap (λ (entry : Option Expression). 1 + option_map_or
    (λ (one : Expression). weight_in_form (beside_within nodes levels) nodes.arguments one.form) entry 0)
    there
    ∙ form_weighs nodes storage levels (beside_within nodes levels) {form = found.form}
    (within_weighs nodes storage levels)
    (omega (arith, enough, below)) form

pub weighs_at : (nodes : Nodes) (storage : Storage) (limit : ℕ) → Weighs nodes storage limit (beside_at nodes)
unfolding beside_at
weighs_at nodes storage limit bound number tree enough (IsNode below there scalar form) =
    within_weighs nodes storage (suc number) (suc number) number tree (omega arith)
    (IsNode (omega arith) there scalar form)

-- the type of an expression that is found
pub type_found :
    (site : Site) (number : ExpressionNumber) (found : Expression)
    → expression site number ≡ Some found
    → type_at site number ≡ found.traits.scalar
unfolding expression
type_found site number found there =
    ap (λ (entry : Option Expression). (option_map_or (λ (one : Expression). one.traits) entry
    no_traits).scalar) there

pub type_is : (site : Site) (number : ExpressionNumber) → scalar site number ≡ type_at site number
unfolding scalar expression
type_is site number = by (slice_get site.tree.now.expressions.items number.index)
  where
    by : (found : Option Expression)
        → elim found [ Some one ↦ one.traits.scalar | None ↦ scalars.Byte ]
        ≡ (option_map_or (λ (one : Expression). one.traits) found no_traits).scalar
    by (Some one) = refl
    by None = refl
