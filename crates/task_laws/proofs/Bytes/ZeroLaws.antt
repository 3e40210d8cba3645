-- The steps that test whether an ADDRESS is 0 show it.
use Rattle.task_laws.proofs.Prelude.{◌≡◌, ℕ, ◌*◌, ◌%◌, ◌==◌, Bool, true, false, ◌||◌, nat_lt, bit_and, ◌++◌, Option, Some, None, refl, sym, ap, ◌∙◌, subst, arith, if◌then◌else◌, none-some, same_Some, and_comm, height_of, TypedExpression, TypesHold, SourceState, Outcome, Gave, Stopped, then_do, ExpressionNumber, IsExpression, Facts, part, Is, Setting, number_in_a_steps, masked_steps, zero_by_hl_steps, knowing, Context, IsSound, nodes_in, StepsStand, Carries, Nothing, PartDoes, BinaryNode, Expression, ExpressionForm, IsForm, IsNumber, IsValue, IsLocation, IsConstantList, IsConversion, IsEmbedded, IsUnary, IsBinary, IsCallOf, IsFunction, IsShift, IsInput, number, masked, masked_form, word_is_zero_steps}
use Rattle.trees.specs.declared.declaration.ScalarType.TheVariants as scalars
use Rattle.task_laws.proofs.Bytes.BytesAsked.{HighBytesGiven, ZeroIsShown}
use Rattle.task_laws.proofs.Machine.SiteNodes.{value_in}
use Rattle.trees.specs.declared.expression.BinaryOperator.TheVariants as operators
use Rattle.task_laws.proofs.Bytes.BytesAsked.{ZerosShown}
use Rattle.task_laws.proofs.Machine.Nodes.{node_of}
use Rattle.task_laws.proofs.Machine.SiteNodes.{number_means}
use Rattle.task_laws.proofs.Bytes.Zeros.{zero_by_hl, zero_by_mask}

-- the operand of a mask
data IsMasked (context : Context) (facts : Facts) (bound : ℕ) : TypedExpression → (ExpressionNumber × ℕ) → Type 0 where
  RightMask : {left right : ExpressionNumber} {first second : TypedExpression} {mask : ℕ}
      → IsExpression (nodes_in context) context.storage bound left.index first
      → IsExpression (nodes_in context) context.storage bound right.index second
      → number (knowing context.site facts) right ≡ Some mask
      → IsMasked context facts bound (BinaryNode scalars.Address operators.And first second) (left, mask)
  LeftMask : {left right : ExpressionNumber} {first second : TypedExpression} {mask : ℕ}
      → IsExpression (nodes_in context) context.storage bound left.index first
      → IsExpression (nodes_in context) context.storage bound right.index second
      → number (knowing context.site facts) left ≡ Some mask
      → IsMasked context facts bound (BinaryNode scalars.Address operators.And first second) (right, mask)

masked_binary :
    {context : Context} {bound : ℕ} {left right : ExpressionNumber}
    {first second : TypedExpression} (facts : Facts)
    (found : ExpressionNumber × ℕ)
    → IsExpression (nodes_in context) context.storage bound left.index first
    → IsExpression (nodes_in context) context.storage bound right.index second
    → (right_number left_number : Option ℕ)
    → number (knowing context.site facts) right ≡ right_number
    → number (knowing context.site facts) left ≡ left_number
    → elim right_number [
      | Some mask ↦ Some (left, mask)
      | None ↦ elim left_number [
        | Some mask ↦ Some (right, mask)
        | None ↦ None
      ]
    ]
    ≡ Some found
    → IsMasked context facts bound (BinaryNode scalars.Address operators.And first second) found
masked_binary {context = context} {bound = bound} {left = left} {first = first} {second = second} facts found
    one two (Some mask) left_number is left_is same =
    subst (λ (pair : ExpressionNumber × ℕ). IsMasked context facts bound
    (BinaryNode scalars.Address operators.And first second) pair)
    (same_Some {A = ExpressionNumber × ℕ} (left, mask) found same) (RightMask one two is)
masked_binary {context = context} {bound = bound} {right = right} {first = first} {second = second} facts
    found one two None (Some mask) is left_is same =
    subst (λ (pair : ExpressionNumber × ℕ). IsMasked context facts bound
    (BinaryNode scalars.Address operators.And first second) pair)
    (same_Some {A = ExpressionNumber × ℕ} (right, mask) found same) (LeftMask one two left_is)
masked_binary facts found one two None None is left_is same = absurd (none-some found same)

masked_node :
    {context : Context} {bound : ℕ} {tree : TypedExpression} {form : ExpressionForm} (facts : Facts)
    (found : ExpressionNumber × ℕ)
    → IsForm (nodes_in context) context.storage bound form tree
    → masked_form (knowing context.site facts) form ≡ Some found
    → IsMasked context facts bound tree found
masked_node {context = context} facts found
    (IsBinary {operands = scalars.Address} {operator = operators.And} {left = left} {right = right} one two)
    is =
    masked_binary facts found one two (number (knowing context.site facts) right)
    (number (knowing context.site facts) left) refl refl is
masked_node facts found (IsBinary {operands = scalars.Byte} one two) is = absurd (none-some found is)
masked_node facts found (IsBinary {operands = scalars.Address} {operator = operators.Or} one two) is =
    absurd (none-some found is)
masked_node facts found (IsBinary {operands = scalars.Address} {operator = operators.Xor} one two) is =
    absurd (none-some found is)
masked_node facts found (IsBinary {operands = scalars.Address} {operator = operators.Equal} one two) is =
    absurd (none-some found is)
masked_node facts found (IsBinary {operands = scalars.Address} {operator = operators.Less} one two) is =
    absurd (none-some found is)
masked_node facts found (IsBinary {operands = scalars.Address} {operator = operators.Greater} one two) is =
    absurd (none-some found is)
masked_node facts found (IsBinary {operands = scalars.Address} {operator = operators.LessOrEqual} one two)
    is = absurd (none-some found is)
masked_node facts found (IsBinary {operands = scalars.Address} {operator = operators.GreaterOrEqual} one two)
    is = absurd (none-some found is)
masked_node facts found (IsBinary {operands = scalars.Address} {operator = operators.Unequal} one two) is =
    absurd (none-some found is)
masked_node facts found (IsBinary {operands = scalars.Address} {operator = operators.Add} one two) is =
    absurd (none-some found is)
masked_node facts found (IsBinary {operands = scalars.Address} {operator = operators.Subtract} one two) is =
    absurd (none-some found is)
masked_node facts found (IsBinary {operands = scalars.Address} {operator = operators.Multiply} one two) is =
    absurd (none-some found is)
masked_node facts found (IsBinary {operands = scalars.Address} {operator = operators.Divide} one two) is =
    absurd (none-some found is)
masked_node facts found (IsBinary {operands = scalars.Address} {operator = operators.Modulo} one two) is =
    absurd (none-some found is)
masked_node facts found IsNumber is = absurd (none-some found is)
masked_node facts found (IsValue part) is = absurd (none-some found is)
masked_node facts found (IsLocation part) is = absurd (none-some found is)
masked_node facts found IsConstantList is = absurd (none-some found is)
masked_node facts found (IsConversion inner) is = absurd (none-some found is)
masked_node facts found (IsEmbedded target inner) is = absurd (none-some found is)
masked_node facts found (IsUnary inner) is = absurd (none-some found is)
masked_node facts found (IsCallOf given) is = absurd (none-some found is)
masked_node facts found (IsFunction inner) is = absurd (none-some found is)
masked_node facts found (IsShift inner by) is = absurd (none-some found is)
masked_node facts found IsInput is = absurd (none-some found is)

second_known :
    (context : Context) (second : TypedExpression) (n : ℕ) (outcome : Outcome ℕ)
    → ((u : SourceState) → value_in context second u ≡ Gave n u)
    → then_do outcome (λ v u. then_do (value_in context second u) (λ w x. Gave (bit_and v w) x))
    ≡ then_do outcome (λ v u. Gave (bit_and v n) u)
second_known context second n (Gave v u) so =
    ap (λ (given : Outcome ℕ). then_do given (λ w x. Gave (bit_and v w) x)) (so u)
second_known context second n (Stopped why u) so = refl

turned : (n : ℕ) (outcome : Outcome ℕ)
    → then_do outcome (λ w u. Gave (bit_and n w) u) ≡ then_do outcome (λ w u. Gave (bit_and w n) u)
turned n (Gave w u) = ap (λ m. Gave m u) (and_comm n w)
turned n (Stopped why u) = refl

with_mask :
    (context : Context) (facts last : Facts) (setting : Setting) (from to bound : ℕ)
    (sound : IsSound context) (highs : HighBytesGiven context) (tree : TypedExpression)
    (found : ExpressionNumber × ℕ)
    → IsMasked context facts bound tree found
    → TypesHold context.typed context.within tree
    → (nat_lt found.1 256 || (found.1 % 256 == 0)) ≡ true
    → StepsStand context (PartDoes context) facts from
    (masked_steps (knowing context.site facts) found.0 found.1 setting.pushed
    ++ number_in_a_steps (Is 0) setting) last to
    → Carries context facts setting.pushed (2 * height_of tree) 0 from to Nothing (value_in context tree)
    (ZeroIsShown context last setting.purpose)
with_mask context facts last setting from to bound sound highs tree _
    (RightMask {left = left} {first = first} {second = second} {mask = mask} one two is) types same stands =
    zero_by_mask context facts last setting from to bound sound highs left tree first mask one types.1.0
    types.1.1 (omega arith)
    (λ t. second_known context second mask (value_in context first t)
    (λ u. number_means facts mask sound two types.2.0 is u))
    same stands
with_mask context facts last setting from to bound sound highs tree _
    (LeftMask {right = right} {first = first} {second = second} {mask = mask} one two is) types same stands =
    zero_by_mask context facts last setting from to bound sound highs right tree second mask two types.2.0
    types.2.1 (omega arith)
    (λ t. ap (λ (given : Outcome ℕ). then_do given
    (λ v u. then_do (value_in context second u) (λ w x. Gave (bit_and v w) x)))
    (number_means facts mask sound one types.1.0 is t) ∙ turned mask (value_in context second t))
    same stands

-- whether an ADDRESS is 0 is shown
pub zeros_shown : (context : Context) → IsSound context → HighBytesGiven context → ZerosShown context
unfolding word_is_zero_steps masked
zeros_shown context sound highs facts last operand setting from to bound tree node types is_address stand =
    by (masked (knowing context.site facts) operand) refl stand
  where
    plainly : StepsStand context (PartDoes context) facts from
        (zero_by_hl_steps operand setting.pushed) last to
        → Carries context facts setting.pushed (2 * height_of tree) 0 from to Nothing (value_in context tree)
        (ZeroIsShown context last setting.purpose)
    plainly stands =
        zero_by_hl context facts last setting from to bound sound highs operand tree node
        types is_address stands

    by_mask : (found : ExpressionNumber × ℕ)
        → IsMasked context facts operand.index tree found
        → (one_byte : Bool) → (nat_lt found.1 256 || (found.1 % 256 == 0)) ≡ one_byte
        → StepsStand context (PartDoes context) facts from
        (if one_byte
        then masked_steps (knowing context.site facts) found.0 found.1 setting.pushed
        ++ number_in_a_steps (Is 0) setting
        else zero_by_hl_steps operand setting.pushed) last to
        → Carries context facts setting.pushed (2 * height_of tree) 0 from to Nothing (value_in context tree)
        (ZeroIsShown context last setting.purpose)
    by_mask found is false same stands = plainly stands
    by_mask found is true same stands =
        with_mask context facts last setting from to operand.index sound highs tree found is types same stands

    by : (found : Option (ExpressionNumber × ℕ)) → masked (knowing context.site facts) operand ≡ found
        → StepsStand context (PartDoes context) facts from
        (elim found [
          | Some pair ↦
              if nat_lt pair.1 256 || (pair.1 % 256 == 0)
              then masked_steps (knowing context.site facts) pair.0 pair.1 setting.pushed
              ++ number_in_a_steps (Is 0) setting
              else zero_by_hl_steps operand setting.pushed
          | None ↦ zero_by_hl_steps operand setting.pushed
        ]) last to
        → Carries context facts setting.pushed (2 * height_of tree) 0 from to Nothing (value_in context tree)
        (ZeroIsShown context last setting.purpose)
    by None is stands = plainly stands
    by (Some pair) is stands =
        let here = node_of sound node in
        by_mask pair
        (masked_node facts pair here.form
        (ap (λ (one : Option Expression). elim one [ Some found ↦ masked_form (knowing context.site facts) found.form | None ↦ None ])
        (sym (here.at_site facts)) ∙ is))
        (nat_lt pair.1 256 || (pair.1 % 256 == 0)) refl stands
