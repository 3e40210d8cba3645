-- A BYTE that is counted by 1 in memory.
use Rattle.statement_laws.proofs.Prelude.{◌≡◌, ℕ, Bool, true, false, ◌&&◌, if◌then◌else◌, nat_eq, Option, Some, None, refl, sym, ap, subst, ◌∙◌, and_parts, eqb-true, ScalarType, Byte, Address, BinaryOperator, BinaryNode, TypedExpression, TypedReference, ValueNode, RefersToScalar, TypesHold, TypesHoldInReference, read_scalar, computed, located, value, SourceState, Outcome, then_do, result_of, Instr, Expression, ExpressionForm, ExpressionNumber, Reference, IsBinary, IsExpression, IsForm, IsReference, IsValue, Facts, number, knowing, count_by, count_of, count_of_form, is_one, is_value_by, is_value_of, are_same, Context, IsSound, nodes_in, IsNumber, IsLocation, IsConstantList, IsConversion, IsEmbedded, IsUnary, IsCallOf, IsFunction, IsShift, IsInput, then_again, number_means, node_of}
use Rattle.statement_laws.proofs.Assignments.Firsts.{then_each}

-- a value that counts a BYTE
pub record IsCount (context : Context) (facts : Facts) (reference : Reference) (i : Instr)
    (tree : TypedExpression) : Type 0 where
  pub operator : BinaryOperator
  pub counts : count_by operator ≡ Some i
  pub bound : ℕ
  pub other : Reference
  pub part : TypedReference
  pub is : IsReference (nodes_in context) context.storage bound other part
  pub types : TypesHoldInReference context.typed context.within part
  pub refers : RefersToScalar context.typed context.within Byte part
  pub same : are_same (knowing context.site facts) other reference ≡ true
  pub means : (s : SourceState)
      → value context.later context.activation.around tree s
      ≡ then_do (located context.later context.activation.around part s)
      (λ place t. then_do (read_scalar context.activation.around.program Byte place t)
      (λ n u. computed (result_of Byte operator n 1) u))

where_true : {A : Type 0} (test : Bool) (one : Option A) (found : A)
    → (if test then one else None) ≡ Some found
    → (test ≡ true) × (one ≡ Some found)
where_true true one found same = (refl, same)
where_true false one found same = let never : ⊥ = cc in absurd never

-- a number that is 1
one_is : (known : Option ℕ)
    → (elim known as (λ (given : Option ℕ). Bool) [ Some n ↦ nat_eq n 1 | None ↦ false ]) ≡ true
    → known ≡ Some 1
one_is (Some n) is = ap (λ (m : ℕ). Some m) (eqb-true n 1 is)
one_is None is = let never : ⊥ = cc in absurd never

module _ (context : Context) (sound : IsSound context) (facts : Facts)
    (reference : Reference) (i : Instr) where
  -- the BYTE and 1
  counted_pair :
      {other_bound bound_here : ℕ} {form : ExpressionForm} {first : TypedExpression}
      (operator : BinaryOperator) (left right : ExpressionNumber)
      (second : TypedExpression)
      → count_by operator ≡ Some i
      → IsForm (nodes_in context) context.storage bound_here form first
      → is_value_by (knowing context.site facts) form reference ≡ true
      → IsExpression (nodes_in context) context.storage other_bound right.index second
      → is_one (knowing context.site facts) right ≡ true
      → TypesHold context.typed context.within (BinaryNode Byte operator first second)
      → IsCount context facts reference i (BinaryNode Byte operator first second)
  counted_pair operator left right second counts
      (IsValue {scalar = scalar} {reference = other} {part = part} part_is) same second_is one types =
      let known = one_is (number (knowing context.site facts) right) one in
      record {
        operator = operator;
        counts = counts;
        bound = _;
        other = other;
        part = part;
        is = part_is;
        types = (types.1).0.1;
        refers =
            subst (λ (kind : ScalarType). RefersToScalar context.typed context.within kind part)
            (types.1).1 (types.1).0.0;
        same = same;
        means = λ s.
            ap (λ (kind : ScalarType). value context.later context.activation.around
            (BinaryNode Byte operator (ValueNode kind part) second) s)
            (types.1).1
            ∙ then_again (located context.later context.activation.around part s)
            (λ place t. read_scalar context.activation.around.program Byte place t)
            (λ n t. then_do (value context.later context.activation.around second t)
            (λ m u. computed (result_of Byte operator n m) u))
            ∙ then_each (located context.later context.activation.around part s) _ _
            (λ place t.
            then_each (read_scalar context.activation.around.program Byte place t) _ _
            (λ n u.
            ap (λ (given : Outcome ℕ). then_do given (λ m v. computed (result_of Byte operator n m) v))
            (number_means facts 1 sound second_is (types.2).0 known u)));
      }
  counted_pair operator left right second counts IsNumber same second_is one types =
      let never : ⊥ = cc in absurd never
  counted_pair operator left right second counts (IsLocation part) same second_is one types =
      let never : ⊥ = cc in absurd never
  counted_pair operator left right second counts IsConstantList same second_is one types =
      let never : ⊥ = cc in absurd never
  counted_pair operator left right second counts (IsConversion inner) same second_is one types =
      let never : ⊥ = cc in absurd never
  counted_pair operator left right second counts (IsEmbedded target inner) same second_is one types =
      let never : ⊥ = cc in absurd never
  counted_pair operator left right second counts (IsUnary inner) same second_is one types =
      let never : ⊥ = cc in absurd never
  counted_pair operator left right second counts (IsBinary first other) same second_is one types =
      let never : ⊥ = cc in absurd never
  counted_pair operator left right second counts (IsCallOf are) same second_is one types =
      let never : ⊥ = cc in absurd never
  counted_pair operator left right second counts (IsFunction inner) same second_is one types =
      let never : ⊥ = cc in absurd never
  counted_pair operator left right second counts (IsShift first other) same second_is one types =
      let never : ⊥ = cc in absurd never
  counted_pair operator left right second counts IsInput same second_is one types =
      let never : ⊥ = cc in absurd never

  counted_form :
      {bound_here : ℕ} {form : ExpressionForm} {tree : TypedExpression}
      → IsForm (nodes_in context) context.storage bound_here form tree
      → count_of_form (knowing context.site facts) reference form ≡ Some i
      → TypesHold context.typed context.within tree
      → IsCount context facts reference i tree
  counted_form
      (IsBinary {operands = Byte} {operator = operator} {left = left} {right = right} {first = first}
      {second = second} first_is second_is) same types =
      let parts =
      where_true
      (is_value_of (knowing context.site facts) left reference
      && is_one (knowing context.site facts) right)
      (count_by operator) i same in
      let halves =
      and_parts (is_value_of (knowing context.site facts) left reference)
      (is_one (knowing context.site facts) right) parts.0 in
      let node = node_of {number = left} sound first_is in
      counted_pair operator left right second parts.1 node.form
      (sym (ap (λ (one : Option Expression). elim one as (λ (given : Option Expression). Bool) [
        | Some given ↦ is_value_by (knowing context.site facts) given.form reference
        | None ↦ false
      ]) (node.at_site facts)) ∙ halves.0) second_is halves.1 types
  counted_form (IsBinary {operands = Address} first_is second_is) same types =
      let never : ⊥ = cc in absurd never
  counted_form IsNumber same types = let never : ⊥ = cc in absurd never
  counted_form (IsValue part) same types = let never : ⊥ = cc in absurd never
  counted_form (IsLocation part) same types = let never : ⊥ = cc in absurd never
  counted_form IsConstantList same types = let never : ⊥ = cc in absurd never
  counted_form (IsConversion inner) same types = let never : ⊥ = cc in absurd never
  counted_form (IsEmbedded target inner) same types = let never : ⊥ = cc in absurd never
  counted_form (IsUnary inner) same types = let never : ⊥ = cc in absurd never
  counted_form (IsCallOf are) same types = let never : ⊥ = cc in absurd never
  counted_form (IsFunction inner) same types = let never : ⊥ = cc in absurd never
  counted_form (IsShift first other) same types = let never : ⊥ = cc in absurd never
  counted_form IsInput same types = let never : ⊥ = cc in absurd never

  pub is_count :
      {bound : ℕ} (of : ExpressionNumber) (tree : TypedExpression)
      → IsExpression (nodes_in context) context.storage bound of.index tree
      → TypesHold context.typed context.within tree
      → count_of (knowing context.site facts) reference of ≡ Some i
      → IsCount context facts reference i tree
  is_count of tree is types counts =
      let node = node_of {number = of} sound is in
      counted_form node.form
      (sym (ap (λ (one : Option Expression). elim one as (λ (given : Option Expression). Option Instr) [
        | Some given ↦ count_of_form (knowing context.site facts) reference given.form
        | None ↦ None
      ]) (node.at_site facts)) ∙ counts) types
