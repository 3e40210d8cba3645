-- Subscripts as tree code splits them: the computed part plus the known bytes is the source's displacement,
-- modulo the size of memory.
use Rattle.task_laws.proofs.Prelude.{◌≡◌, ℕ, ◌+◌, ◌-◌, ◌*◌, ◌%◌, ◌<◌, ◌≤◌, true, Option, Some, None, is_some, slice_get, max, if◌then◌else◌, refl, sym, ap, ◌∙◌, subst, arith, mul_comm, unwrap_or, mul-add, mul-mod_second, option_and_then, option_map_or, ScalarType, Address, BinaryOperator, height_of, height_of_subscript, type_of, TypedExpression, BinaryNode, Subscript, At, TypesHold, TypesHoldInSubscript, Displacement, computed, displaced, displacement, no_displacement, value, Outcome, Gave, Stopped, then_do, result_of, values_of, Expression, ExpressionForm, ExpressionNumber, Place, Number, IndexNode, Keeps, Traits, IsExpression, IsForm, IsBinary, IsSubscript, IsAbsent, IsIndex, known_number, result_of_known, none_kept, place_number, keeps_at, keeps_none, keeps_of, keeps_of_index, keeps_of_subscript, known_of, known_at, no_traits, number_at, traits_at, traits_of, wrap, Facts, keeps, known, number, split, split_computed, split_form, split_sum, split_whole, expression, knowing, Context, IsSound, nodes_in}
use Rattle.trees.specs.declared.expression.BinaryOperator.TheVariants as operators
use Rattle.meaning.specs.Outcomes.{State}
use Rattle.treecode.specs.declared.expression.ExpressionForm.TheVariants as forms
use Rattle.treecode.specs.internal.Traits.{keeps_both}
use Rattle.task_laws.proofs.Machine.Nodes.{NodeOf, node_of}
use Rattle.task_laws.proofs.Machine.KnownOperands.{number_small}
use Rattle.task_laws.proofs.Machine.SiteNodes.{number_means, place_of_number}

-- the registers that one keeps are kept by another
pub record KeepsLess (one other : Keeps) : Type 0 where
  pub a : one.a ≡ true → other.a ≡ true
  pub de : one.de ≡ true → other.de ≡ true

-- A split subscript: all of it is known, or it is a function of the value of an expression that is computed.
pub data IsSplit (context : Context) (given : Option IndexNode) (subscript : Subscript) :
    (computed : Option IndexNode) → (offset : ℕ) → Type 0 where
  AllKnown : {offset : ℕ} (shift : Displacement)
      → ((s : State) → displacement context.later context.activation.around subscript s ≡ Gave shift s)
      → wrap shift.bytes ≡ wrap offset
      → keeps_of_subscript (nodes_in context) given ≡ None
      → IsSplit context given subscript None offset
  IsComputed : {index : IndexNode} {offset : ℕ} (of : Keeps) (bound : ℕ) (inner : TypedExpression)
      (shift : ℕ → Displacement)
      → IsExpression (nodes_in context) context.storage bound (index.index).index inner
      → TypesHold context.typed context.within inner
      → type_of inner ≡ Address
      → height_of inner ≤ height_of_subscript subscript
      → ((s : State) → displacement context.later context.activation.around subscript s
      ≡ then_do (value context.later context.activation.around inner s) (λ found t. Gave (shift found) t))
      → ((found : ℕ) → wrap (shift found).bytes ≡ wrap (found * index.stride + offset))
      → keeps_of_subscript (nodes_in context) given ≡ Some of
      → KeepsLess of (keeps context.site index.index)
      → IsSplit context given subscript (Some index) offset

-- the registers that the code of a node keeps, at sites and in tables
pub keeps_same :
    (context : Context) (of : ExpressionNumber) → keeps context.site of ≡ keeps_at (nodes_in context) of
unfolding keeps expression
keeps_same context of = by (slice_get (nodes_in context).expressions of.index)
  where
    by : (found : Option Expression)
        → elim found [
          | Some node ↦ node.traits.keeps
          | None ↦ none_kept
        ]
        ≡ (option_map_or (λ (node : Expression). node.traits) found no_traits).keeps
    by (Some node) = refl
    by None = refl

known_of_found : Option Expression → Option Place
known_of_found found = elim found [
  | Some node ↦ node.traits.known
  | None ↦ None
]

number_of_known : Option Place → Option ℕ
number_of_known place = elim place [
  | Some found ↦ place_number found
  | None ↦ None
]

-- a number that is known at a site is known in the tables
number_same :
    (context : Context) (facts : Facts) (of : ExpressionNumber)
    → number (knowing context.site facts) of ≡ number_at (nodes_in context) of
unfolding number known expression known_of_found number_of_known
number_same context facts of = by (slice_get (nodes_in context).expressions of.index)
  where
    by_place : (place : Option Place) → number_of_known place ≡ known_number place
    by_place (Some place) = refl
    by_place None = refl

    by : (found : Option Expression)
        → number_of_known (known_of_found found)
        ≡ known_number ((option_map_or (λ (node : Expression). node.traits) found no_traits).known)
    by (Some node) = by_place node.traits.known
    by None = refl

-- the bytes of an index that is known
known_bytes : (stride n : ℕ) → wrap (stride * n) ≡ wrap ((n * (stride % 65536)) % 65536)
known_bytes stride n =
    let same = mul-mod_second n stride 65536 in
    let turned = mul_comm stride n in
    omega (arith, same, turned)

-- and of one that is computed
index_bytes : (stride n : ℕ) → wrap (stride * n) ≡ wrap (n * (stride % 65536) + 0)
index_bytes stride n =
    let same = mul-mod_second n stride 65536 in
    let turned = mul_comm stride n in
    omega (arith, same, turned)

-- of one to which a number is added, or from which one is taken
sum_bytes : (stride n k : ℕ)
    → wrap (stride * ((n + k) % 65536)) ≡ wrap (n * (stride % 65536) + (k * (stride % 65536)) % 65536)
sum_bytes stride n k =
    let same = mul-mod_second n stride 65536 in
    let same_too = mul-mod_second k stride 65536 in
    let turned = mul_comm stride n in
    let turned_too = mul_comm stride k in
    let whole = mul-mod_second stride (n + k) 65536 in
    let parts = mul-add stride n k in
    omega (arith, same, same_too, turned, turned_too, whole, parts)

difference_bytes : (stride n k : ℕ)
    → k < 65536
    → wrap (stride * ((n + (65536 - k)) % 65536))
    ≡ wrap (n * (stride % 65536) + (65536 - (k * (stride % 65536)) % 65536) % 65536)
difference_bytes stride n k small =
    let same = mul-mod_second n stride 65536 in
    let same_too = mul-mod_second k stride 65536 in
    let turned = mul_comm stride n in
    let turned_too = mul_comm stride k in
    let whole = mul-mod_second stride (n + (65536 - k)) 65536 in
    let parts = mul-add stride n (65536 - k) in
    let all = mul-add stride (65536 - k) k in
    let together : stride * (65536 - k + k) ≡ stride * 65536 =
    ap (λ (n : ℕ). stride * n) (omega (arith, small)) in
    omega (arith, same, same_too, turned, turned_too, whole, parts, all, together)

-- how a subscript is taken apart: where it is known, and where not
split_known :
    (context : Context) (facts : Facts) (index : IndexNode) (n : ℕ)
    → number (knowing context.site facts) index.index ≡ Some n
    → ((split (knowing context.site facts) (Some index)).computed ≡ None)
    × ((split (knowing context.site facts) (Some index)).offset ≡ (n * index.stride) % 65536)
unfolding split
split_known context facts index n is = rw (is, split) (refl, refl)

split_unknown :
    (context : Context) (facts : Facts) (index : IndexNode)
    → number (knowing context.site facts) index.index ≡ None
    → split (knowing context.site facts) (Some index) ≡ split_computed (knowing context.site facts) index
unfolding split split_computed
split_unknown context facts index is = rw (is, split) refl

split_by_form :
    (context : Context) (facts : Facts) (index : IndexNode) (found : Expression)
    → expression (knowing context.site facts) index.index ≡ Some found
    → split_computed (knowing context.site facts) index
    ≡ split_form (knowing context.site facts) index found.form
unfolding split_computed
split_by_form context facts index found is = rw (is, split_computed) refl

-- an outcome, then a part, then another
then_two :
    {A B C : Type 0} (outcome : Outcome A) (first : A → State → Outcome B) (second : B → State → Outcome C)
    (other : A → State → Outcome C)
    → ((found : A) (t : State) → then_do (first found t) second ≡ other found t)
    → then_do (then_do outcome first) second ≡ then_do outcome other
then_two (Gave found t) first second other same = same found t
then_two (Stopped why t) first second other same = refl

-- a number that is added is known
sum_means :
    (context : Context) (stride count k : ℕ) (operator : BinaryOperator) (left right : TypedExpression)
    (found_by : ℕ → ℕ) (s : State)
    → ((t : State) → value context.later context.activation.around right t ≡ Gave k t)
    → ((n : ℕ) → result_of Address operator n k ≡ Some (found_by n))
    → displacement context.later context.activation.around
    (At stride count (BinaryNode Address operator left right)) s
    ≡ then_do (value context.later context.activation.around left s)
    (λ n t. Gave (displaced stride count (found_by n)) t)
sum_means context stride count k operator left right found_by s is by_operator =
    then_two (value context.later context.activation.around left s)
    (λ first t. then_do (value context.later context.activation.around right t)
    (λ second u. computed (result_of Address operator first second) u))
    (λ number t. Gave (displaced stride count number) t)
    (λ n t. Gave (displaced stride count (found_by n)) t)
    (λ n t.
    ap (λ (outcome : Outcome ℕ). then_do
    (then_do outcome (λ second u. computed (result_of Address operator n second) u))
    (λ number u. Gave (displaced stride count number) u)) (is t)
    ∙ ap (λ (result : Option ℕ). then_do (computed result t)
    (λ number u. Gave (displaced stride count number) u))
    (by_operator n))

-- code of all of an index
whole_is :
    (context : Context) (facts : Facts) (index : IndexNode) (stride count bound : ℕ) (tree : TypedExpression)
    → index.stride ≡ stride % 65536
    → IsExpression (nodes_in context) context.storage bound (index.index).index tree
    → TypesHold context.typed context.within tree
    → type_of tree ≡ Address
    → number (knowing context.site facts) index.index ≡ None
    → IsSplit context (Some index) (At stride count tree) (split_whole index).computed
    (split_whole index).offset
whole_is context facts index stride count bound tree stride_is is types address unknown =
    IsComputed (keeps_at (nodes_in context) index.index) bound tree (displaced stride count) is types
    address (omega arith)
    (λ s. refl)
    (λ n. index_bytes stride n ∙ ap (λ (stride : ℕ). wrap (n * stride + 0)) (sym stride_is))
    (ap (λ (found : Option ℕ). Rattle.treecode.specs.internal.Traits.keeps_of_index
    (nodes_in context) index.index found)
    (sym (number_same context facts index.index) ∙ unknown))
    (record {
      a = λ kept. ap (λ (of : Keeps). of.a) (keeps_same context index.index) ∙ kept;
      de = λ kept. ap (λ (of : Keeps). of.de) (keeps_same context index.index) ∙ kept;
    })

-- the registers that the code of a known value keeps
known_keeps :
    {context : Context} {bound : ℕ} {of : ExpressionNumber} {tree : TypedExpression} (place : Place)
    → IsSound context
    → IsExpression (nodes_in context) context.storage bound of.index tree
    → known_at (nodes_in context) of ≡ Some place
    → keeps_at (nodes_in context) of ≡ keeps_both
unfolding traits_of
known_keeps {context = context} {of = of} {tree = tree} place sound is known_is =
    let node = node_of sound is in
    let there : traits_at (nodes_in context) of ≡ traits_of (nodes_in context) (type_of tree) node.found.form
    = ap (λ (found : Option Expression). option_map_or (λ (expression : Expression). expression.traits) found
    no_traits) node.is_there
    ∙ node.traits in
    ap (λ (traits : Traits). traits.keeps) there
    ∙ ap (λ (place : Option Place). keeps_of (nodes_in context) (type_of tree) place node.found.form)
    (sym (ap (λ (traits : Traits). traits.known) there) ∙ known_is)

less_of_both : (one other : Keeps) → other ≡ keeps_both → KeepsLess one other
less_of_both one other same =
    record { a = λ kept. ap (λ (of : Keeps). of.a) same; de = λ kept. ap (λ (of : Keeps). of.de) same }

less_same : (one other : Keeps) → one ≡ other → KeepsLess one other
less_same one other same = record {
  a = λ kept. ap (λ (of : Keeps). of.a) (sym same) ∙ kept;
  de = λ kept. ap (λ (of : Keeps). of.de) (sym same) ∙ kept;
}

-- the code of a sum with a number keeps the registers that the code of the other operand keeps
sum_keeps :
    (context : Context) (bound k : ℕ) (left right : ExpressionNumber) (tree : TypedExpression)
    → IsSound context
    → IsExpression (nodes_in context) context.storage bound left.index tree
    → known_at (nodes_in context) right ≡ Some (Number k)
    → KeepsLess
    (keeps_of (nodes_in context) Address
    (result_of_known Address operators.Add (known_at (nodes_in context) left)
    (known_at (nodes_in context) right))
    (forms.Binary Address operators.Add left right))
    (keeps_at (nodes_in context) left)
sum_keeps context bound k left right tree sound is right_is = by_left (known_at (nodes_in context) left) refl
  where
    by_left : (place : Option Place) → known_at (nodes_in context) left ≡ place
        → KeepsLess
        (keeps_of (nodes_in context) Address
        (result_of_known Address operators.Add place (known_at (nodes_in context) right))
        (forms.Binary Address operators.Add left right))
        (keeps_at (nodes_in context) left)
    by_left (Some place) left_is = less_of_both _ _ (known_keeps place sound is left_is)
    by_left None left_is =
        less_same _ _
        (ap (λ (place : Option Place).
        if is_some place then keeps_at (nodes_in context) left
        else if is_some (known_at (nodes_in context) left) then keeps_at (nodes_in context) right
        else keeps_none) right_is)

difference_keeps :
    (context : Context) (bound k : ℕ) (left right : ExpressionNumber) (tree : TypedExpression)
    → IsSound context
    → IsExpression (nodes_in context) context.storage bound left.index tree
    → known_at (nodes_in context) right ≡ Some (Number k)
    → KeepsLess
    (keeps_of (nodes_in context) Address
    (result_of_known Address operators.Subtract (known_at (nodes_in context) left)
    (known_at (nodes_in context) right))
    (forms.Binary Address operators.Subtract left right))
    (keeps_at (nodes_in context) left)
difference_keeps context bound k left right tree sound is right_is =
    by_left (known_at (nodes_in context) left) refl
  where
    by_left : (place : Option Place) → known_at (nodes_in context) left ≡ place
        → KeepsLess
        (keeps_of (nodes_in context) Address
        (result_of_known Address operators.Subtract place (known_at (nodes_in context) right))
        (forms.Binary Address operators.Subtract left right))
        (keeps_at (nodes_in context) left)
    by_left (Some place) left_is = less_of_both _ _ (known_keeps place sound is left_is)
    by_left None left_is =
        less_same _ _
        (ap (λ (place : Option Place).
        if is_some (known_number place) then keeps_at (nodes_in context) left else keeps_none) right_is)

left_high : (left right : ℕ) → left ≤ 1 + max left right
left_high left right = omega arith

less_than : (one middle other : Keeps) → KeepsLess one middle → middle ≡ other → KeepsLess one other
less_than one middle other less same = record {
  a = λ kept. ap (λ (of : Keeps). of.a) (sym same) ∙ less.a kept;
  de = λ kept. ap (λ (of : Keeps). of.de) (sym same) ∙ less.de kept;
}

less_from : (first one other : Keeps) → first ≡ one → KeepsLess one other → KeepsLess first other
less_from first one other same less = record {
  a = λ kept. less.a (ap (λ (of : Keeps). of.a) (sym same) ∙ kept);
  de = λ kept. less.de (ap (λ (of : Keeps). of.de) (sym same) ∙ kept);
}

-- the code of a node keeps the registers that its form says
form_keeps :
    {context : Context} {number : ExpressionNumber} {tree : TypedExpression}
    (node : NodeOf context number tree)
    → keeps_at (nodes_in context) number
    ≡ keeps_of (nodes_in context) (type_of tree)
    (known_of (nodes_in context) (type_of tree) node.found.form) node.found.form
unfolding traits_of
form_keeps {context = context} node =
    ap (λ (found : Option Expression). (option_map_or (λ (expression : Expression). expression.traits) found
    no_traits).keeps) node.is_there
    ∙ ap (λ (traits : Traits). traits.keeps) node.traits

-- an index with a number that is added
sum_split :
    (context : Context) (facts : Facts) (number left right : ExpressionNumber) (stride count bound k : ℕ)
    (first second : TypedExpression)
    → IsSound context
    → (node : NodeOf context number (BinaryNode Address operators.Add first second))
    → node.found.form ≡ forms.Binary Address operators.Add left right
    → IsExpression (nodes_in context) context.storage bound left.index first
    → IsExpression (nodes_in context) context.storage bound right.index second
    → TypesHold context.typed context.within first
    → type_of first ≡ Address
    → TypesHold context.typed context.within second
    → Rattle.steps8080.specs.internal.Queries.number (knowing context.site facts) number ≡ None
    → Rattle.steps8080.specs.internal.Queries.number (knowing context.site facts) right ≡ Some k
    → IsSplit context (Some (record { index = number; stride = stride % 65536 }))
    (At stride count (BinaryNode Address operators.Add first second))
    (Some (record { index = left; stride = stride % 65536 })) ((k * (stride % 65536)) % 65536)
sum_split context facts number left right stride count bound k first second sound node form_is one two types
    address types_too unknown known_is =
    IsComputed (keeps_at (nodes_in context) number) bound first
    (λ n. displaced stride count ((n + k) % 65536)) one types address
    (left_high (height_of first) (height_of second))
    (λ s. sum_means context stride count k operators.Add first second (λ n. (n + k) % 65536) s
    (number_means facts k sound two types_too known_is) (λ n. refl))
    (λ n. sum_bytes stride n k)
    (ap (λ (found : Option ℕ). keeps_of_index (nodes_in context) number found)
    (sym (number_same context facts number) ∙ unknown))
    (less_from (keeps_at (nodes_in context) number) _ (keeps context.site left)
    (form_keeps node
    ∙ ap (λ (form : ExpressionForm). keeps_of (nodes_in context) Address
    (known_of (nodes_in context) Address form) form) form_is)
    (less_than _ (keeps_at (nodes_in context) left) (keeps context.site left)
    (sum_keeps context bound k left right first sound one
    (place_of_number (known_at (nodes_in context) right) k
    (sym (number_same context facts right) ∙ known_is)))
    (sym (keeps_same context left))))

-- and with one that is taken
difference_split :
    (context : Context) (facts : Facts) (number left right : ExpressionNumber) (stride count bound k : ℕ)
    (first second : TypedExpression)
    → IsSound context
    → (node : NodeOf context number (BinaryNode Address operators.Subtract first second))
    → node.found.form ≡ forms.Binary Address operators.Subtract left right
    → IsExpression (nodes_in context) context.storage bound left.index first
    → IsExpression (nodes_in context) context.storage bound right.index second
    → TypesHold context.typed context.within first
    → type_of first ≡ Address
    → TypesHold context.typed context.within second
    → type_of second ≡ Address
    → Rattle.steps8080.specs.internal.Queries.number (knowing context.site facts) number ≡ None
    → Rattle.steps8080.specs.internal.Queries.number (knowing context.site facts) right ≡ Some k
    → IsSplit context (Some (record { index = number; stride = stride % 65536 }))
    (At stride count (BinaryNode Address operators.Subtract first second))
    (Some (record { index = left; stride = stride % 65536 }))
    ((65536 - (k * (stride % 65536)) % 65536) % 65536)
difference_split context facts number left right stride count bound k first second sound node form_is one two
    types address types_too address_too unknown known_is =
    let small : k < 65536 =
    subst (λ (scalar : ScalarType). k < values_of scalar) address_too
    (number_small facts k sound two types_too known_is) in
    IsComputed (keeps_at (nodes_in context) number) bound first
    (λ n. displaced stride count ((n + (65536 - k)) % 65536)) one types address
    (left_high (height_of first) (height_of second))
    (λ s. sum_means context stride count k operators.Subtract first second (λ n. (n + (65536 - k)) % 65536) s
    (number_means facts k sound two types_too known_is) (λ n. refl))
    (λ n. difference_bytes stride n k small)
    (ap (λ (found : Option ℕ). keeps_of_index (nodes_in context) number found)
    (sym (number_same context facts number) ∙ unknown))
    (less_from (keeps_at (nodes_in context) number) _ (keeps context.site left)
    (form_keeps node
    ∙ ap (λ (form : ExpressionForm). keeps_of (nodes_in context) Address
    (known_of (nodes_in context) Address form) form) form_is)
    (less_than _ (keeps_at (nodes_in context) left) (keeps context.site left)
    (difference_keeps context bound k left right first sound one
    (place_of_number (known_at (nodes_in context) right) k
    (sym (number_same context facts right) ∙ known_is)))
    (sym (keeps_same context left))))

-- an operator from which no number is split off
other_split :
    (context : Context) (facts : Facts) (of left right : ExpressionNumber) (operator : BinaryOperator)
    (stride count bound : ℕ)
    (tree : TypedExpression)
    → ((k : ℕ) → split_sum (record { index = of; stride = stride % 65536 }) operator k left ≡ None)
    → IsExpression (nodes_in context) context.storage bound of.index tree
    → TypesHold context.typed context.within tree
    → type_of tree ≡ Address
    → number (knowing context.site facts) of ≡ None
    → IsSplit context (Some (record { index = of; stride = stride % 65536 })) (At stride count tree)
    (unwrap_or (option_and_then (λ value. split_sum (record { index = of; stride = stride % 65536 })
    operator value left)
    (number (knowing context.site facts) right))
    (split_whole (record { index = of; stride = stride % 65536 }))).computed
    (unwrap_or (option_and_then (λ value. split_sum (record { index = of; stride = stride % 65536 })
    operator value left)
    (number (knowing context.site facts) right))
    (split_whole (record { index = of; stride = stride % 65536 }))).offset
other_split context facts of left right operator stride count bound tree none is types address unknown =
    by_right (number (knowing context.site facts) right)
  where
    whole : IsSplit context (Some (record { index = of; stride = stride % 65536 })) (At stride count tree)
        (Some (record { index = of; stride = stride % 65536 })) 0
    whole =
        whole_is context facts (record { index = of; stride = stride % 65536 }) stride count bound tree refl
        is types address unknown

    by_right : (found : Option ℕ)
        → IsSplit context (Some (record { index = of; stride = stride % 65536 })) (At stride count tree)
        (unwrap_or (option_and_then (λ value. split_sum (record { index = of; stride = stride % 65536 })
        operator value left) found)
        (split_whole (record { index = of; stride = stride % 65536 }))).computed
        (unwrap_or (option_and_then (λ value. split_sum (record { index = of; stride = stride % 65536 })
        operator value left) found)
        (split_whole (record { index = of; stride = stride % 65536 }))).offset
    by_right None = whole
    by_right (Some k) = rw (none k) whole

-- an index that is no number
computed_split :
    (context : Context) (facts : Facts) (of : ExpressionNumber) (stride count bound : ℕ)
    (tree : TypedExpression)
    → IsSound context
    → (node : NodeOf context of tree)
    → IsExpression (nodes_in context) context.storage bound of.index tree
    → TypesHold context.typed context.within tree
    → type_of tree ≡ Address
    → Rattle.steps8080.specs.internal.Queries.number (knowing context.site facts) of ≡ None
    → (form : ExpressionForm)
    → node.found.form ≡ form
    → IsForm (nodes_in context) context.storage of.index form tree
    → IsSplit context (Some (record { index = of; stride = stride % 65536 })) (At stride count tree)
    (split_form (knowing context.site facts) (record { index = of; stride = stride % 65536 }) form).computed
    (split_form (knowing context.site facts) (record { index = of; stride = stride % 65536 }) form).offset
computed_split context facts of stride count bound tree sound node is types address unknown form form_is
    (IsBinary {operands = Address} {operator = operators.Add} {left = left} {right = right} {first = first}
    {second = second} one two) =
    by_right (Rattle.steps8080.specs.internal.Queries.number (knowing context.site facts) right) refl
  where
    by_right : (found : Option ℕ)
        → Rattle.steps8080.specs.internal.Queries.number (knowing context.site facts) right ≡ found
        → IsSplit context (Some (record { index = of; stride = stride % 65536 }))
        (At stride count (BinaryNode Address operators.Add first second))
        (unwrap_or (option_and_then (λ value. split_sum (record { index = of; stride = stride % 65536 })
        operators.Add value left) found)
        (split_whole (record { index = of; stride = stride % 65536 }))).computed
        (unwrap_or (option_and_then (λ value. split_sum (record { index = of; stride = stride % 65536 })
        operators.Add value left) found)
        (split_whole (record { index = of; stride = stride % 65536 }))).offset
    by_right (Some k) known_is =
        sum_split context facts of left right stride count of.index k first second sound node form_is one two
        (types.1).0 (types.1).1 (types.2).0 unknown known_is
    by_right None known_is =
        whole_is context facts (record { index = of; stride = stride % 65536 }) stride count bound
        (BinaryNode Address operators.Add first second) refl is types address unknown
computed_split context facts of stride count bound tree sound node is types address unknown form form_is
    (IsBinary {operands = Address} {operator = operators.Subtract} {left = left} {right = right}
    {first = first} {second = second} one two) =
    by_right (Rattle.steps8080.specs.internal.Queries.number (knowing context.site facts) right) refl
  where
    by_right : (found : Option ℕ)
        → Rattle.steps8080.specs.internal.Queries.number (knowing context.site facts) right ≡ found
        → IsSplit context (Some (record { index = of; stride = stride % 65536 }))
        (At stride count (BinaryNode Address operators.Subtract first second))
        (unwrap_or (option_and_then (λ value. split_sum (record { index = of; stride = stride % 65536 })
        operators.Subtract value left) found)
        (split_whole (record { index = of; stride = stride % 65536 }))).computed
        (unwrap_or (option_and_then (λ value. split_sum (record { index = of; stride = stride % 65536 })
        operators.Subtract value left) found)
        (split_whole (record { index = of; stride = stride % 65536 }))).offset
    by_right (Some k) known_is =
        difference_split context facts of left right stride count of.index k first second sound
        node form_is one two
        (types.1).0 (types.1).1 (types.2).0 (types.2).1 unknown known_is
    by_right None known_is =
        whole_is context facts (record { index = of; stride = stride % 65536 }) stride count bound
        (BinaryNode Address operators.Subtract first second) refl is types address unknown
computed_split context facts of stride count bound tree sound node is types address unknown form form_is
    (IsBinary {operands = Address} {operator = operator} {left = left} {right = right} one two) =
    other_split context facts of left right operator stride count bound tree (λ k. refl) is
    types address unknown
computed_split context facts of stride count bound tree sound node is types address unknown
    form form_is is_form =
    whole_is context facts (record { index = of; stride = stride % 65536 }) stride count bound tree refl is
    types address unknown

-- a subscript as a site takes it apart
pub is_split :
    {context : Context} {bound : ℕ} {given : Option IndexNode} {subscript : Subscript} (facts : Facts)
    → IsSound context
    → IsSubscript (nodes_in context) context.storage bound given subscript
    → TypesHoldInSubscript context.typed context.within subscript
    → IsSplit context given subscript (split (knowing context.site facts) given).computed
    (split (knowing context.site facts) given).offset
unfolding split
is_split facts sound IsAbsent types = AllKnown no_displacement (λ s. refl) refl refl
is_split {context = context} facts sound
    (IsIndex {stride = stride} {count = count} {number = of} {index = tree} is) types =
    by_number (number (knowing context.site facts) of) refl
  where
    by_number : (found : Option ℕ) → number (knowing context.site facts) of ≡ found
        → IsSplit context (Some (record { index = of; stride = stride % 65536 })) (At stride count tree)
        (split (knowing context.site facts) (Some (record { index = of; stride = stride % 65536 }))).computed
        (split (knowing context.site facts) (Some (record { index = of; stride = stride % 65536 }))).offset
    by_number (Some n) known_is =
        let apart = split_known context facts (record { index = of; stride = stride % 65536 }) n known_is in
        subst (λ (computed : Option IndexNode). IsSplit context
        (Some (record { index = of; stride = stride % 65536 })) (At stride count tree) computed
        (split (knowing context.site facts) (Some (record { index = of; stride = stride % 65536 }))).offset)
        (sym apart.0)
        (subst (λ (offset : ℕ). IsSplit context (Some (record { index = of; stride = stride % 65536 }))
        (At stride count tree) None offset) (sym apart.1)
        (AllKnown (displaced stride count n)
        (λ s. ap (λ (outcome : Outcome ℕ). then_do outcome (λ n t. Gave (displaced stride count n) t))
        (number_means facts n sound is types.0 known_is s))
        (known_bytes stride n)
        (ap (λ (found : Option ℕ). keeps_of_index (nodes_in context) of found)
        (sym (number_same context facts of) ∙ known_is))))
    by_number None unknown =
        let node = node_of sound is in
        let apart = split_unknown context facts (record { index = of; stride = stride % 65536 }) unknown
        ∙ split_by_form context facts (record { index = of; stride = stride % 65536 }) node.found
        (node.at_site facts) in
        subst (λ split. IsSplit context (Some (record { index = of; stride = stride % 65536 }))
        (At stride count tree) split.computed split.offset) (sym apart)
        (computed_split context facts of stride count _ tree sound node is types.0 types.1 unknown
        node.found.form refl node.form)
