-- References that are seen to be the same have one address on the machine, and to locate them changes
-- nothing.
use Rattle.statement_laws.proofs.Prelude.{◌≡◌, ℕ, ◌+◌, ◌*◌, ◌%◌, ◌<◌, ◌⊎◌, inl, inr, Bool, true, ◌||◌, nat_eq, List, Option, Some, None, refl, sym, ap, subst, ◌∙◌, arith, and_parts, eqb-true, mul-mod_first, MEMORY_SIZE, ScalarType, Address, type_of, BasedOn, InFrame, Subscript, TypedExpression, TypesHold, TypesHoldInSubscript, InMemory, place_of, read_scalar, Displacement, based_place, displaced, displacement, value, SourceState, Gave, as_type, Registers, Expression, ExpressionForm, ExpressionNumber, IndexNode, IsAbsent, IsExpression, IsForm, IsIndex, IsNumber, IsSubscript, IsValue, IsLocation, IsConstantList, IsConversion, IsEmbedded, IsUnary, IsBinary, IsCallOf, IsFunction, IsShift, IsInput, IsReady, Facts, knowing, are_same_leaf, are_same_scalar, are_same_subscripts, inside_conversion, unconverted, Context, IsSound, nodes_in, address_on_machine, node_of, or_cases, same_both}
use Rattle.typed_trees.specs.TypedTrees.{Home}
use Rattle.meaning.specs.Access.{Place}
use Rattle.statement_laws.proofs.Assignments.SameValues.{gave_before, same_leaves, same_scalars}
use Rattle.statement_laws.proofs.Numbers.{sums_alike}

-- the same number of bytes in memory, in two places of one object, is at one address
pub same_bases :
    (context : Context) (home : Home) (object one other : ℕ) (one_inside other_inside : Bool)
    (s t u : SourceState) (p q : Place)
    → one % 65536 ≡ other % 65536
    → based_place home context.activation.around object one one_inside s ≡ Gave p t
    → based_place home context.activation.around object other other_inside s ≡ Gave q u
    → address_on_machine context.activation p ≡ address_on_machine context.activation q
same_bases context (BasedOn base) object one other one_inside other_inside s t u p q same first second =
    let read =
    read_scalar context.activation.around.program Address (place_of context.activation.around base) s in
    let a = gave_before read (λ start v. Gave (InMemory ((start + one) % MEMORY_SIZE)) v) p t first in
    let b = gave_before read (λ start v. Gave (InMemory ((start + other) % MEMORY_SIZE)) v) q u second in
    let starts = (same_both a.first b.first a.t b.t (sym a.is ∙ b.is)).0 in
    sym (ap (address_on_machine context.activation) (same_both _ p a.t t a.next).0)
    ∙ sums a.first b.first one other starts same
    ∙ ap (address_on_machine context.activation) (same_both _ q b.t u b.next).0
  where
    sums : (m n one other : ℕ) → m ≡ n → one % 65536 ≡ other % 65536 → (m + one) % 65536 ≡ (n + other) % 65536
    sums m n one other is same = omega (arith, is, same)
same_bases context (InFrame procedure) object one other one_inside other_inside s t u p q same first second =
    sym (ap (address_on_machine context.activation) (same_both _ p s t first).0)
    ∙ sums_alike (context.activation.level + context.activation.distance object) one other same
    ∙ ap (address_on_machine context.activation) (same_both _ q s u second).0
same_bases context home object one other one_inside other_inside s t u p q same first second =
    sym (ap (address_on_machine context.activation) (same_both _ p s t first).0)
    ∙ sums_alike _ one other same
    ∙ ap (address_on_machine context.activation) (same_both _ q s u second).0

module _
    (context : Context) (sound : IsSound context) (top : ℕ) (base : List ℕ) (s : SourceState)
    (r : Registers) (memory : List ℕ)
    (ready : IsReady context.activation top base s.memory s.frame r memory) (facts : Facts)
  where
    -- an expression without the conversion around it
    pub record Inside (of : ExpressionNumber) (found : ℕ) : Type 0 where
      pub bound : ℕ
      pub tree : TypedExpression
      pub is : IsExpression (nodes_in context) context.storage bound of.index tree
      pub types : TypesHold context.typed context.within tree
      pub n : ℕ
      pub t : SourceState
      pub gives : value context.later context.activation.around tree s ≡ Gave n t
      pub same : n < 65536 → found ≡ n

    inside_form :
        {bound bound_here : ℕ} {form : ExpressionForm} {tree : TypedExpression} (of : ExpressionNumber)
        (found : ℕ) (t : SourceState)
        → IsForm (nodes_in context) context.storage bound_here form tree
        → IsExpression (nodes_in context) context.storage bound of.index tree
        → TypesHold context.typed context.within tree
        → type_of tree ≡ Address
        → value context.later context.activation.around tree s ≡ Gave found t
        → Inside (inside_conversion form of) found
    inside_form of found t (IsConversion {inner = inner} {scalar = scalar} {tree = tree} inner_is)
        is types type gives =
        let first =
        gave_before (value context.later context.activation.around tree s)
        (λ n u. Gave (as_type scalar n) u) found t gives in
        record {
          bound = _;
          tree = tree;
          is = inner_is;
          types = types;
          n = first.first;
          t = first.t;
          gives = first.is;
          same = λ small. sym (same_both (as_type scalar first.first) found first.t t first.next).0
              ∙ ap (λ (one : ScalarType). as_type one first.first) type ∙ whole first.first small;
        }
      where
        whole : (n : ℕ) → n < 65536 → n % 65536 ≡ n
        whole n small = omega (arith, small)
    inside_form of found t IsNumber is types type gives =
        record { bound = _; tree = _; is = is; types = types; n = found; t = t; gives = gives; same = λ small. refl }
    inside_form of found t (IsValue part) is types type gives =
        record { bound = _; tree = _; is = is; types = types; n = found; t = t; gives = gives; same = λ small. refl }
    inside_form of found t (IsLocation part) is types type gives =
        record { bound = _; tree = _; is = is; types = types; n = found; t = t; gives = gives; same = λ small. refl }
    inside_form of found t IsConstantList is types type gives =
        record { bound = _; tree = _; is = is; types = types; n = found; t = t; gives = gives; same = λ small. refl }
    inside_form of found t (IsEmbedded target inner) is types type gives =
        record { bound = _; tree = _; is = is; types = types; n = found; t = t; gives = gives; same = λ small. refl }
    inside_form of found t (IsUnary inner) is types type gives =
        record { bound = _; tree = _; is = is; types = types; n = found; t = t; gives = gives; same = λ small. refl }
    inside_form of found t (IsBinary first second) is types type gives =
        record { bound = _; tree = _; is = is; types = types; n = found; t = t; gives = gives; same = λ small. refl }
    inside_form of found t (IsCallOf are) is types type gives =
        record { bound = _; tree = _; is = is; types = types; n = found; t = t; gives = gives; same = λ small. refl }
    inside_form of found t (IsFunction inner) is types type gives =
        record { bound = _; tree = _; is = is; types = types; n = found; t = t; gives = gives; same = λ small. refl }
    inside_form of found t (IsShift first second) is types type gives =
        record { bound = _; tree = _; is = is; types = types; n = found; t = t; gives = gives; same = λ small. refl }
    inside_form of found t IsInput is types type gives =
        record { bound = _; tree = _; is = is; types = types; n = found; t = t; gives = gives; same = λ small. refl }

    inside :
        {bound : ℕ} (of : ExpressionNumber) (tree : TypedExpression) (found : ℕ) (t : SourceState)
        → IsExpression (nodes_in context) context.storage bound of.index tree
        → TypesHold context.typed context.within tree
        → type_of tree ≡ Address
        → value context.later context.activation.around tree s ≡ Gave found t
        → Inside (unconverted (knowing context.site facts) of) found
    inside of tree found t is types type gives =
        let node = node_of {number = of} sound is in
        subst (λ (one : ExpressionNumber). Inside one found)
        (sym (ap (λ (one : Option Expression). elim one as (λ (given : Option Expression). ExpressionNumber) [
          | Some given ↦ inside_conversion given.form of
          | None ↦ of
        ]) (node.at_site facts)))
        (inside_form of found t node.form is types type gives)

    -- the values of two subscripts that are the same
    same_indexes :
        {one_bound other_bound : ℕ} (left right : IndexNode) (one other : TypedExpression)
        (a b : ℕ) (t u : SourceState)
        → IsExpression (nodes_in context) context.storage one_bound left.index.index one
        → IsExpression (nodes_in context) context.storage other_bound right.index.index other
        → TypesHold context.typed context.within one × (type_of one ≡ Address)
        → TypesHold context.typed context.within other × (type_of other ≡ Address)
        → (are_same_leaf (knowing context.site facts) left.index right.index
        || are_same_scalar (knowing context.site facts) (unconverted (knowing context.site facts) left.index)
        (unconverted (knowing context.site facts) right.index)) ≡ true
        → value context.later context.activation.around one s ≡ Gave a t
        → value context.later context.activation.around other s ≡ Gave b u
        → a ≡ b
    same_indexes left right one other a b t u one_is other_is one_types other_types same first second =
        by (or_cases (are_same_leaf (knowing context.site facts) left.index right.index)
        (are_same_scalar (knowing context.site facts) (unconverted (knowing context.site facts) left.index)
        (unconverted (knowing context.site facts) right.index)) same)
      where
        by : (are_same_leaf (knowing context.site facts) left.index right.index ≡ true)
            ⊎ (are_same_scalar (knowing context.site facts)
            (unconverted (knowing context.site facts) left.index)
            (unconverted (knowing context.site facts) right.index) ≡ true)
            → a ≡ b
        by (inl leaf) =
            same_leaves context sound top base s r memory ready facts left.index right.index one other a b t u
            one_is other_is one_types.0
            other_types.0 leaf first second
        by (inr scalar) =
            let x = inside left.index one a t one_is one_types.0 one_types.1 first in
            let y = inside right.index other b u other_is other_types.0 other_types.1 second in
            let both =
            same_scalars context sound top base s r memory ready facts
            (unconverted (knowing context.site facts) left.index)
            (unconverted (knowing context.site facts) right.index) x.tree y.tree x.n y.n x.t y.t x.is y.is
            x.types y.types scalar x.gives y.gives in
            x.same both.1 ∙ both.0 ∙ sym (y.same (subst (λ (n : ℕ). n < 65536) both.0 both.1))

    -- what two subscripts that are the same add
    pub same_displacements :
        {one_bound other_bound : ℕ} (left right : Option IndexNode) (one other : Subscript)
        (a b : Displacement) (t u : SourceState)
        → IsSubscript (nodes_in context) context.storage one_bound left one
        → IsSubscript (nodes_in context) context.storage other_bound right other
        → TypesHoldInSubscript context.typed context.within one
        → TypesHoldInSubscript context.typed context.within other
        → are_same_subscripts (knowing context.site facts) left right ≡ true
        → displacement context.later context.activation.around one s ≡ Gave a t
        → displacement context.later context.activation.around other s ≡ Gave b u
        → a.bytes % 65536 ≡ b.bytes % 65536
    same_displacements _ _ _ _ a b t u IsAbsent IsAbsent one_types other_types same first second =
        ap (λ (d : Displacement). d.bytes % 65536)
        (sym (same_both _ a s t first).0 ∙ (same_both _ b s u second).0)
    same_displacements _ _ _ _ a b t u
        (IsIndex {stride = stride} {count = count} {number = number} {index = index} is)
        (IsIndex {stride = other_stride} {count = other_count} {number = other_number} {index = other_index}
        other_is) one_types other_types same first second =
        let parts = and_parts (nat_eq (stride % 65536) (other_stride % 65536)) _ same in
        let strides : stride % 65536 ≡ other_stride % 65536 =
        eqb-true (stride % 65536) (other_stride % 65536) parts.0 in
        let x = gave_before (value context.later context.activation.around index s)
        (λ n v. Gave (displaced stride count n) v) a t first in
        let y = gave_before (value context.later context.activation.around other_index s)
        (λ n v. Gave (displaced other_stride other_count n) v) b u second in
        let equal : x.first ≡ y.first =
        same_indexes (record { index = number; stride = stride % 65536 })
        (record { index = other_number; stride = other_stride % 65536 })
        index other_index x.first y.first x.t y.t is other_is one_types other_types parts.1 x.is y.is in
        ap (λ (d : Displacement). d.bytes % 65536) (sym (same_both _ a x.t t x.next).0)
        ∙ sym (mul-mod_first stride x.first 65536)
        ∙ ap (λ (m : ℕ). (m * x.first) % 65536) strides
        ∙ ap (λ (n : ℕ). (other_stride % 65536 * n) % 65536) equal
        ∙ mul-mod_first other_stride y.first 65536
        ∙ ap (λ (d : Displacement). d.bytes % 65536) (same_both _ b y.t u y.next).0
    same_displacements _ _ _ _ a b t u IsAbsent (IsIndex other_is) one_types other_types same first second =
        let never : ⊥ = cc in absurd never
    same_displacements _ _ _ _ a b t u (IsIndex is) IsAbsent one_types other_types same first second =
        let never : ⊥ = cc in absurd never
