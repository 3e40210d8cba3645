-- References that are seen to be the same are located without a change, at one address.
use Rattle.statement_laws.proofs.Prelude.{◌≡◌, ℕ, ◌+◌, ◌%◌, ◌⊎◌, inl, inr, Bool, true, false, ◌&&◌, nat_eq, List, Option, Some, None, option_map, refl, sym, ap, subst, ◌∙◌, arith, and_parts, eqb-true, ScalarType, PartOf, Subscript, TypedExpression, TypedReference, ValueNode, RefersToScalar, TypesHold, TypesHoldInReference, TypesHoldInSubscript, home_of, read_scalar, Displacement, based_place, displaced, displacement, located, no_displacement, value, SourceState, Outcome, Gave, then_do, as_type, Registers, Expression, ExpressionForm, ExpressionNumber, Location, Reference, IndexNode, IsAbsent, IsExpression, IsForm, IsIndex, IsNumber, IsPart, IsReference, IsSubscript, IsValue, IsLocation, IsConstantList, IsConversion, IsEmbedded, IsUnary, IsBinary, IsCallOf, IsFunction, IsShift, IsInput, Answer, Fails, Found, IsQuiet, outcome_of, quiet_base, quiet_gave, quiet_scalar, quiet_then, IsReady, Facts, location_of, number, knowing, are_same, are_same_leaf, are_same_scalar, are_same_subscripts, inside_conversion, scalar_at, scalar_of_form, unconverted, Context, IsSound, nodes_in, address_on_machine, refers_is_referred, number_means, lies_there, node_of, or_cases, same_both}
use Rattle.meaning.specs.Access.{Place}
use Rattle.statement_laws.proofs.Assignments.SameParts.{same_bases, same_displacements}
use Rattle.statement_laws.proofs.Assignments.SameValues.{gave_before, one_scalar}

-- what is quiet leaves the state as it is
pub quiet_state :
    {A : Type 0} (go : SourceState → Outcome A) (s t : SourceState) (found : A)
    → IsQuiet go
    → go s ≡ Gave found t
    → t ≡ s
quiet_state {A = A} go s t found quiet same = by (quiet.answer s.memory s.frame) (sym (quiet.gives s) ∙ same)
  where
    by : (answer : Answer A) → outcome_of answer s ≡ Gave found t → t ≡ s
    by (Found one) is = sym (same_both one found s t is).1
    by (Fails reason) is = let never : ⊥ = cc in absurd never

module _ (context : Context) (sound : IsSound context) (facts : Facts) where
  -- the value of a tree
  abbrev of_tree : TypedExpression → SourceState → Outcome ℕ
  of_tree tree s = value context.later context.activation.around tree s

  quiet_number :
      {bound : ℕ} (of : ExpressionNumber) (tree : TypedExpression) (n : ℕ)
      → IsExpression (nodes_in context) context.storage bound of.index tree
      → TypesHold context.typed context.within tree
      → number (knowing context.site facts) of ≡ Some n
      → IsQuiet (of_tree tree)
  quiet_number of tree n is types known =
      record { answer = λ memory frame. Found n; gives = λ s. number_means facts n sound is types known s }

  quiet_value_there :
      {bound : ℕ} (kind given : ScalarType) (reference : Reference) (part : TypedReference)
      (pair : Location × ScalarType)
      → IsReference (nodes_in context) context.storage bound reference part
      → RefersToScalar context.typed context.within kind part
      → TypesHoldInReference context.typed context.within part
      → (known : Option Location)
      → location_of (knowing context.site facts) reference ≡ known
      → option_map {U = Location × ScalarType} (λ (l : Location). (l, given)) known ≡ Some pair
      → IsQuiet (of_tree (ValueNode kind part))
  quiet_value_there kind given reference part pair is refers types None known there =
      let never : ⊥ = cc in absurd never
  quiet_value_there kind given reference part pair is refers types (Some place) known there =
      let lies = lies_there facts place sound is (refers_is_referred context kind part refers) types known in
      let quiet = quiet_scalar context.activation.around.program kind lies.place in
      record {
        answer = quiet.answer;
        gives = λ s.
            ap (λ (outcome : Outcome Place). then_do outcome
            (λ one u. read_scalar context.activation.around.program kind one u))
            (lies.means s) ∙ quiet.gives s;
      }

  -- a scalar whose place is known
  quiet_scalar_there :
      {bound : ℕ} (of : ExpressionNumber) (tree : TypedExpression) (pair : Location × ScalarType)
      → IsExpression (nodes_in context) context.storage bound of.index tree
      → TypesHold context.typed context.within tree
      → scalar_at (knowing context.site facts) of ≡ Some pair
      → IsQuiet (of_tree tree)
  quiet_scalar_there of tree pair is types there =
      let node = node_of {number = of} sound is in
      by node.found.traits.scalar node.form
      (sym (ap (λ (one : Option Expression). elim one as (λ (given : Option Expression). Option
      (Location × ScalarType)) [
        | Some given ↦ scalar_of_form (knowing context.site facts) given.form given.traits.scalar
        | None ↦ None
      ]) (node.at_site facts)) ∙ there) types
    where
      by : {form : ExpressionForm} {one : TypedExpression} {bound_here : ℕ} (given : ScalarType)
          → IsForm (nodes_in context) context.storage bound_here form one
          → scalar_of_form (knowing context.site facts) form given ≡ Some pair
          → TypesHold context.typed context.within one
          → IsQuiet (of_tree one)
      by given (IsValue {scalar = kind} {reference = reference} {part = part} part_is) there types =
          quiet_value_there kind given reference part pair part_is types.0 types.1
          (location_of (knowing context.site facts) reference) refl there
      by given IsNumber there types = let never : ⊥ = cc in absurd never
      by given (IsLocation part) there types = let never : ⊥ = cc in absurd never
      by given IsConstantList there types = let never : ⊥ = cc in absurd never
      by given (IsConversion inner) there types = let never : ⊥ = cc in absurd never
      by given (IsEmbedded target inner) there types = let never : ⊥ = cc in absurd never
      by given (IsUnary inner) there types = let never : ⊥ = cc in absurd never
      by given (IsBinary first second) there types = let never : ⊥ = cc in absurd never
      by given (IsCallOf are) there types = let never : ⊥ = cc in absurd never
      by given (IsFunction inner) there types = let never : ⊥ = cc in absurd never
      by given (IsShift first second) there types = let never : ⊥ = cc in absurd never
      by given IsInput there types = let never : ⊥ = cc in absurd never

  -- a scalar that may be converted
  quiet_form :
      {bound bound_here : ℕ} {form : ExpressionForm} {tree : TypedExpression} (of : ExpressionNumber)
      (pair : Location × ScalarType)
      → IsForm (nodes_in context) context.storage bound_here form tree
      → IsExpression (nodes_in context) context.storage bound of.index tree
      → TypesHold context.typed context.within tree
      → scalar_at (knowing context.site facts) (inside_conversion form of) ≡ Some pair
      → IsQuiet (of_tree tree)
  quiet_form of pair (IsConversion {inner = inner} {scalar = scalar} {tree = tree} inner_is) is types there =
      quiet_then (of_tree tree) (λ n u. Gave (as_type scalar n) u)
      (quiet_scalar_there inner tree pair inner_is types there)
      (λ n. quiet_gave (as_type scalar n))
  quiet_form of pair IsNumber is types there = quiet_scalar_there of _ pair is types there
  quiet_form of pair (IsValue part) is types there = quiet_scalar_there of _ pair is types there
  quiet_form of pair (IsLocation part) is types there = quiet_scalar_there of _ pair is types there
  quiet_form of pair IsConstantList is types there = quiet_scalar_there of _ pair is types there
  quiet_form of pair (IsEmbedded target inner) is types there = quiet_scalar_there of _ pair is types there
  quiet_form of pair (IsUnary inner) is types there = quiet_scalar_there of _ pair is types there
  quiet_form of pair (IsBinary first second) is types there = quiet_scalar_there of _ pair is types there
  quiet_form of pair (IsCallOf are) is types there = quiet_scalar_there of _ pair is types there
  quiet_form of pair (IsFunction inner) is types there = quiet_scalar_there of _ pair is types there
  quiet_form of pair (IsShift first second) is types there = quiet_scalar_there of _ pair is types there
  quiet_form of pair IsInput is types there = quiet_scalar_there of _ pair is types there

  quiet_converted :
      {bound : ℕ} (of : ExpressionNumber) (tree : TypedExpression) (pair : Location × ScalarType)
      → IsExpression (nodes_in context) context.storage bound of.index tree
      → TypesHold context.typed context.within tree
      → scalar_at (knowing context.site facts) (unconverted (knowing context.site facts) of) ≡ Some pair
      → IsQuiet (of_tree tree)
  quiet_converted of tree pair is types there =
      let node = node_of {number = of} sound is in
      quiet_form of pair node.form is types
      (subst (λ (one : ExpressionNumber). scalar_at (knowing context.site facts) one ≡ Some pair)
      (ap (λ (one : Option Expression). elim one as (λ (given : Option Expression). ExpressionNumber) [
        | Some given ↦ inside_conversion given.form of
        | None ↦ of
      ]) (node.at_site facts)) there)

  -- two subscripts that are the same
  module _
      (top : ℕ) (base : List ℕ) (s : SourceState) (r : Registers) (memory : List ℕ)
      (ready : IsReady context.activation top base s.memory s.frame r memory)
    where
      quiet_leaves :
          {one_bound other_bound : ℕ} (left right : ExpressionNumber) (one other : TypedExpression)
          → IsExpression (nodes_in context) context.storage one_bound left.index one
          → IsExpression (nodes_in context) context.storage other_bound right.index other
          → TypesHold context.typed context.within one
          → TypesHold context.typed context.within other
          → are_same_leaf (knowing context.site facts) left right ≡ true
          → IsQuiet (of_tree one) × IsQuiet (of_tree other)
      quiet_leaves left right one other one_is other_is one_types other_types same =
          by (number (knowing context.site facts) left)
          (number (knowing context.site facts) right) refl refl same
        where
          scalars : are_same_scalar (knowing context.site facts) left right ≡ true
              → IsQuiet (of_tree one) × IsQuiet (of_tree other)
          scalars same =
              let found = one_scalar context sound top base s r memory ready facts left right same in (
                quiet_scalar_there left one _ one_is one_types found.left_at,
                quiet_scalar_there right other _ other_is other_types found.right_at,
              )

          by : (n m : Option ℕ)
              → number (knowing context.site facts) left ≡ n
              → number (knowing context.site facts) right ≡ m
              → elim n as (λ (given : Option ℕ). Bool) [
                | Some x ↦ elim m as (λ (given : Option ℕ). Bool) [
                  | Some y ↦ nat_eq x y
                  | None ↦ are_same_scalar (knowing context.site facts) left right
                ]
                | None ↦ are_same_scalar (knowing context.site facts) left right
              ] ≡ true
              → IsQuiet (of_tree one) × IsQuiet (of_tree other)
          by (Some x) (Some y) one_known other_known same =
              (quiet_number left one x one_is one_types one_known, quiet_number right other y other_is other_types other_known)
          by (Some x) None one_known other_known same = scalars same
          by None m one_known other_known same = scalars same

      quiet_indexes :
          {one_bound other_bound : ℕ} (left right : ExpressionNumber) (one other : TypedExpression)
          → IsExpression (nodes_in context) context.storage one_bound left.index one
          → IsExpression (nodes_in context) context.storage other_bound right.index other
          → TypesHold context.typed context.within one
          → TypesHold context.typed context.within other
          → (are_same_leaf (knowing context.site facts) left right ≡ true)
          ⊎ (are_same_scalar (knowing context.site facts) (unconverted (knowing context.site facts) left)
          (unconverted (knowing context.site facts) right) ≡ true)
          → IsQuiet (of_tree one) × IsQuiet (of_tree other)
      quiet_indexes left right one other one_is other_is one_types other_types (inl leaf) =
          quiet_leaves left right one other one_is other_is one_types other_types leaf
      quiet_indexes left right one other one_is other_is one_types other_types (inr scalar) =
          let found =
          one_scalar context sound top base s r memory ready facts
          (unconverted (knowing context.site facts) left)
          (unconverted (knowing context.site facts) right) scalar in (
            quiet_converted left one _ one_is one_types found.left_at,
            quiet_converted right other _ other_is other_types found.right_at,
          )

      -- what a subscript adds
      abbrev added : Subscript → SourceState → Outcome Displacement
      added subscript t = displacement context.later context.activation.around subscript t

      quiet_added :
          {one_bound other_bound : ℕ} (left right : Option IndexNode) (one other : Subscript)
          → IsSubscript (nodes_in context) context.storage one_bound left one
          → IsSubscript (nodes_in context) context.storage other_bound right other
          → TypesHoldInSubscript context.typed context.within one
          → TypesHoldInSubscript context.typed context.within other
          → are_same_subscripts (knowing context.site facts) left right ≡ true
          → IsQuiet (added one) × IsQuiet (added other)
      quiet_added _ _ _ _ IsAbsent IsAbsent one_types other_types same =
          (quiet_gave no_displacement, quiet_gave no_displacement)
      quiet_added _ _ _ _ (IsIndex {stride = stride} {count = count} {number = left} {index = index} is)
          (IsIndex {stride = other_stride} {count = other_count} {number = right} {index = other_index}
          other_is) one_types other_types same =
          let parts = and_parts (nat_eq (stride % 65536) (other_stride % 65536)) _ same in
          let quiet = quiet_indexes left right index other_index is other_is one_types.0 other_types.0
          (or_cases (are_same_leaf (knowing context.site facts) left right)
          (are_same_scalar (knowing context.site facts) (unconverted (knowing context.site facts) left)
          (unconverted (knowing context.site facts) right)) parts.1) in (
            quiet_then (of_tree index) (λ n t. Gave (displaced stride count n) t) quiet.0
                (λ n. quiet_gave (displaced stride count n)),
            quiet_then (of_tree other_index) (λ n t. Gave (displaced other_stride other_count n) t) quiet.1
                (λ n. quiet_gave (displaced other_stride other_count n)),
          )
      quiet_added _ _ _ _ IsAbsent (IsIndex other_is) one_types other_types same =
          let never : ⊥ = cc in absurd never
      quiet_added _ _ _ _ (IsIndex is) IsAbsent one_types other_types same =
          let never : ⊥ = cc in absurd never

      quiet_part :
          (object offset : ℕ) (member : Option ℕ) (one two : Subscript)
          → IsQuiet (added one)
          → IsQuiet (added two)
          → IsQuiet
          (λ (t : SourceState). located context.later context.activation.around
          (PartOf object one member offset two) t)
      quiet_part object offset member one two first second =
          quiet_then (added one)
          (λ a t.
          then_do (added two t)
          (λ b u. based_place (home_of context.activation.around object) context.activation.around object
          (a.bytes + offset + b.bytes)
          (a.is_inside && b.is_inside) u)) first
          (λ a.
          quiet_then (added two)
          (λ b u. based_place (home_of context.activation.around object) context.activation.around object
          (a.bytes + offset + b.bytes)
          (a.is_inside && b.is_inside) u) second
          (λ b. quiet_base (home_of context.activation.around object) context.activation.around object
          (a.bytes + offset + b.bytes)
          (a.is_inside && b.is_inside)))

      -- two references that are the same
      pub record SameParts (one other : TypedReference) : Type 0 where
        pub first : IsQuiet (λ (t : SourceState). located context.later context.activation.around one t)
        pub second : IsQuiet (λ (t : SourceState). located context.later context.activation.around other t)
        pub same : (p q : Place) (t u : SourceState)
            → located context.later context.activation.around one s ≡ Gave p t
            → located context.later context.activation.around other s ≡ Gave q u
            → address_on_machine context.activation p ≡ address_on_machine context.activation q

      same_sums :
          (object offset other_offset : ℕ) (a b c d : ℕ)
          → a % 65536 ≡ c % 65536 → b % 65536 ≡ d % 65536 → offset % 65536 ≡ other_offset % 65536
          → (a + offset + b) % 65536 ≡ (c + other_offset + d) % 65536
      same_sums object offset other_offset a b c d one two three = omega (arith, one, two, three)

      located_same :
          (object offset other_offset : ℕ) (member other_member : Option ℕ)
          (one two other_one other_two : Subscript)
          (p q : Place) (t u : SourceState)
          → offset % 65536 ≡ other_offset % 65536
          → IsQuiet (added one) × IsQuiet (added other_one)
          → ((a b : Displacement) (v w : SourceState) → added one s ≡ Gave a v → added other_one s ≡ Gave b w
          → a.bytes % 65536 ≡ b.bytes % 65536)
          → ((a b : Displacement) (v w : SourceState) → added two s ≡ Gave a v → added other_two s ≡ Gave b w
          → a.bytes % 65536 ≡ b.bytes % 65536)
          → IsQuiet (added two) × IsQuiet (added other_two)
          → located context.later context.activation.around (PartOf object one member offset two) s ≡ Gave p t
          → located context.later context.activation.around
          (PartOf object other_one other_member other_offset other_two) s ≡ Gave q u
          → address_on_machine context.activation p ≡ address_on_machine context.activation q
      located_same object offset other_offset member other_member one two other_one other_two p q t u offsets
          quiet ones twos quiet_too first second =
          let home = home_of context.activation.around object in
          let a = gave_before (added one s)
          (λ x v. then_do (added two v)
          (λ y w. based_place home context.activation.around object (x.bytes + offset + y.bytes)
          (x.is_inside && y.is_inside) w)) p t first in
          let b = gave_before (added two a.t)
          (λ y w. based_place home context.activation.around object ((a.first).bytes + offset + y.bytes)
          ((a.first).is_inside && y.is_inside) w)
          p t a.next in
          let c = gave_before (added other_one s)
          (λ x v. then_do (added other_two v)
          (λ y w. based_place home context.activation.around object (x.bytes + other_offset + y.bytes)
          (x.is_inside && y.is_inside) w)) q u second in
          let d = gave_before (added other_two c.t)
          (λ y w. based_place home context.activation.around object ((c.first).bytes + other_offset + y.bytes)
          ((c.first).is_inside && y.is_inside) w)
          q u c.next in
          let a_state = quiet_state (added one) s a.t a.first quiet.0 a.is in
          let c_state = quiet_state (added other_one) s c.t c.first quiet.1 c.is in
          let two_is = ap (λ (v : SourceState). added two v) (sym a_state) ∙ b.is in
          let four_is = ap (λ (v : SourceState). added other_two v) (sym c_state) ∙ d.is in
          let b_state = quiet_state (added two) s b.t b.first quiet_too.0 two_is in
          let d_state = quiet_state (added other_two) s d.t d.first quiet_too.1 four_is in
          same_bases context home object ((a.first).bytes + offset + (b.first).bytes)
          ((c.first).bytes + other_offset + (d.first).bytes)
          ((a.first).is_inside && (b.first).is_inside) ((c.first).is_inside && (d.first).is_inside) s t u p q
          (same_sums object offset other_offset (a.first).bytes (b.first).bytes
          (c.first).bytes (d.first).bytes
          (ones a.first c.first a.t c.t a.is c.is) (twos b.first d.first b.t d.t two_is four_is) offsets)
          (ap (λ (v : SourceState). based_place home context.activation.around object
          ((a.first).bytes + offset + (b.first).bytes)
          ((a.first).is_inside && (b.first).is_inside) v) (sym b_state) ∙ b.next)
          (ap (λ (v : SourceState). based_place home context.activation.around object
          ((c.first).bytes + other_offset + (d.first).bytes)
          ((c.first).is_inside && (d.first).is_inside) v) (sym d_state) ∙ d.next)

      four_true : (a b c d : Bool) → (a && b && c && d) ≡ true
          → (a ≡ true) × (b ≡ true) × (c ≡ true) × (d ≡ true)
      four_true true true true true all = (refl, refl, refl, refl)
      four_true true true true false all = let never : ⊥ = cc in absurd never
      four_true true true false d all = let never : ⊥ = cc in absurd never
      four_true true false c d all = let never : ⊥ = cc in absurd never
      four_true false b c d all = let never : ⊥ = cc in absurd never

      pub same_parts :
          {one_bound other_bound : ℕ} (left right : Reference) (one other : TypedReference)
          → IsReference (nodes_in context) context.storage one_bound left one
          → IsReference (nodes_in context) context.storage other_bound right other
          → TypesHoldInReference context.typed context.within one
          → TypesHoldInReference context.typed context.within other
          → are_same (knowing context.site facts) left right ≡ true
          → SameParts one other
      same_parts _ _ _ _
          (IsPart {object = object} {offset = offset} {member = member} {first = a} {second = b}
          {subscript = one} {member_subscript = two} one_is two_is)
          (IsPart {object = other_object} {offset = other_offset} {member = other_member} {first = c}
          {second = d} {subscript = other_one} {member_subscript = other_two} three_is four_is)
          types other_types same =
          let parts = four_true (nat_eq object other_object) (nat_eq (offset % 65536) (other_offset % 65536))
          (are_same_subscripts (knowing context.site facts) a c)
          (are_same_subscripts (knowing context.site facts) b d) same in
          let objects : object ≡ other_object = eqb-true object other_object parts.0 in
          let quiet = quiet_added a c one other_one one_is three_is types.0 other_types.0 parts.2 in
          let quiet_too = quiet_added b d two other_two two_is four_is types.1 other_types.1 parts.3 in
          record {
            first = quiet_part object offset member one two quiet.0 quiet_too.0;
            second =
                quiet_part other_object other_offset other_member other_one other_two quiet.1 quiet_too.1;
            same = λ p q t u first second.
                located_same object offset other_offset member other_member one two
                other_one other_two p q t u
                (eqb-true (offset % 65536) (other_offset % 65536) parts.1) quiet
                (λ x y v w is_x is_y. same_displacements context sound top base s r memory ready facts a c one
                other_one x y v w one_is three_is
                types.0 other_types.0 parts.2 is_x is_y)
                (λ x y v w is_x is_y. same_displacements context sound top base s r memory ready facts b d two
                other_two x y v w two_is four_is
                types.1 other_types.1 parts.3 is_x is_y)
                quiet_too first
                (ap (λ (n : ℕ). located context.later context.activation.around
                (PartOf n other_one other_member other_offset other_two) s) objects
                ∙ second);
          }
