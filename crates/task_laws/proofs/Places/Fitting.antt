-- A located scalar is within its object, if each subscript is below its dimension.
use Rattle.task_laws.proofs.Prelude.{◌≡◌, ℕ, ◌+◌, ◌%◌, ◌≤◌, ◌&&◌, Bool, true, Option, Some, None, refl, sym, ap, subst, ◌∙◌, arith, IsSomeAnd, slice_get, ltb-true, MEMORY_SIZE, ScalarType, IsScalarOf, size_of_object, size_of_scalar, TypedHome, InData, InConstants, Placed, BasedOn, Elsewhere, Nowhere, InFrame, PartOf, Subscript, NoSubscript, At, TypedObject, TypedReference, IsSeen, RefersToScalar, InMemory, home_of, place_of, read_scalar, Displacement, based_place, displaced, displacement, located, value, Outcome, Gave, Stopped, then_do, Context, IsSound, IsReferred, and_parts, remainder_in_memory}
use Rattle.typed_trees.proofs.Inside.{LiesAt, scalar_lies_within}
use Rattle.meaning.specs.{Access.{Place}, Outcomes.{State}}
use Rattle.task_laws.proofs.Places.Bases.{has_some, home_there, own_frame}
use Rattle.task_laws.proofs.Places.Reading.{FitsIn}

-- the given value comes from the first evaluation
pub record GaveFirst {A B : Type 0} (outcome : Outcome A) (go : A → State → Outcome B) (found : B)
    (u : State) : Type 0 where
  pub first : A
  pub t : State
  pub is : outcome ≡ Gave first t
  pub next : go first t ≡ Gave found u

pub gave_first :
    {A B : Type 0} (outcome : Outcome A) (go : A → State → Outcome B) (found : B) (u : State)
    → then_do outcome go ≡ Gave found u
    → GaveFirst outcome go found u
gave_first (Gave first t) go found u same = record { first = first; t = t; is = refl; next = same }
gave_first (Stopped why t) go found u same = absurd cc

same_given : {A : Type 0} {one other : A} {t u : State} → Gave one t ≡ Gave other u → one ≡ other
same_given same = cc

-- a displacement is that of an element, where its subscript is below the dimension
displacement_lies :
    (context : Context) (subscript : Subscript) (found : Displacement) (s u : State)
    → displacement context.later context.activation.around subscript s ≡ Gave found u
    → found.is_inside ≡ true
    → LiesAt subscript found.bytes
displacement_lies context NoSubscript found s u same inside =
    ap (λ (d : Displacement). d.bytes) (sym (same_given same))
displacement_lies context (At stride count index) found s u same inside =
    let given =
    gave_first (value context.later context.activation.around index s)
    (λ n t. Gave (displaced stride count n) t) found u same in
    let is : displaced stride count given.first ≡ found = same_given given.next in (
      given.first,
      ltb-true given.first count (ap (λ (d : Displacement). d.is_inside) is ∙ inside),
      ap (λ (d : Displacement). d.bytes) (sym is),
    )

-- a place that is located from a base fits
based_fits :
    (context : Context) (object bytes size : ℕ) (is_inside : Bool) (found : TypedObject)
    (place : Place) (s u : State)
    → IsSound context
    → slice_get context.typed.objects object ≡ Some found
    → IsSeen context.typed context.within found.home
    → (is_inside ≡ true → bytes + size ≤ size_of_object found)
    → based_place (home_of context.activation.around object) context.activation.around object bytes
    is_inside s ≡ Gave place u
    → FitsIn context.activation size place
based_fits context object bytes size is_inside found place s u sound is seen fits same =
    by_kind found.home refl
    (sym (ap (λ (kind : TypedHome). based_place kind context.activation.around object bytes is_inside s)
    (home_there context object found sound is)) ∙ same)
  where
    in_memory : (address : ℕ) → InMemory (address % MEMORY_SIZE) ≡ place
        → FitsIn context.activation size place
    in_memory address is_there =
        subst (λ (place : Place). FitsIn context.activation size place) is_there (remainder_in_memory address)

    by_kind : (kind : TypedHome) → found.home ≡ kind
        → based_place kind context.activation.around object bytes is_inside s ≡ Gave place u
        → FitsIn context.activation size place
    by_kind (BasedOn base) kind_is same =
        let given =
        gave_first
        (read_scalar context.activation.around.program
        Rattle.trees.specs.declared.declaration.ScalarType.TheVariants.Address
        (place_of context.activation.around base) s)
        (λ start t. Gave (InMemory ((start + bytes) % MEMORY_SIZE)) t) place u same in
        in_memory (given.first + bytes) (same_given given.next)
    by_kind (InFrame procedure) kind_is same =
        let own = own_frame context.within procedure
        (subst (λ (kind : TypedHome). IsSeen context.typed context.within kind) kind_is seen) in
        let planned = sound.frame procedure object own.0 found own.1 is kind_is in
        let size_is = planned.1 in
        subst (λ (place : Place). FitsIn context.activation size place) (same_given same)
        (λ inside. let less = fits inside in omega (arith, less, size_is))
    by_kind (InData values) kind_is same = in_memory _ (same_given same)
    by_kind (InConstants values) kind_is same = in_memory _ (same_given same)
    by_kind (Placed at) kind_is same = in_memory _ (same_given same)
    by_kind Elsewhere kind_is same = in_memory _ (same_given same)
    by_kind Nowhere kind_is same = in_memory _ (same_given same)

-- a scalar that is referred to
pub located_fits :
    (context : Context) (scalar : ScalarType) (tree : TypedReference) (place : Place) (s u : State)
    → IsSound context
    → RefersToScalar context.typed context.within scalar tree
    → located context.later context.activation.around tree s ≡ Gave place u
    → FitsIn context.activation (size_of_scalar scalar) place
located_fits context scalar (PartOf object subscript member offset member_subscript) place s
    u sound refers same =
    let its = has_some (slice_get context.typed.objects object) refers in
    let one = gave_first (displacement context.later context.activation.around subscript s)
    (λ one t. then_do (displacement context.later context.activation.around member_subscript t)
    (λ two u. based_place (home_of context.activation.around object) context.activation.around object
    (one.bytes + offset + two.bytes) (one.is_inside && two.is_inside) u)) place u same in
    let two = gave_first (displacement context.later context.activation.around member_subscript one.t)
    (λ two u. based_place (home_of context.activation.around object) context.activation.around object
    ((one.first).bytes + offset + two.bytes) ((one.first).is_inside && two.is_inside) u) place u one.next in
    based_fits context object ((one.first).bytes + offset + (two.first).bytes) (size_of_scalar scalar)
    ((one.first).is_inside && (two.first).is_inside) its.found place two.t u sound its.is its.holds.0
    (λ inside.
    scalar_lies_within its.found scalar object subscript member offset member_subscript (one.first).bytes
    (two.first).bytes its.holds.1
    (displacement_lies context subscript one.first s one.t one.is
    (and_parts (one.first).is_inside (two.first).is_inside inside).0)
    (displacement_lies context member_subscript two.first one.t two.t two.is
    (and_parts (one.first).is_inside (two.first).is_inside inside).1))
    two.next

-- a scalar that is referred to is an object that is
pub refers_is_referred :
    (context : Context) (scalar : ScalarType) (tree : TypedReference)
    → RefersToScalar context.typed context.within scalar tree
    → IsReferred context tree
refers_is_referred context scalar (PartOf object subscript member offset member_subscript) refers =
    by_found (slice_get context.typed.objects object) refers
  where
    by_found : (found : Option TypedObject)
        → IsSomeAnd found
        (λ (object_found : TypedObject). IsSeen context.typed context.within object_found.home
        × IsScalarOf object_found scalar (PartOf object subscript member offset member_subscript))
        → IsSomeAnd found
        (λ (object_found : TypedObject). IsSeen context.typed context.within object_found.home)
    by_found (Some found) is = is.0
    by_found None is = absurd is
