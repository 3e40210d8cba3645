-- Scalars at one place have one value, which is that of the machine's memory.
use Rattle.statement_laws.proofs.Prelude.{◌≡◌, ℕ, ◌+◌, ◌*◌, ◌<◌, ◌≤◌, Bool, true, false, if◌then◌else◌, nat_eq, List, Option, Some, None, option_map, refl, sym, ap, ◌∙◌, arith, and_parts, eqb-true, same_Some, byte_at, byte_small, ScalarType, Byte, Address, type_of, size_of_scalar, TypedExpression, TypedReference, ValueNode, RefersToScalar, TypesHold, TypesHoldInReference, UndeclaredByte, InMemory, InTheFrame, is_declared, next_place, read_byte, read_scalar, value, SourceState, Outside, Outcome, Gave, Stopped, then_do, Registers, wrap, Expression, ExpressionForm, ExpressionNumber, Location, Reference, IsExpression, IsForm, IsReference, IsNumber, IsValue, IsLocation, IsConstantList, IsConversion, IsEmbedded, IsUnary, IsBinary, IsCallOf, IsFunction, IsShift, IsInput, IsReady, declared_is_steady, IsSteady, location_at, same_locations, Facts, same_location, location_of, number, knowing, are_same_leaf, are_same_placed, are_same_scalar, same_scalar, scalar_at, scalar_of_form, Context, IsSound, distances_in, nodes_in, address_on_machine, located_fits, refers_is_referred, number_means, lies_there, node_of, FitsIn, frame_is, of_frame, first_fits, next_address, second_fits, same_both, scalars_agree}
use Rattle.meaning.specs.Access.{Place}

-- what a part gave that others follow
pub record GaveBefore
    {A B : Type 0} (outcome : Outcome A) (go : A → SourceState → Outcome B) (found : B)
    (u : SourceState) : Type 0 where
  pub first : A
  pub t : SourceState
  pub is : outcome ≡ Gave first t
  pub next : go first t ≡ Gave found u

pub gave_before :
    {A B : Type 0} (outcome : Outcome A) (go : A → SourceState → Outcome B) (found : B) (u : SourceState)
    → then_do outcome go ≡ Gave found u
    → GaveBefore outcome go found u
gave_before (Gave first t) go found u same = record { first = first; t = t; is = refl; next = same }
gave_before (Stopped why t) go found u same = let never : ⊥ = cc in absurd never

-- the value of a scalar in a memory of the machine
abbrev pub scalar_in : ScalarType → List ℕ → (address : ℕ) → ℕ
scalar_in Byte memory address = byte_at memory address
scalar_in Address memory address = byte_at memory address + 256 * byte_at memory (wrap (address + 1))

module _
    (context : Context) (sound : IsSound context) (top : ℕ) (base : List ℕ) (s : SourceState)
    (r : Registers) (memory : List ℕ)
    (ready : IsReady context.activation top base s.memory s.frame r memory)
  where
    -- a byte that was read
    pub record ByteIs (place : Place) (found : ℕ) (t : SourceState) : Type 0 where
      pub same : t ≡ s
      pub is : found ≡ byte_at memory (address_on_machine context.activation place)
      pub steady : IsSteady context.activation (address_on_machine context.activation place)

    pub byte_is :
        (place : Place) (found : ℕ) (t : SourceState)
        → FitsIn context.activation 1 place
        → read_byte context.activation.around.program place s ≡ Gave found t
        → ByteIs place found t
    byte_is (InMemory address) found t fits same =
        by (is_declared context.activation.around.program address) refl same
      where
        by : (declared : Bool) → is_declared context.activation.around.program address ≡ declared
            → (if declared then Gave (byte_at s.memory address) s else Stopped (Outside UndeclaredByte) s)
            ≡ Gave found t
            → ByteIs (InMemory address) found t
        by true is same =
            let parts = same_both (byte_at s.memory address) found s t same in
            record { same = sym parts.1; is = sym parts.0 ∙ sym (ready.shares.declared address is); steady = declared_is_steady context.activation address sound.lies is }
        by false is same = let never : ⊥ = cc in absurd never
    byte_is (InTheFrame object offset true) found t fits same =
        let within : offset + 1 ≤ context.activation.size object = fits refl in
        let less : offset < context.activation.size object = omega (arith, within) in
        let is = frame_is context object offset sound less in
        let parts = same_both _ found s t same in
        record {
          same = sym parts.1;
          is = sym parts.0 ∙ sym (ap (byte_at memory) is ∙ ready.frame_lies.bytes object offset less);
          steady = of_frame context.activation object offset _ less is;
        }
    byte_is (InTheFrame object offset false) found t fits same = let never : ⊥ = cc in absurd never

    -- a scalar that was read
    pub scalar_is :
        (scalar : ScalarType) (place : Place) (found : ℕ) (t : SourceState)
        → FitsIn context.activation (size_of_scalar scalar) place
        → read_scalar context.activation.around.program scalar place s ≡ Gave found t
        → found ≡ scalar_in scalar memory (address_on_machine context.activation place)
    scalar_is Byte place found t fits same = (byte_is place found t fits same).is
    scalar_is Address place found t fits same =
        let program = context.activation.around.program in
        let low = gave_before (read_byte program place s)
        (λ low u. then_do (read_byte program (next_place place) u) (λ high v. Gave (low + 256 * high) v))
        found t same in
        let one = byte_is place low.first low.t (first_fits context.activation place fits) low.is in
        let high =
        gave_before (read_byte program (next_place place) low.t)
        (λ high v. Gave (low.first + 256 * high) v) found t low.next in
        let two = byte_is (next_place place) high.first high.t (second_fits context.activation place fits)
        (ap (λ (u : SourceState). read_byte program (next_place place) u) (sym one.same) ∙ high.is) in
        sym (same_both (low.first + 256 * high.first) found high.t t high.next).0
        ∙ ap (λ (n : ℕ). n + 256 * high.first) one.is
        ∙ ap (λ (n : ℕ). byte_at memory (address_on_machine context.activation place) + 256 * n)
        (two.is ∙ ap (λ (n : ℕ). byte_at memory n) (next_address context.activation place))

    pub small_scalar : (scalar : ScalarType) (address : ℕ) → scalar_in scalar memory address < 65536
    small_scalar Byte address =
        let small = byte_small memory address ready.shares.is_memory in omega (arith, small)
    small_scalar Address address =
        let low = byte_small memory address ready.shares.is_memory in
        let high = byte_small memory (wrap (address + 1)) ready.shares.is_memory in
        omega (arith, low, high)

    -- the value of a reference whose place is known
    value_there :
        {bound : ℕ} (facts : Facts) (kind : ScalarType) (reference : Reference) (part : TypedReference)
        (location : Location)
        (scalar given : ScalarType) (found : ℕ) (t : SourceState)
        → IsReference (nodes_in context) context.storage bound reference part
        → RefersToScalar context.typed context.within kind part
        → TypesHoldInReference context.typed context.within part
        → (known : Option Location)
        → location_of (knowing context.site facts) reference ≡ known
        → option_map {U = Location × ScalarType} (λ (l : Location). (l, given)) known
        ≡ Some (location, scalar)
        → given ≡ kind
        → value context.later context.activation.around (ValueNode kind part) s ≡ Gave found t
        → found ≡ scalar_in scalar memory (location_at context.activation (distances_in context) location)
    value_there facts kind reference part location scalar given found t is refers types None
        known there type same =
        let never : ⊥ = cc in absurd never
    value_there facts kind reference part location scalar given found t is refers types (Some place)
        known there type same =
        let both : (place, given) ≡ (location, scalar) =
        same_Some {A = Location × ScalarType} (place, given) (location, scalar) there in
        let lies =
        lies_there facts place sound is (refers_is_referred context kind part refers) types known in
        let read : read_scalar context.activation.around.program kind lies.place s ≡ Gave found t =
        sym (ap (λ (outcome : Outcome Place). then_do outcome
        (λ one u. read_scalar context.activation.around.program kind one u)) (lies.means s)) ∙ same in
        scalar_is kind lies.place found t
        (located_fits context kind part lies.place s s sound refers (lies.means s)) read
        ∙ ap (λ (n : ℕ). scalar_in kind memory n) lies.is_at
        ∙ ap (λ (one : ScalarType). scalar_in one memory
        (location_at context.activation (distances_in context) place))
        (sym type ∙ ap (λ (pair : Location × ScalarType). pair.1) both)
        ∙ ap (λ (one : Location). scalar_in scalar memory
        (location_at context.activation (distances_in context) one))
        (ap (λ (pair : Location × ScalarType). pair.0) both)

    -- a scalar whose place is known
    pub scalar_there :
        {bound : ℕ} (facts : Facts) (of : ExpressionNumber) (tree : TypedExpression) (location : Location)
        (scalar : ScalarType)
        (found : ℕ) (t : SourceState)
        → IsExpression (nodes_in context) context.storage bound of.index tree
        → TypesHold context.typed context.within tree
        → scalar_at (knowing context.site facts) of ≡ Some (location, scalar)
        → value context.later context.activation.around tree s ≡ Gave found t
        → found ≡ scalar_in scalar memory (location_at context.activation (distances_in context) location)
    scalar_there facts of tree location scalar found t is types there same =
        let node = node_of {number = of} sound is in
        by node.form
        (sym (ap (λ (one : Option Expression). elim one as (λ (given : Option Expression). Option
        (Location × ScalarType)) [
          | Some given ↦ scalar_of_form (knowing context.site facts) given.form given.traits.scalar
          | None ↦ None
        ]) (node.at_site facts)) ∙ there) node.scalar types same
      where
        by : {form : ExpressionForm} {one : TypedExpression} {bound_here : ℕ} {given : ScalarType}
            → IsForm (nodes_in context) context.storage bound_here form one
            → scalar_of_form (knowing context.site facts) form given ≡ Some (location, scalar)
            → given ≡ type_of one
            → TypesHold context.typed context.within one
            → value context.later context.activation.around one s ≡ Gave found t
            → found ≡ scalar_in scalar memory (location_at context.activation (distances_in context) location)
        by {given = given} (IsValue {scalar = kind} {reference = reference} {part = part} part_is)
            there type types same =
            value_there facts kind reference part location scalar given found t part_is types.0 types.1
            (location_of (knowing context.site facts) reference) refl there type same
        by IsNumber there type types same = let never : ⊥ = cc in absurd never
        by (IsLocation part) there type types same = let never : ⊥ = cc in absurd never
        by IsConstantList there type types same = let never : ⊥ = cc in absurd never
        by (IsConversion inner) there type types same = let never : ⊥ = cc in absurd never
        by (IsEmbedded target inner) there type types same = let never : ⊥ = cc in absurd never
        by (IsUnary inner) there type types same = let never : ⊥ = cc in absurd never
        by (IsBinary first second) there type types same = let never : ⊥ = cc in absurd never
        by (IsCallOf are) there type types same = let never : ⊥ = cc in absurd never
        by (IsFunction inner) there type types same = let never : ⊥ = cc in absurd never
        by (IsShift first second) there type types same = let never : ⊥ = cc in absurd never
        by IsInput there type types same = let never : ⊥ = cc in absurd never

    -- two expressions whose values are one scalar's
    pub record OneScalar (facts : Facts) (left right : ExpressionNumber) : Type 0 where
      pub first : Location
      pub second : Location
      pub scalar : ScalarType
      pub left_at : scalar_at (knowing context.site facts) left ≡ Some (first, scalar)
      pub right_at : scalar_at (knowing context.site facts) right ≡ Some (second, scalar)
      pub same : location_at context.activation (distances_in context) first
          ≡ location_at context.activation (distances_in context) second

    pub one_scalar :
        (facts : Facts) (left right : ExpressionNumber)
        → are_same_scalar (knowing context.site facts) left right ≡ true
        → OneScalar facts left right
    one_scalar facts left right same =
        by (scalar_at (knowing context.site facts) left)
        (scalar_at (knowing context.site facts) right) refl refl same
      where
        by : (one other : Option (Location × ScalarType))
            → scalar_at (knowing context.site facts) left ≡ one
            → scalar_at (knowing context.site facts) right ≡ other
            → are_same_placed one other ≡ true
            → OneScalar facts left right
        by (Some one) (Some other) first second same =
            let parts = and_parts (same_scalar one.1 other.1) (same_location one.0 other.0) same in
            let types = scalars_agree one.1 other.1 parts.0 in
            record {
              first = one.0;
              second = other.0;
              scalar = one.1;
              left_at = first;
              right_at = second ∙ ap (λ (given : ScalarType). Some (other.0, given)) (sym types);
              same = same_locations context.activation (distances_in context) one.0 other.0 parts.1;
            }
        by (Some one) None first second same = let never : ⊥ = cc in absurd never
        by None other first second same = let never : ⊥ = cc in absurd never

    -- two scalars that are the same
    pub same_scalars :
        {one_bound other_bound : ℕ} (facts : Facts) (left right : ExpressionNumber)
        (one other : TypedExpression) (a b : ℕ)
        (t u : SourceState)
        → IsExpression (nodes_in context) context.storage one_bound left.index one
        → IsExpression (nodes_in context) context.storage other_bound right.index other
        → TypesHold context.typed context.within one
        → TypesHold context.typed context.within other
        → are_same_scalar (knowing context.site facts) left right ≡ true
        → value context.later context.activation.around one s ≡ Gave a t
        → value context.later context.activation.around other s ≡ Gave b u
        → (a ≡ b) × (a < 65536)
    same_scalars facts left right one other a b t u one_is other_is one_types other_types same first second =
        let found = one_scalar facts left right same in
        let left_is =
        scalar_there facts left one found.first found.scalar a t one_is one_types found.left_at first in
        let right_is =
        scalar_there facts right other found.second found.scalar b u other_is other_types
        found.right_at second in
        let small =
        small_scalar found.scalar (location_at context.activation (distances_in context) found.first) in (
          left_is ∙ ap (λ (n : ℕ). scalar_in found.scalar memory n) found.same ∙ sym right_is,
          omega (arith, left_is, small),
        )

    -- two numbers or scalars that are the same
    pub same_leaves :
        {one_bound other_bound : ℕ} (facts : Facts) (left right : ExpressionNumber)
        (one other : TypedExpression) (a b : ℕ)
        (t u : SourceState)
        → IsExpression (nodes_in context) context.storage one_bound left.index one
        → IsExpression (nodes_in context) context.storage other_bound right.index other
        → TypesHold context.typed context.within one
        → TypesHold context.typed context.within other
        → are_same_leaf (knowing context.site facts) left right ≡ true
        → value context.later context.activation.around one s ≡ Gave a t
        → value context.later context.activation.around other s ≡ Gave b u
        → a ≡ b
    same_leaves facts left right one other a b t u one_is other_is one_types other_types same first second =
        by (number (knowing context.site facts) left)
        (number (knowing context.site facts) right) refl refl same
      where
        scalars : are_same_scalar (knowing context.site facts) left right ≡ true → a ≡ b
        scalars same =
            (same_scalars facts left right one other a b t u one_is other_is one_types other_types
            same first second).0

        by : (n m : Option ℕ)
            → number (knowing context.site facts) left ≡ n
            → number (knowing context.site facts) right ≡ m
            → elim n as (λ (given : Option ℕ). Bool) [
              | Some x ↦ elim m as (λ (given : Option ℕ). Bool) [
                | Some y ↦ nat_eq x y
                | None ↦ are_same_scalar (knowing context.site facts) left right
              ]
              | None ↦ are_same_scalar (knowing context.site facts) left right
            ] ≡ true
            → a ≡ b
        by (Some x) (Some y) one_known other_known same =
            (same_both a x t s (sym first ∙ number_means facts x sound one_is one_types one_known s)).0
            ∙ eqb-true x y same
            ∙ sym (same_both b y u s (sym second
            ∙ number_means facts y sound other_is other_types other_known s)).0
        by (Some x) None one_known other_known same = scalars same
        by None m one_known other_known same = scalars same
