-- At the end of its declarations a procedure has the parameters that its heading says.
use Rattle.typing.proofs.Prelude.{◌≡◌, ◌≢◌, ℕ, zero, suc, ◌<◌, ◌≤◌, Bool, true, false, ◌||◌, List, [], ◌∷◌, ◌++◌, length, map, Option, Some, None, unwrap_or, refl, ap, sym, subst, ◌∙◌, arith, Any, AllPairs, IsSomeAnd, is_some, slice_get, AllByRecursion, lookup, bytes_eq, All-from_recursion, AllPairs-cons, none-some, ScalarType, Byte, Identifier, HeadingTree, Entity, Object, Procedure, Label, Definition, Here, Names, is_among, PARAMETER_LIMIT, AreParameters, HasParameters, IsParameter, home_of_parameters, Home, ScalarObject, TypedObject, TypedList, TypedModule, parameter_object, parameter_objects, procedure_with, visibility_of, bytes_eq-Decides, or_left, or_right}
use Rattle.typing.proofs.Kept.{Gives, gives_fault, gives_ok, in_turn}
use Rattle.typing.proofs.Parameters.Grown.{IsParameterOf, all_more}
use Rattle.typing.proofs.Parameters.OwnBlock.{IsDescribed, OwnBlock, Scan, front_or_back, is_parameter, kept_front}

-- the objects that names stand for in a block, one after another
abbrev pub AreNamed : Names → List Identifier → List ℕ → Type 0
AreNamed block [] [] = Unit {0}
AreNamed block (parameter ∷ others) (place ∷ places) =
    (lookup (bytes_eq parameter.name) block ≡ Some (Object place)) × AreNamed block others places
AreNamed block parameters places = ⊥

object_is : (parameter : Identifier) (found : Option Entity)
    → Gives (λ place. found ≡ Some (Object place)) (parameter_object parameter found)
object_is parameter (Some (Object place)) = gives_ok refl
object_is parameter (Some (Procedure place)) = gives_fault
object_is parameter (Some (Label place)) = gives_fault
object_is parameter (Some Definition) = gives_fault
object_is parameter None = gives_fault

pub objects_are : (here : Here) (parameters : List Identifier)
    → Gives (AreNamed here.body.block parameters) (parameter_objects here parameters)
objects_are here [] = gives_ok tt
objects_are here (parameter ∷ others) =
    in_turn (object_is parameter (lookup (bytes_eq parameter.name) here.body.block)) λ place is.
    in_turn (objects_are here others) λ places rest.
    gives_ok (is, rest)

-- names that differ from each other
abbrev pub Differ : List Identifier → Type 0
Differ [] = Unit {0}
Differ (parameter ∷ others) =
    AllByRecursion (λ (other : Identifier). parameter.name ≡ other.name → ⊥) others × Differ others

abbrev name_of : Identifier → List ℕ
name_of parameter = parameter.name

all_among : (parameters : List Identifier)
    → AllByRecursion (λ (one : Identifier). is_among (map name_of parameters) one.name ≡ true) parameters
all_among [] = tt
all_among (parameter ∷ others) = (
  or_left (bytes_eq parameter.name parameter.name) (is_among (map name_of others) parameter.name)
      ((bytes_eq-Decides parameter.name parameter.name).1 refl),
  all_more (λ (one : Identifier). is_among (map name_of others) one.name ≡ true)
      (λ (one : Identifier). is_among (map name_of (parameter ∷ others)) one.name ≡ true) others
      (λ one is. or_right (bytes_eq one.name parameter.name) (is_among (map name_of others) one.name) is)
      (all_among others),
)

-- a number of an object
abbrev number_in : Entity → ℕ → ℕ
number_in (Object place) other = place
number_in (Procedure place) other = other
number_in (Label place) other = other
number_in Definition other = other

same_place : (found : Option Entity) (one other : ℕ) → found ≡ Some (Object one)
    → found ≡ Some (Object other) → one ≡ other
same_place found one other is its =
    ap (λ (entity : Option Entity). number_in (unwrap_or entity Definition) 0) (sym is ∙ its)

count_named : (block : Names) (parameters : List Identifier) (places : List ℕ)
    → AreNamed block parameters places
    → length places ≡ length parameters
count_named block [] [] named = refl
count_named block [] (place ∷ places) named = absurd named
count_named block (parameter ∷ parameters) [] named = absurd named
count_named block (parameter ∷ parameters) (place ∷ places) named =
    ap (λ (n : ℕ). suc n) (count_named block parameters places named.1)

-- one of the places
abbrev IsOne : ℕ → List ℕ → Type 0
IsOne place places = Any (λ (one : ℕ). one ≡ place) places

first_one : (place one : ℕ) (places : List ℕ) → one ≡ place → IsOne place (one ∷ places)
first_one place one places is = (0, one, omega arith, refl, is)

later_one : (place one : ℕ) (places : List ℕ) → IsOne place places → IsOne place (one ∷ places)
later_one place one places found =
    (suc found.0, found.1, later found.0 (length places) found.2, found.3, found.4)
  where
    later : (k n : ℕ) → k < n → suc k < suc n
    later k n less = omega (arith, less)

named_one :
    (block : Names) (parameters : List Identifier) (places : List ℕ) (name : List ℕ) (place : ℕ)
    → AreNamed block parameters places
    → is_among (map name_of parameters) name ≡ true
    → lookup (bytes_eq name) block ≡ Some (Object place)
    → IsOne place places
named_one block [] [] name place named among found = absurd (let bad : false ≡ true = among in cc)
named_one block [] (one ∷ places) name place named among found = absurd named
named_one block (parameter ∷ parameters) [] name place named among found = absurd named
named_one block (parameter ∷ parameters) (one ∷ places) name place named among found =
    by (bytes_eq name parameter.name) refl among (named_one block parameters places name place named.1)
  where
    by : (same : Bool)
        → bytes_eq name parameter.name ≡ same
        → (same || is_among (map name_of parameters) name) ≡ true
        → (is_among (map name_of parameters) name ≡ true
        → lookup (bytes_eq name) block ≡ Some (Object place)
        → IsOne place places)
        → IsOne place (one ∷ places)
    by true e among rest =
        first_one place one places
        (same_place (lookup (bytes_eq name) block) one place
        (ap (λ (each : List ℕ). lookup (bytes_eq each) block) ((bytes_eq-Decides name parameter.name).0 e)
        ∙ named.0) found)
    by false e among rest = later_one place one places (rest among found)

module _
    (number : ℕ) (heading : HeadingTree) (scan : Scan) (objects : List TypedObject) (block : Names)
    (own : OwnBlock number heading scan objects block)
    (tables : TypedModule) (rest : List TypedObject) (tables_are : tables.objects ≡ objects ++ rest)
  where
    abbrev HomeOf : Home
    HomeOf = home_of_parameters number (is_some heading.reentrant) (visibility_of heading.linkage)

    abbrev IsOneOf : Identifier → Type 0
    IsOneOf one = is_parameter heading one.name ≡ true

    -- the object of each
    one_is : (name : List ℕ) (place : ℕ)
        → IsDescribed number heading scan objects name place
        → IsParameter tables HomeOf (unwrap_or (scan name) Byte) place
    one_is name place is =
        let there : slice_get tables.objects place ≡ Some is.object =
        ap (λ (all : List TypedObject). slice_get all place) tables_are
        ∙ kept_front objects rest place is.object is.found in
        let scalar : is.scalar ≡ unwrap_or (scan name) Byte =
        sym (ap (λ (one : Option ScalarType). unwrap_or one Byte) is.type_is) in
        subst
        (λ (found : Option TypedObject).
        IsSomeAnd found
        (λ (object : TypedObject).
        ((object.dimension ≡ None) × (object.object_type ≡ ScalarObject (unwrap_or (scan name) Byte)))
        × (object.home ≡ HomeOf) × (object.is_parameter ≡ true)))
        (sym there)
        ((is.is.0, is.is.1 ∙ ap ScalarObject scalar), is.home, is.parameter)

    are_parameters : (parameters : List Identifier) (places : List ℕ)
        → AllByRecursion IsOneOf parameters
        → AreNamed block parameters places
        → AreParameters tables HomeOf
        (map (λ (parameter : Identifier). unwrap_or (scan parameter.name) Byte) parameters) places
    are_parameters [] [] all named = tt
    are_parameters [] (place ∷ places) all named = absurd named
    are_parameters (parameter ∷ parameters) [] all named = absurd named
    are_parameters (parameter ∷ parameters) (place ∷ places) all named = (
      one_is parameter.name place (own.named parameter.name place named.0 all.0),
      are_parameters parameters places all.1 named.1,
    )

    -- they differ, since their names do
    differs : (first : Identifier) (place : ℕ) (parameters : List Identifier) (places : List ℕ)
        → is_parameter heading first.name ≡ true
        → lookup (bytes_eq first.name) block ≡ Some (Object place)
        → AllByRecursion IsOneOf parameters
        → AreNamed block parameters places
        → AllByRecursion (λ (other : Identifier). first.name ≡ other.name → ⊥) parameters
        → AllByRecursion (λ (other : ℕ). place ≢ other) places
    differs first place [] [] is found all named differ = tt
    differs first place [] (other ∷ places) is found all named differ = absurd named
    differs first place (parameter ∷ parameters) [] is found all named differ = absurd named
    differs first place (parameter ∷ parameters) (other ∷ places) is found all named differ = (
      λ same.
          let one = own.named first.name place found is in
          let next = own.named parameter.name other named.0 all.0 in
          let objects_same : one.object ≡ next.object =
          ap (λ (object : Option TypedObject). unwrap_or object one.object)
          (sym one.found ∙ ap (slice_get objects) same ∙ next.found) in
          differ.0 (sym one.name_is ∙ ap (λ (object : TypedObject). object.name) objects_same ∙ next.name_is),
      differs first place parameters places is found all.1 named.1 differ.1,
    )

    all_differ : (parameters : List Identifier) (places : List ℕ)
        → AllByRecursion IsOneOf parameters
        → AreNamed block parameters places
        → Differ parameters
        → AllPairs (λ (one other : ℕ). one ≢ other) places
    all_differ [] [] all named differ = λ i j d less within. absurd (omega (arith, within, less))
    all_differ [] (place ∷ places) all named differ = absurd named
    all_differ (parameter ∷ parameters) [] all named differ = absurd named
    all_differ (parameter ∷ parameters) (place ∷ places) all named differ =
        AllPairs-cons (λ (one other : ℕ). one ≢ other) place places
        (All-from_recursion (λ (other : ℕ). place ≢ other) places
        (differs parameter place parameters places all.0 named.0 all.1 named.1 differ.0))
        (all_differ parameters places all.1 named.1 differ.1)

    -- the parameters of the procedure
    pub has_parameters : (places : List ℕ) (frame : ℕ) (body : TypedList) (types : List ScalarType)
        → AreNamed block heading.parameters places
        → Differ heading.parameters
        → length heading.parameters ≤ PARAMETER_LIMIT
        → types ≡ map (λ (parameter : Identifier). unwrap_or (scan parameter.name) Byte) heading.parameters
        → AllByRecursion (λ (object : TypedObject). IsParameterOf number object → ⊥) rest
        → HasParameters tables number (procedure_with heading types places frame body)
    has_parameters places frame body types named differ few types_are none = record {
      objects = subst (λ (types : List ScalarType). AreParameters tables HomeOf types places) (sym types_are)
          (are_parameters heading.parameters places (all_among heading.parameters) named);
      differ = all_differ heading.parameters places (all_among heading.parameters) named differ;
      no_others = λ place object found home parameter.
          front_or_back objects rest place object
          (ap (λ (all : List TypedObject). slice_get all place) (sym tables_are) ∙ found)
          (λ front.
          let is = own.kept place object front (home, parameter) in
          named_one block heading.parameters places object.name place named is.1 is.0)
          (λ at same there. absurd (at_none rest at object none there (home, parameter)));
      count = omega (arith, count_named block heading.parameters places named, few);
    }
      where
        at_none : (all : List TypedObject) (at : ℕ) (object : TypedObject)
            → AllByRecursion (λ (object : TypedObject). IsParameterOf number object → ⊥) all
            → slice_get all at ≡ Some object
            → IsParameterOf number object
            → ⊥
        at_none [] at object none found is = none-some object found
        at_none (first ∷ all) zero object none found is =
            none.0 (subst (IsParameterOf number)
            (sym (ap (λ (each : Option TypedObject). unwrap_or each first) found)) is)
        at_none (first ∷ all) (suc at) object none found is = at_none all at object none.1 found is
