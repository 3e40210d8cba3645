-- The objects of a module that are parameters, and their procedures.
use Rattle.frames.proofs.Prelude.{◌≡◌, ℕ, zero, suc, ◌+◌, ◌<◌, ◌==◌, Bool, true, false, if◌then◌else◌, List, [], ◌∷◌, length, zip, slice_get, get_or, Option, Some, None, IsSomeAnd, refl, ap, sym, ◌∙◌, subst, arith, All, enumerate_from, eqb-true, eq-eqb, All-get_or, length-enumerate_from, get_or-enumerate_from, none-some, same_Some, slice_get_within, get_or_from_slice_get, ScalarType, Visibility, Home, InData, InConstants, Placed, BasedOn, Elsewhere, Nowhere, InFrame, TypedObject, TypedProcedure, TypedModule, IsScalar, home_of_parameters, IsParameter, AreParameters, FrameFits, FramesFit, HasParameters, ParametersFit, latest, parameter_from, parameter_number}
use Rattle.typed_trees.specs.declared.parts.Visibility.TheVariants as visibilities

-- a property of each item with its number holds for one
pub numbered_at :
    {X : Type 0} (P : ℕ × X → Type 0) (items : List X) (at : ℕ) (item : X)
    → All P (enumerate_from 0 items)
    → slice_get items at ≡ Some item
    → P (at, item)
numbered_at {X} P items at item all found =
    subst P
    (get_or-enumerate_from 0 items at (at, item) (slice_get_within items at item found)
    ∙ ap (λ (number : ℕ). (number, get_or items at item)) zero_plus
    ∙ ap (λ (other : X). (at, other)) (get_or_from_slice_get items at item item found))
    (All-get_or P (enumerate_from 0 items) at (at, item)
    (subst (λ (count : ℕ). at < count) (sym (length-enumerate_from 0 items))
    (slice_get_within items at item found)) all)
  where
    zero_plus : 0 + at ≡ at
    zero_plus = omega arith

-- the parameters and the frame of a procedure of a module
pub has_parameters :
    (typed : TypedModule) (number : ℕ) (heading : TypedProcedure)
    → ParametersFit typed
    → slice_get typed.procedures number ≡ Some heading
    → HasParameters typed number heading
has_parameters typed number heading fit found =
    numbered_at (λ (numbered : ℕ × TypedProcedure). HasParameters typed numbered.0 numbered.1)
    typed.procedures number heading fit.procedures found

pub frame_fits :
    (typed : TypedModule) (number : ℕ) (heading : TypedProcedure)
    → FramesFit typed
    → slice_get typed.procedures number ≡ Some heading
    → FrameFits typed.objects number heading
frame_fits typed number heading fit found =
    numbered_at (λ (numbered : ℕ × TypedProcedure). FrameFits typed.objects numbered.0 numbered.1)
    typed.procedures number heading fit.procedures found

-- the parameter with this number is the object, if the numbers begin with a first one
record StandsFrom (object first : ℕ) (parameters : List ℕ) (found : ℕ) : Type 0 where
  index : ℕ
  is : found ≡ first + index
  stands : slice_get parameters index ≡ Some object

further_on :
    (object first parameter : ℕ) (others : List ℕ) (found : ℕ)
    → StandsFrom object (suc first) others found
    → StandsFrom object first (parameter ∷ others) found
further_on object first parameter others found rest = record {
  index = suc rest.index;
  is = omega (arith, rest.is);
  stands = rest.stands;
}

stands_first :
    (object first parameter : ℕ) (others : List ℕ) (found : ℕ) (same : Bool)
    → (parameter == object) ≡ same
    → (if same then Some first else None) ≡ Some found
    → StandsFrom object first (parameter ∷ others) found
stands_first object first parameter others found true same is = record {
  index = 0;
  is = sym (same_Some first found is) ∙ omega arith;
  stands = ap (λ (number : ℕ). Some number) (eqb-true parameter object same);
}
stands_first object first parameter others found false same is = absurd (none-some found is)

stands_later :
    (object first parameter : ℕ) (others : List ℕ) (found : ℕ) (later : Option ℕ)
    → latest (if parameter == object then Some first else None) later ≡ Some found
    → (later ≡ Some found → StandsFrom object (suc first) others found)
    → StandsFrom object first (parameter ∷ others) found
stands_later object first parameter others found None is rest =
    stands_first object first parameter others found (parameter == object) refl is
stands_later object first parameter others found (Some later) is rest =
    further_on object first parameter others found (rest is)

stands_from :
    (object first : ℕ) (parameters : List ℕ) (found : ℕ)
    → parameter_from object first parameters ≡ Some found
    → StandsFrom object first parameters found
stands_from object first [] found is = absurd (none-some found is)
stands_from object first (parameter ∷ others) found is =
    stands_later object first parameter others found (parameter_from object (suc first) others) is
    (λ later. stands_from object (suc first) others found later)

-- an object is a parameter of a procedure, with this number
pub record IsParameterOf (procedures : List TypedProcedure) (object index : ℕ) : Type 0 where
  pub number : ℕ
  pub heading : TypedProcedure
  pub found : slice_get procedures number ≡ Some heading
  pub stands : slice_get heading.parameters index ≡ Some object

parameter_later :
    (procedure : TypedProcedure) (others : List TypedProcedure) (object index : ℕ)
    → IsParameterOf others object index
    → IsParameterOf (procedure ∷ others) object index
parameter_later procedure others object index rest = record {
  number = suc rest.number;
  heading = rest.heading;
  found = rest.found;
  stands = rest.stands;
}

parameter_here :
    (procedure : TypedProcedure) (others : List TypedProcedure) (object index : ℕ)
    → StandsFrom object 0 procedure.parameters index
    → IsParameterOf (procedure ∷ others) object index
parameter_here procedure others object index here = record {
  number = 0;
  heading = procedure;
  found = refl;
  stands =
      subst (λ (index : ℕ). slice_get procedure.parameters index ≡ Some object) index_is here.stands;
}
  where
    index_is : here.index ≡ index
    index_is = omega (arith, here.is)

parameter_later_or_here :
    (procedure : TypedProcedure) (others : List TypedProcedure) (object index : ℕ) (later : Option ℕ)
    → latest (parameter_from object 0 procedure.parameters) later ≡ Some index
    → (later ≡ Some index → IsParameterOf others object index)
    → IsParameterOf (procedure ∷ others) object index
parameter_later_or_here procedure others object index None is rest =
    parameter_here procedure others object index (stands_from object 0 procedure.parameters index is)
parameter_later_or_here procedure others object index (Some later) is rest =
    parameter_later procedure others object index (rest is)

-- the result of a search among the procedures
pub parameter_of :
    (procedures : List TypedProcedure) (object index : ℕ)
    → parameter_number procedures object ≡ Some index
    → IsParameterOf procedures object index
parameter_of [] object index is = absurd (none-some index is)
parameter_of (procedure ∷ others) object index is =
    parameter_later_or_here procedure others object index (parameter_number others object) is
    (λ later. parameter_of others object index later)

-- a search finds nothing only if both parts find nothing
earlier_none : (earlier later : Option ℕ) → latest earlier later ≡ None → (earlier ≡ None) × (later ≡ None)
earlier_none earlier None is = (is, refl)
earlier_none earlier (Some later) is = absurd (none-some later (sym is))

none_stands :
    (object first : ℕ) (parameters : List ℕ) (index : ℕ)
    → parameter_from object first parameters ≡ None
    → slice_get parameters index ≡ Some object
    → ⊥
none_stands object first [] index none stands = none-some object stands
none_stands object first (parameter ∷ others) zero none stands =
    none-some first
    (sym (earlier_none (if parameter == object then Some first else None)
    (parameter_from object (suc first) others) none).0
    ∙ ap (λ (same : Bool). if same then Some first else None)
    (eq-eqb parameter object (same_Some parameter object stands)))
none_stands object first (parameter ∷ others) (suc index) none stands =
    none_stands object (suc first) others index
    (earlier_none (if parameter == object then Some first else None)
    (parameter_from object (suc first) others) none).1 stands

pub none_found :
    (procedures : List TypedProcedure) (object number index : ℕ) (heading : TypedProcedure)
    → parameter_number procedures object ≡ None
    → slice_get procedures number ≡ Some heading
    → slice_get heading.parameters index ≡ Some object
    → ⊥
none_found [] object number index heading none found stands = none-some heading found
none_found (procedure ∷ others) object zero index heading none found stands =
    none_stands object 0 procedure.parameters index
    (earlier_none (parameter_from object 0 procedure.parameters) (parameter_number others object) none).0
    (subst (λ (heading : TypedProcedure). slice_get heading.parameters index ≡ Some object)
    (sym (same_Some procedure heading found)) stands)
none_found (procedure ∷ others) object (suc number) index heading none found stands =
    none_found others object number index heading
    (earlier_none (parameter_from object 0 procedure.parameters) (parameter_number others object) none).1
    found stands

-- there are as many types as parameters
pub as_many :
    (typed : TypedModule) (home : Home) (scalars : List ScalarType) (parameters : List ℕ)
    → AreParameters typed home scalars parameters
    → length (zip scalars parameters) ≡ length parameters
as_many typed home [] [] are = refl
as_many typed home [] (parameter ∷ parameters) are = absurd are
as_many typed home (scalar ∷ scalars) [] are = absurd are
as_many typed home (scalar ∷ scalars) (parameter ∷ parameters) are =
    ap suc (as_many typed home scalars parameters are.1)

-- a parameter, its type, and its object
pub record IsTyped
    (typed : TypedModule) (home : Home) (scalars : List ScalarType) (parameters : List ℕ)
    (index parameter : ℕ) : Type 0 where
  pub scalar : ScalarType
  pub paired : slice_get (zip scalars parameters) index ≡ Some (scalar, parameter)
  pub object : IsParameter typed home scalar parameter

pub typed_at :
    (typed : TypedModule) (home : Home) (scalars : List ScalarType) (parameters : List ℕ)
    (index parameter : ℕ)
    → AreParameters typed home scalars parameters
    → slice_get parameters index ≡ Some parameter
    → IsTyped typed home scalars parameters index parameter
typed_at typed home [] [] index parameter are stands = absurd (none-some parameter stands)
typed_at typed home [] (first ∷ parameters) index parameter are stands = absurd are
typed_at typed home (scalar ∷ scalars) [] index parameter are stands = absurd are
typed_at typed home (scalar ∷ scalars) (first ∷ parameters) zero parameter are stands = record {
  scalar = scalar;
  paired = ap (λ (number : ℕ). Some (scalar, number)) (same_Some first parameter stands);
  object =
      subst (λ (number : ℕ). IsParameter typed home scalar number) (same_Some first parameter stands)
      are.0;
}
typed_at typed home (scalar ∷ scalars) (first ∷ parameters) (suc index) parameter are stands =
    further (typed_at typed home scalars parameters index parameter are.1 stands)
  where
    further :
        IsTyped typed home scalars parameters index parameter
        → IsTyped typed home (scalar ∷ scalars) (first ∷ parameters) (suc index) parameter
    further rest = record { scalar = rest.scalar; paired = rest.paired; object = rest.object }

-- the procedure with the frame that an object is in
abbrev frame_of : Home → Option ℕ
frame_of (InFrame number) = Some number
frame_of (InData values) = None
frame_of (InConstants values) = None
frame_of (Placed address) = None
frame_of (BasedOn base) = None
frame_of Elsewhere = None
frame_of Nowhere = None

own_frame :
    (number procedure : ℕ) (is_reentrant : Bool) (visibility : Visibility)
    → home_of_parameters number is_reentrant visibility ≡ InFrame procedure
    → number ≡ procedure
own_frame number procedure true visibilities.Private is = same_Some number procedure (ap frame_of is)
own_frame number procedure true visibilities.Public is = same_Some number procedure (ap frame_of is)
own_frame number procedure true visibilities.External is = absurd (none-some procedure (ap frame_of is))
own_frame number procedure false visibilities.Private is = absurd (none-some procedure (ap frame_of is))
own_frame number procedure false visibilities.Public is = absurd (none-some procedure (ap frame_of is))
own_frame number procedure false visibilities.External is = absurd (none-some procedure (ap frame_of is))

-- a property of an object that is found
pub of_found :
    {X : Type 0} (P : X → Type 0) (found : Option X) (item : X)
    → found ≡ Some item
    → IsSomeAnd found P
    → P item
of_found P None item is holds = absurd holds
of_found P (Some other) item is holds = subst P (same_Some other item is) holds

-- a parameter of a procedure that is in a frame: its type, its number, and its mark as a parameter
pub record IsFramed
    (typed : TypedModule) (heading : TypedProcedure) (object : TypedObject) (number index : ℕ) : Type 0 where
  pub stands : slice_get heading.parameters index ≡ Some number
  pub scalar : ScalarType
  pub paired : slice_get (zip heading.parameter_types heading.parameters) index ≡ Some (scalar, number)
  pub scalar_is : IsScalar scalar object
  pub named : object.is_parameter ≡ true

-- a search for an object in the frame of a procedure finds a parameter of that procedure
pub framed :
    (typed : TypedModule) (procedure : ℕ) (heading : TypedProcedure) (number : ℕ) (object : TypedObject)
    (index : ℕ)
    → ParametersFit typed
    → slice_get typed.procedures procedure ≡ Some heading
    → slice_get typed.objects number ≡ Some object
    → object.home ≡ InFrame procedure
    → parameter_number typed.procedures number ≡ Some index
    → IsFramed typed heading object number index
framed typed procedure heading number object index fit found stands home is =
    of_search (parameter_of typed.procedures number index is)
  where
    of_typed :
        (heading : TypedProcedure) (scalar : ScalarType)
        → slice_get heading.parameters index ≡ Some number
        → slice_get (zip heading.parameter_types heading.parameters) index ≡ Some (scalar, number)
        → IsScalar scalar object × (object.is_parameter ≡ true)
        → IsFramed typed heading object number index
    of_typed heading scalar stands paired holds = record {
      stands = stands;
      scalar = scalar;
      paired = paired;
      scalar_is = holds.0;
      named = holds.1;
    }

    of_object :
        (other : ℕ) (its : TypedProcedure) (scalar : ScalarType)
        → slice_get typed.procedures other ≡ Some its
        → slice_get its.parameters index ≡ Some number
        → slice_get (zip its.parameter_types its.parameters) index ≡ Some (scalar, number)
        → IsScalar scalar object
        × (object.home ≡ home_of_parameters other its.is_reentrant its.visibility)
        × (object.is_parameter ≡ true)
        → IsFramed typed heading object number index
    of_object other its scalar where_it_is stands paired holds =
        subst (λ (heading : TypedProcedure). IsFramed typed heading object number index)
        (same_Some its heading (sym where_it_is
        ∙ ap (λ (at : ℕ). slice_get typed.procedures at)
        (own_frame other procedure its.is_reentrant its.visibility (sym holds.1 ∙ home))
        ∙ found))
        (of_typed its scalar stands paired (holds.0, holds.2))

    of_search : IsParameterOf typed.procedures number index → IsFramed typed heading object number index
    of_search search =
        by_type (typed_at typed (home_of_parameters search.number search.heading.is_reentrant
        search.heading.visibility) search.heading.parameter_types search.heading.parameters index number
        (has_parameters typed search.number search.heading fit search.found).objects search.stands)
      where
        by_type :
            IsTyped typed
            (home_of_parameters search.number search.heading.is_reentrant search.heading.visibility)
            search.heading.parameter_types search.heading.parameters index number
            → IsFramed typed heading object number index
        by_type its =
            of_object search.number search.heading its.scalar search.found search.stands its.paired
            (of_found (λ (object : TypedObject). IsScalar its.scalar object
            × (object.home
            ≡ home_of_parameters search.number search.heading.is_reentrant search.heading.visibility)
            × (object.is_parameter ≡ true)) (slice_get typed.objects number) object stands its.object)
