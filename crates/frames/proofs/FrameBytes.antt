-- The bytes of the variables in a frame, counted object by object.
use Rattle.frames.proofs.Prelude.{◌≡◌, ℕ, zero, suc, ◌+◌, ◌*◌, ◌%◌, ◌≤◌, min, Bool, true, false, not, ◌&&◌, cond, if◌then◌else◌, List, [], ◌∷◌, map, slice_get, sum_by, Option, Some, None, refl, ap, sym, ◌∙◌, subst, le_trans, arith, Any, option_map, true≢false, sum_by-cons, none-some, same_Some, slice_get-get_or, ScalarType, Byte, Address, Home, InData, InConstants, Placed, BasedOn, Elsewhere, Nowhere, InFrame, ObjectType, TypedObject, TypedProcedure, TypedModule, size_of_scalar, count_of, size_of_element, size_of_object, IsScalar, is_in_frame, home_of_parameters, FrameFits, HasParameters, ParametersFit, FramesFit, lives_in_frame, frame_variable, parameter_number, bytes_by_parameter, bytes_of_frame, zero-add}
use Rattle.typed_trees.specs.Frames.{variable_bytes}
use Rattle.frames.proofs.Entries.{in_frame, home_is, lives_there, entries}
use Rattle.frames.proofs.Parameters.{has_parameters, frame_fits, none_found, typed_at, IsTyped, of_found, framed}

-- a scalar takes as many bytes as its type
pub scalar_size :
    (object : TypedObject) (scalar : ScalarType)
    → IsScalar scalar object
    → size_of_object object ≡ size_of_scalar scalar
scalar_size object scalar is =
    ap (λ (dimension : Option ℕ). count_of dimension * size_of_element object.object_type) is.0
    ∙ ap (λ (object_type : ObjectType). 1 * size_of_element object_type) is.1
    ∙ once (size_of_scalar scalar)
  where
    once : (size : ℕ) → 1 * size ≡ size
    once size = omega arith

pub two_at_most : (scalar : ScalarType) → size_of_scalar scalar ≤ 2
two_at_most Byte = omega arith
two_at_most Address = omega arith

-- whether an object is in the frame, in terms of the typed module
same_test : (procedure : ℕ) (home : Home) → is_in_frame procedure home ≡ lives_in_frame procedure home
same_test procedure (InData values) = refl
same_test procedure (InConstants values) = refl
same_test procedure (Placed address) = refl
same_test procedure (BasedOn base) = refl
same_test procedure Elsewhere = refl
same_test procedure Nowhere = refl
same_test procedure (InFrame other) = refl

-- the bytes of an object among the variables of the frame
pub bytes_there :
    (procedure : ℕ) (object : TypedObject) (lives : Bool)
    → in_frame procedure object ≡ lives
    → variable_bytes procedure object
    ≡ (if lives && not object.is_parameter then size_of_object object else 0)
bytes_there procedure object lives is =
    ap (λ (lives : Bool). if lives && not object.is_parameter then size_of_object object else 0)
    (same_test procedure object.home ∙ is)

-- no object takes more than all objects together
at_most_sum :
    (bytes : TypedObject → ℕ) (objects : List TypedObject) (index : ℕ) (object : TypedObject)
    → slice_get objects index ≡ Some object
    → bytes object ≤ sum_by bytes objects
at_most_sum bytes [] index object found = absurd (none-some object found)
at_most_sum bytes (first ∷ others) zero object found =
    subst (λ (object : TypedObject). bytes object ≤ sum_by bytes (first ∷ others))
    (same_Some first object found) (omega (arith, sum_by-cons bytes first others))
at_most_sum bytes (first ∷ others) (suc index) object found =
    omega (arith, sum_by-cons bytes first others, at_most_sum bytes others index object found)

-- the bytes of an object before the return address, as the typed module counts them
abbrev IsCounted : TypedModule → (number : ℕ) → TypedObject → Type 0
IsCounted typed number object =
    bytes_by_parameter (min (size_of_object object) 65535)
    (option_map (λ (index : ℕ). index % 65536) (parameter_number typed.procedures number))
    ≡ (if not object.is_parameter then size_of_object object else 0)

with_first :
    (typed : TypedModule) (procedure first : ℕ) (object : TypedObject) (others : List TypedObject)
    (lives : Bool)
    → in_frame procedure object ≡ lives
    → (lives ≡ true → IsCounted typed first object)
    → bytes_of_frame (map (frame_variable typed) (entries procedure (first + 1) others))
    ≡ sum_by (variable_bytes procedure) others
    → bytes_of_frame (map (frame_variable typed)
    (cond lives ((first, object) ∷ entries procedure (first + 1) others)
    (entries procedure (first + 1) others)))
    ≡ sum_by (variable_bytes procedure) (object ∷ others)
with_first typed procedure first object others true is counted rest =
    ap (λ (bytes : ℕ).
    bytes + bytes_of_frame (map (frame_variable typed) (entries procedure (first + 1) others)))
    (counted refl ∙ sym (bytes_there procedure object true is))
    ∙ ap (λ (bytes : ℕ). variable_bytes procedure object + bytes) rest
    ∙ sym (sum_by-cons (variable_bytes procedure) object others)
with_first typed procedure first object others false is counted rest =
    omega (
      arith,
      rest,
      bytes_there procedure object false is,
      sum_by-cons (variable_bytes procedure) object others,
    )

bytes_from :
    (typed : TypedModule) (procedure first : ℕ) (objects : List TypedObject)
    → ((index : ℕ) (object : TypedObject)
    → slice_get objects index ≡ Some object
    → object.home ≡ InFrame procedure
    → IsCounted typed (first + index) object)
    → bytes_of_frame (map (frame_variable typed) (entries procedure first objects))
    ≡ sum_by (variable_bytes procedure) objects
bytes_from typed procedure first [] counted = refl
bytes_from typed procedure first (object ∷ others) counted =
    with_first typed procedure first object others (in_frame procedure object) refl
    (λ lives. subst (λ (number : ℕ). IsCounted typed number object) at_first
    (counted 0 object refl (home_is procedure object.home lives)))
    (bytes_from typed procedure (first + 1) others (λ index object found home.
    subst (λ (number : ℕ). IsCounted typed number object) (at_next index)
    (counted (suc index) object found home)))
  where
    at_first : first + 0 ≡ first
    at_first = omega arith

    at_next : (index : ℕ) → first + suc index ≡ first + 1 + index
    at_next index = omega arith

-- an object that is marked as a parameter is one of its procedure
pub record IsListed (heading : TypedProcedure) (number : ℕ) : Type 0 where
  pub index : ℕ
  pub stands : slice_get heading.parameters index ≡ Some number

pub listed :
    (typed : TypedModule) (procedure : ℕ) (heading : TypedProcedure) (number : ℕ) (object : TypedObject)
    → HasParameters typed procedure heading
    → slice_get typed.objects number ≡ Some object
    → object.home ≡ InFrame procedure
    → object.is_parameter ≡ true
    → IsListed heading number
listed typed procedure heading number object has found home named =
    of_any (has.no_others number object found home named)
  where
    of_any : Any (λ (one : ℕ). one ≡ number) heading.parameters → IsListed heading number
    of_any any = record {
      index = any.0;
      stands =
          slice_get-get_or heading.parameters any.0 any.1 any.2
          ∙ ap (λ (one : ℕ). Some one) (any.3 ∙ any.4);
    }

-- a variable in a frame takes at most the limit of frames
variable_fits :
    (typed : TypedModule) (procedure : ℕ) (heading : TypedProcedure) (number : ℕ) (object : TypedObject)
    → FrameFits typed.objects procedure heading
    → slice_get typed.objects number ≡ Some object
    → object.home ≡ InFrame procedure
    → object.is_parameter ≡ false
    → size_of_object object ≤ 1024
variable_fits typed procedure heading number object fits found home named =
    subst (λ (size : ℕ). size ≤ 1024) bytes_is
    (le_trans (at_most_sum (variable_bytes procedure) typed.objects number object found) sum_fits)
  where
    bytes_is : variable_bytes procedure object ≡ size_of_object object
    bytes_is =
        bytes_there procedure object true (lives_there procedure object.home home)
        ∙ ap (λ (named : Bool). if not named then size_of_object object else 0) named

    sum_fits : sum_by (variable_bytes procedure) typed.objects ≤ 1024
    sum_fits = subst (λ (bytes : ℕ). bytes ≤ 1024) fits.variables fits.bytes

-- an object in a frame does too
pub object_fits :
    (typed : TypedModule) (procedure : ℕ) (heading : TypedProcedure) (number : ℕ) (object : TypedObject)
    → HasParameters typed procedure heading
    → FrameFits typed.objects procedure heading
    → slice_get typed.objects number ≡ Some object
    → object.home ≡ InFrame procedure
    → size_of_object object ≤ 1024
object_fits typed procedure heading number object has fits found home = by_name object.is_parameter refl
  where
    of_scalar : (scalar : ScalarType) → IsScalar scalar object → size_of_object object ≤ 1024
    of_scalar scalar is = omega (arith, scalar_size object scalar is, two_at_most scalar)

    of_typed :
        (parameter : IsListed heading number)
        → IsTyped typed (home_of_parameters procedure heading.is_reentrant heading.visibility)
        heading.parameter_types heading.parameters parameter.index number
        → size_of_object object ≤ 1024
    of_typed parameter its =
        of_scalar its.scalar
        (of_found (λ (object : TypedObject). IsScalar its.scalar object
        × (object.home ≡ home_of_parameters procedure heading.is_reentrant heading.visibility)
        × (object.is_parameter ≡ true)) (slice_get typed.objects number) object found its.object).0

    of_listed : IsListed heading number → size_of_object object ≤ 1024
    of_listed parameter =
        of_typed parameter
        (typed_at typed (home_of_parameters procedure heading.is_reentrant heading.visibility)
        heading.parameter_types heading.parameters parameter.index number has.objects parameter.stands)

    by_name : (named : Bool) → object.is_parameter ≡ named → size_of_object object ≤ 1024
    by_name true named = of_listed (listed typed procedure heading number object has found home named)
    by_name false named = variable_fits typed procedure heading number object fits found home named

-- each object is counted
counted :
    (typed : TypedModule) (procedure : ℕ) (heading : TypedProcedure) (number : ℕ) (object : TypedObject)
    → ParametersFit typed
    → FramesFit typed
    → slice_get typed.procedures procedure ≡ Some heading
    → slice_get typed.objects number ≡ Some object
    → object.home ≡ InFrame procedure
    → IsCounted typed number object
counted typed procedure heading number object fit frames_fit stands found home =
    by_case object.is_parameter (parameter_number typed.procedures number) refl refl
  where
    has : HasParameters typed procedure heading
    has = has_parameters typed procedure heading fit stands

    by_case :
        (named : Bool) (search : Option ℕ)
        → object.is_parameter ≡ named
        → parameter_number typed.procedures number ≡ search
        → bytes_by_parameter (min (size_of_object object) 65535)
        (option_map (λ (index : ℕ). index % 65536) search)
        ≡ (if not named then size_of_object object else 0)
    by_case true (Some index) named search = refl
    by_case true None named search =
        nothing (listed typed procedure heading number object has found home named)
      where
        nothing : IsListed heading number → min (size_of_object object) 65535 ≡ 0
        nothing parameter =
            absurd (none_found typed.procedures number procedure parameter.index heading search stands
            parameter.stands)
    by_case false (Some index) named search =
        absurd (true≢false
        (sym (framed typed procedure heading number object index fit stands found home search).named ∙ named))
    by_case false None named search =
        omega (
          arith,
          variable_fits typed procedure heading number object
              (frame_fits typed procedure heading frames_fit stands) found home named,
        )

-- the bytes of the variables of a frame
pub bytes_are :
    (typed : TypedModule) (procedure : ℕ) (heading : TypedProcedure)
    → ParametersFit typed
    → FramesFit typed
    → slice_get typed.procedures procedure ≡ Some heading
    → bytes_of_frame (map (frame_variable typed) (entries procedure 0 typed.objects)) ≡ heading.frame_bytes
bytes_are typed procedure heading fit frames_fit stands =
    bytes_from typed procedure 0 typed.objects (λ index object found home.
    subst (λ (number : ℕ). IsCounted typed number object) (sym (zero-add index))
    (counted typed procedure heading index object fit frames_fit stands found home))
    ∙ sym (frame_fits typed procedure heading frames_fit stands).variables
