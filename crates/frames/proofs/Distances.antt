-- One pass over a frame computes the distances of its plan.
use Rattle.frames.proofs.Prelude.{◌≡◌, ℕ, zero, suc, ◌+◌, ◌-◌, ◌*◌, ◌<◌, ◌≤◌, List, [], ◌∷◌, length, drop, take, Option, Some, None, refl, ap, sym, ◌∙◌, subst, arith, unwrap_or, slice_get, slice_index_or, drop_of_length-le, none-some, slice_get_within, ScalarType, size_of_scalar, FrameVariable, Parameter, TreeProcedure, FramePlan, bytes_by_parameter, variable_bytes, distance_by_parameter, bytes_of_call, HasSize, parameter_distance, HasFrame, IsPlanOf, capped, capped_parameter, capped_distance, next_after, distances_from, IsFound}
use Rattle.frames.proofs.ParameterWords.{parameter_is}

-- after a pass over a frame its variables are counted
pub bytes_passed :
    (frame : List FrameVariable) (i bytes all : ℕ)
    → length frame ≤ i
    → bytes ≤ 65535
    → capped (bytes + variable_bytes (drop i frame)) ≡ all
    → bytes ≡ all
bytes_passed frame i bytes all past small summed =
    omega (arith, small, summed, ap variable_bytes (drop_of_length-le frame past))

-- the distance of the next variable
next_is :
    (next size : ℕ) (parameter : Option ℕ)
    → next + bytes_by_parameter size parameter < 65536
    → next_after next size parameter ≡ next + bytes_by_parameter size parameter
next_is next size None fits = omega arith
next_is next size (Some index) fits = omega arith

-- the distance of a variable or parameter in the rest of a frame, with variables from `next` on
abbrev distance_left : (bytes parameters next : ℕ) → (left : List FrameVariable) → (number size : ℕ)
    → Option ℕ → ℕ
distance_left bytes parameters next left number size None = next + variable_bytes (take number left)
distance_left bytes parameters next left number size (Some index) =
    capped_parameter bytes (parameters - index - 1) size

first_left :
    (bytes parameters next : ℕ) (left : List FrameVariable) (size : ℕ) (parameter : Option ℕ)
    → capped_distance bytes parameters next size parameter
    ≡ distance_left bytes parameters next left 0 size parameter
first_left bytes parameters next left size None = from_nothing left
  where
    from_nothing : (left : List FrameVariable) → next ≡ next + variable_bytes (take 0 left)
    from_nothing left = omega arith
first_left bytes parameters next left size (Some index) = refl

later_left :
    (bytes parameters next : ℕ) (first : FrameVariable) (others : List FrameVariable) (number size : ℕ)
    (parameter : Option ℕ)
    → distance_left bytes parameters (next + bytes_by_parameter first.size first.parameter) others number
    size parameter
    ≡ distance_left bytes parameters next (first ∷ others) (suc number) size parameter
later_left bytes parameters next first others number size None = omega arith
later_left bytes parameters next first others number size (Some index) = refl

passed :
    (bytes parameters next : ℕ) (left : List FrameVariable) (number : ℕ) (variable : FrameVariable)
    → next + variable_bytes left < 65536
    → slice_get left number ≡ Some variable
    → slice_index_or (distances_from bytes parameters next left) number 0
    ≡ distance_left bytes parameters next left number variable.size variable.parameter
passed bytes parameters next [] number variable fits found = absurd (none-some variable found)
passed bytes parameters next (first ∷ others) zero variable fits found =
    subst (λ (variable : FrameVariable).
    capped_distance bytes parameters next first.size first.parameter
    ≡ distance_left bytes parameters next (first ∷ others) 0 variable.size variable.parameter)
    (ap (λ (found : Option FrameVariable). unwrap_or found first) found)
    (first_left bytes parameters next (first ∷ others) first.size first.parameter)
passed bytes parameters next (first ∷ others) (suc number) variable fits found =
    ap (λ n. slice_index_or (distances_from bytes parameters n others) number 0)
    (next_is next first.size first.parameter (omega (arith, fits)))
    ∙ passed bytes parameters (next + bytes_by_parameter first.size first.parameter) others number variable
    (omega (arith, fits)) found
    ∙ later_left bytes parameters next first others number variable.size variable.parameter

-- a parameter has its exact distance, if the frame is a frame
exact :
    (procedure : TreeProcedure) (number size : ℕ) (parameter : Option ℕ)
    → ((index : ℕ) → parameter ≡ Some index → HasSize size (slice_get procedure.parameters.items index))
    → procedure.frame_bytes ≡ variable_bytes procedure.frame.items
    → bytes_of_call procedure < 65536
    → distance_left (variable_bytes procedure.frame.items) (length procedure.parameters.items) 0
    procedure.frame.items number size parameter
    ≡ distance_by_parameter procedure.frame.items (length procedure.parameters.items) number size parameter
exact procedure number size None sized bytes fits = omega arith
exact procedure number size (Some index) sized bytes fits =
    by_type procedure index size (slice_get procedure.parameters.items index) refl
    (sized index refl) bytes fits
  where
    by_scalar :
        (bytes parameters index size : ℕ) (scalar : ScalarType)
        → size ≡ size_of_scalar scalar
        → index < parameters
        → 2 + 2 * parameters + bytes < 65536
        → capped_parameter bytes (parameters - index - 1) size
        ≡ parameter_distance bytes (parameters - index - 1) size
    by_scalar bytes parameters index size scalar is below fits =
        subst (λ (size : ℕ).
        capped_parameter bytes (parameters - index - 1) size
        ≡ parameter_distance bytes (parameters - index - 1) size) (sym is)
        (parameter_is bytes parameters (parameters - index - 1) scalar (omega (arith, below)) fits)

    by_type :
        (procedure : TreeProcedure) (index size : ℕ) (found : Option Parameter)
        → slice_get procedure.parameters.items index ≡ found
        → HasSize size found
        → procedure.frame_bytes ≡ variable_bytes procedure.frame.items
        → bytes_of_call procedure < 65536
        → capped_parameter (variable_bytes procedure.frame.items)
        (length procedure.parameters.items - index - 1) size
        ≡ parameter_distance (variable_bytes procedure.frame.items)
        (length procedure.parameters.items - index - 1) size
    by_type procedure index size None is sized bytes fits = absurd sized
    by_type procedure index size (Some parameter) is sized bytes fits =
        by_scalar (variable_bytes procedure.frame.items) (length procedure.parameters.items) index size
        parameter.scalar sized (slice_get_within procedure.parameters.items index parameter is)
        (omega (arith, bytes, fits))

-- a plan with the distances that one pass computes is the plan of a frame
pub planned :
    (procedure : TreeProcedure) (plan : FramePlan)
    → HasFrame procedure
    → IsFound procedure plan
    → IsPlanOf procedure plan
planned procedure plan frame found = record {
  variable_bytes = bytes_are;
  parameter_count = count_is;
  distances = λ number variable stands.
      ap (λ (all : List ℕ). slice_index_or all number 0) (found.distances ∙ pass_is)
      ∙ passed (variable_bytes procedure.frame.items) (length procedure.parameters.items) 0
      procedure.frame.items number variable (omega (arith, frame.bytes, fits)) stands
      ∙ exact procedure number variable.size variable.parameter
      (λ index is. frame.parameters number index variable stands is) frame.bytes fits;
}
  where
    fits : bytes_of_call procedure < 65536
    fits = frame.in_memory

    bytes_are : plan.variable_bytes ≡ procedure.frame_bytes
    bytes_are = omega (arith, found.variable_bytes, frame.bytes, fits)

    count_is : plan.parameter_count ≡ length procedure.parameters.items
    count_is = omega (arith, found.parameter_count, fits)

    pass_is :
        distances_from plan.variable_bytes plan.parameter_count 0 procedure.frame.items
        ≡ distances_from (variable_bytes procedure.frame.items) (length procedure.parameters.items) 0
        procedure.frame.items
    pass_is =
        ap (λ (bytes : ℕ). distances_from bytes plan.parameter_count 0 procedure.frame.items)
        (bytes_are ∙ frame.bytes)
        ∙ ap (λ (count : ℕ). distances_from (variable_bytes procedure.frame.items) count 0
        procedure.frame.items)
        count_is
