-- The bytes of a frame do not overlap each other or the return address.
use Rattle.frames.proofs.Prelude.{◌≡◌, ◌⊎◌, inl, inr, ℕ, zero, suc, ◌+◌, ◌-◌, ◌<◌, ◌≤◌, List, [], ◌∷◌, length, take, Option, Some, None, refl, ap, sym, ◌∙◌, subst, arith, unwrap_or, slice_get, option_map_or, none-some, slice_get_within, FrameVariable, Parameter, TreeProcedure, FramePlan, bytes_by_parameter, variable_bytes, return_distance, word_distance, parameter_distance, distance_by_parameter, bytes_of_call, HasSize, HasFrame, distance_of, IsPlanOf, size_in, LiesApart}
use Rattle.frames.proofs.ParameterWords.{words_apart, word_after, word_within, word_off_return, return_after, return_within, in_word}

-- the variables up to one are among all
pub ends_within :
    (frame : List FrameVariable) (number : ℕ) (variable : FrameVariable)
    → slice_get frame number ≡ Some variable
    → variable_bytes (take number frame) + bytes_by_parameter variable.size variable.parameter
    ≤ variable_bytes frame
ends_within [] number variable found = absurd (none-some variable found)
ends_within (first ∷ others) zero variable found =
    subst (λ (variable : FrameVariable).
    0 + bytes_by_parameter variable.size variable.parameter ≤ variable_bytes (first ∷ others))
    (ap (λ (found : Option FrameVariable). unwrap_or found first) found) (omega arith)
ends_within (first ∷ others) (suc number) variable found =
    omega (arith, ends_within others number variable found)

-- the variables before another one end at or before its start
ends_before :
    (frame : List FrameVariable) (number other : ℕ) (variable : FrameVariable)
    → number < other
    → slice_get frame number ≡ Some variable
    → variable_bytes (take number frame) + bytes_by_parameter variable.size variable.parameter
    ≤ variable_bytes (take other frame)
ends_before [] number other variable below found = absurd (none-some variable found)
ends_before (first ∷ others) number zero variable below found = absurd (omega arith)
ends_before (first ∷ others) zero (suc other) variable below found =
    subst (λ (variable : FrameVariable).
    0 + bytes_by_parameter variable.size variable.parameter
    ≤ bytes_by_parameter first.size first.parameter + variable_bytes (take other others))
    (ap (λ (found : Option FrameVariable). unwrap_or found first) found) (omega arith)
ends_before (first ∷ others) (suc number) (suc other) variable below found =
    omega (arith, ends_before others number other variable (omega (arith, below)) found)

-- a byte of a variable, and its place
record IsOfVariable (frame : List FrameVariable) (number place : ℕ) : Type 0 where
  variable : FrameVariable
  found : slice_get frame number ≡ Some variable
  starts : variable_bytes (take number frame) ≤ place
  ends : place < variable_bytes (take number frame) + bytes_by_parameter variable.size variable.parameter

-- a byte of a parameter, and its place
record IsOfParameter (frame : List FrameVariable) (parameters number place : ℕ) : Type 0 where
  variable : FrameVariable
  found : slice_get frame number ≡ Some variable
  index : ℕ
  is : variable.parameter ≡ Some index
  below : index < parameters
  starts : word_distance (variable_bytes frame) (parameters - index - 1) ≤ place
  ends : place < word_distance (variable_bytes frame) (parameters - index - 1) + 2

abbrev IsOf : TreeProcedure → (number place : ℕ) → Type 0
IsOf procedure number place =
    IsOfVariable procedure.frame.items number place
    ⊎ IsOfParameter procedure.frame.items (length procedure.parameters.items) number place

-- the place of a byte of a frame
of_parameter :
    (procedure : TreeProcedure) (number offset index : ℕ) (variable : FrameVariable)
    (found : Option Parameter)
    → slice_get procedure.frame.items number ≡ Some variable
    → variable.parameter ≡ Some index
    → slice_get procedure.parameters.items index ≡ found
    → HasSize variable.size found
    → offset < variable.size
    → IsOfParameter procedure.frame.items (length procedure.parameters.items) number
    (parameter_distance (variable_bytes procedure.frame.items)
    (length procedure.parameters.items - index - 1) variable.size + offset)
of_parameter procedure number offset index variable None stands is found sized within = absurd sized
of_parameter procedure number offset index variable (Some parameter) stands is found sized within = record {
  variable = variable;
  found = stands;
  index = index;
  is = is;
  below = slice_get_within procedure.parameters.items index parameter found;
  starts = omega arith;
  ends = subst (λ (size : ℕ).
      parameter_distance (variable_bytes procedure.frame.items)
      (length procedure.parameters.items - index - 1) size + offset
      < word_distance (variable_bytes procedure.frame.items)
      (length procedure.parameters.items - index - 1) + 2)
      (sym sized)
      (in_word (variable_bytes procedure.frame.items) (length procedure.parameters.items - index - 1)
      parameter.scalar offset (subst (λ (size : ℕ). offset < size) sized within));
}

by_parameter :
    (procedure : TreeProcedure) (number offset : ℕ) (variable : FrameVariable) (parameter : Option ℕ)
    → HasFrame procedure
    → slice_get procedure.frame.items number ≡ Some variable
    → variable.parameter ≡ parameter
    → offset < variable.size
    → IsOf procedure number
    (distance_by_parameter procedure.frame.items (length procedure.parameters.items) number variable.size
    parameter + offset)
by_parameter procedure number offset variable None frame stands is within = inl (record {
  variable = variable;
  found = stands;
  starts = omega arith;
  ends = subst (λ (parameter : Option ℕ).
      variable_bytes (take number procedure.frame.items) + offset
      < variable_bytes (take number procedure.frame.items) + bytes_by_parameter variable.size parameter)
      (sym is) (omega (arith, within));
})
by_parameter procedure number offset variable (Some index) frame stands is within =
    inr (of_parameter procedure number offset index variable (slice_get procedure.parameters.items index)
    stands is
    refl (frame.parameters number index variable stands is) within)

by_found :
    (procedure : TreeProcedure) (plan : FramePlan) (number offset : ℕ) (found : Option FrameVariable)
    → HasFrame procedure
    → IsPlanOf procedure plan
    → slice_get procedure.frame.items number ≡ found
    → offset < option_map_or (λ (variable : FrameVariable). variable.size) found 0
    → IsOf procedure number (distance_of plan number + offset)
by_found procedure plan number offset None frame planned stands within = absurd (omega arith)
by_found procedure plan number offset (Some variable) frame planned stands within =
    subst (λ (distance : ℕ). IsOf procedure number (distance + offset))
    (sym (planned.distances number variable stands))
    (by_parameter procedure number offset variable variable.parameter frame stands refl within)

place_of :
    (procedure : TreeProcedure) (plan : FramePlan) (number offset : ℕ)
    → HasFrame procedure
    → IsPlanOf procedure plan
    → offset < size_in procedure.frame.items number
    → IsOf procedure number (distance_of plan number + offset)
place_of procedure plan number offset frame planned within =
    by_found procedure plan number offset (slice_get procedure.frame.items number) frame planned refl within

-- within the bytes of the call
is_within :
    (procedure : TreeProcedure) (number place : ℕ)
    → HasFrame procedure
    → IsOf procedure number place
    → place < bytes_of_call procedure
is_within procedure number place frame (inl byte) =
    omega (
      arith,
      byte.ends,
      frame.bytes,
      ends_within procedure.frame.items number byte.variable byte.found,
    )
is_within procedure number place frame (inr byte) =
    omega (
      arith,
      byte.ends,
      byte.below,
      frame.bytes,
      word_within (variable_bytes procedure.frame.items) (length procedure.parameters.items)
          (length procedure.parameters.items - byte.index - 1) (omega (arith, byte.below)),
    )

-- not of the return address
is_off_return :
    (procedure : TreeProcedure) (number place : ℕ)
    → IsOf procedure number place
    → (place < return_distance (variable_bytes procedure.frame.items) (length procedure.parameters.items))
    ⊎ (return_distance (variable_bytes procedure.frame.items) (length procedure.parameters.items) + 2 ≤ place)
is_off_return procedure number place (inl byte) =
    inl (omega (
      arith,
      byte.ends,
      ends_within procedure.frame.items number byte.variable byte.found,
      return_after (variable_bytes procedure.frame.items) (length procedure.parameters.items),
    ))
is_off_return procedure number place (inr byte) =
    word_off_return (variable_bytes procedure.frame.items) (length procedure.parameters.items)
    (length procedure.parameters.items - byte.index - 1) place (omega (arith, byte.below)) byte.starts
    byte.ends

-- two variables share no byte
variables_apart :
    (frame : List FrameVariable) (number other place : ℕ)
    → IsOfVariable frame number place
    → IsOfVariable frame other place
    → (number < other) ⊎ ((number ≡ other) ⊎ (other < number))
    → number ≡ other
variables_apart frame number other place left right (inl before) =
    absurd (omega (
      arith,
      left.ends,
      right.starts,
      ends_before frame number other left.variable before left.found,
    ))
variables_apart frame number other place left right (inr (inl same)) = same
variables_apart frame number other place left right (inr (inr after)) =
    absurd (omega (
      arith,
      right.ends,
      left.starts,
      ends_before frame other number right.variable after right.found,
    ))

in_order : (number other : ℕ) → (number < other) ⊎ ((number ≡ other) ⊎ (other < number))
in_order zero zero = inr (inl refl)
in_order zero (suc other) = inl (omega arith)
in_order (suc number) zero = inr (inr (omega arith))
in_order (suc number) (suc other) = later (in_order number other)
  where
    later :
        (number < other) ⊎ ((number ≡ other) ⊎ (other < number))
        → (suc number < suc other) ⊎ ((suc number ≡ suc other) ⊎ (suc other < suc number))
    later (inl before) = inl (omega (arith, before))
    later (inr (inl same)) = inr (inl (omega (arith, same)))
    later (inr (inr after)) = inr (inr (omega (arith, after)))

-- a variable and a parameter share no byte
never_both :
    (frame : List FrameVariable) (parameters number other place : ℕ)
    → IsOfVariable frame number place
    → IsOfParameter frame parameters other place
    → ⊥
never_both frame parameters number other place left right =
    omega (
      arith,
      left.ends,
      right.starts,
      ends_within frame number left.variable left.found,
      word_after (variable_bytes frame) (parameters - right.index - 1),
    )

same_byte :
    (procedure : TreeProcedure) (number other place : ℕ)
    → HasFrame procedure
    → IsOf procedure number place
    → IsOf procedure other place
    → number ≡ other
same_byte procedure number other place frame (inl left) (inl right) =
    variables_apart procedure.frame.items number other place left right (in_order number other)
same_byte procedure number other place frame (inl left) (inr right) =
    absurd (never_both procedure.frame.items (length procedure.parameters.items) number other place left
    right)
same_byte procedure number other place frame (inr left) (inl right) =
    absurd (never_both procedure.frame.items (length procedure.parameters.items) other number place right
    left)
same_byte procedure number other place frame (inr left) (inr right) =
    frame.once number other left.index left.variable right.variable left.found right.found left.is
    (right.is ∙ ap (λ (index : ℕ). Some index) (sym same_index))
  where
    same_index : left.index ≡ right.index
    same_index =
        omega (
          arith,
          left.below,
          right.below,
          words_apart (variable_bytes procedure.frame.items)
              (length procedure.parameters.items - left.index - 1)
              (length procedure.parameters.items - right.index - 1) place left.starts left.ends right.starts
              right.ends,
        )

-- the bytes of a frame do not overlap in a plan
pub frame_lies_apart :
    (procedure : TreeProcedure) (plan : FramePlan)
    → HasFrame procedure
    → IsPlanOf procedure plan
    → LiesApart procedure plan
frame_lies_apart procedure plan frame planned = record {
  within = λ number offset within.
      is_within procedure number (distance_of plan number + offset) frame
      (place_of procedure plan number offset frame planned within);
  return_within =
      subst (λ (distance : ℕ). distance + 2 ≤ bytes_of_call procedure) (sym return_is)
      (omega (
        arith,
        frame.bytes,
        return_within (variable_bytes procedure.frame.items) (length procedure.parameters.items),
      ));
  off_return = λ number offset within inside.
      outside (distance_of plan number + offset)
      (is_off_return procedure number (distance_of plan number + offset)
      (place_of procedure plan number offset frame planned within))
      (subst (λ (distance : ℕ). distance ≤ distance_of plan number + offset) return_is inside.0)
      (subst (λ (distance : ℕ). distance_of plan number + offset < distance + 2) return_is inside.1);
  apart = λ number offset other other_offset within within_other same.
      same_byte procedure number other (distance_of plan number + offset) frame
      (place_of procedure plan number offset frame planned within)
      (subst (λ (place : ℕ). IsOf procedure other place) (sym same)
      (place_of procedure plan other other_offset frame planned within_other));
}
  where
    return_is :
        return_distance plan.variable_bytes plan.parameter_count
        ≡ return_distance (variable_bytes procedure.frame.items) (length procedure.parameters.items)
    return_is =
        ap (λ (bytes : ℕ). return_distance bytes plan.parameter_count) (planned.variable_bytes ∙ frame.bytes)
        ∙ ap (λ (count : ℕ). return_distance (variable_bytes procedure.frame.items) count)
        planned.parameter_count

    outside :
        (place : ℕ)
        → (place < return_distance (variable_bytes procedure.frame.items) (length procedure.parameters.items))
        ⊎ (return_distance (variable_bytes procedure.frame.items)
        (length procedure.parameters.items) + 2 ≤ place)
        → return_distance (variable_bytes procedure.frame.items) (length procedure.parameters.items) ≤ place
        → place < return_distance (variable_bytes procedure.frame.items)
        (length procedure.parameters.items) + 2
        → ⊥
    outside place (inl before) starts ends = omega arith
    outside place (inr after) starts ends = omega arith
