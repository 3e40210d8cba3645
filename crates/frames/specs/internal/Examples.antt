-- Worked frames, computed by hand, each beside the heading and the declarations that it is of.
use Rattle.std.specs.Prelude.{◌≡◌, ℕ, List, [], ◌∷◌, None, Some, refl}
use Rattle.treecode.specs.declared.procedure.FrameVariable.{FrameVariable}
use Rattle.frames.specs.internal.Frames.{distance_in, return_distance, variable_bytes}

abbrev variable : (size : ℕ) → FrameVariable
variable size = record { size = size; parameter = None }

-- a parameter, by its number in the heading
abbrev parameter : (index size : ℕ) → FrameVariable
parameter index size = record { size = size; parameter = Some index }

-- P: PROCEDURE (A, B, C) REENTRANT; DECLARE C BYTE, B ADDRESS, A BYTE, V (3) BYTE, W ADDRESS;
abbrev of_three_parameters : List FrameVariable
of_three_parameters = parameter 2 1 ∷ parameter 1 2 ∷ parameter 0 1 ∷ variable 3 ∷ variable 2 ∷ []

-- upwards: V, W, the word of C, the return address, the word of B, the word of A
return_address_after_the_last_parameter :
    distance_in of_three_parameters 3 3 (variable 3)
    ∷ distance_in of_three_parameters 3 4 (variable 2)
    ∷ distance_in of_three_parameters 3 0 (parameter 2 1)
    ∷ return_distance (variable_bytes of_three_parameters) 3
    ∷ distance_in of_three_parameters 3 1 (parameter 1 2)
    ∷ distance_in of_three_parameters 3 2 (parameter 0 1)
    ∷ []
    ≡ 0 ∷ 3 ∷ 6 ∷ 7 ∷ 9 ∷ 12 ∷ []
return_address_after_the_last_parameter = refl

-- P: PROCEDURE (A) REENTRANT; DECLARE A ADDRESS;
one_parameter_at_the_stack_pointer : distance_in (parameter 0 2 ∷ []) 1 0 (parameter 0 2) ≡ 0
one_parameter_at_the_stack_pointer = refl

-- P: PROCEDURE REENTRANT; DECLARE V BYTE, W (4) ADDRESS, X BYTE;
abbrev of_no_parameters : List FrameVariable
of_no_parameters = variable 1 ∷ variable 8 ∷ variable 1 ∷ []

variables_in_the_order_of_their_declarations :
    distance_in of_no_parameters 0 0 (variable 1)
    ∷ distance_in of_no_parameters 0 1 (variable 8)
    ∷ distance_in of_no_parameters 0 2 (variable 1)
    ∷ return_distance (variable_bytes of_no_parameters) 0
    ∷ []
    ≡ 0 ∷ 1 ∷ 9 ∷ 10 ∷ []
variables_in_the_order_of_their_declarations = refl
