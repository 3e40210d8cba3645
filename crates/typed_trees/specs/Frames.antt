-- Parameters and frames: the objects of a procedure's parameters, and the bytes of a call of a REENTRANT one
-- (PL/M-80 Programming Manual, "Procedures").
use Rattle.std.specs.Prelude.{◌≡◌, ◌≢◌, ℕ, ◌≤◌, ◌==◌, Bool, true, false, not, ◌&&◌, if◌then◌else◌, List, [], ◌∷◌, length, slice_get, sum_by, Some, IsSomeAnd, All, AllPairs, Any}
use Rattle.std.specs.List.{enumerate_from}
use Rattle.trees.specs.declared.declaration.ScalarType.{ScalarType}
use Rattle.typed_trees.specs.declared.limits.TheConstants.{FRAME_LIMIT, PARAMETER_LIMIT}
use Rattle.typed_trees.specs.declared.parts.Visibility.{Visibility}
use Rattle.typed_trees.specs.declared.parts.Visibility.TheVariants.{External}
use Rattle.typed_trees.specs.TypedTrees.{Home, InData, Nowhere, InFrame, TypedObject, TypedProcedure, TypedModule}
use Rattle.typed_trees.specs.Sizes.{size_of_object}
use Rattle.typed_trees.specs.ObjectParts.{IsScalar}

-- where the parameters of a procedure live, and its variables unless an attribute says otherwise
abbrev pub home_of_parameters : (number : ℕ) → (is_reentrant : Bool) → Visibility → Home
home_of_parameters number is_reentrant External = Nowhere
home_of_parameters number true visibility = InFrame number
home_of_parameters number false visibility = InData []

-- the object of a parameter: a scalar of its type that lives there
abbrev pub IsParameter : TypedModule → Home → ScalarType → (parameter : ℕ) → Type 0
IsParameter typed home scalar parameter =
    IsSomeAnd (slice_get typed.objects parameter)
    (λ (object : TypedObject). IsScalar scalar object × (object.home ≡ home) × (object.is_parameter ≡ true))

-- the objects of parameters, one for each type
abbrev pub AreParameters : TypedModule → Home → List ScalarType → (parameters : List ℕ) → Type 0
AreParameters typed home [] [] = Unit {0}
AreParameters typed home (scalar ∷ scalars) (parameter ∷ parameters) =
    IsParameter typed home scalar parameter × AreParameters typed home scalars parameters
AreParameters typed home scalars parameters = ⊥

-- whether an object lives in the frames of a procedure
abbrev pub is_in_frame : (procedure : ℕ) → Home → Bool
is_in_frame procedure (InFrame other) = procedure == other
is_in_frame procedure home = false

-- the bytes of a variable in the frames of a procedure; 0 for a parameter
abbrev pub variable_bytes : (procedure : ℕ) → TypedObject → ℕ
variable_bytes procedure object =
    if is_in_frame procedure object.home && not object.is_parameter then size_of_object object else 0

-- the frame bytes of a procedure are those of its variables there
pub record FrameFits (objects : List TypedObject) (number : ℕ) (procedure : TypedProcedure) : Type 0 where
  pub variables : procedure.frame_bytes ≡ sum_by (variable_bytes number) objects
  pub bytes : procedure.frame_bytes ≤ FRAME_LIMIT

-- the same for each procedure of a module; its main program has no frame
pub record FramesFit (typed : TypedModule) : Type 0 where
  pub procedures : All (λ (numbered : ℕ × TypedProcedure). FrameFits typed.objects numbered.0 numbered.1)
      (enumerate_from 0 typed.procedures)
  pub main : typed.main.frame_bytes ≡ 0

-- the parameters of a procedure are different objects, and those in its frames are no others
pub record HasParameters (typed : TypedModule) (number : ℕ) (procedure : TypedProcedure) : Type 0 where
  pub objects : AreParameters typed
      (home_of_parameters number procedure.is_reentrant procedure.visibility) procedure.parameter_types
      procedure.parameters
  pub differ : AllPairs (λ (one other : ℕ). one ≢ other) procedure.parameters
  pub no_others : (parameter : ℕ) (object : TypedObject) → slice_get typed.objects parameter ≡ Some object
      → object.home ≡ InFrame number → object.is_parameter ≡ true
      → Any (λ (one : ℕ). one ≡ parameter) procedure.parameters
  pub count : length procedure.parameters ≤ PARAMETER_LIMIT

-- the same for each procedure of a module; its main program has no parameters
pub record ParametersFit (typed : TypedModule) : Type 0 where
  pub procedures : All (λ (numbered : ℕ × TypedProcedure). HasParameters typed numbered.0 numbered.1)
      (enumerate_from 0 typed.procedures)
  pub main : (typed.main.parameter_types ≡ []) × (typed.main.parameters ≡ [])
