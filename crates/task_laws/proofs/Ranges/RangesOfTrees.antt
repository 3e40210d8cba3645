-- Values of typed expressions are of their types, provided that calls give such values: for the trees of any
-- module of a program.
use Rattle.task_laws.proofs.Prelude.{◌≡◌, ℕ, ◌+◌, ◌<◌, ◌&&◌, List, [], ◌∷◌, IsSomeAnd, Option, Some, None, slice_get, refl, sym, subst, arith, ScalarType, Byte, Address, type_of, type_of_result, type_of_target, TypedExpression, NumberNode, ValueNode, LocationNode, ListNode, ConversionNode, AssignmentNode, UnaryNode, BinaryNode, CallNode, FunctionNode, ShiftNode, InputNode, TypedReference, PartOf, Subscript, NoSubscript, At, TypedTarget, StoredIn, SentTo, TypedArguments, NoArguments, MoreArguments, TypedModule, TypedProcedure, TypedList, TypedStatements, TypesHold, TypesHoldInArguments, TypesHoldInHead, TypesHoldInList, TypesHoldInReference, TypesHoldInStatements, TypesHoldInSubscript, TypesHoldInTarget, TypesHoldInTargets, Takes, Within, WithinMain, WithinProcedure, types_of, InProgram, IsScript, Surroundings, home_of, read_scalar, write_scalar, Later, LoopTurn, Turn, address_in_memory, based_place, called_for, callee_in, computed, displaced, displacement, located, procedure_at, stored, stored_in_each, value, values, Flow, Gave, Jumped, Onward, Returned, then_do, as_type, function_of, result_of, result_of_one, shifted, values_of, AreOfTypes, IsOfResult, SourceFits, NumbersFit, NumbersFitInArguments, NumbersFitInHead, NumbersFitInList, NumbersFitInReference, NumbersFitInStatements, NumbersFitInSubscript, NumbersFitInTarget, NumbersFitInTargets, HasTypes, as_type_fits}
use Rattle.meaning.proofs.FunctionResults.{function_fits}
use Rattle.meaning.specs.Outcomes.{State}
use Rattle.task_laws.proofs.Machine.KnownOperands.{number_fits, one_fits, result_fits, shift_fits}
use Rattle.task_laws.proofs.Ranges.RangesOfBytes.{Gives, IsGiven, PlaceFits, address_fits, computed_fits, gives_then, input_fits, list_fits, of_type, place_fits, scalar_fits, target_type, write_fits}

-- a value that a body returns is one of its result
abbrev pub ReturnFits : Within → (found : ℕ) → Type 0
ReturnFits (WithinProcedure number result) found = IsOfResult result found
ReturnFits WithinMain found = Unit {0}

-- the way in which a part of a body ends
abbrev pub FlowFits : Within → Flow → Type 0
FlowFits within Onward = Unit {0}
FlowFits within (Returned found) = ReturnFits within found
FlowFits within (Jumped label) = Unit {0}

-- a turn of a loop of a module
abbrev pub TurnFits : TypedModule → Within → Turn → Type 0
TurnFits typed within (LoopTurn head body) =
    (TypesHoldInHead typed within head × NumbersFitInHead head) × TypesHoldInList typed within body
    × NumbersFitInList body

-- a procedure that is called has its heading
abbrev pub IsHeaded : List TypedModule → InProgram → (result : Option ScalarType) → List ScalarType → Type 0
IsHeaded modules at result scalars =
    (typed : TypedModule) (procedure : TypedProcedure) → procedure_at modules at ≡ Some (typed, procedure)
    → (procedure.result ≡ result) × (procedure.parameter_types ≡ scalars)

-- The values of calls, further turns and jumps are of their types, in all modules of a program.
pub record LaterFits (later : Later) : Type 0 where
  pub call :
      (at : InProgram) (result : Option ScalarType) (scalars : List ScalarType) (arguments : List ℕ)
      (around : Surroundings) (s : State)
      → HasTypes around.program
      → IsHeaded around.program.modules at result scalars
      → AreOfTypes scalars arguments
      → SourceFits around s
      → Gives (λ found t. IsOfResult result found × SourceFits around t) (later.call at arguments around s)
  pub again :
      (typed : TypedModule) (within : Within) (turn : Turn) (around : Surroundings) (s : State)
      → HasTypes around.program
      → slice_get around.program.modules around.number_of_module ≡ Some typed
      → TurnFits typed within turn
      → SourceFits around s
      → Gives (λ flow t. FlowFits within flow × SourceFits around t) (later.again turn around s)
  pub onto :
      (typed : TypedModule) (within : Within) (list : TypedList) (rest : TypedStatements)
      (around : Surroundings)
      (s : State)
      → HasTypes around.program
      → slice_get around.program.modules around.number_of_module ≡ Some typed
      → TypesHoldInList typed within list × NumbersFitInList list
      → TypesHoldInStatements typed within rest × NumbersFitInStatements rest
      → SourceFits around s
      → Gives (λ flow t. FlowFits within flow × SourceFits around t) (later.onto list rest around s)

-- a procedure that reaches its end gives 0
pub nothing_fits : (result : Option ScalarType) → IsOfResult result 0
nothing_fits None = tt
nothing_fits (Some Byte) = omega arith
nothing_fits (Some Address) = omega arith

-- a procedure of a module that is called has its heading
abbrev pub CalleesAreHeaded : TypedModule → Surroundings → Type 0
CalleesAreHeaded typed around =
    (procedure : ℕ) (heading : TypedProcedure) (at : InProgram)
    → slice_get typed.procedures procedure ≡ Some heading
    → callee_in around procedure ≡ Some at
    → IsHeaded around.program.modules at heading.result heading.parameter_types

-- the values of calls in a module
abbrev pub CallsGive : Later → TypedModule → Surroundings → Type 0
CallsGive later typed around =
    (procedure : ℕ) (heading : TypedProcedure) (arguments : List ℕ) (s : State)
    → slice_get typed.procedures procedure ≡ Some heading
    → AreOfTypes heading.parameter_types arguments
    → SourceFits around s
    → Gives (λ found t. IsOfResult heading.result found × SourceFits around t)
    (called_for later (callee_in around procedure) arguments around s)

pub calls_give :
    (later : Later) (typed : TypedModule) (around : Surroundings)
    → LaterFits later
    → HasTypes around.program
    → CalleesAreHeaded typed around
    → CallsGive later typed around
calls_give later typed around fits program headed procedure heading arguments s there of_types source =
    by (callee_in around procedure) refl
  where
    by : (found : Option InProgram) → callee_in around procedure ≡ found
        → Gives (λ found t. IsOfResult heading.result found × SourceFits around t)
        (called_for later found arguments around s)
    by (Some at) is =
        fits.call at heading.result heading.parameter_types arguments around s program
        (headed procedure heading at there is) of_types source
    by None is = IsGiven (nothing_fits heading.result, source)

module _ (later : Later) (typed : TypedModule) (within : Within) (around : Surroundings)
    (script : IsScript around.program.script) (calls : CallsGive later typed around) where
  -- a call, by its arguments
  pub takes_fits :
      (procedure : ℕ) (result : Option ScalarType) (trees : TypedArguments) (arguments : List ℕ) (s : State)
      → Takes typed procedure result trees
      → AreOfTypes (types_of trees) arguments
      → SourceFits around s
      → Gives (λ found t. IsOfResult result found × SourceFits around t)
      (called_for later (callee_in around procedure) arguments around s)
  takes_fits procedure result trees arguments s takes of_types source =
      by (slice_get typed.procedures procedure) refl takes
    where
      by : (found : Option TypedProcedure) → slice_get typed.procedures procedure ≡ found
          → IsSomeAnd found
          (λ (heading : TypedProcedure).
          (heading.result ≡ result) × (heading.parameter_types ≡ types_of trees))
          → Gives (λ found t. IsOfResult result found × SourceFits around t)
          (called_for later (callee_in around procedure) arguments around s)
      by None there is = absurd is
      by (Some heading) there is =
          subst (λ (its : Option ScalarType). Gives (λ found t. IsOfResult its found × SourceFits around t)
          (called_for later (callee_in around procedure) arguments around s)) is.0
          (calls procedure heading arguments s there
          (subst (λ (scalars : List ScalarType). AreOfTypes scalars arguments) (sym is.1) of_types) source)

  mutual
    pub tree_fits : (tree : TypedExpression) (s : State)
        → TypesHold typed within tree → NumbersFit tree → SourceFits around s
        → Gives (λ n t. (n < values_of (type_of tree)) × SourceFits around t) (value later around tree s)
    tree_fits (NumberNode scalar n origin) s types small source =
        IsGiven (number_fits scalar n types small, source)
    tree_fits (ValueNode scalar part) s types small source =
        gives_then (located later around part s) (λ place t. read_scalar around.program scalar place t)
        (location_fits part s types.1 small source)
        (λ place t one. scalar_fits around scalar place t one.1)
    tree_fits (LocationNode part) s types small source =
        gives_then (located later around part s) (λ place t. Gave (address_in_memory place) t)
        (location_fits part s types.1 small source)
        (λ place t one. IsGiven (address_fits place one.0, one.1))
    tree_fits (ListNode list) s types small source = IsGiven (list_fits around list, source)
    tree_fits (ConversionNode scalar inner) s types small source =
        gives_then (value later around inner s) (λ n t. Gave (as_type scalar n) t)
        (tree_fits inner s types small source)
        (λ n t one. IsGiven (as_type_fits scalar n, one.1))
    tree_fits (AssignmentNode to inner) s types small source =
        gives_then (value later around inner s)
        (λ n t. then_do (stored later around to n t) (λ _ u. Gave n u))
        (tree_fits inner s types.0 small.0 source)
        (λ n t one.
        gives_then (stored later around to n t) (λ _ u. Gave n u)
        (target_fits (type_of inner) to t n types.1 small.1 one.1)
        (λ _ u two. IsGiven (
          of_type (type_of inner) (type_of_target to) n
              (sym (target_type typed within to (type_of inner) types.1)) one.0,
          two,
        )))
    tree_fits (UnaryNode scalar operator operand) s types small source =
        gives_then (value later around operand s) (λ n t. Gave (result_of_one scalar operator n) t)
        (tree_fits operand s types.0 small source)
        (λ n t one. IsGiven (one_fits scalar operator n, one.1))
    tree_fits (BinaryNode operands operator first second) s types small source =
        gives_then (value later around first s)
        (λ x t. then_do (value later around second t) (λ y u. computed (result_of operands operator x y) u))
        (tree_fits first s (types.1).0 small.0 source)
        (λ x t one.
        gives_then (value later around second t) (λ y u. computed (result_of operands operator x y) u)
        (tree_fits second t (types.2).0 small.1 one.1)
        (λ y u two.
        computed_fits around (type_of_result operator operands) (result_of operands operator x y) u
        (result_fits operands operator x y (of_type (type_of first) operands x (types.1).1 one.0)
        (of_type (type_of second) operands y (types.2).1 two.0))
        two.1))
    tree_fits (CallNode procedure scalar trees) s types small source =
        gives_then (values later around trees s)
        (λ list t. called_for later (callee_in around procedure) list around t)
        (trees_fit trees s types.1 small source)
        (λ list t one. takes_fits procedure (Some scalar) trees list t types.0 one.0 one.1)
    tree_fits (FunctionNode function operand) s types small source =
        gives_then (value later around operand s) (λ n t. Gave (function_of function n) t)
        (tree_fits operand s types small source)
        (λ n t one. IsGiven (function_fits function (type_of operand) n one.0, one.1))
    tree_fits (ShiftNode scalar function moved count) s types small source =
        gives_then (value later around moved s)
        (λ n t. then_do (value later around count t) (λ k u. Gave (shifted scalar function n k) u))
        (tree_fits moved s (types.1).0 small.0 source)
        (λ n t one.
        gives_then (value later around count t) (λ k u. Gave (shifted scalar function n k) u)
        (tree_fits count t (types.2).0 small.1 one.1)
        (λ k u two.
        IsGiven (shift_fits scalar function n k types.0 (of_type (type_of moved) scalar n (types.1).1 one.0), two.1)))
    tree_fits (InputNode port) s types small source =
        IsGiven (
          input_fits around.program.script s.events port script,
          record { memory = source.memory; frame = source.frame },
        )

    pub trees_fit : (trees : TypedArguments) (s : State)
        → TypesHoldInArguments typed within trees → NumbersFitInArguments trees → SourceFits around s
        → Gives (λ given t. AreOfTypes (types_of trees) given × SourceFits around t)
        (values later around trees s)
    trees_fit NoArguments s types small source = IsGiven (tt, source)
    trees_fit (MoreArguments tree others) s types small source =
        gives_then (value later around tree s)
        (λ n t. then_do (values later around others t) (λ numbers u. Gave (n ∷ numbers) u))
        (tree_fits tree s types.0 small.0 source)
        (λ n t one.
        gives_then (values later around others t) (λ numbers u. Gave (n ∷ numbers) u)
        (trees_fit others t types.1 small.1 one.1)
        (λ numbers u two. IsGiven ((one.0, two.0), two.1)))

    pub location_fits : (part : TypedReference) (s : State)
        → TypesHoldInReference typed within part → NumbersFitInReference part → SourceFits around s
        → Gives (λ place t. PlaceFits place × SourceFits around t) (located later around part s)
    location_fits (PartOf object subscript member offset member_subscript) s types small source =
        gives_then (displacement later around subscript s)
        (λ one t.
        then_do (displacement later around member_subscript t)
        (λ two u.
        based_place (home_of around object) around object (one.bytes + offset + two.bytes)
        (one.is_inside && two.is_inside) u))
        (index_fits subscript s types.0 small.0 source)
        (λ one t fit.
        gives_then (displacement later around member_subscript t)
        (λ two u.
        based_place (home_of around object) around object (one.bytes + offset + two.bytes)
        (one.is_inside && two.is_inside) u)
        (index_fits member_subscript t types.1 small.1 fit)
        (λ two u last.
        place_fits around (home_of around object) object (one.bytes + offset + two.bytes)
        (one.is_inside && two.is_inside) u last))

    pub index_fits : (subscript : Subscript) (s : State)
        → TypesHoldInSubscript typed within subscript → NumbersFitInSubscript subscript → SourceFits around s
        → Gives (λ found t. SourceFits around t) (displacement later around subscript s)
    index_fits NoSubscript s types small source = IsGiven source
    index_fits (At stride count index) s types small source =
        gives_then (value later around index s) (λ n t. Gave (displaced stride count n) t)
        (tree_fits index s types.0 small source)
        (λ n t one. IsGiven one.1)

    pub target_fits : (scalar : ScalarType) (to : TypedTarget) (s : State) (n : ℕ)
        → TypesHoldInTarget typed within scalar to → NumbersFitInTarget to → SourceFits around s
        → Gives (λ found t. SourceFits around t) (stored later around to n s)
    target_fits scalar (StoredIn from to part) s n types small source =
        gives_then (located later around part s)
        (λ place t. write_scalar around.program to place (as_type to n) t)
        (location_fits part s types.2 small source)
        (λ place t one. write_fits around to place (as_type to n) t (as_type_fits to n) one.1)
    target_fits scalar (SentTo from port) s n types small source =
        IsGiven (record { memory = source.memory; frame = source.frame })

  pub targets_fit : (scalar : ScalarType) (targets : List TypedTarget) (s : State) (n : ℕ)
      → TypesHoldInTargets typed within scalar targets → NumbersFitInTargets targets → SourceFits around s
      → Gives (λ found t. SourceFits around t) (stored_in_each later around targets n s)
  targets_fit scalar [] s n types small source = IsGiven source
  targets_fit scalar (first ∷ others) s n types small source =
      gives_then (stored later around first n s) (λ _ t. stored_in_each later around others n t)
      (target_fits scalar first s n types.0 small.0 source)
      (λ _ t one. targets_fit scalar others t n types.1 small.1 one)
