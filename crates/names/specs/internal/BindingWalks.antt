-- What binding a part of a text gives: how far the text is, and all bindings so far, or the first fault.
use Rattle.std.specs.Prelude.{◌≡◌, List, [], ◌∷◌, ◌++◌, Option, None, Some, Result, Ok, Err}
use Rattle.failure.specs.declared.Failure.{Failure}
use Rattle.failure.specs.declared.Failure.TheVariants as failures
use Rattle.trees.specs.declared.identifier.Identifier.{Identifier}
use Rattle.names.specs.declared.entity.Binding.{Binding}
use Rattle.names.specs.declared.fault.Fault.{Fault}
use Rattle.names.specs.declared.fault.Fault.TheVariants.{Unknown}
use Rattle.names.specs.Environment.{Here, at_the_start}
use Rattle.names.specs.BuiltIns.{binding_of}
use Rattle.names.specs.internal.Events.{Seen}
use Rattle.names.specs.internal.Binding.{bindings_of, first_fault}

-- how far a text is, and what its uses of names were bound to
pub record Walk : Type 0 where
  pub here : Here
  pub bindings : List Binding

-- something, unless there is a fault
abbrev pub unless : {A : Type 0} → Option Fault → A → Result A Fault
unless None a = Ok a
unless (Some fault) a = Err fault

-- the result of a part of a text from a place on
unfoldable pub gives : (Here → Seen) → Walk → Result Walk Fault
gives part walk = unless (first_fault (part walk.here).events) (record {
  here = (part walk.here).here;
  bindings = walk.bindings ++ bindings_of (part walk.here).events;
})

-- a name with its binding, after these bindings
abbrev pub bound_name : Identifier → Option Binding → List Binding → Result (List Binding) Fault
bound_name name None bindings = Err (Unknown name.place)
bound_name name (Some binding) bindings = Ok (bindings ++ binding ∷ [])

abbrev pub bind_more : {A B : Type 0} → Result A Fault → (A → Result B Fault) → Result B Fault
bind_more (Ok a) next = next a
bind_more (Err fault) next = Err fault

-- what uses of names give at a place, after these bindings
unfoldable pub bound_at : Here → List Identifier → List Binding → Result (List Binding) Fault
bound_at here [] bindings = Ok bindings
bound_at here (name ∷ others) bindings =
    bind_more (bound_name name (binding_of here name.name) bindings) (bound_at here others)

-- the fault of a failure; out of memory has no fault
abbrev pub fault_in : Failure Fault → Option Fault
fault_in (failures.Fault fault) = Some fault
fault_in failures.Memory = None

-- a fault is the fault of a failed walk; without one nothing is said
abbrev pub FailsBy : {B : Type 0} → Option Fault → Result B Fault → Type 0
FailsBy None given = Unit {0}
FailsBy (Some fault) given = given ≡ Err fault

-- the returned value of a call is the result that is given, unless memory ran out
abbrev pub Does : {A B : Type 0} → Result A (Failure Fault) → B → Result B Fault → Type 0
Does (Ok done) now given = given ≡ Ok now
Does (Err failure) now given = FailsBy (fault_in failure) given

-- the start of a module
abbrev pub at_start : Walk
at_start = record { here = at_the_start; bindings = [] }
