-- The bindings of the uses of names in a module, and the faults of names.
use Rattle.std.specs.Prelude.{◌≡◌, true, false, List, [], ◌∷◌, Option, Some, None}
use Rattle.std.specs.Option.{option_or}
use Rattle.trees.specs.Trees.{ModuleTree}
use Rattle.names.specs.declared.entity.Binding.{Binding}
use Rattle.names.specs.declared.fault.Fault.{Fault}
use Rattle.names.specs.declared.fault.Fault.TheVariants.{Unknown, DeclaredTwice}
use Rattle.names.specs.internal.Events.{Event, Use, Declaration, events_of}

-- the bindings of the uses among events, in the order of the text
abbrev pub bindings_of : List Event → List Binding
bindings_of [] = []
bindings_of (Use name (Some binding) ∷ others) = binding ∷ bindings_of others
bindings_of (Use name None ∷ others) = bindings_of others
bindings_of (Declaration name again ∷ others) = bindings_of others

-- the fault of one event
abbrev pub fault_of : Event → Option Fault
fault_of (Use name (Some binding)) = None
fault_of (Use name None) = Some (Unknown name.place)
fault_of (Declaration name true) = Some (DeclaredTwice name.place)
fault_of (Declaration name false) = None

-- the first fault of events
abbrev pub first_fault : List Event → Option Fault
first_fault [] = None
first_fault (event ∷ others) = option_or (fault_of event) (first_fault others)

-- a module whose names are all known and declared once, with what their uses are bound to
pub record IsBinding (tree : ModuleTree) (bindings : List Binding) : Type 0 where
  pub faultless : first_fault (events_of tree) ≡ None
  pub bound : bindings ≡ bindings_of (events_of tree)

-- the first fault in the text of a module
abbrev pub IsFirstFault : ModuleTree → Fault → Type 0
IsFirstFault tree fault = first_fault (events_of tree) ≡ Some fault
