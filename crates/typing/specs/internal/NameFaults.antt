-- What the typing of a module says of the faults of names that its binding has.
use Rattle.std.specs.Prelude.{◌≡◌, ◌⊎◌, Contains, Err}
use Rattle.trees.specs.Trees.{ModuleTree}
use Rattle.names.specs.declared.fault.Fault as name_fault
use Rattle.names.specs.declared.fault.Fault.TheVariants as name_faults
use Rattle.names.specs.internal.Events.{events_of}
use Rattle.names.specs.internal.Binding.{IsBinding, IsFirstFault, bindings_of}
use Rattle.typing.specs.declared.fault.Cause.{Cause}
use Rattle.typing.specs.declared.fault.Cause.TheVariants.{UnknownName, DeclaredTwice}
use Rattle.typing.specs.declared.fault.Fault.{Fault}
use Rattle.typing.specs.internal.Typing.{typing_of}
use Rattle.typing.specs.internal.Members.{members_in_module}

-- each use of a name in a module is known, and each declaration may stand where it does
abbrev pub NamesAreBound : ModuleTree → Type 0
NamesAreBound tree = IsBinding tree (bindings_of (events_of tree))

-- a cause that is one of names
abbrev pub IsOfNames : Cause → Type 0
IsOfNames UnknownName = Unit {0}
IsOfNames DeclaredTwice = Unit {0}
IsOfNames cause = ⊥

-- a fault of names as the typing has it
abbrev pub as_refusal : name_fault.Fault → Fault
as_refusal (name_faults.Unknown place) = record { cause = UnknownName; place = place }
as_refusal (name_faults.DeclaredTwice place) = record { cause = DeclaredTwice; place = place }

-- The typing of a module whose binding has this first fault is refused: for the same at the same place, or for
-- another cause than one of names, or for a fault that the name of a member may have.
pub record IsRefusedBeside (tree : ModuleTree) (fault : name_fault.Fault) : Type 0 where
  pub refusal : Fault
  pub refused : typing_of tree ≡ Err refusal
  pub same : IsOfNames refusal.cause
      → (refusal ≡ as_refusal fault) ⊎ Contains (members_in_module tree) refusal

-- a refusal of the typing of a module is the first fault of its binding
pub record IsFaultOfNames (tree : ModuleTree) (refusal : Fault) : Type 0 where
  pub fault : name_fault.Fault
  pub first : IsFirstFault tree fault
  pub same : as_refusal fault ≡ refusal
