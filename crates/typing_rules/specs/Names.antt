-- What a name of a text is, where it is used (PL/M-80 Programming Manual, "Scope").
use Rattle.std.specs.Prelude.{◌≡◌, ℕ, Some, None, slice_get}
use Rattle.trees.specs.declared.identifier.Identifier.{Identifier}
use Rattle.names.specs.declared.entity.Binding.{Binding}
use Rattle.names.specs.declared.entity.Binding.TheVariants.{Declared, BuiltInName}
use Rattle.names.specs.declared.entity.BuiltIn.{BuiltIn}
use Rattle.names.specs.declared.entity.Entity.TheVariants.{Object, Procedure}
use Rattle.names.specs.BuiltIns.{binding_of}
use Rattle.typing.specs.declared.fault.Cause.{Cause}
use Rattle.typing.specs.declared.fault.Fault.{Fault}
use Rattle.typed_trees.specs.TypedTrees.{TypedObject, TypedProcedure}
use Rattle.typing.specs.References.{Known}

-- a name stands for something that is known there, or for nothing
abbrev pub StandsFor : Known → Identifier → Binding → Type 0
StandsFor known name binding = binding_of known.here name.name ≡ Some binding

abbrev pub IsUnknown : Known → Identifier → Type 0
IsUnknown known name = binding_of known.here name.name ≡ None

-- the name of a variable or a parameter, which is an object of the table
pub record IsVariable (known : Known) (name : Identifier) (number : ℕ) (object : TypedObject) : Type 0 where
  pub named : StandsFor known name (Declared (Object number))
  pub listed : slice_get known.objects number ≡ Some object

-- the name of a procedure that is declared, which is one of the table
pub record IsProcedure (known : Known) (name : Identifier) (number : ℕ) (procedure : TypedProcedure) : Type 0 where
  pub named : StandsFor known name (Declared (Procedure number))
  pub listed : slice_get known.procedures number ≡ Some procedure

-- the name of a built-in procedure
abbrev pub IsBuiltIn : Known → Identifier → BuiltIn → Type 0
IsBuiltIn known name built_in = StandsFor known name (BuiltInName built_in)

-- a name that is known, but is none of a variable
pub record IsNoVariable (known : Known) (name : Identifier) : Type 0 where
  pub binding : Binding
  pub named : StandsFor known name binding
  pub no_variable : (number : ℕ) (object : TypedObject) → ¬ IsVariable known name number object

-- a name that is known, but is none of a procedure that is declared
pub record IsNoProcedure (known : Known) (name : Identifier) : Type 0 where
  pub binding : Binding
  pub named : StandsFor known name binding
  pub no_procedure : (number : ℕ) (procedure : TypedProcedure) → ¬ IsProcedure known name number procedure

-- a fault of a cause, at a name
abbrev pub at_name : Cause → Identifier → Fault
at_name cause name = record { cause = cause; place = name.place }
