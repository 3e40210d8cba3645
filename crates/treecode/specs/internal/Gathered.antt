-- The EXTERNAL names of a module as they are gathered, item by item.
use Rattle.std.specs.Prelude.{ℕ, List, [], ◌∷◌, ◌++◌, length, Option, Some, None}
use Rattle.typed_trees.specs.declared.parts.GlobalItem.{GlobalItem}
use Rattle.typed_trees.specs.declared.parts.GlobalItem.TheVariants.{GlobalObject, GlobalProcedure}
use Rattle.typed_trees.specs.TypedTrees.{TypedModule}
use Rattle.treecode.specs.declared.globals.Externals.{Externals}
use Rattle.treecode.specs.declared.module.ExternalName.{ExternalName}
use Rattle.treecode.specs.internal.Homes.{external_name}
use Rattle.treecode.specs.internal.Numbers.{with_number}

-- the names so far, and the index among them of each EXTERNAL object and procedure, by its number
pub record Gathered : Type 0 where
  pub names : List ExternalName
  pub objects : List (Option ℕ)
  pub procedures : List (Option ℕ)

abbrev pub gathered_view : Externals → Gathered
gathered_view externals = record {
  names = externals.names.items;
  objects = externals.objects.entries.items;
  procedures = externals.procedures.entries.items;
}

abbrev pub none_gathered : Gathered
none_gathered = record { names = []; objects = []; procedures = [] }

-- adds a name, if there is one
abbrev pub with_name : List ExternalName → Option ExternalName → List ExternalName
with_name names None = names
with_name names (Some name) = names ++ name ∷ []

-- adds the index of a name that follows these names, if there is one
abbrev pub with_index_of_name :
    (entries : List (Option ℕ)) → (number : ℕ) → List ExternalName → Option ExternalName → List (Option ℕ)
with_index_of_name entries number names None = entries
with_index_of_name entries number names (Some name) = with_number entries number (length names)

-- adds an object, or a procedure, with its name if it is EXTERNAL
abbrev pub with_external_object : Gathered → (number : ℕ) → Option ExternalName → Gathered
with_external_object before number name = record before {
  names = with_name before.names name;
  objects = with_index_of_name before.objects number before.names name;
}

abbrev pub with_external_procedure : Gathered → (number : ℕ) → Option ExternalName → Gathered
with_external_procedure before number name = record before {
  names = with_name before.names name;
  procedures = with_index_of_name before.procedures number before.names name;
}

abbrev pub with_external : TypedModule → Gathered → GlobalItem → Gathered
with_external typed before (GlobalObject number) =
    with_external_object before number (external_name typed (GlobalObject number))
with_external typed before (GlobalProcedure number) =
    with_external_procedure before number (external_name typed (GlobalProcedure number))

abbrev pub all_gathered : TypedModule → Gathered → List GlobalItem → Gathered
all_gathered typed before [] = before
all_gathered typed before (item ∷ others) = all_gathered typed (with_external typed before item) others
