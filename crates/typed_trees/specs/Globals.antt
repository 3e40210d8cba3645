-- The list of globals of a module holds what it shares with other modules (PL/M-80 Programming Manual,
-- "Extended scope: the PUBLIC and EXTERNAL attributes").
use Rattle.std.specs.Prelude.{◌≡◌, ℕ, Bool, true, false, filter_map, All, Option, Some, None, if◌then◌else◌}
use Rattle.std.specs.List.{enumerate_from}
use Rattle.typed_trees.specs.declared.parts.GlobalItem.{GlobalItem}
use Rattle.typed_trees.specs.declared.parts.GlobalItem.TheVariants.{GlobalObject, GlobalProcedure}
use Rattle.typed_trees.specs.declared.parts.Visibility.{Visibility}
use Rattle.typed_trees.specs.declared.parts.Visibility.TheVariants.{Private}
use Rattle.typed_trees.specs.TypedTrees.{Home, Elsewhere, TypedObject, TypedProcedure, TypedModule}

-- the object, or the procedure, that is one of the globals
abbrev pub shared_object : GlobalItem → Option ℕ
shared_object (GlobalObject object) = Some object
shared_object (GlobalProcedure procedure) = None

abbrev pub shared_procedure : GlobalItem → Option ℕ
shared_procedure (GlobalObject object) = None
shared_procedure (GlobalProcedure procedure) = Some procedure

-- whether an object is PUBLIC or EXTERNAL, and whether a procedure is
abbrev pub is_shared : Home → (is_public : Bool) → Bool
is_shared Elsewhere is_public = true
is_shared home is_public = is_public

abbrev pub is_global : Visibility → Bool
is_global Private = false
is_global visibility = true

-- the number of an object, or of a procedure, that is a global
abbrev pub global_object : ℕ × TypedObject → Option ℕ
global_object numbered =
    if is_shared (numbered.1).home (numbered.1).is_public then Some numbered.0 else None

abbrev pub global_procedure : ℕ × TypedProcedure → Option ℕ
global_procedure numbered = if is_global (numbered.1).visibility then Some numbered.0 else None

-- no object is EXTERNAL and PUBLIC
abbrev pub IsHereIfPublic : Home → (is_public : Bool) → Type 0
IsHereIfPublic Elsewhere true = ⊥
IsHereIfPublic home is_public = Unit {0}

-- The globals are the objects that are PUBLIC or EXTERNAL, in the order of their numbers, each once, and the
-- procedures that are.
pub record ListsGlobals (typed : TypedModule) : Type 0 where
  pub objects : filter_map shared_object typed.globals
      ≡ filter_map global_object (enumerate_from 0 typed.objects)
  pub procedures : filter_map shared_procedure typed.globals
      ≡ filter_map global_procedure (enumerate_from 0 typed.procedures)
  pub here : All (λ (object : TypedObject). IsHereIfPublic object.home object.is_public) typed.objects
