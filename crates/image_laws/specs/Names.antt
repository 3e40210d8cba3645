-- Object modules with the names of modules.
use Rattle.std.specs.Prelude.{◌≡◌, ℕ, true, List, map, filter, filter_map, All, is_some, not}
use Rattle.object_modules.specs.Module.{Public, ObjectModule, is_among}
use Rattle.typed_trees.specs.TypedTrees.{TypedModule}
use Rattle.layout.specs.Joined.{Global, global_of, is_main}

-- the parts of a module that it shares with other modules: all, and the names of those that are PUBLIC and EXTERNAL
abbrev pub shared_in : TypedModule → List Global
shared_in typed = filter_map (global_of typed) typed.globals

abbrev pub public_names_in : TypedModule → List (List ℕ)
public_names_in typed =
    map (λ (global : Global). global.name) (filter (λ (global : Global). global.is_public) (shared_in typed))

abbrev pub external_names_in : TypedModule → List (List ℕ)
external_names_in typed =
    map (λ (global : Global). global.name) (filter (λ (global : Global). not global.is_public) (shared_in typed))

-- An object module has the names of a module: its PUBLIC names in their order, external names that are EXTERNAL
-- names of the module, and a start if that is a main module.
pub record HasNames (typed : TypedModule) (object : ObjectModule) : Type 0 where
  pub publics : map (λ (public : Public). public.name) object.publics ≡ public_names_in typed
  pub externals :
      All (λ (name : List ℕ). is_among name (external_names_in typed) ≡ true) object.externals
  pub start : is_some object.start ≡ is_main typed
