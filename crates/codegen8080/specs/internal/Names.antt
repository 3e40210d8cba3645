-- The EXTERNAL and PUBLIC names of a module.
use Rattle.std.specs.Prelude.{ℕ, IsTrue, List, [], ◌++◌, map}
use Rattle.std.specs.List.{AllByRecursion, list_all}
use Rattle.symbols.specs.Names.{is_name}
use Rattle.object_modules.specs.Module.{Public, are_new, is_valid_public}
use Rattle.treecode.specs.declared.module.ExternalName.{ExternalName}
use Rattle.treecode.specs.declared.module.PublicName.{PublicName}
use Rattle.treecode.specs.declared.module.PublicPlace.{PublicPlace}
use Rattle.treecode.specs.declared.module.PublicPlace.TheVariants.{Object, Procedure}
use Rattle.treecode.specs.declared.module.TreeModule.{TreeModule}
use Rattle.treecode.specs.declared.place.Place.{Place}
use Rattle.treecode.specs.declared.place.Place.TheVariants as places

-- external names and public ones
pub record Linkage : Type 0 where
  pub externals : List (List ℕ)
  pub publics : List Public

-- all of them, one after another
abbrev pub names_of : Linkage → List (List ℕ)
names_of linkage = linkage.externals ++ map (λ (public : Public). public.name) linkage.publics

-- the names that a module may have
pub record IsLinkage (linkage : Linkage) : Type 0 where
  pub names : IsTrue (list_all is_name (names_of linkage))
  pub different : IsTrue (are_new (names_of linkage) [])
  pub publics : IsTrue (list_all is_valid_public linkage.publics)

-- the names that tree code has for other modules
abbrev pub names_of_externals : List ExternalName → List (List ℕ)
names_of_externals externals = map (λ (external : ExternalName). external.name) externals

abbrev pub names_of_publics : List PublicName → List (List ℕ)
names_of_publics publics = map (λ (public : PublicName). public.name) publics

-- a place in the module itself, or a number
abbrev pub IsOwnPlace : Place → Type 0
IsOwnPlace (places.External offset name) = ⊥
IsOwnPlace place = Unit {0}

-- a PUBLIC name of an object has such a place
abbrev pub HasOwnPlace : PublicPlace → Type 0
HasOwnPlace (Object place) = IsOwnPlace place
HasOwnPlace (Procedure number) = Unit {0}

abbrev pub IsPublicHere : PublicName → Type 0
IsPublicHere public = HasOwnPlace public.place

-- What the names of tree code need to be listed in an object module: no two of the EXTERNAL and PUBLIC ones are the
-- same, and no PUBLIC object is at the place of an EXTERNAL name.
pub record IsLinkable (tree : TreeModule) : Type 0 where
  pub different :
      IsTrue
      (are_new (names_of_externals tree.externals.items ++ names_of_publics tree.publics.items) [])
  pub here : AllByRecursion IsPublicHere tree.publics.items
