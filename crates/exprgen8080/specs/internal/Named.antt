-- The EXTERNAL names that steps refer to are those of the module.
use Rattle.std.specs.Prelude.{List, [], ◌∷◌}
use Rattle.treecode.specs.declared.module.TreeModule.{TreeModule}
use Rattle.treecode.specs.internal.Named.{PlaceIsNamed, name_count}
use Rattle.steps8080.specs.declared.step.Step.{Step}
use Rattle.steps8080.specs.declared.step.Step.TheVariants as steps

-- each place in steps has one of the names of a module, or none
abbrev pub PlacesAreNamed : TreeModule → List Step → Type 0
PlacesAreNamed tree [] = Unit {0}
PlacesAreNamed tree (steps.Word form place ∷ others) =
    PlaceIsNamed (name_count tree) place × PlacesAreNamed tree others
PlacesAreNamed tree (step ∷ others) = PlacesAreNamed tree others
