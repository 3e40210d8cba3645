-- The labels of items: those that they refer to, and those that they bind; those of a module that have their places.
use Rattle.std.specs.Prelude.{◌≡◌, ◌⊎◌, ℕ, Bool, true, List, [], ◌∷◌}
use Rattle.asm8080.specs.declared.item.Item.{Item}
use Rattle.asm8080.specs.declared.item.Item.TheVariants as items
use Rattle.asm8080.specs.declared.item.Reference.{Reference}
use Rattle.asm8080.specs.declared.item.Reference.TheVariants.{AtLabel, AtTarget, AtNumber}
use Rattle.runtime8080.specs.declared.routine.Routine.{Routine}
use Rattle.treecode.specs.declared.module.TreeModule.{TreeModule}
use Rattle.exprgen8080.specs.internal.Emission.{has_routine, module_label_of_routine}
use Rattle.codegen8080.specs.internal.Modules.{IsOwnCode}

-- a reference is to one of these labels, or to no label
abbrev pub ReferenceGoes : (ok : ℕ → Type 0) → Reference → Type 0
ReferenceGoes ok (AtLabel label) = ok label
ReferenceGoes ok (AtTarget target offset) = Unit {0}
ReferenceGoes ok (AtNumber number) = Unit {0}

abbrev pub ItemGoes : (ok : ℕ → Type 0) → Item → Type 0
ItemGoes ok (items.WithWord form reference) = ReferenceGoes ok reference
ItemGoes ok (items.Address reference) = ReferenceGoes ok reference
ItemGoes ok item = Unit {0}

-- items refer only to these labels
abbrev pub ItemsGo : (ok : ℕ → Type 0) → List Item → Type 0
ItemsGo ok [] = Unit {0}
ItemsGo ok (item ∷ others) = ItemGoes ok item × ItemsGo ok others

-- a label is bound by an item, by one of items
abbrev pub Binds : (label : ℕ) → Item → Type 0
Binds label (items.Mark other) = label ≡ other
Binds label item = ⊥

abbrev pub ItemsBind : (label : ℕ) → List Item → Type 0
ItemsBind label [] = ⊥
ItemsBind label (item ∷ others) = Binds label item ⊎ ItemsBind label others

-- a label is bound by items of a module, or is that of a routine that is called
abbrev pub HasItsPlace : TreeModule → (called : List Bool) → List Item → (label : ℕ) → Type 0
HasItsPlace tree called list label =
    ItemsBind label list
    ⊎ ((routine : Routine)
    × (has_routine called routine ≡ true)
    × ((module_label_of_routine tree routine).index ≡ label))

-- each label that items of a module refer to has its place in them, or is that of a routine that is called
abbrev pub LabelsHavePlaces : TreeModule → (called : List Bool) → List Item → Type 0
LabelsHavePlaces tree called list = ItemsGo (HasItsPlace tree called list) list

-- so it is for all own code of a module
abbrev pub PlacesLabels : TreeModule → Type 0
PlacesLabels tree =
    (called : List Bool) (start : ℕ) (own : List Item)
    → IsOwnCode tree called start own
    → LabelsHavePlaces tree called own
