-- How routines become items of code.
use Rattle.std.specs.Prelude.{ℕ, ◌+◌, List, [], ◌∷◌, ◌++◌}
use Rattle.asm8080.specs.declared.item.Reference.TheVariants.{AtLabel}
use Rattle.asm8080.specs.declared.item.Item.{Item}
use Rattle.asm8080.specs.declared.item.Item.TheVariants.{Plain, WithWord, Mark}
use Rattle.asm8080.specs.Items.{Assembly, BindsNew, KnowsLabels}
use Rattle.runtime8080.specs.declared.routine.Routine.{Routine}
use Rattle.runtime8080.specs.declared.parts.Part.{Part}
use Rattle.runtime8080.specs.declared.parts.Part.TheVariants.{Does, Goes, Here}
use Rattle.runtime8080.specs.internal.Listings.{labels_of, listing}

abbrev pub item_of : Part → Item
item_of (Does instruction) = Plain instruction
item_of (Goes form label) = WithWord form (AtLabel label)
item_of (Here label) = Mark label

-- items that may be added one after another
abbrev pub FitItems : (labels : ℕ) → (items more : List Item) → Type 0
FitItems labels items [] = Unit {0}
FitItems labels items (item ∷ others) =
    KnowsLabels labels item × BindsNew item items × FitItems labels (items ++ item ∷ []) others

unfoldable pub Fits : Assembly → List Item → Type 0
Fits assembly more = FitItems assembly.labels assembly.items more

-- an assembly with the items of a routine
abbrev pub with_routine : Routine → Assembly → Assembly
with_routine routine assembly = record {
  items = assembly.items ++ listing routine assembly.labels;
  labels = assembly.labels + labels_of routine;
}
