-- The code of a part of an expression where labels do not count.
use Rattle.measure_laws.proofs.Prelude.{ℕ, Bool, List, [], ◌∷◌, Item, Facts, Part, Site, IsWritten, call_items, ItemGoes, ItemsGo, Knows, Source}
use Rattle.asm8080.specs.declared.item.Item.TheVariants as items
use Rattle.asm8080.specs.declared.item.Reference.{Reference}
use Rattle.asm8080.specs.declared.item.Reference.TheVariants.{AtLabel, AtNumber, AtTarget}
use Rattle.measure_laws.specs.internal.Footprints.{Ground, TaskIsOf, anywhere, bytes_of_task}
use Rattle.codegen8080.specs.internal.ItemLabels.{ReferenceGoes}
use Rattle.measure_laws.proofs.Footprints.Items.{Measured, part_measured}

reference_anywhere : (reference : Reference) → ReferenceGoes anywhere reference
reference_anywhere (AtLabel label) = tt
reference_anywhere (AtTarget target offset) = tt
reference_anywhere (AtNumber number) = tt

item_anywhere : (item : Item) → ItemGoes anywhere item
item_anywhere (items.WithWord form reference) = reference_anywhere reference
item_anywhere (items.Address reference) = reference_anywhere reference
item_anywhere item = tt

items_anywhere : (list : List Item) → ItemsGo anywhere list
items_anywhere [] = tt
items_anywhere (item ∷ others) = (item_anywhere item, items_anywhere others)

pub knows_anywhere : (site : Site) (called : List Bool) → Knows anywhere site called
knows_anywhere site called =
    record { routines = λ routine has. tt; calls = λ procedure. items_anywhere (call_items site procedure) }

-- a site where labels are not counted
abbrev pub plain_ground : (site : Site) → Source site.tree.now → (level : ℕ) → Ground
plain_ground site source level = record { site = site; source = source; level = level; ok = anywhere }

pub part_written :
    (site : Site) (source : Source site.tree.now) (called : List Bool) (level free : ℕ) {facts last : Facts}
    {part : Part} {list : List Item}
    → IsWritten site called facts part list last
    → TaskIsOf site.tree.now source level anywhere free part.task
    → Measured (plain_ground site source level) free list free (bytes_of_task site.tree.now part.task)
part_written site source called level free written is =
    part_measured site source level anywhere called free (knows_anywhere site called) written
    is (λ label bound. tt)
