-- Code as it is assembled: labels count from the start of the code, and the words of targets from 0.
use Rattle.std.specs.Prelude.{ℕ, ◌+◌, Bool, List, [], ◌∷◌, ◌++◌, length, replicate, Option, Some, None, is_some, unwrap_or, slice_set}
use Rattle.std.specs.List.{list_all}
use Rattle.object_modules.specs.declared.segment.Fix.{Fix}
use Rattle.asm8080.specs.declared.item.Item.{Item}
use Rattle.asm8080.specs.declared.item.Item.TheVariants.{Plain, WithWord, Byte, Address, Gap, Mark}
use Rattle.asm8080.specs.Items.{Layout, bytes_of_item, flags_of_item, flags_of_items, offset_of, size_of}
use Rattle.asm8080.specs.Assembled.{Assembled, fixes_of_items, target_of, with_fix}

-- labels at these places, and each target at 0
abbrev pub layout_from : (place_of : (label : ℕ) → ℕ) → Layout
layout_from place_of = record { place_of = place_of; address_of = λ target. 0 }

-- the offset of a label of items, from their start
abbrev pub offset_in : List Item → (label : ℕ) → ℕ
offset_in items label = unwrap_or (offset_of label items) 0

-- the bytes of items, one after another
abbrev pub bytes_of_items : Layout → List Item → List ℕ
bytes_of_items layout [] = []
bytes_of_items layout (item ∷ others) = bytes_of_item layout item ++ bytes_of_items layout others

-- the code of items whose labels lie at places
abbrev pub code_of : (places : List (Option ℕ)) → List Item → Assembled
code_of places items = record {
  bytes = bytes_of_items (layout_from (offset_in items)) items;
  is_set = flags_of_items items;
  fixes = fixes_of_items 0 items;
  places = places;
}

-- A table of places, by the numbers of labels: none if a label is not bound.
abbrev pub with_mark : Item → (offset : ℕ) → List (Option ℕ) → List (Option ℕ)
with_mark (Mark label) offset places = slice_set places label (Some offset)
with_mark item offset places = places

-- the table after items from an offset on
abbrev pub places_after : (offset : ℕ) → List Item → List (Option ℕ) → List (Option ℕ)
places_after offset [] places = places
places_after offset (item ∷ others) places =
    places_after (offset + size_of item) others (with_mark item offset places)

abbrev pub places_of : (labels : ℕ) → List Item → List (Option ℕ)
places_of labels items = places_after 0 items (replicate labels None)

abbrev pub all_placed : List (Option ℕ) → Bool
all_placed places = list_all is_some places

-- the fix of an item at an offset, if it has one
abbrev pub fixes_of_item : (offset : ℕ) → Item → List Fix
fixes_of_item offset (Plain instruction) = []
fixes_of_item offset (WithWord form reference) = with_fix (offset + 1) (target_of reference) []
fixes_of_item offset (Byte value) = []
fixes_of_item offset (Address reference) = with_fix offset (target_of reference) []
fixes_of_item offset (Gap count) = []
fixes_of_item offset (Mark label) = []

-- code with one more item
abbrev pub with_item : Layout → Assembled → Item → Assembled
with_item layout code item = record code {
  bytes = code.bytes ++ bytes_of_item layout item;
  is_set = code.is_set ++ flags_of_item item;
  fixes = code.fixes ++ fixes_of_item (length code.bytes) item;
}

-- code with more items, one after another
abbrev pub with_items : Layout → Assembled → List Item → Assembled
with_items layout code [] = code
with_items layout code (item ∷ others) = with_items layout (with_item layout code item) others

abbrev pub no_code : Assembled
no_code = record { bytes = []; is_set = []; fixes = []; places = [] }

-- code with its labels where a table has them
abbrev pub with_places : List (Option ℕ) → Assembled → Assembled
with_places places code = record code { places = places }
