-- Places and contents of tree code, as locations and bytes of a module that is not placed in memory yet.
use Rattle.std.specs.Prelude.{ℕ, ◌<◌, List, [], ◌∷◌, flat_map, replicate, None, slice_get}
use Rattle.std.specs.List.{AllByRecursion}
use Rattle.std.specs.Option.{option_map_or}
use Rattle.typed_trees.specs.TypedTrees.{Home, BasedOn, Elsewhere, InFrame}
use Rattle.layout.specs.declared.slot.Segment.TheVariants as segments
use Rattle.layout.specs.Segments.{Location, SegmentStart, ExternalName, Absolute, After, Places, places_of_bytes, places_of_location}
use Rattle.treecode.specs.declared.module.Content.{Content}
use Rattle.treecode.specs.declared.module.Content.TheVariants.{Byte, Word, Gap}
use Rattle.treecode.specs.declared.module.ExternalName.{ExternalName as External}
use Rattle.treecode.specs.declared.place.Place.{Place}
use Rattle.treecode.specs.declared.place.Place.TheVariants as places

-- the EXTERNAL name at an index; an empty one if there is none
abbrev pub name_at : List External → (index : ℕ) → List ℕ
name_at names index = option_map_or (λ (external : External). external.name) (slice_get names index) []

-- the location of a place, in a module with these EXTERNAL names
abbrev pub location_of_place : List External → Place → Location
location_of_place names (places.Number number) = Absolute number
location_of_place names (places.Code offset) = After (SegmentStart segments.Code) offset
location_of_place names (places.Data offset) = After (SegmentStart segments.Data) offset
location_of_place names (places.External offset index) = After (ExternalName (name_at names index)) offset

-- the bytes of contents
abbrev pub places_of_content : List External → Content → Places
places_of_content names (Byte byte) = places_of_bytes (byte ∷ [])
places_of_content names (Word place) = places_of_location (location_of_place names place)
places_of_content names (Gap count) = replicate count None

-- the bytes of contents, one after another
abbrev pub places_of_contents : List External → List Content → Places
places_of_contents names contents = flat_map (places_of_content names) contents

-- an object with a place that is known before the run: it is neither BASED nor in a frame
abbrev pub IsStatic : Home → Type 0
IsStatic (BasedOn base) = ⊥
IsStatic (InFrame procedure) = ⊥
IsStatic home = Unit {0}

-- an object of this module
abbrev pub IsHere : Home → Type 0
IsHere Elsewhere = ⊥
IsHere home = Unit {0}

-- a number among contents is a word
abbrev pub KeepsWord : Content → Type 0
KeepsWord (Word (places.Number number)) = number < 65536
KeepsWord content = Unit {0}

-- the same for each of the contents
abbrev pub KeepWords : List Content → Type 0
KeepWords list = AllByRecursion KeepsWord list
