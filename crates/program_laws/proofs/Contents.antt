-- Contents of tree code, as items of a segment, are the bytes that they are before the module has its place.
use Rattle.program_laws.proofs.Prelude.{◌≡◌, ℕ, zero, suc, ◌+◌, ◌%◌, ◌/◌, ◌<◌, List, [], ◌∷◌, ◌++◌, map, replicate, Option, Some, None, option_map, refl, sym, ap, subst, ◌∙◌, arith, AllByRecursion, option_map_or, none-some, same_Some, Target, InSegment, External, ObjectModule, SetByte, Places, Named, Item, AtTarget, layout_at, Assembly, row_of, set_of_items, Content, ExternalName, Place, Extends, entry, high, low, Written, in_front, numbered, AreTargets, IsNamed, contents_items, KeepWords, name_at, places_of_contents, BeginWith, IsTarget, word_of_high}
use Rattle.object_modules.specs.declared.segment.Segment.TheVariants as object_segments
use Rattle.asm8080.specs.declared.item.Item.TheVariants as items
use Rattle.treecode.specs.declared.module.Content.TheVariants as contents
use Rattle.treecode.specs.declared.place.Place.TheVariants as places
use Rattle.program_laws.proofs.Cells.{HasByte, at_zero}
use Rattle.program_laws.proofs.Placed.{place_to}

-- what is counted from a segment or a name is a word
abbrev pub IsWordPlace : Place → Type 0
IsWordPlace (places.Number number) = Unit {0}
IsWordPlace (places.Code offset) = offset < 65536
IsWordPlace (places.Data offset) = offset < 65536
IsWordPlace (places.External offset name) = offset < 65536

abbrev pub IsWordContent : Content → Type 0
IsWordContent (contents.Byte value) = Unit {0}
IsWordContent (contents.Word place) = IsWordPlace place
IsWordContent (contents.Gap count) = Unit {0}

-- what holds of each list that begins with an item holds of what was made of it
pub in_front_of :
    (item : Item) (others : Option (List Item)) (made : List Item) (P : List Item → Type 0)
    → in_front (Some item) others ≡ Some made
    → ((rest : List Item) → others ≡ Some rest → P (item ∷ rest))
    → P made
in_front_of item (Some rest) made P same holds = subst P (same_Some (item ∷ rest) made same) (holds rest refl)
in_front_of item None made P same holds = absurd (none-some made same)

low_of : (offset : ℕ) → offset < 65536 → (offset + 0) % 65536 % 256 ≡ offset % 256
low_of offset small = omega (arith, small)

high_of : (offset : ℕ) → offset < 65536 → (offset + 0) % 65536 / 256 ≡ offset / 256
high_of offset small = omega (arith, small)

module _
    (object : ObjectModule) (written : Written) (assembly : Assembly) (names : List ExternalName)
    (numbers : List (Option ℕ)) (to : Target → Target) (tail more : List Item)
    (targets : AreTargets names numbers object.externals to)
    (grown : Extends written.externals numbers) where
  -- the places of items, with others after them
  abbrev placed : List Item → List (Option SetByte)
  placed made = map (place_to to) (set_of_items (layout_at at_zero assembly) (made ++ more))

  -- the items of contents, and others after them
  abbrev items_from : List Content → List Item
  items_from list = contents_items list ++ tail

  gap_begins :
      (count : ℕ) (bytes : Places) (others : List (Option SetByte))
      → BeginWith object bytes (map (place_to to) others)
      → BeginWith object (replicate count None ++ bytes)
      (map (place_to to) (row_of (replicate count None) ++ others))
  gap_begins zero bytes others begins = begins
  gap_begins (suc count) bytes others begins = (tt, gap_begins count bytes others begins)

  -- the target of a name
  name_target :
      (index number : ℕ)
      → IsNamed names object.externals to index number
      → IsTarget object (Named (name_at names index)) (to (External number))
  name_target index number named =
      subst (IsTarget object (Named (name_at names index))) (sym named.target)
      (named.found
      ∙ ap (λ (found : Option ExternalName). Some
      (option_map_or (λ (external : ExternalName). external.name) found []))
      (sym named.name))

  -- Each content is as it was.
  pub contents_begin :
      (list : List Content) (made : List Item)
      → AllByRecursion IsWordContent list
      → numbered written (items_from list) ≡ Some made
      → BeginWith object (places_of_contents names list) (placed made)
  contents_begin [] made words same = tt
  contents_begin (contents.Byte value ∷ others) made words same =
      in_front_of (items.Byte value) (numbered written (items_from others)) made
      (λ made. BeginWith object (places_of_contents names (contents.Byte value ∷ others)) (placed made)) same
      (λ rest is. ((refl, tt), contents_begin others rest words.1 is))
  contents_begin (contents.Gap count ∷ others) made words same =
      in_front_of (items.Gap count) (numbered written (items_from others)) made
      (λ made. BeginWith object (places_of_contents names (contents.Gap count ∷ others)) (placed made)) same
      (λ rest is.
      gap_begins count (places_of_contents names others)
      (set_of_items (layout_at at_zero assembly) (rest ++ more)) (contents_begin others rest words.1 is))
  contents_begin (contents.Word (places.Number number) ∷ others) made words same =
      in_front_of (items.Byte (low number))
      (in_front (Some (items.Byte (high number))) (numbered written (items_from others))) made
      (λ made. BeginWith object (places_of_contents names (contents.Word (places.Number number) ∷ others))
      (placed made))
      same
      (λ rest is.
      in_front_of (items.Byte (high number)) (numbered written (items_from others)) rest
      (λ rest.
      BeginWith object (places_of_contents names (contents.Word (places.Number number) ∷ others))
      (placed (items.Byte (low number) ∷ rest))) is
      (λ last are. ((refl, tt), ((refl, tt), contents_begin others last words.1 are))))
  contents_begin (contents.Word (places.Code offset) ∷ others) made words same =
      in_front_of (items.Address (AtTarget (InSegment object_segments.Code) offset))
      (numbered written (items_from others)) made
      (λ made. BeginWith object (places_of_contents names (contents.Word (places.Code offset) ∷ others))
      (placed made))
      same
      (λ rest is. (
        (low_of offset words.0, (refl, targets.starts object_segments.Code refl)),
        ((high_of offset words.0, tt), contents_begin others rest words.1 is),
      ))
  contents_begin (contents.Word (places.Data offset) ∷ others) made words same =
      in_front_of (items.Address (AtTarget (InSegment object_segments.Data) offset))
      (numbered written (items_from others)) made
      (λ made. BeginWith object (places_of_contents names (contents.Word (places.Data offset) ∷ others))
      (placed made))
      same
      (λ rest is. (
        (low_of offset words.0, (refl, targets.starts object_segments.Data refl)),
        ((high_of offset words.0, tt), contents_begin others rest words.1 is),
      ))
  contents_begin (contents.Word (places.External offset index) ∷ others) made words same =
      by (entry written.externals index) refl same (λ rest is. contents_begin others rest words.1 is)
    where
      by : (number : Option ℕ)
          → entry written.externals index ≡ number
          → in_front
          (option_map items.Address (option_map (λ number. AtTarget (External number) offset) number))
          (numbered written (items_from others))
          ≡ Some made
          → ((rest : List Item)
          → numbered written (items_from others) ≡ Some rest
          → BeginWith object (places_of_contents names others) (placed rest))
          → BeginWith object
          (places_of_contents names (contents.Word (places.External offset index) ∷ others))
          (placed made)
      by None found is later = absurd (none-some made is)
      by (Some number) found is later =
          in_front_of (items.Address (AtTarget (External number) offset))
          (numbered written (items_from others)) made
          (λ made.
          BeginWith object (places_of_contents names (contents.Word (places.External offset index) ∷ others))
          (placed made)) is
          (λ rest are. (
            (
              low_of offset words.0,
              (refl, name_target index number (targets.names index number (grown index number found))),
            ),
            ((high_of offset words.0, tt), later rest are),
          ))

  -- the bytes after a gap
  gap_bytes :
      (count : ℕ) (others : List (Option SetByte))
      → AllByRecursion HasByte (map (place_to to) (row_of (replicate count None) ++ others))
      → AllByRecursion HasByte (map (place_to to) others)
  gap_bytes zero others all = all
  gap_bytes (suc count) others all = gap_bytes count others all.1

  -- What is made of contents has no number above that of a word.
  pub contents_keep :
      (list : List Content) (made : List Item)
      → numbered written (items_from list) ≡ Some made
      → AllByRecursion HasByte (placed made)
      → KeepWords list
  contents_keep [] made same all = tt
  contents_keep (contents.Byte value ∷ others) made same all =
      in_front_of (items.Byte value) (numbered written (items_from others)) made
      (λ made. AllByRecursion HasByte (placed made) → KeepWords (contents.Byte value ∷ others)) same
      (λ rest is all. (tt, contents_keep others rest is all.1)) all
  contents_keep (contents.Gap count ∷ others) made same all =
      in_front_of (items.Gap count) (numbered written (items_from others)) made
      (λ made. AllByRecursion HasByte (placed made) → KeepWords (contents.Gap count ∷ others)) same
      (λ rest is all. (
        tt,
        contents_keep others rest is
            (gap_bytes count (set_of_items (layout_at at_zero assembly) (rest ++ more)) all),
      )) all
  contents_keep (contents.Word (places.Number number) ∷ others) made same all =
      in_front_of (items.Byte (low number))
      (in_front (Some (items.Byte (high number))) (numbered written (items_from others))) made
      (λ made. AllByRecursion HasByte (placed made)
      → KeepWords (contents.Word (places.Number number) ∷ others)) same
      (λ rest is.
      in_front_of (items.Byte (high number)) (numbered written (items_from others)) rest
      (λ rest.
      AllByRecursion HasByte (placed (items.Byte (low number) ∷ rest))
      → KeepWords (contents.Word (places.Number number) ∷ others)) is
      (λ last are all. (word_of_high number all.1.0, contents_keep others last are all.1.1))) all
  contents_keep (contents.Word (places.Code offset) ∷ others) made same all =
      in_front_of (items.Address (AtTarget (InSegment object_segments.Code) offset))
      (numbered written (items_from others)) made
      (λ made. AllByRecursion HasByte (placed made) → KeepWords (contents.Word (places.Code offset) ∷ others))
      same
      (λ rest is all. (tt, contents_keep others rest is all.1.1)) all
  contents_keep (contents.Word (places.Data offset) ∷ others) made same all =
      in_front_of (items.Address (AtTarget (InSegment object_segments.Data) offset))
      (numbered written (items_from others)) made
      (λ made. AllByRecursion HasByte (placed made) → KeepWords (contents.Word (places.Data offset) ∷ others))
      same
      (λ rest is all. (tt, contents_keep others rest is all.1.1)) all
  contents_keep (contents.Word (places.External offset index) ∷ others) made same all =
      by (entry written.externals index) same (λ rest is all. contents_keep others rest is all)
    where
      by : (number : Option ℕ)
          → in_front
          (option_map items.Address (option_map (λ number. AtTarget (External number) offset) number))
          (numbered written (items_from others))
          ≡ Some made
          → ((rest : List Item)
          → numbered written (items_from others) ≡ Some rest
          → AllByRecursion HasByte (placed rest)
          → KeepWords others)
          → KeepWords (contents.Word (places.External offset index) ∷ others)
      by None is later = absurd (none-some made is)
      by (Some number) is later =
          in_front_of (items.Address (AtTarget (External number) offset))
          (numbered written (items_from others)) made
          (λ made.
          AllByRecursion HasByte (placed made)
          → KeepWords (contents.Word (places.External offset index) ∷ others)) is
          (λ rest are all. (tt, later rest are all.1.1)) all
