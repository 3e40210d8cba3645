-- Variables of the data segment have no byte in common, wherever the segment lies.
use Rattle.program_laws.proofs.Prelude.{◌≡◌, ◌≢◌, ℕ, zero, suc, ◌+◌, ◌<◌, ◌≤◌, ◌⊎◌, inl, inr, List, [], ◌∷◌, take, slice_get, Some, refl, ap, sym, ◌∙◌, arith, sum_by-cons, none-some, same_Some, InSegment, size_of_object, TypedHome, InData, TypedModule, TypedObject, Data, After, SegmentStart, location_by_home, locations_after, Storage, bytes_in_data, data_bytes, location_is, wrap, ExternalName, Home, Static, Place, static_place, externals_of, homes_of, home_at, location_of_place, IsLaidOut, object_lies, data_offset, place_at, ModuleCode, VariablesAreApart}
use Rattle.object_modules.specs.declared.segment.Segment.TheVariants as segments
use Rattle.treecode.specs.declared.place.Place.TheVariants as places

-- the bytes of an object in the data segment are before those of each object after it
before : (objects : List TypedObject) (one other : ℕ) (found : TypedObject)
    → one < other
    → slice_get objects one ≡ Some found
    → data_bytes (take one objects) + bytes_in_data found.home found ≤ data_bytes (take other objects)
before [] one other found less there = absurd (none-some found there)
before (first ∷ others) zero zero found less there = absurd (omega (arith, less))
before (first ∷ others) zero (suc other) found less there =
    let is = ap (λ (object : TypedObject). bytes_in_data object.home object) (same_Some first found there) in
    let more =
    sum_by-cons (λ (object : TypedObject). bytes_in_data object.home object) first (take other others) in
    omega (arith, is, more)
before (first ∷ others) (suc one) zero found less there = absurd (omega (arith, less))
before (first ∷ others) (suc one) (suc other) found less there =
    let rest = before others one other found (omega (arith, less)) there in
    let few =
    sum_by-cons (λ (object : TypedObject). bytes_in_data object.home object) first (take one others) in
    let more =
    sum_by-cons (λ (object : TypedObject). bytes_in_data object.home object) first (take other others) in
    omega (arith, rest, few, more)

data_place : (names : List ExternalName) (place : Place) (offset : ℕ)
    → location_of_place names place ≡ After (SegmentStart Data) offset
    → place ≡ places.Data offset
data_place names (places.Number number) offset same = absurd (cc)
data_place names (places.Code other) offset same = absurd (cc)
data_place names (places.Data other) offset same =
    let is : other ≡ offset = cc in
    ap (λ (number : ℕ). places.Data number) is
data_place names (places.External other index) offset same = absurd (cc)

-- a variable of the data segment is after those before it
in_data : (typed : TypedModule) (storage : Storage) (homes : List Home) (number : ℕ) (object : TypedObject)
    (place : Place)
    → IsLaidOut typed storage
    → homes ≡ homes_of typed storage
    → slice_get typed.objects number ≡ Some object
    → object.home ≡ InData []
    → home_at homes number ≡ Static place
    → place ≡ places.Data (data_bytes (take number typed.objects))
in_data typed storage homes number object place laid same found kind static =
    data_place (externals_of typed) place (data_bytes (take number typed.objects))
    (ap (λ (home : Home). location_of_place (externals_of typed) (static_place home))
    (sym static ∙ ap (λ (homes : List Home). home_at homes number) same)
    ∙ (object_lies typed storage number object laid found).lies
    ∙ location_is typed number object laid.storable found
    ∙ ap (λ (home : TypedHome).
    location_by_home typed (locations_after typed [] typed.objects) number object home) kind)

-- so the addresses of bytes of two of them differ
bytes_differ : (base first size offset second length distance : ℕ)
    → offset < size
    → first + size ≤ second
    → distance < length
    → second + length ≤ 65535
    → wrap (wrap (first + base) + offset) ≡ wrap (wrap (second + base) + distance)
    → ⊥
bytes_differ base first size offset second length distance within beyond inside fits same =
    omega (arith, within, beyond, inside, fits, same)

order : (one other : ℕ) → one ≢ other → (one < other) ⊎ (other < one)
order zero zero differ = absurd (differ refl)
order zero (suc other) differ = inl (omega arith)
order (suc one) zero differ = inr (omega arith)
order (suc one) (suc other) differ =
    elim (order one other (λ same. differ (ap suc same))) [
      | inl less ↦ inl (omega (arith, less))
      | inr more ↦ inr (omega (arith, more))
    ]

module _ (code : ModuleCode) (laid : IsLaidOut code.typed code.storage)
    (homes_are : code.tree.now.homes.items ≡ homes_of code.typed code.storage) where
  -- an object before another
  ordered : (one other : ℕ) (first second : TypedObject) (left right : Place) (offset distance : ℕ)
      → one < other
      → slice_get code.typed.objects one ≡ Some first
      → slice_get code.typed.objects other ≡ Some second
      → first.home ≡ InData []
      → second.home ≡ InData []
      → home_at code.tree.now.homes.items one ≡ Static left
      → home_at code.tree.now.homes.items other ≡ Static right
      → offset < size_of_object first
      → distance < size_of_object second
      → wrap (place_at code.layout left + offset) ≡ wrap (place_at code.layout right + distance)
      → ⊥
  ordered one other first second left right offset distance less first_is second_is first_home second_home
      left_is right_is within inside same =
      bytes_differ (code.layout.address_of (InSegment segments.Data))
      (data_bytes (take one code.typed.objects))
      (size_of_object first) offset (data_bytes (take other code.typed.objects))
      (size_of_object second) distance within
      (omega (arith, beyond, first_size)) inside (omega (arith, last, second_size, fits))
      (ap (λ (place : Place). wrap (place_at code.layout place + offset)) (sym left_place)
      ∙ same ∙ ap (λ (place : Place). wrap (place_at code.layout place + distance)) right_place)
    where
      left_place : left ≡ places.Data (data_bytes (take one code.typed.objects))
      left_place =
          in_data code.typed code.storage code.tree.now.homes.items one first left laid
          homes_are first_is first_home
          left_is

      right_place : right ≡ places.Data (data_bytes (take other code.typed.objects))
      right_place =
          in_data code.typed code.storage code.tree.now.homes.items other second right
          laid homes_are second_is
          second_home right_is

      first_size : bytes_in_data first.home first ≡ size_of_object first
      first_size = ap (λ (home : TypedHome). bytes_in_data home first) first_home

      second_size : bytes_in_data second.home second ≡ size_of_object second
      second_size = ap (λ (home : TypedHome). bytes_in_data home second) second_home

      beyond : data_bytes (take one code.typed.objects) + bytes_in_data first.home first
          ≤ data_bytes (take other code.typed.objects)
      beyond = before code.typed.objects one other first less first_is

      last : data_bytes (take other code.typed.objects) + bytes_in_data second.home second
          ≤ data_bytes (take (suc other) code.typed.objects)
      last = before code.typed.objects other (suc other) second (omega arith) second_is

      fits : data_bytes (take (suc other) code.typed.objects) ≤ 65535
      fits = data_offset code.typed code.storage (suc other) laid.stored

  pub variables_apart : VariablesAreApart code
  variables_apart one other first second left right offset distance differ first_is second_is first_home
      second_home left_is right_is within inside same =
      elim (order one other differ) [
        | inl less ↦
            ordered one other first second left right offset distance less first_is second_is
            first_home second_home
            left_is right_is within inside same
        | inr more ↦
            ordered other one second first right left distance offset more second_is first_is
            second_home first_home
            right_is left_is inside within (sym same)
      ]
