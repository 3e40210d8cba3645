-- The parts of a merge: what they are made of, and that they are its parts.
use Rattle.object_laws.proofs.Prelude.{◌≡◌, ℕ, List, [], map, sum_by, slice_get, All, None, option_map, Ok, ap, sym, subst, ◌∙◌, option_map_or, ModuleParts, Code, Data, linked_modules, all_publics, joined_after, code_piece, data_piece, joined_alignment, main_modules, joined, unless_refused, link_refusal, merge_of, Places, ObjectModule, IsObjectModule, IsStored, places_stored, AreKept, module_of_parts, owned_public_view}
use Rattle.object_laws.proofs.Merges.MergeValid.{places_are, merge_is_object}
use Rattle.object_laws.proofs.Merges.PlacesKept.{stored_of, kept_places, kept_stored}

-- the segments of a merge
abbrev pub merged_code : List ObjectModule → Places
merged_code objects = record {
  alignment = joined_alignment (map (λ (object : ObjectModule). object.code) objects);
  places = joined_after 0 (map (code_piece (all_publics (linked_modules objects))) (linked_modules objects));
}

abbrev pub merged_data : List ObjectModule → Places
merged_data objects = record {
  alignment = joined_alignment (map (λ (object : ObjectModule). object.data_places) objects);
  places = joined_after 0 (map (data_piece (all_publics (linked_modules objects))) (linked_modules objects));
}

-- parts that are made of modules
pub record AreMerged (objects : List ObjectModule) (parts : ModuleParts) : Type 0 where
  pub name :
      parts.name
      ≡ option_map_or (λ (main : List ℕ × ℕ). main.0) (slice_get (main_modules (linked_modules objects)) 0) []
  pub code : parts.code ≡ stored_of (merged_code objects).alignment (merged_code objects).places
  pub data_bytes : parts.data_bytes ≡ stored_of (merged_data objects).alignment (merged_data objects).places
  pub stack_length : parts.stack_length ≡ sum_by (λ (object : ObjectModule). object.stack_length) objects
  pub publics : map owned_public_view parts.publics.items ≡ all_publics (linked_modules objects)
  pub externals : parts.externals.items ≡ []
  pub start :
      parts.start
      ≡ option_map (λ (main : List ℕ × ℕ). main.1) (slice_get (main_modules (linked_modules objects)) 0)

-- they are the parts of the merge
pub module_merged :
    (objects : List ObjectModule) (parts : ModuleParts) → AreMerged objects parts
    → module_of_parts parts ≡ joined objects (linked_modules objects)
module_merged objects parts made =
    let code : places_stored Code parts.code ≡ merged_code objects =
    ap (places_stored Code) made.code ∙ kept_places Code (merged_code objects).alignment
    (merged_code objects).places in
    let data_places : places_stored Data parts.data_bytes ≡ merged_data objects =
    ap (places_stored Data) made.data_bytes
    ∙ kept_places Data (merged_data objects).alignment (merged_data objects).places in
    λ i. record {
      name = made.name i;
      code = code i;
      data_places = data_places i;
      stack_length = made.stack_length i;
      publics = made.publics i;
      externals = made.externals i;
      start = made.start i;
    }

pub parts_merged :
    (objects : List ObjectModule) (parts : ModuleParts) → link_refusal objects ≡ None
    → AreMerged objects parts
    → merge_of objects ≡ Ok (module_of_parts parts)
unfolding merge_of
parts_merged objects parts allowed made =
    ap (unless_refused (joined objects (linked_modules objects))) allowed
    ∙ ap Ok (sym (module_merged objects parts made))

-- and they keep to what parts of a module keep to
pub merged_kept :
    (objects : List ObjectModule) (parts : ModuleParts) → All IsObjectModule objects
    → link_refusal objects ≡ None
    → AreMerged objects parts → AreKept parts
merged_kept objects parts all allowed made =
    let object : IsObjectModule (module_of_parts parts) =
    merge_is_object objects (module_of_parts parts) all (parts_merged objects parts allowed made) in
    let whole : IsObjectModule (joined objects (linked_modules objects)) =
    subst IsObjectModule (module_merged objects parts made) object in
    record {
      code =
          subst (IsStored Code) (sym made.code)
          (kept_stored Code (merged_code objects).alignment (merged_code objects).places
          (places_are 0 (merged_code objects) whole.code).whole);
      data_places =
          subst (IsStored Data) (sym made.data_bytes)
          (kept_stored Data (merged_data objects).alignment (merged_data objects).places
          (places_are 0 (merged_data objects) whole.data_places).whole);
      object = object;
    }
