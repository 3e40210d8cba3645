-- Names, public names and headers, entry by entry.
use Rattle.object_writing.proofs.Prelude.{◌≡◌, ℕ, ◌-◌, ◌≤◌, ◌&&◌, IsTrue, nat_le, List, [], ◌∷◌, ◌++◌, length, map, flat_map, filter_map, Option, Some, None, refl, ap, sym, ◌∙◌, arith, list_all, cons_option, append_assoc, is_ascii_uppercase, and_parts, leb-true, Segment, Public, SegmentEntry, ExternalNamesPart, PublicsPart, segment_entry_bytes, segment_number, listed_name_bytes, definition_bytes, part_bytes, same_segment, packed, external_parts, public_parts, publics_in_segment, definition_of, BODY_LIMIT, bytes_of, OwnedPublic, owned_public_view, CodeEntry, listed_entry, bytes_of_entry, listed_bytes, header_text, empty_group, records_of, name_entry, public_entry, owned_entry}
use Rattle.symbols.specs.Names.{is_name, is_name_character}
use Rattle.omf80.specs.declared.kind.RecordKind.TheVariants as kinds
use Rattle.object_writing.proofs.Grouping.{grouped, records_of_filtered, flat_map_of_map, map_of_map}

-- a name has at most 31 characters
pub name_short : (name : List ℕ) → IsTrue (is_name name) → length name ≤ 31
name_short [] h = omega arith
name_short (first ∷ rest) h =
    let t = and_parts (is_ascii_uppercase first && list_all is_name_character rest)
    (nat_le (length rest) 30) h in
    let few : length rest ≤ 30 = leb-true (length rest) 30 t.1 in
    omega (arith, few)

pub names_are :
    (names : List (List ℕ))
    → records_of (empty_group kinds.ExternalNames []) (map name_entry names)
    ≡ flat_map part_bytes (external_parts names)
names_are names =
    sym
    (flat_map_of_map part_bytes ExternalNamesPart
    (packed (λ name. length (listed_name_bytes name)) BODY_LIMIT names)
    ∙ grouped kinds.ExternalNames [] listed_name_bytes (λ name. omega arith) names)

pub publics_are :
    (segment : Segment) (publics : List Public)
    → records_of (empty_group kinds.Publics (segment_number segment ∷ []))
    (map (public_entry segment) publics)
    ≡ flat_map part_bytes (public_parts publics segment)
publics_are segment publics =
    records_of_filtered definition_bytes definition_of
    (λ (public : Public). same_segment public.segment segment)
    (empty_group kinds.Publics (segment_number segment ∷ [])) publics
    ∙ sym
    (flat_map_of_map part_bytes (PublicsPart segment)
    (packed (λ definition. length (definition_bytes definition)) (BODY_LIMIT - 1)
    (map definition_of (publics_in_segment segment publics)))
    ∙ grouped kinds.Publics (segment_number segment ∷ []) definition_bytes (λ definition. omega arith)
    (map definition_of (publics_in_segment segment publics)))

pub owned_are :
    (segment : Segment) (publics : List OwnedPublic)
    → records_of (empty_group kinds.Publics (segment_number segment ∷ [])) (map (owned_entry segment) publics)
    ≡ flat_map part_bytes (public_parts (map owned_public_view publics) segment)
owned_are segment publics =
    ap (records_of (empty_group kinds.Publics (segment_number segment ∷ [])))
    (sym (map_of_map (public_entry segment) owned_public_view publics))
    ∙ publics_are segment (map owned_public_view publics)

-- the bytes of the entries that a header lists
entries_are :
    (entries : List CodeEntry)
    → flat_map listed_bytes entries ≡ flat_map segment_entry_bytes (filter_map listed_entry entries)
entries_are [] = refl
entries_are (entry ∷ entries) = go (listed_entry entry) (entries_are entries)
  where
    go : (o : Option SegmentEntry)
        → flat_map listed_bytes entries ≡ flat_map segment_entry_bytes (filter_map listed_entry entries)
        → bytes_of_entry o ++ flat_map listed_bytes entries
        ≡ flat_map segment_entry_bytes (cons_option o (filter_map listed_entry entries))
    go None later = later
    go (Some listed) later = ap (λ r. segment_entry_bytes listed ++ r) later

pub header_is :
    (name body : List ℕ) (entries : List CodeEntry)
    → body ≡ (((length name ∷ []) ++ name) ++ 0 ∷ 0 ∷ []) ++ flat_map listed_bytes entries
    → bytes_of (record { kind = kinds.Header; body = body }) ≡ header_text name entries
header_is name body entries is =
    ap (λ b. bytes_of (record { kind = kinds.Header; body = b }))
    (is ∙ ap (λ r. length name ∷ ((name ++ 0 ∷ 0 ∷ []) ++ r)) (entries_are entries)
    ∙ ap (λ r. length name ∷ r)
    (append_assoc name (0 ∷ 0 ∷ []) (flat_map segment_entry_bytes (filter_map listed_entry entries))))
