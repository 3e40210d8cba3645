-- The body of a part is read as that part.
use Rattle.object_laws.proofs.Prelude.{◌≡◌, ℕ, ◌+◌, ◌*◌, ◌/◌, ◌%◌, List, ◌∷◌, flat_map, Some, None, option_map, option_and_then, refl, ap, ◌∙◌, word_bytes, Segment, FixKind, Part, HeaderPart, ExternalNamesPart, PublicsPart, ContentPart, ExternalReferencesPart, RelocationPart, IntersegmentPart, ModuleEndPart, EndOfFilePart, kind_of_part, body_of, listed_name_bytes, segment_entry_bytes, definition_bytes, reference_bytes, fix_kind_number, fix_kind_of, listed_name_in_front, definition_in_front, words_in, references_in, all_in, header_after_name, part_in}
use Rattle.object_laws.proofs.Files.FrontsAgain.{segment_again, fix_kind_again, word_of, name_again, listed_name_again, definition_again, words_again, references_again, segment_entries_again, all_again}

pub part_again : (part : Part) → part_in (kind_of_part part) (body_of part) ≡ Some part
unfolding part_in
part_again (HeaderPart name translator version entries) =
    ap (option_and_then (λ (named : List ℕ × List ℕ). header_after_name named.0 named.1))
    (name_again name (translator ∷ version ∷ flat_map segment_entry_bytes entries))
    ∙ ap (option_map (HeaderPart name translator version))
    (segment_entries_again entries)
part_again (ExternalNamesPart names) =
    ap (option_map ExternalNamesPart)
    (all_again listed_name_bytes listed_name_in_front listed_name_again names)
part_again (PublicsPart segment definitions) =
    ap (option_and_then
    (λ (s : Segment). option_map (PublicsPart s)
    (all_in definition_in_front (flat_map definition_bytes definitions))))
    (segment_again segment)
    ∙ ap (option_map (PublicsPart segment))
    (all_again definition_bytes definition_in_front definition_again definitions)
part_again (ContentPart content) =
    ap (option_map
    (λ (s : Segment).
    ContentPart (record {
      segment = s;
      offset = content.offset % 256 + 256 * (content.offset / 256);
      bytes = content.bytes;
    }))) (segment_again content.segment)
    ∙ ap (λ n. Some (ContentPart (record { segment = content.segment; offset = n; bytes = content.bytes })))
    (word_of content.offset)
part_again (ExternalReferencesPart kind references) =
    ap (option_and_then
    (λ (k : FixKind).
    option_map (ExternalReferencesPart k) (references_in (flat_map reference_bytes references))))
    (fix_kind_again kind)
    ∙ ap (option_map (ExternalReferencesPart kind))
    (references_again references)
part_again (RelocationPart kind offsets) =
    ap (option_and_then
    (λ (k : FixKind). option_map (RelocationPart k) (words_in (flat_map word_bytes offsets))))
    (fix_kind_again kind)
    ∙ ap (option_map (RelocationPart kind)) (words_again offsets)
part_again (IntersegmentPart target kind offsets) =
    ap (option_and_then
    (λ (s : Segment).
    option_and_then
    (λ (k : FixKind). option_map (IntersegmentPart s k) (words_in (flat_map word_bytes offsets)))
    (fix_kind_of (fix_kind_number kind))))
    (segment_again target)
    ∙ ap (option_and_then
    (λ (k : FixKind). option_map (IntersegmentPart target k) (words_in (flat_map word_bytes offsets))))
    (fix_kind_again kind)
    ∙ ap (option_map (IntersegmentPart target kind)) (words_again offsets)
part_again (ModuleEndPart None) = refl
part_again (ModuleEndPart (Some offset)) = ap (λ n. Some (ModuleEndPart (Some n))) (word_of offset)
part_again EndOfFilePart = refl
