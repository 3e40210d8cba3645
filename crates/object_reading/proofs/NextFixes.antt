-- The next fix record after a content, and the next fix of it.
use Rattle.object_reading.proofs.Prelude.{◌≡◌, ℕ, List, [], ◌∷◌, ◌++◌, drop, flat_map, slice_index, Option, Some, None, is_some, IfNone, option_map, option_and_then, unwrap_or, refl, ap, sym, subst, ◌∙◌, word_bytes, kind_of_type, record_end, record_fault, first_body, RecordKind, Fix, FixKind, Segment, Absolute, fixes_of, leading_fixes, Part, HeaderPart, ExternalNamesPart, PublicsPart, ContentPart, ExternalReferencesPart, RelocationPart, IntersegmentPart, ModuleEndPart, EndOfFilePart, kind_of_part, body_of, reference_bytes, fix_kind_number, fix_kind_of, parts_from, segment_again, fix_kind_again, references_again, words_again, AreParts, AreFixEntries, fixes_in, fix_in_front, FixHead, fix_head, fix_where, fixes_after, AreHeadEntries, leading_more, same_Some}
use Rattle.object_reading.proofs.FixEntries.{fixes_then}
use Rattle.object_reading.proofs.NextParts.{next_part, nothing_from}

-- a record is passed: the fixes that it lists are those to be handed out, or no fix follows
pub record FixesPassed (own : Segment) (rest : List ℕ) (kind : RecordKind) : Type 0 where
  pub left :
      leading_fixes own (parts_from rest)
      ≡ fixes_after own (fix_where own kind (first_body rest)) (drop (record_end rest) rest)
  pub entries : AreHeadEntries (fix_where own kind (first_body rest))
  pub after : AreParts (drop (record_end rest) rest)

-- the same, by the head of the record
record HeadIs (own : Segment) (rest : List ℕ) (part : Part) (head : Option FixHead) : Type 0 where
  left : leading_fixes own (part ∷ parts_from (drop (record_end rest) rest))
      ≡ fixes_after own head (drop (record_end rest) rest)
  entries : AreHeadEntries head

head_of :
    (own : Segment) (rest : List ℕ) (part : Part)
    → (head : Option FixHead) × (fix_where own (kind_of_part part) (body_of part) ≡ head)
    × HeadIs own rest part head
head_of own rest (HeaderPart name translator version entries) =
    (None, refl, record { left = refl; entries = tt })
head_of own rest (ExternalNamesPart names) = (None, refl, record { left = refl; entries = tt })
head_of own rest (PublicsPart segment definitions) = (None, refl, record { left = refl; entries = tt })
head_of own rest (ContentPart content) = (None, refl, record { left = refl; entries = tt })
head_of own rest (ExternalReferencesPart kind references) =
    let bytes : List ℕ = flat_map reference_bytes references in (
      Some (fix_head None bytes kind),
      ap (option_map (fix_head None bytes)) (fix_kind_again kind),
      record {
        left =
            leading_more own (ExternalReferencesPart kind references)
            (parts_from (drop (record_end rest) rest)) refl
            ∙ ap (λ o.
            fixes_of Absolute (ExternalReferencesPart kind (unwrap_or o []))
            ++ leading_fixes own (parts_from (drop (record_end rest) rest)))
            (sym (references_again references));
        entries = ap is_some (references_again references);
      },
    )
head_of own rest (RelocationPart kind offsets) =
    let bytes : List ℕ = flat_map word_bytes offsets in (
      Some (fix_head (Some own) bytes kind),
      ap (option_map (fix_head (Some own) bytes)) (fix_kind_again kind),
      record {
        left =
            leading_more own (RelocationPart kind offsets) (parts_from (drop (record_end rest) rest)) refl
            ∙ ap (λ o.
            fixes_of own (RelocationPart kind (unwrap_or o []))
            ++ leading_fixes own (parts_from (drop (record_end rest) rest)))
            (sym (words_again offsets));
        entries = ap is_some (words_again offsets);
      },
    )
head_of own rest (IntersegmentPart target kind offsets) =
    let bytes : List ℕ = flat_map word_bytes offsets in (
      Some (fix_head (Some target) bytes kind),
      ap (option_and_then
          (λ (s : Segment). option_map (fix_head (Some s) bytes) (fix_kind_of (fix_kind_number kind))))
          (segment_again target)
          ∙ ap (option_map (fix_head (Some target) bytes)) (fix_kind_again kind),
      record {
        left =
            leading_more own (IntersegmentPart target kind offsets)
            (parts_from (drop (record_end rest) rest)) refl
            ∙ ap (λ o.
            fixes_of target (RelocationPart kind (unwrap_or o []))
            ++ leading_fixes own (parts_from (drop (record_end rest) rest)))
            (sym (words_again offsets));
        entries = ap is_some (words_again offsets);
      },
    )
head_of own rest (ModuleEndPart start) = (None, refl, record { left = refl; entries = tt })
head_of own rest EndOfFilePart = (None, refl, record { left = refl; entries = tt })

pub fixes_passed :
    (own : Segment) (rest : List ℕ) (kind : RecordKind) → AreParts rest → record_fault rest ≡ None
    → kind_of_type (slice_index rest 0) ≡ Some kind → FixesPassed own rest kind
fixes_passed own rest kind are none known =
    let n = next_part rest are none in
    let same : kind_of_part n.0 ≡ kind = same_Some (kind_of_part n.0) kind (sym (n.1).of_type ∙ known) in
    let h = head_of own rest n.0 in
    let head : fix_where own (kind_of_part n.0) (first_body rest) ≡ h.0 =
    ap (fix_where own (kind_of_part n.0)) (n.1).body_is ∙ h.1 in
    subst (FixesPassed own rest) same
    (record {
      left =
          ap (leading_fixes own) (n.1).parts_are ∙ (h.2).left
          ∙ ap (λ o. fixes_after own o (drop (record_end rest) rest)) (sym head);
      entries = subst AreHeadEntries (sym head) (h.2).entries;
      after = (n.1).after;
    })

-- the same facts one by one, as the code has them
pub fixes_follow :
    (own : Segment) (target : Option Segment) (kind : FixKind)
    (rest body entries after : List ℕ) (of : RecordKind)
    → AreParts rest → record_fault rest ≡ None → kind_of_type (slice_index rest 0) ≡ Some of
    → body ≡ first_body rest
    → ◌≡◌ {A = Option FixHead} (Some (target, kind, entries)) (fix_where own of body)
    → after ≡ drop (record_end rest) rest
    → leading_fixes own (parts_from rest)
    ≡ fixes_in target kind entries ++ leading_fixes own (parts_from after)
fixes_follow own target kind rest body entries after of are none known b e f =
    (fixes_passed own rest of are none known).left
    ∙ ap (λ h. fixes_after own h (drop (record_end rest) rest)) (sym (e ∙ ap (fix_where own of) b))
    ∙ ap (λ l. fixes_in target kind entries ++ leading_fixes own (parts_from l)) (sym f)

pub fix_entries :
    (own : Segment) (target : Option Segment) (kind : FixKind) (rest body entries : List ℕ) (of : RecordKind)
    → AreParts rest → record_fault rest ≡ None → kind_of_type (slice_index rest 0) ≡ Some of
    → body ≡ first_body rest
    → ◌≡◌ {A = Option FixHead} (Some (target, kind, entries)) (fix_where own of body)
    → AreFixEntries target entries
fix_entries own target kind rest body entries of are none known b e =
    subst AreHeadEntries (sym (e ∙ ap (fix_where own of) b)) (fixes_passed own rest of are none known).entries

pub no_fixes_follow :
    (own : Segment) (rest body : List ℕ) (of : RecordKind) → AreParts rest → record_fault rest ≡ None
    → kind_of_type (slice_index rest 0) ≡ Some of → body ≡ first_body rest
    → None ≡ fix_where own of body → leading_fixes own (parts_from rest) ≡ []
no_fixes_follow own rest body of are none known b e =
    (fixes_passed own rest of are none known).left
    ∙ ap (λ h. fixes_after own h (drop (record_end rest) rest)) (sym (e ∙ ap (fix_where own of) b))

pub nothing_follows : (own : Segment) (rest : List ℕ) → rest ≡ [] → leading_fixes own (parts_from rest) ≡ []
nothing_follows own rest e =
    ap (λ b. leading_fixes own (parts_from b)) e ∙ ap (leading_fixes own) nothing_from

-- a fix is handed out, or none is left
pub fix_handed :
    (own : Segment) (target : Option Segment) (kind : FixKind) (entries : List ℕ) (fix : Fix)
    (after rest : List ℕ)
    → AreFixEntries target entries → fix_in_front target kind entries ≡ Some (fix, after)
    → fixes_in target kind entries ++ leading_fixes own (parts_from rest)
    ≡ fix ∷ (fixes_in target kind after ++ leading_fixes own (parts_from rest))
fix_handed own target kind entries fix after rest are e =
    ap (λ l. l ++ leading_fixes own (parts_from rest)) (fixes_then target kind entries fix after are e)

pub on_none : {A : Type 0} (o : Option A) (P : Type 0) → P → IfNone o P
on_none None P p = p
on_none (Some x) P p = tt
