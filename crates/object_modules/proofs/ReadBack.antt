-- A part that is read of a body spells that body.
use Rattle.object_modules.proofs.Prelude.{◌≡◌, ℕ, ◌+◌, ◌*◌, ◌<◌, Bool, true, false, cond, ◌==◌, ◌&&◌, List, [], ◌∷◌, ◌++◌, Some, None, refl, ap, sym, subst, ◌∙◌, arith, eqb-true, none-some, same_Some, option_and_then_some, RecordKind, IsBytes, word_is, Part, HeaderPart, ExternalNamesPart, PublicsPart, ContentPart, ExternalReferencesPart, RelocationPart, IntersegmentPart, ModuleEndPart, EndOfFilePart, kind_of_part, body_of, segment_number, fix_kind_number, name_bytes, listed_name_bytes, definition_bytes, and_parts, option_map_some}
use Rattle.omf80.specs.declared.kind.RecordKind.TheVariants as kinds
use Rattle.object_modules.specs.Reading.{segment_of, fix_kind_of, name_in_front, listed_name_in_front, definition_in_front, words_in, references_in, segment_entries_in, all_in, header_after_name, module_end_by, part_in}
use Rattle.object_modules.proofs.Fronts.{segment_is, fix_kind_is, name_back, listed_name_back, definition_back, words_back, references_back, segment_entries_back, all_back}

-- a part is one of a kind and spells a body
abbrev pub IsPartOf : RecordKind → List ℕ → Part → Type 0
IsPartOf kind body part = (kind_of_part part ≡ kind) × (body ≡ body_of part)

part_is : (kind : RecordKind) (body : List ℕ) (made part : Part) → made ≡ part → IsPartOf kind body made
    → IsPartOf kind body part
part_is kind body made part is made_is = subst (λ p. IsPartOf kind body p) is made_is

header_back :
    (front name bytes : List ℕ) (part : Part) → IsBytes bytes → header_after_name name bytes ≡ Some part
    → (kind_of_part part ≡ kinds.Header) × (name_bytes name ++ bytes ≡ body_of part)
header_back front name [] part all h = absurd (none-some part h)
header_back front name (a ∷ []) part all h = absurd (none-some part h)
header_back front name (translator ∷ version ∷ rest) part all h =
    option_map_some (HeaderPart name translator version) (segment_entries_in rest) part h
    (λ entries found is.
    part_is kinds.Header (name_bytes name ++ translator ∷ version ∷ rest)
    (HeaderPart name translator version entries)
    part is (
      refl,
      ap (λ r. name_bytes name ++ translator ∷ version ∷ r)
          (segment_entries_back rest entries all.1.1 found),
    ))

module_end_back :
    (flag segment low high : ℕ) (part : Part) → low < 256 → high < 256
    → module_end_by flag segment (low + 256 * high) ≡ Some part
    → IsPartOf kinds.ModuleEnd (flag ∷ segment ∷ low ∷ high ∷ []) part
module_end_back flag segment low high part l h found =
    go (flag == 0 && segment == 0 && low + 256 * high == 0) refl (flag == 1 && segment == 1) refl found
  where
    go : (none : Bool) → (flag == 0 && segment == 0 && low + 256 * high == 0) ≡ none
        → (main : Bool) → (flag == 1 && segment == 1) ≡ main
        → cond none (Some (ModuleEndPart None))
        (cond main (Some (ModuleEndPart (Some (low + 256 * high)))) None) ≡ Some part
        → IsPartOf kinds.ModuleEnd (flag ∷ segment ∷ low ∷ high ∷ []) part
    go true e main f is =
        let t = and_parts (flag == 0 && segment == 0) (low + 256 * high == 0) e in
        let u = and_parts (flag == 0) (segment == 0) t.0 in
        let flag_0 : flag ≡ 0 = eqb-true flag 0 u.0 in
        let segment_0 : segment ≡ 0 = eqb-true segment 0 u.1 in
        let both_0 : low + 256 * high ≡ 0 = eqb-true (low + 256 * high) 0 t.1 in
        let low_0 : low ≡ 0 = omega arith in
        let high_0 : high ≡ 0 = omega arith in
        part_is kinds.ModuleEnd (flag ∷ segment ∷ low ∷ high ∷ []) (ModuleEndPart None) part
        (same_Some (ModuleEndPart None) part is) (
          refl,
          ap (λ x. x ∷ segment ∷ low ∷ high ∷ []) flag_0 ∙ ap (λ x. 0 ∷ x ∷ low ∷ high ∷ []) segment_0
              ∙ ap (λ x. 0 ∷ 0 ∷ x ∷ high ∷ []) low_0 ∙ ap (λ x. 0 ∷ 0 ∷ 0 ∷ x ∷ []) high_0,
        )
    go false e true f is =
        let u = and_parts (flag == 1) (segment == 1) f in
        let flag_1 : flag ≡ 1 = eqb-true flag 1 u.0 in
        let segment_1 : segment ≡ 1 = eqb-true segment 1 u.1 in
        part_is kinds.ModuleEnd (flag ∷ segment ∷ low ∷ high ∷ [])
        (ModuleEndPart (Some (low + 256 * high))) part
        (same_Some (ModuleEndPart (Some (low + 256 * high))) part is) (
          refl,
          ap (λ x. x ∷ segment ∷ low ∷ high ∷ []) flag_1 ∙ ap (λ x. 1 ∷ x ∷ low ∷ high ∷ []) segment_1
              ∙ ap (λ w. 1 ∷ 1 ∷ w) (sym (word_is low high l h)),
        )
    go false e false f is = absurd (none-some part is)

-- each kind of record
pub part_back :
    (kind : RecordKind) (body : List ℕ) (part : Part) → IsBytes body → part_in kind body ≡ Some part
    → IsPartOf kind body part
unfolding part_in
part_back kinds.Header body part all h =
    option_and_then_some _ (name_in_front body) part h
    (λ named first second.
    let n = name_back body named.0 named.1 all first in
    let p = header_back body named.0 named.1 part n.1 second in
    (p.0, n.0 ∙ p.1))
part_back kinds.ExternalNames body part all h =
    option_map_some ExternalNamesPart (all_in listed_name_in_front body) part h
    (λ names found is.
    part_is kinds.ExternalNames body (ExternalNamesPart names) part is
    (refl, all_back listed_name_bytes listed_name_in_front listed_name_back body names all found))
part_back kinds.Publics [] part all h = absurd (none-some part h)
part_back kinds.Publics (number ∷ rest) part all h =
    option_and_then_some _ (segment_of number) part h
    (λ segment first second.
    option_map_some (PublicsPart segment) (all_in definition_in_front rest) part second
    (λ definitions found is.
    part_is kinds.Publics (number ∷ rest) (PublicsPart segment definitions) part is (
      refl,
      ap (λ n. n ∷ rest) (sym (segment_is number segment first))
          ∙ ap (λ r. segment_number segment ∷ r)
          (all_back definition_bytes definition_in_front definition_back rest definitions all.1 found),
    )))
part_back kinds.Content [] part all h = absurd (none-some part h)
part_back kinds.Content (a ∷ []) part all h = absurd (none-some part h)
part_back kinds.Content (a ∷ b ∷ []) part all h = absurd (none-some part h)
part_back kinds.Content (number ∷ low ∷ high ∷ bytes) part all h =
    option_map_some _ (segment_of number) part h
    (λ segment found is.
    part_is kinds.Content (number ∷ low ∷ high ∷ bytes)
    (ContentPart (record { segment = segment; offset = low + 256 * high; bytes = bytes })) part is (
      refl,
      ap (λ n. n ∷ low ∷ high ∷ bytes) (sym (segment_is number segment found))
          ∙ ap (λ w. (segment_number segment ∷ w) ++ bytes) (sym (word_is low high all.1.0 all.1.1.0)),
    ))
part_back kinds.ExternalReferences [] part all h = absurd (none-some part h)
part_back kinds.ExternalReferences (number ∷ rest) part all h =
    option_and_then_some _ (fix_kind_of number) part h
    (λ kind first second.
    option_map_some (ExternalReferencesPart kind) (references_in rest) part second
    (λ references found is.
    part_is kinds.ExternalReferences (number ∷ rest) (ExternalReferencesPart kind references) part is (
      refl,
      ap (λ n. n ∷ rest) (sym (fix_kind_is number kind first))
          ∙ ap (λ r. fix_kind_number kind ∷ r)
          (references_back rest references all.1 found),
    )))
part_back kinds.Relocation [] part all h = absurd (none-some part h)
part_back kinds.Relocation (number ∷ rest) part all h =
    option_and_then_some _ (fix_kind_of number) part h
    (λ kind first second.
    option_map_some (RelocationPart kind) (words_in rest) part second
    (λ offsets found is.
    part_is kinds.Relocation (number ∷ rest) (RelocationPart kind offsets) part is (
      refl,
      ap (λ n. n ∷ rest) (sym (fix_kind_is number kind first))
          ∙ ap (λ r. fix_kind_number kind ∷ r) (words_back rest offsets all.1 found),
    )))
part_back kinds.IntersegmentReferences [] part all h = absurd (none-some part h)
part_back kinds.IntersegmentReferences (a ∷ []) part all h = absurd (none-some part h)
part_back kinds.IntersegmentReferences (target ∷ number ∷ rest) part all h =
    option_and_then_some _ (segment_of target) part h
    (λ segment zeroth later.
    option_and_then_some _ (fix_kind_of number) part later
    (λ kind first second.
    option_map_some (IntersegmentPart segment kind) (words_in rest) part second
    (λ offsets found is.
    part_is kinds.IntersegmentReferences (target ∷ number ∷ rest)
    (IntersegmentPart segment kind offsets) part is (
      refl,
      ap (λ n. n ∷ number ∷ rest) (sym (segment_is target segment zeroth))
          ∙ ap (λ n. segment_number segment ∷ n ∷ rest) (sym (fix_kind_is number kind first))
          ∙ ap (λ r. segment_number segment ∷ fix_kind_number kind ∷ r)
          (words_back rest offsets all.1.1 found),
    ))))
part_back kinds.ModuleEnd [] part all h = absurd (none-some part h)
part_back kinds.ModuleEnd (a ∷ []) part all h = absurd (none-some part h)
part_back kinds.ModuleEnd (a ∷ b ∷ []) part all h = absurd (none-some part h)
part_back kinds.ModuleEnd (a ∷ b ∷ c ∷ []) part all h = absurd (none-some part h)
part_back kinds.ModuleEnd (flag ∷ segment ∷ low ∷ high ∷ []) part all h =
    module_end_back flag segment low high part all.1.1.0 all.1.1.1.0 h
part_back kinds.ModuleEnd (a ∷ b ∷ c ∷ d ∷ e ∷ rest) part all h = absurd (none-some part h)
part_back kinds.EndOfFile [] part all h =
    part_is kinds.EndOfFile [] EndOfFilePart part (same_Some EndOfFilePart part h) (refl, refl)
part_back kinds.EndOfFile (a ∷ rest) part all h = absurd (none-some part h)
