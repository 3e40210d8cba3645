-- The records of fixes, entry by entry.
use Rattle.object_writing.proofs.Prelude.{◌≡◌, ℕ, ◌-◌, ◌==◌, Bool, true, false, cond, not, List, [], ◌∷◌, ◌++◌, map, flat_map, filter, filter_map, Option, Some, None, option_map, refl, ap, sym, ◌∙◌, arith, append_assoc, append-nil, flat_map-append, BODY_LIMIT, word_bytes, Fix, FixKind, Low, High, Both, Segment, Code, Data, Stack, Target, InSegment, External, Reference, Part, ExternalReferencesPart, RelocationPart, IntersegmentPart, segment_number, fix_kind_number, reference_bytes, part_bytes, same_segment, packed, fix_kinds, reference_for, offset_for, external_fix_parts, relocation_parts, intersegment_parts, other_segments, fix_parts, content_text, records_of, group_for, fix_entry, kind_text, fixes_to, other_text, others_text, fixes_text, content_part}
use Rattle.omf80.specs.declared.kind.RecordKind.TheVariants as kinds
use Rattle.object_writing.specs.declared.records.content.Referred.TheVariants.{Names, Own, Other}
use Rattle.object_writing.proofs.Grouping.{grouped, mapped, flat_map_of_map}

cond_map :
    {A B : Type 0} (f : A → B) (b : Bool) (o : Option A) (p : Option B) → p ≡ option_map f o
    → cond b p None ≡ option_map f (cond b o None)
cond_map f true o p e = e
cond_map f false o p e = refl

same_map : {A B : Type 0} (f g : A → B) → ((x : A) → f x ≡ g x) → (xs : List A) → map f xs ≡ map g xs
same_map f g h [] = refl
same_map f g h (x ∷ xs) = ap (λ y. y ∷ map f xs) (h x) ∙ ap (λ ys. g x ∷ ys) (same_map f g h xs)

abbrev fix_to : FixKind → Target → (offset : ℕ) → Fix
fix_to kind target offset = record { kind = kind; target = target; offset = offset }

-- the entry of a fix to an external name
reference_is :
    (kind of_kind : FixKind) (target : Target) (offset : ℕ)
    → fix_entry Names kind (fix_to of_kind target offset)
    ≡ option_map reference_bytes (reference_for kind (fix_to of_kind target offset))
reference_is kind of_kind (InSegment segment) offset =
    cond_map reference_bytes (fix_kind_number of_kind == fix_kind_number kind) None None refl
reference_is kind of_kind (External number) offset =
    cond_map reference_bytes (fix_kind_number of_kind == fix_kind_number kind)
    (Some (record { external = number; offset = offset }))
    (Some (reference_bytes (record { external = number; offset = offset }))) refl

-- the entry of a fix to a segment
own_is :
    (own : Segment) (kind of_kind : FixKind) (target : Target) (offset : ℕ)
    → fix_entry (Own own) kind (fix_to of_kind target offset)
    ≡ option_map word_bytes (offset_for own kind (fix_to of_kind target offset))
own_is own kind of_kind (InSegment segment) offset =
    cond_map word_bytes (fix_kind_number of_kind == fix_kind_number kind)
    (cond (same_segment segment own) (Some offset) None)
    (cond (same_segment segment own) (Some (word_bytes offset)) None)
    (cond_map word_bytes (same_segment segment own) (Some offset) (Some (word_bytes offset)) refl)
own_is own kind of_kind (External number) offset =
    cond_map word_bytes (fix_kind_number of_kind == fix_kind_number kind) None None refl

other_is :
    (other : Segment) (kind of_kind : FixKind) (target : Target) (offset : ℕ)
    → fix_entry (Other other) kind (fix_to of_kind target offset)
    ≡ option_map word_bytes (offset_for other kind (fix_to of_kind target offset))
other_is other kind of_kind (InSegment segment) offset =
    cond_map word_bytes (fix_kind_number of_kind == fix_kind_number kind)
    (cond (same_segment segment other) (Some offset) None)
    (cond (same_segment segment other) (Some (word_bytes offset)) None)
    (cond_map word_bytes (same_segment segment other) (Some offset) (Some (word_bytes offset)) refl)
other_is other kind of_kind (External number) offset =
    cond_map word_bytes (fix_kind_number of_kind == fix_kind_number kind) None None refl

-- the records of fixes of a kind
references_are :
    (fixes : List Fix) (kind : FixKind)
    → kind_text Names fixes kind ≡ flat_map part_bytes (external_fix_parts fixes kind)
references_are fixes kind =
    ap (records_of (group_for Names kind))
    (same_map (fix_entry Names kind) (λ fix. option_map reference_bytes (reference_for kind fix))
    (λ fix. reference_is kind fix.kind fix.target fix.offset) fixes)
    ∙ mapped reference_bytes (reference_for kind) (group_for Names kind) fixes
    ∙ sym
    (flat_map_of_map part_bytes (ExternalReferencesPart kind)
    (packed (λ (reference : Reference). 4) (BODY_LIMIT - 1) (filter_map (reference_for kind) fixes))
    ∙ grouped kinds.ExternalReferences (fix_kind_number kind ∷ []) reference_bytes (λ reference. omega arith)
    (filter_map (reference_for kind) fixes))

relocations_are :
    (own : Segment) (fixes : List Fix) (kind : FixKind)
    → kind_text (Own own) fixes kind ≡ flat_map part_bytes (relocation_parts own fixes kind)
relocations_are own fixes kind =
    ap (records_of (group_for (Own own) kind))
    (same_map (fix_entry (Own own) kind) (λ fix. option_map word_bytes (offset_for own kind fix))
    (λ fix. own_is own kind fix.kind fix.target fix.offset) fixes)
    ∙ mapped word_bytes (offset_for own kind) (group_for (Own own) kind) fixes
    ∙ sym
    (flat_map_of_map part_bytes (RelocationPart kind)
    (packed (λ (offset : ℕ). 2) (BODY_LIMIT - 1) (filter_map (offset_for own kind) fixes))
    ∙ grouped kinds.Relocation (fix_kind_number kind ∷ []) word_bytes (λ offset. omega arith)
    (filter_map (offset_for own kind) fixes))

intersegments_are :
    (target : Segment) (fixes : List Fix) (kind : FixKind)
    → kind_text (Other target) fixes kind ≡ flat_map part_bytes (intersegment_parts fixes target kind)
intersegments_are target fixes kind =
    ap (records_of (group_for (Other target) kind))
    (same_map (fix_entry (Other target) kind) (λ fix. option_map word_bytes (offset_for target kind fix))
    (λ fix. other_is target kind fix.kind fix.target fix.offset) fixes)
    ∙ mapped word_bytes (offset_for target kind) (group_for (Other target) kind) fixes
    ∙ sym
    (flat_map_of_map part_bytes (IntersegmentPart target kind)
    (packed (λ (offset : ℕ). 2) (BODY_LIMIT - 2) (filter_map (offset_for target kind) fixes))
    ∙ grouped kinds.IntersegmentReferences (segment_number target ∷ fix_kind_number kind ∷ []) word_bytes
    (λ offset. omega arith) (filter_map (offset_for target kind) fixes))

-- of fixes of all kinds
by_kinds :
    (parts : FixKind → List Part) (text : FixKind → List ℕ)
    → ((kind : FixKind) → text kind ≡ flat_map part_bytes (parts kind))
    → text Low ++ (text High ++ text Both) ≡ flat_map part_bytes (flat_map parts fix_kinds)
by_kinds parts text h =
    ap (λ r. r ++ (text High ++ text Both)) (h Low)
    ∙ ap (λ r. flat_map part_bytes (parts Low) ++ (r ++ text Both)) (h High)
    ∙ ap (λ r. flat_map part_bytes (parts Low) ++ (flat_map part_bytes (parts High) ++ r)) (h Both)
    ∙ ap (λ r. flat_map part_bytes (parts Low) ++ (flat_map part_bytes (parts High) ++ flat_map part_bytes r))
    (sym (append-nil (parts Both)))
    ∙ ap (λ r. flat_map part_bytes (parts Low) ++ r)
    (sym (flat_map-append part_bytes (parts High) (parts Both ++ [])))
    ∙ sym (flat_map-append part_bytes (parts Low) (parts High ++ (parts Both ++ [])))

-- of fixes to other segments
abbrev parts_to : List Fix → Segment → List Part
parts_to fixes target = flat_map (intersegment_parts fixes target) fix_kinds

other_first :
    (own : Segment) (fixes : List Fix) (target : Segment) (targets : List Segment) (rest : List ℕ)
    → rest ≡ flat_map part_bytes (flat_map (parts_to fixes) (filter (λ t. not (same_segment t own)) targets))
    → other_text own fixes target ++ rest
    ≡ flat_map part_bytes
    (flat_map (parts_to fixes) (filter (λ t. not (same_segment t own)) (target ∷ targets)))
other_first own fixes target targets rest e = go (same_segment target own)
  where
    others : List Segment
    others = filter (λ t. not (same_segment t own)) targets

    go : (b : Bool)
        → cond b [] (fixes_to (Other target) fixes) ++ rest
        ≡ flat_map part_bytes (flat_map (parts_to fixes) (cond (not b) (target ∷ others) others))
    go true = e
    go false =
        ap (λ r. r ++ rest)
        (by_kinds (intersegment_parts fixes target) (kind_text (Other target) fixes)
        (intersegments_are target fixes))
        ∙ ap (λ r. flat_map part_bytes (parts_to fixes target) ++ r) e
        ∙ sym (flat_map-append part_bytes (parts_to fixes target) (flat_map (parts_to fixes) others))

others_are :
    (own : Segment) (fixes : List Fix)
    → others_text own fixes ≡ flat_map part_bytes (flat_map (parts_to fixes) (other_segments own))
others_are own fixes =
    ap (λ r. other_text own fixes Code ++ (other_text own fixes Data ++ r))
    (sym (append-nil (other_text own fixes Stack)))
    ∙ other_first own fixes Code (Data ∷ Stack ∷ [])
    (other_text own fixes Data ++ (other_text own fixes Stack ++ []))
    (other_first own fixes Data (Stack ∷ []) (other_text own fixes Stack ++ [])
    (other_first own fixes Stack [] [] refl))

-- the records of all fixes of a content
pub fixes_are : (own : Segment) (fixes : List Fix)
    → fixes_text own fixes ≡ flat_map part_bytes (fix_parts own fixes)
fixes_are own fixes =
    let externals : List Part = flat_map (external_fix_parts fixes) fix_kinds in
    let relocations : List Part = flat_map (relocation_parts own fixes) fix_kinds in
    let others : List Part = flat_map (parts_to fixes) (other_segments own) in
    ap (λ r. r ++ (fixes_to (Own own) fixes ++ others_text own fixes))
    (by_kinds (external_fix_parts fixes) (kind_text Names fixes) (references_are fixes))
    ∙ ap (λ r. flat_map part_bytes externals ++ (r ++ others_text own fixes))
    (by_kinds (relocation_parts own fixes) (kind_text (Own own) fixes) (relocations_are own fixes))
    ∙ ap (λ r. flat_map part_bytes externals ++ (flat_map part_bytes relocations ++ r)) (others_are own fixes)
    ∙ sym (append_assoc (flat_map part_bytes externals) (flat_map part_bytes relocations)
    (flat_map part_bytes others))
    ∙ ap (λ r. r ++ flat_map part_bytes others) (sym (flat_map-append part_bytes externals relocations))
    ∙ sym (flat_map-append part_bytes (externals ++ relocations) others)

pub content_is :
    (segment : Segment) (offset : ℕ) (bytes : List ℕ) (fixes : List Fix)
    → content_text segment offset bytes fixes
    ≡ part_bytes (content_part segment offset bytes) ++ fixes_text segment fixes
content_is segment offset bytes fixes =
    ap (λ r. part_bytes (content_part segment offset bytes) ++ r) (sym (fixes_are segment fixes))
