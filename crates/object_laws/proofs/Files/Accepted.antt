-- What a part may be that stands after others, and what the names, the entries and the publics of a file are.
use Rattle.object_laws.proofs.Prelude.{◌≡◌, ℕ, ◌<◌, ◌≤◌, Bool, true, false, not, ◌&&◌, ◌||◌, nat_lt, nat_le, List, [], ◌∷◌, ◌++◌, length, map, flat_map, filter_map, slice_get, IfSome, Option, Some, None, refl, ap, sym, ◌∙◌, arith, list_all, list_any, AllByRecursion, option_map_or, bytes_eq, and_parts, and_from, lt-ltb, append_assoc, map-append, list_all-append, BODY_LIMIT, RecordKind, none_holds, is_name, Fault, WrongBody, ContentMisplaced, FixMisplaced, WrongAlignment, Segment, Public, is_among, are_new, may_have_publics, is_valid_public, Definition, Part, HeaderPart, ExternalNamesPart, PublicsPart, ContentPart, ExternalReferencesPart, RelocationPart, IntersegmentPart, ModuleEndPart, EndOfFilePart, kind_of_part, body_of, rank_of, may_come_after, may_follow, is_empty, entries_of, externals_of, definition_names, names_of, content_of, latest_content, are_names, is_body, is_served, fits_segment, fit_content, part_fault, is_accepted, are_accepted, publics_of, start_of_end, start_in, not-false}
use Rattle.omf80.specs.declared.kind.RecordKind.TheVariants as kinds
use Rattle.object_laws.proofs.Files.Bytes.{InRange}
use Rattle.object_laws.proofs.Booleans.{or_swap}

-- the rules that a part keeps to after these
pub record Fits (before : List Part) (part : Part) : Type 0 where
  pub follows : may_follow before (kind_of_part part) ≡ true
  pub body : is_body before part ≡ true
  pub placed : option_map_or (λ content. not (fits_segment before content)) (content_of part) false ≡ false
  pub fixes : fit_content before part (latest_content before) ≡ true

pub no_fault_there : (fault : Option Fault)
    → option_map_or (λ (_ : Fault). false) fault true ≡ true → fault ≡ None
no_fault_there None h = refl
no_fault_there (Some fault) h = absurd (let bad : false ≡ true = h in cc)

pub part_fits : (before : List Part) (part : Part) → is_accepted before part ≡ true → Fits before part
part_fits before part accepted =
    let first = and_parts (nat_le (length (body_of part)) BODY_LIMIT && may_follow before (kind_of_part part))
    (option_map_or (λ (_ : Fault). false) (part_fault before part) true) accepted in
    let second =
    and_parts (nat_le (length (body_of part)) BODY_LIMIT)
    (may_follow before (kind_of_part part)) first.0 in
    let served : Bool × Fault = (not (list_all is_served (entries_of part)), WrongAlignment) in
    let placed : Bool × Fault =
    (option_map_or (λ content. not (fits_segment before content)) (content_of part) false, ContentMisplaced) in
    let fixes : Bool × Fault = (not (fit_content before part (latest_content before)), FixMisplaced) in
    let a = none_holds (not (is_body before part)) WrongBody (served ∷ placed ∷ fixes ∷ [])
    (no_fault_there (part_fault before part) first.1) in
    let b = none_holds served.0 WrongAlignment (placed ∷ fixes ∷ []) a.1 in
    let c = none_holds placed.0 ContentMisplaced (fixes ∷ []) b.1 in
    let d = none_holds fixes.0 FixMisplaced [] c.1 in
    record {
      follows = second.1;
      body = not-false (is_body before part) a.0;
      placed = c.0;
      fixes = not-false (fit_content before part (latest_content before)) d.0;
    }

-- the first of parts, and the others
pub both_fit :
    (before : List Part) (part : Part) (others : List Part) → are_accepted before (part ∷ others) ≡ true
    → Fits before part × (are_accepted (part ∷ before) others ≡ true)
both_fit before part others accepted =
    let cut = and_parts (is_accepted before part) (are_accepted (part ∷ before) others) accepted in
    (part_fits before part cut.0, cut.1)

-- Names.
-- names are known alike
abbrev pub Alike : (left right : List (List ℕ)) → Type 0
Alike left right = (name : List ℕ) → is_among name left ≡ is_among name right

pub new_alike :
    (names left right : List (List ℕ)) → Alike left right → are_new names left ≡ are_new names right
new_alike [] left right same = refl
new_alike (name ∷ others) left right same =
    ap (λ t. not t && are_new others (name ∷ left)) (same name)
    ∙ ap (λ t. not (is_among name right) && t)
    (new_alike others (name ∷ left) (name ∷ right) (λ n. ap (λ t. bytes_eq n name || t) (same n)))

-- one in the middle stands in front
pub any_moved :
    {A : Type 0} (p : A → Bool) (xs : List A) (y : A) (ys : List A)
    → list_any p (xs ++ y ∷ ys) ≡ (p y || list_any p (xs ++ ys))
any_moved p [] y ys = refl
any_moved p (x ∷ xs) y ys =
    ap (λ t. p x || t) (any_moved p xs y ys) ∙ or_swap (p x) (p y) (list_any p (xs ++ ys))

pub new_append :
    (xs ys known : List (List ℕ)) → are_new xs known ≡ true → are_new ys (xs ++ known) ≡ true
    → are_new (xs ++ ys) known ≡ true
new_append [] ys known h k = k
new_append (x ∷ xs) ys known h k =
    let cut = and_parts (not (is_among x known)) (are_new xs (x ∷ known)) h in
    and_from (not (is_among x known)) (are_new (xs ++ ys) (x ∷ known)) cut.0
    (new_append xs ys (x ∷ known) cut.1
    (new_alike ys (xs ++ x ∷ known) (x ∷ xs ++ known) (λ name. any_moved (bytes_eq name) xs x known) ∙ k))

-- what the names of a part are
pub part_names :
    (before : List Part) (part : Part) → is_body before part ≡ true
    → (list_all is_name (names_of part) ≡ true) × (are_new (names_of part) (flat_map names_of before) ≡ true)
part_names before (HeaderPart name translator version entries) h = (refl, refl)
part_names before (ExternalNamesPart names) h =
    let cut = and_parts (not (is_empty names)) (are_names names before) h in
    and_parts (list_all is_name names) (are_new names (flat_map names_of before)) cut.1
part_names before (PublicsPart segment definitions) h =
    let cut = and_parts (may_have_publics segment && not (is_empty definitions))
    (are_names (definition_names definitions) before) h in
    and_parts (list_all is_name (definition_names definitions))
    (are_new (definition_names definitions) (flat_map names_of before)) cut.1
part_names before (ContentPart content) h = (refl, refl)
part_names before (ExternalReferencesPart kind references) h = (refl, refl)
part_names before (RelocationPart kind offsets) h = (refl, refl)
part_names before (IntersegmentPart target kind offsets) h = (refl, refl)
part_names before (ModuleEndPart start) h = (refl, refl)
part_names before EndOfFilePart h = (refl, refl)

pub all_names :
    (before parts : List Part) → are_accepted before parts ≡ true
    → (list_all is_name (flat_map names_of parts) ≡ true)
    × (are_new (flat_map names_of parts) (flat_map names_of before) ≡ true)
all_names before [] accepted = (refl, refl)
all_names before (part ∷ others) accepted =
    let cut = both_fit before part others accepted in
    let first = part_names before part cut.0.body in
    let later = all_names (part ∷ before) others cut.1 in (
      list_all-append is_name (names_of part) (flat_map names_of others)
          ∙ and_from _ (list_all is_name (flat_map names_of others)) first.0 later.0,
      new_append (names_of part) (flat_map names_of others) (flat_map names_of before) first.1 later.1,
    )

-- Order.
no_header : (latest : RecordKind) → may_come_after latest kinds.Header ≡ true → ⊥
no_header latest h = let bad : false ≡ true = h in cc

-- no external names come after publics
names_too_late : (latest : RecordKind) → 2 ≤ rank_of latest
    → may_come_after latest kinds.ExternalNames ≡ true → ⊥
names_too_late kinds.Header h k = absurd (omega arith)
names_too_late kinds.ExternalNames h k = absurd (omega arith)
names_too_late kinds.Publics h k = let bad : false ≡ true = k in cc
names_too_late kinds.Content h k = let bad : false ≡ true = k in cc
names_too_late kinds.ExternalReferences h k = let bad : false ≡ true = k in cc
names_too_late kinds.Relocation h k = let bad : false ≡ true = k in cc
names_too_late kinds.IntersegmentReferences h k = let bad : false ≡ true = k in cc
names_too_late kinds.ModuleEnd h k = let bad : false ≡ true = k in cc
names_too_late kinds.EndOfFile h k = let bad : false ≡ true = k in cc

late_part :
    (latest part : Part) → 2 ≤ rank_of (kind_of_part latest)
    → may_come_after (kind_of_part latest) (kind_of_part part) ≡ true
    → (externals_of part ≡ []) × (2 ≤ rank_of (kind_of_part part))
late_part latest (HeaderPart name translator version entries) h k = absurd (no_header (kind_of_part latest) k)
late_part latest (ExternalNamesPart names) h k = absurd (names_too_late (kind_of_part latest) h k)
late_part latest (PublicsPart segment definitions) h k = (refl, omega arith)
late_part latest (ContentPart content) h k = (refl, omega arith)
late_part latest (ExternalReferencesPart kind references) h k = (refl, omega arith)
late_part latest (RelocationPart kind offsets) h k = (refl, omega arith)
late_part latest (IntersegmentPart target kind offsets) h k = (refl, omega arith)
late_part latest (ModuleEndPart start) h k = (refl, omega arith)
late_part latest EndOfFilePart h k = (refl, omega arith)

no_externals :
    (latest : Part) (before parts : List Part) → 2 ≤ rank_of (kind_of_part latest)
    → are_accepted (latest ∷ before) parts ≡ true → flat_map externals_of parts ≡ []
no_externals latest before [] h accepted = refl
no_externals latest before (part ∷ others) h accepted =
    let cut = both_fit (latest ∷ before) part others accepted in
    let late = late_part latest part h cut.0.follows in
    ap (λ e. e ++ flat_map externals_of others) late.0
    ∙ no_externals part (latest ∷ before) others late.1 cut.1

abbrev pub public_name : Public → List ℕ
public_name public = public.name

pub names_are :
    (segment : Segment) (definitions : List Definition)
    → map public_name (publics_of (PublicsPart segment definitions)) ≡ definition_names definitions
names_are segment [] = refl
names_are segment (definition ∷ others) = ap (λ names. definition.name ∷ names) (names_are segment others)

-- external names, and then the names of publics
pub names_ordered :
    (before parts : List Part) → are_accepted before parts ≡ true
    → flat_map names_of parts ≡ flat_map externals_of parts ++ map public_name (flat_map publics_of parts)
names_ordered before [] accepted = refl
names_ordered before (HeaderPart name translator version entries ∷ others) accepted =
    names_ordered (HeaderPart name translator version entries ∷ before) others
    (both_fit before (HeaderPart name translator version entries) others accepted).1
names_ordered before (ExternalNamesPart names ∷ others) accepted =
    ap (λ later. names ++ later)
    (names_ordered (ExternalNamesPart names ∷ before) others
    (both_fit before (ExternalNamesPart names) others accepted).1)
    ∙ sym (append_assoc names (flat_map externals_of others) (map public_name (flat_map publics_of others)))
names_ordered before (PublicsPart segment definitions ∷ others) accepted =
    let cut = both_fit before (PublicsPart segment definitions) others accepted in
    let none : flat_map externals_of others ≡ [] =
    no_externals (PublicsPart segment definitions) before others (omega arith) cut.1 in
    ap (λ later. definition_names definitions ++ later)
    (names_ordered (PublicsPart segment definitions ∷ before) others cut.1)
    ∙ ap (λ e. definition_names definitions ++ (e ++ map public_name (flat_map publics_of others))) none
    ∙ ap (λ names. names ++ map public_name (flat_map publics_of others))
    (sym (names_are segment definitions))
    ∙ sym (map-append public_name (publics_of (PublicsPart segment definitions)) (flat_map publics_of others))
    ∙ ap (λ e. e ++ map public_name (publics_of (PublicsPart segment definitions)
    ++ flat_map publics_of others))
    (sym none)
names_ordered before (ContentPart content ∷ others) accepted =
    names_ordered (ContentPart content ∷ before) others
    (both_fit before (ContentPart content) others accepted).1
names_ordered before (ExternalReferencesPart kind references ∷ others) accepted =
    names_ordered (ExternalReferencesPart kind references ∷ before) others
    (both_fit before (ExternalReferencesPart kind references) others accepted).1
names_ordered before (RelocationPart kind offsets ∷ others) accepted =
    names_ordered (RelocationPart kind offsets ∷ before) others
    (both_fit before (RelocationPart kind offsets) others accepted).1
names_ordered before (IntersegmentPart target kind offsets ∷ others) accepted =
    names_ordered (IntersegmentPart target kind offsets ∷ before) others
    (both_fit before (IntersegmentPart target kind offsets) others accepted).1
names_ordered before (ModuleEndPart start ∷ others) accepted =
    names_ordered (ModuleEndPart start ∷ before) others
    (both_fit before (ModuleEndPart start) others accepted).1
names_ordered before (EndOfFilePart ∷ others) accepted =
    names_ordered (EndOfFilePart ∷ before) others (both_fit before EndOfFilePart others accepted).1

-- one header alone has entries
pub no_entries_in : (latest part : Part) → may_come_after (kind_of_part latest) (kind_of_part part) ≡ true
    → entries_of part ≡ []
no_entries_in latest (HeaderPart name translator version entries) h =
    absurd (no_header (kind_of_part latest) h)
no_entries_in latest (ExternalNamesPart names) h = refl
no_entries_in latest (PublicsPart segment definitions) h = refl
no_entries_in latest (ContentPart content) h = refl
no_entries_in latest (ExternalReferencesPart kind references) h = refl
no_entries_in latest (RelocationPart kind offsets) h = refl
no_entries_in latest (IntersegmentPart target kind offsets) h = refl
no_entries_in latest (ModuleEndPart start) h = refl
no_entries_in latest EndOfFilePart h = refl

pub no_entries :
    (latest : Part) (before parts : List Part) → are_accepted (latest ∷ before) parts ≡ true
    → flat_map entries_of parts ≡ []
no_entries latest before [] accepted = refl
no_entries latest before (part ∷ others) accepted =
    let cut = both_fit (latest ∷ before) part others accepted in
    ap (λ e. e ++ flat_map entries_of others) (no_entries_in latest part cut.0.follows)
    ∙ no_entries part (latest ∷ before) others cut.1

-- Publics, and the start.
definitions_valid :
    (segment : Segment) (definitions : List Definition) → may_have_publics segment ≡ true
    → AllByRecursion (λ (definition : Definition). definition.offset < 65536) definitions
    → list_all is_valid_public (publics_of (PublicsPart segment definitions)) ≡ true
definitions_valid segment [] h range = refl
definitions_valid segment (definition ∷ others) h range =
    and_from (may_have_publics segment && nat_lt definition.offset 65536) _
    (and_from (may_have_publics segment) _ h (lt-ltb definition.offset 65536 range.0))
    (definitions_valid segment others h range.1)

part_publics :
    (before : List Part) (part : Part) → is_body before part ≡ true → InRange part
    → list_all is_valid_public (publics_of part) ≡ true
part_publics before (HeaderPart name translator version entries) h range = refl
part_publics before (ExternalNamesPart names) h range = refl
part_publics before (PublicsPart segment definitions) h range =
    let cut = and_parts (may_have_publics segment && not (is_empty definitions))
    (are_names (definition_names definitions) before) h in
    definitions_valid segment definitions
    (and_parts (may_have_publics segment) (not (is_empty definitions)) cut.0).0 range
part_publics before (ContentPart content) h range = refl
part_publics before (ExternalReferencesPart kind references) h range = refl
part_publics before (RelocationPart kind offsets) h range = refl
part_publics before (IntersegmentPart target kind offsets) h range = refl
part_publics before (ModuleEndPart start) h range = refl
part_publics before EndOfFilePart h range = refl

pub publics_valid :
    (before parts : List Part) → are_accepted before parts ≡ true → AllByRecursion InRange parts
    → list_all is_valid_public (flat_map publics_of parts) ≡ true
publics_valid before [] accepted range = refl
publics_valid before (part ∷ others) accepted range =
    let cut = both_fit before part others accepted in
    list_all-append is_valid_public (publics_of part) (flat_map publics_of others)
    ∙ and_from _ _ (part_publics before part cut.0.body range.0)
    (publics_valid (part ∷ before) others cut.1 range.1)

starts_range :
    (parts : List Part) → AllByRecursion InRange parts
    → AllByRecursion (λ offset. offset < 65536) (filter_map start_of_end parts)
starts_range [] range = tt
starts_range (HeaderPart name translator version entries ∷ others) range = starts_range others range.1
starts_range (ExternalNamesPart names ∷ others) range = starts_range others range.1
starts_range (PublicsPart segment definitions ∷ others) range = starts_range others range.1
starts_range (ContentPart content ∷ others) range = starts_range others range.1
starts_range (ExternalReferencesPart kind references ∷ others) range = starts_range others range.1
starts_range (RelocationPart kind offsets ∷ others) range = starts_range others range.1
starts_range (IntersegmentPart target kind offsets ∷ others) range = starts_range others range.1
starts_range (ModuleEndPart None ∷ others) range = starts_range others range.1
starts_range (ModuleEndPart (Some offset) ∷ others) range = (range.0, starts_range others range.1)
starts_range (EndOfFilePart ∷ others) range = starts_range others range.1

first_range :
    (offsets : List ℕ) → AllByRecursion (λ offset. offset < 65536) offsets
    → IfSome (slice_get offsets 0) (λ offset. offset < 65536)
first_range [] all = tt
first_range (offset ∷ others) all = all.0

pub start_valid :
    (parts : List Part) → AllByRecursion InRange parts → IfSome (start_in parts) (λ offset. offset < 65536)
start_valid parts range = first_range (filter_map start_of_end parts) (starts_range parts range)
