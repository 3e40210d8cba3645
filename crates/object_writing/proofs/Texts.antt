-- The text of a module, part by part.
use Rattle.object_writing.proofs.Prelude.{◌≡◌, ℕ, ◌≤◌, ◌&&◌, ◌||◌, Bool, true, not, nat_lt, nat_le, List, [], ◌∷◌, ◌++◌, length, flat_map, ap, ◌∙◌, arith, list_all, option_map_or, and_parts, leb-true, append_assoc, append-nil, flat_map-append, Segment, Absolute, Code, Data, Stack, SEGMENT_LIMIT, Places, ObjectModule, IsObjectModule, is_page, is_valid_byte, is_valid_segment, length_of, alignment_of, places_of, words_are_whole, Part, ModuleEndPart, EndOfFilePart, part_bytes, header_for, external_parts, public_parts, segment_parts, written_parts, text_of, CodeEntry, header_text, end_text, names_text, rest_text}

-- the bytes of lists one after another
two_parts :
    {A : Type 0} (f : A → List ℕ) (x y : List A) → flat_map f (x ++ (y ++ [])) ≡ flat_map f x ++ flat_map f y
two_parts f x y =
    flat_map-append f x (y ++ []) ∙ ap (λ r. flat_map f x ++ flat_map f r) (append-nil y)

three_parts :
    {A : Type 0} (f : A → List ℕ) (x y z : List A)
    → flat_map f (x ++ (y ++ (z ++ []))) ≡ flat_map f x ++ (flat_map f y ++ flat_map f z)
three_parts f x y z =
    flat_map-append f x (y ++ (z ++ [])) ∙ ap (λ r. flat_map f x ++ r) (two_parts f y z)

four_parts :
    {A : Type 0} (f : A → List ℕ) (e p c x : List A)
    → flat_map f (((e ++ p) ++ c) ++ x) ≡ (flat_map f e ++ flat_map f p) ++ (flat_map f c ++ flat_map f x)
four_parts f e p c x =
    flat_map-append f ((e ++ p) ++ c) x
    ∙ ap (λ r. r ++ flat_map f x) (flat_map-append f (e ++ p) c)
    ∙ append_assoc (flat_map f (e ++ p)) (flat_map f c) (flat_map f x)
    ∙ ap (λ r. r ++ (flat_map f c ++ flat_map f x)) (flat_map-append f e p)

pub text_is :
    (object : ObjectModule)
    → text_of object ≡ part_bytes (header_for object) ++ (names_text object ++ rest_text object)
unfolding written_parts
text_is object =
    let publics : List Part = flat_map (public_parts object.publics) (Absolute ∷ Code ∷ Data ∷ []) in
    let contents : List Part = flat_map (segment_parts object) (Code ∷ Data ∷ []) in
    let end : List Part = ModuleEndPart object.start ∷ EndOfFilePart ∷ [] in
    let names : List ℕ = flat_map part_bytes (external_parts object.externals) in
    let head : List ℕ = part_bytes (header_for object) in
    let code : List ℕ = flat_map part_bytes (segment_parts object Code) in
    let data_bytes : List ℕ = flat_map part_bytes (segment_parts object Data) in
    ap (λ r. head ++ r) (four_parts part_bytes (external_parts object.externals) publics contents end)
    ∙ ap (λ r. head ++ ((names ++ r) ++ (flat_map part_bytes contents ++ end_text object.start)))
    (three_parts part_bytes (public_parts object.publics Absolute) (public_parts object.publics Code)
    (public_parts object.publics Data))
    ∙ ap (λ r. head ++ (names_text object ++ (r ++ end_text object.start)))
    (two_parts part_bytes (segment_parts object Code) (segment_parts object Data))
    ∙ ap (λ r. head ++ (names_text object ++ r)) (append_assoc code data_bytes (end_text object.start))

-- the header
abbrev pub entry_for : ObjectModule → Segment → CodeEntry
entry_for object segment =
    record { segment = segment; size = length_of object segment; alignment = alignment_of object segment }

pub header_is :
    (object : ObjectModule) (name : List ℕ) (code data_entry stack : CodeEntry) → name ≡ object.name
    → code ≡ entry_for object Code → data_entry ≡ entry_for object Data → stack ≡ entry_for object Stack
    → header_text name (code ∷ data_entry ∷ stack ∷ []) ≡ part_bytes (header_for object)
header_is object name code data_entry stack n c d s =
    ap (λ x. header_text x (code ∷ data_entry ∷ stack ∷ [])) n
    ∙ ap (λ x. header_text object.name (x ∷ data_entry ∷ stack ∷ [])) c
    ∙ ap (λ x. header_text object.name (entry_for object Code ∷ x ∷ stack ∷ [])) d
    ∙ ap (λ x. header_text object.name (entry_for object Code ∷ entry_for object Data ∷ x ∷ [])) s

-- how many places a segment has
few_places :
    (count : ℕ) (segment : Places) → is_valid_segment count segment ≡ true → length segment.places ≤ 65535
few_places count segment h =
    let all : Bool = list_all (λ place. option_map_or (is_valid_byte count) place true) segment.places in
    let first =
    and_parts (nat_le (length segment.places) SEGMENT_LIMIT && all && words_are_whole segment.places)
    (not (is_page segment.alignment) || nat_lt 0 (length segment.places)) h in
    let second =
    and_parts (nat_le (length segment.places) SEGMENT_LIMIT && all)
    (words_are_whole segment.places) first.0 in
    let third = and_parts (nat_le (length segment.places) SEGMENT_LIMIT) all second.0 in
    leb-true (length segment.places) SEGMENT_LIMIT third.0

pub places_few :
    (object : ObjectModule) (segment : Segment) → IsObjectModule object
    → length (places_of object segment) ≤ 65535
places_few object Absolute valid = omega arith
places_few object Code valid = few_places (length object.externals) object.code valid.code
places_few object Data valid = few_places (length object.externals) object.data_places valid.data_places
places_few object Stack valid = omega arith
