-- The one text of a module is a file of the records that are written, and these say the module.
use Rattle.object_laws.proofs.Prelude.{◌≡◌, ℕ, ◌+◌, ◌≤◌, Bool, true, not, ◌&&◌, ◌||◌, nat_lt, nat_le, List, [], ◌∷◌, ◌++◌, length, map, flat_map, Option, Some, None, refl, ap, subst, ◌∙◌, arith, AllByRecursion, list_all, option_map_or, bytes_eq, and_parts, and_from, append-nil, flat_map-append, is_name, BODY_LIMIT, Segment, Absolute, Code, Data, SEGMENT_LIMIT, Places, Public, ObjectModule, words_are_whole, is_page, is_valid_byte, is_valid_segment, linkage_names, IsObjectModule, Part, ModuleEndPart, EndOfFilePart, kind_of_part, body_of, rank_of, entries_of, externals_of, names_of, content_of, latest_content, length_in, filled_to, end_by_content, is_accepted, are_accepted, name_of_header, start_of_end, header_for, external_parts, public_parts, segment_parts, written_parts, all_append, all_weaker}
use Rattle.object_laws.proofs.Texts.Groups.{all_halves}
use Rattle.object_laws.proofs.Texts.Counted.{times, times_append, new_once}
use Rattle.object_laws.proofs.Texts.Accepting.{onto, accepted_append, onto_append, accepted_by, fit_nothing, UpTo, up_to_onto, up_to_more, follows_end, flat_map_onto, times_onto, length_onto, latest_onto, filled_onto, each_passes}
use Rattle.object_laws.proofs.Texts.NamesAccepted.{IsName}
use Rattle.object_laws.proofs.Texts.NamesWritten.{IsNamesPart, external_parts_are, names_of_externals, externals_again, externals_stage, names_in, HasName, public_parts_are, no_externals_there, names_of_publics, publics_stage, publics_counted}
use Rattle.object_laws.proofs.Texts.ContentsAccepted.{BeforeContents, contents_accepted}
use Rattle.object_laws.proofs.Texts.Headed.{entries_for, header_accepted, code_length_is, data_length_is}
use Rattle.object_laws.proofs.Texts.SegmentWritten.{cuts_of, AreCutsOf, cuts_are, IsSegmentPart, segment_parts_are, past_segment}

-- what is valid of a segment
pub record IsValid (external_count : ℕ) (segment : Places) : Type 0 where
  pub cuts : AreCutsOf external_count segment.places
  pub begins : (not (is_page segment.alignment) || nat_lt 0 (length segment.places)) ≡ true

pub valid_segment :
    (external_count : ℕ) (segment : Places) → is_valid_segment external_count segment ≡ true
    → IsValid external_count segment
valid_segment external_count segment h =
    let all : Bool =
    list_all (λ place. option_map_or (is_valid_byte external_count) place true) segment.places in
    let first =
    and_parts (nat_le (length segment.places) SEGMENT_LIMIT && all && words_are_whole segment.places)
    (not (is_page segment.alignment) || nat_lt 0 (length segment.places)) h in
    let second =
    and_parts (nat_le (length segment.places) SEGMENT_LIMIT && all)
    (words_are_whole segment.places) first.0 in
    let third = and_parts (nat_le (length segment.places) SEGMENT_LIMIT) all second.0 in
    record { cuts = cuts_are external_count segment.places third.1 second.1; begins = first.1 }

-- the records between header and end
abbrev pub names_parts : ObjectModule → List Part
names_parts object =
    external_parts object.externals ++ flat_map (public_parts object.publics) (Absolute ∷ Code ∷ Data ∷ [])

abbrev pub contents_parts : ObjectModule → List Part
contents_parts object = flat_map (segment_parts object) (Code ∷ Data ∷ [])

abbrev pub end_parts : ObjectModule → List Part
end_parts object = ModuleEndPart object.start ∷ EndOfFilePart ∷ []

pub written_is :
    (object : ObjectModule)
    → written_parts object ≡ header_for object
    ∷ (names_parts object ++ contents_parts object) ++ end_parts object
unfolding written_parts
written_is object = refl

-- the names of a module
all_named : (object : ObjectModule) → IsObjectModule object → AllByRecursion IsName (linkage_names object)
all_named object valid = each_passes is_name (linkage_names object) valid.names

with_names : (publics : List Public) → AllByRecursion IsName (map (λ (public : Public). public.name) publics)
    → AllByRecursion HasName publics
with_names [] all = tt
with_names (public ∷ publics) all = (all.0, with_names publics all.1)

-- the header alone
abbrev headed : ObjectModule → List Part
headed object = header_for object ∷ []

names_before : (test : List ℕ → Bool) (object : ObjectModule) (parts : List Part)
    → times test (flat_map names_of (onto parts (headed object))) ≡ times test (flat_map names_of parts)
names_before test object parts =
    let e : times test (flat_map names_of (onto parts (headed object)))
    ≡ times test (flat_map names_of parts) + 0 =
    times_onto test names_of parts (headed object) in
    omega (arith, e)

-- all names are counted once
all_once :
    (object : ObjectModule) → IsObjectModule object → (name : List ℕ)
    → times (bytes_eq name) object.externals + (times (bytes_eq name) (names_in object.publics Absolute)
    + times (bytes_eq name) (names_in object.publics Code)
    + times (bytes_eq name) (names_in object.publics Data)) ≤ 1
all_once object valid name =
    let own : List (List ℕ) = map (λ (public : Public). public.name) object.publics in
    let split : times (bytes_eq name) (object.externals ++ own)
    ≡ times (bytes_eq name) object.externals + times (bytes_eq name) own =
    times_append (bytes_eq name) object.externals own in
    let once : times (bytes_eq name) (object.externals ++ own) ≤ 1 =
    new_once (linkage_names object) valid.different name in
    let counted : times (bytes_eq name) (names_in object.publics Absolute)
    + times (bytes_eq name) (names_in object.publics Code)
    + times (bytes_eq name) (names_in object.publics Data)
    ≤ times (bytes_eq name) own = publics_counted (bytes_eq name) object.publics in
    omega (arith, split, once, counted)

-- the records of names
public_ranks :
    (object : ObjectModule) (segments : List Segment)
    → AllByRecursion (IsNamesPart 2) (flat_map (public_parts object.publics) segments)
public_ranks object [] = tt
public_ranks object (segment ∷ segments) =
    all_append (IsNamesPart 2) (public_parts object.publics segment)
    (flat_map (public_parts object.publics) segments)
    (public_parts_are object.publics segment) (public_ranks object segments)

pub names_are : (object : ObjectModule) → AllByRecursion (IsNamesPart 2) (names_parts object)
names_are object =
    all_append (IsNamesPart 2) (external_parts object.externals)
    (flat_map (public_parts object.publics) (Absolute ∷ Code ∷ Data ∷ []))
    (all_weaker (IsNamesPart 1) (IsNamesPart 2)
    (λ part is.
    let up : rank_of (kind_of_part part) ≤ 1 = is.up in
    record {
      up = omega (arith, up);
      no_entries = is.no_entries;
      no_content = is.no_content;
      no_name = is.no_name;
      no_start = is.no_start;
    }) (external_parts object.externals) (external_parts_are object.externals))
    (public_ranks object (Absolute ∷ Code ∷ Data ∷ []))

-- what parts of names leave as it was
up_after : (object : ObjectModule) (parts : List Part) → AllByRecursion (IsNamesPart 2) parts
    → UpTo 2 (onto parts (headed object))
up_after object parts all =
    up_to_onto 2 parts (headed object) (let u : 0 ≤ 2 = omega arith in u)
    (all_weaker (IsNamesPart 2) (λ part. rank_of (kind_of_part part) ≤ 2) (λ part is. is.up) parts all)

no_content_after : (object : ObjectModule) (parts : List Part) → AllByRecursion (IsNamesPart 2) parts
    → latest_content (onto parts (headed object)) ≡ None
no_content_after object parts all =
    latest_onto parts (headed object)
    (all_weaker (IsNamesPart 2) (λ part. content_of part ≡ None) (λ part is. is.no_content) parts all)

names_accepted : (object : ObjectModule) → IsObjectModule object
    → are_accepted (headed object) (names_parts object) ≡ true
names_accepted object valid =
    let E : List Part = external_parts object.externals in
    let A : List Part = public_parts object.publics Absolute in
    let C : List Part = public_parts object.publics Code in
    let D : List Part = public_parts object.publics Data in
    let before : List Part = headed object in
    let halves = all_halves IsName object.externals (map (λ (public : Public). public.name) object.publics)
    (all_named object valid) in
    let named : AllByRecursion HasName object.publics = with_names object.publics halves.1 in
    let E_are : AllByRecursion (IsNamesPart 2) E =
    (all_halves (IsNamesPart 2) E (flat_map (public_parts object.publics) (Absolute ∷ Code ∷ Data ∷ []))
    (names_are object)).0 in
    let EA_are : AllByRecursion (IsNamesPart 2) (E ++ A) =
    all_append (IsNamesPart 2) E A E_are (public_parts_are object.publics Absolute) in
    let EAC_are : AllByRecursion (IsNamesPart 2) ((E ++ A) ++ C) =
    all_append (IsNamesPart 2) (E ++ A) C EA_are (public_parts_are object.publics Code) in
    let e_once : (name : List ℕ) → times (bytes_eq name) (flat_map names_of E)
    ≡ times (bytes_eq name) object.externals =
    λ name. ap (times (bytes_eq name)) (names_of_externals object.externals) in
    let a_once : (name : List ℕ) → times (bytes_eq name) (flat_map names_of A)
    ≡ times (bytes_eq name) (names_in object.publics Absolute) =
    λ name. ap (times (bytes_eq name)) (names_of_publics object.publics Absolute) in
    let c_once : (name : List ℕ) → times (bytes_eq name) (flat_map names_of C)
    ≡ times (bytes_eq name) (names_in object.publics Code) =
    λ name. ap (times (bytes_eq name)) (names_of_publics object.publics Code) in
    accepted_append before E (A ++ (C ++ (D ++ [])))
    (externals_stage object.externals before halves.0 (let u : 0 ≤ 1 = omega arith in u) refl
    (λ name.
    let o : times (bytes_eq name) object.externals + (times (bytes_eq name) (names_in object.publics Absolute)
    + times (bytes_eq name) (names_in object.publics Code)
    + times (bytes_eq name) (names_in object.publics Data)) ≤ 1 =
    all_once object valid name in
    let bound : times (bytes_eq name) object.externals + 0 ≤ 1 = omega (arith, o) in
    bound))
    (accepted_append (onto E before) A (C ++ (D ++ []))
    (publics_stage object.publics Absolute (onto E before) refl named (up_after object E E_are)
    (no_content_after object E E_are)
    (λ name.
    let o : times (bytes_eq name) object.externals + (times (bytes_eq name) (names_in object.publics Absolute)
    + times (bytes_eq name) (names_in object.publics Code)
    + times (bytes_eq name) (names_in object.publics Data)) ≤ 1 =
    all_once object valid name in
    let there : times (bytes_eq name) (flat_map names_of (onto E before))
    ≡ times (bytes_eq name) (flat_map names_of E) =
    names_before (bytes_eq name) object E in
    omega (arith, o, there, e_once name)))
    (subst (λ b. are_accepted b (C ++ (D ++ [])) ≡ true) (onto_append E A before)
    (accepted_append (onto (E ++ A) before) C (D ++ [])
    (publics_stage object.publics Code (onto (E ++ A) before) refl named (up_after object (E ++ A) EA_are)
    (no_content_after object (E ++ A) EA_are)
    (λ name.
    let o : times (bytes_eq name) object.externals + (times (bytes_eq name) (names_in object.publics Absolute)
    + times (bytes_eq name) (names_in object.publics Code)
    + times (bytes_eq name) (names_in object.publics Data)) ≤ 1 =
    all_once object valid name in
    let there : times (bytes_eq name) (flat_map names_of (onto (E ++ A) before))
    ≡ times (bytes_eq name) (flat_map names_of E) + times (bytes_eq name) (flat_map names_of A) =
    names_before (bytes_eq name) object (E ++ A) ∙ ap (times (bytes_eq name)) (flat_map-append names_of E A)
    ∙ times_append (bytes_eq name) (flat_map names_of E) (flat_map names_of A) in
    omega (arith, o, there, e_once name, a_once name)))
    (subst (λ b. are_accepted b (D ++ []) ≡ true) (onto_append (E ++ A) C before)
    (accepted_append (onto ((E ++ A) ++ C) before) D []
    (publics_stage object.publics Data (onto ((E ++ A) ++ C) before) refl named
    (up_after object ((E ++ A) ++ C) EAC_are)
    (no_content_after object ((E ++ A) ++ C) EAC_are)
    (λ name.
    let o : times (bytes_eq name) object.externals + (times (bytes_eq name) (names_in object.publics Absolute)
    + times (bytes_eq name) (names_in object.publics Code)
    + times (bytes_eq name) (names_in object.publics Data)) ≤ 1 =
    all_once object valid name in
    let there : times (bytes_eq name) (flat_map names_of (onto ((E ++ A) ++ C) before))
    ≡ times (bytes_eq name) (flat_map names_of (E ++ A)) + times (bytes_eq name) (flat_map names_of C) =
    names_before (bytes_eq name) object ((E ++ A) ++ C)
    ∙ ap (times (bytes_eq name)) (flat_map-append names_of (E ++ A) C)
    ∙ times_append (bytes_eq name) (flat_map names_of (E ++ A)) (flat_map names_of C) in
    let both : times (bytes_eq name) (flat_map names_of (E ++ A))
    ≡ times (bytes_eq name) (flat_map names_of E) + times (bytes_eq name) (flat_map names_of A) =
    ap (times (bytes_eq name)) (flat_map-append names_of E A)
    ∙ times_append (bytes_eq name) (flat_map names_of E) (flat_map names_of A) in
    omega (arith, o, there, both, e_once name, a_once name, c_once name)))
    refl)))))

-- what is told before the contents
pub nothing : {A : Type 0} (f : Part → List A) (parts : List Part)
    → AllByRecursion (λ part. f part ≡ []) parts → flat_map f parts ≡ []
nothing f [] all = refl
nothing f (part ∷ parts) all = ap (λ r. r ++ flat_map f parts) all.0 ∙ nothing f parts all.1

no_externals_in :
    (object : ObjectModule) (segments : List Segment)
    → flat_map externals_of (flat_map (public_parts object.publics) segments) ≡ []
no_externals_in object [] = refl
no_externals_in object (segment ∷ segments) =
    flat_map-append externals_of (public_parts object.publics segment)
    (flat_map (public_parts object.publics) segments)
    ∙ ap (λ r. r ++ flat_map externals_of (flat_map (public_parts object.publics) segments))
    (nothing externals_of (public_parts object.publics segment) (no_externals_there object.publics segment))
    ∙ no_externals_in object segments

pub externals_told : (object : ObjectModule) → flat_map externals_of (names_parts object) ≡ object.externals
externals_told object =
    flat_map-append externals_of (external_parts object.externals)
    (flat_map (public_parts object.publics) (Absolute ∷ Code ∷ Data ∷ []))
    ∙ ap (λ r. r ++ flat_map externals_of
    (flat_map (public_parts object.publics) (Absolute ∷ Code ∷ Data ∷ [])))
    (externals_again object.externals)
    ∙ ap (λ r. object.externals ++ r) (no_externals_in object (Absolute ∷ Code ∷ Data ∷ []))
    ∙ append-nil object.externals

before_contents :
    (object : ObjectModule) (segment : Segment) (size : ℕ) → length_in (entries_for object) segment ≡ size
    → BeforeContents segment (length object.externals) size 0 (onto (names_parts object) (headed object))
before_contents object segment size told =
    let parts : List Part = names_parts object in
    let before : List Part = headed object in
    let are : AllByRecursion (IsNamesPart 2) parts = names_are object in
    let empty : filled_to segment (onto parts before) ≡ 0 =
    filled_onto segment parts before
    (all_weaker (IsNamesPart 2) (λ part. (end : ℕ) → end_by_content segment (content_of part) end ≡ end)
    (λ part is end. ap (λ c. end_by_content segment c end) is.no_content) parts are) in
    let counted : length (flat_map externals_of (onto parts before))
    ≡ length (flat_map externals_of parts) + 0 =
    length_onto externals_of parts before in
    let same : length (flat_map externals_of parts) ≡ length object.externals =
    ap length (externals_told object) in
    record {
      up = up_to_more 2 3 (onto parts before) (omega arith) (up_after object parts are);
      stated =
          ap (λ entries. length_in entries segment)
          (flat_map_onto entries_of parts before
          (all_weaker (IsNamesPart 2) (λ part. entries_of part ≡ []) (λ part is. is.no_entries) parts are)
          ∙ append-nil (entries_for object))
          ∙ told;
      to_here = omega (arith, empty);
      count = omega (arith, counted, same);
    }

-- the contents
contents_parts_accepted :
    (object : ObjectModule) → IsValid (length object.externals) object.code
    → IsValid (length object.externals) object.data_places
    → are_accepted (onto (names_parts object) (headed object)) (contents_parts object) ≡ true
contents_parts_accepted object code data_valid =
    let count : ℕ = length object.externals in
    let before : List Part = onto (names_parts object) (headed object) in
    let C : List Part = segment_parts object Code in
    let D : List Part = segment_parts object Data in
    accepted_append before C (D ++ [])
    (contents_accepted Code refl count (length object.code.places) 0 (cuts_of object.code.places) before
    (before_contents object Code (length object.code.places) (code_length_is object))
    code.cuts.order code.cuts.cut
    code.cuts.targets)
    (accepted_append (onto C before) D []
    (contents_accepted Data refl count (length object.data_places.places) 0
    (cuts_of object.data_places.places)
    (onto C before)
    (past_segment Code Data refl count (length object.data_places.places) 0 C before
    (segment_parts_are Code count (cuts_of object.code.places) code.cuts.targets)
    (before_contents object Data (length object.data_places.places) (data_length_is object)))
    data_valid.cuts.order data_valid.cuts.cut data_valid.cuts.targets)
    refl)

-- a record between header and end
pub record IsMiddle (part : Part) : Type 0 where
  pub up : rank_of (kind_of_part part) ≤ 3
  pub no_entries : entries_of part ≡ []
  pub no_name : name_of_header part ≡ None
  pub no_start : start_of_end part ≡ None

middle_names : (part : Part) → IsNamesPart 2 part → IsMiddle part
middle_names part is =
    let up : rank_of (kind_of_part part) ≤ 2 = is.up in
    record { up = omega (arith, up); no_entries = is.no_entries; no_name = is.no_name; no_start = is.no_start }

middle_contents : (own : Segment) (part : Part) → IsSegmentPart own part → IsMiddle part
middle_contents own part is =
    record { up = is.rank; no_entries = is.no_entries; no_name = is.no_name; no_start = is.no_start }

pub middle :
    (object : ObjectModule) → IsValid (length object.externals) object.code
    → IsValid (length object.externals) object.data_places
    → AllByRecursion IsMiddle (names_parts object ++ contents_parts object)
middle object code data_valid =
    let count : ℕ = length object.externals in
    let C : List Part = segment_parts object Code in
    let D : List Part = segment_parts object Data in
    all_append IsMiddle (names_parts object) (contents_parts object)
    (all_weaker (IsNamesPart 2) IsMiddle middle_names (names_parts object) (names_are object))
    (all_append IsMiddle C (D ++ [])
    (all_weaker (IsSegmentPart Code) IsMiddle (middle_contents Code) C
    (segment_parts_are Code count (cuts_of object.code.places) code.cuts.targets))
    (all_append IsMiddle D []
    (all_weaker (IsSegmentPart Data) IsMiddle (middle_contents Data) D
    (segment_parts_are Data count (cuts_of object.data_places.places) data_valid.cuts.targets)) tt))

-- the end
end_short : (start : Option ℕ) → length (body_of (ModuleEndPart start)) ≤ BODY_LIMIT
end_short None = (let l : 4 ≤ BODY_LIMIT = omega arith in l)
end_short (Some offset) = (let l : 4 ≤ BODY_LIMIT = omega arith in l)

end_accepted : (start : Option ℕ) (before : List Part) → UpTo 3 before
    → are_accepted before (ModuleEndPart start ∷ EndOfFilePart ∷ []) ≡ true
end_accepted start before up =
    let last : Part = ModuleEndPart start in
    and_from (is_accepted before last) (are_accepted (last ∷ before) (EndOfFilePart ∷ []))
    (accepted_by before last (record {
      limit = end_short start;
      follows = follows_end before up;
      body = refl;
      served = refl;
      content = refl;
      fixes = fit_nothing before last (latest_content before) (λ own. refl);
    }))
    (and_from (is_accepted (last ∷ before) EndOfFilePart) true
    (accepted_by (last ∷ before) EndOfFilePart (record {
      limit = (let l : 0 ≤ BODY_LIMIT = omega arith in l);
      follows = refl;
      body = refl;
      served = refl;
      content = refl;
      fixes = fit_nothing (last ∷ before) EndOfFilePart (latest_content (last ∷ before)) (λ own. refl);
    })) refl)

-- all records
pub parts_accepted :
    (object : ObjectModule) → IsObjectModule object → IsValid (length object.externals) object.code
    → IsValid (length object.externals) object.data_places
    → are_accepted [] (header_for object ∷ (names_parts object ++ contents_parts object) ++ end_parts object)
    ≡ true
parts_accepted object valid code data_valid =
    let before : List Part = headed object in
    let names : List Part = names_parts object in
    let contents : List Part = contents_parts object in
    and_from (is_accepted [] (header_for object))
    (are_accepted before ((names ++ contents) ++ end_parts object))
    (header_accepted object valid.name)
    (accepted_append before (names ++ contents) (end_parts object)
    (accepted_append before names contents (names_accepted object valid)
    (contents_parts_accepted object code data_valid))
    (end_accepted object.start (onto (names ++ contents) before)
    (up_to_onto 3 (names ++ contents) before (let u : 0 ≤ 3 = omega arith in u)
    (all_weaker IsMiddle (λ part. rank_of (kind_of_part part) ≤ 3) (λ part is. is.up) (names ++ contents)
    (middle object code data_valid)))))
