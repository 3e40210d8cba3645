-- The records that are written for a module say it again, so its text spells it and no other module, and
-- anything after its text is out of order.
use Rattle.object_laws.proofs.Prelude.{◌≡◌, ℕ, ◌+◌, true, cond, List, [], ◌∷◌, ◌++◌, length, map, flat_map, filter_map, reverse, slice_get, slice_index, Option, Some, None, option_map, option_and_then, refl, ap, sym, subst, ◌∙◌, AllByRecursion, cons_option, range_with_len, option_or, option_flatten, append_assoc, append-nil, reverse-append, flat_map-append, kind_of_type, first_body, record_fault, Fault, OutOfOrder, Alignment, Segment, Absolute, Code, Data, Stack, SetByte, Places, Public, ObjectModule, IsObjectModule, SegmentEntry, Part, ModuleEndPart, EndOfFilePart, is_ended, entries_of, externals_of, content_of, length_in, stated_length_of, are_accepted, fault_from_record, fault_of_record, fault_at, FixedContent, fixed_contents, set_in, alignment_in, places_in, publics_of, start_of_end, first_in, start_in, module_of, IsFileOf, Spells, HasFirstFault, header_for, external_parts, publics_in_segment, public_parts, segment_parts, written_parts, text_of, with_publics_in_order, all_weaker}
use Rattle.object_laws.proofs.Files.Unique.{spells_one, no_fault, one_fault}
use Rattle.object_laws.proofs.Texts.Runs.{item_at}
use Rattle.object_laws.proofs.Texts.NamesWritten.{IsNamesPart, no_publics_there, publics_again}
use Rattle.object_laws.proofs.Texts.ContentsTold.{fixed_skip, fixed_for, no_fix_first, fixed_cuts, set_in_cuts, set_past_cuts, places_again}
use Rattle.object_laws.proofs.Texts.Headed.{entries_for, code_length_is, data_length_is, stack_length_is, code_alignment_is, data_alignment_is}
use Rattle.object_laws.proofs.Texts.SegmentWritten.{cuts_of, IsSegmentPart, segment_parts_are}
use Rattle.object_laws.proofs.Texts.WrittenRecords.{IsValid, valid_segment, names_parts, contents_parts, end_parts, written_is, nothing, IsMiddle, names_are, middle, parts_accepted, externals_told}

-- all records
abbrev all_parts : ObjectModule → List Part
all_parts object = header_for object ∷ (names_parts object ++ contents_parts object) ++ end_parts object

-- what all records tell of a kind, by those between header and end
told_between :
    {A : Type 0} (f : Part → List A) (object : ObjectModule)
    → flat_map f (all_parts object)
    ≡ f (header_for object)
    ++ ((flat_map f (names_parts object) ++ flat_map f (contents_parts object))
    ++ flat_map f (end_parts object))
told_between f object =
    ap (λ r. f (header_for object) ++ r)
    (flat_map-append f (names_parts object ++ contents_parts object) (end_parts object)
    ∙ ap (λ r. r ++ flat_map f (end_parts object))
    (flat_map-append f (names_parts object) (contents_parts object)))

-- the entries of the header
entries_told :
    (object : ObjectModule) → IsValid (length object.externals) object.code
    → IsValid (length object.externals) object.data_places
    → flat_map entries_of (all_parts object) ≡ entries_for object
entries_told object code data_valid =
    ap (λ r. entries_for object ++ r)
    (flat_map-append entries_of (names_parts object ++ contents_parts object) (end_parts object)
    ∙ ap (λ r. r ++ flat_map entries_of (end_parts object))
    (nothing entries_of (names_parts object ++ contents_parts object)
    (all_weaker IsMiddle (λ part. entries_of part ≡ []) (λ part is. is.no_entries)
    (names_parts object ++ contents_parts object) (middle object code data_valid))))
    ∙ append-nil (entries_for object)

-- what the records of contents don't tell
no_externals_told :
    (object : ObjectModule) → IsValid (length object.externals) object.code
    → IsValid (length object.externals) object.data_places
    → flat_map externals_of (contents_parts object) ≡ []
no_externals_told object code data_valid =
    let C : List Part = segment_parts object Code in
    let D : List Part = segment_parts object Data in
    flat_map-append externals_of C (D ++ [])
    ∙ ap (λ r. r ++ flat_map externals_of (D ++ []))
    (nothing externals_of C
    (all_weaker (IsSegmentPart Code) (λ part. externals_of part ≡ []) (λ part is. is.no_externals) C
    (segment_parts_are Code (length object.externals) (cuts_of object.code.places) code.cuts.targets)))
    ∙ flat_map-append externals_of D []
    ∙ ap (λ r. r ++ [])
    (nothing externals_of D
    (all_weaker (IsSegmentPart Data) (λ part. externals_of part ≡ []) (λ part is. is.no_externals) D
    (segment_parts_are Data (length object.externals) (cuts_of object.data_places.places)
    data_valid.cuts.targets)))

no_publics_told :
    (object : ObjectModule) → IsValid (length object.externals) object.code
    → IsValid (length object.externals) object.data_places → flat_map publics_of (contents_parts object) ≡ []
no_publics_told object code data_valid =
    let C : List Part = segment_parts object Code in
    let D : List Part = segment_parts object Data in
    flat_map-append publics_of C (D ++ [])
    ∙ ap (λ r. r ++ flat_map publics_of (D ++ []))
    (nothing publics_of C
    (all_weaker (IsSegmentPart Code) (λ part. publics_of part ≡ []) (λ part is. is.no_publics) C
    (segment_parts_are Code (length object.externals) (cuts_of object.code.places) code.cuts.targets)))
    ∙ flat_map-append publics_of D []
    ∙ ap (λ r. r ++ [])
    (nothing publics_of D
    (all_weaker (IsSegmentPart Data) (λ part. publics_of part ≡ []) (λ part is. is.no_publics) D
    (segment_parts_are Data (length object.externals) (cuts_of object.data_places.places)
    data_valid.cuts.targets)))

-- the external names, and the publics
all_externals_told :
    (object : ObjectModule) → IsValid (length object.externals) object.code
    → IsValid (length object.externals) object.data_places
    → flat_map externals_of (all_parts object) ≡ object.externals
all_externals_told object code data_valid =
    told_between externals_of object
    ∙ ap (λ r. (r ++ flat_map externals_of (contents_parts object)) ++ []) (externals_told object)
    ∙ ap (λ r. (object.externals ++ r) ++ []) (no_externals_told object code data_valid)
    ∙ append-nil (object.externals ++ []) ∙ append-nil object.externals

public_parts_told :
    (object : ObjectModule) (segments : List Segment)
    → flat_map publics_of (flat_map (public_parts object.publics) segments)
    ≡ flat_map (λ segment. publics_in_segment segment object.publics) segments
public_parts_told object [] = refl
public_parts_told object (segment ∷ segments) =
    flat_map-append publics_of (public_parts object.publics segment)
    (flat_map (public_parts object.publics) segments)
    ∙ ap (λ r. r ++ flat_map publics_of (flat_map (public_parts object.publics) segments))
    (publics_again object.publics segment)
    ∙ ap (λ r. publics_in_segment segment object.publics ++ r) (public_parts_told object segments)

all_publics_told :
    (object : ObjectModule) → IsValid (length object.externals) object.code
    → IsValid (length object.externals) object.data_places
    → flat_map publics_of (all_parts object) ≡ (with_publics_in_order object).publics
all_publics_told object code data_valid =
    let publics : List Public = (with_publics_in_order object).publics in
    let segments : List Segment = Absolute ∷ Code ∷ Data ∷ [] in
    told_between publics_of object
    ∙ ap (λ r. (r ++ flat_map publics_of (contents_parts object)) ++ [])
    (flat_map-append publics_of (external_parts object.externals)
    (flat_map (public_parts object.publics) segments)
    ∙ ap (λ r. r ++ flat_map publics_of (flat_map (public_parts object.publics) segments))
    (nothing publics_of (external_parts object.externals) (no_publics_there object.externals))
    ∙ public_parts_told object segments)
    ∙ ap (λ r. (publics ++ r) ++ []) (no_publics_told object code data_valid)
    ∙ append-nil (publics ++ []) ∙ append-nil publics

-- the start
none_kept : {A B : Type 0} (f : A → Option B) (xs ys : List A) → AllByRecursion (λ x. f x ≡ None) xs
    → filter_map f (xs ++ ys) ≡ filter_map f ys
none_kept f [] ys all = refl
none_kept f (x ∷ xs) ys all =
    ap (λ o. cons_option o (filter_map f (xs ++ ys))) all.0 ∙ none_kept f xs ys all.1

start_again : (start : Option ℕ) → first_in
    (filter_map start_of_end (ModuleEndPart start ∷ EndOfFilePart ∷ [])) ≡ start
start_again None = refl
start_again (Some offset) = refl

start_told :
    (object : ObjectModule) → IsValid (length object.externals) object.code
    → IsValid (length object.externals) object.data_places → start_in (all_parts object) ≡ object.start
start_told object code data_valid =
    ap first_in
    (none_kept start_of_end (names_parts object ++ contents_parts object) (end_parts object)
    (all_weaker IsMiddle (λ part. start_of_end part ≡ None) (λ part is. is.no_start)
    (names_parts object ++ contents_parts object) (middle object code data_valid)))
    ∙ start_again object.start

-- the contents
abbrev all_contents : ObjectModule → List FixedContent
all_contents object =
    map (fixed_for Code) (cuts_of object.code.places)
    ++ (map (fixed_for Data) (cuts_of object.data_places.places) ++ [])

contents_told :
    (object : ObjectModule) → IsValid (length object.externals) object.code
    → IsValid (length object.externals) object.data_places
    → fixed_contents (all_parts object) ≡ all_contents object
contents_told object code data_valid =
    let count : ℕ = length object.externals in
    let C : List Part = segment_parts object Code in
    let D : List Part = segment_parts object Data in
    let end : List Part = end_parts object in
    let joins : (C ++ (D ++ [])) ++ end ≡ C ++ (D ++ end) =
    append_assoc C (D ++ []) end ∙ ap (λ r. C ++ (r ++ end)) (append-nil D) in
    ap fixed_contents (append_assoc (names_parts object) (contents_parts object) end)
    ∙ fixed_skip (names_parts object) (contents_parts object ++ end)
    (all_weaker (IsNamesPart 2) (λ part. content_of part ≡ None) (λ part is. is.no_content)
    (names_parts object)
    (names_are object))
    ∙ ap fixed_contents joins
    ∙ fixed_cuts Code count (cuts_of object.code.places) (D ++ end)
    (no_fix_first Data (cuts_of object.data_places.places) end refl) code.cuts.targets
    ∙ ap (λ r. map (fixed_for Code) (cuts_of object.code.places) ++ r)
    (fixed_cuts Data count (cuts_of object.data_places.places) end refl data_valid.cuts.targets)

or_none : {A : Type 0} (o : Option A) → option_or o None ≡ o
or_none None = refl
or_none (Some x) = refl

code_told :
    (object : ObjectModule) → IsValid (length object.externals) object.code → (number : ℕ)
    → set_in (all_contents object) Code (0 + number) ≡ option_flatten (slice_get object.code.places number)
code_told object code number =
    let later : List FixedContent = map (fixed_for Data) (cuts_of object.data_places.places) ++ [] in
    set_in_cuts Code refl (length object.externals) (0 + number)
    (cuts_of object.code.places) later code.cuts.cut
    code.cuts.targets
    ∙ ap (option_or (item_at (0 + number) (cuts_of object.code.places)))
    (set_past_cuts Data Code refl (0 + number) (cuts_of object.data_places.places) [])
    ∙ or_none (item_at (0 + number) (cuts_of object.code.places)) ∙ code.cuts.tell number

data_told :
    (object : ObjectModule) → IsValid (length object.externals) object.data_places → (number : ℕ)
    → set_in (all_contents object) Data (0 + number)
    ≡ option_flatten (slice_get object.data_places.places number)
data_told object data_valid number =
    let later : List FixedContent = map (fixed_for Data) (cuts_of object.data_places.places) ++ [] in
    set_past_cuts Code Data refl (0 + number) (cuts_of object.code.places) later
    ∙ set_in_cuts Data refl (length object.externals) (0 + number) (cuts_of object.data_places.places) []
    data_valid.cuts.cut data_valid.cuts.targets
    ∙ or_none (item_at (0 + number) (cuts_of object.data_places.places)) ∙ data_valid.cuts.tell number

-- the places of a segment
abbrev places_with : Alignment → List (Option SetByte) → Places
places_with alignment places = record { alignment = alignment; places = places }

abbrev places_by_entries : List SegmentEntry → List FixedContent → Segment → Places
places_by_entries entries contents segment =
    places_with (alignment_in entries segment)
    (map (set_in contents segment) (range_with_len 0 (length_in entries segment)))

places_from :
    (entries : List SegmentEntry) (contents : List FixedContent) (segment : Segment) (places : Places)
    → alignment_in entries segment ≡ places.alignment → length_in entries segment ≡ length places.places
    → ((number : ℕ) → set_in contents segment (0 + number) ≡ option_flatten (slice_get places.places number))
    → places_by_entries entries contents segment ≡ places
places_from entries contents segment places aligned long told =
    ap (λ a. places_with a (map (set_in contents segment) (range_with_len 0 (length_in entries segment))))
    aligned
    ∙ ap (λ n. places_with places.alignment (map (set_in contents segment) (range_with_len 0 n))) long
    ∙ ap (places_with places.alignment) (places_again 0 (set_in contents segment) places.places told)

segment_told :
    (parts : List Part) (entries : List SegmentEntry) (contents : List FixedContent) (segment : Segment)
    → flat_map entries_of parts ≡ entries → fixed_contents parts ≡ contents
    → places_in parts segment ≡ places_by_entries entries contents segment
segment_told parts entries contents segment e c =
    ap (λ es. places_by_entries es (fixed_contents parts) segment) e
    ∙ ap (λ cs. places_by_entries entries cs segment) c

-- a module by its parts
abbrev module_with : (name : List ℕ) → Places → Places → ℕ → List Public → List (List ℕ)
    → Option ℕ → ObjectModule
module_with name code data_places stack_length publics externals start = record {
  name = name;
  code = code;
  data_places = data_places;
  stack_length = stack_length;
  publics = publics;
  externals = externals;
  start = start;
}

same_module :
    (object : ObjectModule) (code data_places : Places) (stack_length : ℕ) (publics : List Public)
    → (externals : List (List ℕ)) (start : Option ℕ) → code ≡ object.code → data_places ≡ object.data_places
    → stack_length ≡ object.stack_length → publics ≡ (with_publics_in_order object).publics
    → externals ≡ object.externals → start ≡ object.start
    → module_with object.name code data_places stack_length publics externals start
    ≡ with_publics_in_order object
same_module object code data_places stack_length publics externals start a b c d e f =
    let own : ObjectModule = with_publics_in_order object in
    ap (λ x. module_with object.name x data_places stack_length publics externals start) a
    ∙ ap (λ x. module_with object.name object.code x stack_length publics externals start) b
    ∙ ap (λ x. module_with object.name object.code object.data_places x publics externals start) c
    ∙ ap (λ x. module_with object.name object.code object.data_places object.stack_length x externals start) d
    ∙ ap (λ x. module_with object.name object.code object.data_places object.stack_length own.publics x start)
    e
    ∙ ap (λ x. module_with object.name object.code object.data_places object.stack_length own.publics
    object.externals x) f

module_again :
    (object : ObjectModule) → IsValid (length object.externals) object.code
    → IsValid (length object.externals) object.data_places
    → module_of (all_parts object) ≡ with_publics_in_order object
unfolding module_of
module_again object code data_valid =
    let parts : List Part = all_parts object in
    let entries : List SegmentEntry = entries_for object in
    let of_header : flat_map entries_of parts ≡ entries = entries_told object code data_valid in
    let of_contents : fixed_contents parts ≡ all_contents object = contents_told object code data_valid in
    same_module object (places_in parts Code) (places_in parts Data) (stated_length_of Stack parts)
    (flat_map publics_of parts) (flat_map externals_of parts) (start_in parts)
    (segment_told parts entries (all_contents object) Code of_header of_contents
    ∙ places_from entries (all_contents object) Code object.code (code_alignment_is object code.begins)
    (code_length_is object) (code_told object code))
    (segment_told parts entries (all_contents object) Data of_header of_contents
    ∙ places_from entries (all_contents object) Data object.data_places
    (data_alignment_is object data_valid.begins)
    (data_length_is object) (data_told object data_valid))
    (ap (λ es. length_in es Stack) of_header ∙ stack_length_is object)
    (all_publics_told object code data_valid) (all_externals_told object code data_valid)
    (start_told object code data_valid)

-- the end of a file is the last of what is written
ended_at : (before : List Part) (last : Part) → is_ended (last ∷ []) ≡ true
    → is_ended (reverse (before ++ last ∷ [])) ≡ true
ended_at before last h = ap is_ended (reverse-append before (last ∷ [])) ∙ h

all_ended : (object : ObjectModule) → is_ended (reverse (all_parts object)) ≡ true
all_ended object =
    let between : List Part = names_parts object ++ contents_parts object in
    ap (λ r. is_ended (reverse (header_for object ∷ r)))
    (sym (append_assoc between (ModuleEndPart object.start ∷ []) (EndOfFilePart ∷ [])))
    ∙ ended_at (header_for object ∷ (between ++ ModuleEndPart object.start ∷ [])) EndOfFilePart refl

-- what is written for a module is a file, and says the module
pub record IsWritten (object : ObjectModule) : Type 0 where
  pub file : IsFileOf (text_of object) (written_parts object)
  pub said : module_of (written_parts object) ≡ with_publics_in_order object

pub written : (object : ObjectModule) → IsObjectModule object → IsWritten object
written object valid =
    let code = valid_segment (length object.externals) object.code valid.code in
    let data_valid = valid_segment (length object.externals) object.data_places valid.data_places in
    record {
      file = record {
        accepted = ap (are_accepted []) (written_is object) ∙ parts_accepted object valid code data_valid;
        ended = ap (λ parts. is_ended (reverse parts)) (written_is object) ∙ all_ended object;
        spelled = refl;
      };
      said = ap module_of (written_is object) ∙ module_again object code data_valid;
    }

pub text_spells : (object : ObjectModule) → IsObjectModule object
    → Spells (text_of object) (with_publics_in_order object)
text_spells object valid =
    let w = written object valid in
    record { parts = written_parts object; file = w.file; said = sym w.said }

-- any byte after the text is out of order
after_end : (before : List Part) (first : ℕ) (rest : List ℕ) → is_ended before ≡ true
    → fault_at before (first ∷ rest) ≡ Some OutOfOrder
unfolding fault_at
after_end before first rest h =
    ap (λ ended.
    cond ended (Some OutOfOrder)
    (option_or (option_map fault_from_record (record_fault (first ∷ rest)))
    (option_and_then (λ kind. fault_of_record before kind (first_body (first ∷ rest)))
    (kind_of_type (slice_index (first ∷ rest) 0))))) h

pub text_and_more :
    (object : ObjectModule) → IsObjectModule object → (first : ℕ) (rest : List ℕ)
    → HasFirstFault (text_of object ++ first ∷ rest) OutOfOrder
text_and_more object valid first rest =
    let w = written object valid in
    record {
      before = written_parts object;
      rest = first ∷ rest;
      accepted = w.file.accepted;
      spelled = refl;
      at_rest = after_end (reverse (written_parts object)) first rest w.file.ended;
    }

-- What a reader gives of these texts: it is told by what it says of any bytes.
pub written_read :
    (bytes : List ℕ) (read object : ObjectModule) → Spells bytes read → IsObjectModule object
    → bytes ≡ text_of object
    → read ≡ with_publics_in_order object
written_read bytes read object spelled valid is =
    spells_one bytes read (with_publics_in_order object) spelled
    (subst (λ b. Spells b (with_publics_in_order object)) (sym is) (text_spells object valid))

pub written_not_refused :
    (bytes : List ℕ) (fault : Fault) (object : ObjectModule) → HasFirstFault bytes fault
    → IsObjectModule object
    → bytes ≡ text_of object → ⊥
written_not_refused bytes fault object has valid is =
    no_fault bytes (with_publics_in_order object) fault
    (subst (λ b. Spells b (with_publics_in_order object)) (sym is) (text_spells object valid)) has

pub more_is_out_of_order :
    (bytes : List ℕ) (fault : Fault) (object : ObjectModule) (first : ℕ) (rest : List ℕ)
    → HasFirstFault bytes fault
    → IsObjectModule object → bytes ≡ text_of object ++ first ∷ rest → fault ≡ OutOfOrder
more_is_out_of_order bytes fault object first rest has valid is =
    one_fault bytes fault OutOfOrder has
    (subst (λ b. HasFirstFault b OutOfOrder) (sym is) (text_and_more object valid first rest))

pub more_not_read :
    (bytes : List ℕ) (read object : ObjectModule) (first : ℕ) (rest : List ℕ) → Spells bytes read
    → IsObjectModule object → bytes ≡ text_of object ++ first ∷ rest → ⊥
more_not_read bytes read object first rest spelled valid is =
    no_fault bytes read OutOfOrder spelled
    (subst (λ b. HasFirstFault b OutOfOrder) (sym is) (text_and_more object valid first rest))
