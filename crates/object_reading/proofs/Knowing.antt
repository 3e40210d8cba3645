-- What the state of a judgement knows of the records that were passed, of which the latest stands first.
use Rattle.object_reading.proofs.Prelude.{◌≡◌, ℕ, ◌==◌, Bool, true, false, not, nat_le, cond, List, [], ◌∷◌, ◌++◌, length, flat_map, reverse, Option, Some, None, Result, Ok, Err, refl, ap, ◌∙◌, list_all, filter_map, option_map_or, reverse-append, append-nil, filter_map-append, flat_map-append, RecordKind, first_that_holds, Fault, WrongBody, WrongAlignment, ContentMisplaced, FixMisplaced, Segment, Code, Data, rank_of, entries_of, externals_of, content_of, latest_content, filled_to, fixes_of, leading_fixes, SegmentEntry, Content, Part, kind_of_part, is_body, is_served, ascend_from, fits_segment, fit_content, part_fault, first_in, name_of_header, start_of_end, name_in, start_in, Extents, nothing_said, extents_after, Marked, AreMarked, State, fit_nothing}
use Rattle.object_reading.proofs.Accepting.{KnowsNames}

-- no record has a greater rank
abbrev pub is_early : (rank : ℕ) → List Part → Bool
is_early rank [] = true
is_early rank (latest ∷ others) = nat_le (rank_of (kind_of_part latest)) rank

-- the latest record is a content, or lists fixes of one
abbrev pub in_contents : List Part → Bool
in_contents [] = false
in_contents (latest ∷ others) = rank_of (kind_of_part latest) == 3

-- the latest content, and the bytes of its fixes
pub record HasContent (before : List Part) (content : Marked) : Type 0 where
  pub latest : latest_content before ≡ Some content.content
  pub marked : AreMarked content.marks content.content (leading_fixes (content.content).segment before)

-- what the header says, which stands in any order of the records
pub record SaysHeader (before : List Part) (name : List ℕ) (extents : Extents) : Type 0 where
  pub entries : List SegmentEntry
  pub ascending : ascend_from 0 entries ≡ true
  pub said : extents ≡ extents_after entries nothing_said
  pub stated : flat_map entries_of before ≡ entries
  pub in_order : flat_map entries_of (reverse before) ≡ entries
  pub named : name_in (reverse before) ≡ name

pub record Knows (before : List Part) (state : State) : Type 0 where
  pub header : SaysHeader before state.name state.extents
  pub names : KnowsNames before state.names
  pub externals : state.external_count ≡ length (flat_map externals_of before)
  pub counted : is_early 1 before ≡ true → length state.names ≡ state.external_count
  pub code_end : state.code_end ≡ filled_to Code before
  pub data_end : state.data_end ≡ filled_to Data before
  pub content : in_contents before ≡ true → HasContent before state.content
  pub start : start_in (reverse before) ≡ state.start
  pub no_start : is_early 3 before ≡ true → filter_map start_of_end (reverse before) ≡ []

-- a part that was read and accepted, and is known now
pub record Accepted (before : List Part) (kind : RecordKind) (found : Option Part)
    (state : State) : Type 0 where
  pub part : Part
  pub of_kind : kind_of_part part ≡ kind
  pub read : found ≡ Some part
  pub no_fault : part_fault before part ≡ None
  pub knows : Knows (part ∷ before) state

-- what is true of a record that was read, as it was judged
abbrev pub Verdict : (before : List Part) → RecordKind → (found : Option Part) → Result State Fault → Type 0
Verdict before kind found (Ok state) = Accepted before kind found state
Verdict before kind found (Err fault) = option_map_or (part_fault before) found (Some WrongBody) ≡ Some fault

-- a body that can't be read is wrong either way
pub wrong_either_way :
    (before : List Part) (kind : RecordKind) (b : Bool)
    → Verdict before kind None (cond b (Err WrongBody) (Err WrongBody))
wrong_either_way before kind true = refl
wrong_either_way before kind false = refl

-- the last of the records in their order
last_first : (part : Part) (before : List Part) → reverse (part ∷ before) ≡ reverse before ++ part ∷ []
last_first part before = reverse-append (part ∷ []) before

pub filtered :
    {A : Type 0} (f : Part → Option A) (part : Part) (before : List Part)
    → filter_map f (reverse (part ∷ before)) ≡ filter_map f (reverse before) ++ filter_map f (part ∷ [])
filtered f part before =
    ap (filter_map f) (last_first part before) ∙ filter_map-append f (reverse before) (part ∷ [])

none_of : {A : Type 0} (f : Part → Option A) (part : Part) → f part ≡ None → filter_map f (part ∷ []) ≡ []
none_of {A} f part e = go (f part) e
  where
    go : (found : Option A) → found ≡ None → filter_map (λ (p : Part). found) (part ∷ []) ≡ []
    go None h = refl
    go (Some x) h = absurd (let bad : Some x ≡ None = h in cc)

pub filtered_as_before :
    {A : Type 0} (f : Part → Option A) (part : Part) (before : List Part) → f part ≡ None
    → filter_map f (reverse (part ∷ before)) ≡ filter_map f (reverse before)
filtered_as_before f part before none =
    filtered f part before
    ∙ ap (λ l. filter_map f (reverse before) ++ l) (none_of f part none)
    ∙ append-nil (filter_map f (reverse before))

-- the header stays what it was, and the start
pub header_stays :
    (before : List Part) (part : Part) (name : List ℕ) (extents : Extents) → SaysHeader before name extents
    → entries_of part ≡ [] → name_of_header part ≡ None → SaysHeader (part ∷ before) name extents
header_stays before part name extents h none unnamed = record {
  entries = h.entries;
  ascending = h.ascending;
  said = h.said;
  stated = ap (λ l. l ++ flat_map entries_of before) none ∙ h.stated;
  in_order =
      ap (flat_map entries_of) (last_first part before)
      ∙ flat_map-append entries_of (reverse before) (part ∷ [])
      ∙ ap (λ l. flat_map entries_of (reverse before) ++ (l ++ [])) none
      ∙ append-nil (flat_map entries_of (reverse before)) ∙ h.in_order;
  named =
      ap (λ l. option_map_or (λ (n : List ℕ). n) (first_in l) [])
      (filtered_as_before name_of_header part before unnamed)
      ∙ h.named;
}

pub start_stays :
    (before : List Part) (part : Part) (start : Option ℕ) → start_in (reverse before) ≡ start
    → start_of_end part ≡ None → start_in (reverse (part ∷ before)) ≡ start
start_stays before part start h none = ap first_in (filtered_as_before start_of_end part before none) ∙ h

-- the first of the rules that a part breaks
abbrev pub fault_by : (body served placed fixed : Bool) → Option Fault
fault_by body served placed fixed =
    first_that_holds
    ((not body, WrongBody) ∷ (not served, WrongAlignment) ∷ (not placed, ContentMisplaced)
    ∷ (not fixed, FixMisplaced) ∷ [])

-- the fault of a part that has no entries and is no content
pub fault_where :
    (before : List Part) (part : Part) → entries_of part ≡ [] → content_of part ≡ None
    → part_fault before part
    ≡ fault_by (is_body before part) true true (fit_content before part (latest_content before))
fault_where before part no_entries no_content =
    ap (λ (entries : List SegmentEntry).
    first_that_holds
    ((not (is_body before part), WrongBody) ∷ (not (list_all is_served entries), WrongAlignment)
    ∷ (option_map_or (λ content. not (fits_segment before content)) (content_of part) false, ContentMisplaced)
    ∷ (not (fit_content before part (latest_content before)), FixMisplaced) ∷ [])) no_entries
    ∙ ap (λ (content : Option Content).
    first_that_holds
    ((not (is_body before part), WrongBody) ∷ (false, WrongAlignment)
    ∷ (option_map_or (λ c. not (fits_segment before c)) content false, ContentMisplaced)
    ∷ (not (fit_content before part (latest_content before)), FixMisplaced) ∷ [])) no_content

-- and of one that has no fixes either
pub plain_fault :
    (before : List Part) (part : Part) → entries_of part ≡ [] → content_of part ≡ None
    → ((own : Segment) → fixes_of own part ≡ [])
    → part_fault before part ≡ fault_by (is_body before part) true true true
plain_fault before part no_entries no_content no_fixes =
    fault_where before part no_entries no_content
    ∙ ap (λ fixed. fault_by (is_body before part) true true fixed)
    (fit_nothing before part (latest_content before) no_fixes)
