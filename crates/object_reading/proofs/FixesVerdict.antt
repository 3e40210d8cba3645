-- Fix records are judged as the rules say.
use Rattle.object_reading.proofs.Prelude.{◌≡◌, ℕ, ◌+◌, ◌*◌, Bool, true, false, not, ◌&&◌, nat_lt, nat_le, cond, List, [], ◌∷◌, ◌++◌, length, flat_map, Option, Some, None, is_some, option_map, option_and_then, unwrap_or, Err, refl, ap, sym, subst, ◌∙◌, list_all, option_or, option_map_or, RecordKind, WrongBody, Fix, FixKind, Segment, Absolute, is_empty, rank_of, is_header, is_fix_record, may_follow, externals_of, names_of, content_of, latest_content, fixes_of, is_among, Reference, Content, Part, ExternalReferencesPart, RelocationPart, IntersegmentPart, kind_of_part, segment_of, fix_kind_of, references_in, words_in, external_references_in, relocation_in, intersegment_in, is_body, is_other_segment, fit_content, part_fault, fix_head, Marked, marks_after, marked_after, marked_with, is_known, target_fits, State, with_fixes, fixes_placed, fixes_taken, false≢true}
use Rattle.omf80.specs.declared.kind.RecordKind.TheVariants as kinds
use Rattle.object_reading.proofs.Accepting.{KnowsNames, FixesJudged, fixes_judged}
use Rattle.object_reading.proofs.Knowing.{Knows, HasContent, Verdict, fault_by, is_early, fault_where}
use Rattle.object_reading.proofs.NamesVerdict.{some_items}
use Rattle.object_reading.proofs.KnownAfter.{Plain, follows_early, follows_content, known_after}

-- the state has a content that fixes may belong to
record Ready (before : List Part) (state : State) : Type 0 where
  knows : Knows before state
  early : is_early 3 before ≡ true
  has : HasContent before state.content

-- a part that lists fixes
record ListsFixes (part : Part) : Type 0 where
  plain : Plain part
  nameless : names_of part ≡ []
  no_externals : externals_of part ≡ []
  late : nat_le (rank_of (kind_of_part part)) 1 ≡ false
  of_fixes : is_fix_record (kind_of_part part) ≡ true

-- the fault of such a part
fixes_fault :
    (before : List Part) (part : Part) (content : Content) (body fixed : Bool) → ListsFixes part
    → latest_content before ≡ Some content
    → is_body before part ≡ body → fit_content before part (Some content) ≡ fixed
    → part_fault before part ≡ fault_by body true true fixed
fixes_fault before part content body fixed lists latest a b =
    fault_where before part (lists.plain).no_entries (lists.plain).no_content
    ∙ ap (λ t. fault_by t true true (fit_content before part (latest_content before))) a
    ∙ ap (λ latest_one. fault_by body true true (fit_content before part latest_one)) latest
    ∙ ap (fault_by body true true) b

names_as_before :
    (before : List Part) (part : Part) (known : List (List ℕ)) → names_of part ≡ [] → KnowsNames before known
    → KnowsNames (part ∷ before) known
names_as_before before part known none k name =
    ap (λ l. is_among name (l ++ flat_map names_of before)) none ∙ k name

content_as_before :
    (before : List Part) (part : Part) (content : Content) → content_of part ≡ None
    → latest_content before ≡ Some content → latest_content (part ∷ before) ≡ Some content
content_as_before before part content none latest =
    ap (λ o. option_or o (latest_content before)) none ∙ latest

-- a part whose body is right, as its fixes are placed
placed_judged :
    (before : List Part) (state : State) (part : Part) (found : Option (List Bool)) → Ready before state
    → ListsFixes part → is_body before part ≡ true
    → FixesJudged before part (state.content).content found
    → Verdict before (kind_of_part part) (Some part)
    (with_fixes state (option_map (marked_with (state.content).content) found))
placed_judged before state part None r lists body judged =
    fixes_fault before part (state.content).content true false lists (r.has).latest body judged
placed_judged before state part (Some marks) r lists body judged = record {
  part = part;
  of_kind = refl;
  read = refl;
  no_fault = fixes_fault before part (state.content).content true true lists (r.has).latest body judged.0;
  knows =
      known_after before part state state.names state.external_count
      (marked_with (state.content).content marks)
      r.knows lists.plain r.early
      (record {
        names_known = names_as_before before part state.names lists.nameless (r.knows).names;
        externals =
            (r.knows).externals
            ∙ sym (ap (λ l. length (l ++ flat_map externals_of before)) lists.no_externals);
        counted = λ h. absurd (false≢true (sym lists.late ∙ h));
        content_known = λ _. record {
          latest =
              content_as_before before part (state.content).content (lists.plain).no_content (r.has).latest;
          marked = judged.1;
        };
      });
}

part_judged :
    (before : List Part) (state : State) (part : Part) (body : Bool) → Ready before state
    → ListsFixes part → is_body before part ≡ body
    → Verdict before (kind_of_part part) (Some part)
    (cond body
    (with_fixes state (marked_after state.content (fixes_of ((state.content).content).segment part)))
    (Err WrongBody))
part_judged before state part false r lists body =
    fixes_fault before part (state.content).content false
    (fit_content before part (Some (state.content).content)) lists
    (r.has).latest body refl
part_judged before state part true r lists body =
    placed_judged before state part
    (marks_after (state.content).content (fixes_of ((state.content).content).segment part)
    (state.content).marks) r lists
    body
    (fixes_judged before part (state.content).content (state.content).marks lists.of_fixes (r.has).marked)

-- entries that can't be read
unread :
    (before : List Part) (state : State) (kind : RecordKind) (a b : Bool) (marked : Option Marked)
    → Verdict before kind None (cond (a && b && false) (with_fixes state marked) (Err WrongBody))
unread before state kind true true marked = refl
unread before state kind true false marked = refl
unread before state kind false b marked = refl

and_true : (a : Bool) → (a && true) ≡ a
and_true true = refl
and_true false = refl

-- some bytes are some references, or some words
some_references : (entries : List ℕ) (items : List Reference) → references_in entries ≡ Some items
    → is_empty items ≡ is_empty entries
some_references [] items e = sym (ap (λ o. option_map_or is_empty o true) e)
some_references (a ∷ []) items e = absurd (let bad : None ≡ Some items = e in cc)
some_references (a ∷ b ∷ []) items e = absurd (let bad : None ≡ Some items = e in cc)
some_references (a ∷ b ∷ c ∷ []) items e = absurd (let bad : None ≡ Some items = e in cc)
some_references (low ∷ high ∷ offset_low ∷ offset_high ∷ rest) items e =
    some_items (record { external = low + 256 * high; offset = offset_low + 256 * offset_high })
    (references_in rest)
    items e

some_words : (entries : List ℕ) (items : List ℕ) → words_in entries ≡ Some items
    → is_empty items ≡ is_empty entries
some_words [] items e = sym (ap (λ o. option_map_or is_empty o true) e)
some_words (a ∷ []) items e = absurd (let bad : None ≡ Some items = e in cc)
some_words (low ∷ high ∷ rest) items e = some_items (low + 256 * high) (words_in rest) items e

-- external names that there are
references_known :
    (count other : ℕ) (own : Segment) (kind : FixKind) (references : List Reference) → count ≡ other
    → list_all (λ (fix : Fix). is_known count fix.target)
    (fixes_of own (ExternalReferencesPart kind references))
    ≡ list_all (λ (reference : Reference). nat_lt reference.external other) references
references_known count other own kind [] same = refl
references_known count other own kind (first ∷ others) same =
    ap (λ n. nat_lt first.external n
    && list_all (λ (fix : Fix). is_known count fix.target)
    (fixes_of own (ExternalReferencesPart kind others))) same
    ∙ ap (λ b. nat_lt first.external other && b) (references_known count other own kind others same)

-- segments are always known
places_known :
    (count : ℕ) (target : Segment) (kind : FixKind) (offsets : List ℕ)
    → list_all (λ (fix : Fix). is_known count fix.target) (fixes_of target (RelocationPart kind offsets))
    ≡ true
places_known count target kind [] = refl
places_known count target kind (offset ∷ others) = places_known count target kind others

-- references to external names
references_judged :
    (before : List Part) (state : State) (kind : FixKind) (entries : List ℕ) (read : Option (List Reference))
    → Ready before state
    → ((items : List Reference) → read ≡ Some items → is_empty items ≡ is_empty entries)
    → Verdict before kinds.ExternalReferences (option_map (ExternalReferencesPart kind) read)
    (cond
    (not (is_empty entries) && true
    && (is_some read
    && list_all (λ (fix : Fix). is_known state.external_count fix.target)
    (fixes_of Absolute (ExternalReferencesPart kind (unwrap_or read [])))))
    (with_fixes state
    (marked_after state.content (fixes_of Absolute (ExternalReferencesPart kind (unwrap_or read [])))))
    (Err WrongBody))
references_judged before state kind entries None r alike =
    unread before state kinds.ExternalReferences (not (is_empty entries)) true
    (marked_after state.content (fixes_of Absolute (ExternalReferencesPart kind [])))
references_judged before state kind entries (Some references) r alike =
    part_judged before state (ExternalReferencesPart kind references) _ r
    (record {
      plain = record { no_entries = refl; unnamed = refl; no_content = refl; no_start = refl };
      nameless = refl;
      no_externals = refl;
      late = refl;
      of_fixes = refl;
    })
    (ap (λ b. not b
    && list_all (λ (reference : Reference). nat_lt reference.external (length (flat_map externals_of before)))
    references)
    (alike references refl)
    ∙ ap (λ b. b
    && list_all (λ (reference : Reference). nat_lt reference.external (length (flat_map externals_of before)))
    references)
    (sym (and_true (not (is_empty entries))))
    ∙ ap (λ b. (not (is_empty entries) && true) && b)
    (sym (references_known state.external_count (length (flat_map externals_of before))
    Absolute kind references
    (r.knows).externals)))

references_of_kind :
    (before : List Part) (state : State) (entries : List ℕ) (found : Option FixKind) → Ready before state
    → Verdict before kinds.ExternalReferences
    (option_and_then
    (λ (kind : FixKind). option_map (ExternalReferencesPart kind) (references_in entries)) found)
    (option_map_or (fixes_placed state kinds.ExternalReferences)
    (option_map (fix_head None entries) found) (Err WrongBody))
references_of_kind before state entries None r = refl
references_of_kind before state entries (Some kind) r =
    references_judged before state kind entries (references_in entries) r (some_references entries)

ready :
    (before : List Part) (state : State) (kind : RecordKind) → Knows before state
    → may_follow before kind ≡ true
    → is_fix_record kind ≡ true → is_header kind ≡ false → rank_of kind ≡ 3 → Ready before state
ready before state kind k follows fixes other rank = record {
  knows = k;
  early =
      subst (λ n. is_early n before ≡ true) rank
      (follows_early before kind follows other (ap (λ n. nat_le n 3) rank));
  has = k.content (follows_content before kind follows fixes);
}

pub references_verdict :
    (before : List Part) (state : State) (body : List ℕ) → Knows before state
    → may_follow before kinds.ExternalReferences ≡ true
    → Verdict before kinds.ExternalReferences (external_references_in body)
    (fixes_taken state kinds.ExternalReferences body)
references_verdict before state [] k follows = refl
references_verdict before state (number ∷ entries) k follows =
    references_of_kind before state entries (fix_kind_of number)
    (ready before state kinds.ExternalReferences k follows refl refl refl)

-- places that refer to a segment
all_known :
    (count : ℕ) (target : Segment) (kind : FixKind) (offsets : List ℕ) (a b : Bool)
    → (a && b) ≡ (a && b && (true
    && list_all (λ (fix : Fix). is_known count fix.target) (fixes_of target (RelocationPart kind offsets))))
all_known count target kind offsets a b =
    sym (ap (λ t. a && b && (true && t)) (places_known count target kind offsets) ∙ and_true (a && b))

places_judged :
    (before : List Part) (state : State) (kind : FixKind) (entries : List ℕ) (read : Option (List ℕ))
    → Ready before state
    → ((items : List ℕ) → read ≡ Some items → is_empty items ≡ is_empty entries)
    → Verdict before kinds.Relocation (option_map (RelocationPart kind) read)
    (cond
    (not (is_empty entries) && true
    && (is_some read
    && list_all (λ (fix : Fix). is_known state.external_count fix.target)
    (fixes_of ((state.content).content).segment (RelocationPart kind (unwrap_or read [])))))
    (with_fixes state
    (marked_after state.content
    (fixes_of ((state.content).content).segment (RelocationPart kind (unwrap_or read [])))))
    (Err WrongBody))
places_judged before state kind entries None r alike =
    unread before state kinds.Relocation (not (is_empty entries)) true
    (marked_after state.content (fixes_of ((state.content).content).segment (RelocationPart kind [])))
places_judged before state kind entries (Some offsets) r alike =
    part_judged before state (RelocationPart kind offsets) _ r
    (record {
      plain = record { no_entries = refl; unnamed = refl; no_content = refl; no_start = refl };
      nameless = refl;
      no_externals = refl;
      late = refl;
      of_fixes = refl;
    })
    (ap not (alike offsets refl) ∙ sym (and_true (not (is_empty entries)))
    ∙ all_known state.external_count ((state.content).content).segment kind offsets
    (not (is_empty entries)) true)

places_of_kind :
    (before : List Part) (state : State) (entries : List ℕ) (found : Option FixKind) → Ready before state
    → Verdict before kinds.Relocation
    (option_and_then (λ (kind : FixKind). option_map (RelocationPart kind) (words_in entries)) found)
    (option_map_or (fixes_placed state kinds.Relocation)
    (option_map (fix_head (Some ((state.content).content).segment) entries) found) (Err WrongBody))
places_of_kind before state entries None r = refl
places_of_kind before state entries (Some kind) r =
    places_judged before state kind entries (words_in entries) r (some_words entries)

pub relocation_verdict :
    (before : List Part) (state : State) (body : List ℕ) → Knows before state
    → may_follow before kinds.Relocation ≡ true
    → Verdict before kinds.Relocation (relocation_in body) (fixes_taken state kinds.Relocation body)
relocation_verdict before state [] k follows = refl
relocation_verdict before state (number ∷ entries) k follows =
    places_of_kind before state entries (fix_kind_of number)
    (ready before state kinds.Relocation k follows refl refl refl)

-- places that refer to another segment
others_judged :
    (before : List Part) (state : State) (target : Segment) (kind : FixKind) (entries : List ℕ)
    (read : Option (List ℕ)) → Ready before state
    → ((items : List ℕ) → read ≡ Some items → is_empty items ≡ is_empty entries)
    → Verdict before kinds.IntersegmentReferences (option_map (IntersegmentPart target kind) read)
    (cond
    (not (is_empty entries)
    && target_fits ((state.content).content).segment kinds.IntersegmentReferences (Some target)
    && (is_some read
    && list_all (λ (fix : Fix). is_known state.external_count fix.target)
    (fixes_of target (RelocationPart kind (unwrap_or read [])))))
    (with_fixes state (marked_after state.content
    (fixes_of target (RelocationPart kind (unwrap_or read [])))))
    (Err WrongBody))
others_judged before state target kind entries None r alike =
    unread before state kinds.IntersegmentReferences (not (is_empty entries))
    (target_fits ((state.content).content).segment kinds.IntersegmentReferences (Some target))
    (marked_after state.content (fixes_of target (RelocationPart kind [])))
others_judged before state target kind entries (Some offsets) r alike =
    part_judged before state (IntersegmentPart target kind offsets) _ r
    (record {
      plain = record { no_entries = refl; unnamed = refl; no_content = refl; no_start = refl };
      nameless = refl;
      no_externals = refl;
      late = refl;
      of_fixes = refl;
    })
    (ap (λ b. not b && is_other_segment target (latest_content before)) (alike offsets refl)
    ∙ ap (λ latest. not (is_empty entries) && is_other_segment target latest) (r.has).latest
    ∙ all_known state.external_count target kind offsets (not (is_empty entries))
    (target_fits ((state.content).content).segment kinds.IntersegmentReferences (Some target)))

others_of_kind :
    (before : List Part) (state : State) (target : Segment) (entries : List ℕ) (found : Option FixKind)
    → Ready before state
    → Verdict before kinds.IntersegmentReferences
    (option_and_then (λ (kind : FixKind). option_map (IntersegmentPart target kind) (words_in entries)) found)
    (option_map_or (fixes_placed state kinds.IntersegmentReferences)
    (option_map (fix_head (Some target) entries) found) (Err WrongBody))
others_of_kind before state target entries None r = refl
others_of_kind before state target entries (Some kind) r =
    others_judged before state target kind entries (words_in entries) r (some_words entries)

others_of_target :
    (before : List Part) (state : State) (number : ℕ) (entries : List ℕ) (found : Option Segment)
    → Ready before state
    → Verdict before kinds.IntersegmentReferences
    (option_and_then
    (λ (segment : Segment).
    option_and_then (λ (kind : FixKind). option_map (IntersegmentPart segment kind) (words_in entries))
    (fix_kind_of number)) found)
    (option_map_or (fixes_placed state kinds.IntersegmentReferences)
    (option_and_then (λ (segment : Segment). option_map (fix_head (Some segment) entries)
    (fix_kind_of number)) found)
    (Err WrongBody))
others_of_target before state number entries None r = refl
others_of_target before state number entries (Some target) r =
    others_of_kind before state target entries (fix_kind_of number) r

pub intersegment_verdict :
    (before : List Part) (state : State) (body : List ℕ) → Knows before state
    → may_follow before kinds.IntersegmentReferences ≡ true
    → Verdict before kinds.IntersegmentReferences (intersegment_in body)
    (fixes_taken state kinds.IntersegmentReferences body)
intersegment_verdict before state [] k follows = refl
intersegment_verdict before state (target ∷ []) k follows = refl
intersegment_verdict before state (target ∷ number ∷ entries) k follows =
    others_of_target before state number entries (segment_of target)
    (ready before state kinds.IntersegmentReferences k follows refl refl refl)
