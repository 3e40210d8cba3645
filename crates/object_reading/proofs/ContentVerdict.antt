-- Contents are judged as the rules say.
use Rattle.object_reading.proofs.Prelude.{◌≡◌, ℕ, zero, suc, ◌+◌, ◌*◌, ◌≤◌, Bool, true, false, not, ◌&&◌, nat_le, cond, List, [], ◌∷◌, length, get_or, replicate, Option, Some, None, option_map, Ok, Err, refl, ap, sym, ◌∙◌, arith, option_map_or, length-replicate, WrongBody, ContentMisplaced, Segment, Absolute, Code, Data, Stack, is_empty, may_follow, length_in, stated_length_of, latest_content, holds_bytes, Content, Part, ContentPart, segment_of, content_in, fits_segment, part_fault, start_of_end, content_at, Extents, AreMarked, no_marks, unmarked, State, with_content, fits, content_taken, false≢true, fit_nothing}
use Rattle.omf80.specs.declared.kind.RecordKind.TheVariants as kinds
use Rattle.object_reading.proofs.ExtentsSaid.{code_length_said, data_length_said}
use Rattle.object_reading.proofs.Knowing.{Knows, SaysHeader, HasContent, Verdict, fault_by, is_early, header_stays, start_stays, filtered_as_before}
use Rattle.object_reading.proofs.KnownAfter.{follows_early}

-- no byte is marked
none_marked : (count place : ℕ) → get_or (replicate count false) place false ≡ false
none_marked zero place = refl
none_marked (suc count) zero = refl
none_marked (suc count) (suc place) = none_marked count place

unmarked_at_first : (content : Content) → length content.bytes ≤ 1024 → AreMarked no_marks content []
unfolding no_marks
unmarked_at_first content short =
    let long : length (replicate 1024 false) ≡ 1024 = length-replicate 1024 false in
    record {
      long = omega (arith, short, long);
      marked = λ k h. none_marked 1024 k;
    }

-- the length that the header states of a segment
code_stated :
    (before : List Part) (name : List ℕ) (extents : Extents) → SaysHeader before name extents
    → extents.code_length ≡ stated_length_of Code before
code_stated before name extents h =
    ap (λ (x : Extents). x.code_length) h.said ∙ code_length_said h.entries h.ascending
    ∙ ap (λ l. length_in l Code) (sym h.stated)

data_stated :
    (before : List Part) (name : List ℕ) (extents : Extents) → SaysHeader before name extents
    → extents.data_length ≡ stated_length_of Data before
data_stated before name extents h =
    ap (λ (x : Extents). x.data_length) h.said ∙ data_length_said h.entries h.ascending
    ∙ ap (λ l. length_in l Data) (sym h.stated)

-- a content of code, or of data, fits as the rules say
code_fits :
    (before : List Part) (state : State) (offset : ℕ) (bytes : List ℕ) → Knows before state
    → fits state (content_at Code offset bytes) ≡ fits_segment before (content_at Code offset bytes)
code_fits before state offset bytes k =
    ap (λ n. nat_le (offset + length bytes) n && nat_le state.code_end offset)
    (code_stated before state.name state.extents k.header)
    ∙ ap (λ n. nat_le (offset + length bytes) (stated_length_of Code before) && nat_le n offset) k.code_end

data_fits :
    (before : List Part) (state : State) (offset : ℕ) (bytes : List ℕ) → Knows before state
    → fits state (content_at Data offset bytes) ≡ fits_segment before (content_at Data offset bytes)
data_fits before state offset bytes k =
    ap (λ n. nat_le (offset + length bytes) n && nat_le state.data_end offset)
    (data_stated before state.name state.extents k.header)
    ∙ ap (λ n. nat_le (offset + length bytes) (stated_length_of Data before) && nat_le n offset) k.data_end

content_fault :
    (before : List Part) (content : Content) (body placed : Bool)
    → (holds_bytes content.segment && not (is_empty content.bytes)) ≡ body
    → fits_segment before content ≡ placed
    → part_fault before (ContentPart content) ≡ fault_by body true placed true
content_fault before content body placed a b =
    ap (λ t. fault_by (holds_bytes content.segment && not (is_empty content.bytes)) true
    (fits_segment before content) t)
    (fit_nothing before (ContentPart content) (latest_content before) (λ own. refl))
    ∙ ap (λ t. fault_by t true (fits_segment before content) true) a
    ∙ ap (λ t. fault_by body true t true) b

-- what is known after a content
content_known :
    (before : List Part) (content : Content) → length content.bytes ≤ 1024
    → HasContent (ContentPart content ∷ before) (unmarked content)
content_known before content short = record { latest = refl; marked = unmarked_at_first content short }

code_known :
    (before : List Part) (state : State) (offset : ℕ) (bytes : List ℕ) → Knows before state
    → is_early 3 before ≡ true → length bytes ≤ 1024
    → Knows (ContentPart (content_at Code offset bytes) ∷ before)
    (with_content state (content_at Code offset bytes))
code_known before state offset bytes k early short =
    let part : Part = ContentPart (content_at Code offset bytes) in
    record {
      header = header_stays before part state.name state.extents k.header refl refl;
      names = k.names;
      externals = k.externals;
      counted = λ h. absurd (false≢true h);
      code_end = refl;
      data_end = k.data_end;
      content = λ _. content_known before (content_at Code offset bytes) short;
      start = start_stays before part state.start k.start refl;
      no_start = λ _. filtered_as_before start_of_end part before refl ∙ k.no_start early;
    }

data_known :
    (before : List Part) (state : State) (offset : ℕ) (bytes : List ℕ) → Knows before state
    → is_early 3 before ≡ true → length bytes ≤ 1024
    → Knows (ContentPart (content_at Data offset bytes) ∷ before)
    (with_content state (content_at Data offset bytes))
data_known before state offset bytes k early short =
    let part : Part = ContentPart (content_at Data offset bytes) in
    record {
      header = header_stays before part state.name state.extents k.header refl refl;
      names = k.names;
      externals = k.externals;
      counted = λ h. absurd (false≢true h);
      code_end = k.code_end;
      data_end = refl;
      content = λ _. content_known before (content_at Data offset bytes) short;
      start = start_stays before part state.start k.start refl;
      no_start = λ _. filtered_as_before start_of_end part before refl ∙ k.no_start early;
    }

content_judged :
    (before : List Part) (state : State) (content : Content)
    → Knows (ContentPart content ∷ before) (with_content state content)
    → (body placed : Bool)
    → (holds_bytes content.segment && not (is_empty content.bytes)) ≡ body
    → fits_segment before content ≡ placed
    → Verdict before kinds.Content (Some (ContentPart content))
    (cond body (cond placed (Ok (with_content state content)) (Err ContentMisplaced)) (Err WrongBody))
content_judged before state content known false placed a b = content_fault before content false placed a b
content_judged before state content known true false a b = content_fault before content true false a b
content_judged before state content known true true a b = record {
  part = ContentPart content;
  of_kind = refl;
  read = refl;
  no_fault = content_fault before content true true a b;
  knows = known;
}

by_segment :
    (before : List Part) (state : State) (segment : Segment) (offset : ℕ) (bytes : List ℕ)
    → Knows before state
    → is_early 3 before ≡ true → length bytes ≤ 1024
    → Verdict before kinds.Content (Some (ContentPart (content_at segment offset bytes)))
    (cond (holds_bytes segment && not (is_empty bytes))
    (cond (fits state (content_at segment offset bytes))
    (Ok (with_content state (content_at segment offset bytes)))
    (Err ContentMisplaced)) (Err WrongBody))
by_segment before state Absolute offset bytes k early short =
    content_fault before (content_at Absolute offset bytes) false
    (fits_segment before (content_at Absolute offset bytes)) refl refl
by_segment before state Code offset bytes k early short =
    content_judged before state (content_at Code offset bytes)
    (code_known before state offset bytes k early short)
    (not (is_empty bytes)) (fits state (content_at Code offset bytes)) refl
    (sym (code_fits before state offset bytes k))
by_segment before state Data offset bytes k early short =
    content_judged before state (content_at Data offset bytes)
    (data_known before state offset bytes k early short)
    (not (is_empty bytes)) (fits state (content_at Data offset bytes)) refl
    (sym (data_fits before state offset bytes k))
by_segment before state Stack offset bytes k early short =
    content_fault before (content_at Stack offset bytes) false
    (fits_segment before (content_at Stack offset bytes)) refl refl

in_segment :
    (before : List Part) (state : State) (offset : ℕ) (bytes : List ℕ) (found : Option Segment)
    → Knows before state
    → is_early 3 before ≡ true → length bytes ≤ 1024
    → Verdict before kinds.Content
    (option_map (λ (segment : Segment). ContentPart (content_at segment offset bytes)) found)
    (option_map_or
    (λ (content : Content).
    cond (holds_bytes content.segment && not (is_empty content.bytes))
    (cond (fits state content) (Ok (with_content state content)) (Err ContentMisplaced)) (Err WrongBody))
    (option_map (λ (segment : Segment). content_at segment offset bytes) found) (Err WrongBody))
in_segment before state offset bytes None k early short = refl
in_segment before state offset bytes (Some segment) k early short =
    by_segment before state segment offset bytes k early short

pub content_verdict :
    (before : List Part) (state : State) (body : List ℕ) → Knows before state
    → may_follow before kinds.Content ≡ true → length body ≤ 1027
    → Verdict before kinds.Content (content_in body) (content_taken state kinds.Content body)
content_verdict before state [] k follows short = refl
content_verdict before state (a ∷ []) k follows short = refl
content_verdict before state (a ∷ b ∷ []) k follows short = refl
content_verdict before state (number ∷ low ∷ high ∷ bytes) k follows short =
    in_segment before state (low + 256 * high) bytes (segment_of number) k
    (follows_early before kinds.Content follows refl refl) (omega (arith, short))
