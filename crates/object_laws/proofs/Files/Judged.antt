-- What the judgement of a file gives: the parts of the file, or its first fault.
use Rattle.object_laws.proofs.Prelude.{◌≡◌, ℕ, zero, suc, ◌<◌, ◌≤◌, Bool, true, false, cond, ◌&&◌, List, [], ◌∷◌, ◌++◌, length, drop, flat_map, reverse, slice_index, Option, Some, None, option_map, option_and_then, Result, Ok, Err, refl, ap, sym, subst, ◌∙◌, arith, option_or, option_map_or, le-leb, append_assoc, append-nil, reverse-append, BODY_LIMIT, RecordKind, kind_of_type, record_end, first_body, record_bytes, record_fault, type_byte, IsBytes, Begins, begins, Fault, OutOfOrder, WrongBody, is_empty, is_ended, may_follow, Part, kind_of_part, body_of, part_bytes, part_in, first_part, part_fault, is_accepted, are_accepted, fault_from_record, fault_of_record, fault_at, IsFileOf, HasFirstFault, judged_by, judged_after, parts_of, part_back, both_are_none, none_before_map}

-- a part that is next in a file
pub record Next (before : List Part) (bytes : List ℕ) : Type 0 where
  pub part : Part
  pub found : first_part bytes ≡ Some part
  pub accepted : is_accepted before part ≡ true
  pub spelled : bytes ≡ part_bytes part ++ drop (record_end bytes) bytes
  pub rest_bytes : IsBytes (drop (record_end bytes) bytes)
  pub shorter : length (drop (record_end bytes) bytes) < length bytes

-- what a record without a fault of its own is, where it may stand
pub record Allowed (before : List Part) (kind : RecordKind) (body : List ℕ) : Type 0 where
  pub part : Part
  pub read : part_in kind body ≡ Some part
  pub follows : may_follow before kind ≡ true
  pub no_fault : part_fault before part ≡ None

allowed : (before : List Part) (kind : RecordKind) (body : List ℕ) → fault_of_record before kind body ≡ None
    → Allowed before kind body
allowed before kind body h = go (may_follow before kind) refl (part_in kind body) refl h
  where
    go : (follows : Bool) → may_follow before kind ≡ follows → (read : Option Part) → part_in kind body ≡ read
        → cond follows (option_map_or (part_fault before) read (Some WrongBody)) (Some OutOfOrder) ≡ None
        → Allowed before kind body
    go false e read f is = absurd (let bad : Some OutOfOrder ≡ None = is in cc)
    go true e None f is = absurd (let bad : Some WrongBody ≡ None = is in cc)
    go true e (Some part) f is = record { part = part; read = f; follows = e; no_fault = is }

-- three tests that pass
all_pass : (a b c : Bool) → a ≡ true → b ≡ true → c ≡ true → (a && b && c) ≡ true
all_pass a b c x y z = ap (λ t. t && b && c) x ∙ ap (λ t. t && c) y ∙ z

next_by :
    (before : List Part) (bytes : List ℕ) (b : Begins bytes)
    → Allowed before b.kind (first_body bytes) → Next before bytes
next_by before bytes b a =
    let is = part_back b.kind (first_body bytes) a.part b.all_bytes a.read in
    record {
      part = a.part;
      found = ap (option_and_then (λ kind. part_in kind (first_body bytes))) b.of_type ∙ a.read;
      accepted = all_pass _ _ _
          (le-leb (length (body_of a.part)) BODY_LIMIT (subst (λ body. length body ≤ BODY_LIMIT) is.1 b.long))
          (ap (may_follow before) is.0 ∙ a.follows)
          (ap (λ fault. option_map_or (λ _. false) fault true) a.no_fault);
      spelled =
          b.spelled
          ∙ ap (λ kind. record_bytes (type_byte kind) (first_body bytes) ++ drop (record_end bytes) bytes)
          (sym is.0)
          ∙ ap (λ body. record_bytes (type_byte (kind_of_part a.part)) body ++ drop (record_end bytes) bytes)
          is.1;
      rest_bytes = b.rest_bytes;
      shorter = b.shorter;
    }

-- what bytes without a fault after these parts are: nothing after the end of the file, else a part
not_ended :
    (before : List Part) (bytes : List ℕ) → IsBytes bytes
    → option_or (option_map fault_from_record (record_fault bytes))
    (option_and_then (λ kind. fault_of_record before kind (first_body bytes))
    (kind_of_type (slice_index bytes 0)))
    ≡ None
    → Next before bytes
not_ended before bytes all h =
    let parts = both_are_none _ _ h in
    let b = begins bytes all (none_before_map fault_from_record (record_fault bytes) parts.0) in
    next_by before bytes b
    (allowed before b.kind (first_body bytes)
    (sym (ap (option_and_then (λ kind. fault_of_record before kind (first_body bytes))) b.of_type) ∙ parts.1))

nothing_left : (bytes : List ℕ) → cond (is_empty bytes) None (Some OutOfOrder) ≡ None → bytes ≡ []
nothing_left [] h = refl
nothing_left (byte ∷ others) h = absurd (let bad : Some OutOfOrder ≡ None = h in cc)

-- what a judgement says of the bytes after some parts
pub record FileAfter (before : List Part) (bytes : List ℕ) (all : List Part) : Type 0 where
  pub later : List Part
  pub all_is : all ≡ reverse before ++ later
  pub accepted : are_accepted before later ≡ true
  pub ended : is_ended (reverse later ++ before) ≡ true
  pub spelled : bytes ≡ flat_map part_bytes later

pub record FaultAfter (before : List Part) (bytes : List ℕ) (fault : Fault) : Type 0 where
  pub later : List Part
  pub rest : List ℕ
  pub accepted : are_accepted before later ≡ true
  pub spelled : bytes ≡ flat_map part_bytes later ++ rest
  pub at_rest : fault_at (reverse later ++ before) rest ≡ Some fault

abbrev pub Judges : List Part → List ℕ → Result (List Part) Fault → Type 0
Judges before bytes (Ok all) = FileAfter before bytes all
Judges before bytes (Err fault) = FaultAfter before bytes fault

-- the latest first, after one part and then others
turned : (part : Part) (later before : List Part)
    → reverse later ++ (part ∷ before) ≡ reverse (part ∷ later) ++ before
turned part later before =
    sym (append_assoc (reverse later) (part ∷ []) before)
    ∙ ap (λ r. r ++ before) (sym (reverse-append (part ∷ []) later))

after_part :
    (before : List Part) (bytes rest : List ℕ) (part : Part) (judged : Result (List Part) Fault)
    → is_accepted before part ≡ true → bytes ≡ part_bytes part ++ rest
    → Judges (part ∷ before) rest judged → Judges before bytes judged
after_part before bytes rest part (Ok all) accepted spelled j = record {
  later = part ∷ j.later;
  all_is =
      j.all_is ∙ ap (λ r. r ++ j.later) (reverse-append (part ∷ []) before)
      ∙ append_assoc (reverse before) (part ∷ []) j.later;
  accepted = ap (λ t. t && are_accepted (part ∷ before) j.later) accepted ∙ j.accepted;
  ended = ap is_ended (sym (turned part j.later before)) ∙ j.ended;
  spelled = spelled ∙ ap (λ r. part_bytes part ++ r) j.spelled;
}
after_part before bytes rest part (Err fault) accepted spelled j = record {
  later = part ∷ j.later;
  rest = j.rest;
  accepted = ap (λ t. t && are_accepted (part ∷ before) j.later) accepted ∙ j.accepted;
  spelled =
      spelled ∙ ap (λ r. part_bytes part ++ r) j.spelled
      ∙ sym (append_assoc (part_bytes part) (flat_map part_bytes j.later) j.rest);
  at_rest = ap (λ b. fault_at b j.rest) (sym (turned part j.later before)) ∙ j.at_rest;
}

judged_as :
    (judged_next : List Part → Result (List Part) Fault) (before : List Part) (bytes : List ℕ) → IsBytes bytes
    → ((part : Part) → IsBytes (drop (record_end bytes) bytes)
    → length (drop (record_end bytes) bytes) < length bytes
    → Judges (part ∷ before) (drop (record_end bytes) bytes) (judged_next (part ∷ before)))
    → (fault : Option Fault) → fault_at before bytes ≡ fault
    → Judges before bytes (judged_by judged_next before fault (first_part bytes))
unfolding fault_at
judged_as judged_next before bytes all onward (Some fault) e =
    record { later = []; rest = bytes; accepted = refl; spelled = refl; at_rest = e }
judged_as judged_next before bytes all onward None e = go (is_ended before) refl e
  where
    go : (ended : Bool) → is_ended before ≡ ended
        → cond ended (cond (is_empty bytes) None (Some OutOfOrder))
        (option_or (option_map fault_from_record (record_fault bytes))
        (option_and_then (λ kind. fault_of_record before kind (first_body bytes))
        (kind_of_type (slice_index bytes 0)))) ≡ None
        → Judges before bytes (judged_by judged_next before None (first_part bytes))
    go true is h =
        let empty : bytes ≡ [] = nothing_left bytes h in
        subst (λ b. Judges before b (judged_by judged_next before None (first_part b))) (sym empty)
        (record { later = []; all_is = sym (append-nil (reverse before)); accepted = refl; ended = is; spelled = refl })
    go false is h =
        let n = not_ended before bytes all h in
        subst (λ found. Judges before bytes (judged_by judged_next before None found)) (sym n.found)
        (after_part before bytes (drop (record_end bytes) bytes) n.part
        (judged_next (n.part ∷ before)) n.accepted
        n.spelled (onward n.part n.rest_bytes n.shorter))

pub judged_law :
    (count : ℕ) (before : List Part) (bytes : List ℕ) → IsBytes bytes → length bytes < count
    → Judges before bytes (judged_after count before bytes)
judged_law zero before bytes all h = absurd (omega arith)
judged_law (suc count) before bytes all h =
    judged_as (λ parts. judged_after count parts (drop (record_end bytes) bytes)) before bytes all
    (λ part rest shorter. judged_law count (part ∷ before) (drop (record_end bytes) bytes) rest (omega arith))
    (fault_at before bytes) refl

-- what the judgement of a whole file says of it
abbrev pub JudgesFile : List ℕ → Result (List Part) Fault → Type 0
JudgesFile bytes (Ok parts) = IsFileOf bytes parts
JudgesFile bytes (Err fault) = HasFirstFault bytes fault

file_judged :
    (bytes : List ℕ) (judged : Result (List Part) Fault) → Judges [] bytes judged → JudgesFile bytes judged
file_judged bytes (Ok all) j = record {
  accepted = ap (are_accepted []) j.all_is ∙ j.accepted;
  ended = ap (λ p. is_ended (reverse p)) j.all_is
      ∙ ap is_ended (sym (append-nil (reverse j.later))) ∙ j.ended;
  spelled = j.spelled ∙ ap (flat_map part_bytes) (sym j.all_is);
}
file_judged bytes (Err fault) j = record {
  before = j.later;
  rest = j.rest;
  accepted = j.accepted;
  spelled = j.spelled;
  at_rest = ap (λ b. fault_at b j.rest) (sym (append-nil (reverse j.later))) ∙ j.at_rest;
}

pub parts_law : (bytes : List ℕ) → IsBytes bytes → JudgesFile bytes (parts_of bytes)
unfolding parts_of
parts_law bytes all =
    file_judged bytes (judged_after (suc (length bytes)) [] bytes)
    (judged_law (suc (length bytes)) [] bytes all (omega arith))
