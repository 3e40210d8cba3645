-- What the entries of a header say of the segments, and which fault they have.
use Rattle.object_reading.proofs.Prelude.{◌≡◌, ℕ, ◌+◌, ◌*◌, ◌<◌, ◌≤◌, ◌==◌, Bool, true, false, ◌&&◌, nat_lt, cond, List, [], ◌∷◌, Option, Some, None, option_map, option_and_then, Result, Ok, Err, refl, ap, ◌∙◌, arith, length, get_or, take, drop, ◌-◌, list_all, option_map_or, and_parts, ne_eqb, ltb-true, lt-ltb, take-length, Fault, WrongBody, WrongAlignment, Segment, same_segment, entry_in, SegmentEntry, segment_number, segment_of, segment_entries_in, ascend_from, is_served, Extents, entry_at, extents_with, extents_after, extents_in, same_is}

-- the verdict on entries that were read
abbrev pub verdict_on : (number : ℕ) → Extents → (served : Bool) → Option (List SegmentEntry)
    → Result Extents Fault
verdict_on number extents served None = Err WrongBody
verdict_on number extents served (Some entries) =
    cond (ascend_from number entries)
    (cond (served && list_all is_served entries) (Ok (extents_after entries extents)) (Err WrongAlignment))
    (Err WrongBody)

and_grouped : (a b c : Bool) → ((a && b) && c) ≡ (a && (b && c))
and_grouped true b c = refl
and_grouped false b c = refl

-- the same fault either way
same_either_way : {A : Type 0} (above : Bool) (x : A) → cond above x x ≡ x
same_either_way true x = refl
same_either_way false x = refl

-- a condition within another
within_cond :
    {A : Type 0} (above ascending : Bool) (x y : A)
    → cond above (cond ascending x y) y ≡ cond (above && ascending) x y
within_cond true ascending x y = refl
within_cond false ascending x y = refl

-- the verdict on one entry more
verdict_more :
    (number : ℕ) (extents : Extents) (served : Bool) (entry : SegmentEntry)
    (read : Option (List SegmentEntry))
    → cond (nat_lt number (segment_number entry.segment))
    (verdict_on (segment_number entry.segment) (extents_with entry.segment entry extents)
    (served && is_served entry) read)
    (Err WrongBody)
    ≡ verdict_on number extents served (option_map (λ (others : List SegmentEntry). entry ∷ others) read)
verdict_more number extents served entry None =
    same_either_way {A = Result Extents Fault} (nat_lt number (segment_number entry.segment)) (Err WrongBody)
verdict_more number extents served entry (Some others) =
    let last : Extents = extents_after others (extents_with entry.segment entry extents) in
    ap (λ b.
    cond (nat_lt number (segment_number entry.segment))
    (cond (ascend_from (segment_number entry.segment) others)
    (cond b (Ok last) (Err WrongAlignment)) (Err WrongBody))
    (Err WrongBody)) (and_grouped served (is_served entry) (list_all is_served others))
    ∙ within_cond {A = Result Extents Fault} (nat_lt number (segment_number entry.segment))
    (ascend_from (segment_number entry.segment) others)
    (cond (served && (is_served entry && list_all is_served others)) (Ok last) (Err WrongAlignment))
    (Err WrongBody)

one_more :
    (number low high alignment : ℕ) (extents : Extents) (served : Bool) (rest : List ℕ)
    (found : Option Segment)
    → ((segment : Segment)
    → extents_in (segment_number segment)
    (extents_with segment (entry_at segment (low + 256 * high) alignment) extents)
    (served && is_served (entry_at segment (low + 256 * high) alignment)) rest
    ≡ verdict_on (segment_number segment)
    (extents_with segment (entry_at segment (low + 256 * high) alignment) extents)
    (served && is_served (entry_at segment (low + 256 * high) alignment)) (segment_entries_in rest))
    → option_map_or
    (λ (segment : Segment).
    cond (nat_lt number (segment_number segment))
    (extents_in (segment_number segment)
    (extents_with segment (entry_at segment (low + 256 * high) alignment) extents)
    (served && is_served (entry_at segment (low + 256 * high) alignment)) rest)
    (Err WrongBody))
    found (Err WrongBody)
    ≡ verdict_on number extents served
    (option_and_then
    (λ (segment : Segment).
    option_map (λ (others : List SegmentEntry). entry_at segment (low + 256 * high) alignment ∷ others)
    (segment_entries_in rest)) found)
one_more number low high alignment extents served rest None later = refl
one_more number low high alignment extents served rest (Some segment) later =
    ap (λ r. cond (nat_lt number (segment_number segment)) r (Err WrongBody)) (later segment)
    ∙ verdict_more number extents served (entry_at segment (low + 256 * high) alignment)
    (segment_entries_in rest)

-- entries read one after another have the verdict on all of them
pub extents_are :
    (bytes : List ℕ) (number : ℕ) (extents : Extents) (served : Bool)
    → extents_in number extents served bytes ≡ verdict_on number extents served (segment_entries_in bytes)
extents_are [] number extents true = refl
extents_are [] number extents false = refl
extents_are (a ∷ []) number extents served = refl
extents_are (a ∷ b ∷ []) number extents served = refl
extents_are (a ∷ b ∷ c ∷ []) number extents served = refl
extents_are (first ∷ low ∷ high ∷ alignment ∷ rest) number extents served =
    one_more number low high alignment extents served rest (segment_of first)
    (λ segment.
    extents_are rest (segment_number segment)
    (extents_with segment (entry_at segment (low + 256 * high) alignment) extents)
    (served && is_served (entry_at segment (low + 256 * high) alignment)))

-- entries that ascend past a segment have none of it
no_entry_below :
    (entries : List SegmentEntry) (number : ℕ) (segment : Segment) → ascend_from number entries ≡ true
    → segment_number segment ≤ number → entry_in entries segment ≡ None
no_entry_below [] number segment ascending below = refl
no_entry_below (entry ∷ others) number segment ascending below =
    let t = and_parts (nat_lt number (segment_number entry.segment))
    (ascend_from (segment_number entry.segment) others) ascending in
    let above : number < segment_number entry.segment = ltb-true number (segment_number entry.segment) t.0 in
    let other : (segment_number entry.segment == segment_number segment) ≡ false =
    ne_eqb (segment_number entry.segment) (segment_number segment) (λ e. omega arith) in
    ap (λ b. cond b (Some entry) (entry_in others segment)) other
    ∙ no_entry_below others (segment_number entry.segment) segment t.1 (omega arith)

-- what ascending entries say of a segment is what the one entry of it says
pub said_of :
    {A : Type 0} (field : Extents → A) (value : SegmentEntry → A) (segment : Segment)
    → ((entry : SegmentEntry) (extents : Extents) → field (extents_with segment entry extents) ≡ value entry)
    → ((other : Segment) (entry : SegmentEntry) (extents : Extents) → same_segment other segment ≡ false
    → field (extents_with other entry extents) ≡ field extents)
    → (entries : List SegmentEntry) (number : ℕ) (extents : Extents) → ascend_from number entries ≡ true
    → field (extents_after entries extents) ≡ option_map_or value (entry_in entries segment) (field extents)
said_of field value segment own others_stay [] number extents ascending = refl
said_of {A} field value segment own others_stay (entry ∷ others) number extents ascending =
    let t = and_parts (nat_lt number (segment_number entry.segment))
    (ascend_from (segment_number entry.segment) others) ascending in
    go t.1
    (said_of field value segment own others_stay others (segment_number entry.segment)
    (extents_with entry.segment entry extents) t.1)
    (same_segment entry.segment segment) refl
  where
    go : ascend_from (segment_number entry.segment) others ≡ true
        → field (extents_after others (extents_with entry.segment entry extents))
        ≡ option_map_or value (entry_in others segment) (field (extents_with entry.segment entry extents))
        → (same : Bool) → same_segment entry.segment segment ≡ same
        → field (extents_after others (extents_with entry.segment entry extents))
        ≡ option_map_or value (cond same (Some entry) (entry_in others segment)) (field extents)
    go rest later true e =
        let is : entry.segment ≡ segment = same_is entry.segment segment e in
        let equal : segment_number entry.segment ≡ segment_number segment = ap segment_number is in
        let none : entry_in others segment ≡ None =
        no_entry_below others (segment_number entry.segment) segment rest (omega arith) in
        later
        ∙ ap (λ o. option_map_or value o (field (extents_with entry.segment entry extents))) none
        ∙ ap (λ s. field (extents_with s entry extents)) is ∙ own entry extents
    go rest later false e =
        later ∙ ap (option_map_or value (entry_in others segment)) (others_stay entry.segment entry extents e)

-- a step over an entry whose number is greater
pub entry_step :
    (number next word : ℕ) (extents after : Extents) (served still : Bool) (segment : Segment) (rest : List ℕ)
    → 4 ≤ length rest → Some segment ≡ segment_of (get_or rest 0 0)
    → next ≡ segment_number segment → number < next
    → word ≡ get_or rest 1 0 + 256 * get_or rest 2 0
    → still ≡ (served && is_served (entry_at segment word (get_or rest 3 0)))
    → after ≡ extents_with segment (entry_at segment word (get_or rest 3 0)) extents
    → extents_in next after still (take (length rest - 4) (drop 4 rest))
    ≡ extents_in number extents served rest
entry_step number next word extents after served still segment [] four e n above w s a = absurd (omega arith)
entry_step number next word extents after served still segment (x ∷ []) four e n above w s a =
    absurd (omega arith)
entry_step number next word extents after served still segment (x ∷ y ∷ []) four e n above w s a =
    absurd (omega arith)
entry_step number next word extents after served still segment (x ∷ y ∷ z ∷ []) four e n above w s a =
    absurd (omega arith)
entry_step number next word extents after served still segment (first ∷ low ∷ high ∷ alignment ∷ more)
    four e n above w s a =
    let count : length (first ∷ low ∷ high ∷ alignment ∷ more) - 4 ≡ length more = omega arith in
    let greater : nat_lt number (segment_number segment) ≡ true =
    lt-ltb number (segment_number segment) (omega arith) in
    rw (count, take-length more, a, s, w, n) (rw (← e) (rw greater refl))
