-- When a part may stand after others, rule by rule, and what the parts before a place tell after some more.
use Rattle.object_laws.proofs.Prelude.{◌≡◌, ℕ, ◌+◌, ◌<◌, ◌≤◌, ◌==◌, Bool, true, false, cond, not, ◌&&◌, nat_le, List, [], ◌∷◌, ◌++◌, length, flat_map, take_while, Option, Some, None, refl, ap, sym, subst, ◌∙◌, arith, AllByRecursion, list_all, option_or, option_map_or, and_parts, and_from, le-leb, length-append, take_while-cons, BODY_LIMIT, RecordKind, first_that_holds, Fault, WrongBody, ContentMisplaced, FixMisplaced, WrongAlignment, Segment, Content, Part, kind_of_part, body_of, rank_of, is_fix_record, may_come_after, is_empty, may_follow, entries_of, content_of, latest_content, end_by_content, filled_to, fixes_of, leading_fixes, is_body, is_served, fits_segment, is_within, are_apart, fit_content, part_fault, is_accepted, are_accepted, all_append}
use Rattle.omf80.specs.declared.kind.RecordKind.TheVariants as kinds
use Rattle.object_laws.proofs.Texts.Counted.{times, times_append}

-- parts with later ones in front, the latest first
abbrev pub onto : (later before : List Part) → List Part
onto [] before = before
onto (part ∷ later) before = onto later (part ∷ before)

pub accepted_append :
    (before first second : List Part) → are_accepted before first ≡ true
    → are_accepted (onto first before) second ≡ true → are_accepted before (first ++ second) ≡ true
accepted_append before [] second h k = k
accepted_append before (part ∷ first) second h k =
    let t = and_parts (is_accepted before part) (are_accepted (part ∷ before) first) h in
    and_from (is_accepted before part) (are_accepted (part ∷ before) (first ++ second)) t.0
    (accepted_append (part ∷ before) first second t.1 k)

pub onto_append : (first second before : List Part)
    → onto (first ++ second) before ≡ onto second (onto first before)
onto_append [] second before = refl
onto_append (part ∷ first) second before = onto_append first second (part ∷ before)

-- a part may stand after others
pub record Acceptable (before : List Part) (part : Part) : Type 0 where
  pub limit : length (body_of part) ≤ BODY_LIMIT
  pub follows : may_follow before (kind_of_part part) ≡ true
  pub body : is_body before part ≡ true
  pub served : list_all is_served (entries_of part) ≡ true
  pub content : option_map_or (λ (c : Content). not (fits_segment before c)) (content_of part) false ≡ false
  pub fixes : fit_content before part (latest_content before) ≡ true

none_of :
    (holds : Bool) (fault : Fault) (others : List (Bool × Fault)) → holds ≡ false
    → first_that_holds others ≡ None → first_that_holds ((holds, fault) ∷ others) ≡ None
none_of holds fault others e h = subst (λ b. first_that_holds ((b, fault) ∷ others) ≡ None) (sym e) h

pub accepted_by : (before : List Part) (part : Part) → Acceptable before part → is_accepted before part ≡ true
accepted_by before part a =
    let misplaced : Bool =
    option_map_or (λ (c : Content). not (fits_segment before c)) (content_of part) false in
    let unfit : Bool = not (fit_content before part (latest_content before)) in
    let from_fourth : List (Bool × Fault) = (unfit, FixMisplaced) ∷ [] in
    let from_third : List (Bool × Fault) = (misplaced, ContentMisplaced) ∷ from_fourth in
    let from_second : List (Bool × Fault) =
    (not (list_all is_served (entries_of part)), WrongAlignment) ∷ from_third in
    let fourth : first_that_holds from_fourth ≡ None = none_of unfit FixMisplaced [] (ap not a.fixes) refl in
    let third : first_that_holds from_third ≡ None =
    none_of misplaced ContentMisplaced from_fourth a.content fourth in
    let second : first_that_holds from_second ≡ None =
    none_of (not (list_all is_served (entries_of part))) WrongAlignment from_third (ap not a.served) third in
    let none : part_fault before part ≡ None =
    none_of (not (is_body before part)) WrongBody from_second (ap not a.body) second in
    and_from (nat_le (length (body_of part)) BODY_LIMIT && may_follow before (kind_of_part part))
    (option_map_or (λ (_ : Fault). false) (part_fault before part) true)
    (and_from (nat_le (length (body_of part)) BODY_LIMIT) (may_follow before (kind_of_part part))
    (le-leb (length (body_of part)) BODY_LIMIT a.limit) a.follows)
    (ap (λ fault. option_map_or (λ (_ : Fault). false) fault true) none)

-- a part without fixes fits each content
pub fit_nothing :
    (before : List Part) (part : Part) (latest : Option Content) → ((own : Segment) → fixes_of own part ≡ [])
    → fit_content before part latest ≡ true
fit_nothing before part None h = refl
fit_nothing before part (Some content) h =
    ap (λ fixes. list_all (is_within content) fixes && are_apart fixes (leading_fixes content.segment before))
    (h content.segment)

-- the latest part is one of the records that come so early
abbrev pub UpTo : (rank : ℕ) → List Part → Type 0
UpTo rank [] = ⊥
UpTo rank (latest ∷ others) = rank_of (kind_of_part latest) ≤ rank

pub up_to_onto :
    (rank : ℕ) (later before : List Part) → UpTo rank before
    → AllByRecursion (λ part. rank_of (kind_of_part part) ≤ rank) later → UpTo rank (onto later before)
up_to_onto rank [] before h all = h
up_to_onto rank (part ∷ later) before h all = up_to_onto rank later (part ∷ before) all.0 all.1

pub up_to_more : (rank more : ℕ) (before : List Part) → rank ≤ more → UpTo rank before → UpTo more before
up_to_more rank more [] k h = h
up_to_more rank more (latest ∷ others) k h =
    let l : rank_of (kind_of_part latest) ≤ rank = h in omega (arith, k, l)

pub follows_externals : (before : List Part) → UpTo 1 before → may_follow before kinds.ExternalNames ≡ true
follows_externals [] h = absurd h
follows_externals (latest ∷ others) h =
    and_from (nat_le (rank_of (kind_of_part latest)) 1) true (le-leb (rank_of (kind_of_part latest)) 1 h) refl

pub follows_publics : (before : List Part) → UpTo 2 before → may_follow before kinds.Publics ≡ true
follows_publics [] h = absurd h
follows_publics (latest ∷ others) h =
    and_from (nat_le (rank_of (kind_of_part latest)) 2) true (le-leb (rank_of (kind_of_part latest)) 2 h) refl

pub follows_content : (before : List Part) → UpTo 3 before → may_follow before kinds.Content ≡ true
follows_content [] h = absurd h
follows_content (latest ∷ others) h =
    and_from (nat_le (rank_of (kind_of_part latest)) 3) true (le-leb (rank_of (kind_of_part latest)) 3 h) refl

pub follows_end : (before : List Part) → UpTo 3 before → may_follow before kinds.ModuleEnd ≡ true
follows_end [] h = absurd h
follows_end (latest ∷ others) h = le-leb (rank_of (kind_of_part latest)) 3 h

-- the latest part is a content or a fix record
abbrev pub AtContents : List Part → Type 0
AtContents [] = ⊥
AtContents (latest ∷ others) = rank_of (kind_of_part latest) ≡ 3

by_rank : (latest : RecordKind) → rank_of latest ≡ 3
    → (nat_le (rank_of latest) 3 && (rank_of latest == 3)) ≡ true
by_rank latest h = ap (λ rank. nat_le rank 3 && (rank == 3)) h

fix_may_come :
    (latest kind : RecordKind) → rank_of latest ≡ 3 → is_fix_record kind ≡ true
    → may_come_after latest kind ≡ true
fix_may_come latest kinds.ExternalReferences h k = by_rank latest h
fix_may_come latest kinds.Relocation h k = by_rank latest h
fix_may_come latest kinds.IntersegmentReferences h k = by_rank latest h
fix_may_come latest kinds.Header h k = absurd (let bad : false ≡ true = k in cc)
fix_may_come latest kinds.ExternalNames h k = absurd (let bad : false ≡ true = k in cc)
fix_may_come latest kinds.Publics h k = absurd (let bad : false ≡ true = k in cc)
fix_may_come latest kinds.Content h k = absurd (let bad : false ≡ true = k in cc)
fix_may_come latest kinds.ModuleEnd h k = absurd (let bad : false ≡ true = k in cc)
fix_may_come latest kinds.EndOfFile h k = absurd (let bad : false ≡ true = k in cc)

pub follows_fix :
    (before : List Part) (kind : RecordKind) → AtContents before → is_fix_record kind ≡ true
    → may_follow before kind ≡ true
follows_fix [] kind h k = absurd h
follows_fix (latest ∷ others) kind h k = fix_may_come (kind_of_part latest) kind h k

-- what later parts don't tell stays as it was
pub flat_map_onto :
    {A : Type 0} (f : Part → List A) (later before : List Part) → AllByRecursion (λ part. f part ≡ []) later
    → flat_map f (onto later before) ≡ flat_map f before
flat_map_onto f [] before all = refl
flat_map_onto f (part ∷ later) before all =
    flat_map_onto f later (part ∷ before) all.1 ∙ ap (λ r. r ++ flat_map f before) all.0

pub times_onto :
    {A : Type 0} (test : A → Bool) (f : Part → List A) (later before : List Part)
    → times test (flat_map f (onto later before))
    ≡ times test (flat_map f later) + times test (flat_map f before)
times_onto test f [] before = omega arith
times_onto test f (part ∷ later) before =
    let a : times test (flat_map f (onto later (part ∷ before)))
    ≡ times test (flat_map f later) + times test (f part ++ flat_map f before) =
    times_onto test f later (part ∷ before) in
    let b : times test (f part ++ flat_map f before) ≡ times test (f part) + times test (flat_map f before) =
    times_append test (f part) (flat_map f before) in
    let c : times test (f part ++ flat_map f later) ≡ times test (f part) + times test (flat_map f later) =
    times_append test (f part) (flat_map f later) in
    omega (arith, a, b, c)

pub length_onto :
    {A : Type 0} (f : Part → List A) (later before : List Part)
    → length (flat_map f (onto later before)) ≡ length (flat_map f later) + length (flat_map f before)
length_onto f [] before = omega arith
length_onto f (part ∷ later) before =
    let a : length (flat_map f (onto later (part ∷ before)))
    ≡ length (flat_map f later) + length (f part ++ flat_map f before) =
    length_onto f later (part ∷ before) in
    let b : length (f part ++ flat_map f before) ≡ length (f part) + length (flat_map f before) =
    length-append (f part) (flat_map f before) in
    let c : length (f part ++ flat_map f later) ≡ length (f part) + length (flat_map f later) =
    length-append (f part) (flat_map f later) in
    omega (arith, a, b, c)

pub latest_onto :
    (later before : List Part) → AllByRecursion (λ part. content_of part ≡ None) later
    → latest_content (onto later before) ≡ latest_content before
latest_onto [] before all = refl
latest_onto (part ∷ later) before all =
    latest_onto later (part ∷ before) all.1 ∙ ap (λ o. option_or o (latest_content before)) all.0

pub filled_onto :
    (segment : Segment) (later before : List Part)
    → AllByRecursion (λ part. (end : ℕ) → end_by_content segment (content_of part) end ≡ end) later
    → filled_to segment (onto later before) ≡ filled_to segment before
filled_onto segment [] before all = refl
filled_onto segment (part ∷ later) before all =
    filled_onto segment later (part ∷ before) all.1 ∙ all.0 (filled_to segment before)

-- the fixes of a fix record stand in front of those before it
pub leading_more :
    (own : Segment) (part : Part) (before : List Part) → is_fix_record (kind_of_part part) ≡ true
    → leading_fixes own (part ∷ before) ≡ fixes_of own part ++ leading_fixes own before
leading_more own part before h =
    ap (flat_map (fixes_of own)) (take_while-cons (λ p. is_fix_record (kind_of_part p)) part before)
    ∙ ap (λ b. flat_map (fixes_of own) (cond b
    (part ∷ take_while (λ p. is_fix_record (kind_of_part p)) before) [])) h

pub leading_none :
    (own : Segment) (part : Part) (before : List Part) → is_fix_record (kind_of_part part) ≡ false
    → leading_fixes own (part ∷ before) ≡ []
leading_none own part before h =
    ap (flat_map (fixes_of own)) (take_while-cons (λ p. is_fix_record (kind_of_part p)) part before)
    ∙ ap (λ b. flat_map (fixes_of own) (cond b
    (part ∷ take_while (λ p. is_fix_record (kind_of_part p)) before) [])) h

-- lists with an item
pub some_items : {A : Type 0} (xs : List A) → 0 < length xs → not (is_empty xs) ≡ true
some_items [] h = absurd (omega (arith, h))
some_items (x ∷ xs) h = refl

pub all_pass :
    {A : Type 0} (test : A → Bool) (xs : List A) → AllByRecursion (λ x. test x ≡ true) xs
    → list_all test xs ≡ true
all_pass test [] all = refl
all_pass test (x ∷ xs) all = and_from (test x) (list_all test xs) all.0 (all_pass test xs all.1)

pub each_passes :
    {A : Type 0} (test : A → Bool) (xs : List A) → list_all test xs ≡ true
    → AllByRecursion (λ x. test x ≡ true) xs
each_passes test [] h = tt
each_passes test (x ∷ xs) h =
    let t = and_parts (test x) (list_all test xs) h in (t.0, each_passes test xs t.1)

-- what holds of all items made
pub all_flat_map :
    {X A : Type 0} (P : A → Type 0) (f : X → List A) (xs : List X)
    → AllByRecursion (λ x. AllByRecursion P (f x)) xs
    → AllByRecursion P (flat_map f xs)
all_flat_map P f [] h = tt
all_flat_map P f (x ∷ xs) h = all_append P (f x) (flat_map f xs) h.0 (all_flat_map P f xs h.1)
