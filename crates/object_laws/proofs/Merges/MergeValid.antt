-- A merge of valid modules is a valid module.
use Rattle.object_laws.proofs.Prelude.{◌≡◌, ℕ, suc, ◌+◌, ◌-◌, ◌%◌, ◌<◌, ◌≤◌, ◌==◌, Bool, true, false, cond, not, ◌&&◌, ◌||◌, nat_lt, nat_le, List, [], ◌∷◌, ◌++◌, length, map, filter_map, sum_by, replicate, slice_get, IfSome, All, Option, Some, None, option_map, option_and_then, Result, Ok, Err, refl, ap, sym, subst, ◌∙◌, arith, list_all, list_any, cons_option, AllByRecursion, option_map_or, option_or, and_parts, and_from, or_parts, lt-ltb, le-leb, leb-true, ltb-false, ltb-true, map-append, length-append, list_all-append, first_that_holds, none_holds, is_name, Alignment, Byte, Page, Segment, Target, InSegment, External, SetByte, Places, Public, ObjectModule, words_are_whole, is_among, are_new, is_movable, is_target, is_page, is_valid_segment, may_have_publics, is_valid_public, IsObjectModule, start_after, Linked, code_end, data_end, displacement_in, linked_after, linked_from, linked_modules, public_moved, publics_moved, all_publics, public_meant, target_of_public, target_kept, LinkRefusal, DuplicatePublic, UnresolvedExternal, SegmentTooLong, NotOneMain, HighByteMoves, joined_after, places_moved, code_piece, data_piece, joined_alignment, main_modules, joined, repeated_after, public_names, unresolved, last_end, is_too_long, some_segment_is_too_long, some_high_byte_moves, refusal_of, unless_refused, link_refusal, merge_of, both_are_none, none_before_map}
use Rattle.object_laws.proofs.Files.Accepted.{public_name}
use Rattle.object_laws.proofs.Merges.MovedValid.{are_valid, Keeps, moved_valid, moved_whole, moved_length, Piece, joined_valid, joined_whole, PiecesFollow, end_after, joined_length}

-- What a merge is, and that nothing refuses it.
pub record IsMerge (objects : List ObjectModule) (object : ObjectModule) : Type 0 where
  pub said : object ≡ joined objects (linked_modules objects)
  pub repeated : repeated_after [] (public_names objects) ≡ None
  pub resolved : unresolved objects ≡ None
  pub fits : some_segment_is_too_long objects (linked_modules objects) ≡ false
  pub main : not (length (main_modules (linked_modules objects)) == 1) ≡ false
  pub high : list_any (some_high_byte_moves (all_publics (linked_modules objects))) (linked_modules objects)
      ≡ false

pub unless_ok :
    {A R : Type 0} (value : A) (refusal : Option R) (result : A) → unless_refused value refusal ≡ Ok result
    → (value ≡ result) × (refusal ≡ None)
unless_ok {A} {R} value None result h = (ap given h, refl)
  where
    given : Result A R → A
    given (Ok v) = v
    given (Err r) = value
unless_ok value (Some refusal) result h = absurd (let bad : Err refusal ≡ Ok result = h in cc)

pub merge_is : (objects : List ObjectModule) (object : ObjectModule) → merge_of objects ≡ Ok object
    → IsMerge objects object
unfolding merge_of link_refusal
merge_is objects object h =
    let is =
    unless_ok (joined objects (linked_modules objects))
    (refusal_of objects (linked_modules objects)) object h in
    let linked : List Linked = linked_modules objects in
    let long : Bool × LinkRefusal = (some_segment_is_too_long objects linked, SegmentTooLong) in
    let mains : Bool × LinkRefusal = (not (length (main_modules linked) == 1), NotOneMain) in
    let high : Bool × LinkRefusal =
    (list_any (some_high_byte_moves (all_publics linked)) linked, HighByteMoves) in
    let first = both_are_none (option_map DuplicatePublic (repeated_after [] (public_names objects)))
    (option_or (option_map UnresolvedExternal (unresolved objects))
    (first_that_holds (long ∷ mains ∷ high ∷ []))) is.1 in
    let second = both_are_none (option_map UnresolvedExternal (unresolved objects))
    (first_that_holds (long ∷ mains ∷ high ∷ [])) first.1 in
    let third = none_holds long.0 SegmentTooLong (mains ∷ high ∷ []) second.1 in
    let fourth = none_holds mains.0 NotOneMain (high ∷ []) third.1 in
    let fifth = none_holds high.0 HighByteMoves [] fourth.1 in
    record {
      said = sym is.0;
      repeated = none_before_map DuplicatePublic (repeated_after [] (public_names objects)) first.0;
      resolved = none_before_map UnresolvedExternal (unresolved objects) second.0;
      fits = third.0;
      main = fourth.0;
      high = fifth.0;
    }

-- Names.
pub none_repeated :
    (known names : List (List ℕ)) → repeated_after known names ≡ None → are_new names known ≡ true
none_repeated known [] h = refl
none_repeated known (name ∷ others) h = go (is_among name known) refl (none_repeated (name ∷ known) others) h
  where
    go : (b : Bool) → is_among name known ≡ b
        → (repeated_after (name ∷ known) others ≡ None → are_new others (name ∷ known) ≡ true)
        → cond b (Some name) (repeated_after (name ∷ known) others) ≡ None
        → are_new (name ∷ others) known ≡ true
    go true e later is = absurd (let bad : Some name ≡ None = is in cc)
    go false e later is = and_from _ _ (ap not e) (later is)

names_stay :
    (linked : Linked) (publics : List Public)
    → map public_name (map (public_moved linked) publics) ≡ map public_name publics
names_stay linked [] = refl
names_stay linked (public ∷ others) = ap (λ names. public.name ∷ names) (names_stay linked others)

pub names_from :
    (code data_before : ℕ) (objects : List ObjectModule)
    → map public_name (all_publics (linked_from code data_before objects)) ≡ public_names objects
names_from code data_before [] = refl
names_from code data_before (object ∷ others) =
    let one : Linked = linked_after code data_before object in
    map-append public_name (publics_moved one)
    (all_publics (linked_from (code_end one) (data_end one) others))
    ∙ ap (λ names. names ++ map public_name (all_publics (linked_from (code_end one) (data_end one) others)))
    (names_stay one object.publics)
    ∙ ap (λ names. map public_name object.publics ++ names) (names_from (code_end one) (data_end one) others)

names_valid :
    (objects : List ObjectModule) → AllByRecursion IsObjectModule objects
    → list_all is_name (public_names objects) ≡ true
names_valid [] all = refl
names_valid (object ∷ others) all =
    let names =
    and_parts (list_all is_name object.externals) (list_all is_name (map public_name object.publics))
    (sym (list_all-append is_name object.externals (map public_name object.publics)) ∙ all.0.names) in
    list_all-append is_name (map public_name object.publics) (public_names others)
    ∙ and_from _ _ names.1 (names_valid others all.1)

-- Modules that are linked.
abbrev pub ValidLinked : Linked → Type 0
ValidLinked linked = IsObjectModule linked.object

pub linked_valid :
    (code data_before : ℕ) (objects : List ObjectModule) → AllByRecursion IsObjectModule objects
    → AllByRecursion ValidLinked (linked_from code data_before objects)
linked_valid code data_before [] all = tt
linked_valid code data_before (object ∷ others) all =
    let one : Linked = linked_after code data_before object in
    (all.0, linked_valid (code_end one) (data_end one) others all.1)

-- publics
publics_valid :
    (linked : Linked) (publics : List Public) → list_all is_valid_public publics ≡ true
    → list_all is_valid_public (map (public_moved linked) publics) ≡ true
publics_valid linked [] h = refl
publics_valid linked (public ∷ others) h =
    let cut = and_parts (is_valid_public public) (list_all is_valid_public others) h in
    let here = and_parts (may_have_publics public.segment) (nat_lt public.offset 65536) cut.0 in
    and_from _ _
    (and_from _ _ here.0 (lt-ltb ((public.offset + displacement_in linked public.segment) % 65536)
    65536 (omega arith)))
    (publics_valid linked others cut.1)

all_publics_valid :
    (linked : List Linked) → AllByRecursion ValidLinked linked
    → list_all is_valid_public (all_publics linked) ≡ true
all_publics_valid [] all = refl
all_publics_valid (one ∷ others) all =
    list_all-append is_valid_public (publics_moved one) (all_publics others)
    ∙ and_from _ _ (publics_valid one (one.object).publics all.0.publics) (all_publics_valid others all.1)

-- the main module
abbrev pub main_of : Linked → Option (List ℕ × ℕ)
main_of one =
    option_map (λ offset. ((one.object).name, (offset + (one.start).code) % 65536)) (one.object).start

pub mains_are : (linked : List Linked) → main_modules linked ≡ filter_map main_of linked
mains_are linked = refl

abbrev ValidMain : List ℕ × ℕ → Type 0
ValidMain main = (is_name main.0 ≡ true) × (main.1 < 65536)

more_mains :
    (one : Linked) (start : Option ℕ) (others : List (List ℕ × ℕ)) → is_name (one.object).name ≡ true
    → AllByRecursion ValidMain others
    → AllByRecursion ValidMain
    (cons_option (option_map (λ offset. ((one.object).name, (offset + (one.start).code) % 65536)) start)
    others)
more_mains one None others h later = later
more_mains one (Some offset) others h later = ((h, omega arith), later)

mains_valid :
    (linked : List Linked) → AllByRecursion ValidLinked linked
    → AllByRecursion ValidMain (filter_map main_of linked)
mains_valid [] all = tt
mains_valid (one ∷ others) all =
    more_mains one (one.object).start (filter_map main_of others) all.0.name (mains_valid others all.1)

first_name :
    (mains : List (List ℕ × ℕ)) → AllByRecursion ValidMain mains → not (length mains == 1) ≡ false
    → is_name (option_map_or (λ (main : List ℕ × ℕ). main.0) (slice_get mains 0) []) ≡ true
first_name [] all h = absurd (let bad : true ≡ false = h in cc)
first_name (main ∷ others) all h = all.0.0

first_start :
    (mains : List (List ℕ × ℕ)) → AllByRecursion ValidMain mains
    → IfSome (option_map (λ (main : List ℕ × ℕ). main.1) (slice_get mains 0)) (λ offset. offset < 65536)
first_start [] all = tt
first_start (main ∷ others) all = all.0.1

-- Segments.
pub target_kept_keeps : (publics : List Public) (linked : Linked) (count : ℕ)
    → Keeps count (target_kept publics linked)
target_kept_keeps publics linked count (InSegment segment) h = h
target_kept_keeps publics linked count (External number) h = go (public_meant publics linked.object number)
  where
    by_segment : (segment : Segment) (b : Bool) → is_movable segment ≡ b
        → option_map_or (λ (other : Target). is_target 0 other) (cond b (Some (InSegment segment)) None) true
        ≡ true
    by_segment segment true e = e
    by_segment segment false e = refl

    go : (found : Option Public)
        → option_map_or (λ (other : Target). is_target 0 other) (option_and_then target_of_public found) true
        ≡ true
    go None = refl
    go (Some public) = by_segment public.segment (is_movable public.segment) refl

pub record ValidPlaces (count : ℕ) (segment : Places) : Type 0 where
  pub short : length segment.places ≤ 65535
  pub valid : are_valid count segment.places ≡ true
  pub whole : words_are_whole segment.places ≡ true
  pub page : (not (is_page segment.alignment) || nat_lt 0 (length segment.places)) ≡ true

pub places_are : (count : ℕ) (segment : Places) → is_valid_segment count segment ≡ true
    → ValidPlaces count segment
places_are count segment h =
    let first = and_parts
    (nat_le (length segment.places) 65535 && are_valid count segment.places && words_are_whole segment.places)
    (not (is_page segment.alignment) || nat_lt 0 (length segment.places)) h in
    let second = and_parts (nat_le (length segment.places) 65535 && are_valid count segment.places)
    (words_are_whole segment.places) first.0 in
    let third = and_parts (nat_le (length segment.places) 65535) (are_valid count segment.places) second.0 in
    record { short = leb-true _ _ third.0; valid = third.1; whole = second.1; page = first.1 }

pub piece_valid :
    (publics : List Public) (linked : Linked) (start count : ℕ) (segment : Places)
    → is_valid_segment count segment ≡ true
    → Piece (start, places_moved publics linked segment.places)
piece_valid publics linked start count segment h =
    let v = places_are count segment h in
    record {
      valid = moved_valid count _ _ None segment.places (target_kept_keeps publics linked count) v.valid;
      whole = moved_whole _ _ None segment.places v.whole;
    }

pub code_pieces :
    (publics : List Public) (linked : List Linked) → AllByRecursion ValidLinked linked
    → AllByRecursion Piece (map (code_piece publics) linked)
code_pieces publics [] all = tt
code_pieces publics (one ∷ others) all =
    (piece_valid publics one _ _ (one.object).code all.0.code, code_pieces publics others all.1)

pub data_pieces :
    (publics : List Public) (linked : List Linked) → AllByRecursion ValidLinked linked
    → AllByRecursion Piece (map (data_piece publics) linked)
data_pieces publics [] all = tt
data_pieces publics (one ∷ others) all =
    (piece_valid publics one _ _ (one.object).data_places all.0.data_places, data_pieces publics others all.1)

pub later_start : (end : ℕ) (alignment : Alignment) → end ≤ start_after end alignment
later_start end Byte = omega arith
later_start end Page = omega arith

-- lengths
pub same_end :
    (publics : List Public) (one : Linked) (start : ℕ) (places : List (Option SetByte))
    → start + length (places_moved publics one places) ≡ start + length places
same_end publics one start places = ap (λ n. start + n) (moved_length _ _ None places)

pub code_follow :
    (publics : List Public) (code data_before : ℕ) (objects : List ObjectModule)
    → PiecesFollow code (map (code_piece publics) (linked_from code data_before objects))
code_follow publics code data_before [] = tt
code_follow publics code data_before (object ∷ others) =
    let one : Linked = linked_after code data_before object in (
      later_start code object.code.alignment,
      subst (λ end. PiecesFollow end (map (code_piece publics)
          (linked_from (code_end one) (data_end one) others)))
          (sym (same_end publics one (one.start).code object.code.places))
          (code_follow publics (code_end one) (data_end one) others),
    )

pub data_follow :
    (publics : List Public) (code data_before : ℕ) (objects : List ObjectModule)
    → PiecesFollow data_before (map (data_piece publics) (linked_from code data_before objects))
data_follow publics code data_before [] = tt
data_follow publics code data_before (object ∷ others) =
    let one : Linked = linked_after code data_before object in (
      later_start data_before object.data_places.alignment,
      subst (λ end. PiecesFollow end (map (data_piece publics)
          (linked_from (code_end one) (data_end one) others)))
          (sym (same_end publics one (one.start).data_start object.data_places.places))
          (data_follow publics (code_end one) (data_end one) others),
    )

-- the end of the last piece
code_ends :
    (publics : List Public) (first : Linked) (others : List Linked)
    → end_after (code_end first) (map (code_piece publics) others) ≡ last_end code_end (first ∷ others)
code_ends publics first [] = refl
code_ends publics first (one ∷ others) =
    ap (λ end. end_after end (map (code_piece publics) others))
    (same_end publics one (one.start).code (one.object).code.places)
    ∙ code_ends publics one others

data_ends :
    (publics : List Public) (first : Linked) (others : List Linked)
    → end_after (data_end first) (map (data_piece publics) others) ≡ last_end data_end (first ∷ others)
data_ends publics first [] = refl
data_ends publics first (one ∷ others) =
    ap (λ end. end_after end (map (data_piece publics) others))
    (same_end publics one (one.start).data_start (one.object).data_places.places)
    ∙ data_ends publics one others

pub code_ends_all :
    (publics : List Public) (linked : List Linked)
    → end_after 0 (map (code_piece publics) linked) ≡ last_end code_end linked
code_ends_all publics [] = refl
code_ends_all publics (one ∷ others) =
    ap (λ end. end_after end (map (code_piece publics) others))
    (same_end publics one (one.start).code (one.object).code.places)
    ∙ code_ends publics one others

pub data_ends_all :
    (publics : List Public) (linked : List Linked)
    → end_after 0 (map (data_piece publics) linked) ≡ last_end data_end linked
data_ends_all publics [] = refl
data_ends_all publics (one ∷ others) =
    ap (λ end. end_after end (map (data_piece publics) others))
    (same_end publics one (one.start).data_start (one.object).data_places.places)
    ∙ data_ends publics one others

-- a page-aligned piece has bytes
page_length :
    (publics : List Public) (one : Linked) (count : ℕ) (segment : Places) (page : Bool)
    (gap rest : List (Option SetByte))
    → is_page segment.alignment ≡ page → is_valid_segment count segment ≡ true
    → (page ≡ false → 0 < length rest)
    → 0 < length ((gap ++ places_moved publics one segment.places) ++ rest)
page_length publics one count segment page gap rest is valid later =
    let piece : List (Option SetByte) = places_moved publics one segment.places in
    let outer : length ((gap ++ piece) ++ rest) ≡ length (gap ++ piece) + length rest =
    length-append (gap ++ piece) rest in
    let inner : length (gap ++ piece) ≡ length gap + length piece = length-append gap piece in
    let same : length piece ≡ length segment.places = moved_length _ _ None segment.places in
    let some : 0 < length segment.places + length rest =
    go page is later (places_are count segment valid).page in
    omega (arith, outer, inner, same, some)
  where
    go : (b : Bool) → is_page segment.alignment ≡ b → (b ≡ false → 0 < length rest)
        → (not (is_page segment.alignment) || nat_lt 0 (length segment.places)) ≡ true
        → 0 < length segment.places + length rest
    go true e more page =
        let some : 0 < length segment.places =
        ltb-true 0 (length segment.places)
        (sym (ap (λ t. not t || nat_lt 0 (length segment.places)) e) ∙ page) in
        omega (arith, some)
    go false e more page = let some : 0 < length rest = more refl in omega (arith, some)

other_page : (a b : Bool) → (a || b) ≡ true → a ≡ false → b ≡ true
other_page true b h e = absurd (let bad : true ≡ false = e in cc)
other_page false b h e = h

code_page :
    (publics : List Public) (end code data_before : ℕ) (objects : List ObjectModule)
    → AllByRecursion IsObjectModule objects
    → list_any (λ (segment : Places). is_page segment.alignment)
    (map (λ (object : ObjectModule). object.code) objects) ≡ true
    → 0 < length (joined_after end (map (code_piece publics) (linked_from code data_before objects)))
code_page publics end code data_before [] all h = absurd (let bad : false ≡ true = h in cc)
code_page publics end code data_before (object ∷ others) all h =
    let one : Linked = linked_after code data_before object in
    page_length publics one (length object.externals) object.code (is_page object.code.alignment)
    (replicate ((one.start).code - end) None)
    (joined_after ((one.start).code + length (places_moved publics one object.code.places))
    (map (code_piece publics) (linked_from (code_end one) (data_end one) others)))
    refl all.0.code
    (λ e.
    code_page publics ((one.start).code + length (places_moved publics one object.code.places)) (code_end one)
    (data_end one) others all.1 (other_page (is_page object.code.alignment) _ h e))

data_page :
    (publics : List Public) (end code data_before : ℕ) (objects : List ObjectModule)
    → AllByRecursion IsObjectModule objects
    → list_any (λ (segment : Places). is_page segment.alignment)
    (map (λ (object : ObjectModule). object.data_places) objects) ≡ true
    → 0 < length (joined_after end (map (data_piece publics) (linked_from code data_before objects)))
data_page publics end code data_before [] all h = absurd (let bad : false ≡ true = h in cc)
data_page publics end code data_before (object ∷ others) all h =
    let one : Linked = linked_after code data_before object in
    page_length publics one (length object.externals) object.data_places
    (is_page object.data_places.alignment)
    (replicate ((one.start).data_start - end) None)
    (joined_after ((one.start).data_start + length (places_moved publics one object.data_places.places))
    (map (data_piece publics) (linked_from (code_end one) (data_end one) others)))
    refl all.0.data_places
    (λ e.
    data_page publics ((one.start).data_start + length (places_moved publics one object.data_places.places))
    (code_end one)
    (data_end one) others all.1 (other_page (is_page object.data_places.alignment) _ h e))

page_is :
    (segments : List Places) (size : ℕ)
    → (list_any (λ (segment : Places). is_page segment.alignment) segments ≡ true → 0 < size)
    → (not (is_page (joined_alignment segments)) || nat_lt 0 size) ≡ true
page_is segments size h = go (list_any (λ (segment : Places). is_page segment.alignment) segments) refl
  where
    go : (b : Bool) → list_any (λ (segment : Places). is_page segment.alignment) segments ≡ b
        → (not (is_page (cond b Page Byte)) || nat_lt 0 size) ≡ true
    go true e = lt-ltb 0 size (h e)
    go false e = refl

joined_segment :
    (segments : List Places) (pieces : List (ℕ × List (Option SetByte))) → AllByRecursion Piece pieces
    → PiecesFollow 0 pieces
    → end_after 0 pieces ≤ 65535
    → (list_any (λ (segment : Places). is_page segment.alignment) segments ≡ true
    → 0 < length (joined_after 0 pieces))
    → is_valid_segment 0 (record { alignment = joined_alignment segments; places = joined_after 0 pieces })
    ≡ true
joined_segment segments pieces all follow short page =
    let long : 0 + length (joined_after 0 pieces) ≡ end_after 0 pieces = joined_length 0 pieces follow in
    and_from _ _
    (and_from _ _
    (and_from _ _ (le-leb (length (joined_after 0 pieces)) 65535 (omega (arith, long, short)))
    (joined_valid 0 pieces all))
    (joined_whole 0 pieces all))
    (page_is segments (length (joined_after 0 pieces)) page)

-- all of it
pub short_end : (count : ℕ) → is_too_long count ≡ false → count ≤ 65535
short_end count h = ltb-false 65535 count h

merge_of_valid :
    (objects : List ObjectModule) (object : ObjectModule) → AllByRecursion IsObjectModule objects
    → IsMerge objects object
    → IsObjectModule object
merge_of_valid objects object all m =
    let linked : List Linked = linked_modules objects in
    let publics : List Public = all_publics linked in
    let valid = linked_valid 0 0 objects all in
    let mains = mains_valid linked valid in
    let lengths = or_parts
    (is_too_long (last_end code_end linked) || is_too_long (last_end data_end linked))
    (is_too_long (sum_by (λ (o : ObjectModule). o.stack_length) objects)) m.fits in
    let ends =
    or_parts (is_too_long (last_end code_end linked))
    (is_too_long (last_end data_end linked)) lengths.0 in
    let names = names_from 0 0 objects in
    subst IsObjectModule (sym m.said)
    (record {
      name = first_name (filter_map main_of linked) mains m.main;
      code =
          joined_segment (map (λ (o : ObjectModule). o.code) objects) (map (code_piece publics) linked)
          (code_pieces publics linked valid) (code_follow publics 0 0 objects)
          (subst (λ end. end ≤ 65535) (sym (code_ends_all publics linked)) (short_end _ ends.0))
          (code_page publics 0 0 0 objects all);
      data_places =
          joined_segment (map (λ (o : ObjectModule). o.data_places) objects) (map (data_piece publics) linked)
          (data_pieces publics linked valid) (data_follow publics 0 0 objects)
          (subst (λ end. end ≤ 65535) (sym (data_ends_all publics linked)) (short_end _ ends.1))
          (data_page publics 0 0 0 objects all);
      stack = short_end _ lengths.1;
      publics = all_publics_valid linked valid;
      names = ap (list_all is_name) names ∙ names_valid objects all;
      different = ap (λ n. are_new n []) names ∙ none_repeated [] (public_names objects) m.repeated;
      start = first_start (filter_map main_of linked) mains;
    })

pub by_recursion : {A : Type 0} (P : A → Type 0) (xs : List A) → All P xs → AllByRecursion P xs
by_recursion P [] all = tt
by_recursion P (x ∷ xs) all =
    (all 0 x (omega arith), by_recursion P xs (λ k d h. all (suc k) d (omega (arith, h))))

-- so a merge of valid modules is one
pub merge_is_object :
    (objects : List ObjectModule) (object : ObjectModule) → All IsObjectModule objects → merge_of objects ≡ Ok object
    → IsObjectModule object
merge_is_object objects object all h =
    merge_of_valid objects object (by_recursion IsObjectModule objects all) (merge_is objects object h)
