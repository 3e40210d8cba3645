-- Modules with their publics in the order in which they are written have the merge of the modules, but for
-- the order of its publics, or are refused by the same number.
use Rattle.file_laws.proofs.Prelude.{◌≡◌, ℕ, ◌+◌, ◌%◌, ◌==◌, Bool, not, ◌||◌, List, [], ◌∷◌, ◌++◌, length, map, flat_map, filter_map, sum_by, slice_get, All, Option, Some, None, option_map, option_and_then, Result, Ok, Err, refl, ap, sym, ◌∙◌, find, list_any, cons_option, AllByRecursion, option_map_or, option_or, sum_by-cons, first_that_holds, Target, InSegment, External, SetByte, Places, Public, ObjectModule, IsObjectModule, is_among, moved, high_targets, Linked, code_end, data_end, linked_after, linked_from, linked_modules, publics_moved, all_publics, public_named, target_of_public, gain_in, target_kept, LinkRefusal, DuplicatePublic, UnresolvedExternal, SegmentTooLong, NotOneMain, HighByteMoves, link_number, joined_after, code_piece, data_piece, joined_alignment, main_modules, joined, repeated_after, public_names, unresolved, last_end, is_too_long, some_segment_is_too_long, some_high_byte_moves, refusal_of, unless_refused, link_refusal, merge_of, with_publics_in_order, public_name, merge_is, unless_ok, names_from, linked_valid, ValidLinked, main_of, mains_are, by_recursion}
use mathlib.Core.Path.{fun_ext}
use Rattle.file_laws.proofs.PublicsInOrder.{SameBySegment, in_order, ordered_same, moved_same, joined_same, order_same}
use Rattle.file_laws.proofs.Names.{times, SameNames, among_same, none_repeated_there, names_same, finds_same}

-- a module where it was, with its publics in order
abbrev reordered : Linked → Linked
reordered one = record one { object = with_publics_in_order one.object }

abbrev all_reordered : List ObjectModule → List ObjectModule
all_reordered objects = map with_publics_in_order objects

-- each begins where it began
linked_again :
    (code data_before : ℕ) (objects : List ObjectModule)
    → linked_from code data_before (all_reordered objects)
    ≡ map reordered (linked_from code data_before objects)
linked_again code data_before [] = refl
linked_again code data_before (object ∷ others) =
    let one : Linked = linked_after code data_before object in
    ap (λ later. reordered one ∷ later) (linked_again (code_end one) (data_end one) others)

-- the publics of the merge
publics_same :
    (linked : List Linked) → AllByRecursion ValidLinked linked
    → SameBySegment (all_publics (map reordered linked)) (all_publics linked)
publics_same [] all = λ segment. refl
publics_same (one ∷ others) all =
    joined_same (publics_moved (reordered one)) (publics_moved one) (all_publics (map reordered others))
    (all_publics others)
    (moved_same one (in_order (one.object).publics) (one.object).publics
    (ordered_same (one.object).publics all.0.publics))
    (publics_same others all.1)

-- What does not hang on publics.
externals_again :
    (objects : List ObjectModule)
    → flat_map (λ (object : ObjectModule). object.externals) (all_reordered objects)
    ≡ flat_map (λ (object : ObjectModule). object.externals) objects
externals_again [] = refl
externals_again (object ∷ others) = ap (λ names. object.externals ++ names) (externals_again others)

stack_again :
    (objects : List ObjectModule)
    → sum_by (λ (object : ObjectModule). object.stack_length) (all_reordered objects)
    ≡ sum_by (λ (object : ObjectModule). object.stack_length) objects
stack_again [] = refl
stack_again (object ∷ others) =
    let size : ObjectModule → ℕ = λ (one : ObjectModule). one.stack_length in
    sum_by-cons size (with_publics_in_order object) (all_reordered others)
    ∙ ap (λ n. object.stack_length + n) (stack_again others)
    ∙ sym (sum_by-cons size object others)

code_segments_again :
    (objects : List ObjectModule)
    → map (λ (object : ObjectModule). object.code) (all_reordered objects)
    ≡ map (λ (object : ObjectModule). object.code) objects
code_segments_again [] = refl
code_segments_again (object ∷ others) = ap (λ segments. object.code ∷ segments) (code_segments_again others)

data_segments_again :
    (objects : List ObjectModule)
    → map (λ (object : ObjectModule). object.data_places) (all_reordered objects)
    ≡ map (λ (object : ObjectModule). object.data_places) objects
data_segments_again [] = refl
data_segments_again (object ∷ others) =
    ap (λ segments. object.data_places ∷ segments) (data_segments_again others)

mains_again : (linked : List Linked) → filter_map main_of (map reordered linked) ≡ filter_map main_of linked
mains_again [] = refl
mains_again (one ∷ others) = ap (cons_option (main_of one)) (mains_again others)

main_modules_again : (linked : List Linked) → main_modules (map reordered linked) ≡ main_modules linked
main_modules_again linked = mains_are (map reordered linked) ∙ mains_again linked ∙ sym (mains_are linked)

code_end_again : (linked : List Linked) → last_end code_end (map reordered linked) ≡ last_end code_end linked
code_end_again [] = refl
code_end_again (one ∷ []) = refl
code_end_again (one ∷ next ∷ others) = code_end_again (next ∷ others)

data_end_again : (linked : List Linked) → last_end data_end (map reordered linked) ≡ last_end data_end linked
data_end_again [] = refl
data_end_again (one ∷ []) = refl
data_end_again (one ∷ next ∷ others) = data_end_again (next ∷ others)

too_long_again :
    (objects : List ObjectModule) (linked : List Linked)
    → some_segment_is_too_long (all_reordered objects) (map reordered linked)
    ≡ some_segment_is_too_long objects linked
too_long_again objects linked =
    let size : List ObjectModule → ℕ = λ all. sum_by (λ (object : ObjectModule). object.stack_length) all in
    ap (λ end. is_too_long end || is_too_long (last_end data_end (map reordered linked))
    || is_too_long (size (all_reordered objects))) (code_end_again linked)
    ∙ ap (λ end. is_too_long (last_end code_end linked) || is_too_long end
    || is_too_long (size (all_reordered objects))) (data_end_again linked)
    ∙ ap (λ bytes. is_too_long (last_end code_end linked) || is_too_long (last_end data_end linked)
    || is_too_long bytes) (stack_again objects)

-- What hangs on publics by their names alone.
abbrev SameFound : (left right : List Public) → Type 0
SameFound left right = public_named left ≡ public_named right

gains_again :
    (left right : List Public) (one : Linked) → SameFound left right
    → gain_in left (reordered one) ≡ gain_in right one
gains_again left right one same = fun_ext each
  where
    each : (target : Target) → gain_in left (reordered one) target ≡ gain_in right one target
    each (InSegment segment) = refl
    each (External number) =
        ap (λ (named : List ℕ → Option Public).
        option_map_or (λ (public : Public). public.offset)
        (option_and_then named (slice_get (one.object).externals number)) 0) same

kept_again :
    (left right : List Public) (one : Linked) → SameFound left right
    → target_kept left (reordered one) ≡ target_kept right one
kept_again left right one same = fun_ext each
  where
    each : (target : Target) → target_kept left (reordered one) target ≡ target_kept right one target
    each (InSegment segment) = refl
    each (External number) =
        ap (λ (named : List ℕ → Option Public).
        option_and_then target_of_public (option_and_then named (slice_get (one.object).externals number)))
        same

places_again :
    (left right : List Public) (one : Linked) (places : List (Option SetByte)) → SameFound left right
    → moved (gain_in left (reordered one)) (target_kept left (reordered one)) places
    ≡ moved (gain_in right one) (target_kept right one) places
places_again left right one places same =
    ap (λ (gains : Target → ℕ). moved gains (target_kept left (reordered one)) places)
    (gains_again left right one same)
    ∙ ap (λ (kept : Target → Option Target). moved (gain_in right one) kept places)
    (kept_again left right one same)

code_pieces_again :
    (left right : List Public) (linked : List Linked) → SameFound left right
    → map (code_piece left) (map reordered linked) ≡ map (code_piece right) linked
code_pieces_again left right [] same = refl
code_pieces_again left right (one ∷ others) same =
    let later : List (ℕ × List (Option SetByte)) = map (code_piece left) (map reordered others) in
    ap (λ (places : List (Option SetByte)). ((one.start).code, places) ∷ later)
    (places_again left right one (one.object).code.places same)
    ∙ ap (λ pieces. code_piece right one ∷ pieces) (code_pieces_again left right others same)

data_pieces_again :
    (left right : List Public) (linked : List Linked) → SameFound left right
    → map (data_piece left) (map reordered linked) ≡ map (data_piece right) linked
data_pieces_again left right [] same = refl
data_pieces_again left right (one ∷ others) same =
    let later : List (ℕ × List (Option SetByte)) = map (data_piece left) (map reordered others) in
    ap (λ (places : List (Option SetByte)). ((one.start).data_start, places) ∷ later)
    (places_again left right one (one.object).data_places.places same)
    ∙ ap (λ pieces. data_piece right one ∷ pieces) (data_pieces_again left right others same)

highs_again :
    (left right : List Public) (linked : List Linked) → SameFound left right
    → list_any (some_high_byte_moves left) (map reordered linked)
    ≡ list_any (some_high_byte_moves right) linked
highs_again left right [] same = refl
highs_again left right (one ∷ others) same =
    ap (λ (gains : Target → ℕ).
    list_any (λ target. not (gains target % 256 == 0)) (high_targets one.object)
    || list_any (some_high_byte_moves left) (map reordered others)) (gains_again left right one same)
    ∙ ap (λ b. some_high_byte_moves right one || b) (highs_again left right others same)

-- The merge, with its publics in order.
abbrev module_with :
    (name : List ℕ) → (code data_places : Places) → (stack_length : ℕ) → (publics : List Public)
    → (start : Option ℕ) → ObjectModule
module_with name code data_places stack_length publics start = record {
  name = name;
  code = code;
  data_places = data_places;
  stack_length = stack_length;
  publics = publics;
  externals = [];
  start = start;
}

abbrev segment_with : List Places → List (ℕ × List (Option SetByte)) → Places
segment_with segments pieces =
    record { alignment = joined_alignment segments; places = joined_after 0 pieces }

abbrev first_name : List (List ℕ × ℕ) → List ℕ
first_name mains = option_map_or (λ (main : List ℕ × ℕ). main.0) (slice_get mains 0) []

abbrev first_start : List (List ℕ × ℕ) → Option ℕ
first_start mains = option_map (λ (main : List ℕ × ℕ). main.1) (slice_get mains 0)

same_parts :
    (mains more : List (List ℕ × ℕ)) (code other_code data_places other_data : Places) (stack other_stack : ℕ)
    (publics other_publics : List Public)
    → mains ≡ more → code ≡ other_code → data_places ≡ other_data → stack ≡ other_stack
    → publics ≡ other_publics
    → module_with (first_name mains) code data_places stack publics (first_start mains)
    ≡ module_with (first_name more) other_code other_data other_stack other_publics (first_start more)
same_parts mains more code other_code data_places other_data stack other_stack publics
    other_publics a b c d e =
    ap (λ x. module_with (first_name x) code data_places stack publics (first_start x)) a
    ∙ ap (λ x. module_with (first_name more) x data_places stack publics (first_start more)) b
    ∙ ap (λ x. module_with (first_name more) other_code x stack publics (first_start more)) c
    ∙ ap (λ x. module_with (first_name more) other_code other_data x publics (first_start more)) d
    ∙ ap (λ x. module_with (first_name more) other_code other_data other_stack x (first_start more)) e

joined_again :
    (objects : List ObjectModule) (linked : List Linked)
    → SameFound (all_publics (map reordered linked)) (all_publics linked)
    → SameBySegment (all_publics (map reordered linked)) (all_publics linked)
    → with_publics_in_order (joined (all_reordered objects) (map reordered linked))
    ≡ with_publics_in_order (joined objects linked)
joined_again objects linked found same =
    let left : List Public = all_publics (map reordered linked) in
    let right : List Public = all_publics linked in
    let code_left : List (ℕ × List (Option SetByte)) = map (code_piece left) (map reordered linked) in
    let code_right : List (ℕ × List (Option SetByte)) = map (code_piece right) linked in
    let data_left : List (ℕ × List (Option SetByte)) = map (data_piece left) (map reordered linked) in
    let data_right : List (ℕ × List (Option SetByte)) = map (data_piece right) linked in
    let codes : List ObjectModule → List Places = λ all. map (λ (object : ObjectModule). object.code) all in
    let datas : List ObjectModule → List Places =
    λ all. map (λ (object : ObjectModule). object.data_places) all in
    let size : List ObjectModule → ℕ = λ all. sum_by (λ (object : ObjectModule). object.stack_length) all in
    same_parts (main_modules (map reordered linked)) (main_modules linked)
    (segment_with (codes (all_reordered objects)) code_left) (segment_with (codes objects) code_right)
    (segment_with (datas (all_reordered objects)) data_left) (segment_with (datas objects) data_right)
    (size (all_reordered objects)) (size objects) (in_order left) (in_order right)
    (main_modules_again linked)
    (ap (λ segments. segment_with segments code_left) (code_segments_again objects)
    ∙ ap (segment_with (codes objects)) (code_pieces_again left right linked found))
    (ap (λ segments. segment_with segments data_left) (data_segments_again objects)
    ∙ ap (segment_with (datas objects)) (data_pieces_again left right linked found))
    (stack_again objects) (order_same left right same)

-- Refusals.
names_again :
    (objects : List ObjectModule) → AllByRecursion IsObjectModule objects
    → SameNames (public_names (all_reordered objects)) (public_names objects)
names_again objects all name =
    let linked : List Linked = linked_modules objects in
    ap (λ names. times name names)
    (sym (names_from 0 0 (all_reordered objects))
    ∙ ap (λ (those : List Linked). map public_name (all_publics those)) (linked_again 0 0 objects))
    ∙ names_same (all_publics (map reordered linked)) (all_publics linked)
    (publics_same linked (linked_valid 0 0 objects all)) name
    ∙ ap (λ names. times name names) (names_from 0 0 objects)

unresolved_again :
    (objects : List ObjectModule) → SameNames (public_names (all_reordered objects)) (public_names objects)
    → unresolved (all_reordered objects) ≡ unresolved objects
unresolved_again objects same =
    ap (λ (among : List ℕ → Bool).
    find (λ name. not (among name))
    (flat_map (λ (object : ObjectModule). object.externals) (all_reordered objects)))
    (fun_ext (λ name. among_same (public_names (all_reordered objects)) (public_names objects) same name))
    ∙ ap (find (λ name. not (is_among name (public_names objects)))) (externals_again objects)

-- what a name finds in both, where none is repeated
found_again :
    (objects : List ObjectModule) → AllByRecursion IsObjectModule objects
    → repeated_after [] (public_names objects) ≡ None
    → SameFound (all_publics (map reordered (linked_modules objects))) (all_publics (linked_modules objects))
found_again objects all none =
    let linked : List Linked = linked_modules objects in
    let same = publics_same linked (linked_valid 0 0 objects all) in
    sym (fun_ext (finds_same (all_publics linked) (all_publics (map reordered linked))
    (λ segment. sym (same segment))
    (ap (repeated_after []) (names_from 0 0 objects) ∙ none)))

-- the refusals after that of a repeated name
abbrev later_refusal : List ObjectModule → List Linked → Option LinkRefusal
later_refusal objects linked =
    option_or (option_map UnresolvedExternal (unresolved objects))
    (first_that_holds
    ((some_segment_is_too_long objects linked, SegmentTooLong)
    ∷ (not (length (main_modules linked) == 1), NotOneMain)
    ∷ (list_any (some_high_byte_moves (all_publics linked)) linked, HighByteMoves)
    ∷ []))

abbrev refusal_by :
    (unknown : Option (List ℕ)) → (long : Bool) → (mains : List (List ℕ × ℕ)) → (high : Bool)
    → Option LinkRefusal
refusal_by unknown long mains high =
    option_or (option_map UnresolvedExternal unknown)
    (first_that_holds
    ((long, SegmentTooLong) ∷ (not (length mains == 1), NotOneMain) ∷ (high, HighByteMoves) ∷ []))

later_again :
    (objects : List ObjectModule) → AllByRecursion IsObjectModule objects
    → repeated_after [] (public_names objects) ≡ None
    → later_refusal (all_reordered objects) (map reordered (linked_modules objects))
    ≡ later_refusal objects (linked_modules objects)
later_again objects all none =
    let linked : List Linked = linked_modules objects in
    let after : List Linked = map reordered linked in
    let those : List ObjectModule = all_reordered objects in
    let high : Bool = list_any (some_high_byte_moves (all_publics after)) after in
    ap (λ unknown. refusal_by unknown (some_segment_is_too_long those after) (main_modules after) high)
    (unresolved_again objects (names_again objects all))
    ∙ ap (λ long. refusal_by (unresolved objects) long (main_modules after) high)
    (too_long_again objects linked)
    ∙ ap (λ mains. refusal_by (unresolved objects) (some_segment_is_too_long objects linked) mains high)
    (main_modules_again linked)
    ∙ ap (refusal_by (unresolved objects) (some_segment_is_too_long objects linked) (main_modules linked))
    (highs_again (all_publics after) (all_publics linked) linked (found_again objects all none))

-- the numbers of refusals
abbrev pub number_of : Option LinkRefusal → Option (List ℕ)
number_of refusal = option_map link_number refusal

pub refused_again :
    (objects : List ObjectModule) → All IsObjectModule objects
    → number_of (link_refusal (all_reordered objects)) ≡ number_of (link_refusal objects)
unfolding link_refusal
refused_again objects valid =
    ap (λ after. number_of (refusal_of (all_reordered objects) after)) (linked_again 0 0 objects)
    ∙ go (repeated_after [] (public_names (all_reordered objects))) (repeated_after [] (public_names objects))
    refl refl
  where
    all : AllByRecursion IsObjectModule objects
    all = by_recursion IsObjectModule objects valid

    linked : List Linked
    linked = linked_modules objects

    same : SameNames (public_names (all_reordered objects)) (public_names objects)
    same = names_again objects all

    go : (there here : Option (List ℕ)) → repeated_after [] (public_names (all_reordered objects)) ≡ there
        → repeated_after [] (public_names objects) ≡ here
        → number_of
        (option_or (option_map DuplicatePublic there)
        (later_refusal (all_reordered objects) (map reordered linked)))
        ≡ number_of (option_or (option_map DuplicatePublic here) (later_refusal objects linked))
    go None None t h = ap number_of (later_again objects all h)
    go (Some name) (Some other) t h = refl
    go None (Some name) t h =
        let none : repeated_after [] (public_names objects) ≡ None =
        none_repeated_there (public_names (all_reordered objects)) (public_names objects) same t in
        absurd (let bad : Some name ≡ None = sym h ∙ none in cc)
    go (Some name) None t h =
        let none : repeated_after [] (public_names (all_reordered objects)) ≡ None =
        none_repeated_there (public_names objects) (public_names (all_reordered objects))
        (λ n. sym (same n)) h in
        absurd (let bad : Some name ≡ None = sym t ∙ none in cc)

-- The merge.
pub record MergesAgain (objects : List ObjectModule) (merged : ObjectModule) : Type 0 where
  pub again : ObjectModule
  pub merge : merge_of (map with_publics_in_order objects) ≡ Ok again
  pub same : with_publics_in_order again ≡ with_publics_in_order merged

no_number : (refusal : Option LinkRefusal) → number_of refusal ≡ None → refusal ≡ None
no_number None h = refl
no_number (Some refusal) h = absurd (let bad : Some (link_number refusal) ≡ None = h in cc)

pub merged_again :
    (objects : List ObjectModule) (merged : ObjectModule) → All IsObjectModule objects
    → merge_of objects ≡ Ok merged
    → MergesAgain objects merged
unfolding merge_of
merged_again objects merged valid h =
    let those : List ObjectModule = all_reordered objects in
    let linked : List Linked = linked_modules objects in
    let all : AllByRecursion IsObjectModule objects = by_recursion IsObjectModule objects valid in
    let merge = merge_is objects merged h in
    let ok = unless_ok (joined objects linked) (link_refusal objects) merged h in
    let none : link_refusal those ≡ None =
    no_number (link_refusal those) (refused_again objects valid ∙ ap number_of ok.1) in
    record {
      again = joined those (linked_modules those);
      merge = ap (unless_refused (joined those (linked_modules those))) none;
      same =
          ap (λ after. with_publics_in_order (joined those after)) (linked_again 0 0 objects)
          ∙ joined_again objects linked (found_again objects all merge.repeated)
          (publics_same linked (linked_valid 0 0 objects all))
          ∙ ap with_publics_in_order (sym merge.said);
    }

-- a merge that is refused
pub unless_err :
    {A R : Type 0} (value : A) (refusal : Option R) (result : R) → unless_refused value refusal ≡ Err result
    → refusal ≡ Some result
unless_err {A} {R} value None result h = absurd (let bad : Ok value ≡ Err result = h in cc)
unless_err {A} {R} value (Some refusal) result h = ap given h
  where
    given : Result A R → Option R
    given (Ok v) = None
    given (Err r) = Some r

pub refusal_is :
    (objects : List ObjectModule) (refusal : LinkRefusal) → merge_of objects ≡ Err refusal
    → link_refusal objects ≡ Some refusal
unfolding merge_of
refusal_is objects refusal h =
    unless_err (joined objects (linked_modules objects)) (link_refusal objects) refusal h
