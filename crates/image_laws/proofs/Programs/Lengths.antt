-- How long the segments of a merge are: as long as those of its program.
use Rattle.image_laws.proofs.Prelude.{◌≡◌, ℕ, ◌+◌, Bool, true, false, ◌||◌, nat_lt, List, [], ◌∷◌, map, sum_by, refl, ap, ◌∙◌, arith, sum, sum_by-cons, TypedModule, PlacingPlan, code_range, data_range, data_bytes, Code, Data, Linked, all_publics, code_end, data_end, linked_after, linked_from, linked_modules, code_piece, data_piece, joined, last_end, is_too_long, some_segment_is_too_long, Public, ObjectModule, length_of, code_ends_all, code_follow, data_ends_all, data_follow, joined_length, AreObjectsOf, code_lengths_of}
use Rattle.image_laws.proofs.Programs.Bases.{follows}

-- how many bytes the data segments of modules have
abbrev pub data_sum : List TypedModule → ℕ
data_sum modules = sum_by (λ (typed : TypedModule). data_bytes typed.objects) modules

or_false : (b : Bool) → (b || false) ≡ b
or_false true = refl
or_false false = refl

sum_step : (x : ℕ) (xs : List ℕ) → sum (x ∷ xs) ≡ x + sum xs
sum_step x xs = sum_by-cons (λ n. n) x xs

data_step :
    (typed : TypedModule) (others : List TypedModule)
    → data_sum (typed ∷ others) ≡ data_bytes typed.objects + data_sum others
data_step typed others = sum_by-cons (λ (one : TypedModule). data_bytes one.objects) typed others

-- where the last of some modules ends, after what ends at these offsets
code_end_from :
    (code data_before : ℕ) (typed : TypedModule) (object : ObjectModule) (modules : List TypedModule)
    (objects : List ObjectModule) → AreObjectsOf (typed ∷ modules) (object ∷ objects)
    → last_end code_end (linked_from code data_before (object ∷ objects))
    ≡ code + sum (code_lengths_of (object ∷ objects))
code_end_from code data_before typed object [] [] all =
    let ends = (follows code data_before typed object all.0).code_ends in
    let total = sum_step (length_of object Code) [] in
    omega (arith, ends, total)
code_end_from code data_before typed object [] (next ∷ objects) all = absurd all.1
code_end_from code data_before typed object (other ∷ modules) [] all = absurd all.1
code_end_from code data_before typed object (other ∷ modules) (next ∷ objects) all =
    let one : Linked = linked_after code data_before object in
    let ends = (follows code data_before typed object all.0).code_ends in
    let total = sum_step (length_of object Code) (code_lengths_of (next ∷ objects)) in
    let later = code_end_from (code_end one) (data_end one) other next modules objects all.1 in
    omega (arith, ends, total, later)

data_end_from :
    (code data_before : ℕ) (typed : TypedModule) (object : ObjectModule) (modules : List TypedModule)
    (objects : List ObjectModule) → AreObjectsOf (typed ∷ modules) (object ∷ objects)
    → last_end data_end (linked_from code data_before (object ∷ objects))
    ≡ data_before + data_sum (typed ∷ modules)
data_end_from code data_before typed object [] [] all =
    let ends = (follows code data_before typed object all.0).data_ends in
    let total = data_step typed [] in
    omega (arith, ends, total)
data_end_from code data_before typed object [] (next ∷ objects) all = absurd all.1
data_end_from code data_before typed object (other ∷ modules) [] all = absurd all.1
data_end_from code data_before typed object (other ∷ modules) (next ∷ objects) all =
    let one : Linked = linked_after code data_before object in
    let ends = (follows code data_before typed object all.0).data_ends in
    let total = data_step typed (other ∷ modules) in
    let later = data_end_from (code_end one) (data_end one) other next modules objects all.1 in
    omega (arith, ends, total, later)

pub code_ends_at :
    (modules : List TypedModule) (objects : List ObjectModule) → AreObjectsOf modules objects
    → last_end code_end (linked_modules objects) ≡ sum (code_lengths_of objects)
code_ends_at [] [] all = refl
code_ends_at [] (object ∷ objects) all = absurd all
code_ends_at (typed ∷ modules) [] all = absurd all
code_ends_at (typed ∷ modules) (object ∷ objects) all =
    let ends = code_end_from 0 0 typed object modules objects all in omega (arith, ends)

pub data_ends_at :
    (modules : List TypedModule) (objects : List ObjectModule) → AreObjectsOf modules objects
    → last_end data_end (linked_modules objects) ≡ data_sum modules
data_ends_at [] [] all = refl
data_ends_at [] (object ∷ objects) all = absurd all
data_ends_at (typed ∷ modules) [] all = absurd all
data_ends_at (typed ∷ modules) (object ∷ objects) all =
    let ends = data_end_from 0 0 typed object modules objects all in omega (arith, ends)

no_stack :
    (modules : List TypedModule) (objects : List ObjectModule) → AreObjectsOf modules objects
    → sum_by (λ (object : ObjectModule). object.stack_length) objects ≡ 0
no_stack [] [] all = refl
no_stack [] (object ∷ objects) all = absurd all
no_stack (typed ∷ modules) [] all = absurd all
no_stack (typed ∷ modules) (object ∷ objects) all =
    let total = sum_by-cons (λ (one : ObjectModule). one.stack_length) object objects in
    let here : object.stack_length ≡ 0 = all.0.stack in
    let later = no_stack modules objects all.1 in
    omega (arith, total, here, later)

-- some segment of the merge is too long just where one of the program is
pub same_lengths :
    (plan : PlacingPlan) (modules : List TypedModule) (objects : List ObjectModule)
    → AreObjectsOf modules objects
    → some_segment_is_too_long objects (linked_modules objects)
    ≡ (nat_lt 65535 (code_range plan (code_lengths_of objects)).len
    || nat_lt 65535 (data_range plan modules).len)
same_lengths plan modules objects all =
    let stack : ℕ = sum_by (λ (object : ObjectModule). object.stack_length) objects in
    let data_last : ℕ = last_end data_end (linked_modules objects) in
    ap (λ n. (is_too_long n || is_too_long data_last) || is_too_long stack) (code_ends_at modules objects all)
    ∙ ap (λ n. (is_too_long (sum (code_lengths_of objects)) || is_too_long n) || is_too_long stack)
    (data_ends_at modules objects all)
    ∙ ap (λ n.
    (is_too_long (sum (code_lengths_of objects)) || is_too_long (data_sum modules)) || is_too_long n)
    (no_stack modules objects all)
    ∙ or_false (is_too_long (sum (code_lengths_of objects)) || is_too_long (data_sum modules))

-- the segments of the merge have as many bytes as those of the program
pub code_length_is :
    (modules : List TypedModule) (objects : List ObjectModule) → AreObjectsOf modules objects
    → length_of (joined objects (linked_modules objects)) Code ≡ sum (code_lengths_of objects)
code_length_is modules objects all =
    let linked : List Linked = linked_modules objects in
    let publics : List Public = all_publics linked in
    let size = joined_length 0 (map (code_piece publics) linked) (code_follow publics 0 0 objects) in
    let last = code_ends_all publics linked in
    let ends = code_ends_at modules objects all in
    omega (arith, size, last, ends)

pub data_length_is :
    (modules : List TypedModule) (objects : List ObjectModule) → AreObjectsOf modules objects
    → length_of (joined objects (linked_modules objects)) Data ≡ data_sum modules
data_length_is modules objects all =
    let linked : List Linked = linked_modules objects in
    let publics : List Public = all_publics linked in
    let size = joined_length 0 (map (data_piece publics) linked) (data_follow publics 0 0 objects) in
    let last = data_ends_all publics linked in
    let ends = data_ends_at modules objects all in
    omega (arith, size, last, ends)
