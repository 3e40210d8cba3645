-- The files to which the bytes of ports go.
use Rattle.commands.proofs.{Prelude.{◌≡◌, ℕ, ◌<◌, ◌≤◌, Bool, true, false, List, [], ◌∷◌, ◌++◌, length, get_or, drop, map, append-nil, append_assoc, arith, Option, None, Some, OnOk, Result, Ok, Err, refl, sym, ap, subst, ◌∙◌, Appends, AppendsBeginning, Event, ChangesFiles, Directory, KeepsFiles, with_file, files_stay, kept_others, kept_then_stopped, written_others, StopsWriting, CountsFailure, Tells, file_line, inl, inr, ◌⊎◌, Bor, OnErr, ◌||◌, if◌then◌else◌, bytes_eq, length-append, take, ◌-◌, take-length, bytes_eq-Decides, KeepsOthers, NamedPort, file_names, TellsOutput, KeepsAllBut, byte_written, bytes_written, dash_bytes, is_dash, is_output, with_output, with_outputs, LeavesOutputs, StopsOutput, StopsOutputs, looked_more}, InputFiles.{seen_put}, Printed.{whole_begins}}
pub use Rattle.commands.proofs.InputFiles.{all_put}

-- one event more, and none left
pub written_put : (port : ℕ) (total made new : List ℕ) (events : List Event) (event : Event) → 1 ≤ length events → event ≡ get_or events 0 event → made ++ bytes_written port events ≡ total
    → new ≡ made ++ byte_written port event → new ++ bytes_written port (drop 1 events) ≡ total
written_put port total made new [] event some is rest added = absurd (omega arith)
written_put port total made new (one ∷ events) event some is rest added =
    ap (λ (n : List ℕ). n ++ bytes_written port events) (rw (sym is) added) ∙ append_assoc made (byte_written port one) (bytes_written port events) ∙ rest

pub all_written : (port : ℕ) (total made : List ℕ) (events : List Event) → length events < 1 → made ++ bytes_written port events ≡ total → made ≡ total
all_written port total made [] none rest = sym (append-nil made) ∙ rest
all_written port total made (one ∷ events) none rest = absurd (omega arith)

-- the bytes of one file more
pub output_put : {A B V : Type 0} (see : A → B) (h : B → List ℕ) (look : V → List ℕ) (total : List (List ℕ)) (made new : List V) (one : V) (xs : List A) (x : A) → 1 ≤ length xs
    → x ≡ get_or xs 0 x → look one ≡ h (see x) → map look made ++ map h (map see xs) ≡ total → new ≡ made ++ one ∷ [] → map look new ++ map h (map see (drop 1 xs)) ≡ total
output_put {A} {B} {V} see h look total made new one xs x some is same rest added =
    seen_put see h total (map look made) (map look new) xs x some is rest
    (ap (λ (l : List V). map look l) added ∙ looked_more look made one ∙ ap (λ (n : List ℕ). map look made ++ n ∷ []) same)

-- a name is among names
eq_itself : (xs : List ℕ) → bytes_eq xs xs ≡ true
eq_itself xs = (bytes_eq-Decides xs xs).1 refl

or_true : (b : Bool) → (b || true) ≡ true
or_true true = refl
or_true false = refl

first_there : (names : List (List ℕ)) (name : List ℕ) → is_output (name ∷ names) name ≡ true
first_there names name = rw (eq_itself name) refl

later_there : (names : List (List ℕ)) (one name : List ℕ) → is_output names name ≡ true → is_output (one ∷ names) name ≡ true
later_there names one name there = rw there (or_true (bytes_eq name one))

differs : (names : List (List ℕ)) (name other : List ℕ) → is_output names name ≡ true → is_output names other ≡ false → bytes_eq other name ≡ false
differs names name other there out = go (bytes_eq other name) refl
  where
    go : (t : Bool) → bytes_eq other name ≡ t → t ≡ false
    go true e =
        let same : other ≡ name = (bytes_eq-Decides other name).0 e in
        sym (subst (λ (n : List ℕ). is_output names n ≡ true) (sym same) there) ∙ out
    go false e = refl

-- files that stay, but for those of these names
pub kept_but : (names : List (List ℕ)) (old new : Option Directory) → KeepsFiles old new → KeepsAllBut names old new
kept_but names None new kept = tt
kept_but names (Some old) None kept = absurd kept
kept_but names (Some old) (Some new) kept = λ other out. kept other

pub but_then : (names : List (List ℕ)) (old now new : Option Directory) → KeepsAllBut names old now → KeepsAllBut names now new → KeepsAllBut names old new
but_then names None now new before after = tt
but_then names (Some old) None new before after = absurd before
but_then names (Some old) (Some now) None before after = absurd after
but_then names (Some old) (Some now) (Some new) before after = λ other out. after other out ∙ before other out

others_but : (names : List (List ℕ)) (name : List ℕ) (old new : Option Directory) → is_output names name ≡ true → KeepsOthers old new name → KeepsAllBut names old new
others_but names name None new there others = tt
others_but names name (Some old) None there others = absurd others
others_but names name (Some old) (Some new) there others = λ other out. others other (differs names name other there out)

-- the same change of the same files
same_output : (name bytes : List ℕ) (a b : Directory) → ((other : List ℕ) → a other ≡ b other) → (other : List ℕ) → with_output name bytes a other ≡ with_output name bytes b other
same_output name bytes a b same other = go (is_dash name)
  where
    inner : (t : Bool) → (if t then Some bytes else a other) ≡ (if t then Some bytes else b other)
    inner true = refl
    inner false = same other

    go : (t : Bool) → (if t then a else with_file name bytes a) other ≡ (if t then b else with_file name bytes b) other
    go true = same other
    go false = inner (bytes_eq other name)

same_outputs : (names outputs : List (List ℕ)) (a b : Directory) → ((other : List ℕ) → a other ≡ b other) → (other : List ℕ) → with_outputs names outputs a other ≡ with_outputs names outputs b other
same_outputs [] outputs a b same other = same other
same_outputs (n ∷ names) [] a b same other = same other
same_outputs (n ∷ names) (bytes ∷ outputs) a b same other = same_outputs names outputs (with_output n bytes a) (with_output n bytes b) (same_output n bytes a b same) other

changes_then : (now next new : Option Directory) (name bytes : List ℕ) (names outputs : List (List ℕ)) → ChangesFiles now next (with_output name bytes)
    → ChangesFiles next new (with_outputs names outputs) → ChangesFiles now new (with_outputs (name ∷ names) (bytes ∷ outputs))
changes_then None next new name bytes names outputs before after = tt
changes_then (Some now) None new name bytes names outputs before after = absurd before
changes_then (Some now) (Some next) None name bytes names outputs before after = absurd after
changes_then (Some now) (Some next) (Some new) name bytes names outputs before after =
    λ other. after other ∙ same_outputs names outputs next (with_output name bytes now) before other

pub kept_then_outputs : (old now new : Option Directory) (names outputs : List (List ℕ)) → KeepsFiles old now → ChangesFiles now new (with_outputs names outputs)
    → ChangesFiles old new (with_outputs names outputs)
kept_then_outputs None now new names outputs before after = tt
kept_then_outputs (Some old) None new names outputs before after = absurd before
kept_then_outputs (Some old) (Some now) None names outputs before after = absurd after
kept_then_outputs (Some old) (Some now) (Some new) names outputs before after = λ other. after other ∙ same_outputs names outputs now old before other

no_names : (files : Option Directory) (outputs : List (List ℕ)) → ChangesFiles files files (with_outputs [] outputs)
no_names None outputs = tt
no_names (Some files) outputs = λ other. refl

no_outputs : (files : Option Directory) (names : List (List ℕ)) → ChangesFiles files files (with_outputs names [])
no_outputs None names = tt
no_outputs (Some files) [] = λ other. refl
no_outputs (Some files) (n ∷ names) = λ other. refl

-- standard output is no file
pub dash_left : (files : Option Directory) (name bytes : List ℕ) → is_dash name ≡ true → ChangesFiles files files (with_output name bytes)
dash_left None name bytes dash = tt
dash_left (Some files) name bytes dash = λ other. rw dash refl

file_written : (old new : Option Directory) (name bytes : List ℕ) → is_dash name ≡ false → ChangesFiles old new (with_file name bytes) → ChangesFiles old new (with_output name bytes)
file_written None new name bytes file written = tt
file_written (Some old) None name bytes file written = absurd written
file_written (Some old) (Some new) name bytes file written = λ other. rw file (written other)

pub written_as_output : {T E : Type 0} (result : Result T E) (old new : Option Directory) (name bytes : List ℕ) → is_dash name ≡ false → OnOk result (ChangesFiles old new (with_file name bytes))
    → OnOk result (ChangesFiles old new (with_output name bytes))
written_as_output (Ok done) old new name bytes file written = file_written old new name bytes file written
written_as_output (Err failure) old new name bytes file written = tt

pub stopped_as_output : {T E : Type 0} (result : Result T E) (old new : Option Directory) (name bytes : List ℕ) → is_dash name ≡ false → OnErr result (StopsWriting old new name bytes)
    → OnErr result (StopsOutput name bytes old new)
stopped_as_output (Ok done) old new name bytes file stopped = tt
stopped_as_output (Err failure) old new name bytes file stopped = record { file = file; stopped = stopped }

pub no_others : (files : Option Directory) (name : List ℕ) → KeepsOthers files files name
no_others files name = kept_others files files name (files_stay files)

pub others_of : {T E : Type 0} (result : Result T E) (old new : Option Directory) (name bytes : List ℕ) → OnOk result (ChangesFiles old new (with_file name bytes))
    → OnErr result (StopsWriting old new name bytes) → KeepsOthers old new name
others_of (Ok done) old new name bytes written stopped = written_others old new name bytes written
others_of (Err failure) old new name bytes written stopped = kept_then_stopped old old new name bytes (files_stay old) stopped

-- what is left of a list after its first item
rest_is : {A : Type 0} (xs : List A) → 1 ≤ length xs → take (length xs - 1) (drop 1 xs) ≡ drop 1 xs
rest_is [] some = absurd (omega arith)
rest_is (x ∷ xs) some =
    let count : length (x ∷ xs) - 1 ≡ length xs = omega arith in
    ap (λ (k : ℕ). take k xs) count ∙ take-length xs

-- the first item, by any value that stands for none
first_any : {A : Type 0} (xs : List A) (x none : A) → 1 ≤ length xs → x ≡ get_or xs 0 none → x ≡ get_or xs 0 x
first_any [] x none some is = absurd (omega arith)
first_any (one ∷ xs) x none some is = is

-- one file more
with_one_more : (earlier whole : List (List ℕ)) (name bytes : List ℕ) (files : Directory) → length earlier ≡ length whole
    → with_outputs (earlier ++ name ∷ []) (whole ++ bytes ∷ []) files ≡ with_output name bytes (with_outputs earlier whole files)
with_one_more [] [] name bytes files same = refl
with_one_more [] (w ∷ whole) name bytes files same = absurd (omega arith)
with_one_more (n ∷ earlier) [] name bytes files same = absurd (omega arith)
with_one_more (n ∷ earlier) (w ∷ whole) name bytes files same =
    let fewer : length earlier ≡ length whole = omega arith in
    with_one_more earlier whole name bytes (with_output n w files) fewer

changes_more : (start now next : Option Directory) (earlier whole : List (List ℕ)) (name bytes : List ℕ) → length earlier ≡ length whole → ChangesFiles start now (with_outputs earlier whole)
    → ChangesFiles now next (with_output name bytes) → ChangesFiles start next (with_outputs (earlier ++ name ∷ []) (whole ++ bytes ∷ []))
changes_more None now next earlier whole name bytes same before after = tt
changes_more (Some start) None next earlier whole name bytes same before after = absurd before
changes_more (Some start) (Some now) None earlier whole name bytes same before after = absurd after
changes_more (Some start) (Some now) (Some next) earlier whole name bytes same before after =
    λ other. after other ∙ same_output name bytes now (with_outputs earlier whole start) before other
    ∙ ap (λ (files : Directory). files other) (sym (with_one_more earlier whole name bytes start same))

both_longer : (xs ys : List (List ℕ)) (x y : List ℕ) → length xs ≡ length ys → length (xs ++ x ∷ []) ≡ length (ys ++ y ∷ [])
both_longer xs ys x y same = omega (arith, length-append xs (x ∷ []), length-append ys (y ∷ []))

-- the files before those that are left were written whole, and nothing else
pub record WrittenBefore (start now : Option Directory) (names outputs rest_names rest_outputs : List (List ℕ)) : Type 0 where
  pub earlier : List (List ℕ)
  pub whole : List (List ℕ)
  pub names_are : names ≡ earlier ++ rest_names
  pub outputs_are : outputs ≡ whole ++ rest_outputs
  pub as_many : length earlier ≡ length whole
  pub written : ChangesFiles start now (with_outputs earlier whole)

before_more : (start now next : Option Directory) (names outputs rest_names rest_outputs : List (List ℕ)) (name bytes : List ℕ)
    → WrittenBefore start now names outputs (name ∷ rest_names) (bytes ∷ rest_outputs) → ChangesFiles now next (with_output name bytes)
    → WrittenBefore start next names outputs rest_names rest_outputs
before_more start now next names outputs rest_names rest_outputs name bytes done changes = record {
  earlier = done.earlier ++ name ∷ [];
  whole = done.whole ++ bytes ∷ [];
  names_are = done.names_are ∙ sym (append_assoc done.earlier (name ∷ []) rest_names);
  outputs_are = done.outputs_are ∙ sym (append_assoc done.whole (bytes ∷ []) rest_outputs);
  as_many = both_longer done.earlier done.whole name bytes done.as_many;
  written = changes_more start now next done.earlier done.whole name bytes done.as_many done.written changes;
}

-- The files of the names before those that are left were written: what writing the rest makes is what writing all does.
pub record WrittenSoFar (start now : Option Directory) (names outputs rest_names rest_outputs : List (List ℕ)) : Type 0 where
  pub goes_on : (new : Option Directory) → ChangesFiles now new (with_outputs rest_names rest_outputs) → ChangesFiles start new (with_outputs names outputs)
  pub others : KeepsAllBut names start now
  pub among : (name : List ℕ) → is_output rest_names name ≡ true → is_output names name ≡ true
  pub done : WrittenBefore start now names outputs rest_names rest_outputs

pub none_written : (files : Option Directory) (names outputs : List (List ℕ)) → WrittenSoFar files files names outputs names outputs
none_written files names outputs = record {
  goes_on = λ new changes. changes;
  others = kept_but names files files (files_stay files);
  among = λ name there. there;
  done = record { earlier = []; whole = []; names_are = refl; outputs_are = refl; as_many = refl; written = no_names files [] };
}

module _ {A B : Type 0} (see : A → NamedPort) (look : B → List ℕ) (start now : Option Directory) (names outputs : List (List ℕ)) where
  -- the next name is one of all
  pub next_named : (xs : List A) (ys : List B) (x : A) → 1 ≤ length xs → x ≡ get_or xs 0 x → WrittenSoFar start now names outputs (file_names (map see xs)) (map look ys)
      → is_output names (see x).name ≡ true
  next_named [] ys x some is so_far = absurd (omega arith)
  next_named (a ∷ xs) ys x some is so_far =
      let there : is_output (file_names (map see (a ∷ xs))) (see a).name ≡ true = first_there (file_names (map see xs)) (see a).name in
      subst (λ (v : A). is_output names (see v).name ≡ true) (sym is) (so_far.among (see a).name there)

  -- its file, written whole or not
  pub others_kept : (next : Option Directory) (xs : List A) (ys : List B) (x : A) → 1 ≤ length xs → x ≡ get_or xs 0 x → KeepsOthers now next (see x).name
      → WrittenSoFar start now names outputs (file_names (map see xs)) (map look ys) → KeepsAllBut names start next
  others_kept next xs ys x some is others so_far =
      but_then names start now next so_far.others (others_but names (see x).name now next (next_named xs ys x some is so_far) others)

  pub others_left : (next : Option Directory) (xs : List A) (ys : List B) (x no_x : A) → 1 ≤ length xs → x ≡ get_or xs 0 no_x → KeepsOthers now next (see x).name
      → WrittenSoFar start now names outputs (file_names (map see xs)) (map look ys) → KeepsAllBut names start next
  others_left next xs ys x no_x some is others so_far = others_kept next xs ys x some (first_any xs x no_x some is) others so_far

  pub one_written : (next : Option Directory) (xs : List A) (ys : List B) (x : A) (y : B) → 1 ≤ length xs → 1 ≤ length ys → x ≡ get_or xs 0 x → y ≡ get_or ys 0 y
      → ChangesFiles now next (with_output (see x).name (look y)) → KeepsOthers now next (see x).name
      → WrittenSoFar start now names outputs (file_names (map see xs)) (map look ys)
      → WrittenSoFar start next names outputs (file_names (map see (drop 1 xs))) (map look (drop 1 ys))
  one_written next [] ys x y some more is also changes others so_far = absurd (omega arith)
  one_written next (a ∷ xs) [] x y some more is also changes others so_far = absurd (omega arith)
  one_written next (a ∷ xs) (b ∷ ys) x y some more is also changes others so_far =
      let written : ChangesFiles now next (with_output (see a).name (look b)) =
      subst (λ (v : A). ChangesFiles now next (with_output (see v).name (look b))) is
      (subst (λ (w : B). ChangesFiles now next (with_output (see x).name (look w))) also changes) in
      record {
        goes_on = λ new after. so_far.goes_on new (changes_then now next new (see a).name (look b) (file_names (map see xs)) (map look ys) written after);
        others = others_kept next (a ∷ xs) (b ∷ ys) x some is others so_far;
        among = λ name there. so_far.among name (later_there (file_names (map see xs)) (see a).name name there);
        done = before_more start now next names outputs (file_names (map see xs)) (map look ys) (see a).name (look b) so_far.done written;
      }

  -- its file was not written whole
  stops_there : (next : Option Directory) (xs : List A) (ys : List B) (x : A) (y : B) → 1 ≤ length xs → 1 ≤ length ys → x ≡ get_or xs 0 x → y ≡ get_or ys 0 y
      → StopsOutput (see x).name (look y) now next → WrittenSoFar start now names outputs (file_names (map see xs)) (map look ys)
      → StopsOutputs names outputs (see x).name start next
  stops_there next [] ys x y some more is also stopped so_far = absurd (omega arith)
  stops_there next (a ∷ xs) [] x y some more is also stopped so_far = absurd (omega arith)
  stops_there next (a ∷ xs) (b ∷ ys) x y some more is also stopped so_far =
      let here : StopsOutput (see a).name (look b) now next =
      subst (λ (v : A). StopsOutput (see v).name (look b) now next) is
      (subst (λ (w : B). StopsOutput (see x).name (look w) now next) also stopped) in
      let of_all : StopsOutputs names outputs (see a).name start next = record {
        earlier = so_far.done.earlier;
        later = file_names (map see xs);
        names_are = so_far.done.names_are;
        whole = so_far.done.whole;
        bytes = look b;
        left = map look ys;
        outputs_are = so_far.done.outputs_are;
        as_many = so_far.done.as_many;
        between = now;
        written = so_far.done.written;
        stopped = here;
      } in
      subst (λ (v : A). StopsOutputs names outputs (see v).name start next) (sym is) of_all

  pub output_stops : (next : Option Directory) (xs : List A) (ys : List B) (x no_x : A) (y no_y : B) → 1 ≤ length xs → 1 ≤ length ys → x ≡ get_or xs 0 no_x → y ≡ get_or ys 0 no_y
      → StopsOutput (see x).name (look y) now next → WrittenSoFar start now names outputs (file_names (map see xs)) (map look ys)
      → StopsOutputs names outputs (see x).name start next
  output_stops next xs ys x no_x y no_y some more is also stopped so_far =
      stops_there next xs ys x y some more (first_any xs x no_x some is) (first_any ys y no_y more also) stopped so_far

  pub output_left : (next : Option Directory) (xs : List A) (ys : List B) (x no_x : A) (y no_y : B) → 1 ≤ length xs → 1 ≤ length ys → x ≡ get_or xs 0 no_x → y ≡ get_or ys 0 no_y
      → StopsOutput (see x).name (look y) now next → WrittenSoFar start now names outputs (file_names (map see xs)) (map look ys) → LeavesOutputs names outputs start next
  output_left next xs ys x no_x y no_y some more is also stopped so_far =
      record { name = (see x).name; stopped = output_stops next xs ys x no_x y no_y some more is also stopped so_far }

  pub written_on : (next : Option Directory) (xs : List A) (ys : List B) (x no_x : A) (y no_y : B) → 1 ≤ length xs → 1 ≤ length ys → x ≡ get_or xs 0 no_x → y ≡ get_or ys 0 no_y
      → ChangesFiles now next (with_output (see x).name (look y)) → KeepsOthers now next (see x).name
      → WrittenSoFar start now names outputs (file_names (map see xs)) (map look ys)
      → WrittenSoFar start next names outputs (file_names (map see (take (length xs - 1) (drop 1 xs)))) (map look (take (length ys - 1) (drop 1 ys)))
  written_on next xs ys x no_x y no_y some more is also changes others so_far =
      subst (λ (vs : List A). WrittenSoFar start next names outputs (file_names (map see vs)) (map look (take (length ys - 1) (drop 1 ys)))) (sym (rest_is xs some))
      (subst (λ (ws : List B). WrittenSoFar start next names outputs (file_names (map see (drop 1 xs))) (map look ws)) (sym (rest_is ys more))
      (one_written next xs ys x y some more (first_any xs x no_x some is) (first_any ys y no_y more also) changes others so_far))

  -- nothing is left
  pub names_ended : (xs : List A) (ys : List B) → length xs < 1 → WrittenSoFar start now names outputs (file_names (map see xs)) (map look ys) → ChangesFiles start now (with_outputs names outputs)
  names_ended [] ys none so_far = so_far.goes_on now (no_names now (map look ys))
  names_ended (a ∷ xs) ys none so_far = absurd (omega arith)

  pub outputs_ended : (xs : List A) (ys : List B) → length ys < 1 → WrittenSoFar start now names outputs (file_names (map see xs)) (map look ys) → ChangesFiles start now (with_outputs names outputs)
  outputs_ended xs [] none so_far = so_far.goes_on now (no_outputs now (file_names (map see xs)))
  outputs_ended xs (b ∷ ys) none so_far = absurd (omega arith)

-- the bytes for standard output, step by step
module _ {A B : Type 0} (see : A → NamedPort) (look : B → List ℕ) (total : Option (List ℕ)) where
  pub dash_there : (xs : List A) (ys : List B) (x : A) (y : B) → 1 ≤ length xs → 1 ≤ length ys → x ≡ get_or xs 0 x → y ≡ get_or ys 0 y → is_dash (see x).name ≡ true
      → dash_bytes (file_names (map see xs)) (map look ys) ≡ total → Some (look y) ≡ total
  dash_there [] ys x y some more is also dash rest = absurd (omega arith)
  dash_there (a ∷ xs) [] x y some more is also dash rest = absurd (omega arith)
  dash_there (a ∷ xs) (b ∷ ys) x y some more is also dash rest =
      let here : is_dash (see a).name ≡ true = subst (λ (v : A). is_dash (see v).name ≡ true) is dash in
      let first : dash_bytes (file_names (map see (a ∷ xs))) (map look (b ∷ ys)) ≡ Some (look b) = rw here refl in
      ap (λ (w : B). Some (look w)) also ∙ sym first ∙ rest

  pub dash_later : (xs : List A) (ys : List B) (x : A) → 1 ≤ length xs → 1 ≤ length ys → x ≡ get_or xs 0 x → is_dash (see x).name ≡ false
      → dash_bytes (file_names (map see xs)) (map look ys) ≡ total → dash_bytes (file_names (map see (drop 1 xs))) (map look (drop 1 ys)) ≡ total
  dash_later [] ys x some more is other rest = absurd (omega arith)
  dash_later (a ∷ xs) [] x some more is other rest = absurd (omega arith)
  dash_later (a ∷ xs) (b ∷ ys) x some more is other rest =
      let here : is_dash (see a).name ≡ false = subst (λ (v : A). is_dash (see v).name ≡ false) is other in
      let later : dash_bytes (file_names (map see (a ∷ xs))) (map look (b ∷ ys)) ≡ dash_bytes (file_names (map see xs)) (map look ys) = rw here refl in
      sym later ∙ rest

  pub no_dash : (xs : List A) (ys : List B) → length xs < 1 → dash_bytes (file_names (map see xs)) (map look ys) ≡ total → None ≡ total
  no_dash [] ys none rest = rest
  no_dash (a ∷ xs) ys none rest = absurd (omega arith)

  pub no_bytes : (xs : List A) (ys : List B) → length ys < 1 → dash_bytes (file_names (map see xs)) (map look ys) ≡ total → None ≡ total
  no_bytes [] [] none rest = rest
  no_bytes (a ∷ xs) [] none rest = rest
  no_bytes xs (b ∷ ys) none rest = absurd (omega arith)

-- what a writer has of a text that it took whole or not
pub begun_of : {T E : Type 0} (result : Result T E) (old new : Option (List ℕ)) (bytes : List ℕ) → OnOk result (Appends old new bytes) → OnErr result (AppendsBeginning old new bytes)
    → AppendsBeginning old new bytes
begun_of (Ok done) old new bytes whole begun = whole_begins old new bytes whole
begun_of (Err failure) old new bytes whole begun = begun

-- one of the files was told
pub output_told : (names : List (List ℕ)) (before after : ℕ) (old new : Option (List ℕ)) (name was : Bor (List ℕ)) → CountsFailure before after → name ≡ was → is_output names was.now ≡ true
    → Tells (file_line name.now) old new → TellsOutput before after old new names
output_told names before after old new name was counted same named told =
    record { counted = counted; name = name.now; stopped = subst (λ (n : Bor (List ℕ)). is_output names n.now ≡ true) (sym same) named; told = told }

-- it ended so, or something else than a file was told
pub ended_or_told : {A B C D : Type 0} → A ⊎ D → C → A ⊎ (B ⊎ (C × D))
ended_or_told (inl ended) count = inl ended
ended_or_told (inr told) count = inr (inr (count, told))
