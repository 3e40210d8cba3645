-- How the loops of the parser go on.
use Rattle.syntax.proofs.Prelude.{◌≡◌, ◌≤◌, ◌<◌, Bool, true, false, List, [], ◌∷◌, ◌++◌, drop, length, map, Option, Some, None, Result, Ok, Err, refl, sym, ◌∙◌, ap, arith, append_assoc, append-nil, map-append, map-id, Comma, Symbol, all_more_items, items, Keeps, Shrinks, after_items, Parser, Cause, Reading, ◌>>=◌, at_mark, constant, next_constant, IsErrAnd, Failure, Fault, FailsBy, Fails, Gives}
use Rattle.syntax.proofs.ReaderLemmas.{taken-ok}
use Rattle.syntax.proofs.ListLaws.{all_more_items-step}

-- one more item, and then others
after_items-more : {A : Type 0} (before : List A) (a : A) (others : Reading (List A))
    → after_items before (others >>= (λ o. Ok (a ∷ o.0, o.1))) ≡ after_items (before ++ a ∷ []) others
after_items-more before a (Ok o) = ap (λ l. Ok (l, o.1)) (sym (append_assoc before (a ∷ []) o.0))
after_items-more before a (Err cause) = refl

-- a comma and an item
pub more-step : {A : Type 0} (item : Parser A) → Keeps item → (before : List A) (a : A) (s r : List Symbol)
    → at_mark Comma s ≡ true
    → item (drop 1 s) ≡ Ok (a, r)
    → after_items before (all_more_items item s) ≡ after_items (before ++ a ∷ []) (all_more_items item r)
more-step item keeps before a s r comma e =
    ap (after_items before) (all_more_items-step item keeps s)
    ∙ rw (comma, e) (after_items-more before a (all_more_items item r))

-- a comma and no item
pub more-fails : {A : Type 0} (item : Parser A)
    → Keeps item
    → (before : List A) (s : List Symbol) (cause : Cause)
    → at_mark Comma s ≡ true
    → item (drop 1 s) ≡ Err cause
    → after_items before (all_more_items item s) ≡ Err cause
more-fails item keeps before s cause comma e =
    ap (after_items before) (all_more_items-step item keeps s) ∙ rw (comma, e) refl

-- no comma
pub more-ends : {A : Type 0} (item : Parser A) → Keeps item → (before : List A) (s : List Symbol)
    → at_mark Comma s ≡ false → after_items before (all_more_items item s) ≡ Ok (before, s)
more-ends item keeps before s other =
    ap (after_items before) (all_more_items-step item keeps s) ∙ rw other (simp append-nil)

-- an item, and then others
pub items-first : {A : Type 0} (item : Parser A) (a : A) (s r : List Symbol)
    → item s ≡ Ok (a, r) → items item s ≡ after_items (a ∷ []) (all_more_items item r)
items-first item a s r e = rw e (go a (all_more_items item r))
  where
    go : {A : Type 0} (a : A) (others : Reading (List A))
        → (others >>= (λ o. Ok (a ∷ o.0, o.1))) ≡ after_items (a ∷ []) others
    go a (Ok o) = refl
    go a (Err cause) = refl

-- a constant is a symbol
pub constant-keeps : Keeps constant
constant-keeps [] rest a e = absurd cc
constant-keeps (x ∷ s) rest a e =
    let t = taken-ok (next_constant (x ∷ s)) (x ∷ s) rest a e in
    omega (arith, ap length t.1)

-- a list goes on by a comma and an item
pub list_more : {A X : Type 0} (item : Parser A)
    → Keeps item
    → (view : X → A) (whole : Reading (List A)) (found more : List X) (next : X) (s after r : List Symbol)
    (comma : Bool)
    → whole ≡ after_items (map view found) (all_more_items item s)
    → comma ≡ at_mark Comma s
    → comma ≡ true
    → after ≡ drop 1 s
    → item after ≡ Ok (view next, r)
    → more ≡ found ++ next ∷ []
    → whole ≡ after_items (map view more) (all_more_items item r)
list_more item keeps view whole found more next s after r comma is at true_is skipped e pushed =
    is ∙ more-step item keeps (map view found) (view next) s r (sym at ∙ true_is) (ap item (sym skipped) ∙ e)
    ∙ ap (λ l. after_items l (all_more_items item r))
    (sym (ap (map view) pushed ∙ map-append view found (next ∷ [])))

-- a list ends where no comma is
pub list_ends : {A X : Type 0} (item : Parser A)
    → Keeps item
    → (view : X → A) (whole : Reading (List A)) (found kept : List X) (s : List Symbol) (comma : Bool)
    → whole ≡ after_items (map view found) (all_more_items item s)
    → comma ≡ at_mark Comma s
    → comma ≡ false
    → kept ≡ found
    → whole ≡ Ok (map view kept, s)
list_ends item keeps view whole found kept s comma is at false_is same =
    is ∙ more-ends item keeps (map view found) s (sym at ∙ false_is) ∙ ap (λ l. Ok (map view l, s)) (sym same)

-- a list fails where no item is after a comma
pub list_fails : {A X : Type 0} (item : Parser A)
    → Keeps item
    → (view : X → A) (whole : Reading (List A)) (found : List X) (s after : List Symbol) (comma : Bool)
    (cause : Option Cause)
    → whole ≡ after_items (map view found) (all_more_items item s)
    → comma ≡ at_mark Comma s
    → comma ≡ true
    → after ≡ drop 1 s
    → FailsBy cause (item after)
    → FailsBy cause whole
list_fails item keeps view whole found s after comma None is at true_is skipped e = tt
list_fails item keeps view whole found s after comma (Some cause) is at true_is skipped e =
    is ∙ more-fails item keeps (map view found) s cause (sym at ∙ true_is) (ap item (sym skipped) ∙ e)

-- what is read, if nothing was found before
after_none : {A : Type 0} (found : Reading (List A)) → after_items [] found ≡ found
after_none (Ok found) = refl
after_none (Err cause) = refl

-- what was found in two steps
after_both : {A : Type 0} (before next : List A) (others : Reading (List A))
    → after_items before (after_items next others) ≡ after_items (before ++ next) others
after_both before next (Ok found) = ap (λ l. Ok (l, found.1)) (sym (append_assoc before next found.0))
after_both before next (Err cause) = refl

-- what comes after a comma, and where none is
after_comma : {A : Type 0} (item : Parser A) → Keeps item → (s : List Symbol)
    → at_mark Comma s ≡ true → all_more_items item s ≡ items item (drop 1 s)
after_comma item keeps s comma = all_more_items-step item keeps s ∙ rw comma refl

without_comma : {A : Type 0} (item : Parser A) → Keeps item → (s : List Symbol)
    → at_mark Comma s ≡ false → all_more_items item s ≡ Ok ([], s)
without_comma item keeps s other = all_more_items-step item keeps s ∙ rw other refl

-- a list goes on after an item and a comma
pub list_goes_on : {A X : Type 0} (item : Parser A)
    → Keeps item
    → (view : X → A) (whole : Reading (List A)) (found more : List X) (next : X) (s r after : List Symbol)
    (comma : Bool)
    → whole ≡ after_items (map view found) (items item s)
    → item s ≡ Ok (view next, r)
    → more ≡ found ++ next ∷ []
    → comma ≡ at_mark Comma r
    → comma ≡ true
    → after ≡ drop 1 r
    → whole ≡ after_items (map view more) (items item after)
list_goes_on item keeps view whole found more next s r after comma is e pushed at true_is skipped =
    is
    ∙ ap (after_items (map view found)) (items-first item (view next) s r e)
    ∙ after_both (map view found) (view next ∷ []) (all_more_items item r)
    ∙ ap (λ l. after_items l (all_more_items item r))
    (sym (ap (map view) pushed ∙ map-append view found (next ∷ [])))
    ∙ ap (after_items (map view more))
    (after_comma item keeps r (sym at ∙ true_is) ∙ ap (items item) (sym skipped))

-- a list ends after an item without a comma
pub list_done : {A X : Type 0} (item : Parser A)
    → Keeps item
    → (view : X → A) (whole : Reading (List A)) (found more : List X) (next : X) (s r : List Symbol)
    (comma : Bool)
    → whole ≡ after_items (map view found) (items item s)
    → item s ≡ Ok (view next, r)
    → more ≡ found ++ next ∷ []
    → comma ≡ at_mark Comma r
    → comma ≡ false
    → whole ≡ Ok (map view more, r)
list_done item keeps view whole found more next s r comma is e pushed at false_is =
    is
    ∙ ap (after_items (map view found))
    (items-first item (view next) s r e
    ∙ ap (after_items (view next ∷ [])) (without_comma item keeps r (sym at ∙ false_is)))
    ∙ ap (λ l. Ok (l, r)) (sym (ap (map view) pushed ∙ map-append view found (next ∷ [])))

-- a list fails where an item is not there
pub list_stops : {A : Type 0} (item : Parser A) (whole : Reading (List A)) (found : List A) (s : List Symbol)
    (cause : Option Cause)
    → whole ≡ after_items found (items item s)
    → FailsBy cause (item s)
    → FailsBy cause whole
list_stops item whole found s None is fails = tt
list_stops item whole found s (Some cause) is fails = is ∙ rw fails refl

-- an item and a comma are fewer symbols
pub fewer_after : {A : Type 0} (item : Parser A)
    → Keeps item
    → (a : A) (s r after : List Symbol) (comma : Bool)
    → item s ≡ Ok (a, r)
    → comma ≡ at_mark Comma r
    → comma ≡ true
    → after ≡ drop 1 r
    → length after < length s
fewer_after item keeps a s [] after comma e at true_is skipped = absurd cc
fewer_after item keeps a s (x ∷ r) after comma e at true_is skipped =
    let kept : length (x ∷ r) ≤ length s = keeps s (x ∷ r) a e in
    omega (arith, ap length skipped)

-- the whole of a list, where nothing was found before
pub whole_list : {A X : Type 0} (view : X → A) (read : Reading (List A)) (before found kept : List X)
    (s : List Symbol)
    → before ≡ []
    → after_items (map view before) read ≡ Ok (map view found, s)
    → kept ≡ found
    → read ≡ Ok (map view kept, s)
whole_list view read before found kept s none e same =
    sym (after_none read) ∙ ap (λ l. after_items (map view l) read) (sym none) ∙ e
    ∙ ap (λ l. Ok (map view l, s)) (sym same)

pub no_list : {A X : Type 0} (view : X → A) (read : Reading (List A)) (before : List X) (cause : Option Cause)
    → before ≡ []
    → FailsBy cause (after_items (map view before) read)
    → FailsBy cause read
no_list view read before None none fails = tt
no_list view read before (Some cause) none fails =
    sym (after_none read) ∙ ap (λ l. after_items (map view l) read) (sym none) ∙ fails

-- a fault is handed on as it is
pub gives_exit : {X Y : Type 0} (view : X → Y) (result : Result X (Failure Fault)) (failure : Failure Fault)
    (rest : List Symbol) (read : Reading Y)
    → IsErrAnd result (λ given. given ≡ failure) → Fails failure read → Gives view result rest read
gives_exit view (Ok x) failure rest read handed fails = absurd handed
gives_exit view (Err given) failure rest read handed fails = rw handed fails

-- what takes symbols away at once keeps no more than there were
pub keeps_from_shrinks : {A : Type 0} (item : Parser A) → Shrinks item → Keeps item
keeps_from_shrinks item shrinks symbols rest a e = let h : length rest < length symbols =
    shrinks symbols rest a e in omega arith

-- values that are their own trees
pub map_same : {A : Type 0} (values : List A) → map (λ (value : A). value) values ≡ values
map_same values = map-id values
