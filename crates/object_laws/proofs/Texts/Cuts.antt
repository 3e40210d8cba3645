-- The contents that runs are cut into: they stand in order, tell each place as the runs do, and cut no word.
use Rattle.object_laws.proofs.Prelude.{◌≡◌, ℕ, zero, suc, ◌+◌, ◌-◌, ◌<◌, ◌≤◌, Bool, true, false, cond, not, ◌&&◌, ◌||◌, nat_lt, nat_le, List, [], ◌∷◌, ◌++◌, length, map, flat_map, slice_get, Option, Some, None, refl, ap, sym, subst, ◌∙◌, ⊎_elim, arith, AllByRecursion, onto_first, option_flatten, and_parts, cond-false, cond_both, le-ltb, ltb-false, cases_lt, length-append, Fixup, SetByte, begins_word, is_plain, words_are_whole, Run, content_limit, groups_after, groups_of, bytes_wanted, placed_from, contents_of_run, all_append, got_before}
use Rattle.object_laws.proofs.Texts.Groups.{Fits, joined, groups_joined, groups_fit}
use Rattle.object_laws.proofs.Texts.Runs.{InOrder, item_at, item_inside, item_past, item_before, order_earlier, AreWhole, whole_plain, whole_word, IsWholeRun}

-- a byte where no fix begins is no word
plain_fixup : (value : ℕ) (fixup : Option Fixup)
    → is_plain (Some (record { value = value; fixup = fixup })) ≡ true
    → bytes_wanted (record { value = value; fixup = fixup }) ≡ 1
plain_fixup value None h = refl
plain_fixup value (Some fixup) h = absurd (let bad : false ≡ true = h in cc)

plain_wants : (here : SetByte) → is_plain (Some here) ≡ true → bytes_wanted here ≡ 1
plain_wants here h = plain_fixup here.value here.fixup h

onto_plain :
    (first : SetByte) (groups : List (List SetByte)) → begins_word (Some first) ≡ false
    → AllByRecursion AreWhole groups → AllByRecursion AreWhole (onto_first first groups)
onto_plain first [] e all = (whole_plain first [] e refl, tt)
onto_plain first (group ∷ groups) e all = (whole_plain first group e all.0, all.1)

onto_both :
    (first next : SetByte) (groups : List (List SetByte)) → is_plain (Some next) ≡ true
    → AllByRecursion AreWhole (onto_first next groups)
    → AllByRecursion AreWhole (onto_first first (onto_first next groups))
onto_both first next [] e all = (whole_word first next [] e all.0, tt)
onto_both first next (group ∷ groups) e all = (whole_word first next group e all.0, all.1)

-- the second byte of a word goes into the group of the first one
onto_word :
    (limit room : ℕ) (first : SetByte) (others : List SetByte) → 1 ≤ room
    → is_plain (option_flatten (slice_get (map Some others) 0)) ≡ true
    → AllByRecursion AreWhole (groups_after bytes_wanted (λ here. 1) limit room others)
    → AllByRecursion AreWhole (onto_first first (groups_after bytes_wanted (λ here. 1) limit room others))
onto_word limit room first [] h e all = absurd (let bad : false ≡ true = e in cc)
onto_word limit room first (next ∷ others) h e all =
    let wanted : bytes_wanted next ≡ 1 = plain_wants next e in
    let roomy : nat_lt room (bytes_wanted next) ≡ false =
    le-ltb room (bytes_wanted next) (let k : bytes_wanted next ≤ room = omega (arith, wanted, h) in k) in
    let is : groups_after bytes_wanted (λ here. 1) limit room (next ∷ others)
    ≡ onto_first next (groups_after bytes_wanted (λ here. 1) limit (room - 1) others) =
    cond-false (nat_lt room (bytes_wanted next))
    ([] ∷ onto_first next (groups_after bytes_wanted (λ here. 1) limit (limit - 1) others))
    (onto_first next (groups_after bytes_wanted (λ here. 1) limit (room - 1) others)) roomy in
    subst (λ groups. AllByRecursion AreWhole (onto_first first groups)) (sym is)
    (onto_both first next (groups_after bytes_wanted (λ here. 1) limit (room - 1) others) e
    (subst (AllByRecursion AreWhole) is all))

onto_whole :
    (limit room : ℕ) (first : SetByte) (others : List SetByte)
    → (begins_word (Some first) ≡ true → 1 ≤ room) → AreWhole (first ∷ others)
    → AllByRecursion AreWhole (groups_after bytes_wanted (λ here. 1) limit room others)
    → AllByRecursion AreWhole (onto_first first (groups_after bytes_wanted (λ here. 1) limit room others))
onto_whole limit room first others roomy h all = go (begins_word (Some first)) refl
  where
    go : (b : Bool) → begins_word (Some first) ≡ b
        → AllByRecursion AreWhole (onto_first first (groups_after bytes_wanted (λ here. 1) limit room others))
    go true e =
        let t = and_parts
        (not (begins_word (Some first)) || is_plain (option_flatten (slice_get (map Some others) 0)))
        (words_are_whole (map Some others)) h in
        onto_word limit room first others (roomy e)
        (sym (ap (λ b. not b || is_plain (option_flatten (slice_get (map Some others) 0))) e) ∙ t.0) all
    go false e = onto_plain first (groups_after bytes_wanted (λ here. 1) limit room others) e all

tail_whole : (first : SetByte) (others : List SetByte) → AreWhole (first ∷ others) → AreWhole others
tail_whole first others h =
    (and_parts (not (begins_word (Some first)) || is_plain (option_flatten (slice_get (map Some others) 0)))
    (words_are_whole (map Some others)) h).1

word_wants : (here : SetByte) → begins_word (Some here) ≡ true → bytes_wanted here ≡ 2
word_wants here e = ap (λ b. cond b 2 1) e

whole_after :
    (limit room : ℕ) (items : List SetByte) → 2 ≤ limit → AreWhole items
    → AllByRecursion AreWhole (groups_after bytes_wanted (λ here. 1) limit room items)
whole_after limit room [] h whole = (refl, tt)
whole_after limit room (first ∷ others) h whole =
    let fresh : List (List SetByte) = groups_after bytes_wanted (λ here. 1) limit (limit - 1) others in
    let begun : List (List SetByte) = groups_after bytes_wanted (λ here. 1) limit (room - 1) others in
    cond_both (nat_lt room (bytes_wanted first)) ([] ∷ onto_first first fresh) (onto_first first begun)
    (AllByRecursion AreWhole)
    (λ _. (
      refl,
      onto_whole limit (limit - 1) first others (λ _. omega (arith, h)) whole
          (whole_after limit (limit - 1) others h (tail_whole first others whole)),
    ))
    (λ roomy.
    onto_whole limit (room - 1) first others
    (λ e.
    let wanted : bytes_wanted first ≡ 2 = word_wants first e in
    let enough : bytes_wanted first ≤ room = ltb-false room (bytes_wanted first) roomy in
    omega (arith, wanted, enough))
    whole (whole_after limit (room - 1) others h (tail_whole first others whole)))

pub groups_whole :
    (limit : ℕ) (items : List SetByte) → 2 ≤ limit → AreWhole items
    → AllByRecursion AreWhole (groups_of bytes_wanted (λ here. 1) limit items)
groups_whole limit [] h whole = tt
groups_whole limit (first ∷ others) h whole = whole_after limit limit (first ∷ others) h whole

-- the groups of a run
abbrev pub run_groups : Run SetByte → List (List SetByte)
run_groups run = groups_of bytes_wanted (λ here. 1) content_limit run.items

wants_some : (here : SetByte) → 1 ≤ bytes_wanted here
wants_some here = cond_both (begins_word (Some here)) 2 1 (λ n. 1 ≤ n) (λ _. omega arith) (λ _. omega arith)

wants_two : (here : SetByte) → bytes_wanted here ≤ content_limit
wants_two here = cond_both (begins_word (Some here)) 2 1 (λ n. n ≤ 1024) (λ _. omega arith) (λ _. omega arith)

all_want : (items : List SetByte) → AllByRecursion (λ here. bytes_wanted here ≤ content_limit) items
all_want [] = tt
all_want (here ∷ others) = (wants_two here, all_want others)

-- each has a byte, and no more than a content may have
pub run_groups_fit : (run : Run SetByte) → AllByRecursion (Fits (λ here. 1) content_limit) (run_groups run)
run_groups_fit run =
    groups_fit bytes_wanted (λ here. 1) content_limit run.items wants_some (all_want run.items)

pub run_groups_whole : (run : Run SetByte) → AreWhole run.items → AllByRecursion AreWhole (run_groups run)
run_groups_whole run whole = groups_whole content_limit run.items (omega arith) whole

pub run_groups_joined : (run : Run SetByte) → joined (run_groups run) ≡ run.items
run_groups_joined run = groups_joined bytes_wanted (λ here. 1) content_limit run.items

-- a content of groups: what holds of a group holds of the run that it is placed as
pub placed_hold :
    {A : Type 0} (P : List A → Type 0) (offset : ℕ) (groups : List (List A)) → AllByRecursion P groups
    → AllByRecursion (λ (run : Run A). P run.items) (placed_from offset groups)
placed_hold P offset [] all = tt
placed_hold P offset (group ∷ groups) all = (all.0, placed_hold P (offset + length group) groups all.1)

-- a content that has bytes, no more than it may, and of each word both
pub record IsCut (cut : Run SetByte) : Type 0 where
  pub fits : Fits (λ here. 1) content_limit cut.items
  pub whole : AreWhole cut.items

both_hold :
    {A : Type 0} (P Q R : A → Type 0) → ((x : A) → P x → Q x → R x) → (xs : List A) → AllByRecursion P xs
    → AllByRecursion Q xs → AllByRecursion R xs
both_hold P Q R f [] h k = tt
both_hold P Q R f (x ∷ xs) h k = (f x h.0 k.0, both_hold P Q R f xs h.1 k.1)

pub all_cut :
    (runs : List (Run SetByte)) → AllByRecursion IsWholeRun runs
    → AllByRecursion IsCut (flat_map contents_of_run runs)
all_cut [] h = tt
all_cut (run ∷ others) h =
    all_append IsCut (contents_of_run run) (flat_map contents_of_run others)
    (both_hold (λ (cut : Run SetByte). Fits (λ here. 1) content_limit cut.items)
    (λ cut. AreWhole cut.items) IsCut
    (λ cut fits whole. record { fits = fits; whole = whole }) (contents_of_run run)
    (placed_hold (Fits (λ here. 1) content_limit) run.offset (run_groups run) (run_groups_fit run))
    (placed_hold AreWhole run.offset (run_groups run) (run_groups_whole run h.0)))
    (all_cut others h.1)

-- the order of contents
placed_in_order :
    (offset to : ℕ) (groups : List (List SetByte)) (others : List (Run SetByte))
    → AllByRecursion (Fits (λ here. 1) content_limit) groups
    → InOrder (offset + length (joined groups)) to others
    → InOrder offset to (placed_from offset groups ++ others)
placed_in_order offset to [] others fits o = order_earlier offset (offset + 0) to others (omega arith) o
placed_in_order offset to (group ∷ groups) others fits o =
    let longer : length (group ++ joined groups) ≡ length group + length (joined groups) =
    length-append group (joined groups) in
    let same : offset + length (group ++ joined groups) ≡ offset + length group + length (joined groups) =
    omega (arith, longer) in (
      omega arith,
      fits.0.0,
      placed_in_order (offset + length group) to groups others fits.1
          (subst (λ from. InOrder from to others) same o),
    )

pub contents_in_order :
    (from to : ℕ) (runs : List (Run SetByte)) → InOrder from to runs
    → InOrder from to (flat_map contents_of_run runs)
contents_in_order from to [] o = o
contents_in_order from to (run ∷ others) o =
    order_earlier from run.offset to (contents_of_run run ++ flat_map contents_of_run others) o.0
    (placed_in_order run.offset to (run_groups run) (flat_map contents_of_run others) (run_groups_fit run)
    (subst (λ items. InOrder (run.offset + length items) to (flat_map contents_of_run others))
    (sym (run_groups_joined run)) (contents_in_order (run.offset + length run.items) to others o.2)))

got_right : {A : Type 0} (xs ys : List A) (k n : ℕ) → n ≡ length xs + k
    → slice_get (xs ++ ys) n ≡ slice_get ys k
got_right [] ys k n e = ap (slice_get ys) (let s : n ≡ k = omega (arith, e) in s)
got_right (x ∷ xs) ys k zero e = absurd (omega (arith, e))
got_right (x ∷ xs) ys k (suc n) e = got_right xs ys k n (omega (arith, e))

-- groups that are placed have the items of the list that they were cut from
placed_item :
    {A : Type 0} (place offset : ℕ) (groups : List (List A)) (others : List (Run A))
    → item_at place (placed_from offset groups ++ others)
    ≡ item_at place (record { offset = offset; items = joined groups } ∷ others)
placed_item {A} place offset [] others =
    let none : Run A = record { offset = offset; items = [] } in
    ⊎_elim (λ (h : place < offset). sym (item_before place none others h))
    (λ (h : offset ≤ place).
    sym (item_past place none others (let k : offset + length {A = A} [] ≤ place = omega (arith, h) in k)))
    (cases_lt place offset)
placed_item {A} place offset (group ∷ groups) others =
    let first : Run A = record { offset = offset; items = group } in
    let whole : Run A = record { offset = offset; items = group ++ joined groups } in
    let later : Run A = record { offset = offset + length group; items = joined groups } in
    let after : List (Run A) = placed_from (offset + length group) groups ++ others in
    let longer : length (group ++ joined groups) ≡ length group + length (joined groups) =
    length-append group (joined groups) in
    let next : item_at place after ≡ item_at place (later ∷ others) =
    placed_item place (offset + length group) groups others in
    ⊎_elim
    (λ (h : place < offset).
    item_before place first after h ∙ next ∙ item_before place later others (omega (arith, h))
    ∙ sym (item_before place whole others h))
    (λ (from : offset ≤ place).
    ⊎_elim
    (λ (h : place < offset + length group).
    item_inside place first after from h
    ∙ sym (got_before group (joined groups) (place - offset) (omega (arith, from, h)))
    ∙ sym (item_inside place whole others from (omega (arith, h, longer))))
    (λ (h : offset + length group ≤ place).
    item_past place first after h ∙ next
    ∙ ⊎_elim
    (λ (k : place < offset + length group + length (joined groups)).
    item_inside place later others h k
    ∙ sym (got_right group (joined groups) (place - (offset + length group)) (place - offset)
    (omega (arith, h, from)))
    ∙ sym (item_inside place whole others from (omega (arith, k, longer))))
    (λ (k : offset + length group + length (joined groups) ≤ place).
    item_past place later others k ∙ sym (item_past place whole others (omega (arith, k, longer))))
    (cases_lt place (offset + length group + length (joined groups))))
    (cases_lt place (offset + length group)))
    (cases_lt place offset)

same_first :
    {A : Type 0} (place : ℕ) (run : Run A) (xs ys : List (Run A)) → item_at place xs ≡ item_at place ys
    → item_at place (run ∷ xs) ≡ item_at place (run ∷ ys)
same_first place run xs ys h =
    ap (cond (nat_le run.offset place && nat_lt place (run.offset + length run.items))
    (slice_get run.items (place - run.offset))) h

-- contents have at each place what their runs have
pub contents_tell :
    (place : ℕ) (runs : List (Run SetByte))
    → item_at place (flat_map contents_of_run runs) ≡ item_at place runs
contents_tell place [] = refl
contents_tell place (run ∷ others) =
    placed_item place run.offset (run_groups run) (flat_map contents_of_run others)
    ∙ ap (λ items. item_at place (record { offset = run.offset; items = items }
    ∷ flat_map contents_of_run others))
    (run_groups_joined run)
    ∙ same_first place run (flat_map contents_of_run others) others (contents_tell place others)
