-- Bytes in a row, cut into contents one after another.
use Rattle.object_writing.proofs.Prelude.{◌≡◌, ℕ, zero, suc, ◌+◌, ◌-◌, ◌<◌, ◌≤◌, Bool, true, false, cond, nat_lt, List, [], ◌∷◌, ◌++◌, length, flat_map, take, drop, slice_get, Some, refl, ap, sym, ◌∙◌, arith, onto_first, cond-true, cond-false, cond_both, lt-ltb, le-ltb, ltb-true, ltb-false, length-take, flat_map-append, Fix, Segment, SetByte, begins_word, part_bytes, Run, content_limit, groups_after, groups_of, bytes_wanted, placed_from, fixes_from, content_parts, word_at, cut_by, row_text}
use Rattle.object_writing.proofs.Fixes.{word_is}

-- how many bytes go into a group with this room
abbrev pub fill : (room : ℕ) → List SetByte → ℕ
fill room [] = 0
fill room (here ∷ others) = cond (nat_lt room (bytes_wanted here)) 0 (suc (fill (room - 1) others))

wanted_some : (here : SetByte) → 0 < bytes_wanted here
wanted_some here =
    cond_both (begins_word (Some here)) 2 1 (λ n. 0 < n) (λ _. omega arith) (λ _. omega arith)

wanted_few : (here : SetByte) → bytes_wanted here ≤ 2
wanted_few here =
    cond_both (begins_word (Some here)) 2 1 (λ n. n ≤ 2) (λ _. omega arith) (λ _. omega arith)

fits :
    (room : ℕ) (here : SetByte) (others : List SetByte) → bytes_wanted here ≤ room
    → fill room (here ∷ others) ≡ suc (fill (room - 1) others)
fits room here others h =
    cond-false (nat_lt room (bytes_wanted here)) 0 (suc (fill (room - 1) others))
    (le-ltb room (bytes_wanted here) h)

-- the first group is as long as that
first_group :
    (limit : ℕ) → 2 ≤ limit → (room : ℕ) (items : List SetByte)
    → groups_after bytes_wanted (λ here. 1) limit room items
    ≡ take (fill room items) items ∷ groups_of bytes_wanted (λ here. 1) limit (drop (fill room items) items)
first_group limit large room [] = refl
first_group limit large room (here ∷ others) =
    go (nat_lt room (bytes_wanted here)) (first_group limit large (room - 1) others)
  where
    fresh : List (List SetByte)
    fresh = onto_first here (groups_after bytes_wanted (λ one. 1) limit (limit - 1) others)

    whole : groups_of bytes_wanted (λ one. 1) limit (here ∷ others) ≡ fresh
    whole =
        cond-false (nat_lt limit (bytes_wanted here)) ([] ∷ fresh) fresh
        (le-ltb limit (bytes_wanted here) (omega (arith, wanted_few here, large)))

    go : (full : Bool)
        → groups_after bytes_wanted (λ one. 1) limit (room - 1) others
        ≡ take (fill (room - 1) others) others
        ∷ groups_of bytes_wanted (λ one. 1) limit (drop (fill (room - 1) others) others)
        → cond full ([] ∷ fresh)
        (onto_first here (groups_after bytes_wanted (λ one. 1) limit (room - 1) others))
        ≡ take (cond full 0 (suc (fill (room - 1) others))) (here ∷ others)
        ∷ groups_of bytes_wanted (λ one. 1) limit
        (drop (cond full 0 (suc (fill (room - 1) others))) (here ∷ others))
    go true later = ap (λ groups. [] ∷ groups) (sym whole)
    go false later = ap (onto_first here) later

-- few bytes go all into it
fill_all : (room : ℕ) (items : List SetByte) → length items < room → fill room items ≡ length items
fill_all room [] h = refl
fill_all room (here ∷ others) h =
    let later : fill (room - 1) others ≡ length others = fill_all (room - 1) others (omega (arith, h)) in
    fits room here others (omega (arith, wanted_few here, h)) ∙ ap suc later

-- of many bytes as many as there is room, but no half of a word
fill_many :
    (room : ℕ) (items : List SetByte) → room < length items
    → fill (suc room) items ≡ cond (begins_word (slice_get items room)) room (suc room)
fill_many room [] h = absurd (omega (arith, h))
fill_many zero (here ∷ others) h = go (begins_word (Some here))
  where
    none : (items : List SetByte) → fill 0 items ≡ 0
    none [] = refl
    none (one ∷ more) =
        cond-true (nat_lt 0 (bytes_wanted one)) 0 (suc (fill (0 - 1) more))
        (lt-ltb 0 (bytes_wanted one) (wanted_some one))

    go : (b : Bool) → cond (nat_lt 1 (cond b 2 1)) 0 (suc (fill (1 - 1) others)) ≡ cond b 0 1
    go true = refl
    go false = ap suc (none others)
fill_many (suc room) (here ∷ others) h =
    let few : bytes_wanted here ≤ 2 = wanted_few here in
    let one_less : suc (suc room) - 1 ≡ suc room = omega arith in
    fits (suc (suc room)) here others (omega (arith, few))
    ∙ ap (λ n. suc (fill n others)) one_less
    ∙ ap suc (fill_many room others (omega (arith, h)))
    ∙ one_more (begins_word (slice_get others room))
  where
    one_more : (b : Bool) → suc (cond b room (suc room)) ≡ cond b (suc room) (suc (suc room))
    one_more true = refl
    one_more false = refl

-- how many bytes the code takes
pub cut_is :
    (place : ℕ) (items : List SetByte)
    → cut_by (fixes_from place items) place (length items) ≡ fill 1024 items
cut_is place items =
    cond_both (nat_lt (length items) 1024) (length items)
    (cond (word_at (fixes_from place items) (place + 1024 - 1)) 1023 1024)
    (λ n. n ≡ fill 1024 items)
    (λ few. sym (fill_all 1024 items (ltb-true (length items) 1024 few)))
    (λ many.
    let enough : 1024 ≤ length items = ltb-false (length items) 1024 many in
    let last : place + 1024 - 1 ≡ place + 1023 = omega arith in
    ap (λ p. cond (word_at (fixes_from place items) p) 1023 1024) last
    ∙ ap (λ b. cond b 1023 1024) (word_is place items 1023)
    ∙ sym (fill_many 1023 items (omega (arith, enough))))

pub cut_bounds :
    (fixes : List Fix) (place left : ℕ) → 0 < left
    → (0 < cut_by fixes place left) × (cut_by fixes place left ≤ left)
    × (cut_by fixes place left ≤ 1024)
cut_bounds fixes place left some =
    cond_both (nat_lt left 1024) left (cond (word_at fixes (place + 1024 - 1)) 1023 1024)
    (λ n. (0 < n) × (n ≤ left) × (n ≤ 1024))
    (λ few. (some, omega arith, (let h : left < 1024 = ltb-true left 1024 few in omega (arith, h))))
    (λ many.
    let enough : 1024 ≤ left = ltb-false left 1024 many in
    cond_both (word_at fixes (place + 1024 - 1)) 1023 1024 (λ n. (0 < n) × (n ≤ left) × (n ≤ 1024))
    (λ _. (omega arith, omega (arith, enough), omega arith))
    (λ _. (omega arith, omega (arith, enough), omega arith)))

-- the first content of bytes in a row, and the others
abbrev pub one_cut : (place : ℕ) → List SetByte → Run SetByte
one_cut place items = record { offset = place; items = items }

pub row_more :
    (segment : Segment) (place size : ℕ) (items : List SetByte) → 0 < length items → size ≤ length items
    → size ≡ fill 1024 items
    → row_text segment place items
    ≡ flat_map part_bytes (content_parts segment (one_cut place (take size items)))
    ++ row_text segment (place + size) (drop size items)
unfolding row_text
row_more segment place size [] some fit is = absurd (omega (arith, some))
row_more segment place size (here ∷ others) some fit is =
    let items : List SetByte = here ∷ others in
    let groups : List (List SetByte) = groups_of bytes_wanted (λ one. 1) content_limit (drop size items) in
    let first : groups_of bytes_wanted (λ one. 1) content_limit items ≡ take size items ∷ groups =
    first_group content_limit (omega arith) content_limit items
    ∙ ap (λ n. take n items ∷ groups_of bytes_wanted (λ one. 1) content_limit (drop n items)) (sym is) in
    let long : length (take size items) ≡ size = omega (arith, length-take size items, fit) in
    ap (λ gs. flat_map part_bytes (flat_map (content_parts segment) (placed_from place gs))) first
    ∙ flat_map-append part_bytes (content_parts segment (one_cut place (take size items)))
    (flat_map (content_parts segment) (placed_from (place + length (take size items)) groups))
    ∙ ap (λ n. flat_map part_bytes (content_parts segment (one_cut place (take size items)))
    ++ flat_map part_bytes (flat_map (content_parts segment) (placed_from (place + n) groups))) long

pub row_ended : (segment : Segment) (place : ℕ) → row_text segment place [] ≡ []
unfolding row_text
row_ended segment place = refl
