-- Entries that are put together one after another make the records of the groups that they are cut into.
use Rattle.object_writing.proofs.Prelude.{◌≡◌, ℕ, ◌+◌, ◌-◌, ◌<◌, Bool, true, false, cond, nat_lt, List, [], ◌∷◌, ◌++◌, length, map, flat_map, filter_map, filter, Option, Some, None, option_map, refl, ap, sym, ◌∙◌, arith, onto_first, cons_option, append_assoc, append-nil, length-append, RecordKind, BODY_LIMIT, bytes_of, groups_after, packed, Group, empty_group, room_of, group_bytes, flushed, with_bytes, with_entry, last_record, records_of}

module _ {A : Type 0} (kind : RecordKind) (front : List ℕ) (spell : A → List ℕ)
    (long : (x : A) → 0 < length (spell x)) where
  -- the record of a group
  abbrev pub record_for : List A → List ℕ
  record_for group = bytes_of (record { kind = kind; body = front ++ flat_map spell group })

  abbrev with : List ℕ → Group
  with begun = record { kind = kind; front = front; begun = begun }

  abbrev size : A → ℕ
  size x = length (spell x)

  abbrev item_of : A → Option (List ℕ)
  item_of x = Some (spell x)

  -- the records of groups of which the first goes on one that is begun
  abbrev rendered : (begun : List ℕ) → List (List A) → List ℕ
  rendered begun [] = last_record (with begun)
  rendered begun (group ∷ []) = last_record (with (begun ++ flat_map spell group))
  rendered begun (group ∷ next ∷ others) =
      group_bytes (with (begun ++ flat_map spell group)) ++ flat_map record_for (next ∷ others)

  -- a record with an entry is written
  last_some : (x : A) (bytes : List ℕ)
      → last_record (with (spell x ++ bytes)) ≡ group_bytes (with (spell x ++ bytes))
  last_some x bytes = go (spell x) (long x)
    where
      go : (first : List ℕ) → 0 < length first
          → last_record (with (first ++ bytes)) ≡ group_bytes (with (first ++ bytes))
      go [] h = absurd (omega arith)
      go (b ∷ first) h = refl

  -- all records, where the first group has an item
  records_onto : (x : A) (groups : List (List A))
      → flat_map record_for (onto_first x groups) ≡ rendered (spell x) groups
  records_onto x [] =
      append-nil (record_for (x ∷ [])) ∙ sym (last_some x [])
      ∙ ap (λ b. last_record (with b)) (append-nil (spell x))
  records_onto x (group ∷ []) =
      append-nil (record_for (x ∷ group)) ∙ sym (last_some x (flat_map spell group))
  records_onto x (group ∷ next ∷ others) = refl

  -- an item in front of groups is one more entry of what is begun
  rendered_onto :
      (begun : List ℕ) (x : A) (groups : List (List A))
      → rendered begun (onto_first x groups) ≡ rendered (begun ++ spell x) groups
  rendered_onto begun x [] = ap (λ b. last_record (with (begun ++ b))) (append-nil (spell x))
  rendered_onto begun x (group ∷ []) =
      ap (λ b. last_record (with b)) (sym (append_assoc begun (spell x) (flat_map spell group)))
  rendered_onto begun x (group ∷ next ∷ others) =
      ap (λ b. group_bytes (with b) ++ flat_map record_for (next ∷ others))
      (sym (append_assoc begun (spell x) (flat_map spell group)))

  -- a group that is closed, and those after it
  rendered_closed :
      (begun : List ℕ) (x : A) (groups : List (List A))
      → rendered begun ([] ∷ onto_first x groups)
      ≡ group_bytes (with begun) ++ flat_map record_for (onto_first x groups)
  rendered_closed begun x [] =
      ap (λ b. group_bytes (with b) ++ flat_map record_for (onto_first x [])) (append-nil begun)
  rendered_closed begun x (group ∷ others) =
      ap (λ b. group_bytes (with b) ++ flat_map record_for (onto_first x (group ∷ others))) (append-nil begun)

  -- the room that is left for entries
  abbrev room : (begun : List ℕ) → ℕ
  room begun = room_of (with begun)

  abbrev limit : ℕ
  limit = BODY_LIMIT - length front

  -- what is written of items from a group that is begun, by whether the first of them fits
  abbrev written_by : (begun : List ℕ) → A → List A → Bool → List ℕ
  written_by begun x others full =
      cond full (group_bytes (with begun)) []
      ++ records_of (with_bytes (cond full (empty_group kind front) (with begun)) (spell x))
      (map item_of others)

  one_more :
      (begun : List ℕ) (x : A) (others : List A) (r : ℕ) → r ≡ room begun
      → ((b : List ℕ) (n : ℕ) → n ≡ room b
      → rendered b (groups_after size size limit n others) ≡ records_of (with b) (map item_of others))
      → (full : Bool)
      → rendered begun
      (cond full ([] ∷ onto_first x (groups_after size size limit (limit - size x) others))
      (onto_first x (groups_after size size limit (r - size x) others)))
      ≡ written_by begun x others full
  one_more begun x others r e later true =
      rendered_closed begun x (groups_after size size limit (limit - size x) others)
      ∙ ap (λ rest. group_bytes (with begun) ++ rest)
      (records_onto x (groups_after size size limit (limit - size x) others)
      ∙ later (spell x) (limit - size x) refl)
  one_more begun x others r e later false =
      let longer : length (begun ++ spell x) ≡ length begun + length (spell x) =
      length-append begun (spell x) in
      let left : r - size x ≡ room (begun ++ spell x) = omega (arith, e, longer) in
      rendered_onto begun x (groups_after size size limit (r - size x) others)
      ∙ later (begun ++ spell x) (r - size x) left

  rendered_is :
      (items : List A) (begun : List ℕ) (r : ℕ) → r ≡ room begun
      → rendered begun (groups_after size size limit r items) ≡ records_of (with begun) (map item_of items)
  rendered_is [] begun r e = ap (λ b. last_record (with b)) (append-nil begun)
  rendered_is (x ∷ others) begun r e =
      one_more begun x others r e (λ b n same. rendered_is others b n same) (nat_lt r (size x))
      ∙ ap (λ n. written_by begun x others (nat_lt n (size x))) e

  first_by :
      (x : A) (fresh on : List (List A)) (full : Bool)
      → flat_map record_for (cond full ([] ∷ onto_first x fresh) (onto_first x on))
      ≡ rendered [] (cond full ([] ∷ onto_first x fresh) (onto_first x on))
  first_by x fresh on true = sym (rendered_closed [] x fresh)
  first_by x fresh on false = records_onto x on ∙ sym (rendered_onto [] x on)

  pub grouped :
      (items : List A)
      → flat_map record_for (packed size limit items)
      ≡ records_of (empty_group kind front) (map item_of items)
  grouped [] = refl
  grouped (x ∷ others) =
      first_by x (groups_after size size limit (limit - size x) others)
      (groups_after size size limit (limit - size x) others) (nat_lt limit (size x))
      ∙ rendered_is (x ∷ others) [] limit (let e : limit ≡ room [] = omega arith in e)

-- the items that have an entry
pub mapped :
    {X A : Type 0} (spell : A → List ℕ) (f : X → Option A) (group : Group) (xs : List X)
    → records_of group (map (λ x. option_map spell (f x)) xs)
    ≡ records_of group (map (λ a. Some (spell a)) (filter_map f xs))
mapped spell f group [] = refl
mapped {X} {A} spell f group (x ∷ xs) = go (f x) (λ g. mapped spell f g xs)
  where
    go : (o : Option A)
        → ((g : Group) → records_of g (map (λ y. option_map spell (f y)) xs)
        ≡ records_of g (map (λ a. Some (spell a)) (filter_map f xs)))
        → records_of group (option_map spell o ∷ map (λ y. option_map spell (f y)) xs)
        ≡ records_of group (map (λ a. Some (spell a)) (cons_option o (filter_map f xs)))
    go None later = later group
    go (Some a) later = ap (λ r. flushed group (length (spell a)) ++ r) (later (with_entry group (spell a)))

pub records_of_filtered :
    {X A : Type 0} (spell : A → List ℕ) (f : X → A) (test : X → Bool) (group : Group) (xs : List X)
    → records_of group (map (λ x. cond (test x) (Some (spell (f x))) None) xs)
    ≡ records_of group (map (λ a. Some (spell a)) (map f (filter test xs)))
records_of_filtered spell f test group [] = refl
records_of_filtered {X} {A} spell f test group (x ∷ xs) =
    go (test x) (λ g. records_of_filtered spell f test g xs)
  where
    go : (b : Bool)
        → ((g : Group) → records_of g (map (λ y. cond (test y) (Some (spell (f y))) None) xs)
        ≡ records_of g (map (λ a. Some (spell a)) (map f (filter test xs))))
        → records_of group
        (cond b (Some (spell (f x))) None ∷ map (λ y. cond (test y) (Some (spell (f y))) None) xs)
        ≡ records_of group (map (λ a. Some (spell a)) (map f (cond b (x ∷ filter test xs) (filter test xs))))
    go false later = later group
    go true later =
        ap (λ r. flushed group (length (spell (f x))) ++ r) (later (with_entry group (spell (f x))))

-- records of parts
pub flat_map_of_map :
    {A B C : Type 0} (f : B → List C) (g : A → B) (xs : List A)
    → flat_map f (map g xs) ≡ flat_map (λ x. f (g x)) xs
flat_map_of_map f g [] = refl
flat_map_of_map f g (x ∷ xs) = ap (λ r. f (g x) ++ r) (flat_map_of_map f g xs)

pub map_of_map :
    {A B C : Type 0} (f : B → C) (g : A → B) (xs : List A) → map f (map g xs) ≡ map (λ x. f (g x)) xs
map_of_map f g [] = refl
map_of_map f g (x ∷ xs) = ap (λ r. f (g x) ∷ r) (map_of_map f g xs)
