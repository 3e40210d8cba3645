-- The loop over modules that finds where their pieces begin, and whether a segment is too long.
use Rattle.link_laws.proofs.Prelude.{◌≡◌, ℕ, ◌+◌, ◌<◌, ◌≤◌, true, false, ◌||◌, List, [], ◌∷◌, ◌++◌, All, length, drop, get_or, sum_by, fold, refl, ap, sym, subst, ◌∙◌, arith, AllByRecursion, or_left, or_right, or_from, lt-ltb, le-ltb, All-from_recursion, append_assoc, append-nil, Start, Linked, code_end, data_end, start_after, linked_after, linked_from, linked_modules, last_end, is_too_long, some_segment_is_too_long, ObjectModule, IsObjectModule, code_after, data_after, later_start, at_drop_all}
use Rattle.link_laws.proofs.NameLoops.{at_item}

-- where the last pieces end
last_code :
    (first : ObjectModule) (others : List ObjectModule) (code data_before : ℕ)
    → last_end code_end (linked_from code data_before (first ∷ others))
    ≡ code_after code data_before (first ∷ others)
last_code first [] code data_before = refl
last_code first (next ∷ others) code data_before =
    let one : Linked = linked_after code data_before first in
    last_code next others (code_end one) (data_end one)

last_data :
    (first : ObjectModule) (others : List ObjectModule) (code data_before : ℕ)
    → last_end data_end (linked_from code data_before (first ∷ others))
    ≡ data_after code data_before (first ∷ others)
last_data first [] code data_before = refl
last_data first (next ∷ others) code data_before =
    let one : Linked = linked_after code data_before first in
    last_data next others (code_end one) (data_end one)

all_code : (modules : List ObjectModule) → last_end code_end (linked_modules modules) ≡ code_after 0 0 modules
all_code [] = refl
all_code (first ∷ others) = last_code first others 0 0

all_data : (modules : List ObjectModule) → last_end data_end (linked_modules modules) ≡ data_after 0 0 modules
all_data [] = refl
all_data (first ∷ others) = last_data first others 0 0

-- ends only grow
code_grows : (code data_before : ℕ) (modules : List ObjectModule) → code ≤ code_after code data_before modules
code_grows code data_before [] = omega arith
code_grows code data_before (object ∷ others) =
    let one : Linked = linked_after code data_before object in
    let later :
    start_after code object.code.alignment + length object.code.places
    ≤ code_after code data_before (object ∷ others) =
    code_grows (code_end one) (data_end one) others in
    let begins : code ≤ start_after code object.code.alignment = later_start code object.code.alignment in
    omega (arith, later, begins)

data_grows : (code data_before : ℕ) (modules : List ObjectModule)
    → data_before ≤ data_after code data_before modules
data_grows code data_before [] = omega arith
data_grows code data_before (object ∷ others) =
    let one : Linked = linked_after code data_before object in
    let later :
    start_after data_before object.data_places.alignment + length object.data_places.places
    ≤ data_after code data_before (object ∷ others) =
    data_grows (code_end one) (data_end one) others in
    let begins : data_before ≤ start_after data_before object.data_places.alignment =
    later_start data_before object.data_places.alignment in
    omega (arith, later, begins)

abbrev pub stack_of : ObjectModule → ℕ
stack_of object = object.stack_length

-- the lengths of stacks from one on
abbrev pub stack_after : (stack : ℕ) → List ObjectModule → ℕ
stack_after stack modules =
    fold (λ (sum : ℕ) (object : ObjectModule). sum + object.stack_length) stack modules

stack_grows : (stack : ℕ) (modules : List ObjectModule) → stack ≤ stack_after stack modules
stack_grows stack [] = omega arith
stack_grows stack (object ∷ others) =
    let later : stack + object.stack_length ≤ stack_after (stack + object.stack_length) others =
    stack_grows (stack + object.stack_length) others in
    omega (arith, later)

-- what is known before each module
pub record SoFar (code data_end stack : ℕ) (placed : List Linked)
    (left all : List ObjectModule) : Type 0 where
  pub code_limit : code ≤ 65535
  pub data_limit : data_end ≤ 65535
  pub stack_limit : stack ≤ 65535
  pub code_rest : code_after code data_end left ≡ code_after 0 0 all
  pub data_rest : data_after code data_end left ≡ data_after 0 0 all
  pub stack_rest : stack_after stack left ≡ stack_after 0 all
  pub placed_rest : placed ++ linked_from code data_end left ≡ linked_modules all
  pub valid_rest : AllByRecursion IsObjectModule left → AllByRecursion IsObjectModule all

first_passes : (n : ℕ) → 65535 < n → is_too_long n ≡ true
first_passes n h = lt-ltb 65535 n h

abbrev pub start_at : (code data_start : ℕ) → Start
start_at code data_start = record { code = code; data_start = data_start }

-- one module more
module _ (code data_before stack : ℕ) (placed : List Linked) (modules : List ObjectModule) (i : ℕ)
    (known : SoFar code data_before stack placed (drop i modules) modules) (object : ObjectModule)
    (within : i < length modules) (is : object ≡ get_or modules i object) where
  left_is : drop i modules ≡ object ∷ drop (i + 1) modules
  left_is = at_item (λ (left : List ObjectModule). left) modules i object within is

  pub code_too_long :
      (start size : ℕ) → start ≡ start_after code object.code.alignment → size ≡ length object.code.places
      → 65535 < start + size → some_segment_is_too_long modules (linked_modules modules) ≡ true
  code_too_long start size begins sized long =
      let one : Linked = linked_after code data_before object in
      let grows :
      start_after code object.code.alignment + length object.code.places
      ≤ code_after (code_end one) (data_end one) (drop (i + 1) modules) =
      code_grows (code_end one) (data_end one) (drop (i + 1) modules) in
      let total : code_after (code_end one) (data_end one) (drop (i + 1) modules) ≡ code_after 0 0 modules =
      sym (ap (code_after code data_before) left_is) ∙ known.code_rest in
      let same : last_end code_end (linked_modules modules) ≡ code_after 0 0 modules = all_code modules in
      let past : 65535 < last_end code_end (linked_modules modules) =
      omega (arith, begins, sized, long, grows, total, same) in
      or_left (is_too_long (last_end code_end (linked_modules modules))
      || is_too_long (last_end data_end (linked_modules modules)))
      (is_too_long (sum_by stack_of modules))
      (or_left (is_too_long (last_end code_end (linked_modules modules)))
      (is_too_long (last_end data_end (linked_modules modules)))
      (first_passes (last_end code_end (linked_modules modules)) past))

  pub data_too_long :
      (start size : ℕ) → start ≡ start_after data_before object.data_places.alignment
      → size ≡ length object.data_places.places
      → 65535 < start + size → some_segment_is_too_long modules (linked_modules modules) ≡ true
  data_too_long start size begins sized long =
      let one : Linked = linked_after code data_before object in
      let grows :
      start_after data_before object.data_places.alignment + length object.data_places.places
      ≤ data_after (code_end one) (data_end one) (drop (i + 1) modules) =
      data_grows (code_end one) (data_end one) (drop (i + 1) modules) in
      let total : data_after (code_end one) (data_end one) (drop (i + 1) modules) ≡ data_after 0 0 modules =
      sym (ap (data_after code data_before) left_is) ∙ known.data_rest in
      let same : last_end data_end (linked_modules modules) ≡ data_after 0 0 modules = all_data modules in
      let past : 65535 < last_end data_end (linked_modules modules) =
      omega (arith, begins, sized, long, grows, total, same) in
      or_left (is_too_long (last_end code_end (linked_modules modules))
      || is_too_long (last_end data_end (linked_modules modules)))
      (is_too_long (sum_by stack_of modules))
      (or_right (is_too_long (last_end code_end (linked_modules modules)))
      (is_too_long (last_end data_end (linked_modules modules)))
      (first_passes (last_end data_end (linked_modules modules)) past))

  pub stack_too_long :
      (more : ℕ) → more ≡ object.stack_length → 65535 < stack + more
      → some_segment_is_too_long modules (linked_modules modules) ≡ true
  stack_too_long more same long =
      let grows : stack + object.stack_length
      ≤ stack_after (stack + object.stack_length) (drop (i + 1) modules) =
      stack_grows (stack + object.stack_length) (drop (i + 1) modules) in
      let total : stack_after (stack + object.stack_length) (drop (i + 1) modules) ≡ stack_after 0 modules =
      sym (ap (stack_after stack) left_is) ∙ known.stack_rest in
      let past : 65535 < stack_after 0 modules = omega (arith, same, long, grows, total) in
      or_right
      (is_too_long (last_end code_end (linked_modules modules))
      || is_too_long (last_end data_end (linked_modules modules)))
      (is_too_long (sum_by stack_of modules)) (first_passes (stack_after 0 modules) past)

  pub one_more :
      (code_start data_start code_size data_size more : ℕ) (new : List Linked) (one : Linked)
      → code_start ≡ start_after code object.code.alignment
      → data_start ≡ start_after data_before object.data_places.alignment
      → code_size ≡ length object.code.places → data_size ≡ length object.data_places.places
      → more ≡ object.stack_length
      → code_start + code_size ≤ 65535 → data_start + data_size ≤ 65535 → stack + more ≤ 65535
      → one.object ≡ object → one.start ≡ start_at code_start data_start → IsObjectModule object
      → new ≡ placed ++ one ∷ []
      → SoFar (code_start + code_size) (data_start + data_size) (stack + more) new
      (drop (i + 1) modules) modules
  one_more code_start data_start code_size data_size more new one a b c d e f g h same begins valid made =
      let next : Linked = linked_after code data_before object in
      let rest : List ObjectModule = drop (i + 1) modules in
      let code_is : code_start + code_size ≡ code_end next =
      ap (λ n. n + code_size) a ∙ ap (λ n. start_after code object.code.alignment + n) c in
      let data_is : data_start + data_size ≡ data_end next =
      ap (λ n. n + data_size) b ∙ ap (λ n. start_after data_before object.data_places.alignment + n) d in
      let start_is : one.start ≡ next.start =
      begins ∙ ap (λ n. start_at n data_start) a ∙ ap (start_at (start_after code object.code.alignment)) b in
      let one_is : one ≡ next = λ j. record { object = same j; start = start_is j } in
      record {
        code_limit = f;
        data_limit = g;
        stack_limit = h;
        code_rest =
            ap (λ n. code_after n (data_start + data_size) rest) code_is
            ∙ ap (λ n. code_after (code_end next) n rest) data_is
            ∙ sym (ap (code_after code data_before) left_is) ∙ known.code_rest;
        data_rest =
            ap (λ n. data_after n (data_start + data_size) rest) code_is
            ∙ ap (λ n. data_after (code_end next) n rest) data_is
            ∙ sym (ap (data_after code data_before) left_is) ∙ known.data_rest;
        stack_rest =
            ap (λ n. stack_after (stack + n) rest) e
            ∙ sym (ap (stack_after stack) left_is) ∙ known.stack_rest;
        placed_rest =
            ap (λ n. n ++ linked_from (code_start + code_size) (data_start + data_size) rest) made
            ∙ append_assoc placed (one ∷ [])
            (linked_from (code_start + code_size) (data_start + data_size) rest)
            ∙ ap (λ l. placed ++ l ∷ linked_from (code_start + code_size) (data_start + data_size) rest)
            one_is
            ∙ ap (λ n. placed ++ next ∷ linked_from n (data_start + data_size) rest) code_is
            ∙ ap (λ n. placed ++ next ∷ linked_from (code_end next) n rest) data_is
            ∙ sym (ap (λ left. placed ++ linked_from code data_before left) left_is)
            ∙ known.placed_rest;
        valid_rest =
            λ later. known.valid_rest (subst (AllByRecursion IsObjectModule) (sym left_is) (valid, later));
      }

-- at the end
module _ (code data_before stack : ℕ) (placed : List Linked) (modules : List ObjectModule) (i : ℕ)
    (known : SoFar code data_before stack placed (drop i modules) modules) (past : length modules ≤ i) where
  none_left : drop i modules ≡ []
  none_left = at_drop_all (λ (left : List ObjectModule). left) modules i past

  pub all_placed : placed ≡ linked_modules modules
  all_placed =
      sym (append-nil placed)
      ∙ sym (ap (λ left. placed ++ linked_from code data_before left) none_left)
      ∙ known.placed_rest

  pub all_valid : All IsObjectModule modules
  all_valid =
      All-from_recursion IsObjectModule modules
      (known.valid_rest (subst (AllByRecursion IsObjectModule) (sym none_left) tt))

  pub all_stacks : stack ≡ sum_by stack_of modules
  all_stacks = sym (ap (stack_after stack) none_left) ∙ known.stack_rest

  pub all_fit : some_segment_is_too_long modules (linked_modules modules) ≡ false
  all_fit =
      let c : code ≡ last_end code_end (linked_modules modules) =
      sym (ap (code_after code data_before) none_left) ∙ known.code_rest ∙ sym (all_code modules) in
      let d : data_before ≡ last_end data_end (linked_modules modules) =
      sym (ap (data_after code data_before) none_left) ∙ known.data_rest ∙ sym (all_data modules) in
      let s : stack ≡ stack_after 0 modules = sym (ap (stack_after stack) none_left) ∙ known.stack_rest in
      let code_limit : code ≤ 65535 = known.code_limit in
      let data_limit : data_before ≤ 65535 = known.data_limit in
      let stack_limit : stack ≤ 65535 = known.stack_limit in
      or_from (is_too_long (last_end code_end (linked_modules modules))
      || is_too_long (last_end data_end (linked_modules modules)))
      (is_too_long (sum_by stack_of modules))
      (or_from (is_too_long (last_end code_end (linked_modules modules)))
      (is_too_long (last_end data_end (linked_modules modules)))
      (le-ltb 65535 (last_end code_end (linked_modules modules)) (omega (arith, c, code_limit)))
      (le-ltb 65535 (last_end data_end (linked_modules modules)) (omega (arith, d, data_limit))))
      (le-ltb 65535 (stack_after 0 modules) (omega (arith, s, stack_limit)))
