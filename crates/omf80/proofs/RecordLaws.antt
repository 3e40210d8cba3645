-- Bytes without a fault of records begin with a record.
use Rattle.omf80.proofs.Prelude.{◌≡◌, ℕ, zero, suc, ◌+◌, ◌-◌, ◌*◌, ◌%◌, ◌<◌, ◌≤◌, min, Bool, true, false, not, ◌||◌, ◌==◌, nat_lt, List, [], ◌∷◌, ◌++◌, length, take, drop, sum, Option, Some, None, is_none, slice_index, refl, ap, sym, subst, ◌∙◌, arith, eqb-true, eqb-false, ltb-false, not-false, length-take, length-drop, append_assoc, BODY_LIMIT, Fault, Truncated, WrongSum, WrongLength, UnknownType, RecordKind, type_byte, kinds, kind_of_type, word_bytes, record_bytes, record_end, first_body, record_fault, checksum_of, checksum_is, or_parts, bytes_take, bytes_drop}
use Rattle.omf80.proofs.Conditions.{IsBytes, find_passes, none_holds, word_is}

-- a list that is longer than a number: the items before it, the item there, and those after it
pub record Split (xs : List ℕ) (n : ℕ) : Type 0 where
  pub item : ℕ
  pub before : take (suc n) xs ≡ take n xs ++ item ∷ []
  pub whole : xs ≡ take n xs ++ item ∷ drop (suc n) xs
  pub is_byte : IsBytes xs → item < 256

split : (xs : List ℕ) (n : ℕ) → n < length xs → Split xs n
split [] n h = absurd (omega arith)
split (x ∷ xs) zero h = record { item = x; before = refl; whole = refl; is_byte = λ all. all.0 }
split (x ∷ xs) (suc n) h =
    let others = split xs n (omega arith) in
    record {
      item = others.item;
      before = ap (λ r. x ∷ r) others.before;
      whole = ap (λ r. x ∷ r) others.whole;
      is_byte = λ all. others.is_byte all.1;
    }

-- what bytes without a fault of records begin with
pub record Begins (bytes : List ℕ) : Type 0 where
  pub kind : RecordKind
  pub of_type : kind_of_type (slice_index bytes 0) ≡ Some kind
  pub long : length (first_body bytes) ≤ BODY_LIMIT
  pub spelled : bytes ≡ record_bytes (type_byte kind) (first_body bytes) ++ drop (record_end bytes) bytes
  pub all_bytes : IsBytes (first_body bytes)
  pub rest_bytes : IsBytes (drop (record_end bytes) bytes)
  pub shorter : length (drop (record_end bytes) bytes) < length bytes

kind_there : (o : Option RecordKind) → is_none o ≡ false → (kind : RecordKind) × (o ≡ Some kind)
kind_there None h = absurd (let bad : true ≡ false = h in cc)
kind_there (Some kind) h = (kind, refl)

-- the same, by the parts of the bytes
begins_at :
    (type low high m : ℕ) (tail : List ℕ) (kind : RecordKind)
    → IsBytes (type ∷ low ∷ high ∷ tail) → low + 256 * high ≡ suc m → suc m ≤ 1028 → suc m ≤ length tail
    → sum (take (suc (suc (suc (suc m)))) (type ∷ low ∷ high ∷ tail)) % 256 ≡ 0
    → kind_of_type type ≡ Some kind
    → Begins (type ∷ low ∷ high ∷ tail)
unfolding record_bytes
begins_at type low high m tail kind all stated limit fits adds found =
    let bytes : List ℕ = type ∷ low ∷ high ∷ tail in
    let s = split tail m (omega arith) in
    let end : record_end bytes ≡ suc (suc (suc (suc m))) = omega arith in
    let last : record_end bytes - 1 ≡ suc (suc (suc m)) = omega arith in
    let body : first_body bytes ≡ take m tail = ap (λ n. drop 3 (take n bytes)) last in
    let rest : drop (record_end bytes) bytes ≡ drop (suc m) tail = ap (λ n. drop n bytes) end in
    let cut : length (take m tail) ≡ min m (length tail) = length-take m tail in
    let long : length (take m tail) ≡ m = omega arith in
    let front : List ℕ = type ∷ low ∷ high ∷ take m tail in
    let whole : sum (front ++ s.item ∷ []) % 256 ≡ 0 =
    ap (λ r. sum (type ∷ low ∷ high ∷ r) % 256) (sym s.before) ∙ adds in
    let sum_is : s.item ≡ checksum_of front = checksum_is front s.item (s.is_byte all.1.1.1) whole in
    let type_is : type_byte kind ≡ type =
    eqb-true (type_byte kind) type (find_passes (λ k. type_byte k == type) kinds kind found) in
    let word : word_bytes (length (take m tail) + 1) ≡ low ∷ high ∷ [] =
    ap word_bytes (let w : length (take m tail) + 1 ≡ low + 256 * high = omega arith in w)
    ∙ word_is low high all.1.0 all.1.1.0 in
    let made : record_bytes (type_byte kind) (take m tail) ≡ front ++ s.item ∷ [] =
    ap (λ t. record_bytes t (take m tail)) type_is
    ∙ ap (λ w. (type ∷ w ++ take m tail) ++ checksum_of (type ∷ w ++ take m tail) ∷ []) word
    ∙ ap (λ c. front ++ c ∷ []) (sym sum_is) in
    record {
      kind = kind;
      of_type = found;
      long = subst (λ b. length b ≤ BODY_LIMIT) (sym body) (omega arith);
      spelled =
          ap (λ t. type ∷ low ∷ high ∷ t) s.whole
          ∙ sym (append_assoc front (s.item ∷ []) (drop (suc m) tail))
          ∙ ap (λ f. f ++ drop (suc m) tail) (sym made)
          ∙ ap (λ b. record_bytes (type_byte kind) b ++ drop (suc m) tail) (sym body)
          ∙ ap (λ r. record_bytes (type_byte kind) (first_body bytes) ++ r) (sym rest);
      all_bytes = subst IsBytes (sym body) (bytes_take m tail all.1.1.1);
      rest_bytes = subst IsBytes (sym rest) (bytes_drop (suc m) tail all.1.1.1);
      shorter = subst (λ r. length r < length bytes) (sym rest) (omega (arith, length-drop (suc m) tail));
    }

pub begins : (bytes : List ℕ) → IsBytes bytes → record_fault bytes ≡ None → Begins bytes
unfolding record_fault
begins [] all h = absurd (let bad : Some Truncated ≡ None = h in cc)
begins (a ∷ []) all h = absurd (let bad : Some Truncated ≡ None = h in cc)
begins (a ∷ b ∷ []) all h = absurd (let bad : Some Truncated ≡ None = h in cc)
begins (type ∷ low ∷ high ∷ tail) all h =
    let bytes : List ℕ = type ∷ low ∷ high ∷ tail in
    let stated : ℕ = low + 256 * high in
    let is_wrong : Bool = not (sum (take (record_end bytes) bytes) % 256 == 0) in
    let from_fifth : List (Bool × Fault) = (is_none (kind_of_type type), UnknownType) ∷ [] in
    let from_fourth : List (Bool × Fault) = (is_wrong, WrongSum) ∷ from_fifth in
    let from_third : List (Bool × Fault) =
    (nat_lt (length bytes) (record_end bytes), Truncated) ∷ from_fourth in
    let from_second : List (Bool × Fault) = (stated == 0 || nat_lt 1028 stated, WrongLength) ∷ from_third in
    let first = none_holds (nat_lt (length bytes) 3) Truncated from_second h in
    let second = none_holds (stated == 0 || nat_lt 1028 stated) WrongLength from_third first.1 in
    let third = none_holds (nat_lt (length bytes) (record_end bytes)) Truncated from_fourth second.1 in
    let fourth = none_holds is_wrong WrongSum from_fifth third.1 in
    let fifth = none_holds (is_none (kind_of_type type)) UnknownType [] fourth.1 in
    let limits = or_parts (stated == 0) (nat_lt 1028 stated) second.0 in
    let positive : stated ≡ 0 → ⊥ = eqb-false stated 0 limits.0 in
    let limit : stated ≤ 1028 = ltb-false 1028 stated limits.1 in
    let fits : record_end bytes ≤ length bytes = ltb-false (length bytes) (record_end bytes) third.0 in
    let adds : sum (take (record_end bytes) bytes) % 256 ≡ 0 =
    eqb-true (sum (take (record_end bytes) bytes) % 256) 0
    (not-false (sum (take (record_end bytes) bytes) % 256 == 0) fourth.0) in
    let kind = kind_there (kind_of_type type) fifth.0 in
    go stated refl positive limit fits adds kind
  where
    go : (n : ℕ) → low + 256 * high ≡ n → (low + 256 * high ≡ 0 → ⊥) → low + 256 * high ≤ 1028
        → record_end (type ∷ low ∷ high ∷ tail) ≤ length (type ∷ low ∷ high ∷ tail)
        → sum (take (record_end (type ∷ low ∷ high ∷ tail)) (type ∷ low ∷ high ∷ tail)) % 256 ≡ 0
        → (kind : RecordKind) × (kind_of_type type ≡ Some kind)
        → Begins (type ∷ low ∷ high ∷ tail)
    go zero is positive limit fits adds kind = absurd (positive is)
    go (suc m) is positive limit fits adds kind =
        let end : record_end (type ∷ low ∷ high ∷ tail) ≡ suc (suc (suc (suc m))) = omega arith in
        begins_at type low high m tail kind.0 all is (omega arith) (omega arith)
        (ap (λ n. sum (take n (type ∷ low ∷ high ∷ tail)) % 256) (sym end) ∙ adds) kind.1
