-- What a claim of bytes one after another says of the table.
use Rattle.placing.proofs.Prelude.{◌≡◌, ℕ, zero, suc, ◌+◌, ◌-◌, ◌<◌, ◌≤◌, Bool, true, false, ◌&&◌, List, length, get_or, set, Some, None, if◌then◌else◌, refl, ap, sym, subst, ◌∙◌, arith, ⊎_elim, cases_eq, length-set, get_or-set_same, get_or-set_other, claim_bytes, claim_between, are_claimed, claimed_between}

-- the bytes from an address up to another were free, and are all that was added
pub record BytesClaimed (start end : ℕ) (before after : List Bool) : Type 0 where
  pub same_length : length after ≡ length before
  pub free : (a : ℕ) → start ≤ a → a < end → get_or before a false ≡ false
  pub marked : (a : ℕ) → start ≤ a → a < end → get_or after a false ≡ true
  pub below : (a : ℕ) → a < start → get_or after a false ≡ get_or before a false
  pub above : (a : ℕ) → end ≤ a → get_or after a false ≡ get_or before a false

same_table : (before after : List Bool) → Some before ≡ Some after → before ≡ after
same_table before after is = cc

no_claim : (start : ℕ) (before after : List Bool) → before ≡ after → BytesClaimed start start before after
no_claim start before after same = record {
  same_length = sym (ap length same);
  free = λ a low high. absurd (omega arith);
  marked = λ a low high. absurd (omega arith);
  below = λ a low. sym (ap (λ table. get_or table a false) same);
  above = λ a high. sym (ap (λ table. get_or table a false) same);
}

first_claim :
    (start end : ℕ) (before after : List Bool)
    → start < length before
    → start < end
    → get_or before start false ≡ false
    → BytesClaimed (suc start) end (set before start true) after
    → BytesClaimed start end before after
first_claim start end before after within some free rest =
    let other : (a : ℕ) → (a ≡ start → ⊥) → get_or (set before start true) a false ≡ get_or before a false =
    λ (a : ℕ) (apart : a ≡ start → ⊥). get_or-set_other before start a true false apart in
    record {
      same_length = rest.same_length ∙ length-set before start true;
      free = λ a low high. ⊎_elim
          (λ (at : a ≡ start). ap (λ n. get_or before n false) at ∙ free)
          (λ (apart : a ≡ start → ⊥). sym (other a apart) ∙ rest.free a (omega (arith, apart)) high)
          (cases_eq a start);
      marked = λ a low high. ⊎_elim
          (λ (at : a ≡ start). ap (λ n. get_or after n false) at ∙ rest.below start (omega arith)
          ∙ get_or-set_same before start true false within)
          (λ (apart : a ≡ start → ⊥). rest.marked a (omega (arith, apart)) high)
          (cases_eq a start);
      below = λ a low. rest.below a (omega arith) ∙ other a (λ at. omega (arith, at));
      above = λ a high. rest.above a high ∙ other a (λ at. omega (arith, at));
    }

bytes_first :
    (count start : ℕ) (before after : List Bool)
    → start + suc count ≤ length before
    → (claim_bytes count (suc start) (set before start true) ≡ Some after
    → BytesClaimed (suc start) (suc start + count) (set before start true) after)
    → (taken : Bool)
    → get_or before start false ≡ taken
    → (if taken then None else claim_bytes count (suc start) (set before start true)) ≡ Some after
    → BytesClaimed start (start + suc count) before after
bytes_first count start before after within others true taken some = absurd (cc)
bytes_first count start before after within others false free some =
    let moved : suc start + count ≡ start + suc count = omega arith in
    let rest : BytesClaimed (suc start) (suc start + count) (set before start true) after = others some in
    first_claim start (start + suc count) before after (omega arith) (omega arith) free
    (subst (λ end. BytesClaimed (suc start) end (set before start true) after) moved rest)

pub bytes_claimed :
    (count start : ℕ) (before after : List Bool)
    → start + count ≤ length before
    → claim_bytes count start before ≡ Some after
    → BytesClaimed start (start + count) before after
bytes_claimed zero start before after within is =
    let none : start + 0 ≡ start = omega arith in
    rw none (no_claim start before after (same_table before after is))
bytes_claimed (suc count) start before after within is =
    bytes_first count start before after within
    (bytes_claimed count (suc start) (set before start true) after
    (omega (arith, length-set before start true)))
    (get_or before start false) refl is

-- free bytes can be claimed
pub bytes_can :
    (count start : ℕ) (before : List Bool)
    → start + count ≤ length before
    → ((a : ℕ) → start ≤ a → a < start + count → get_or before a false ≡ false)
    → (after : List Bool) × (claim_bytes count start before ≡ Some after)
bytes_can zero start before within free = (before, refl)
bytes_can (suc count) start before within free =
    let here : get_or before start false ≡ false = free start (omega arith) (omega arith) in
    let rest = bytes_can count (suc start) (set before start true)
    (omega (arith, length-set before start true))
    (λ a low high. get_or-set_other before start a true false (λ at. omega (arith, at))
    ∙ free a (omega arith) (omega arith)) in
    (rest.0, ap (λ (taken : Bool). if taken then None else claim_bytes count (suc start) (set before start true)) here ∙ rest.1)

pub between_claimed :
    (start end : ℕ) (before after : List Bool)
    → start ≤ end
    → end ≤ length before
    → claim_between start end before ≡ Some after
    → BytesClaimed start end before after
unfolding claim_between
between_claimed start end before after some within is =
    let whole : start + (end - start) ≡ end = omega arith in
    let claimed : BytesClaimed start (start + (end - start)) before after =
    bytes_claimed (end - start) start before after (omega arith) is in
    rw whole at claimed

pub between_can :
    (start end : ℕ) (before : List Bool)
    → start ≤ end
    → end ≤ length before
    → ((a : ℕ) → start ≤ a → a < end → get_or before a false ≡ false)
    → (after : List Bool) × (claim_between start end before ≡ Some after)
unfolding claim_between
between_can start end before some within free =
    bytes_can (end - start) start before (omega arith) (λ a low high. free a low (omega arith))

-- whether bytes are claimed
first_claimed :
    (start : ℕ) (table : List Bool) (others : Bool) (a : ℕ)
    → (others ≡ true → (a ≡ start → ⊥) → get_or table a false ≡ true)
    → (taken : Bool)
    → get_or table start false ≡ taken
    → (taken && others) ≡ true
    → get_or table a false ≡ true
first_claimed start table others a rest false free none = absurd (cc)
first_claimed start table others a rest true taken all =
    ⊎_elim
    (λ (at : a ≡ start). ap (λ n. get_or table n false) at ∙ taken)
    (λ (apart : a ≡ start → ⊥). rest all apart)
    (cases_eq a start)

all_claimed :
    (count start : ℕ) (table : List Bool)
    → are_claimed count start table ≡ true
    → (a : ℕ)
    → start ≤ a
    → a < start + count
    → get_or table a false ≡ true
all_claimed zero start table is a low high = absurd (omega arith)
all_claimed (suc count) start table is a low high =
    first_claimed start table (are_claimed count (suc start) table) a
    (λ others apart. all_claimed count (suc start) table others a (omega (arith, apart)) (omega arith))
    (get_or table start false) refl is

each_claimed :
    (count start : ℕ) (table : List Bool)
    → ((a : ℕ) → start ≤ a → a < start + count → get_or table a false ≡ true)
    → are_claimed count start table ≡ true
each_claimed zero start table each = refl
each_claimed (suc count) start table each =
    ap (λ (taken : Bool). taken && are_claimed count (suc start) table)
    (each start (omega arith) (omega arith))
    ∙ each_claimed count (suc start) table (λ a low high. each a (omega arith) (omega arith))

pub between_all :
    (start end : ℕ) (table : List Bool)
    → claimed_between start end table ≡ true
    → (a : ℕ)
    → start ≤ a
    → a < end
    → get_or table a false ≡ true
unfolding claimed_between
between_all start end table is a low high = all_claimed (end - start) start table is a low (omega arith)

pub between_each :
    (start end : ℕ) (table : List Bool)
    → ((a : ℕ) → start ≤ a → a < end → get_or table a false ≡ true)
    → claimed_between start end table ≡ true
unfolding claimed_between
between_each start end table each = each_claimed (end - start) start table (λ a low high. each a low (omega arith))
