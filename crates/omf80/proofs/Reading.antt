-- The fault of the record that bytes begin with, condition by condition, and the record where there is none.
use Rattle.omf80.proofs.Prelude.{◌≡◌, ℕ, zero, suc, ◌-◌, ◌%◌, ◌<◌, ◌≤◌, Bool, true, false, not, ◌||◌, ◌==◌, nat_lt, List, [], ◌∷◌, ◌++◌, length, take, drop, sum, Some, None, is_none, slice_index, refl, ap, sym, subst, ◌∙◌, arith, lt-ltb, le-ltb, eq-eqb, ne_eqb, length-drop, Fault, Truncated, WrongSum, WrongLength, UnknownType, RecordKind, BeginsWith, type_byte, kind_of_type, stated_length, record_bytes, record_end, first_body, record_fault, first_that_holds, same_Some}
use Rattle.omf80.proofs.Conditions.{IsBytes}
use Rattle.omf80.proofs.RecordLaws.{begins}

hit : {F : Type 0} (holds : Bool) (fault : F) (others : List (Bool × F)) → holds ≡ true
    → first_that_holds ((holds, fault) ∷ others) ≡ Some fault
hit holds fault others e = ap (λ b. first_that_holds ((b, fault) ∷ others)) e

skip : {F : Type 0} (holds : Bool) (fault : F) (others : List (Bool × F)) → holds ≡ false
    → first_that_holds ((holds, fault) ∷ others) ≡ first_that_holds others
skip holds fault others e = ap (λ b. first_that_holds ((b, fault) ∷ others)) e

abbrev from_fifth : List ℕ → List (Bool × Fault)
from_fifth bytes = (is_none (kind_of_type (slice_index bytes 0)), UnknownType) ∷ []

abbrev from_fourth : List ℕ → List (Bool × Fault)
from_fourth bytes = (not (sum (take (record_end bytes) bytes) % 256 == 0), WrongSum) ∷ from_fifth bytes

abbrev from_third : List ℕ → List (Bool × Fault)
from_third bytes = (nat_lt (length bytes) (record_end bytes), Truncated) ∷ from_fourth bytes

abbrev from_second : List ℕ → List (Bool × Fault)
from_second bytes =
    (stated_length bytes == 0 || nat_lt 1028 (stated_length bytes), WrongLength) ∷ from_third bytes

-- what the conditions after some that don't hold give
after_first : (bytes : List ℕ) → 3 ≤ length bytes → record_fault bytes ≡ first_that_holds (from_second bytes)
unfolding record_fault
after_first bytes h = skip (nat_lt (length bytes) 3) Truncated (from_second bytes) (le-ltb (length bytes) 3 h)

after_second :
    (bytes : List ℕ) → 3 ≤ length bytes → 0 < stated_length bytes → stated_length bytes ≤ 1028
    → record_fault bytes ≡ first_that_holds (from_third bytes)
after_second bytes h some limit =
    let not_0 : (stated_length bytes == 0) ≡ false = ne_eqb (stated_length bytes) 0 (λ e. omega arith) in
    after_first bytes h
    ∙ skip (stated_length bytes == 0 || nat_lt 1028 (stated_length bytes)) WrongLength (from_third bytes)
    (ap (λ b. b || nat_lt 1028 (stated_length bytes)) not_0 ∙ le-ltb 1028 (stated_length bytes) limit)

after_third :
    (bytes : List ℕ) → 3 ≤ length bytes → 0 < stated_length bytes → stated_length bytes ≤ 1028
    → record_end bytes ≤ length bytes → record_fault bytes ≡ first_that_holds (from_fourth bytes)
after_third bytes h some limit fits =
    after_second bytes h some limit
    ∙ skip (nat_lt (length bytes) (record_end bytes)) Truncated (from_fourth bytes)
    (le-ltb (length bytes) (record_end bytes) fits)

after_fourth :
    (bytes : List ℕ) → 3 ≤ length bytes → 0 < stated_length bytes → stated_length bytes ≤ 1028
    → record_end bytes ≤ length bytes → sum (take (record_end bytes) bytes) % 256 ≡ 0
    → record_fault bytes ≡ first_that_holds (from_fifth bytes)
after_fourth bytes h some limit fits adds =
    after_third bytes h some limit fits
    ∙ skip (not (sum (take (record_end bytes) bytes) % 256 == 0)) WrongSum (from_fifth bytes)
    (ap not (eq-eqb (sum (take (record_end bytes) bytes) % 256) 0 adds))

pub too_short : (bytes : List ℕ) → length bytes < 3 → record_fault bytes ≡ Some Truncated
unfolding record_fault
too_short bytes h = hit (nat_lt (length bytes) 3) Truncated (from_second bytes) (lt-ltb (length bytes) 3 h)

pub no_length : (bytes : List ℕ) → 3 ≤ length bytes → stated_length bytes ≡ 0
    → record_fault bytes ≡ Some WrongLength
no_length bytes h none =
    after_first bytes h
    ∙ hit (stated_length bytes == 0 || nat_lt 1028 (stated_length bytes)) WrongLength (from_third bytes)
    (ap (λ b. b || nat_lt 1028 (stated_length bytes)) (eq-eqb (stated_length bytes) 0 none))

pub too_long : (bytes : List ℕ) → 3 ≤ length bytes → 1028 < stated_length bytes
    → record_fault bytes ≡ Some WrongLength
too_long bytes h long =
    let not_0 : (stated_length bytes == 0) ≡ false = ne_eqb (stated_length bytes) 0 (λ e. omega arith) in
    after_first bytes h
    ∙ hit (stated_length bytes == 0 || nat_lt 1028 (stated_length bytes)) WrongLength (from_third bytes)
    (ap (λ b. b || nat_lt 1028 (stated_length bytes)) not_0 ∙ lt-ltb 1028 (stated_length bytes) long)

pub cut_off :
    (bytes : List ℕ) → 3 ≤ length bytes → 0 < stated_length bytes → stated_length bytes ≤ 1028
    → length bytes < record_end bytes → record_fault bytes ≡ Some Truncated
cut_off bytes h some limit cut =
    after_second bytes h some limit
    ∙ hit (nat_lt (length bytes) (record_end bytes)) Truncated (from_fourth bytes)
    (lt-ltb (length bytes) (record_end bytes) cut)

pub wrong_sum :
    (bytes : List ℕ) → 3 ≤ length bytes → 0 < stated_length bytes → stated_length bytes ≤ 1028
    → record_end bytes ≤ length bytes → (sum (take (record_end bytes) bytes) % 256 ≡ 0 → ⊥)
    → record_fault bytes ≡ Some WrongSum
wrong_sum bytes h some limit fits other =
    after_third bytes h some limit fits
    ∙ hit (not (sum (take (record_end bytes) bytes) % 256 == 0)) WrongSum (from_fifth bytes)
    (ap not (ne_eqb (sum (take (record_end bytes) bytes) % 256) 0 other))

pub unknown_type :
    (bytes : List ℕ) → 3 ≤ length bytes → 0 < stated_length bytes → stated_length bytes ≤ 1028
    → record_end bytes ≤ length bytes → sum (take (record_end bytes) bytes) % 256 ≡ 0
    → kind_of_type (slice_index bytes 0) ≡ None → record_fault bytes ≡ Some UnknownType
unknown_type bytes h some limit fits adds unknown =
    after_fourth bytes h some limit fits adds
    ∙ hit (is_none (kind_of_type (slice_index bytes 0))) UnknownType [] (ap is_none unknown)

pub no_record_fault :
    (bytes : List ℕ) (kind : RecordKind) → 3 ≤ length bytes → 0 < stated_length bytes
    → stated_length bytes ≤ 1028
    → record_end bytes ≤ length bytes → sum (take (record_end bytes) bytes) % 256 ≡ 0
    → kind_of_type (slice_index bytes 0) ≡ Some kind → record_fault bytes ≡ None
no_record_fault bytes kind h some limit fits adds known =
    after_fourth bytes h some limit fits adds
    ∙ skip (is_none (kind_of_type (slice_index bytes 0))) UnknownType [] (ap is_none known)

-- bytes of a slice
pub are_bytes : (bytes : List ℕ) → ((k : ℕ) → slice_index bytes k < 256) → IsBytes bytes
are_bytes [] each = tt
are_bytes (byte ∷ others) each = (each zero, are_bytes others (λ k. each (suc k)))

-- bytes without a fault of records begin with the record that is read
pub begins_with :
    (bytes : List ℕ) (kind : RecordKind) → ((k : ℕ) → slice_index bytes k < 256) → record_fault bytes ≡ None
    → kind_of_type (slice_index bytes 0) ≡ Some kind
    → BeginsWith bytes (record { kind = kind; body = first_body bytes }) (drop (record_end bytes) bytes)
begins_with bytes kind each none known =
    let b = begins bytes (are_bytes bytes each) none in
    let same : b.kind ≡ kind = same_Some b.kind kind (sym b.of_type ∙ known) in
    record {
      limit = b.long;
      spelled =
          b.spelled
          ∙ ap (λ k. record_bytes (type_byte k) (first_body bytes) ++ drop (record_end bytes) bytes) same;
    }

middle : (n : ℕ) (xs : List ℕ) → drop 3 (take (suc (suc (suc n))) xs) ≡ take n (drop 3 xs)
middle zero [] = refl
middle (suc n) [] = refl
middle zero (x ∷ []) = refl
middle (suc n) (x ∷ []) = refl
middle zero (x ∷ y ∷ []) = refl
middle (suc n) (x ∷ y ∷ []) = refl
middle n (x ∷ y ∷ z ∷ xs) = refl

all_taken : (n : ℕ) (xs : List ℕ) → length xs ≤ n → take n xs ≡ xs
all_taken zero [] h = refl
all_taken (suc n) [] h = refl
all_taken zero (x ∷ xs) h = absurd (omega arith)
all_taken (suc n) (x ∷ xs) h = ap (λ l. x ∷ l) (all_taken n xs (omega arith))

-- the same, by the parts of the bytes that the code takes
pub begins_as :
    (bytes body rest : List ℕ) (kind : RecordKind) (end : ℕ) → ((k : ℕ) → slice_index bytes k < 256)
    → record_fault bytes ≡ None → kind_of_type (slice_index bytes 0) ≡ Some kind → end ≡ record_end bytes
    → end ≤ length bytes → 4 ≤ end → body ≡ take (end - 1 - 3) (drop 3 bytes)
    → rest ≡ take (length bytes - end) (drop end bytes)
    → BeginsWith bytes (record { kind = kind; body = body }) rest
begins_as bytes body rest kind end each none known end_is within some body_is rest_is =
    let size : ℕ = end - 4 in
    let before_last : record_end bytes - 1 ≡ suc (suc (suc size)) = omega arith in
    let inner : end - 1 - 3 ≡ size = omega arith in
    let first : first_body bytes ≡ body =
    ap (λ n. drop 3 (take n bytes)) before_last ∙ middle size bytes
    ∙ sym (body_is ∙ ap (λ n. take n (drop 3 bytes)) inner) in
    let left : length (drop end bytes) ≤ length bytes - end = omega (arith, length-drop end bytes) in
    let after : drop (record_end bytes) bytes ≡ rest =
    ap (λ n. drop n bytes) (sym end_is)
    ∙ sym (rest_is ∙ all_taken (length bytes - end) (drop end bytes) left) in
    let b = begins_with bytes kind each none known in
    subst (λ r. BeginsWith bytes (record { kind = kind; body = body }) r) after
    (subst (λ f. BeginsWith bytes (record { kind = kind; body = f }) (drop (record_end bytes) bytes)) first b)
