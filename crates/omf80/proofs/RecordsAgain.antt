-- What begins with the bytes of a record has no fault of records, and is read as that record.
use Rattle.omf80.proofs.Prelude.{◌≡◌, ℕ, suc, ◌+◌, ◌-◌, ◌*◌, ◌/◌, ◌%◌, ◌≤◌, Bool, false, not, ◌||◌, ◌==◌, nat_lt, List, [], ◌∷◌, ◌++◌, length, take, drop, sum, Some, None, is_none, slice_index, refl, ap, sym, subst, ◌∙◌, arith, eq-eqb, ne_eqb, le-ltb, length-append, append_assoc, take_at, drop_at, checksum_of, sum_with_last, BODY_LIMIT, Fault, Truncated, WrongSum, WrongLength, UnknownType, RecordKind, type_byte, kind_of_type, record_bytes, record_end, first_body, record_fault, first_that_holds}
use Rattle.omf80.specs.declared.kind.RecordKind.TheVariants.{Header, ExternalNames, Publics, Content, ExternalReferences, Relocation, IntersegmentReferences, ModuleEnd, EndOfFile}

pub kind_again : (kind : RecordKind) → kind_of_type (type_byte kind) ≡ Some kind
kind_again Header = refl
kind_again ExternalNames = refl
kind_again Publics = refl
kind_again Content = refl
kind_again ExternalReferences = refl
kind_again Relocation = refl
kind_again IntersegmentReferences = refl
kind_again ModuleEnd = refl
kind_again EndOfFile = refl

-- where a condition doesn't hold, and none of the others
none_of :
    {F : Type 0} (holds : Bool) (fault : F) (others : List (Bool × F)) → holds ≡ false
    → first_that_holds others ≡ None → first_that_holds ((holds, fault) ∷ others) ≡ None
none_of holds fault others e h = subst (λ b. first_that_holds ((b, fault) ∷ others) ≡ None) (sym e) h

-- what is read of a record with these bytes after it
pub record ReadAgain (kind : RecordKind) (body rest bytes : List ℕ) : Type 0 where
  pub no_fault : record_fault bytes ≡ None
  pub of_type : kind_of_type (slice_index bytes 0) ≡ Some kind
  pub body_is : first_body bytes ≡ body
  pub rest_is : drop (record_end bytes) bytes ≡ rest

abbrev spelled : RecordKind → List ℕ → List ℕ → List ℕ
spelled kind body rest =
    type_byte kind ∷ (length body + 1) % 256 ∷ (length body + 1) / 256 ∷
    ((body ++ checksum_of (type_byte kind ∷ (length body + 1) % 256 ∷ (length body + 1) / 256 ∷ body) ∷ [])
    ++ rest)

record_end_is : (kind : RecordKind) (body rest : List ℕ)
    → record_end (spelled kind body rest) ≡ suc (suc (suc (suc (length body))))
record_end_is kind body rest = omega arith

with_sum : (body : List ℕ) (last : ℕ) → length (body ++ last ∷ []) ≡ suc (length body)
with_sum body last =
    let l : length (body ++ last ∷ []) ≡ length body + length (last ∷ []) = length-append body (last ∷ []) in
    omega arith

read_spelled : (kind : RecordKind) (body rest : List ℕ) → length body ≤ BODY_LIMIT
    → ReadAgain kind body rest (spelled kind body rest)
unfolding record_fault
read_spelled kind body rest limit =
    let low : ℕ = (length body + 1) % 256 in
    let high : ℕ = (length body + 1) / 256 in
    let front : List ℕ = type_byte kind ∷ low ∷ high ∷ body in
    let last : ℕ = checksum_of front in
    let tail : List ℕ = (body ++ last ∷ []) ++ rest in
    let bytes : List ℕ = type_byte kind ∷ low ∷ high ∷ tail in
    let stated : ℕ = low + 256 * high in
    let stated_is : stated ≡ suc (length body) = omega arith in
    let end : record_end bytes ≡ suc (suc (suc (suc (length body)))) = record_end_is kind body rest in
    let before_last : record_end bytes - 1 ≡ suc (suc (suc (length body))) = omega arith in
    let longer : length tail ≡ length (body ++ last ∷ []) + length rest =
    length-append (body ++ last ∷ []) rest in
    let with_last : length (body ++ last ∷ []) ≡ suc (length body) = with_sum body last in
    let cut : take (suc (length body)) tail ≡ body ++ last ∷ [] =
    take_at (body ++ last ∷ []) rest (suc (length body)) with_last in
    let whole : take (record_end bytes) bytes ≡ front ++ last ∷ [] =
    ap (λ n. take n bytes) end ∙ ap (λ t. type_byte kind ∷ low ∷ high ∷ t) cut in
    let added : sum (front ++ last ∷ []) ≡ sum front + last = sum_with_last front last in
    let adds : sum (take (record_end bytes) bytes) % 256 ≡ 0 =
    ap (λ b. sum b % 256) whole ∙ (let z : sum (front ++ last ∷ []) % 256 ≡ 0 = omega arith in z) in
    let is_wrong : Bool = not (sum (take (record_end bytes) bytes) % 256 == 0) in
    let from_fifth : List (Bool × Fault) = (is_none (kind_of_type (type_byte kind)), UnknownType) ∷ [] in
    let from_fourth : List (Bool × Fault) = (is_wrong, WrongSum) ∷ from_fifth in
    let from_third : List (Bool × Fault) =
    (nat_lt (length bytes) (record_end bytes), Truncated) ∷ from_fourth in
    let from_second : List (Bool × Fault) = (stated == 0 || nat_lt 1028 stated, WrongLength) ∷ from_third in
    let fifth : first_that_holds from_fifth ≡ None =
    none_of (is_none (kind_of_type (type_byte kind))) UnknownType [] (ap is_none (kind_again kind)) refl in
    let fourth : first_that_holds from_fourth ≡ None =
    none_of is_wrong WrongSum from_fifth
    (ap not (eq-eqb (sum (take (record_end bytes) bytes) % 256) 0 adds)) fifth in
    let third : first_that_holds from_third ≡ None =
    none_of (nat_lt (length bytes) (record_end bytes)) Truncated from_fourth
    (le-ltb (length bytes) (record_end bytes) (omega arith)) fourth in
    let second : first_that_holds from_second ≡ None =
    none_of (stated == 0 || nat_lt 1028 stated) WrongLength from_third
    (ap (λ b. b || nat_lt 1028 stated) (ne_eqb stated 0 (λ e. omega arith))
    ∙ le-ltb 1028 stated (omega arith)) third in
    record {
      no_fault =
          none_of (nat_lt (length bytes) 3) Truncated from_second
          (le-ltb (length bytes) 3 (omega arith)) second;
      of_type = kind_again kind;
      body_is =
          ap (λ n. drop 3 (take n bytes)) before_last
          ∙ ap (take (length body)) (append_assoc body (last ∷ []) rest)
          ∙ take_at body (last ∷ rest) (length body) refl;
      rest_is = ap (λ n. drop n bytes) end ∙ drop_at (body ++ last ∷ []) rest (suc (length body)) with_last;
    }

pub read_again :
    (kind : RecordKind) (body rest : List ℕ) → length body ≤ BODY_LIMIT
    → ReadAgain kind body rest (record_bytes (type_byte kind) body ++ rest)
unfolding record_bytes
read_again kind body rest limit = read_spelled kind body rest limit
