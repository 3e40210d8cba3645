-- The bytes of a record, part by part.
use Rattle.omf80.proofs.Prelude.{◌≡◌, ℕ, ◌+◌, ◌%◌, ◌<◌, List, [], ◌∷◌, ◌++◌, length, sum, slice_index, Option, Result, Ok, Err, OnOk, OnErr, refl, ap, sym, subst, ◌∙◌, arith, append_assoc, append-nil, fold, Appends, Appends-trans, checksum_of, fold_append, word_bytes, record_bytes, beginning_after}
use Rattle.failure.specs.Writing.{AppendsBeginning}

-- the front of a record with a body of a size: its type and its length
abbrev pub heading_bytes : (type size : ℕ) → List ℕ
heading_bytes type size = type ∷ word_bytes (size + 1)

-- sums from a number on
abbrev pub sum_from : ℕ → List ℕ → ℕ
sum_from a [] = a
sum_from a (x ∷ xs) = sum_from (a + x) xs

sum_shifts : (xs : List ℕ) (a b : ℕ) → sum_from (a + b) xs ≡ a + sum_from b xs
sum_shifts [] a b = refl
sum_shifts (x ∷ xs) a b =
    ap (λ n. sum_from n xs) (let e : (a + b) + x ≡ a + (b + x) = omega arith in e) ∙ sum_shifts xs a (b + x)

sum_is : (xs : List ℕ) (a : ℕ) → fold (λ (b x : ℕ). b + x) a xs ≡ sum_from a xs
sum_is [] a = refl
sum_is (x ∷ xs) a = sum_is xs (a + x)

sum_append : (xs ys : List ℕ) → sum (xs ++ ys) ≡ sum xs + sum ys
sum_append xs ys =
    let shifted : sum_from (sum xs + 0) ys ≡ sum xs + sum_from 0 ys = sum_shifts ys (sum xs) 0 in
    fold_append xs ys 0 ∙ sum_is ys (sum xs)
    ∙ ap (λ n. sum_from n ys) (let e : sum xs ≡ sum xs + 0 = omega arith in e)
    ∙ shifted ∙ ap (λ n. sum xs + n) (sym (sum_is ys 0))

-- a record by its heading, its body and its checksum
pub record_is :
    (type last : ℕ) (body word : List ℕ) → word ≡ word_bytes (length body + 1) → last < 256
    → (sum (type ∷ slice_index word 0 ∷ slice_index word 1 ∷ []) + sum body + last) % 256 ≡ 0
    → record_bytes type body ≡ ((type ∷ slice_index word 0 ∷ slice_index word 1 ∷ []) ++ body) ++ last ∷ []
unfolding record_bytes
record_is type last body word is byte adds =
    let heading : List ℕ = type ∷ slice_index word 0 ∷ slice_index word 1 ∷ [] in
    let same : heading_bytes type (length body) ≡ heading =
    ap (λ w. type ∷ slice_index w 0 ∷ slice_index w 1 ∷ []) (sym is) in
    let whole : sum (heading ++ body) ≡ sum heading + sum body = sum_append heading body in
    let sum_is_last : checksum_of (heading ++ body) ≡ last = omega arith in
    ap (λ h. (h ++ body) ++ checksum_of (h ++ body) ∷ []) same
    ∙ ap (λ c. (heading ++ body) ++ c ∷ []) sum_is_last

pub on_ok_then : {T E : Type 0} (r : Result T E) (P Q : Type 0) → OnOk r P → (P → Q) → OnOk r Q
on_ok_then (Ok x) P Q p f = f p
on_ok_then (Err e) P Q p f = tt

pub on_err_then : {T E : Type 0} (r : Result T E) (P Q : Type 0) → OnErr r P → (P → Q) → OnErr r Q
on_err_then (Ok x) P Q p f = tt
on_err_then (Err e) P Q p f = f p

-- a record written part by part, whole or up to a part
module _ (a b c d : Option (List ℕ)) where
  pub record_written :
      (heading body last whole : List ℕ) → whole ≡ (heading ++ body) ++ last
      → Appends a b heading → Appends b c body → Appends c d last → Appends a d whole
  record_written heading body last whole e first second third =
      subst (Appends a d) (sym e)
      (Appends-trans a c d (heading ++ body) last (Appends-trans a b c heading body first second) third)

  pub heading_begun :
      (heading body last whole : List ℕ) → whole ≡ (heading ++ body) ++ last
      → AppendsBeginning a b heading → AppendsBeginning a b whole
  heading_begun heading body last whole e (sent, begins, appended) = (
    sent,
    (
      begins.0 ++ (body ++ last),
      e ∙ append_assoc heading body last ∙ ap (λ h. h ++ (body ++ last)) begins.1
          ∙ append_assoc sent begins.0 (body ++ last),
    ),
    appended,
  )

  pub body_begun :
      (heading body last whole : List ℕ) → whole ≡ (heading ++ body) ++ last
      → Appends a b heading → AppendsBeginning b c body → AppendsBeginning a c whole
  body_begun heading body last whole e first second =
      beginning_after a b c heading body whole last (e ∙ append_assoc heading body last) first second

  pub last_begun :
      (heading body last whole : List ℕ) → whole ≡ (heading ++ body) ++ last
      → Appends a b heading → Appends b c body → AppendsBeginning c d last → AppendsBeginning a d whole
  last_begun heading body last whole e first second third =
      beginning_after a c d (heading ++ body) last whole []
      (e ∙ ap (λ l. (heading ++ body) ++ l) (sym (append-nil last)))
      (Appends-trans a b c heading body first second) third
