-- Texts that are added step by step.
use Rattle.listings.proofs.Prelude.{◌≡◌, ℕ, suc, ◌-◌, ◌≤◌, List, [], ◌∷◌, ◌++◌, Result, Ok, Err, OnOk, drop, get_or, length, take, ap, sym, subst, ◌∙◌, arith, append-nil, append_assoc, take_all, Adds, IsBegun}

pub text_begun : {A : Type 0} (IsText : A → List ℕ → Type 0) (all : A) (old : List ℕ)
    → IsBegun IsText all all old old
text_begun IsText all old = record { text = []; added = sym (append-nil old); with_rest = λ more is. is }

pub gone_on : {A : Type 0} (IsText : A → List ℕ → Type 0) (all left next : A) (old now new first : List ℕ)
    → IsBegun IsText all left old now → new ≡ now ++ first
    → ((more : List ℕ) → IsText next more → IsText left (first ++ more)) → IsBegun IsText all next old new
gone_on IsText all left next old now new first so_far is step = record {
  text = so_far.text ++ first;
  added = is ∙ ap (λ (xs : List ℕ). xs ++ first) so_far.added ∙ append_assoc old so_far.text first;
  with_rest = λ (more : List ℕ) (rest : IsText next more).
      subst (IsText all) (sym (append_assoc so_far.text first more))
      (so_far.with_rest (first ++ more) (step more rest));
}

pub text_ended : {A : Type 0} (IsText : A → List ℕ → Type 0) (all left : A) (old now : List ℕ)
    → IsBegun IsText all left old now → IsText left [] → Adds (IsText all) old now
text_ended IsText all left old now so_far none = record {
  text = so_far.text;
  holds = subst (IsText all) (append-nil so_far.text) (so_far.with_rest [] none);
  added = so_far.added;
}

-- what a slice that is not empty begins with, and what comes after it
pub split_first : {A : Type 0} (left : List A) (x d : A) → 1 ≤ length left → x ≡ get_or left 0 d
    → left ≡ x ∷ take (length left - 1) (drop 1 left)
split_first [] x d some is = absurd (omega (arith, some))
split_first (y ∷ ys) x d some is =
    let count : length ys ≡ suc (length ys) - 1 = omega arith in
    ap (λ first. first ∷ ys) (sym is) ∙ ap (λ others. x ∷ others)
    (sym (take_all (length ys) ys (omega arith)) ∙ ap (λ (n : ℕ). take n ys) count)

-- what holds where all went well
pub weaken_on_ok : {T E : Type 0} (result : Result T E) (P Q : Type 0) → (P → Q)
    → OnOk result P → OnOk result Q
weaken_on_ok (Ok value) P Q so holds = so holds
weaken_on_ok (Err fault) P Q so holds = holds
