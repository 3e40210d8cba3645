-- Writes one after another: what was written of all, and what is left to be written.
use Rattle.object_writing.proofs.Prelude.{◌≡◌, ℕ, List, [], ◌++◌, Option, refl, ap, sym, subst, ◌∙◌, append_assoc, append-nil, Appends, Appends-nil, Appends-trans, AppendsBeginning, beginning_after}

-- of all that is to be written, this is left
pub record HasWritten (old new : Option (List ℕ)) (left all : List ℕ) : Type 0 where
  pub done : List ℕ
  pub appended : Appends old new done
  pub split : all ≡ done ++ left

pub none_yet : (a : Option (List ℕ)) (all : List ℕ) → HasWritten a a all all
none_yet a all = record { done = []; appended = Appends-nil a; split = refl }

module _ (a b c : Option (List ℕ)) where
  pub part_written :
      (part left rest all : List ℕ) → HasWritten a b left all → left ≡ part ++ rest → Appends b c part
      → HasWritten a c rest all
  part_written part left rest all h e next = record {
    done = h.done ++ part;
    appended = Appends-trans a b c h.done part h.appended next;
    split = h.split ∙ ap (λ r. h.done ++ r) e ∙ sym (append_assoc h.done part rest);
  }

  pub part_begun :
      (part left rest all : List ℕ) → HasWritten a b left all → left ≡ part ++ rest
      → AppendsBeginning b c part
      → AppendsBeginning a c all
  part_begun part left rest all h e next =
      beginning_after a b c h.done part all rest (h.split ∙ ap (λ r. h.done ++ r) e) h.appended next

  pub last_written : (left all : List ℕ) → HasWritten a b left all → Appends b c left → Appends a c all
  last_written left all h next =
      subst (Appends a c) (sym h.split) (Appends-trans a b c h.done left h.appended next)

  pub last_begun :
      (left all : List ℕ) → HasWritten a b left all → AppendsBeginning b c left → AppendsBeginning a c all
  last_begun left all h next = part_begun left left [] all h (sym (append-nil left)) next

pub whole_appended : (a b : Option (List ℕ)) (left all : List ℕ) → HasWritten a b left all
    → left ≡ [] → Appends a b all
whole_appended a b left all h e =
    subst (Appends a b) (sym (h.split ∙ ap (λ r. h.done ++ r) e ∙ append-nil h.done)) h.appended

-- Two writes one after another, and three.
pub first_begun : (a b : Option (List ℕ)) (part rest : List ℕ) → AppendsBeginning a b part
    → AppendsBeginning a b (part ++ rest)
first_begun a b part rest (sent, begins, appended) =
    (sent, (begins.0 ++ rest, ap (λ l. l ++ rest) begins.1 ∙ append_assoc sent begins.0 rest), appended)

module _ (a b c : Option (List ℕ)) where
  pub second_begun :
      (part next rest : List ℕ) → Appends a b part → AppendsBeginning b c next
      → AppendsBeginning a c (part ++ (next ++ rest))
  second_begun part next rest = beginning_after a b c part next (part ++ (next ++ rest)) rest refl

  pub last_of_two_begun :
      (part next : List ℕ) → Appends a b part → AppendsBeginning b c next
      → AppendsBeginning a c (part ++ next)
  last_of_two_begun part next =
      beginning_after a b c part next (part ++ next) [] (ap (λ r. part ++ r) (sym (append-nil next)))

module _ (a b c d : Option (List ℕ)) where
  pub last_of_three_begun :
      (part next third : List ℕ) → Appends a b part → Appends b c next → AppendsBeginning c d third
      → AppendsBeginning a d (part ++ (next ++ third))
  last_of_three_begun part next third one two =
      beginning_after a c d (part ++ next) third (part ++ (next ++ third)) []
      (sym (append_assoc part next third) ∙ ap (λ r. (part ++ next) ++ r) (sym (append-nil third)))
      (Appends-trans a b c part next one two)

  pub three_written :
      (part next third : List ℕ) → Appends a b part → Appends b c next → Appends c d third
      → Appends a d (part ++ (next ++ third))
  three_written part next third one two last_one =
      Appends-trans a b d part (next ++ third) one (Appends-trans b c d next third two last_one)
