-- Writes one after the other, and a write that failed in between.
use Rattle.std.proofs.Common.{◌≡◌, ℕ, ◌+◌, List, ◌++◌, take, drop, Option, Result, Ok, Err, OnErr, sym, ap, subst, ◌∙◌, append_assoc}
use Rattle.std.proofs.Math.Seq.{take-add}
use Rattle.std.specs.Io.KnownBytes.{Appends, Keeps}
use Rattle.std.proofs.KnownBytes.{Appends-trans, Appends-kept}
use Rattle.failure.specs.Writing.{AppendsBeginning}

pub on_err : {T E : Type 0} (r : Result T E) (P : Type 0) → P → OnErr r P
on_err (Ok x) P p = tt
on_err (Err e) P p = p

module _ (a b c : Option (List ℕ)) where
  -- a part was written whole, and then a beginning of what follows it
  pub beginning_after : (done next all more : List ℕ) → all ≡ done ++ (next ++ more) → Appends a b done
      → AppendsBeginning b c next
      → AppendsBeginning a c all
  beginning_after done next all more e before (sent, begins, appended) =
      let whole : done ++ (next ++ more) ≡ (done ++ sent) ++ (begins.0 ++ more) =
      ap (λ l. done ++ (l ++ more)) begins.1 ∙ ap (λ l. done ++ l) (append_assoc sent begins.0 more)
      ∙ sym (append_assoc done sent (begins.0 ++ more)) in
      (done ++ sent, (begins.0 ++ more, e ∙ whole), Appends-trans a b c done sent before appended)

  -- a part was written whole, and then nothing more
  pub beginning_kept : (done rest all : List ℕ) → all ≡ done ++ rest → Appends a b done → Keeps b c
      → AppendsBeginning a c all
  beginning_kept done rest all e before kept = (done, (rest, e), Appends-kept a b c done before kept)

  -- the first i bytes were written, and then n more
  pub sent_more : (bytes next : List ℕ) (i n : ℕ) → next ≡ take n (drop i bytes)
      → Appends a b (take i bytes) → Appends b c next
      → Appends a c (take (i + n) bytes)
  sent_more bytes next i n e before after =
      let joined = ap (λ l. take i bytes ++ l) e ∙ sym (take-add i n bytes) in
      subst (Appends a c) joined (Appends-trans a b c (take i bytes) next before after)
