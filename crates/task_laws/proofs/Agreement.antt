-- Tests that agree.
use Rattle.task_laws.proofs.Prelude.{Bool, agree, false, not, refl, sym, true, ◌≡◌}

pub agreeing : (one other : Bool) → agree one other ≡ true → one ≡ other
agreeing true true same = refl
agreeing false false same = refl
agreeing true false same = sym same
agreeing false true same = same

pub disagreeing : (one other : Bool) → agree one other ≡ false → one ≡ not other
disagreeing true true same = same
disagreeing true false same = refl
disagreeing false true same = refl
disagreeing false false same = sym same

pub agree_true : (b : Bool) → agree b true ≡ b
agree_true true = refl
agree_true false = refl
