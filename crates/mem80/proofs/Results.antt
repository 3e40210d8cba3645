-- Results that are equal, or weaker.
use Rattle.std.proofs.Common.{Err, IfOk, Ok, Result, ap, ◌≡◌}

pub same_Ok : {A E : Type 0} (x y : A) → ◌≡◌ {A = Result A E} (Ok x) (Ok y) → x ≡ y
same_Ok {A} {E} x y h = ap value h
  where
    value : Result A E → A
    value (Ok v) = v
    value (Err e) = x

pub same_Err : {A E : Type 0} (x y : E) → ◌≡◌ {A = Result A E} (Err x) (Err y) → x ≡ y
same_Err {A} {E} x y h = ap fault h
  where
    fault : Result A E → E
    fault (Ok v) = x
    fault (Err e) = e

-- what holds of a value that is given, and what follows
pub if_ok_then : {A E : Type 0} (P Q : A → Type 0) (answer : Result A E) → ((found : A) → P found → Q found)
    → IfOk answer P → IfOk answer Q
if_ok_then P Q (Ok found) go holds = go found holds
if_ok_then P Q (Err fault) go holds = tt
