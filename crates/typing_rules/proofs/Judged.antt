-- What holds of all that a check gives, and of the fault that it gives.
use Rattle.std.proofs.Common.{◌≡◌, Bool, true, false, Option, Some, None, Ok, Err, refl, subst, sym}
use Rattle.trees.specs.declared.identifier.Place.{Place}
use Rattle.typing.specs.declared.fault.Cause.{Cause}
use Rattle.typing.specs.declared.fault.Fault.{Fault}
use Rattle.typing.specs.internal.Checks.{Checked, ◌>>=◌, require, found}

-- what a check gives is so, or else its fault is
pub record Judged {A : Type 0} (P : A → Type 0) (Q : Fault → Type 0) (checked : Checked A) : Type 0 where
  pub typed : (a : A) → checked ≡ Ok a → P a
  pub refused : (fault : Fault) → checked ≡ Err fault → Q fault

pub judged_ok : {A : Type 0} {P : A → Type 0} {Q : Fault → Type 0} {a : A} → P a → Judged P Q (Ok a)
judged_ok {P = P} {a = a} is = record {
  typed = λ b e. let same : a ≡ b = cc in subst P same is;
  refused = λ fault e. absurd cc;
}

pub judged_fault : {A : Type 0} {P : A → Type 0} {Q : Fault → Type 0} {fault : Fault} → Q fault
    → Judged P Q (Err fault)
judged_fault {Q = Q} {fault = fault} is = record {
  typed = λ a e. absurd cc;
  refused = λ other e. let same : fault ≡ other = cc in subst Q same is;
}

-- one check after another
pub then_judged : {A B : Type 0} {P : A → Type 0} {R : B → Type 0} {Q S : Fault → Type 0}
    {checked : Checked A}
    {next : A → Checked B}
    → Judged P Q checked
    → ((fault : Fault) → Q fault → S fault)
    → ((a : A) → P a → Judged R S (next a))
    → Judged R S (checked >>= next)
then_judged {A = A} {B = B} {P = P} {R = R} {Q = Q} {S = S} {checked = checked} {next = next} is
    fails then_is = record {
      typed = λ b e. gives checked is.typed b e;
      refused = λ fault e. is_refused checked is.typed is.refused fault e;
    }
  where
    gives : (r : Checked A) → ((a : A) → r ≡ Ok a → P a) → (b : B) → (r >>= next) ≡ Ok b → R b
    gives (Ok a) first b e = (then_is a (first a refl)).typed b e
    gives (Err fault) first b e = absurd cc

    is_refused : (r : Checked A) → ((a : A) → r ≡ Ok a → P a) → ((fault : Fault) → r ≡ Err fault → Q fault)
        → (fault : Fault) → (r >>= next) ≡ Err fault → S fault
    is_refused (Ok a) first is_fault fault e = (then_is a (first a refl)).refused fault e
    is_refused (Err other) first is_fault fault e =
        let same : other ≡ fault = cc in
        subst S same (fails other (is_fault other refl))

-- what is so as well
pub judged_more : {A : Type 0} {P R : A → Type 0} {Q S : Fault → Type 0} {checked : Checked A}
    → Judged P Q checked
    → ((fault : Fault) → Q fault → S fault)
    → ((a : A) → P a → R a)
    → Judged R S checked
judged_more is fails more = record {
  typed = λ a e. more a (is.typed a e);
  refused = λ fault e. fails fault (is.refused fault e);
}

-- a condition, and what follows it
abbrev pub fault_of : Cause → Place → Fault
fault_of cause place = record { cause = cause; place = place }

pub then_when : {B : Type 0} {R : B → Type 0} {S : Fault → Type 0} (test : Bool)
    (cause : Cause) (place : Place)
    {next : Unit {0} → Checked B}
    → (test ≡ false → S (fault_of cause place))
    → ((u : Unit {0}) → test ≡ true → Judged R S (next u))
    → Judged R S (require test cause place >>= next)
then_when true cause place fails then_is = then_is tt refl
then_when false cause place fails then_is = judged_fault (fails refl)

-- something that is looked for, alone, and with what follows it
pub is_found : {A : Type 0} {P : A → Type 0} {S : Fault → Type 0} (option : Option A)
    (cause : Cause) (place : Place)
    → (option ≡ None → S (fault_of cause place))
    → ((a : A) → option ≡ Some a → P a)
    → Judged P S (found option cause place)
is_found (Some a) cause place fails is = judged_ok (is a refl)
is_found None cause place fails is = judged_fault (fails refl)

pub then_found : {A B : Type 0} {R : B → Type 0} {S : Fault → Type 0} (option : Option A)
    (cause : Cause) (place : Place)
    {next : A → Checked B}
    → (option ≡ None → S (fault_of cause place))
    → ((a : A) → option ≡ Some a → Judged R S (next a))
    → Judged R S (found option cause place >>= next)
then_found (Some a) cause place fails then_is = then_is a refl
then_found None cause place fails then_is = judged_fault (fails refl)

-- what a check gives is known, and what follows it
pub then_ok : {A B : Type 0} {checked : Checked A} {a : A} {result : Checked B} (next : A → Checked B)
    → checked ≡ Ok a
    → next a ≡ result
    → (checked >>= next) ≡ result
then_ok {result = result} next e is = subst (λ r. (r >>= next) ≡ result) (sym e) is

pub then_fault : {A B : Type 0} {checked : Checked A} {fault : Fault} (next : A → Checked B)
    → checked ≡ Err fault
    → (checked >>= next) ≡ Err fault
then_fault {fault = fault} next e = subst (λ r. (r >>= next) ≡ Err fault) (sym e) refl

pub passed : {test : Bool} (cause : Cause) (place : Place) → test ≡ true → require test cause place ≡ Ok tt
passed cause place e = subst (λ it. require it cause place ≡ Ok tt) (sym e) refl

pub failed : {test : Bool} (cause : Cause) (place : Place) → test ≡ false
    → require test cause place ≡ Err (fault_of cause place)
failed cause place e = subst (λ it. require it cause place ≡ Err (fault_of cause place)) (sym e) refl

pub got : {A : Type 0} {option : Option A} {a : A} (cause : Cause) (place : Place)
    → option ≡ Some a
    → found option cause place ≡ Ok a
got {a = a} cause place e = subst (λ it. found it cause place ≡ Ok a) (sym e) refl

pub got_none : {A : Type 0} {option : Option A} (cause : Cause) (place : Place)
    → option ≡ None
    → found option cause place ≡ Err (fault_of cause place)
got_none cause place e = subst (λ it. found it cause place ≡ Err (fault_of cause place)) (sym e) refl
