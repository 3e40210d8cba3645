-- A check beside what it is to find: where it gives something, no name is wrong, and where it is refused for
-- a name, one is.
use Rattle.typing.proofs.Prelude.{◌≡◌, Bool, true, false, Option, Some, None, Ok, Err, refl, sym, subst, Cause, Fault, Checked, ◌>>=◌, refuse, require, found, IsOfNames, Place}

-- where a check gives something this holds, and of that; a refusal of names is such a one
pub record Meets {A : Type 0} (Right : Type 0) (Wrong : Fault → Type 0) (P : A → Type 0)
    (result : Checked A) : Type 0 where
  pub given : (a : A) → result ≡ Ok a → Right × P a
  pub refused : (refusal : Fault) → result ≡ Err refusal → IsOfNames refusal.cause → Wrong refusal

-- no refusal is one
abbrev pub Never : Fault → Type 0
Never refusal = ⊥

-- a check that is never refused for a name
abbrev pub IsOther : {A : Type 0} → Checked A → Type 0
IsOther {A} result = Meets (Unit {0}) Never (λ (a : A). Unit {0}) result

pub meets_ok : {A : Type 0} {Right : Type 0} {Wrong : Fault → Type 0} {P : A → Type 0} {a : A}
    → Right → P a → Meets Right Wrong P (Ok a)
meets_ok {P = P} {a = a} right is = record {
  given = λ b e. (right, (let same : a ≡ b = cc in subst P same is));
  refused = λ refusal e names. absurd cc;
}

pub meets_fault : {A : Type 0} {Right : Type 0} {Wrong : Fault → Type 0} {P : A → Type 0}
    (cause : Cause) (place : Place)
    → (IsOfNames cause → ⊥) → Meets Right Wrong P (refuse {A = A} cause place)
meets_fault {Wrong = Wrong} cause place other = record {
  given = λ a e. absurd cc;
  refused = λ refusal e names.
      let same : record { cause = cause; place = place } ≡ refusal = cc in
      absurd (other (subst (λ (f : Fault). IsOfNames f.cause) (sym same) names));
}

-- how what two checks find is what both find
pub record Joins (One Other Right : Type 0) (WrongOne WrongOther Wrong : Fault → Type 0) : Type 0 where
  pub both : One → Other → Right
  pub first : (refusal : Fault) → WrongOne refusal → Wrong refusal
  pub second : One → (refusal : Fault) → WrongOther refusal → Wrong refusal

pub meets_then : {A B : Type 0} {One Other Right : Type 0} {WrongOne WrongOther Wrong : Fault → Type 0}
    {P : A → Type 0} {Q : B → Type 0} {result : Checked A} {next : A → Checked B}
    → Joins One Other Right WrongOne WrongOther Wrong
    → Meets One WrongOne P result
    → ((a : A) → P a → Meets Other WrongOther Q (next a))
    → Meets Right Wrong Q (result >>= next)
meets_then {A} {B} {One} {Other} {Right} {WrongOne} {WrongOther} {Wrong} {P} {Q} {result} {next} joins
    is then_is = record {
      given = λ b e. given_by result is b e;
      refused = λ refusal e names. refused_by result is refusal e names;
    }
  where
    given_by : (r : Checked A) → Meets One WrongOne P r → (b : B) → (r >>= next) ≡ Ok b → Right × Q b
    given_by (Ok a) first b e =
        let here = first.given a refl in
        let there = (then_is a here.1).given b e in
        (joins.both here.0 there.0, there.1)
    given_by (Err fault) first b e = absurd cc

    refused_by : (r : Checked A) → Meets One WrongOne P r → (refusal : Fault) → (r >>= next) ≡ Err refusal
        → IsOfNames refusal.cause → Wrong refusal
    refused_by (Ok a) first refusal e names =
        let here = first.given a refl in
        joins.second here.0 refusal ((then_is a here.1).refused refusal e names)
    refused_by (Err fault) first refusal e names =
        let same : fault ≡ refusal = cc in
        joins.first refusal
        (subst WrongOne same (first.refused fault refl
        (subst (λ (f : Fault). IsOfNames f.cause) (sym same) names)))

-- after a check that no name is found by, and before one
pub after_other : {A B : Type 0} {Right : Type 0} {Wrong : Fault → Type 0} {P : A → Type 0} {Q : B → Type 0}
    {result : Checked A} {next : A → Checked B}
    → Meets (Unit {0}) Never P result
    → ((a : A) → P a → Meets Right Wrong Q (next a))
    → Meets Right Wrong Q (result >>= next)
after_other other then_is =
    meets_then
    (record { both = λ one right. right; first = λ refusal never. absurd never; second = λ one refusal wrong. wrong })
    other then_is

pub before_other : {A B : Type 0} {Right : Type 0} {Wrong : Fault → Type 0} {P : A → Type 0} {Q : B → Type 0}
    {result : Checked A} {next : A → Checked B}
    → Meets Right Wrong P result
    → ((a : A) → P a → Meets (Unit {0}) Never Q (next a))
    → Meets Right Wrong Q (result >>= next)
before_other is then_is =
    meets_then
    (record { both = λ right one. right; first = λ refusal wrong. wrong; second = λ right refusal never. absurd never })
    is then_is

-- what holds of all that is given
pub meets_more : {A : Type 0} {Right : Type 0} {Wrong : Fault → Type 0} {P Q : A → Type 0}
    {result : Checked A}
    → Meets Right Wrong P result
    → ((a : A) → P a → Q a)
    → Meets Right Wrong Q result
meets_more is more = record {
  given = λ a e. let found = is.given a e in (found.0, more a found.1);
  refused = is.refused;
}

-- the same by other names
pub meets_as : {A : Type 0} {Right Other : Type 0} {Wrong WrongOther : Fault → Type 0} {P : A → Type 0}
    {result : Checked A}
    → (Right → Other) → ((refusal : Fault) → Wrong refusal → WrongOther refusal)
    → Meets Right Wrong P result
    → Meets Other WrongOther P result
meets_as right wrong is = record {
  given = λ a e. let found = is.given a e in (right found.0, found.1);
  refused = λ refusal e names. wrong refusal (is.refused refusal e names);
}

-- the simple checks
pub other_required : (test : Bool) (cause : Cause) (place : Place) → (IsOfNames cause → ⊥)
    → IsOther (require test cause place)
other_required true cause place other = meets_ok tt tt
other_required false cause place other = meets_fault cause place other

pub other_found : {A : Type 0} (option : Option A) (cause : Cause) (place : Place) → (IsOfNames cause → ⊥)
    → IsOther (found option cause place)
other_found (Some a) cause place other = meets_ok tt tt
other_found None cause place other = meets_fault cause place other
