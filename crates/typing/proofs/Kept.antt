-- What holds of all that a check gives, and what is kept from one typing to the next.
use Rattle.typing.proofs.Prelude.{◌≡◌, Bool, true, false, Option, Some, None, Ok, Err, refl, subst, Cause, Fault, TypedModule, Constants, Checked, ◌>>=◌, require, found, Known, Agrees, Grows, HasLists, Place}

-- what a check gives, if it gives anything, is so
pub record Gives {A : Type 0} (P : A → Type 0) (result : Checked A) : Type 0 where
  pub holds : (a : A) → result ≡ Ok a → P a

pub gives_ok : {A : Type 0} {P : A → Type 0} {a : A} → P a → Gives P (Ok a)
gives_ok {P = P} {a = a} is = record { holds = λ b e. let same : a ≡ b = cc in subst P same is }

pub gives_fault : {A : Type 0} {P : A → Type 0} {fault : Fault} → Gives P (Err fault)
gives_fault = record { holds = λ a e. absurd cc }

-- one check after another
pub in_turn : {A B : Type 0} {P : A → Type 0} {Q : B → Type 0} {result : Checked A} {next : A → Checked B}
    → Gives P result
    → ((a : A) → P a → Gives Q (next a))
    → Gives Q (result >>= next)
in_turn {P = P} {Q = Q} {result = result} {next = next} is then_is =
    record { holds = λ b e. go result is.holds b e }
  where
    go : (r : Checked _) → ((a : _) → r ≡ Ok a → P a) → (b : _) → (r >>= next) ≡ Ok b → Q b
    go (Ok a) first b e = (then_is a (first a refl)).holds b e
    go (Err fault) first b e = absurd cc

pub anything : {A : Type 0} (result : Checked A) → Gives (λ a. result ≡ Ok a) result
anything result = record { holds = λ a e. e }

-- a check of which only matters that it gives something
pub gives_after : {A B : Type 0} {Q : B → Type 0} (result : Checked A) {next : A → Checked B}
    → ((a : A) → Gives Q (next a))
    → Gives Q (result >>= next)
gives_after result then_is = in_turn (anything result) (λ a e. then_is a)

-- what holds as well of all that a check gives
pub then_more : {A : Type 0} {P Q : A → Type 0} {result : Checked A}
    → Gives P result
    → ((a : A) → P a → Q a)
    → Gives Q result
then_more is more = record { holds = λ a e. more a (is.holds a e) }

-- what the two simple checks give
pub required : (test : Bool) (cause : Cause) (place : Place)
    → Gives (λ _. test ≡ true) (require test cause place)
required true cause place = record { holds = λ _ _. refl }
required false cause place = record { holds = λ a e. absurd cc }

pub is_found : {A : Type 0} (option : Option A) (cause : Cause) (place : Place)
    → Gives (λ a. option ≡ Some a) (found option cause place)
is_found (Some a) cause place = gives_ok refl
is_found None cause place = record { holds = λ a e. absurd cc }

-- What a typing says of the tables of its module: those that agree with what is known where it stands, and
-- that have the constant lists up to its end. Constant lists keep their numbers.
pub record Kept (known : Known) (before after : Constants) (Says : TypedModule → Type 0) : Type 0 where
  pub grows : Grows before after
  pub says : (tables : TypedModule) → Agrees tables known → HasLists tables after → Says tables

pub kept_at : {known : Known} {constants : Constants} {Says : TypedModule → Type 0}
    → ((tables : TypedModule) → Agrees tables known → Says tables)
    → Kept known constants constants Says
kept_at says = record {
  grows = λ number bytes e. e;
  says = λ tables agrees has. says tables agrees;
}

pub kept_more : {known : Known} {before after : Constants} {P Q : TypedModule → Type 0}
    → Kept known before after P
    → ((tables : TypedModule) → Agrees tables known → P tables → Q tables)
    → Kept known before after Q
kept_more kept more = record {
  grows = kept.grows;
  says = λ tables agrees has. more tables agrees (kept.says tables agrees has);
}

pub kept_both : {known : Known} {before between after : Constants} {P Q R : TypedModule → Type 0}
    → Kept known before between P
    → Kept known between after Q
    → ((tables : TypedModule) → Agrees tables known → P tables → Q tables → R tables)
    → Kept known before after R
kept_both first second both = record {
  grows = λ number bytes e. second.grows number bytes (first.grows number bytes e);
  says = λ tables agrees has.
      both tables agrees
      (first.says tables agrees (λ number bytes e. has number bytes (second.grows number bytes e)))
      (second.says tables agrees has);
}
