-- How reading ends: what holds of all that is read, and whether depth or a name after END is in the way.
use Rattle.syntax.proofs.Prelude.{◌≡◌, ℕ, suc, max, ◌≤◌, ◌<◌, Bool, true, false, Result, Ok, Err, if◌then◌else◌, refl, ◌∙◌, subst, arith, Cause, TooDeep, OtherEndName, ◌>>=◌, List, ◌∷◌, ReservedWord, Mark, mark, word, name, semicolon, Symbol, MarkSymbol, SemicolonSymbol, ReservedSymbol, NameSymbol}
use Rattle.syntax.proofs.ReaderLemmas.{bind_ok, bind_at, bind_fails, mark-ok, semicolon-ok, word-ok, name-ok}

-- whatever is read has this property
pub record Gets {A : Type 0} (P : A → Type 0) (read : Result A Cause) : Type 0 where
  pub holds : (a : A) → read ≡ Ok a → P a

pub gets_ok : {A : Type 0} {P : A → Type 0} {a : A} → P a → Gets P (Ok a)
gets_ok {A} {P} {a} p = record { holds = λ b e. let same : a ≡ b = cc in subst P same p }

pub gets_nothing : {A : Type 0} {P : A → Type 0} {cause : Cause} → Gets P (Err cause)
gets_nothing = record { holds = λ b e. absurd cc }

pub gets_bind : {A B : Type 0} {P : A → Type 0} {Q : B → Type 0} {r : Result A Cause} {f : A → Result B Cause}
    → Gets P r
    → ((a : A) → P a → Gets Q (f a))
    → Gets Q (r >>= f)
gets_bind {r = r} {f = f} h next =
    record {
      holds = λ b e. let found = bind_ok r f b e in (next found.0 (h.holds found.0 found.1)).holds b
          found.2;
    }

pub gets_if : {A : Type 0} {P : A → Type 0} {b : Bool} {x y : Result A Cause}
    → (b ≡ true → Gets P x)
    → (b ≡ false → Gets P y)
    → Gets P (if b then x else y)
gets_if {b = true} yes_part no_part = yes_part refl
gets_if {b = false} yes_part no_part = no_part refl

pub gets_more : {A : Type 0} {P Q : A → Type 0} {r : Result A Cause}
    → Gets P r
    → ((a : A) → P a → Q a)
    → Gets Q r
gets_more h next = record { holds = λ a e. next a (h.holds a e) }

-- Reading gives what is wanted, if that is no deeper than the room and the names after END match where that
-- is asked. It fails for the depth only if that is over the room, and for a name after END only if one does
-- not match.
pub data Verdict {A : Type 0} (read : Result A Cause) (wanted : A) (strict : Bool) (room height : ℕ)
    (Ends : Type 0) : Type 0 where
  fits : read ≡ Ok wanted
      → height ≤ room
      → (strict ≡ true → Ends)
      → Verdict read wanted strict room height Ends
  too_deep : read ≡ Err TooDeep → room < height → Verdict read wanted strict room height Ends
  other_name : read ≡ Err OtherEndName
      → strict ≡ true
      → (Ends → ⊥)
      → Verdict read wanted strict room height Ends

-- nothing is in the way
pub verdict_ok : {A : Type 0} {strict : Bool} {room : ℕ} {a : A} → Verdict (Ok a) a strict room 0 (Unit {0})
verdict_ok = fits refl (omega arith) (λ _. tt)

pub verdict_bind : {A B : Type 0} {r : Result A Cause} {a : A} {b : B} {strict : Bool}
    {room height other : ℕ} {Ends OthersEnd : Type 0}
    → (f : A → Result B Cause)
    → Verdict r a strict room height Ends
    → Verdict (f a) b strict room other OthersEnd
    → Verdict (r >>= f) b strict room (max height other) (Ends × OthersEnd)
verdict_bind {r = r} {a = a} f (fits e l ends) (fits e' l' ends') =
    fits (bind_at r f a e ∙ e') (omega (arith, l, l')) (λ s. (ends s, ends' s))
verdict_bind {r = r} {a = a} f (fits e l ends) (too_deep e' l') =
    too_deep (bind_at r f a e ∙ e') (omega (arith, l'))
verdict_bind {r = r} {a = a} f (fits e l ends) (other_name e' s not) =
    other_name (bind_at r f a e ∙ e') s (λ both. not both.1)
verdict_bind {r = r} f (too_deep e l) later = too_deep (bind_fails r f TooDeep e) (omega (arith, l))
verdict_bind {r = r} f (other_name e s not) later =
    other_name (bind_fails r f OtherEndName e) s (λ both. not both.0)

-- after what is read for sure
pub verdict_then : {A B : Type 0} {r : Result A Cause} {a : A} {b : B} {strict : Bool} {room height : ℕ}
    {Ends : Type 0}
    → (f : A → Result B Cause)
    → r ≡ Ok a
    → Verdict (f a) b strict room height Ends
    → Verdict (r >>= f) b strict room height Ends
verdict_then {r = r} {a = a} f e (fits e' l ends) = fits (bind_at r f a e ∙ e') l ends
verdict_then {r = r} {a = a} f e (too_deep e' l) = too_deep (bind_at r f a e ∙ e') l
verdict_then {r = r} {a = a} f e (other_name e' s not) = other_name (bind_at r f a e ∙ e') s not

-- where nothing after it can be in the way
pub verdict_last : {A B : Type 0} {r : Result A Cause} {a : A} {b : B} {strict : Bool} {room height : ℕ}
    {Ends : Type 0}
    → (f : A → Result B Cause)
    → Verdict r a strict room height Ends
    → f a ≡ Ok b
    → Verdict (r >>= f) b strict room height Ends
verdict_last {r = r} {a = a} f (fits e l ends) e' = fits (bind_at r f a e ∙ e') l ends
verdict_last {r = r} f (too_deep e l) e' = too_deep (bind_fails r f TooDeep e) l
verdict_last {r = r} f (other_name e s not) e' = other_name (bind_fails r f OtherEndName e) s not

-- the same of another reading that gives the same
pub verdict_same : {A : Type 0} {r other : Result A Cause} {a : A} {strict : Bool} {room height : ℕ}
    {Ends : Type 0}
    → r ≡ other → Verdict other a strict room height Ends → Verdict r a strict room height Ends
verdict_same e (fits e' l ends) = fits (e ∙ e') l ends
verdict_same e (too_deep e' l) = too_deep (e ∙ e') l
verdict_same e (other_name e' s not) = other_name (e ∙ e') s not

-- the same height and the same names, said otherwise
pub verdict_as : {A : Type 0} {r : Result A Cause} {a : A} {strict : Bool} {room height other : ℕ}
    {Ends OthersEnd : Type 0}
    → Verdict r a strict room height Ends
    → height ≡ other
    → (Ends → OthersEnd)
    → (OthersEnd → Ends)
    → Verdict r a strict room other OthersEnd
verdict_as (fits e l ends) h to from = fits e (omega (arith, l, h)) (λ s. to (ends s))
verdict_as (too_deep e l) h to from = too_deep e (omega (arith, l, h))
verdict_as (other_name e s not) h to from = other_name e s (λ ends. not (from ends))

-- one level more of both
pub verdict_inside : {A : Type 0} {r : Result A Cause} {a : A} {strict : Bool} {room height : ℕ}
    {Ends : Type 0}
    → Verdict r a strict room height Ends → Verdict r a strict (suc room) (suc height) Ends
verdict_inside (fits e l ends) = fits e (omega (arith, l)) ends
verdict_inside (too_deep e l) = too_deep e (omega (arith, l))
verdict_inside (other_name e s not) = other_name e s not

-- what is read shows that nothing was in the way
pub verdict_given : {A : Type 0} {r : Result A Cause} {a b : A} {strict : Bool} {room height : ℕ}
    {Ends : Type 0}
    → Verdict r a strict room height Ends → r ≡ Ok b → (height ≤ room) × (strict ≡ true → Ends)
verdict_given (fits e l ends) given = (l, ends)
verdict_given (too_deep e l) given = absurd cc
verdict_given (other_name e s not) given = absurd cc

-- where nothing is in the way, where only depth is, and where only a name is
pub verdict_reads : {A : Type 0} {r : Result A Cause} {a : A} {strict : Bool} {room height : ℕ}
    {Ends : Type 0}
    → Verdict r a strict room height Ends → height ≤ room → (strict ≡ true → Ends) → r ≡ Ok a
verdict_reads (fits e l ends) h right = e
verdict_reads (too_deep e l) h right = absurd (omega (arith, l, h))
verdict_reads (other_name e s not) h right = absurd (not (right s))

pub verdict_deep : {A : Type 0} {r : Result A Cause} {a : A} {strict : Bool} {room height : ℕ} {Ends : Type 0}
    → Verdict r a strict room height Ends → room < height → (strict ≡ true → Ends) → r ≡ Err TooDeep
verdict_deep (fits e l ends) h right = absurd (omega (arith, l, h))
verdict_deep (too_deep e l) h right = e
verdict_deep (other_name e s not) h right = absurd (not (right s))

pub verdict_other_name : {A : Type 0} {r : Result A Cause} {a : A} {strict : Bool} {room height : ℕ}
    {Ends : Type 0}
    → Verdict r a strict room height Ends → height ≤ room → strict ≡ true → (Ends → ⊥) → r ≡ Err OtherEndName
verdict_other_name (fits e l ends) h s wrong = absurd (wrong (ends s))
verdict_other_name (too_deep e l) h s wrong = absurd (omega (arith, l, h))
verdict_other_name (other_name e s' not) h s wrong = e

-- what is read of single symbols
pub mark-gets : (m : Mark) (s : List Symbol) → Gets (λ r. s ≡ MarkSymbol m ∷ r) (mark m s)
mark-gets m s = record { holds = λ r e. mark-ok m s r e }

pub semicolon-gets : (s : List Symbol) → Gets (λ found. s ≡ SemicolonSymbol found.0 ∷ found.1) (semicolon s)
semicolon-gets s = record { holds = λ found e. semicolon-ok s found.1 found.0 e }

pub word-gets : (w : ReservedWord) (s : List Symbol) → Gets (λ r. s ≡ ReservedSymbol w ∷ r) (word w s)
word-gets w s = record { holds = λ r e. word-ok w s r e }

pub name-gets : (s : List Symbol) → Gets (λ found. s ≡ NameSymbol found.0 ∷ found.1) (name s)
name-gets s = record { holds = λ found e. name-ok s found.1 found.0 e }
