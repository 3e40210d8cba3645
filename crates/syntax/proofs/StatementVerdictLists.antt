-- What reading lists gives, and how it ends.
use Rattle.syntax.proofs.Prelude.{◌≡◌, ℕ, zero, suc, max, ◌≤◌, ◌<◌, Bool, false, List, [], ◌∷◌, drop, length, refl, arith, AllByRecursion, Comma, IsNotEmpty, more_after_commas, between_commas, Symbol, MarkSymbol, more_items, all_more_items, items, Parser, at_mark}
use Rattle.syntax.proofs.ReaderLemmas.{at_mark-is, if_false}
use Rattle.syntax.proofs.StatementVerdictRules.{Gets, gets_ok, gets_bind, gets_if, Verdict, verdict_ok, verdict_bind, verdict_last, verdict_same}

-- the greatest of the heights
abbrev pub greatest : {A : Type 0} → (A → ℕ) → List A → ℕ
greatest height [] = 0
greatest height (first ∷ others) = max (height first) (greatest height others)

-- what was read is spelled by the symbols up to those that are left, and has a property
abbrev pub IsSpelled : {A : Type 0}
    → (A → List Symbol → List Symbol)
    → (A → Type 0)
    → List Symbol
    → A × List Symbol
    → Type 0
IsSpelled spell P symbols found = (symbols ≡ spell found.0 found.1) × P found.0

abbrev pub GetsSpelled : {A : Type 0} → (A → List Symbol → List Symbol) → (A → Type 0) → Parser A → Type 0
GetsSpelled spell P item = (symbols : List Symbol) → Gets (IsSpelled spell P symbols) (item symbols)

more_items-gets : {A : Type 0} (spell : A → List Symbol → List Symbol) (P : A → Type 0) (item : Parser A)
    → GetsSpelled spell P item
    → (count : ℕ)
    → GetsSpelled (more_after_commas spell) (AllByRecursion P) (more_items item count)
more_items-gets spell P item sound zero s = gets_ok (refl, tt)
more_items-gets spell P item sound (suc count) s =
    gets_if
    (λ comma.
    gets_bind (sound (drop 1 s)) λ first h.
    gets_bind (more_items-gets spell P item sound count first.1) λ others hs.
    let e = at_mark-is Comma s comma in
    let e₁ = h.0 in
    let e₂ = hs.0 in
    gets_ok (cc, (h.1, hs.1)))
    (λ _. gets_ok (refl, tt))

pub items-gets : {A : Type 0} (spell : A → List Symbol → List Symbol) (P : A → Type 0) (item : Parser A)
    → GetsSpelled spell P item
    → GetsSpelled (between_commas spell) (λ all. IsNotEmpty all × AllByRecursion P all) (items item)
unfolding all_more_items
items-gets spell P item sound s =
    gets_bind (sound s) λ first h.
    gets_bind (more_items-gets spell P item sound (length first.1) first.1) λ others hs.
    let e₁ = h.0 in
    let e₂ = hs.0 in
    gets_ok (cc, (tt, (h.1, hs.1)))

-- how an item ends, wherever it may stand
abbrev pub HasVerdict : {A : Type 0}
    → (A → List Symbol → List Symbol)
    → (A → Type 0)
    → (List Symbol → Type 0)
    → Bool
    → ℕ
    → (A → ℕ)
    → (A → Type 0)
    → Parser A
    → Type 0
HasVerdict {A} spell P After strict room height Ends item =
    (a : A) (rest : List Symbol) → P a → After rest → Verdict (item (spell a rest)) (a, rest) strict room
    (height a) (Ends a)

-- each thing is spelled by a symbol at least
abbrev pub IsLonger : {A : Type 0} → (A → List Symbol → List Symbol) → (A → Type 0) → Type 0
IsLonger {A} spell P = (a : A) (rest : List Symbol) → P a → length rest < length (spell a rest)

more_items-verdict : {A : Type 0} (spell : A → List Symbol → List Symbol) (P : A → Type 0)
    (After : List Symbol → Type 0) (strict : Bool) (room : ℕ) (height : A → ℕ) (Ends : A → Type 0)
    (item : Parser A)
    → HasVerdict spell P After strict room height Ends item
    → IsLonger spell P
    → ((rest : List Symbol) → After (MarkSymbol Comma ∷ rest))
    → (count : ℕ) (all : List A) (rest : List Symbol)
    → AllByRecursion P all
    → at_mark Comma rest ≡ false
    → After rest
    → length (more_after_commas spell all rest) ≤ count
    → Verdict (more_items item count (more_after_commas spell all rest)) (all, rest) strict room
    (greatest height all) (AllByRecursion Ends all)
more_items-verdict spell P After strict room height Ends item sound longer comma zero [] rest h e b l =
    verdict_ok
more_items-verdict spell P After strict room height Ends item sound longer comma (suc count) [] rest h e b l =
    verdict_same (if_false (at_mark Comma rest) _ _ e) verdict_ok
more_items-verdict spell P After strict room height Ends item sound longer comma zero (first ∷ others) rest h
    e b l =
    absurd (omega (arith, l))
more_items-verdict {A} spell P After strict room height Ends item sound longer comma (suc count)
    (first ∷ others) rest h e b l =
    let later : List Symbol = more_after_commas spell others rest in
    verdict_bind _ (sound first later h.0 (after others))
    (verdict_last _ (more_items-verdict spell P After strict room height Ends item sound longer comma count
    others rest h.1 e b (omega (arith, l, longer first later h.0))) refl)
  where
    after : (others : List A) → After (more_after_commas spell others rest)
    after [] = b
    after (second ∷ others) = comma (spell second (more_after_commas spell others rest))

pub items-verdict : {A : Type 0} (spell : A → List Symbol → List Symbol) (P : A → Type 0)
    (After : List Symbol → Type 0) (strict : Bool) (room : ℕ) (height : A → ℕ) (Ends : A → Type 0)
    (item : Parser A)
    → HasVerdict spell P After strict room height Ends item
    → IsLonger spell P
    → ((rest : List Symbol) → After (MarkSymbol Comma ∷ rest))
    → (all : List A) (rest : List Symbol)
    → IsNotEmpty all
    → AllByRecursion P all
    → at_mark Comma rest ≡ false
    → After rest
    → Verdict (items item (between_commas spell all rest)) (all, rest) strict room (greatest height all)
    (AllByRecursion Ends all)
unfolding all_more_items
items-verdict spell P After strict room height Ends item sound longer comma [] rest some h e b = absurd some
items-verdict {A} spell P After strict room height Ends item sound longer comma (first ∷ others) rest some h
    e b =
    let later : List Symbol = more_after_commas spell others rest in
    verdict_bind _ (sound first later h.0 (after others))
    (verdict_last _ (more_items-verdict spell P After strict room height Ends item sound longer comma
    (length later) others rest h.1 e b (omega arith)) refl)
  where
    after : (others : List A) → After (more_after_commas spell others rest)
    after [] = b
    after (second ∷ others) = comma (spell second (more_after_commas spell others rest))
