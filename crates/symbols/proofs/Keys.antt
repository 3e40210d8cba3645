-- Names as keys: two are equal where their characters are.
use Rattle.symbols.proofs.Prelude.{◌≡◌, ℕ, suc, ◌-◌, ◌++◌, ◌&&◌, List, [], ◌∷◌, Bool, length, replicate, refl, true, false, nat_eq, ap, ◌∙◌, nat_list_eq_equiv, and-false, bytes_eq, eqb-zero-suc, eqb-suc-zero, eqb-suc-suc}
use Rattle.symbols.specs.contracts.name.NamePartialEq.TheImpl.{eq-value}

and_regrouped : (p q r s : Bool) → q && r ≡ s → (p && q) && r ≡ p && s
and_regrouped true q r s h = h
and_regrouped false q r s h = refl

equal_filled : (a b : List ℕ) (f : ℕ → List ℕ)
    → bytes_eq (a ++ f (length a)) (b ++ f (length b)) && nat_eq (length a) (length b) ≡ bytes_eq a b
equal_filled [] [] f = ap (λ (same : Bool). same && true) (nat_list_eq_equiv.refl (f 0))
equal_filled [] (y ∷ b) f =
    ap (λ (same : Bool). bytes_eq (f 0) (y ∷ (b ++ f (suc (length b)))) && same) (eqb-zero-suc (length b))
    ∙ and-false _
equal_filled (x ∷ a) [] f =
    ap (λ (same : Bool). bytes_eq (x ∷ (a ++ f (suc (length a)))) (f 0) && same) (eqb-suc-zero (length a))
    ∙ and-false _
equal_filled (x ∷ a) (y ∷ b) f =
    and_regrouped (nat_eq x y) _ _ _
    (ap (λ (same : Bool). bytes_eq (a ++ f (suc (length a))) (b ++ f (suc (length b))) && same)
    (eqb-suc-suc (length a) (length b))
    ∙ equal_filled a b (λ n. f (suc n)))

-- where the keys of a table are compared, the characters are
pub names_equal : (a b : List ℕ) → eq-value.it a b ≡ bytes_eq a b
names_equal a b = equal_filled a b (λ n. replicate (31 - n) 0)

pub same_keys : eq-value.it ≡ bytes_eq
same_keys = λ i a b. names_equal a b i
