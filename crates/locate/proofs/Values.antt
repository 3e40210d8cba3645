-- The values that a walk over the bytes of a run gives are those of its places, moved.
use Rattle.locate.proofs.Prelude.{◌≡◌, ℕ, ◌+◌, ◌≤◌, cond, List, [], ◌∷◌, ◌++◌, length, map, Option, Some, None, refl, ap, ◌∙◌, arith, eq-eqb, ne_eqb, Fix, FixKind, Low, High, Both, Target, Fixup, SetByte, after_fixup, value_after, value_moved, fixes_from, Carry, Walk, first_at, after_first, carry_by, second_by, value_by, word_by, values_from, fixes_after}

abbrev pub value_of : SetByte → ℕ
value_of here = here.value

-- bytes that stand one after another, moved
abbrev pub moved_items : (gain_of : Target → ℕ) → (before : Option SetByte) → List SetByte → List ℕ
moved_items gain_of before [] = []
moved_items gain_of before (here ∷ others) =
    value_moved gain_of before here ∷ moved_items gain_of (Some here) others

-- the word that begins at a place
abbrev pub carried_from : (gain_of : Target → ℕ) → (value : ℕ) → Option Fixup → Option Carry
carried_from gain_of value None = None
carried_from gain_of value (Some fixup) = carry_by fixup.kind value (gain_of fixup.target)

abbrev pub carried : (gain_of : Target → ℕ) → Option SetByte → Option Carry
carried gain_of None = None
carried gain_of (Some before) = carried_from gain_of before.value before.fixup

second_by_kind :
    (gain_of : Target → ℕ) (first value : ℕ) (kind : FixKind) (target : Target)
    → second_by value (carry_by kind first (gain_of target))
    ≡ after_fixup gain_of first value (Some (record { kind = kind; target = target }))
second_by_kind gain_of first value Low target = refl
second_by_kind gain_of first value High target = refl
second_by_kind gain_of first value Both target = refl

second_by_fixup :
    (gain_of : Target → ℕ) (first value : ℕ) (fixup : Option Fixup)
    → second_by value (carried_from gain_of first fixup) ≡ after_fixup gain_of first value fixup
second_by_fixup gain_of first value None = refl
second_by_fixup gain_of first value (Some fixup) = second_by_kind gain_of first value fixup.kind fixup.target

second_is :
    (gain_of : Target → ℕ) (before : Option SetByte) (value : ℕ)
    → second_by value (carried gain_of before) ≡ value_after gain_of before value
second_is gain_of None value = refl
second_is gain_of (Some before) value = second_by_fixup gain_of before.value value before.fixup

-- the first fix begins at a number or later
abbrev pub Heads : ℕ → List Fix → Type 0
Heads n [] = Unit {0}
Heads n (fix ∷ others) = n ≤ fix.offset

pub Heads-less : (m n : ℕ) (fixes : List Fix) → m ≤ n → Heads n fixes → Heads m fixes
Heads-less m n [] h heads = tt
Heads-less m n (fix ∷ others) h heads = omega arith

first_none : (n : ℕ) (fixes : List Fix) → Heads (n + 1) fixes → first_at n fixes ≡ None
first_none n [] heads = refl
first_none n (fix ∷ others) heads =
    let differ : (fix.offset ≡ n → ⊥) = λ (e : fix.offset ≡ n). omega (arith, e) in
    ap (λ b. cond b (Some fix) None) (ne_eqb fix.offset n differ)

first_some : (n : ℕ) (fix : Fix) (others : List Fix) → fix.offset ≡ n → first_at n (fix ∷ others) ≡ Some fix
first_some n fix others same = ap (λ b. cond b (Some fix) None) (eq-eqb fix.offset n same)

pub heads_items :
    (n : ℕ) (items : List SetByte) (rest : List Fix) → Heads (n + length items) rest
    → Heads n (fixes_from n items ++ rest)
heads_items n [] rest heads = Heads-less n (n + 0) rest (omega arith) heads
heads_items n (here ∷ others) rest heads =
    by here.fixup
    (heads_items (n + 1) others rest
    (Heads-less (n + 1 + length others) (n + length (here ∷ others)) rest (omega arith) heads))
  where
    by : (fixup : Option Fixup) → Heads (n + 1) (fixes_from (n + 1) others ++ rest)
        → Heads n (fixes_from n (record { value = here.value; fixup = fixup } ∷ others) ++ rest)
    by None later = Heads-less n (n + 1) (fixes_from (n + 1) others ++ rest) (omega arith) later
    by (Some fixup) later = omega arith

-- what a walk does at its first byte, by the fix that begins there
abbrev first_value :
    (gain_of : Target → ℕ) → (n value : ℕ) → (word : Option Carry) → List Fix → (others : List ℕ)
    → Option Fix → List ℕ
first_value gain_of n value word fixes others fix =
    value_by gain_of value word fix
    ∷ values_from gain_of
    (record { offset = n + 1; fixes = after_first fix fixes; word = word_by gain_of value fix }) others

abbrev first_rest :
    (gain_of : Target → ℕ) → (n value : ℕ) → List Fix → (others : List ℕ) → Option Fix → List Fix
first_rest gain_of n value fixes others fix =
    fixes_after gain_of
    (record { offset = n + 1; fixes = after_first fix fixes; word = word_by gain_of value fix }) others

abbrev pub walk_on : (gain_of : Target → ℕ) → (before : Option SetByte) → (n : ℕ) → List Fix → Walk
walk_on gain_of before n fixes = record { offset = n; fixes = fixes; word = carried gain_of before }

-- the values of the bytes of a run
pub values_are :
    (gain_of : Target → ℕ) (before : Option SetByte) (n : ℕ) (items : List SetByte) (rest : List Fix)
    → Heads (n + length items) rest
    → values_from gain_of (walk_on gain_of before n (fixes_from n items ++ rest)) (map value_of items)
    ≡ moved_items gain_of before items
values_are gain_of before n [] rest heads = refl
values_are gain_of before n (here ∷ others) rest heads =
    by here.fixup
    (λ (fixup : Option Fixup).
    values_are gain_of (Some (record { value = here.value; fixup = fixup })) (n + 1) others rest later)
  where
    later : Heads (n + 1 + length others) rest
    later = Heads-less (n + 1 + length others) (n + length (here ∷ others)) rest (omega arith) heads

    by : (fixup : Option Fixup)
        → ((f : Option Fixup)
        → values_from gain_of
        (walk_on gain_of (Some (record { value = here.value; fixup = f })) (n + 1)
        (fixes_from (n + 1) others ++ rest))
        (map value_of others)
        ≡ moved_items gain_of (Some (record { value = here.value; fixup = f })) others)
        → values_from gain_of
        (walk_on gain_of before n (fixes_from n (record { value = here.value; fixup = fixup } ∷ others)
        ++ rest))
        (map value_of (here ∷ others))
        ≡ moved_items gain_of before (record { value = here.value; fixup = fixup } ∷ others)
    by None again =
        let fixes : List Fix = fixes_from (n + 1) others ++ rest in
        ap (first_value gain_of n here.value (carried gain_of before) fixes (map value_of others))
        (first_none n fixes (heads_items (n + 1) others rest later))
        ∙ ap (λ v. v ∷ values_from gain_of (record { offset = n + 1; fixes = fixes; word = None })
        (map value_of others))
        (second_is gain_of before here.value)
        ∙ ap (λ vs. value_after gain_of before here.value ∷ vs) (again None)
    by (Some fixup) again =
        let fixes : List Fix = fixes_from (n + 1) others ++ rest in
        let fix : Fix = record { kind = fixup.kind; target = fixup.target; offset = n } in
        ap (first_value gain_of n here.value (carried gain_of before) (fix ∷ fixes) (map value_of others))
        (first_some n fix fixes refl)
        ∙ ap (λ vs. value_moved gain_of before (record { value = here.value; fixup = Some fixup }) ∷ vs)
        (again (Some fixup))

-- the fixes after them
pub fixes_are :
    (gain_of : Target → ℕ) (before : Option SetByte) (n : ℕ) (items : List SetByte) (rest : List Fix)
    → Heads (n + length items) rest
    → fixes_after gain_of (walk_on gain_of before n (fixes_from n items ++ rest)) (map value_of items) ≡ rest
fixes_are gain_of before n [] rest heads = refl
fixes_are gain_of before n (here ∷ others) rest heads =
    by here.fixup
    (λ (fixup : Option Fixup).
    fixes_are gain_of (Some (record { value = here.value; fixup = fixup })) (n + 1) others rest later)
  where
    later : Heads (n + 1 + length others) rest
    later = Heads-less (n + 1 + length others) (n + length (here ∷ others)) rest (omega arith) heads

    by : (fixup : Option Fixup)
        → ((f : Option Fixup)
        → fixes_after gain_of
        (walk_on gain_of (Some (record { value = here.value; fixup = f })) (n + 1)
        (fixes_from (n + 1) others ++ rest))
        (map value_of others)
        ≡ rest)
        → fixes_after gain_of
        (walk_on gain_of before n (fixes_from n (record { value = here.value; fixup = fixup } ∷ others)
        ++ rest))
        (map value_of (here ∷ others))
        ≡ rest
    by None again =
        let fixes : List Fix = fixes_from (n + 1) others ++ rest in
        ap (first_rest gain_of n here.value fixes (map value_of others))
        (first_none n fixes (heads_items (n + 1) others rest later))
        ∙ again None
    by (Some fixup) again =
        let fixes : List Fix = fixes_from (n + 1) others ++ rest in
        let fix : Fix = record { kind = fixup.kind; target = fixup.target; offset = n } in
        ap (first_rest gain_of n here.value (fix ∷ fixes) (map value_of others)) (first_some n fix fixes refl)
        ∙ again (Some fixup)
