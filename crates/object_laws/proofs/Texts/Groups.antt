-- Lists cut into groups: together they are the list, none is empty, and each fits its limit.
use Rattle.object_laws.proofs.Prelude.{◌≡◌, ℕ, ◌+◌, ◌-◌, ◌<◌, ◌≤◌, nat_lt, List, [], ◌∷◌, ◌++◌, length, flat_map, refl, ap, sym, subst, ◌∙◌, arith, onto_first, AllByRecursion, ltb-false, le-ltb, cond-false, cond_both, length-append, groups_after, groups_of, packed}

-- the groups one after another
abbrev pub joined : {A : Type 0} → List (List A) → List A
joined groups = flat_map (λ group. group) groups

joined_onto : {A : Type 0} (item : A) (groups : List (List A))
    → joined (onto_first item groups) ≡ item ∷ joined groups
joined_onto item [] = refl
joined_onto item (group ∷ groups) = refl

joined_after :
    {A : Type 0} (needs takes : A → ℕ) (limit room : ℕ) (items : List A)
    → joined (groups_after needs takes limit room items) ≡ items
joined_after needs takes limit room [] = refl
joined_after {A} needs takes limit room (item ∷ others) =
    let fresh : List (List A) = groups_after needs takes limit (limit - takes item) others in
    let begun : List (List A) = groups_after needs takes limit (room - takes item) others in
    cond_both (nat_lt room (needs item)) ([] ∷ onto_first item fresh) (onto_first item begun)
    (λ groups. joined groups ≡ item ∷ others)
    (λ _. joined_onto item fresh
    ∙ ap (λ r. item ∷ r) (joined_after needs takes limit (limit - takes item) others))
    (λ _. joined_onto item begun
    ∙ ap (λ r. item ∷ r) (joined_after needs takes limit (room - takes item) others))

pub groups_joined :
    {A : Type 0} (needs takes : A → ℕ) (limit : ℕ) (items : List A)
    → joined (groups_of needs takes limit items) ≡ items
groups_joined needs takes limit [] = refl
groups_joined needs takes limit (item ∷ others) = joined_after needs takes limit limit (item ∷ others)

pub packed_joined :
    {A : Type 0} (size : A → ℕ) (limit : ℕ) (items : List A) → joined (packed size limit items) ≡ items
packed_joined size limit items = groups_joined size size limit items

-- what items take together
abbrev pub total : {A : Type 0} → (A → ℕ) → List A → ℕ
total takes [] = 0
total takes (item ∷ others) = takes item + total takes others

-- a group that has an item, and takes no more than there is
abbrev pub Fits : {A : Type 0} → (takes : A → ℕ) → (limit : ℕ) → List A → Type 0
Fits takes limit group = (0 < length group) × (total takes group ≤ limit)

-- the first of groups, which goes on one that is begun, and the others
abbrev pub FirstAndOthers : {A : Type 0} → (P Q : List A → Type 0) → List (List A) → Type 0
FirstAndOthers P Q [] = ⊥
FirstAndOthers P Q (group ∷ groups) = P group × AllByRecursion Q groups

fit_onto :
    {A : Type 0} (takes : A → ℕ) (limit room : ℕ) (item : A) (groups : List (List A)) → takes item ≤ room
    → FirstAndOthers (λ group. total takes group ≤ room - takes item) (Fits takes limit) groups
    → FirstAndOthers (Fits takes room) (Fits takes limit) (onto_first item groups)
fit_onto takes limit room item [] h f = absurd f
fit_onto takes limit room item (group ∷ groups) h f =
    let first : total takes group ≤ room - takes item = f.0 in
    ((omega arith, omega (arith, first, h)), f.1)

weaker_first :
    {A : Type 0} (takes : A → ℕ) (limit room : ℕ) (groups : List (List A))
    → FirstAndOthers (Fits takes room) (Fits takes limit) groups
    → FirstAndOthers (λ group. total takes group ≤ room) (Fits takes limit) groups
weaker_first takes limit room [] f = f
weaker_first takes limit room (group ∷ groups) f = (f.0.1, f.1)

all_fit :
    {A : Type 0} (takes : A → ℕ) (limit : ℕ) (groups : List (List A))
    → FirstAndOthers (Fits takes limit) (Fits takes limit) groups → AllByRecursion (Fits takes limit) groups
all_fit takes limit [] f = absurd f
all_fit takes limit (group ∷ groups) f = f

fit_after :
    {A : Type 0} (needs takes : A → ℕ) (limit room : ℕ) (items : List A)
    → ((item : A) → takes item ≤ needs item)
    → AllByRecursion (λ item. needs item ≤ limit) items
    → FirstAndOthers (λ group. total takes group ≤ room) (Fits takes limit)
    (groups_after needs takes limit room items)
fit_after needs takes limit room [] less small = (omega arith, tt)
fit_after {A} needs takes limit room (item ∷ others) less small =
    let fresh : List (List A) = groups_after needs takes limit (limit - takes item) others in
    let begun : List (List A) = groups_after needs takes limit (room - takes item) others in
    let taken : takes item ≤ needs item = less item in
    let fitting : needs item ≤ limit = small.0 in
    cond_both (nat_lt room (needs item)) ([] ∷ onto_first item fresh) (onto_first item begun)
    (FirstAndOthers (λ group. total takes group ≤ room) (Fits takes limit))
    (λ _. (
      omega arith,
      all_fit takes limit (onto_first item fresh)
          (fit_onto takes limit limit item fresh (omega (arith, taken, fitting))
          (fit_after needs takes limit (limit - takes item) others less small.1)),
    ))
    (λ roomy.
    let enough : needs item ≤ room = ltb-false room (needs item) roomy in
    weaker_first takes limit room (onto_first item begun)
    (fit_onto takes limit room item begun (omega (arith, taken, enough))
    (fit_after needs takes limit (room - takes item) others less small.1)))

-- no group is empty, and each fits its limit, where each item by itself does
pub groups_fit :
    {A : Type 0} (needs takes : A → ℕ) (limit : ℕ) (items : List A) → ((item : A) → takes item ≤ needs item)
    → AllByRecursion (λ item. needs item ≤ limit) items
    → AllByRecursion (Fits takes limit) (groups_of needs takes limit items)
groups_fit needs takes limit [] less small = tt
groups_fit {A} needs takes limit (item ∷ others) less small =
    let fresh : List (List A) = groups_after needs takes limit (limit - takes item) others in
    let taken : takes item ≤ needs item = less item in
    let fitting : needs item ≤ limit = small.0 in
    let first : AllByRecursion (Fits takes limit) (onto_first item fresh) =
    all_fit takes limit (onto_first item fresh)
    (fit_onto takes limit limit item fresh (omega (arith, taken, fitting))
    (fit_after needs takes limit (limit - takes item) others less small.1)) in
    subst (AllByRecursion (Fits takes limit))
    (sym (cond-false (nat_lt limit (needs item)) ([] ∷ onto_first item fresh) (onto_first item fresh)
    (le-ltb limit (needs item) fitting)))
    first

pub packed_fit :
    {A : Type 0} (size : A → ℕ) (limit : ℕ) (items : List A)
    → AllByRecursion (λ item. size item ≤ limit) items
    → AllByRecursion (Fits size limit) (packed size limit items)
packed_fit size limit items small = groups_fit size size limit items (λ item. omega arith) small

-- what the bytes of items are long together
pub length_total :
    {A : Type 0} (spell : A → List ℕ) (items : List A)
    → length (flat_map spell items) ≡ total (λ item. length (spell item)) items
length_total spell [] = refl
length_total spell (item ∷ others) =
    length-append (spell item) (flat_map spell others)
    ∙ ap (λ n. length (spell item) + n) (length_total spell others)

pub count_total : {A : Type 0} (items : List A) → total (λ _. 1) items ≡ length items
count_total [] = refl
count_total (item ∷ others) =
    let e : total (λ _. 1) others ≡ length others = count_total others in omega (arith, e)

-- what holds of all items of two lists
pub all_halves :
    {A : Type 0} (P : A → Type 0) (xs ys : List A) → AllByRecursion P (xs ++ ys)
    → AllByRecursion P xs × AllByRecursion P ys
all_halves P [] ys all = (tt, all)
all_halves P (x ∷ xs) ys all = let h = all_halves P xs ys all.1 in ((all.0, h.0), h.1)

-- what holds of all items holds of those in each group
pub all_in_groups :
    {A : Type 0} (P : A → Type 0) (groups : List (List A))
    → AllByRecursion P (joined groups) → AllByRecursion (AllByRecursion P) groups
all_in_groups P [] all = tt
all_in_groups P (group ∷ groups) all =
    let h = all_halves P group (joined groups) all in (h.0, all_in_groups P groups h.1)
