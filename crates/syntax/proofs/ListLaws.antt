-- The laws of reading lists: without counts, what is read is spelled so, and what is spelled is read again.
use Rattle.syntax.proofs.Prelude.{◌≡◌, ⊎_elim, ℕ, zero, suc, ◌≤◌, ◌<◌, Bool, true, false, List, [], ◌∷◌, drop, length, length-drop, Option, Some, None, Ok, Err, if◌then◌else◌, refl, sym, ◌∙◌, ap, subst, arith, AllByRecursion, Comma, IsNotEmpty, more_after_commas, between_commas, Symbol, MarkSymbol, more_items, all_more_items, items, many_items, many, Keeps, Shrinks, Parser, Cause, Unexpected, Reading, ◌>>=◌, at_mark}
use Rattle.syntax.proofs.ReaderLemmas.{at_mark-is, if_true, if_false, if_cases, guarded_ok, bind_ok, bind_at, bind_fails, read, same_reading}

-- an item, and then others
abbrev pub item_then : {A : Type 0} → (Parser A) → (Parser (List A)) → Parser (List A)
item_then item again symbols = do
  first ← item symbols
  others ← again first.1
  Ok (first.0 ∷ others.0, others.1)

-- an item alone matters where what goes on is the same
pub item_then-same : {A : Type 0} (item : Parser A) (again other : Parser (List A)) (s : List Symbol)
    → ((a : A) (r : List Symbol) → item s ≡ read a r → again r ≡ other r)
    → item_then item again s ≡ item_then item other s
item_then-same {A} item again other s same = go (item s) same
  where
    go : (r : Reading A) → ((a : A) (rest : List Symbol) → r ≡ read a rest → again rest ≡ other rest)
        → (r >>= (λ first. again first.1 >>= (λ others. read (first.0 ∷ others.0) others.1)))
        ≡ (r >>= (λ first. other first.1 >>= (λ others. read (first.0 ∷ others.0) others.1)))
    go (Ok x) h = ap (λ t. t >>= (λ others. read (x.0 ∷ others.0) others.1)) (h x.0 x.1 refl)
    go (Err c) h = refl

-- any count that is enough gives the same
pub more_items-enough : {A : Type 0} (item : Parser A)
    → Keeps item
    → (count more : ℕ) (s : List Symbol)
    → length s ≤ count
    → length s ≤ more
    → more_items item count s ≡ more_items item more s
more_items-enough item keeps zero zero s l h = refl
more_items-enough item keeps zero (suc more) [] l h = refl
more_items-enough item keeps zero (suc more) (x ∷ s) l h = absurd (omega arith)
more_items-enough item keeps (suc count) zero [] l h = refl
more_items-enough item keeps (suc count) zero (x ∷ s) l h = absurd (omega arith)
more_items-enough item keeps (suc count) (suc more) [] l h = refl
more_items-enough item keeps (suc count) (suc more) (x ∷ s) l h =
    ap (λ t. if at_mark Comma (x ∷ s) then t else read [] (x ∷ s))
    (item_then-same item (more_items item count) (more_items item more) s
    (λ a r e. let short : length r ≤ length s = keeps s r a e in
    more_items-enough item keeps count more r (omega arith) (omega arith)))

-- {`,` item}
pub all_more_items-step : {A : Type 0} (item : Parser A) → Keeps item → (s : List Symbol)
    → all_more_items item s
    ≡ (if at_mark Comma s then item_then item (all_more_items item) (drop 1 s) else read [] s)
unfolding all_more_items
all_more_items-step item keeps [] = refl
all_more_items-step item keeps (x ∷ s) =
    ap (λ t. if at_mark Comma (x ∷ s) then t else read [] (x ∷ s))
    (item_then-same item (more_items item (length s)) (all_more_items item) s
    (λ a r e. let short : length r ≤ length s = keeps s r a e in
    more_items-enough item keeps (length s) (length r) r (omega arith) (omega arith)))

-- where there is nothing left and no end, there is no item
pub many_items-enough : {A : Type 0} (ends : List Symbol → Bool) (item : Parser A)
    → Shrinks item
    → item [] ≡ Err Unexpected
    → (count more : ℕ) (s : List Symbol)
    → length s ≤ count
    → length s ≤ more
    → many_items ends item count s ≡ many_items ends item more s
many_items-enough ends item shrinks none zero zero s l h = refl
many_items-enough ends item shrinks none zero (suc more) [] l h =
    ap (λ t. if ends [] then read [] [] else t) (sym (bind_fails (item []) _ Unexpected none))
many_items-enough ends item shrinks none zero (suc more) (x ∷ s) l h = absurd (omega arith)
many_items-enough ends item shrinks none (suc count) zero [] l h =
    ap (λ t. if ends [] then read [] [] else t) (bind_fails (item []) _ Unexpected none)
many_items-enough ends item shrinks none (suc count) zero (x ∷ s) l h = absurd (omega arith)
many_items-enough ends item shrinks none (suc count) (suc more) s l h =
    ap (λ t. if ends s then read [] s else t)
    (item_then-same item (many_items ends item count) (many_items ends item more) s
    (λ a r e. let short : length r < length s = shrinks s r a e in
    many_items-enough ends item shrinks none count more r (omega arith) (omega arith)))

-- if an item can be read at all, then there is none where nothing is left
abbrev pub Starts : {A : Type 0} → (Parser A) → Type 0
Starts {A} item =
    (symbols rest : List Symbol) (a : A) → item symbols ≡ Ok (a, rest) → item [] ≡ Err Unexpected

-- {item}, where there is a symbol
pub many-step : {A : Type 0} (ends : List Symbol → Bool) (item : Parser A)
    → Shrinks item
    → Starts item
    → (s : List Symbol)
    → 0 < length s
    → many ends item s ≡ (if ends s then read [] s else item_then item (many ends item) s)
unfolding many
many-step ends item shrinks starts [] long = absurd (omega arith)
many-step ends item shrinks starts (x ∷ s) long =
    ap (λ t. if ends (x ∷ s) then read [] (x ∷ s) else t)
    (item_then-same item (many_items ends item (length s)) (many ends item) (x ∷ s)
    (λ a r e.
    let short : length r < length (x ∷ s) = shrinks (x ∷ s) r a e in
    many_items-enough ends item shrinks (starts (x ∷ s) r a e) (length s) (length r) r (omega arith)
    (omega arith)))

-- {item}, where nothing is left
pub many-nothing : {A : Type 0} (ends : List Symbol → Bool) (item : Parser A)
    → many ends item [] ≡ (if ends [] then read [] [] else Err Unexpected)
unfolding many
many-nothing ends item = refl

-- {item}, where the list ends
pub many-end : {A : Type 0} (ends : List Symbol → Bool) (item : Parser A) (s : List Symbol)
    → ends s ≡ true
    → many ends item s ≡ read [] s
unfolding many
many-end ends item [] end = if_true (ends []) _ _ end
many-end ends item (x ∷ s) end = if_true (ends (x ∷ s)) _ _ end

-- the parts of an item and others
pub item_then-ok : {A : Type 0} (item : Parser A) (again : Parser (List A)) (s r : List Symbol) (all : List A)
    → item_then item again s ≡ read all r
    → (a : A) × (rest : List Symbol) × (others : List A) × (item s ≡ read a rest)
    × (again rest ≡ read others r) × (all ≡ a ∷ others)
item_then-ok item again s r all e =
    let first = bind_ok (item s) _ _ e in
    let others = bind_ok (again first.0.1) _ _ first.2 in
    let same = same_reading (first.0.0 ∷ others.0.0) all others.0.1 r others.2 in
    (first.0.0, first.0.1, others.0.0, first.1, others.1 ∙ ap (λ q. read others.0.0 q) same.1, sym same.0)

-- what an item is spelled by, and what holds of it
abbrev pub IsSound : {A : Type 0} → (Parser A) → (A → List Symbol → List Symbol) → (A → Type 0) → Type 0
IsSound {A} item spell P =
    (symbols rest : List Symbol) (a : A) → item symbols ≡ Ok (a, rest) → (symbols ≡ spell a rest) × P a

-- what items after commas are spelled by
abbrev IsRest : {A : Type 0}
    → (A → List Symbol → List Symbol)
    → (A → Type 0)
    → List Symbol
    → List Symbol
    → List A
    → Type 0
IsRest spell P s r all = (s ≡ more_after_commas spell all r) × AllByRecursion P all

no_rest : {A : Type 0} (spell : A → List Symbol → List Symbol) (P : A → Type 0) (s r : List Symbol)
    (all : List A)
    → read [] s ≡ read all r
    → IsRest spell P s r all
no_rest spell P s r [] e = ((same_reading [] [] s r e).1, tt)
no_rest spell P s r (a ∷ all) e = absurd (let none : [] ≡ a ∷ all = (same_reading [] (a ∷ all) s r e).0 in cc)

more_items-sound : {A : Type 0} (item : Parser A) (spell : A → List Symbol → List Symbol) (P : A → Type 0)
    → IsSound item spell P
    → (count : ℕ) (s r : List Symbol) (all : List A)
    → more_items item count s ≡ read all r
    → IsRest spell P s r all
more_items-sound item spell P sound zero s r all e = no_rest spell P s r all e
more_items-sound item spell P sound (suc count) s r all e =
    ⊎_elim
    (λ yes_comma.
    let parts = item_then-ok item (more_items item count) (drop 1 s) r all yes_comma.1 in
    let first = sound (drop 1 s) parts.1 parts.0 parts.3 in
    let later = more_items-sound item spell P sound count parts.1 r parts.2 parts.4 in
    let comma : s ≡ MarkSymbol Comma ∷ drop 1 s = at_mark-is Comma s yes_comma.0 in
    let spelled : s ≡ more_after_commas spell (parts.0 ∷ parts.2) r =
    comma ∙ ap (λ k. MarkSymbol Comma ∷ k) (first.0 ∙ ap (spell parts.0) later.0) in
    subst (IsRest spell P s r) (sym parts.5) (spelled, (first.1, later.1)))
    (λ no_comma. no_rest spell P s r all no_comma.1)
    (if_cases (at_mark Comma s) _ _ _ e)

-- what items are spelled by
pub items-sound : {A : Type 0} (item : Parser A) (spell : A → List Symbol → List Symbol) (P : A → Type 0)
    → IsSound item spell P
    → (s r : List Symbol) (all : List A)
    → items item s ≡ read all r
    → (s ≡ between_commas spell all r) × IsNotEmpty all × AllByRecursion P all
unfolding all_more_items
items-sound item spell P sound s r all e =
    let parts = item_then-ok item (all_more_items item) s r all e in
    let first = sound s parts.1 parts.0 parts.3 in
    let later = more_items-sound item spell P sound (length parts.1) parts.1 r parts.2 parts.4 in
    let spelled : s ≡ between_commas spell (parts.0 ∷ parts.2) r = first.0 ∙ ap (spell parts.0) later.0 in
    subst (λ l. (s ≡ between_commas spell l r) × IsNotEmpty l × AllByRecursion P l) (sym parts.5)
    (spelled, tt, (first.1, later.1))

-- what is read, or why there is nothing
abbrev pub gave : {A : Type 0} → Option Cause → A → Parser A
gave None a rest = Ok (a, rest)
gave (Some cause) a rest = Err cause

-- the fault that comes first
abbrev pub earlier : Option Cause → Option Cause → Option Cause
earlier None other = other
earlier (Some cause) other = Some cause

abbrev pub first_fault : {A : Type 0} → (A → Option Cause) → List A → Option Cause
first_fault fault [] = None
first_fault fault (first ∷ others) = earlier (fault first) (first_fault fault others)

-- an item and others, with their faults
pub item_then-gave : {A : Type 0} (item : Parser A) (again : Parser (List A)) (s rest r : List Symbol) (a : A)
    (others : List A) (fault other : Option Cause)
    → item s ≡ gave fault a rest
    → again rest ≡ gave other others r
    → item_then item again s ≡ gave (earlier fault other) (a ∷ others) r
item_then-gave item again s rest r a others (Some cause) other e h = bind_fails (item s) _ cause e
item_then-gave item again s rest r a others None (Some cause) e h =
    bind_at (item s) _ (a, rest) e ∙ bind_fails (again rest) _ cause h
item_then-gave item again s rest r a others None None e h =
    bind_at (item s) _ (a, rest) e ∙ bind_at (again rest) _ (others, r) h

-- each value that has the form is read again, or has a fault, where what stands after it may stand there
abbrev pub Reads : {A : Type 0}
    → (Parser A)
    → (A → List Symbol → List Symbol)
    → (A → Type 0)
    → (List Symbol → Type 0)
    → (A → Option Cause)
    → Type 0
Reads {A} item spell P Follows fault =
    (a : A) (rest : List Symbol) → P a → Follows rest → item (spell a rest) ≡ gave (fault a) a rest

more_items-reads : {A : Type 0} (item : Parser A) (spell : A → List Symbol → List Symbol) (P : A → Type 0)
    (Follows : List Symbol → Type 0) (fault : A → Option Cause)
    → Keeps item → Reads item spell P Follows fault
    → ((rest : List Symbol) → Follows (MarkSymbol Comma ∷ rest))
    → (all : List A) (r : List Symbol) → AllByRecursion P all → Follows r → at_mark Comma r ≡ false
    → all_more_items item (more_after_commas spell all r) ≡ gave (first_fault fault all) all r
more_items-reads item spell P Follows fault keeps reads comma [] r h later ends =
    all_more_items-step item keeps r ∙ if_false (at_mark Comma r) _ _ ends
more_items-reads item spell P Follows fault keeps reads comma (a ∷ []) r h later ends =
    all_more_items-step item keeps (more_after_commas spell (a ∷ []) r)
    ∙ item_then-gave item (all_more_items item) (spell a r) r r a [] (fault a) None (reads a r h.0 later)
    (more_items-reads item spell P Follows fault keeps reads comma [] r h.1 later ends)
more_items-reads item spell P Follows fault keeps reads comma (a ∷ b ∷ all) r h later ends =
    let others : List Symbol = more_after_commas spell (b ∷ all) r in
    all_more_items-step item keeps (more_after_commas spell (a ∷ b ∷ all) r)
    ∙ item_then-gave item (all_more_items item) (spell a others) others r a (b ∷ all) (fault a)
    (first_fault fault (b ∷ all))
    (reads a others h.0 (comma _))
    (more_items-reads item spell P Follows fault keeps reads comma (b ∷ all) r h.1 later ends)

-- items that are spelled are read again
pub items-reads : {A : Type 0} (item : Parser A) (spell : A → List Symbol → List Symbol) (P : A → Type 0)
    (Follows : List Symbol → Type 0) (fault : A → Option Cause)
    → Keeps item → Reads item spell P Follows fault
    → ((rest : List Symbol) → Follows (MarkSymbol Comma ∷ rest))
    → (all : List A) (r : List Symbol)
    → IsNotEmpty all
    → AllByRecursion P all
    → Follows r
    → at_mark Comma r ≡ false
    → items item (between_commas spell all r) ≡ gave (first_fault fault all) all r
items-reads item spell P Follows fault keeps reads comma [] r some h later ends = absurd some
items-reads item spell P Follows fault keeps reads comma (a ∷ []) r some h later ends =
    item_then-gave item (all_more_items item) (spell a r) r r a [] (fault a) None (reads a r h.0 later)
    (more_items-reads item spell P Follows fault keeps reads comma [] r tt later ends)
items-reads item spell P Follows fault keeps reads comma (a ∷ b ∷ all) r some h later ends =
    let others : List Symbol = more_after_commas spell (b ∷ all) r in
    item_then-gave item (all_more_items item) (spell a others) others r a (b ∷ all) (fault a)
    (first_fault fault (b ∷ all))
    (reads a others h.0 (comma _))
    (more_items-reads item spell P Follows fault keeps reads comma (b ∷ all) r h.1 later ends)
