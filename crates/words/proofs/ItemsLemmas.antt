-- What an item takes of its text.
use Rattle.words.proofs.Prelude.{◌≡◌, ℕ, suc, ◌+◌, ◌<◌, ◌≤◌, List, [], ◌∷◌, length, take, Bool, true, false, cond, Option, None, Some, Result, Ok, Err, refl, sym, ap, ◌∙◌, arith, not, ◌&&◌, ◌||◌, eqb, find, list_all, prefix_len, take_while, starts_with, nat_lt, nat_eq, IfOk, option_map_or, is_ascii_alphabetic, is_ascii_digit, length-take, length-prefix_len, prefix_len-le-length, Cause, bytes_eq-Decides, nat_tests, Mark, Item, Spelled, Wrong, LONGEST_NAME, is_word_byte, is_blank, is_printable, is_comment_byte, item_at, comment_or_mark, name_of, name_item, kind_of_name, number_item, number_of, FitsIn, further, string_end, string_item, comment_end, comment_item, and_parts}
use Rattle.words.specs.declared.items.Cause.TheVariants.{LongName, BadNumber, BadCharacter}
use Rattle.words.specs.declared.vocabulary.Kind.TheVariants.{Number}
use Rattle.words.specs.Marks.{marks, mark_at, mark_item}

-- both branches of a test
fits_if : (size : ℕ) (b : Bool) (x y : Item)
    → (b ≡ true → FitsIn size x)
    → (b ≡ false → FitsIn size y)
    → FitsIn size (cond b x y)
fits_if size true x y left right = left refl
fits_if size false x y left right = right refl

fits_option : (size : ℕ) {A : Type 0} (f : A → Item) (o : Option A) (other : Item)
    → ((a : A) → o ≡ Some a → FitsIn size (f a))
    → FitsIn size other
    → FitsIn size (option_map_or f o other)
fits_option size f None other each none = none
fits_option size f (Some a) other each none = each a refl

-- a run that begins with its first byte
run_fits : (p : ℕ → Bool) (first : ℕ) (text : List ℕ)
    → p first ≡ true
    → (0 < length (take_while p (first ∷ text)))
    × (length (take_while p (first ∷ text)) ≤ length (first ∷ text))
run_fits p first text passes =
    let run : length (take_while p (first ∷ text)) ≡ 1 + prefix_len p text =
    length-prefix_len p (first ∷ text) ∙ ap (λ b. cond b (1 + prefix_len p text) 0) passes in
    (omega arith, omega (arith, prefix_len-le-length p text))

name_fits : (size : ℕ) (text : List ℕ)
    → (0 < length text) × (length text ≤ size)
    → FitsIn size (name_item text)
name_fits size text fits =
    fits_if size (nat_lt LONGEST_NAME (length (name_of text))) (Wrong LongName)
    (Spelled (kind_of_name (name_of text)) (length text)) (λ _. tt) (λ _. fits)

number_fits : (size : ℕ) (text : List ℕ)
    → (0 < length text) × (length text ≤ size)
    → FitsIn size (number_item text)
number_fits size text fits =
    fits_option size (λ value. Spelled (Number value) (length text)) (number_of (name_of text))
    (Wrong BadNumber) (λ _ _. fits) tt

-- at most so many bytes
abbrev EndsIn : ℕ → Result ℕ Cause → Type 0
EndsIn size end = IfOk end (λ length. length ≤ size)

further_ends : (size : ℕ) (end : Result ℕ Cause) → EndsIn size end → EndsIn (suc size) (further 1 end)
further_ends size (Ok length) ends = omega arith
further_ends size (Err cause) ends = tt

ends_if : (size : ℕ) (b : Bool) (x y : Result ℕ Cause)
    → EndsIn size x
    → EndsIn size y
    → EndsIn size (cond b x y)
ends_if size true x y left right = left
ends_if size false x y left right = right

string_ends : (quoted : Bool) (text : List ℕ) → EndsIn (length text) (string_end quoted text)
string_ends true [] = omega arith
string_ends false [] = tt
string_ends quoted (b ∷ text) =
    let size = suc (length text) in
    let closed : EndsIn size (Ok 0) = omega arith in
    ends_if size (eqb b 39) _ _
    (further_ends (length text) (string_end (not quoted) text) (string_ends (not quoted) text))
    (ends_if size quoted _ _ closed
    (ends_if size (is_printable b) _ _ (further_ends (length text) (string_end false text)
    (string_ends false text)) tt))

comment_ends : (starred : Bool) (text : List ℕ) → EndsIn (length text) (comment_end starred text)
comment_ends starred [] = tt
comment_ends starred (b ∷ text) =
    let size = suc (length text) in
    let closed : EndsIn size (Ok 1) = omega arith in
    ends_if size (starred && eqb b 47) _ _ closed
    (ends_if size (is_comment_byte b) _ _
    (further_ends (length text) (comment_end (eqb b 42) text) (comment_ends (eqb b 42) text)) tt)

string_fits : (size : ℕ) (end : Result ℕ Cause) → EndsIn size end → FitsIn (suc size) (string_item end)
string_fits size (Ok length) ends = (omega arith, omega arith)
string_fits size (Err cause) ends = tt

comment_fits : (size : ℕ) (end : Result ℕ Cause)
    → EndsIn size end
    → FitsIn (suc (suc size)) (comment_item end)
comment_fits size (Ok length) ends = (omega arith, omega arith)
comment_fits size (Err cause) ends = tt

or_middle : (a b c : Bool) → b ≡ true → (a || b || c) ≡ true
or_middle true b c holds = refl
or_middle false b c holds = ap (λ b. b || c) holds

-- what a search finds passes its test, and a test that all elements pass
found_if : {A : Type 0} (p q : A → Bool) (b : Bool) (rest : Option A) (y x : A)
    → p y ≡ b
    → q y ≡ true
    → (rest ≡ Some x → (p x ≡ true) × (q x ≡ true))
    → cond b (Some y) rest ≡ Some x
    → (p x ≡ true) × (q x ≡ true)
found_if p q true rest y x passes all later is =
    let same : y ≡ x = cc in
    (ap p (sym same) ∙ passes, ap q (sym same) ∙ all)
found_if p q false rest y x passes all later is = later is

found : {A : Type 0} (p q : A → Bool) (xs : List A) (x : A)
    → list_all q xs ≡ true
    → find p xs ≡ Some x
    → (p x ≡ true) × (q x ≡ true)
found p q [] x all is = absurd (cc)
found p q (y ∷ ys) x all is =
    found_if p q (p y) (find p ys) y x refl (and_parts (q y) (list_all q ys) all).0
    (found p q ys x (and_parts (q y) (list_all q ys) all).1) is

-- a mark of the table that the text begins with
mark_in_text : (text : List ℕ) (mark : List ℕ × Mark)
    → mark_at text ≡ Some mark
    → (0 < length mark.0) × (length mark.0 ≤ length text)
unfolding mark_at
mark_in_text text mark is =
    let facts =
    found (λ mark. starts_with nat_eq text mark.0) (λ mark. nat_lt 0 (length mark.0))
    marks mark refl is in
    let begins : mark.0 ≡ take (length mark.0) text =
    (bytes_eq-Decides mark.0 (take (length mark.0) text)).0 facts.0 in
    let some : 0 < length mark.0 = grind (arith, nat_tests, facts.1) in
    (some, omega (arith, ap length begins, length-take (length mark.0) text))

mark_fits : (text : List ℕ) → FitsIn (length text) (mark_item text)
mark_fits text =
    fits_option (length text) _ (mark_at text) (Wrong BadCharacter) (λ mark is. mark_in_text text mark is) tt

never_and : (a : Bool) → (a && false) ≡ true → ⊥
never_and true both = cc
never_and false both = cc

comment_or_mark_fits : (first : ℕ) (text : List ℕ) → FitsIn (suc (length text)) (comment_or_mark first text)
comment_or_mark_fits first [] =
    fits_if 1 (eqb first 47 && false) _ _ (λ never. absurd (never_and (eqb first 47) never))
    (λ _. mark_fits (first ∷ []))
comment_or_mark_fits first (second ∷ text) =
    let size = suc (suc (length text)) in
    let body : FitsIn size (comment_item (comment_end false text)) =
    comment_fits (length text) (comment_end false text) (comment_ends false text) in
    fits_if size (eqb first 47 && eqb second 42) _ _ (λ _. body) (λ _. mark_fits (first ∷ second ∷ text))

-- an item takes at least a byte, and none past the end
pub item_fits : (text : List ℕ) → FitsIn (length text) (item_at text)
item_fits [] = tt
item_fits (first ∷ text) =
    let size = suc (length text) in
    fits_if size (is_blank first) _ _ (run_fits is_blank first text)
    (λ _. fits_if size (is_ascii_alphabetic first) _ _
    (λ letter. name_fits size _ (run_fits is_word_byte first text
    (ap (λ a. a || is_ascii_digit first || eqb first 36) letter)))
    (λ _. fits_if size (is_ascii_digit first) _ _
    (λ digit. number_fits size _ (run_fits is_word_byte first text
    (or_middle (is_ascii_alphabetic first) (is_ascii_digit first) (eqb first 36) digit)))
    (λ _. fits_if size (eqb first 39) _ _
    (λ _. string_fits (length text) (string_end false text) (string_ends false text))
    (λ _. comment_or_mark_fits first text))))
