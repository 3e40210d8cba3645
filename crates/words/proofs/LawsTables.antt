-- The tables of marks and of reserved words.
use Rattle.words.proofs.Prelude.{◌≡◌, ℕ, ◌≤◌, List, [], ◌∷◌, length, Bool, true, false, not, cond, ◌&&◌, Option, Some, refl, sym, ap, ◌∙◌, arith, IsTrue, IsSomeAnd, nat_le, nat_eq, All, AllByRecursion, find, list_all, starts_with, bytes_eq, All-from_recursion, bytes_eq-Decides, false≢true, nat_tests, Mark, reserved_words, reserved_of, word_in, and_parts, not-true}
use Rattle.words.specs.declared.vocabulary.ReservedWord.{ReservedWord}
use Rattle.words.specs.Marks.{marks, mark_at}

-- no mark is longer than one before it
abbrev lengths_fall : List (List ℕ × Mark) → Bool
lengths_fall [] = true
lengths_fall (mark ∷ table) =
    list_all (λ later. nat_le (length later.0) (length mark.0)) table && lengths_fall table

-- the found mark is at least as long as a mark that passes
abbrev Outlasts : (List ℕ × Mark → Bool) → Option (List ℕ × Mark) → List ℕ × Mark → Type 0
Outlasts p taken mark = IsTrue (p mark) → IsSomeAnd taken (λ found. length mark.0 ≤ length found.0)

all_shorter : (p : List ℕ × Mark → Bool) (first : List ℕ × Mark) (table : List (List ℕ × Mark))
    → list_all (λ later. nat_le (length later.0) (length first.0)) table ≡ true
    → AllByRecursion (Outlasts p (Some first)) table
all_shorter p first [] shorter = tt
all_shorter p first (mark ∷ table) shorter =
    let test : Bool = nat_le (length mark.0) (length first.0) in
    let others : Bool = list_all (λ later. nat_le (length later.0) (length first.0)) table in
    let passes : nat_le (length mark.0) (length first.0) ≡ true = (and_parts test others shorter).0 in
    let fits : length mark.0 ≤ length first.0 = grind (arith, nat_tests) in
    (λ _. fits, all_shorter p first table (and_parts test others shorter).1)

outlasts_if : (p : List ℕ × Mark → Bool) (first : List ℕ × Mark) (table : List (List ℕ × Mark)) (b : Bool)
    → p first ≡ b
    → list_all (λ later. nat_le (length later.0) (length first.0)) table ≡ true
    → AllByRecursion (Outlasts p (find p table)) table
    → AllByRecursion (Outlasts p (cond b (Some first) (find p table))) (first ∷ table)
outlasts_if p first table true is shorter rest = (λ _. omega arith, all_shorter p first table shorter)
outlasts_if p first table false is shorter rest = (λ passes. absurd (false≢true (sym is ∙ passes)), rest)

outlasts : (p : List ℕ × Mark → Bool) (table : List (List ℕ × Mark))
    → lengths_fall table ≡ true
    → AllByRecursion (Outlasts p (find p table)) table
outlasts p [] falls = tt
outlasts p (mark ∷ table) falls =
    outlasts_if p mark table (p mark) refl (and_parts _ _ falls).0 (outlasts p table (and_parts _ _ falls).1)

pub longest_mark : (text : List ℕ)
    → All (Outlasts (λ mark. starts_with nat_eq text mark.0) (mark_at text)) marks
unfolding mark_at
longest_mark text =
    All-from_recursion (Outlasts (λ mark. starts_with nat_eq text mark.0) (mark_at text)) marks
    (outlasts (λ mark. starts_with nat_eq text mark.0) marks refl)

-- no two entries are written alike
abbrev all_differ : List (List ℕ × ReservedWord) → Bool
all_differ [] = true
all_differ (entry ∷ table) = list_all (λ later. not (bytes_eq entry.0 later.0)) table && all_differ table

past_other : (entry : List ℕ × ReservedWord) (table rest : List (List ℕ × ReservedWord))
    → list_all (λ later. not (bytes_eq entry.0 later.0)) rest ≡ true
    → AllByRecursion (λ later. word_in table later.0 ≡ Some later.1) rest
    → AllByRecursion (λ later. word_in (entry ∷ table) later.0 ≡ Some later.1) rest
past_other entry table [] differs found = tt
past_other entry table (later ∷ rest) differs found =
    let other : bytes_eq entry.0 later.0 ≡ false = not-true _ (and_parts _ _ differs).0 in
    (ap (λ b. cond b (Some (entry.1)) (word_in table later.0)) other ∙ found.0, past_other entry table rest (and_parts _ _ differs).1 found.1)

each_found : (table : List (List ℕ × ReservedWord))
    → all_differ table ≡ true
    → AllByRecursion (λ entry. word_in table entry.0 ≡ Some entry.1) table
each_found [] differ = tt
each_found (entry ∷ table) differ =
    let same : bytes_eq entry.0 entry.0 ≡ true = (bytes_eq-Decides entry.0 entry.0).1 refl in
    (ap (λ b. cond b (Some (entry.1)) (word_in table entry.0)) same, past_other entry table table (and_parts _ _ differ).0 (each_found table (and_parts _ _ differ).1))

pub each_reserved_word : All (λ entry. reserved_of entry.0 ≡ Some entry.1) reserved_words
unfolding reserved_of reserved_words
each_reserved_word = All-from_recursion (λ entry. word_in reserved_words entry.0 ≡ Some entry.1) reserved_words (each_found reserved_words refl)
