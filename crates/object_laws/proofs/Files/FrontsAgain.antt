-- What is spelled in front of bytes is read from their front.
use Rattle.object_laws.proofs.Prelude.{◌≡◌, ℕ, zero, suc, ◌+◌, ◌*◌, ◌/◌, ◌%◌, ◌<◌, ◌≤◌, cond, List, [], ◌∷◌, ◌++◌, length, take, drop, flat_map, Some, None, option_map, option_and_then, refl, ap, ◌∙◌, arith, le-leb, length-append, append_assoc, take_at, drop_at, word_bytes, Segment, Absolute, Code, Data, Stack, FixKind, Low, High, Both, SegmentEntry, Reference, segment_number, fix_kind_number, name_bytes, listed_name_bytes, segment_entry_bytes, definition_bytes, reference_bytes, Front, segment_of, fix_kind_of, word_in_front, name_in_front, ended_name, listed_name_in_front, definition_in_front, words_in, references_in, segment_entries_in, at_most, all_in}

-- what is spelled is read, and the bytes after it are left; it has a byte at least
pub record ReadsAgain {A : Type 0} (spell : A → List ℕ) (front : List ℕ → Front A) : Type 0 where
  pub again : (x : A) (rest : List ℕ) → front (spell x ++ rest) ≡ Some (x, rest)
  pub some : (x : A) → 0 < length (spell x)

pub segment_again : (segment : Segment) → segment_of (segment_number segment) ≡ Some segment
segment_again Absolute = refl
segment_again Code = refl
segment_again Data = refl
segment_again Stack = refl

pub fix_kind_again : (kind : FixKind) → fix_kind_of (fix_kind_number kind) ≡ Some kind
fix_kind_again Low = refl
fix_kind_again High = refl
fix_kind_again Both = refl

pub word_of : (number : ℕ) → number % 256 + 256 * (number / 256) ≡ number
word_of number = omega arith

pub word_again : ReadsAgain word_bytes word_in_front
word_again = record {
  again = λ number rest. ap (λ n. Some (n, rest)) (word_of number);
  some = λ number. omega arith;
}

pub name_again : (name rest : List ℕ) → name_in_front (name_bytes name ++ rest) ≡ Some (name, rest)
name_again name rest =
    let longer : length (name ++ rest) ≡ length name + length rest = length-append name rest in
    ap (λ b. cond b (Some (take (length name) (name ++ rest), drop (length name) (name ++ rest))) None)
    (le-leb (length name) (length (name ++ rest)) (omega arith))
    ∙ ap (λ t. Some (t, drop (length name) (name ++ rest))) (take_at name rest (length name) refl)
    ∙ ap (λ d. Some (name, d)) (drop_at name rest (length name) refl)

pub listed_name_again : ReadsAgain listed_name_bytes listed_name_in_front
listed_name_again = record {
  again = λ name rest.
      ap (λ b. listed_name_in_front (length name ∷ b)) (append_assoc name (0 ∷ []) rest)
      ∙ ap (option_and_then (λ (named : List ℕ × List ℕ). ended_name named.0 named.1))
      (name_again name (0 ∷ rest));
  some = λ name. omega arith;
}

pub definition_again : ReadsAgain definition_bytes definition_in_front
definition_again = record {
  again = λ definition rest.
      ap (λ n.
      option_map
      (λ (named : List ℕ × List ℕ). (record { offset = n; name = named.0 }, named.1))
      (listed_name_in_front (listed_name_bytes definition.name ++ rest)))
      (word_of definition.offset)
      ∙ ap (option_map
      (λ (named : List ℕ × List ℕ). (record { offset = definition.offset; name = named.0 }, named.1)))
      (listed_name_again.again definition.name rest);
  some = λ definition. omega arith;
}

pub words_again : (xs : List ℕ) → words_in (flat_map word_bytes xs) ≡ Some xs
words_again [] = refl
words_again (x ∷ xs) =
    ap (λ n. option_map (λ (others : List ℕ). n ∷ others) (words_in (flat_map word_bytes xs))) (word_of x)
    ∙ ap (option_map (λ (others : List ℕ). x ∷ others)) (words_again xs)

pub references_again : (xs : List Reference) → references_in (flat_map reference_bytes xs) ≡ Some xs
references_again [] = refl
references_again (x ∷ xs) =
    ap (λ n.
    option_map
    (λ (others : List Reference).
    record { external = n; offset = x.offset % 256 + 256 * (x.offset / 256) } ∷ others)
    (references_in (flat_map reference_bytes xs)))
    (word_of x.external)
    ∙ ap (λ n.
    option_map (λ (others : List Reference). record { external = x.external; offset = n } ∷ others)
    (references_in (flat_map reference_bytes xs)))
    (word_of x.offset)
    ∙ ap (option_map (λ (others : List Reference). x ∷ others)) (references_again xs)

pub segment_entries_again : (xs : List SegmentEntry)
    → segment_entries_in (flat_map segment_entry_bytes xs) ≡ Some xs
segment_entries_again [] = refl
segment_entries_again (x ∷ xs) =
    ap (option_and_then
    (λ (segment : Segment).
    option_map
    (λ (others : List SegmentEntry).
    record { segment = segment; length = x.length % 256 + 256 * (x.length / 256); alignment = x.alignment }
    ∷ others)
    (segment_entries_in (flat_map segment_entry_bytes xs))))
    (segment_again x.segment)
    ∙ ap (λ n.
    option_map
    (λ (others : List SegmentEntry).
    record { segment = x.segment; length = n; alignment = x.alignment } ∷ others)
    (segment_entries_in (flat_map segment_entry_bytes xs)))
    (word_of x.length)
    ∙ ap (option_map (λ (others : List SegmentEntry). x ∷ others)) (segment_entries_again xs)

at_most_step :
    {A : Type 0} (front : List ℕ → Front A) (count : ℕ) (bytes : List ℕ) (x : A) (rest : List ℕ)
    → 0 < length bytes → front bytes ≡ Some (x, rest)
    → at_most (suc count) front bytes ≡ option_map (λ (others : List A). x ∷ others)
    (at_most count front rest)
at_most_step front count [] x rest h e = absurd (omega arith)
at_most_step {A} front count (byte ∷ others) x rest h e =
    ap (option_and_then
    (λ (read : A × List ℕ). option_map (λ (later : List A). read.0 ∷ later) (at_most count front read.1))) e

pub at_most_nothing : {A : Type 0} (front : List ℕ → Front A) (count : ℕ) → at_most count front [] ≡ Some []
at_most_nothing front zero = refl
at_most_nothing front (suc count) = refl

at_most_again :
    {A : Type 0} (spell : A → List ℕ) (front : List ℕ → Front A) → ReadsAgain spell front
    → (xs : List A) (count : ℕ) → length (flat_map spell xs) ≤ count
    → at_most count front (flat_map spell xs) ≡ Some xs
at_most_again spell front r [] count h = at_most_nothing front count
at_most_again spell front r (x ∷ xs) zero h =
    let longer : length (spell x ++ flat_map spell xs) ≡ length (spell x) + length (flat_map spell xs) =
    length-append (spell x) (flat_map spell xs) in
    let some : 0 < length (spell x) = r.some x in
    absurd (omega arith)
at_most_again {A} spell front r (x ∷ xs) (suc count) h =
    let longer : length (spell x ++ flat_map spell xs) ≡ length (spell x) + length (flat_map spell xs) =
    length-append (spell x) (flat_map spell xs) in
    let some : 0 < length (spell x) = r.some x in
    at_most_step front count (spell x ++ flat_map spell xs) x (flat_map spell xs) (omega arith)
    (r.again x (flat_map spell xs))
    ∙ ap (option_map (λ (others : List A). x ∷ others)) (at_most_again spell front r xs count (omega arith))

pub all_again :
    {A : Type 0} (spell : A → List ℕ) (front : List ℕ → Front A) → ReadsAgain spell front
    → (xs : List A) → all_in front (flat_map spell xs) ≡ Some xs
all_again spell front r xs = at_most_again spell front r xs (length (flat_map spell xs)) (omega arith)
