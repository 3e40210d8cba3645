-- What bytes begin with, once it is read, is spelled by them.
use Rattle.object_modules.proofs.Prelude.{◌≡◌, ℕ, zero, suc, ◌+◌, ◌*◌, ◌≤◌, min, ◌==◌, nat_le, List, [], ◌∷◌, ◌++◌, length, take, drop, flat_map, Option, Some, ap, sym, subst, ◌∙◌, arith, eqb-true, leb-true, length-take, take-append-drop, append_assoc, none-some, same_Some, cond_some, option_and_then_some, some_pair_parts, word_bytes, IsBytes, find_passes, word_is, Segment, Absolute, Code, Data, Stack, FixKind, Low, High, Both, SegmentEntry, Reference, segment_number, fix_kind_number, name_bytes, listed_name_bytes, segment_entry_bytes, definition_bytes, reference_bytes, bytes_drop}
use Rattle.object_modules.specs.Reading.{Front, segment_of, fix_kind_of, word_in_front, name_in_front, ended_name, listed_name_in_front, definition_in_front, words_in, references_in, segment_entries_in, at_most, all_in}
pub use Rattle.mem80.proofs.Options.{option_map_some}

-- what is read from the front of bytes is what they begin with
abbrev pub ReadsBack : {A : Type 0} → (A → List ℕ) → (List ℕ → Front A) → Type 0
ReadsBack {A} spell front =
    (bytes : List ℕ) (x : A) (rest : List ℕ) → IsBytes bytes → front bytes ≡ Some (x, rest)
    → (bytes ≡ spell x ++ rest) × IsBytes rest

pub back_by :
    {A : Type 0} (spell : A → List ℕ) (bytes : List ℕ) (y x : A) (others rest : List ℕ)
    → bytes ≡ spell y ++ others → IsBytes others
    → ◌≡◌ {A = Option (A × List ℕ)} (Some (y, others)) (Some (x, rest))
    → (bytes ≡ spell x ++ rest) × IsBytes rest
back_by spell bytes y x others rest spelled all is =
    let p : (y ≡ x) × (others ≡ rest) = some_pair_parts y x others rest is in
    (spelled ∙ ap (λ z. spell z ++ others) p.0 ∙ ap (λ r. spell x ++ r) p.1, subst IsBytes p.1 all)

pub segment_is : (number : ℕ) (segment : Segment) → segment_of number ≡ Some segment
    → segment_number segment ≡ number
segment_is number segment h = eqb-true (segment_number segment) number
    (find_passes (λ s. segment_number s == number) (Absolute ∷ Code ∷ Data ∷ Stack ∷ []) segment h)

pub fix_kind_is : (number : ℕ) (kind : FixKind) → fix_kind_of number ≡ Some kind
    → fix_kind_number kind ≡ number
fix_kind_is number kind h = eqb-true (fix_kind_number kind) number
    (find_passes (λ k. fix_kind_number k == number) (Low ∷ High ∷ Both ∷ []) kind h)

pub word_back : ReadsBack word_bytes word_in_front
word_back [] x rest all h = absurd (none-some (x, rest) h)
word_back (low ∷ []) x rest all h = absurd (none-some (x, rest) h)
word_back (low ∷ high ∷ others) x rest all h =
    back_by word_bytes (low ∷ high ∷ others) (low + 256 * high) x others rest
    (ap (λ w. w ++ others) (sym (word_is low high all.0 all.1.0))) all.1.1 h

pub name_back : ReadsBack name_bytes name_in_front
name_back [] x rest all h = absurd (none-some (x, rest) h)
name_back (size ∷ others) x rest all h =
    let c = cond_some (nat_le size (length others)) (take size others, drop size others) (x, rest) h in
    let fits : size ≤ length others = leb-true size (length others) c.0 in
    let cut : length (take size others) ≡ min size (length others) = length-take size others in
    let long : length (take size others) ≡ size = omega arith in
    back_by name_bytes (size ∷ others) (take size others) x (drop size others) rest
    (ap (λ n. n ∷ others) (sym long)
    ∙ ap (λ r. length (take size others) ∷ r) (sym (take-append-drop size others)))
    (bytes_drop size others all.1) (ap Some c.1)

ended_back :
    (name : List ℕ) (bytes x rest : List ℕ) → IsBytes bytes → ended_name name bytes ≡ Some (x, rest)
    → (name ++ bytes ≡ (x ++ 0 ∷ []) ++ rest) × (name ≡ x) × IsBytes rest
ended_back name [] x rest all h = absurd (none-some (x, rest) h)
ended_back name (last ∷ others) x rest all h =
    let c = cond_some (last == 0) (name, others) (x, rest) h in
    let is_zero : last ≡ 0 = eqb-true last 0 c.0 in
    let p : (name ≡ x) × (others ≡ rest) = some_pair_parts name x others rest (ap Some c.1) in (
      ap (λ b. name ++ b ∷ others) is_zero ∙ sym (append_assoc name (0 ∷ []) others)
          ∙ ap (λ n. (n ++ 0 ∷ []) ++ others) p.0 ∙ ap (λ r. (x ++ 0 ∷ []) ++ r) p.1,
      p.0,
      subst IsBytes p.1 all.1,
    )

pub listed_name_back : ReadsBack listed_name_bytes listed_name_in_front
listed_name_back bytes x rest all h =
    option_and_then_some (λ (named : List ℕ × List ℕ). ended_name named.0 named.1)
    (name_in_front bytes) (x, rest) h
    (λ named first second.
    let n = name_back bytes named.0 named.1 all first in
    let e = ended_back named.0 named.1 x rest n.1 second in
    (n.0 ∙ ap (λ k. length k ∷ named.0 ++ named.1) e.1 ∙ ap (λ r. length x ∷ r) e.0, e.2))

pub definition_back : ReadsBack definition_bytes definition_in_front
definition_back bytes x rest all h =
    option_and_then_some _ (word_in_front bytes) (x, rest) h
    (λ placed first second.
    let w = word_back bytes placed.0 placed.1 all first in
    option_map_some _ (listed_name_in_front placed.1) (x, rest) second
    (λ named third is.
    let n = listed_name_back placed.1 named.0 named.1 w.1 third in
    back_by definition_bytes bytes (record { offset = placed.0; name = named.0 }) x named.1 rest
    (w.0 ∙ ap (λ r. word_bytes placed.0 ++ r) n.0
    ∙ sym (append_assoc (word_bytes placed.0) (listed_name_bytes named.0) named.1))
    n.1 (ap Some is)))

pub words_back : (bytes xs : List ℕ) → IsBytes bytes → words_in bytes ≡ Some xs
    → bytes ≡ flat_map word_bytes xs
words_back [] xs all h = ap (flat_map word_bytes) (same_Some [] xs h)
words_back (a ∷ []) xs all h = absurd (none-some xs h)
words_back (low ∷ high ∷ rest) xs all h =
    option_map_some (λ (later : List ℕ). (low + 256 * high) ∷ later) (words_in rest) xs h
    (λ later found is.
    ap (λ w. w ++ rest) (sym (word_is low high all.0 all.1.0))
    ∙ ap (λ r. word_bytes (low + 256 * high) ++ r) (words_back rest later all.1.1 found)
    ∙ ap (flat_map word_bytes) is)

pub references_back :
    (bytes : List ℕ) (xs : List Reference) → IsBytes bytes → references_in bytes ≡ Some xs
    → bytes ≡ flat_map reference_bytes xs
references_back [] xs all h = ap (flat_map reference_bytes) (same_Some [] xs h)
references_back (a ∷ []) xs all h = absurd (none-some xs h)
references_back (a ∷ b ∷ []) xs all h = absurd (none-some xs h)
references_back (a ∷ b ∷ c ∷ []) xs all h = absurd (none-some xs h)
references_back (low ∷ high ∷ offset_low ∷ offset_high ∷ rest) xs all h =
    let first : Reference = record { external = low + 256 * high; offset = offset_low + 256 * offset_high } in
    option_map_some (λ (later : List Reference). first ∷ later) (references_in rest) xs h
    (λ later found is.
    ap (λ w. (w ++ offset_low ∷ offset_high ∷ []) ++ rest) (sym (word_is low high all.0 all.1.0))
    ∙ ap (λ w. (word_bytes (low + 256 * high) ++ w) ++ rest)
    (sym (word_is offset_low offset_high all.1.1.0 all.1.1.1.0))
    ∙ ap (λ r. reference_bytes first ++ r) (references_back rest later all.1.1.1.1 found)
    ∙ ap (flat_map reference_bytes) is)

pub segment_entries_back :
    (bytes : List ℕ) (xs : List SegmentEntry) → IsBytes bytes → segment_entries_in bytes ≡ Some xs
    → bytes ≡ flat_map segment_entry_bytes xs
segment_entries_back [] xs all h = ap (flat_map segment_entry_bytes) (same_Some [] xs h)
segment_entries_back (a ∷ []) xs all h = absurd (none-some xs h)
segment_entries_back (a ∷ b ∷ []) xs all h = absurd (none-some xs h)
segment_entries_back (a ∷ b ∷ c ∷ []) xs all h = absurd (none-some xs h)
segment_entries_back (number ∷ low ∷ high ∷ alignment ∷ rest) xs all h =
    option_and_then_some _ (segment_of number) xs h
    (λ segment found second.
    let first : SegmentEntry =
    record { segment = segment; length = low + 256 * high; alignment = alignment } in
    option_map_some (λ (later : List SegmentEntry). first ∷ later) (segment_entries_in rest) xs second
    (λ later third is.
    ap (λ n. n ∷ low ∷ high ∷ alignment ∷ rest) (sym (segment_is number segment found))
    ∙ ap (λ w. (segment_number segment ∷ w ++ alignment ∷ []) ++ rest)
    (sym (word_is low high all.1.0 all.1.1.0))
    ∙ ap (λ r. segment_entry_bytes first ++ r) (segment_entries_back rest later all.1.1.1.1 third)
    ∙ ap (flat_map segment_entry_bytes) is))

-- what is read to the end of bytes spells them, each after the other
pub at_most_back :
    {A : Type 0} (spell : A → List ℕ) (front : List ℕ → Front A) → ReadsBack spell front
    → (count : ℕ) (bytes : List ℕ) (xs : List A) → IsBytes bytes → at_most count front bytes ≡ Some xs
    → bytes ≡ flat_map spell xs
at_most_back spell front back zero [] xs all h = ap (flat_map spell) (same_Some [] xs h)
at_most_back spell front back (suc count) [] xs all h = ap (flat_map spell) (same_Some [] xs h)
at_most_back spell front back zero (byte ∷ others) xs all h = absurd (none-some xs h)
at_most_back {A} spell front back (suc count) (byte ∷ others) xs all h =
    option_and_then_some _ (front (byte ∷ others)) xs h
    (λ read first second.
    let r = back (byte ∷ others) read.0 read.1 all first in
    option_map_some (λ (later : List A). read.0 ∷ later) (at_most count front read.1) xs second
    (λ later third is.
    r.0 ∙ ap (λ b. spell read.0 ++ b) (at_most_back spell front back count read.1 later r.1 third)
    ∙ ap (flat_map spell) is))

pub all_back :
    {A : Type 0} (spell : A → List ℕ) (front : List ℕ → Front A) → ReadsBack spell front
    → (bytes : List ℕ) (xs : List A) → IsBytes bytes → all_in front bytes ≡ Some xs
    → bytes ≡ flat_map spell xs
all_back spell front back bytes xs all h = at_most_back spell front back (length bytes) bytes xs all h
