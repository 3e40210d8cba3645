-- The next fix of the entries of a fix record.
use Rattle.object_reading.proofs.Prelude.{◌≡◌, ℕ, ◌+◌, ◌*◌, ◌<◌, true, false, List, [], ◌∷◌, length, Option, Some, None, IsTrue, is_some, option_map, unwrap_or, refl, ap, sym, subst, ◌∙◌, arith, none-some, some_pair_parts, Fix, FixKind, Segment, Absolute, fixes_of, Reference, ExternalReferencesPart, RelocationPart, references_in, words_in, AreFixEntries, fixes_in, external_fix, segment_fix, fix_in_front}

-- the fix that entries begin with is handed out
pub record NextFix (target : Option Segment) (kind : FixKind) (entries : List ℕ) (fix : Fix)
    (after : List ℕ) : Type 0 where
  pub left : fixes_in target kind entries ≡ fix ∷ fixes_in target kind after
  pub are : AreFixEntries target after

reference_first :
    (kind : FixKind) (low high offset_low offset_high : ℕ) (rest : List ℕ) (others : Option (List Reference))
    → references_in rest ≡ others
    → IsTrue
    (is_some
    (option_map
    (λ (later : List Reference). record { external = low + 256 * high; offset = offset_low + 256 * offset_high } ∷ later) others))
    → NextFix None kind (low ∷ high ∷ offset_low ∷ offset_high ∷ rest)
    (external_fix kind (low + 256 * high) (offset_low + 256 * offset_high)) rest
reference_first kind low high offset_low offset_high rest None e are =
    absurd (let bad : false ≡ true = are in cc)
reference_first kind low high offset_low offset_high rest (Some others) e are =
    let first : Reference = record { external = low + 256 * high; offset = offset_low + 256 * offset_high } in
    record {
      left =
          ap (λ o. fixes_of Absolute (ExternalReferencesPart kind
          (unwrap_or (option_map (λ (later : List Reference). first ∷ later) o) []))) e
          ∙ ap (λ o.
          external_fix kind (low + 256 * high) (offset_low + 256 * offset_high)
          ∷ fixes_of Absolute (ExternalReferencesPart kind (unwrap_or o []))) (sym e);
      are = ap is_some e;
    }

word_first :
    (target : Segment) (kind : FixKind) (low high : ℕ) (rest : List ℕ) (others : Option (List ℕ))
    → words_in rest ≡ others
    → IsTrue (is_some (option_map (λ (later : List ℕ). (low + 256 * high) ∷ later) others))
    → NextFix (Some target) kind (low ∷ high ∷ rest)
    (segment_fix kind target (low + 256 * high)) rest
word_first target kind low high rest None e are = absurd (let bad : false ≡ true = are in cc)
word_first target kind low high rest (Some others) e are = record {
  left =
      ap (λ o. fixes_of target (RelocationPart kind
      (unwrap_or (option_map (λ (later : List ℕ). (low + 256 * high) ∷ later) o) []))) e
      ∙ ap (λ o.
      segment_fix kind target (low + 256 * high)
      ∷ fixes_of target (RelocationPart kind (unwrap_or o []))) (sym e);
  are = ap is_some e;
}

fix_first :
    (target : Option Segment) (kind : FixKind) (entries : List ℕ) (fix found : Fix) (after rest : List ℕ)
    → NextFix target kind entries found rest
    → ◌≡◌ {A = Option (Fix × List ℕ)} (Some (found, rest)) (Some (fix, after))
    → NextFix target kind entries fix after
fix_first target kind entries fix found after rest n e =
    let p : (found ≡ fix) × (rest ≡ after) = some_pair_parts found fix rest after e in
    subst (λ f. NextFix target kind entries f after) p.0 (subst (NextFix target kind entries found) p.1 n)

pub next_fix_is :
    (target : Option Segment) (kind : FixKind) (entries : List ℕ) (fix : Fix) (after : List ℕ)
    → AreFixEntries target entries → fix_in_front target kind entries ≡ Some (fix, after)
    → NextFix target kind entries fix after
next_fix_is None kind [] fix after are e = absurd (none-some (fix, after) e)
next_fix_is None kind (a ∷ []) fix after are e = absurd (none-some (fix, after) e)
next_fix_is None kind (a ∷ b ∷ []) fix after are e = absurd (none-some (fix, after) e)
next_fix_is None kind (a ∷ b ∷ c ∷ []) fix after are e = absurd (none-some (fix, after) e)
next_fix_is None kind (low ∷ high ∷ offset_low ∷ offset_high ∷ rest) fix after are e =
    fix_first None kind (low ∷ high ∷ offset_low ∷ offset_high ∷ rest) fix
    (external_fix kind (low + 256 * high) (offset_low + 256 * offset_high)) after rest
    (reference_first kind low high offset_low offset_high rest (references_in rest) refl are) e
next_fix_is (Some target) kind [] fix after are e = absurd (none-some (fix, after) e)
next_fix_is (Some target) kind (a ∷ []) fix after are e = absurd (none-some (fix, after) e)
next_fix_is (Some target) kind (low ∷ high ∷ rest) fix after are e =
    fix_first (Some target) kind (low ∷ high ∷ rest) fix
    (segment_fix kind target (low + 256 * high)) after rest
    (word_first target kind low high rest (words_in rest) refl are) e

pub no_fix :
    (target : Option Segment) (kind : FixKind) (entries : List ℕ) → AreFixEntries target entries
    → fix_in_front target kind entries ≡ None → entries ≡ []
no_fix None kind [] are e = refl
no_fix None kind (a ∷ []) are e = absurd (let bad : false ≡ true = are in cc)
no_fix None kind (a ∷ b ∷ []) are e = absurd (let bad : false ≡ true = are in cc)
no_fix None kind (a ∷ b ∷ c ∷ []) are e = absurd (let bad : false ≡ true = are in cc)
no_fix None kind (low ∷ high ∷ offset_low ∷ offset_high ∷ rest) are e =
    absurd (none-some (external_fix kind (low + 256 * high) (offset_low + 256 * offset_high), rest) (sym e))
no_fix (Some target) kind [] are e = refl
no_fix (Some target) kind (a ∷ []) are e = absurd (let bad : false ≡ true = are in cc)
no_fix (Some target) kind (low ∷ high ∷ rest) are e =
    absurd (none-some (segment_fix kind target (low + 256 * high), rest) (sym e))

pub fixes_then :
    (target : Option Segment) (kind : FixKind) (entries : List ℕ) (fix : Fix) (after : List ℕ)
    → AreFixEntries target entries → fix_in_front target kind entries ≡ Some (fix, after)
    → fixes_in target kind entries ≡ fix ∷ fixes_in target kind after
fixes_then target kind entries fix after are e = (next_fix_is target kind entries fix after are e).left

pub entries_then :
    (target : Option Segment) (kind : FixKind) (entries : List ℕ) (fix : Fix) (after : List ℕ)
    → AreFixEntries target entries → fix_in_front target kind entries ≡ Some (fix, after)
    → AreFixEntries target after
entries_then target kind entries fix after are e = (next_fix_is target kind entries fix after are e).are

same_length : (kind : FixKind) (a b : List ℕ) (found fix : Fix)
    → ◌≡◌ {A = Option (Fix × List ℕ)} (Some (found, a)) (Some (fix, b)) → length a ≡ length b
same_length kind a b found fix e = ap length (some_pair_parts found fix a b e).1

pub fewer_then :
    (target : Option Segment) (kind : FixKind) (entries : List ℕ) (fix : Fix) (after : List ℕ)
    → fix_in_front target kind entries ≡ Some (fix, after) → length after < length entries
fewer_then None kind [] fix after e = absurd (none-some (fix, after) e)
fewer_then None kind (a ∷ []) fix after e = absurd (none-some (fix, after) e)
fewer_then None kind (a ∷ b ∷ []) fix after e = absurd (none-some (fix, after) e)
fewer_then None kind (a ∷ b ∷ c ∷ []) fix after e = absurd (none-some (fix, after) e)
fewer_then None kind (low ∷ high ∷ offset_low ∷ offset_high ∷ rest) fix after e =
    let same : length rest ≡ length after = same_length kind rest after
    (external_fix kind (low + 256 * high) (offset_low + 256 * offset_high)) fix e in
    omega (arith, same)
fewer_then (Some target) kind [] fix after e = absurd (none-some (fix, after) e)
fewer_then (Some target) kind (a ∷ []) fix after e = absurd (none-some (fix, after) e)
fewer_then (Some target) kind (low ∷ high ∷ rest) fix after e =
    let same : length rest ≡ length after = same_length kind rest after
    (segment_fix kind target (low + 256 * high)) fix e in
    omega (arith, same)
