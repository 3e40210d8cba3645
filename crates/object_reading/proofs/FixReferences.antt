-- What the entries of a fix record refer to, judged one after another.
use Rattle.object_reading.proofs.Prelude.{◌≡◌, ℕ, ◌+◌, ◌*◌, Bool, true, false, ◌&&◌, List, [], ◌∷◌, Option, Some, None, is_some, option_map, unwrap_or, refl, ap, sym, subst, ◌∙◌, list_all, none-some, some_pair_parts, Fix, FixKind, Segment, Absolute, fixes_of, is_empty, Reference, ExternalReferencesPart, RelocationPart, references_in, words_in, external_fix, segment_fix, fix_in_front, is_known, entries_fit}

-- the first entry is judged, and then all others
abbrev FitsFirst :
    (external_count : ℕ) (target : Option Segment) (kind : FixKind) (entries : List ℕ) (fix : Fix)
    (after : List ℕ) → Type 0
FitsFirst external_count target kind entries fix after =
    entries_fit external_count target kind entries
    ≡ (is_known external_count fix.target && entries_fit external_count target kind after)

nothing_fits : (b : Bool) → false ≡ (b && false)
nothing_fits true = refl
nothing_fits false = refl

reference_fits :
    (external_count : ℕ) (kind : FixKind) (first : Reference) (read : Option (List Reference))
    → (is_some (option_map (λ (others : List Reference). first ∷ others) read)
    && list_all (λ (fix : Fix). is_known external_count fix.target)
    (fixes_of Absolute (ExternalReferencesPart kind
    (unwrap_or (option_map (λ (others : List Reference). first ∷ others) read) []))))
    ≡ (is_known external_count (external_fix kind first.external first.offset).target
    && (is_some read
    && list_all (λ (fix : Fix). is_known external_count fix.target)
    (fixes_of Absolute (ExternalReferencesPart kind (unwrap_or read [])))))
reference_fits external_count kind first None =
    nothing_fits (is_known external_count (external_fix kind first.external first.offset).target)
reference_fits external_count kind first (Some others) = refl

word_fits :
    (external_count : ℕ) (target : Segment) (kind : FixKind) (first : ℕ) (read : Option (List ℕ))
    → (is_some (option_map (λ (others : List ℕ). first ∷ others) read)
    && list_all (λ (fix : Fix). is_known external_count fix.target)
    (fixes_of target (RelocationPart kind
    (unwrap_or (option_map (λ (others : List ℕ). first ∷ others) read) []))))
    ≡ (is_some read
    && list_all (λ (fix : Fix). is_known external_count fix.target)
    (fixes_of target (RelocationPart kind (unwrap_or read []))))
word_fits external_count target kind first None = refl
word_fits external_count target kind first (Some others) = refl

as_found :
    (external_count : ℕ) (target : Option Segment) (kind : FixKind) (entries : List ℕ) (fix found : Fix)
    (after rest : List ℕ)
    → FitsFirst external_count target kind entries found rest
    → ◌≡◌ {A = Option (Fix × List ℕ)} (Some (found, rest)) (Some (fix, after))
    → FitsFirst external_count target kind entries fix after
as_found external_count target kind entries fix found after rest f e =
    let p : (found ≡ fix) × (rest ≡ after) = some_pair_parts found fix rest after e in
    subst (λ x. FitsFirst external_count target kind entries x after) p.0
    (subst (FitsFirst external_count target kind entries found) p.1 f)

fits_first :
    (external_count : ℕ) (target : Option Segment) (kind : FixKind) (entries : List ℕ) (fix : Fix)
    (after : List ℕ)
    → fix_in_front target kind entries ≡ Some (fix, after)
    → FitsFirst external_count target kind entries fix after
fits_first external_count None kind [] fix after e = absurd (none-some (fix, after) e)
fits_first external_count None kind (a ∷ []) fix after e = absurd (none-some (fix, after) e)
fits_first external_count None kind (a ∷ b ∷ []) fix after e = absurd (none-some (fix, after) e)
fits_first external_count None kind (a ∷ b ∷ c ∷ []) fix after e = absurd (none-some (fix, after) e)
fits_first external_count None kind (low ∷ high ∷ offset_low ∷ offset_high ∷ rest) fix after e =
    as_found external_count None kind (low ∷ high ∷ offset_low ∷ offset_high ∷ rest) fix
    (external_fix kind (low + 256 * high) (offset_low + 256 * offset_high)) after rest
    (reference_fits external_count kind
    (record { external = low + 256 * high; offset = offset_low + 256 * offset_high }) (references_in rest)) e
fits_first external_count (Some target) kind [] fix after e = absurd (none-some (fix, after) e)
fits_first external_count (Some target) kind (a ∷ []) fix after e = absurd (none-some (fix, after) e)
fits_first external_count (Some target) kind (low ∷ high ∷ rest) fix after e =
    as_found external_count (Some target) kind (low ∷ high ∷ rest) fix
    (segment_fix kind target (low + 256 * high)) after rest
    (word_fits external_count target kind (low + 256 * high) (words_in rest)) e

pub fit_more :
    (external_count : ℕ) (target : Option Segment) (kind : FixKind) (entries : List ℕ) (fix : Fix)
    (after : List ℕ)
    → fix_in_front target kind entries ≡ Some (fix, after) → is_known external_count fix.target ≡ true
    → entries_fit external_count target kind after ≡ entries_fit external_count target kind entries
fit_more external_count target kind entries fix after e known =
    sym (fits_first external_count target kind entries fix after e
    ∙ ap (λ b. b && entries_fit external_count target kind after) known)

pub fit_other :
    (external_count : ℕ) (target : Option Segment) (kind : FixKind) (entries : List ℕ) (fix : Fix)
    (after : List ℕ)
    → fix_in_front target kind entries ≡ Some (fix, after) → is_known external_count fix.target ≡ false
    → entries_fit external_count target kind entries ≡ false
fit_other external_count target kind entries fix after e unknown =
    fits_first external_count target kind entries fix after e
    ∙ ap (λ b. b && entries_fit external_count target kind after) unknown

pub fit_end :
    (external_count : ℕ) (target : Option Segment) (kind : FixKind) (entries : List ℕ)
    → fix_in_front target kind entries ≡ None
    → entries_fit external_count target kind entries ≡ is_empty entries
fit_end external_count None kind [] e = refl
fit_end external_count None kind (a ∷ []) e = refl
fit_end external_count None kind (a ∷ b ∷ []) e = refl
fit_end external_count None kind (a ∷ b ∷ c ∷ []) e = refl
fit_end external_count None kind (low ∷ high ∷ offset_low ∷ offset_high ∷ rest) e =
    absurd (none-some (external_fix kind (low + 256 * high) (offset_low + 256 * offset_high), rest) (sym e))
fit_end external_count (Some target) kind [] e = refl
fit_end external_count (Some target) kind (a ∷ []) e = refl
fit_end external_count (Some target) kind (low ∷ high ∷ rest) e =
    absurd (none-some (segment_fix kind target (low + 256 * high), rest) (sym e))
