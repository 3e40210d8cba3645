-- The characters of a name, byte by byte.
use Rattle.words.proofs.Prelude.{◌≡◌, ◌≢◌, ℕ, List, [], ◌∷◌, ◌++◌, length, map, not, eqb, false, ap, ◌∙◌, arith, cond, filter, count_by, to_ascii_uppercase, length-map, map-append, length-filter, filter-append, nat_tests, bytes_eq, bytes_eq-Decides, name_of, false_from_ne_true}

-- a name has as many characters as bytes other than `$`
pub length-name_of : (text : List ℕ) → length (name_of text) ≡ count_by (λ b. not (eqb b 36)) text
length-name_of text =
    length-map (filter (λ b. not (eqb b 36)) text) to_ascii_uppercase
    ∙ length-filter (λ b. not (eqb b 36)) text

pub name_of-append : (front back : List ℕ) → name_of (front ++ back) ≡ name_of front ++ name_of back
name_of-append front back =
    ap (map to_ascii_uppercase) (filter-append (λ b. not (eqb b 36)) front back)
    ∙ map-append to_ascii_uppercase (filter (λ b. not (eqb b 36)) front)
    (filter (λ b. not (eqb b 36)) back)

-- a byte other than `$` is one character
pub name_of-character : (b : ℕ) → b ≢ 36 → name_of (b ∷ []) ≡ to_ascii_uppercase b ∷ []
name_of-character b significant =
    let fails : eqb b 36 ≡ false = grind (arith, nat_tests) in
    ap (λ test. map to_ascii_uppercase (cond (not test) (b ∷ []) [])) fails

-- lists of different lengths are not equal
pub other_length : (xs ys : List ℕ) → length xs ≢ length ys → bytes_eq xs ys ≡ false
other_length xs ys differ = false_from_ne_true (bytes_eq xs ys) (λ same. differ (ap length ((bytes_eq-Decides xs ys).0 same)))
