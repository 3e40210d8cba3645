-- Lines as they are formatted.
use Rattle.object_commands.proofs.Prelude.{◌≡◌, ℕ, suc, ◌==◌, ◌-◌, ◌/◌, ◌%◌, ◌^◌, ◌<◌, ◌≤◌, true, false, List, [], ◌∷◌, ◌++◌, Option, Some, Result, OnOk, IfSome, codes, decimal, ⊎_elim, refl, sym, ap, subst, ◌∙◌, arith, ◌++?◌, char_count, digit_glyph, digits, digits_onto, format_spec, digits_output, padded_integral, styled_digits_output, cases_lt, common_steps, append_assoc, hex_one_digit, hex_two_digits, Appends, Symbol, address_digits, range_line, start_line, symbol_line}

abbrev glyph : ℕ → ℕ
glyph digit = digit_glyph true digit

last_digit : (k n : ℕ) (after : List ℕ) → n < 16 → digits_onto (suc k) 16 true n after ≡ glyph n ∷ after
last_digit k n after small =
    let none : (n / 16 == 0) ≡ true = grind (arith, common_steps) in
    let same : n % 16 ≡ n = omega arith in
    rw (none, same) refl

next_digit : (k n : ℕ) (after : List ℕ) → 16 ≤ n
    → digits_onto (suc k) 16 true n after ≡ digits_onto k 16 true (n / 16) (glyph (n % 16) ∷ after)
next_digit k n after large =
    let more : (n / 16 == 0) ≡ false = grind (arith, common_steps) in
    rw more refl

from_nothing : (n : ℕ) → digits 16 true n ≡ digits_onto 64 16 true n []
unfolding digits
from_nothing n = refl

three_digits : (n : ℕ) → 256 ≤ n → n < 4096
    → digits 16 true n ≡ glyph (n / 256) ∷ glyph (n / 16 % 16) ∷ glyph (n % 16) ∷ []
three_digits n large small =
    let once : n / 16 / 16 ≡ n / 256 = omega arith in
    from_nothing n ∙ next_digit 63 n [] (omega arith)
    ∙ next_digit 62 (n / 16) (glyph (n % 16) ∷ []) (omega arith)
    ∙ last_digit 61 (n / 16 / 16) (glyph (n / 16 % 16) ∷ glyph (n % 16) ∷ []) (omega arith)
    ∙ ap (λ d. glyph d ∷ glyph (n / 16 % 16) ∷ glyph (n % 16) ∷ []) once

four_digits : (n : ℕ) → 4096 ≤ n → n < 65536
    → digits 16 true n ≡ glyph (n / 4096) ∷ glyph (n / 256 % 16) ∷ glyph (n / 16 % 16) ∷ glyph (n % 16) ∷ []
four_digits n large small =
    let second : n / 16 / 16 % 16 ≡ n / 256 % 16 = omega arith in
    let first : n / 16 / 16 / 16 ≡ n / 4096 = omega arith in
    from_nothing n ∙ next_digit 63 n [] (omega arith)
    ∙ next_digit 62 (n / 16) (glyph (n % 16) ∷ []) (omega arith)
    ∙ next_digit 61 (n / 16 / 16) (glyph (n / 16 % 16) ∷ glyph (n % 16) ∷ []) (omega arith)
    ∙ last_digit 60 (n / 16 / 16 / 16) (glyph (n / 16 / 16 % 16) ∷ glyph (n / 16 % 16) ∷ glyph (n % 16) ∷ [])
    (omega arith)
    ∙ ap (λ d. glyph d ∷ glyph (n / 16 / 16 % 16) ∷ glyph (n / 16 % 16) ∷ glyph (n % 16) ∷ []) first
    ∙ ap (λ d. glyph (n / 4096) ∷ glyph d ∷ glyph (n / 16 % 16) ∷ glyph (n % 16) ∷ []) second

abbrev padded_hex : ℕ → List ℕ
padded_hex n = padded_integral (format_spec 32 0 4 4 (2 ^ 64 - 1)) false [] (digits 16 true n)

-- what `{:04X}` writes of an address
hex_glyphs : (n : ℕ) → n < 65536 → padded_hex n
    ≡ glyph (n / 4096) ∷ glyph (n / 256 % 16) ∷ glyph (n / 16 % 16) ∷ glyph (n % 16) ∷ []
unfolding padded_integral char_count
hex_glyphs n small = ⊎_elim
    (λ one.
    let a : n / 4096 ≡ 0 = omega arith in let b : n / 256 % 16 ≡ 0 = omega arith in
    let c : n / 16 % 16 ≡ 0 = omega arith in let d : n % 16 ≡ n = omega arith in
    rw (hex_one_digit true n one, a, b, c, d))
    (λ more. ⊎_elim
    (λ two.
    let a : n / 4096 ≡ 0 = omega arith in let b : n / 256 % 16 ≡ 0 = omega arith in
    let c : n / 16 % 16 ≡ n / 16 = omega arith in
    rw (hex_two_digits true n more two, a, b, c))
    (λ larger. ⊎_elim
    (λ three.
    let a : n / 4096 ≡ 0 = omega arith in let b : n / 256 % 16 ≡ n / 256 = omega arith in
    rw (three_digits n larger three, a, b))
    (λ four. rw (four_digits n four small))
    (cases_lt n 4096))
    (cases_lt n 256))
    (cases_lt n 16)

address_is : (n : ℕ) → n < 65536 → padded_hex n ≡ address_digits n
address_is n small =
    let a : n / 256 / 16 ≡ n / 4096 = omega arith in
    let b : n % 256 / 16 ≡ n / 16 % 16 = omega arith in
    let c : n % 256 % 16 ≡ n % 16 = omega arith in
    hex_glyphs n small ∙ rw (a, b, c) refl

-- a hole `{:04X}`
pub hole_is : (d : _) (spec : _) (n : ℕ) → digits_output d ≡ Some (digits 16 true n)
    → spec ≡ format_spec 32 0 4 4 (2 ^ 64 - 1) → n < 65536
    → styled_digits_output d spec ≡ Some (address_digits n)
hole_is d spec n shown is small = rw (is, shown) (ap Some (address_is n small))

-- lines as they were appended
pub range_written : {E : Type 0} (result : Result (Unit {0}) E) (d : _) (spec : _) (n size : ℕ)
    (old new word : List ℕ)
    → digits_output d ≡ Some (digits 16 true n) → spec ≡ format_spec 32 0 4 4 (2 ^ 64 - 1) → n < 65536
    → OnOk result
    (IfSome (Some word ++? Some (32 ∷ []) ++? styled_digits_output d spec ++? Some
    (32 ∷ (decimal size ++ 10 ∷ []))) (Appends (Some old) (Some new)))
    → OnOk result (new ≡ old ++ range_line word n size)
range_written result d spec n size old new word shown is small wrote =
    let grouped : word ++ (32 ∷ (address_digits n ++ (32 ∷ (decimal size ++ 10 ∷ []))))
    ≡ range_line word n size =
    sym (append_assoc (word ++ 32 ∷ address_digits n) (32 ∷ decimal size) (10 ∷ [])
    ∙ append_assoc word (32 ∷ address_digits n) (32 ∷ (decimal size ++ 10 ∷ []))) in
    subst (λ (line : List ℕ). OnOk result (new ≡ old ++ line)) grouped
    (subst (λ (o : Option (List ℕ)). OnOk result
    (IfSome (Some word ++? Some (32 ∷ []) ++? o ++? Some (32 ∷ (decimal size ++ 10 ∷ [])))
    (Appends (Some old) (Some new))))
    (hole_is d spec n shown is small) wrote)

pub start_written : {E : Type 0} (result : Result (Unit {0}) E) (d : _) (spec : _) (n : ℕ) (old new : List ℕ)
    → digits_output d ≡ Some (digits 16 true n) → spec ≡ format_spec 32 0 4 4 (2 ^ 64 - 1) → n < 65536
    → OnOk result (IfSome (Some (codes "START ") ++? styled_digits_output d spec ++? Some (10 ∷ [])) (Appends (Some old) (Some new)))
    → OnOk result (new ≡ old ++ start_line n)
start_written result d spec n old new shown is small wrote =
    subst (λ (o : Option (List ℕ)). OnOk result (IfSome (Some (codes "START ") ++? o ++? Some (10 ∷ [])) (Appends (Some old) (Some new))))
    (hole_is d spec n shown is small) wrote

pub symbol_written : {E : Type 0} (result : Result (Unit {0}) E) (d : _) (spec : _)
    (symbol : Symbol) (old new : List ℕ)
    → digits_output d ≡ Some (digits 16 true symbol.address) → spec ≡ format_spec 32 0 4 4 (2 ^ 64 - 1)
    → symbol.address < 65536
    → OnOk result (IfSome (Some (codes "PUBLIC ") ++? Some symbol.name ++? Some (32 ∷ []) ++? styled_digits_output d spec ++? Some (10 ∷ [])) (Appends (Some old) (Some new)))
    → OnOk result (new ≡ old ++ symbol_line symbol)
symbol_written result d spec symbol old new shown is small wrote =
    let address : List ℕ = address_digits symbol.address in
    let grouped : codes "PUBLIC " ++ (symbol.name ++ (32 ∷ (address ++ 10 ∷ []))) ≡ symbol_line symbol =
    ap (λ (l : List ℕ). codes "PUBLIC " ++ l) (sym (append_assoc symbol.name (32 ∷ address) (10 ∷ []))) in
    subst (λ (line : List ℕ). OnOk result (new ≡ old ++ line)) grouped
    (subst (λ (o : Option (List ℕ)). OnOk result (IfSome (Some (codes "PUBLIC ") ++? Some symbol.name ++? Some (32 ∷ []) ++? o ++? Some (10 ∷ [])) (Appends (Some old) (Some new))))
    (hole_is d spec symbol.address shown is small) wrote)
