-- Bytes in two parts, of which each has fixes of its own: what becomes of the whole is what becomes of the
-- parts.
use Rattle.link_laws.proofs.Prelude.{◌≡◌, ℕ, ◌+◌, ◌-◌, ◌<◌, ◌≤◌, List, [], ◌∷◌, ◌++◌, length, refl, ap, sym, subst, ◌∙◌, arith, set, length-set, set-append_left, get_or_append_left, Fix, FixKind, Low, High, Both, Target, width_of, first_byte_moved, second_byte_moved, fix_end, bytes_fixed, bytes_after, AllPast, fixed_after, AreWithin}
use Rattle.std.proofs.Math.ListN.{get_or}

-- as many bytes as before
pub fixed_length :
    (kind : FixKind) (index gain : ℕ) (bytes : List ℕ)
    → length (bytes_fixed kind index gain bytes) ≡ length bytes
fixed_length Low index gain bytes = length-set bytes index (first_byte_moved Low (get_or bytes index 0) gain)
fixed_length High index gain bytes =
    length-set bytes index (first_byte_moved High (get_or bytes index 0) gain)
fixed_length Both index gain bytes =
    let first : ℕ = first_byte_moved Both (get_or bytes index 0) gain in
    length-set (set bytes index first) (index + 1)
    (second_byte_moved (get_or bytes index 0) (get_or bytes (index + 1) 0) gain)
    ∙ length-set bytes index first

pub after_length :
    (gain_of : Target → ℕ) (offset : ℕ) (fixes : List Fix) (bytes : List ℕ)
    → length (bytes_after gain_of offset fixes bytes) ≡ length bytes
after_length gain_of offset [] bytes = refl
after_length gain_of offset (fix ∷ others) bytes =
    after_length gain_of offset others (bytes_fixed fix.kind (fix.offset - offset) (gain_of fix.target) bytes)
    ∙ fixed_length fix.kind (fix.offset - offset) (gain_of fix.target) bytes

-- fixes one after others
pub after_more :
    (gain_of : Target → ℕ) (offset : ℕ) (fixes more : List Fix) (bytes : List ℕ)
    → bytes_after gain_of offset (fixes ++ more) bytes
    ≡ bytes_after gain_of offset more (bytes_after gain_of offset fixes bytes)
after_more gain_of offset [] more bytes = refl
after_more gain_of offset (fix ∷ others) more bytes =
    after_more gain_of offset others more
    (bytes_fixed fix.kind (fix.offset - offset) (gain_of fix.target) bytes)

-- bytes before others: only they change
fixed_before :
    (kind : FixKind) (index gain : ℕ) (bytes after : List ℕ) → index + width_of kind ≤ length bytes
    → bytes_fixed kind index gain (bytes ++ after) ≡ bytes_fixed kind index gain bytes ++ after
fixed_before Low index gain bytes after h =
    let within : index < length bytes = omega (arith, h) in
    ap (λ v. set (bytes ++ after) index (first_byte_moved Low v gain))
    (get_or_append_left bytes after 0 index within)
    ∙ set-append_left bytes after index (first_byte_moved Low (get_or bytes index 0) gain) within
fixed_before High index gain bytes after h =
    let within : index < length bytes = omega (arith, h) in
    ap (λ v. set (bytes ++ after) index (first_byte_moved High v gain))
    (get_or_append_left bytes after 0 index within)
    ∙ set-append_left bytes after index (first_byte_moved High (get_or bytes index 0) gain) within
fixed_before Both index gain bytes after h =
    let within : index < length bytes = omega (arith, h) in
    let next : index + 1 < length bytes = omega (arith, h) in
    let first : ℕ = first_byte_moved Both (get_or bytes index 0) gain in
    let second : ℕ = second_byte_moved (get_or bytes index 0) (get_or bytes (index + 1) 0) gain in
    let long : length (set bytes index first) ≡ length bytes = length-set bytes index first in
    ap (λ v.
    set (set (bytes ++ after) index (first_byte_moved Both v gain)) (index + 1)
    (second_byte_moved v (get_or (bytes ++ after) (index + 1) 0) gain))
    (get_or_append_left bytes after 0 index within)
    ∙ ap (λ v. set (set (bytes ++ after) index first) (index + 1)
    (second_byte_moved (get_or bytes index 0) v gain))
    (get_or_append_left bytes after 0 (index + 1) next)
    ∙ ap (λ b. set b (index + 1) second) (set-append_left bytes after index first within)
    ∙ set-append_left (set bytes index first) after (index + 1) second (omega (arith, next, long))

pub after_first_part :
    (gain_of : Target → ℕ) (offset : ℕ) (fixes : List Fix) (bytes after : List ℕ)
    → AreWithin offset (length bytes) fixes
    → bytes_after gain_of offset fixes (bytes ++ after) ≡ bytes_after gain_of offset fixes bytes ++ after
after_first_part gain_of offset [] bytes after within = refl
after_first_part gain_of offset (fix ∷ others) bytes after within =
    let low : offset ≤ fix.offset = (within.0).0 in
    let high : fix_end fix ≤ offset + length bytes = (within.0).1 in
    let fixed : List ℕ = bytes_fixed fix.kind (fix.offset - offset) (gain_of fix.target) bytes in
    let long : length fixed ≡ length bytes =
    fixed_length fix.kind (fix.offset - offset) (gain_of fix.target) bytes in
    ap (bytes_after gain_of offset others)
    (fixed_before fix.kind (fix.offset - offset) (gain_of fix.target) bytes after (omega (arith, low, high)))
    ∙ after_first_part gain_of offset others fixed after
    (subst (λ n. AreWithin offset n others) (sym long) within.1)

-- bytes after others
pub after_second_part :
    (gain_of : Target → ℕ) (offset next : ℕ) (fixes : List Fix) (before bytes : List ℕ)
    → next ≡ offset + length before → AllPast next fixes
    → bytes_after gain_of offset fixes (before ++ bytes) ≡ before ++ bytes_after gain_of next fixes bytes
after_second_part gain_of offset next [] before bytes at past = refl
after_second_part gain_of offset next (fix ∷ others) before bytes at past =
    let low : next ≤ fix.offset = past.0 in
    let index : fix.offset - offset ≡ length before + (fix.offset - next) = omega (arith, at, low) in
    let fixed : List ℕ = bytes_fixed fix.kind (fix.offset - next) (gain_of fix.target) bytes in
    ap (λ i. bytes_after gain_of offset others
    (bytes_fixed fix.kind i (gain_of fix.target) (before ++ bytes))) index
    ∙ ap (bytes_after gain_of offset others)
    (fixed_after fix.kind (fix.offset - next) (gain_of fix.target) before bytes)
    ∙ after_second_part gain_of offset next others before fixed at past.1

-- two parts, each with its fixes
pub after_both_parts :
    (gain_of : Target → ℕ) (offset next : ℕ) (fixes more : List Fix) (bytes after : List ℕ)
    → AreWithin offset (length bytes) fixes → next ≡ offset + length bytes → AllPast next more
    → bytes_after gain_of offset (fixes ++ more) (bytes ++ after)
    ≡ bytes_after gain_of offset fixes bytes ++ bytes_after gain_of next more after
after_both_parts gain_of offset next fixes more bytes after within at past =
    let first : List ℕ = bytes_after gain_of offset fixes bytes in
    let long : length first ≡ length bytes = after_length gain_of offset fixes bytes in
    after_more gain_of offset fixes more (bytes ++ after)
    ∙ ap (bytes_after gain_of offset more) (after_first_part gain_of offset fixes bytes after within)
    ∙ after_second_part gain_of offset next more first after (omega (arith, at, long)) past
