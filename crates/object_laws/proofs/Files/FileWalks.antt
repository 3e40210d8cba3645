-- The parts of a file are read from its bytes alone, and its module is what a walk over it tells.
use Rattle.object_laws.proofs.Prelude.{◌≡◌, ℕ, zero, suc, ◌+◌, ◌<◌, ◌≤◌, true, List, [], ◌∷◌, ◌++◌, length, drop, flat_map, option_and_then, refl, ap, sym, ◌∙◌, arith, length-drop, length-append, BODY_LIMIT, record_end, record_fault, first_body, read_again, Part, kind_of_part, body_of, part_bytes, part_in, is_accepted, are_accepted, module_of, IsFileOf, walk_over, module_by, sound_part, before_parts, parts_within, parts_from, and_parts}
use Rattle.object_laws.proofs.Files.PartsAgain.{part_again}
use Rattle.object_laws.proofs.Files.FilesAgain.{limit_of, has_bytes}

-- a module is what a walk over its parts tells
pub module_is : (parts : List Part) → module_of parts ≡ module_by (walk_over parts)
unfolding module_of module_by walk_over
module_is parts = refl

-- nothing is read of no bytes
nothing_within : (count : ℕ) → parts_within count [] ≡ []
unfolding record_fault
nothing_within zero = refl
nothing_within (suc count) = refl

-- with at least as many steps as bytes it doesn't matter how many there are
pub any_count : (count other : ℕ) (bytes : List ℕ) → length bytes ≤ count → length bytes ≤ other
    → parts_within count bytes ≡ parts_within other bytes
any_count count other [] h k = nothing_within count ∙ sym (nothing_within other)
any_count zero other (byte ∷ rest) h k = absurd (omega arith)
any_count (suc count) zero (byte ∷ rest) h k = absurd (omega arith)
any_count (suc count) (suc other) (byte ∷ rest) h k =
    let after : List ℕ = drop (record_end (byte ∷ rest)) (byte ∷ rest) in
    let cut = length-drop (record_end (byte ∷ rest)) (byte ∷ rest) in
    let shorter : length after < length (byte ∷ rest) = omega (arith, cut) in
    ap (before_parts (sound_part (byte ∷ rest) (record_fault (byte ∷ rest))))
    (any_count count other after (omega (arith, shorter)) (omega (arith, shorter)))

part_within :
    (count : ℕ) (part : Part) (rest : List ℕ) → length (body_of part) ≤ BODY_LIMIT
    → parts_within (suc count) (part_bytes part ++ rest) ≡ part ∷ parts_within count rest
part_within count part rest limit =
    let bytes : List ℕ = part_bytes part ++ rest in
    let r = read_again (kind_of_part part) (body_of part) rest limit in
    ap (λ fault. before_parts (sound_part bytes fault) (parts_within count (drop (record_end bytes) bytes)))
    r.no_fault
    ∙ ap (λ kind.
    before_parts (option_and_then (λ k. part_in k (first_body bytes)) kind)
    (parts_within count (drop (record_end bytes) bytes))) r.of_type
    ∙ ap (λ body. before_parts (part_in (kind_of_part part) body)
    (parts_within count (drop (record_end bytes) bytes)))
    r.body_is
    ∙ ap (λ found. before_parts found (parts_within count (drop (record_end bytes) bytes))) (part_again part)
    ∙ ap (λ left. part ∷ parts_within count left) r.rest_is

-- a part in front of bytes is read, and then what is after it
pub part_first :
    (part : Part) (rest : List ℕ) → length (body_of part) ≤ BODY_LIMIT
    → parts_from (part_bytes part ++ rest) ≡ part ∷ parts_from rest
unfolding parts_from
part_first part rest limit =
    let whole : List ℕ = part_bytes part ++ rest in
    let some : 0 < length (part_bytes part) = has_bytes part in
    let longer : length whole ≡ length (part_bytes part) + length rest =
    length-append (part_bytes part) rest in
    any_count (length whole) (suc (length whole)) whole (omega arith) (omega arith)
    ∙ part_within (length whole) part rest limit
    ∙ ap (λ left. part ∷ left)
    (any_count (length whole) (length rest) rest (omega (arith, longer)) (omega arith))

nothing_left : parts_from [] ≡ []
unfolding parts_from
nothing_left = refl

parts_again :
    (before later : List Part) → are_accepted before later ≡ true
    → parts_from (flat_map part_bytes later) ≡ later
parts_again before [] accepted = nothing_left
parts_again before (part ∷ later) accepted =
    let t = and_parts (is_accepted before part) (are_accepted (part ∷ before) later) accepted in
    part_first part (flat_map part_bytes later) (limit_of before part t.0)
    ∙ ap (λ left. part ∷ left) (parts_again (part ∷ before) later t.1)

-- the parts of a file are read from its bytes
pub parts_from_is : (bytes : List ℕ) (parts : List Part) → IsFileOf bytes parts → parts_from bytes ≡ parts
parts_from_is bytes parts file = ap parts_from file.spelled ∙ parts_again [] parts file.accepted
