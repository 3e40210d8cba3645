-- The sizes of the members of a structure, one after another.
use Rattle.declared.proofs.Prelude.{◌≡◌, ℕ, ◌+◌, ◌<◌, List, [], ◌∷◌, length, drop, get_or, Some, None, ap, sym, arith, slice_get, sum_by, sum_by-drop_more, get_or_from_slice_get, slice_get-get_or, slice_get_within, TypedMember, size_of_member}

pub one_more :
    (members : List TypedMember) (position size sum whole : ℕ) (member : TypedMember)
    → Some member ≡ slice_get members position
    → size + sum_by size_of_member (drop position members) ≡ whole
    → sum ≡ size + size_of_member member
    → sum + sum_by size_of_member (drop (position + 1) members) ≡ whole
one_more members position size sum whole member is before is_sum =
    let within : position < length members = slice_get_within members position member (sym is) in
    let rest : sum_by size_of_member (drop position members)
    ≡ size_of_member (get_or members position member) + sum_by size_of_member (drop (position + 1) members) =
    sum_by-drop_more size_of_member members position member within in
    let same : size_of_member (get_or members position member) ≡ size_of_member member =
    ap size_of_member (get_or_from_slice_get members position member member (sym is)) in
    omega (arith, before, is_sum, rest, same)

-- there is a member at each position below their number
pub no_gap :
    (members : List TypedMember) (position size whole : ℕ)
    → None ≡ slice_get members position
    → position < length members
    → size + sum_by size_of_member (drop (position + 1) members) ≡ whole
no_gap [] position size whole is within = absurd (omega arith)
no_gap (first ∷ members) position size whole is within =
    let there : slice_get (first ∷ members) position ≡ Some (get_or (first ∷ members) position first) =
    slice_get-get_or (first ∷ members) position first within in
    absurd (cc)
