-- A member of a structure, from what the code tells of it.
use Rattle.typed_expressions.proofs.Prelude.{◌≡◌, ℕ, Option, None, Some, ap, arith, min, option_map, FoundMember, capped}

-- where it does not begin further on than the code tells, it is what the code tells
pub uncapped : (found : FoundMember) (place : Option FoundMember) → Some found ≡ option_map capped place
    → (found.offset ≡ 4294967295 → ⊥) → place ≡ Some found
uncapped found None is other = absurd (cc)
uncapped found (Some place) is other =
    let same : found ≡ capped place = cc in
    let offset : found.offset ≡ min place.offset 4294967295 = ap (λ (one : FoundMember). one.offset) same in
    let fits : min place.offset 4294967295 ≡ place.offset = omega arith in
    let whole : capped place ≡ place = ap (λ (n : ℕ). record place { offset = n }) fits in
    cc

pub unknown : (place : Option FoundMember) → None ≡ option_map capped place → place ≡ None
unknown None is = cc
unknown (Some place) is = absurd (cc)
