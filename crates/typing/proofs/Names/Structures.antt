-- The members that a structure declares are no members that are used: for none of them a name is unknown.
use Rattle.typing.proofs.Prelude.{◌≡◌, ℕ, zero, suc, ◌<◌, List, [], ◌∷◌, length, map, Contains, slice_index_or, arith, Member, StructureItem, UnknownName, Fault, members_in_type, twice_declared}

none_unknown :
    (members : List Member) (refusal : Fault) (index : ℕ)
    → refusal.cause ≡ UnknownName
    → index < length (map twice_declared members)
    → slice_index_or (map twice_declared members) index refusal ≡ refusal
    → ⊥
none_unknown [] refusal index unknown within is = omega (arith, within)
none_unknown (member ∷ members) refusal zero unknown within is =
    let here : twice_declared member ≡ refusal = is in cc
none_unknown (member ∷ members) refusal (suc index) unknown within is =
    none_unknown members refusal index unknown (omega (arith, within)) is

pub no_member_of_a_structure_is_unknown :
    (members : List Member) (refusal : Fault)
    → refusal.cause ≡ UnknownName
    → Contains (members_in_type (StructureItem members)) refusal
    → ⊥
no_member_of_a_structure_is_unknown members refusal unknown is =
    none_unknown members refusal is.0 unknown is.1 is.2
