-- What the targets of a module gain when it is merged and when the merge is placed are their addresses.
use Rattle.image_laws.proofs.Prelude.{◌≡◌, ℕ, ◌+◌, ◌%◌, Bool, false, cond, List, [], ◌∷◌, filter_map, Option, Some, None, option_and_then, refl, ap, sym, ◌∙◌, arith, list_any, AllByRecursion, option_map_or, or_parts, filter_map-append, list_any-append, Segment, Absolute, Code, Data, Stack, Target, InSegment, External, Linked, public_meant, gain_in, target_of_public, target_kept, Plan, base_of, gain_at, some_high_byte_moves, Public, ObjectModule, is_movable, places_of, high_at, address_of_public, address_of_target}
use Rattle.image_laws.proofs.Images.TwoSteps.{GainInTwo, gains_part, HighsGainPages}

-- a public lies at its offset from the base of its segment, if that has one
public_gains :
    (plan : Plan) (offset : ℕ) (segment : Segment)
    → ((offset + base_of plan segment) % 65536) % 65536
    ≡ (offset
    + option_map_or (gain_at plan) (cond (is_movable segment) (Some (InSegment segment)) None) 0) % 65536
public_gains plan offset Absolute = omega arith
public_gains plan offset Code = omega arith
public_gains plan offset Data = omega arith
public_gains plan offset Stack = omega arith

external_gains :
    (plan : Plan) (public : Option Public)
    → address_of_public plan public % 65536
    ≡ (option_map_or (λ (given : Public). given.offset) public 0
    + option_map_or (gain_at plan) (option_and_then target_of_public public) 0) % 65536
external_gains plan None = refl
external_gains plan (Some public) = public_gains plan public.offset public.segment

pub gains_in_two :
    (plan : Plan) (merged : ObjectModule) (linked : Linked)
    → GainInTwo (gain_in merged.publics linked) (gain_at plan) (address_of_target plan merged linked)
    (target_kept merged.publics linked)
gains_in_two plan merged linked (InSegment segment) = omega arith
gains_in_two plan merged linked (External number) =
    external_gains plan (public_meant merged.publics linked.object number)

-- where no high byte moves by a part of a page, all gain whole pages
pub highs_gain_pages :
    (publics : List Public) (linked : Linked) → some_high_byte_moves publics linked ≡ false
    → HighsGainPages (gain_in publics linked) (places_of linked.object Code)
    × HighsGainPages (gain_in publics linked) (places_of linked.object Data)
highs_gain_pages publics linked h =
    let part : Target → Bool = gains_part (gain_in publics linked) in
    let code : List Target = filter_map high_at (places_of linked.object Code) in
    let data_highs : List Target = filter_map high_at (places_of linked.object Data) in
    let cut = filter_map-append high_at (places_of linked.object Code) (places_of linked.object Data) in
    or_parts (list_any part code) (list_any part data_highs)
    (sym (list_any-append part code data_highs) ∙ sym (ap (list_any part) cut) ∙ h)

pub none_of :
    {A : Type 0} (test : A → Bool) (xs : List A) → list_any test xs ≡ false
    → AllByRecursion (λ x. test x ≡ false) xs
none_of test [] h = tt
none_of test (x ∷ xs) h =
    let cut = or_parts (test x) (list_any test xs) h in (cut.0, none_of test xs cut.1)
