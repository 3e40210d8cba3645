-- Which high bytes of a module move, by its fixes.
use Rattle.object_laws.proofs.Prelude.{◌≡◌, ◌%◌, ◌==◌, Bool, false, not, ◌||◌, List, [], ◌∷◌, filter_map, Option, Some, None, refl, ap, sym, ◌∙◌, list_any, cons_option, option_map_or, list_any-append, Fix, Code, Data, Target, Linked, gain_in, some_high_byte_moves, Public, fixes_in, place_fixes}
use Rattle.object_laws.proofs.Merges.FixesOfPlaces.{runs_fixes, high_of, high_fixes}

-- a target gains no multiple of 256
abbrev pub gains_part : List Public → Linked → Target → Bool
gains_part publics linked target = not (gain_in publics linked target % 256 == 0)

-- a fix is one of a high byte that moves
abbrev pub high_byte_moves : List Public → Linked → Fix → Bool
high_byte_moves publics linked fix = option_map_or (gains_part publics linked) (high_of fix) false

any_mapped :
    {A B : Type 0} (q : B → Bool) (h : A → Option B) (xs : List A)
    → list_any q (filter_map h xs) ≡ list_any (λ x. option_map_or q (h x) false) xs
any_mapped q h [] = refl
any_mapped {A} {B} q h (x ∷ xs) = go (h x) ∙ ap (λ t. option_map_or q (h x) false || t) (any_mapped q h xs)
  where
    go : (found : Option B)
        → list_any q (cons_option found (filter_map h xs))
        ≡ (option_map_or q found false || list_any q (filter_map h xs))
    go None = refl
    go (Some y) = refl

pub high_moves_by_fixes :
    (publics : List Public) (linked : Linked)
    → some_high_byte_moves publics linked
    ≡ (list_any (high_byte_moves publics linked) (fixes_in linked.object Code)
    || list_any (high_byte_moves publics linked) (fixes_in linked.object Data))
unfolding fixes_in
high_moves_by_fixes publics linked =
    let code : List Fix = place_fixes 0 (linked.object).code.places in
    let data_fixes : List Fix = place_fixes 0 (linked.object).data_places.places in
    ap (list_any (gains_part publics linked)) (high_fixes linked.object)
    ∙ list_any-append (gains_part publics linked) (filter_map high_of code) (filter_map high_of data_fixes)
    ∙ ap (λ t. t || list_any (gains_part publics linked) (filter_map high_of data_fixes))
    (any_mapped (gains_part publics linked) high_of code)
    ∙ ap (λ t. list_any (high_byte_moves publics linked) code || t)
    (any_mapped (gains_part publics linked) high_of data_fixes)
    ∙ ap (λ f. list_any (high_byte_moves publics linked) f
    || list_any (high_byte_moves publics linked) data_fixes)
    (sym (runs_fixes 0 (linked.object).code.places))
    ∙ ap (λ f. list_any (high_byte_moves publics linked) (fixes_in linked.object Code)
    || list_any (high_byte_moves publics linked) f)
    (sym (runs_fixes 0 (linked.object).data_places.places))
