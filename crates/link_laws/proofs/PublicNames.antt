-- Publics by their names: the place of a name among those of publics is the place of the public.
use Rattle.link_laws.proofs.Prelude.{◌≡◌, ℕ, ◌+◌, ◌≤◌, Bool, true, false, cond, not, nat_lt, List, [], ◌∷◌, map, length, slice_get, Option, None, Some, option_map, refl, ap, sym, ◌∙◌, arith, position, position_or_len, bytes_eq, ltb-false, length-map, find_at, slice_get-map, slice_get_past, OwnedPublic, public_named, Public, owned_public_view, name_of}

abbrev place_of : (name : List ℕ) → List OwnedPublic → ℕ
place_of name publics = position_or_len (bytes_eq name) (map name_of publics)

same_place :
    (name : List ℕ) (publics : List OwnedPublic)
    → position_or_len (λ (public : Public). bytes_eq name public.name) (map owned_public_view publics)
    ≡ place_of name publics
same_place name [] = refl
same_place name (public ∷ others) =
    ap (λ n. cond (not (bytes_eq name public.name)) (1 + n) 0) (same_place name others)

named_at :
    (name : List ℕ) (publics : List OwnedPublic)
    → public_named (map owned_public_view publics) name
    ≡ option_map owned_public_view (slice_get publics (place_of name publics))
named_at name publics =
    find_at (λ (public : Public). bytes_eq name public.name) (map owned_public_view publics)
    ∙ ap (slice_get (map owned_public_view publics)) (same_place name publics)
    ∙ slice_get-map owned_public_view publics (place_of name publics)

module _ (name : List ℕ) (names : List (List ℕ)) (publics : List OwnedPublic)
    (same : names ≡ map name_of publics) where
  known : (found : Option ℕ) → position (bytes_eq name) names ≡ found
      → cond (nat_lt (place_of name publics) (length (map name_of publics)))
      (Some (place_of name publics)) None ≡ found
  known found is = sym (ap (position (bytes_eq name)) same) ∙ is

  pub named_found :
      (number : ℕ) → position (bytes_eq name) names ≡ Some number
      → option_map owned_public_view (slice_get publics number)
      ≡ public_named (map owned_public_view publics) name
  named_found number is =
      go (nat_lt (place_of name publics) (length (map name_of publics))) (known (Some number) is)
    where
      go : (b : Bool) → cond b (Some (place_of name publics)) None ≡ Some number
          → option_map owned_public_view (slice_get publics number)
          ≡ public_named (map owned_public_view publics) name
      go true h =
          let at : place_of name publics ≡ number = cc in
          sym (ap (λ n. option_map owned_public_view (slice_get publics n)) at) ∙ sym (named_at name publics)
      go false h = absurd (let bad : None ≡ Some number = h in cc)

  pub named_none :
      position (bytes_eq name) names ≡ None → None ≡ public_named (map owned_public_view publics) name
  named_none is =
      go (nat_lt (place_of name publics) (length (map name_of publics))) refl (known None is)
    where
      go : (b : Bool) → nat_lt (place_of name publics) (length (map name_of publics)) ≡ b
          → cond b (Some (place_of name publics)) None ≡ None
          → None ≡ public_named (map owned_public_view publics) name
      go true e h = absurd (let bad : Some (place_of name publics) ≡ None = h in cc)
      go false e h =
          let long : length (map name_of publics) ≡ length publics = length-map publics name_of in
          let past : length (map name_of publics) ≤ place_of name publics = ltb-false _ _ e in
          sym (ap (option_map owned_public_view)
          (slice_get_past publics (place_of name publics) (omega (arith, long, past))))
          ∙ sym (named_at name publics)
