-- Structures with the same members by their positions.
use Rattle.join.proofs.Prelude.{◌≡◌, ℕ, ◌+◌, ◌<◌, ◌≤◌, ◌&&◌, List, nat_eq, [], ◌∷◌, Bool, true, false, Some, None, length, drop, slice_get, refl, ap, sym, ◌∙◌, arith, drop_of_length-le, common_steps, length-drop, slice_get_within, TypedMember, same_scalar, same_dimension, same_members, drop_found, drop_past}

-- two members by what is compared of them
abbrev pub members_agree : TypedMember → TypedMember → Bool
members_agree left right =
    same_scalar left.scalar right.scalar && same_dimension left.dimension right.dimension

and_both : (p q r : Bool) → p && q && r ≡ (p && q) && r
and_both true q r = refl
and_both false q r = refl

module _ (lefts rights : List TypedMember) (i : ℕ)
    (rest : same_members (drop i lefts) (drop i rights) ≡ same_members lefts rights) where
  at_both : (left right : TypedMember) → slice_get lefts i ≡ Some left → slice_get rights i ≡ Some right
      → same_members lefts rights ≡ members_agree left right
      && same_members (drop (i + 1) lefts) (drop (i + 1) rights)
  at_both left right one other =
      sym rest
      ∙ ap (λ members. same_members members (drop i rights)) (drop_found lefts i left one)
      ∙ ap (λ members. same_members (left ∷ drop (i + 1) lefts) members) (drop_found rights i right other)
      ∙ and_both (same_scalar left.scalar right.scalar) (same_dimension left.dimension right.dimension)
      (same_members (drop (i + 1) lefts) (drop (i + 1) rights))

  -- members that agree leave the others
  pub members_next : (left right : TypedMember) → slice_get lefts i ≡ Some left
      → slice_get rights i ≡ Some right → members_agree left right ≡ true
      → same_members (drop (i + 1) lefts) (drop (i + 1) rights) ≡ same_members lefts rights
  members_next left right one other agree =
      sym (at_both left right one other ∙ ap
      (λ same. same && same_members (drop (i + 1) lefts) (drop (i + 1) rights)) agree)

  pub members_differ : (left right : TypedMember) → slice_get lefts i ≡ Some left
      → slice_get rights i ≡ Some right → members_agree left right ≡ false
      → false ≡ same_members lefts rights
  members_differ left right one other differ =
      sym (at_both left right one other ∙ ap
      (λ same. same && same_members (drop (i + 1) lefts) (drop (i + 1) rights)) differ)

  -- where there are no more on one side
  pub members_short : (left : TypedMember) → slice_get lefts i ≡ Some left → slice_get rights i ≡ None
      → false ≡ same_members lefts rights
  members_short left one none =
      sym (sym rest
      ∙ ap (λ members. same_members members (drop i rights)) (drop_found lefts i left one)
      ∙ ap (same_members (left ∷ drop (i + 1) lefts)) (drop_past rights i none))

  pub members_missing : i < length lefts → slice_get lefts i ≡ None → false ≡ same_members lefts rights
  members_missing within none =
      absurd (omega (arith, ap length (drop_past lefts i none), length-drop i lefts))

  pub members_end : i ≡ length lefts → i ≤ length rights
      → nat_eq (length lefts) (length rights) ≡ same_members lefts rights
  members_end past within =
      sym (sym rest
      ∙ ap (λ members. same_members members (drop i rights)) (drop_of_length-le lefts (omega arith))
      ∙ ends_as (drop i rights) (omega (arith, length-drop i rights)))
    where
      ends_as : (others : List TypedMember) → length lefts + length others ≡ length rights
          → same_members [] others ≡ nat_eq (length lefts) (length rights)
      ends_as [] lengths = grind (arith, common_steps)
      ends_as (other ∷ others) lengths = grind (arith, common_steps)

  -- and there are no fewer than were compared
  pub members_within : (right : TypedMember) → slice_get rights i ≡ Some right → i + 1 ≤ length rights
  members_within right other = omega (arith, slice_get_within rights i right other)
