-- A segment of a merge is what its pieces make one after another: its runs, its fixes and its length.
use Rattle.link_laws.proofs.Prelude.{◌≡◌, ℕ, ◌+◌, ◌-◌, ◌≤◌, true, List, [], ◌∷◌, ◌++◌, length, map, flat_map, filter_map, replicate, Option, None, ap, sym, subst, ◌∙◌, arith, append_assoc, append-nil, length-append, length-replicate, Segment, Linked, displacement_in, gain_in, target_kept, joined_after, places_moved, SetByte, Public, places_of, words_are_whole, bytes_of_run, fixes_in, runs_of, runs_from, with_runs, place_fixes, fix_kept, runs_fixes, moved_length, runs_apart, runs_placed, with_piece, joined_step, run_placed, runs_with_piece, fixes_with_piece, piece_runs, piece_fixes, runs_joined, end_joined}

-- the piece of a segment of a module
abbrev pub piece_in : List Public → Segment → Linked → ℕ × List (Option SetByte)
piece_in publics segment one =
    (displacement_in one segment, places_moved publics one (places_of one.object segment))

-- where it ends
abbrev pub end_of : Segment → Linked → ℕ
end_of segment one = displacement_in one segment + length (places_of one.object segment)

-- each piece cuts no word and begins at the end of the one before it or later
abbrev pub Follow : Segment → (end : ℕ) → List Linked → Type 0
Follow segment end [] = Unit {0}
Follow segment end (one ∷ others) =
    (words_are_whole (places_of one.object segment) ≡ true)
    × (end ≤ displacement_in one segment)
    × Follow segment (end_of segment one) others

module _ (publics : List Public) (segment : Segment) where
  -- what is made of a piece
  placed_piece :
      (one : Linked) → words_are_whole (places_of one.object segment) ≡ true
      → map (run_placed (displacement_in one segment) (gain_in publics one) (target_kept publics one))
      (runs_from 0 (places_of one.object segment))
      ≡ piece_runs publics segment one
  unfolding runs_of fixes_in
  placed_piece one whole =
      sym (runs_placed (displacement_in one segment) (gain_in publics one) (target_kept publics one)
      (runs_from 0 (places_of one.object segment)) (runs_apart 0 (places_of one.object segment) whole))

  placed_fixes :
      (one : Linked) → place_fixes 0 (places_of one.object segment) ≡ fixes_in one.object segment
  unfolding fixes_in
  placed_fixes one = sym (runs_fixes 0 (places_of one.object segment))

  -- what is made so far with a piece after it
  abbrev made_with : (made : List (Option SetByte)) → Linked → List (Option SetByte)
  made_with made one = with_piece (displacement_in one segment) made (piece_in publics segment one).1

  made_length :
      (made : List (Option SetByte)) (one : Linked) → length made ≤ displacement_in one segment
      → length (made_with made one) ≡ end_of segment one
  made_length made one h =
      let piece : List (Option SetByte) = (piece_in publics segment one).1 in
      let gap : List (Option SetByte) = replicate (displacement_in one segment - length made) None in
      let a : length (made ++ (gap ++ piece)) ≡ length made + length (gap ++ piece) =
      length-append made (gap ++ piece) in
      let b : length (gap ++ piece) ≡ length gap + length piece = length-append gap piece in
      let c : length gap ≡ displacement_in one segment - length made =
      length-replicate (displacement_in one segment - length made) None in
      let d : length piece ≡ length (places_of one.object segment) =
      moved_length (gain_in publics one) (target_kept publics one) None (places_of one.object segment) in
      omega (arith, h, a, b, c, d)

  -- the places of all
  abbrev all_of : (made : List (Option SetByte)) → List Linked → List (Option SetByte)
  all_of made linked = made ++ joined_after (length made) (map (piece_in publics segment) linked)

  all_step :
      (made : List (Option SetByte)) (one : Linked) (others : List Linked)
      → length made ≤ displacement_in one segment
      → all_of made (one ∷ others) ≡ all_of (made_with made one) others
  all_step made one others h =
      let piece : List (Option SetByte) = (piece_in publics segment one).1 in
      let rest : List (ℕ × List (Option SetByte)) = map (piece_in publics segment) others in
      let long : displacement_in one segment + length piece ≡ length (made_with made one) =
      ap (λ n. displacement_in one segment + n)
      (moved_length (gain_in publics one) (target_kept publics one) None (places_of one.object segment))
      ∙ sym (made_length made one h) in
      joined_step (displacement_in one segment) made piece rest
      ∙ ap (λ n. made_with made one ++ joined_after n rest) long

  follow_on :
      (made : List (Option SetByte)) (one : Linked) (others : List Linked)
      → Follow segment (length made) (one ∷ others)
      → Follow segment (length (made_with made one)) others
  follow_on made one others follow =
      subst (λ n. Follow segment n others) (sym (made_length made one follow.1)) follow.2

  pub all_runs :
      (made : List (Option SetByte)) (linked : List Linked) → Follow segment (length made) linked
      → map bytes_of_run (runs_from 0 (all_of made linked))
      ≡ runs_joined publics segment (map bytes_of_run (runs_from 0 made)) linked
  all_runs made [] follow = ap (λ p. map bytes_of_run (runs_from 0 p)) (append-nil made)
  all_runs made (one ∷ others) follow =
      ap (λ p. map bytes_of_run (runs_from 0 p)) (all_step made one others follow.1)
      ∙ all_runs (made_with made one) others (follow_on made one others follow)
      ∙ ap (λ r. runs_joined publics segment r others)
      (runs_with_piece (displacement_in one segment) (gain_in publics one) (target_kept publics one) made
      (places_of one.object segment) follow.1
      ∙ ap (with_runs (map bytes_of_run (runs_from 0 made))) (placed_piece one follow.0))

  pub all_fixes :
      (made : List (Option SetByte)) (linked : List Linked) → Follow segment (length made) linked
      → place_fixes 0 (all_of made linked)
      ≡ place_fixes 0 made ++ flat_map (piece_fixes publics segment) linked
  all_fixes made [] follow = ap (place_fixes 0) (append-nil made) ∙ sym (append-nil (place_fixes 0 made))
  all_fixes made (one ∷ others) follow =
      ap (place_fixes 0) (all_step made one others follow.1)
      ∙ all_fixes (made_with made one) others (follow_on made one others follow)
      ∙ ap (λ f. f ++ flat_map (piece_fixes publics segment) others)
      (fixes_with_piece (displacement_in one segment) (gain_in publics one) (target_kept publics one) made
      (places_of one.object segment) follow.1
      ∙ ap (λ f. place_fixes 0 made ++ filter_map
      (fix_kept (displacement_in one segment) (target_kept publics one)) f)
      (placed_fixes one))
      ∙ append_assoc (place_fixes 0 made) (piece_fixes publics segment one)
      (flat_map (piece_fixes publics segment) others)

  pub all_length :
      (made : List (Option SetByte)) (linked : List Linked) → Follow segment (length made) linked
      → length (all_of made linked) ≡ end_joined (end_of segment) (length made) linked
  all_length made [] follow = ap length (append-nil made)
  all_length made (one ∷ others) follow =
      ap length (all_step made one others follow.1)
      ∙ all_length (made_with made one) others (follow_on made one others follow)
      ∙ ap (λ n. end_joined (end_of segment) n others) (made_length made one follow.1)
