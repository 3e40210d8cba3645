-- Segments after the pieces of all modules: their runs, their fixes, and whether a high byte moves.
use Rattle.link_laws.proofs.Prelude.{◌≡◌, ℕ, ◌+◌, ◌<◌, Bool, ◌||◌, List, [], ◌∷◌, ◌++◌, length, drop, get_or, flat_map, refl, ap, sym, ◌∙◌, list_any, append_assoc, append-nil, Alignment, Segment, Code, Data, Linked, some_high_byte_moves, Public, fixes_in, StoredSegment, high_byte_moves, high_moves_by_fixes, alignment_joined, end_in, end_joined, piece_fixes, runs_joined, stored_joined, Grown, all_grown, grown_by, nothing_grown, or-false, or_assoc, or_exchanged}
use Rattle.link_laws.proofs.NameLoops.{at_item}

-- a high byte of a segment of a module moves
abbrev pub moves_in : List Public → Segment → Linked → Bool
moves_in publics segment one = list_any (high_byte_moves publics one) (fixes_in one.object segment)

module _ (publics : List Public) (segment : Segment) where
  pub grown_runs :
      (grown : Grown) (linked : List Linked)
      → (all_grown publics segment grown linked).runs ≡ runs_joined publics segment grown.runs linked
  grown_runs grown [] = refl
  grown_runs grown (one ∷ others) = grown_runs (grown_by publics segment grown one) others

  pub grown_fixes :
      (grown : Grown) (linked : List Linked)
      → (all_grown publics segment grown linked).fixes
      ≡ grown.fixes ++ flat_map (piece_fixes publics segment) linked
  grown_fixes grown [] = sym (append-nil grown.fixes)
  grown_fixes grown (one ∷ others) =
      grown_fixes (grown_by publics segment grown one) others
      ∙ append_assoc grown.fixes (piece_fixes publics segment one)
      (flat_map (piece_fixes publics segment) others)

  pub grown_moves :
      (grown : Grown) (linked : List Linked)
      → (all_grown publics segment grown linked).moves
      ≡ (grown.moves || list_any (moves_in publics segment) linked)
  grown_moves grown [] = (sym (or-false grown.moves))
  grown_moves grown (one ∷ others) =
      grown_moves (grown_by publics segment grown one) others
      ∙ or_assoc grown.moves (moves_in publics segment one) (list_any (moves_in publics segment) others)

pub some_moves :
    (publics : List Public) (linked : List Linked)
    → list_any (some_high_byte_moves publics) linked
    ≡ (list_any (moves_in publics Code) linked || list_any (moves_in publics Data) linked)
some_moves publics [] = refl
some_moves publics (one ∷ others) =
    ap (λ b. b || list_any (some_high_byte_moves publics) others) (high_moves_by_fixes publics one)
    ∙ ap (λ b. (moves_in publics Code one || moves_in publics Data one) || b) (some_moves publics others)
    ∙ or_exchanged (moves_in publics Code one) (moves_in publics Data one)
    (list_any (moves_in publics Code) others)
    (list_any (moves_in publics Data) others)

-- a segment with what is made of all pieces is the one that is joined of these
pub segment_grown :
    (publics : List Public) (segment : Segment) (linked : List Linked) (grown : Grown) (size : ℕ)
    (alignment : Alignment) (stored : StoredSegment)
    → grown ≡ all_grown publics segment nothing_grown linked
    → stored ≡ record { size = size; alignment = alignment; runs = grown.runs; fixes = grown.fixes }
    → size ≡ end_joined (end_in segment) 0 linked → alignment ≡ alignment_joined segment linked
    → stored ≡ stored_joined publics segment linked
segment_grown publics segment linked grown size alignment stored made is ends begins =
    let runs : grown.runs ≡ runs_joined publics segment [] linked =
    ap (λ (g : Grown). g.runs) made ∙ grown_runs publics segment nothing_grown linked in
    let fixes : grown.fixes ≡ flat_map (piece_fixes publics segment) linked =
    ap (λ (g : Grown). g.fixes) made ∙ grown_fixes publics segment nothing_grown linked in
    let same : ◌≡◌ {A = StoredSegment}
    (record { size = size; alignment = alignment; runs = grown.runs; fixes = grown.fixes })
    (stored_joined publics segment linked) =
    λ i. record { size = ends i; alignment = begins i; runs = runs i; fixes = fixes i } in
    is ∙ same

-- a high byte of a merge moves where one of its code or one of its data does
pub high_grown :
    (publics : List Public) (linked : List Linked) (code data_bytes : Grown)
    → code ≡ all_grown publics Code nothing_grown linked
    → data_bytes ≡ all_grown publics Data nothing_grown linked
    → (code.moves || data_bytes.moves) ≡ list_any (some_high_byte_moves publics) linked
high_grown publics linked code data_bytes made also =
    ap (λ (g : Grown). g.moves || data_bytes.moves) made
    ∙ ap (λ (g : Grown). (all_grown publics Code nothing_grown linked).moves || g.moves) also
    ∙ ap (λ b. b || (all_grown publics Data nothing_grown linked).moves)
    (grown_moves publics Code nothing_grown linked)
    ∙ ap (λ b. list_any (moves_in publics Code) linked || b) (grown_moves publics Data nothing_grown linked)
    ∙ sym (some_moves publics linked)

-- a piece more
pub grown_step :
    (publics : List Public) (segment : Segment) (grown new total : Grown) (linked : List Linked)
    (i : ℕ) (one : Linked)
    → all_grown publics segment grown (drop i linked) ≡ total → i < length linked → one ≡ get_or linked i one
    → new ≡ grown_by publics segment grown one → all_grown publics segment new (drop (i + 1) linked) ≡ total
grown_step publics segment grown new total linked i one rest within is now =
    ap (λ g. all_grown publics segment g (drop (i + 1) linked)) now
    ∙ sym (at_item (all_grown publics segment grown) linked i one within is)
    ∙ rest
