-- The pieces that a text spells can be written.
use Rattle.hex80.proofs.Prelude.{◌≡◌, ℕ, ◌<◌, true, false, List, [], ◌∷◌, ◌++◌, length, get_or, Ok, subst, sym, ◌∙◌, arith, list_any, append_assoc, append-nil, All-append, All-from_recursion, list_any_at, all_pairs_push, Piece, AreApart, AreWritable, EndsInMemory, pieces_meet, range_of, meets_decides, Spells, is_line_piece, are_line_pieces, judgement_of, and_parts}
use Rattle.hex80.proofs.Judged.{piece_line}
use Rattle.hex80.proofs.ReadLemmas.{spelled_by}

-- a piece that meets none of some has no address in common with any of them
apart_from :
    (before : List Piece) (piece : Piece) → list_any (pieces_meet piece) before ≡ false
    → (k : ℕ) (d : Piece) → k < length before → AreApart (get_or before k d) piece
apart_from before piece none k d within = λ both.
    let meets : pieces_meet piece (get_or before k d) ≡ true =
    (meets_decides (range_of piece) (range_of (get_or before k d))).1 (both.0, both.2, both.1) in
    let bad : true ≡ false = sym (list_any_at (pieces_meet piece) before k d within meets) ∙ none in
    cc

-- writable pieces with those of lines after them
lines_writable :
    (before pieces : List Piece) → AreWritable before → are_line_pieces before pieces ≡ true
    → AreWritable (before ++ pieces)
lines_writable before [] writable accepted = subst AreWritable (sym (append-nil before)) writable
lines_writable before (piece ∷ others) writable accepted =
    let t = and_parts (is_line_piece before piece) (are_line_pieces (before ++ piece ∷ []) others) accepted in
    let p = piece_line before piece t.0 in
    subst AreWritable (append_assoc before (piece ∷ []) others)
    (lines_writable (before ++ piece ∷ []) others
    (record {
      in_memory =
          All-append EndsInMemory before (piece ∷ []) writable.in_memory
          (All-from_recursion EndsInMemory (piece ∷ []) (p.0.in_memory, tt));
      apart = all_pairs_push AreApart before piece writable.apart (apart_from before piece p.1);
    }) t.1)

none_writable : AreWritable []
none_writable = record {
  in_memory = All-from_recursion EndsInMemory [] tt;
  apart = λ i j d before within. absurd (omega arith);
}

pub spelled_writable : (text : List ℕ) (pieces : List Piece) → Spells text pieces → AreWritable pieces
spelled_writable text pieces spelled = lines_writable [] pieces none_writable spelled.accepted

-- what a text is judged to be can be written
pub read_writable : (text : List ℕ) (pieces : List Piece) → judgement_of text ≡ Ok pieces → AreWritable pieces
read_writable text pieces h = spelled_writable text pieces (spelled_by text pieces h)
