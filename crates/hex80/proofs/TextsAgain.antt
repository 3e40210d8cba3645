-- A text that spells pieces is judged as these, and one with a first fault as that: so there is one answer for each text.
use Rattle.hex80.proofs.Prelude.{◌≡◌, ℕ, ◌%◌, Bool, true, false, cond, not, List, [], ◌∷◌, ◌++◌, map, sum, Some, None, Result, Ok, Err, refl, ap, sym, ◌∙◌, list_any, option_map_or, bytes_eq, eq-eqb, append_assoc, append-nil, none-some, same_Some, some_pair_parts, bytes_eq-Decides, Piece, pieces_meet, adds_up, Fault, BadLine, WrongSum, NoEnd, Overlap, data_line_bytes, data_line, end_line, read_line, fault_of_data, fault_of_line, is_empty, fault_at, is_line_piece, are_line_pieces, Spells, HasFirstFault, judged_by, judged_after, judgement_of, all_bytes, and_parts, same_Err, same_Ok}
use Rattle.hex80.proofs.LineLaws.{IsLine, line_again}
use Rattle.hex80.proofs.Judged.{piece_line}

-- the line of a piece is not the end line
not_the_end : (piece : Piece) → IsLine piece → bytes_eq (data_line piece) end_line ≡ false
not_the_end piece is = go (bytes_eq (data_line piece) end_line) refl
  where
    go : (b : Bool) → bytes_eq (data_line piece) end_line ≡ b → b ≡ false
    go false e = refl
    go true e =
        let same : data_line piece ≡ end_line = (bytes_eq-Decides (data_line piece) end_line).0 e in
        let none : read_line end_line ≡ None = refl in
        absurd (none-some (piece, all_bytes piece) (sym none ∙ ap read_line (sym same) ∙ line_again piece is))

line_without_fault :
    (before : List Piece) (piece : Piece) (rest : List (List ℕ)) → is_line_piece before piece ≡ true
    → fault_at before (data_line piece ∷ rest) ≡ None
unfolding fault_at
line_without_fault before piece rest h =
    let p = piece_line before piece h in
    ap (λ last. cond last (cond (is_empty rest) None (Some BadLine)) (fault_of_line before (data_line piece)))
    (not_the_end piece p.0)
    ∙ ap (λ read. option_map_or (fault_of_data before) read (Some BadLine)) (line_again piece p.0)
    ∙ ap (λ b. cond (not b) (Some WrongSum) (cond (list_any (pieces_meet piece) before) (Some Overlap) None))
    (eq-eqb (sum (all_bytes piece) % 256) 0 (adds_up (data_line_bytes piece)))
    ∙ ap (λ b. cond b (Some Overlap) None) p.1

onward :
    (before : List Piece) (piece : Piece) (rest : List (List ℕ)) → is_line_piece before piece ≡ true
    → judged_after before (data_line piece ∷ rest) ≡ judged_after (before ++ piece ∷ []) rest
onward before piece rest h =
    ap (λ fault. judged_by (λ pieces. judged_after pieces rest) before fault (read_line (data_line piece)))
    (line_without_fault before piece rest h)
    ∙ ap (judged_by (λ pieces. judged_after pieces rest) before None)
    (line_again piece (piece_line before piece h).0)

onward_past :
    (later before : List Piece) (rest : List (List ℕ)) → are_line_pieces before later ≡ true
    → judged_after before (map data_line later ++ rest) ≡ judged_after (before ++ later) rest
onward_past [] before rest h = ap (λ b. judged_after b rest) (sym (append-nil before))
onward_past (piece ∷ later) before rest h =
    let t = and_parts (is_line_piece before piece) (are_line_pieces (before ++ piece ∷ []) later) h in
    onward before piece (map data_line later ++ rest) t.0
    ∙ onward_past later (before ++ piece ∷ []) rest t.1
    ∙ ap (λ b. judged_after b rest) (append_assoc before (piece ∷ []) later)

at_end : (before : List Piece) → judged_after before (end_line ∷ []) ≡ Ok before
unfolding fault_at
at_end before = refl

at_fault : (before : List Piece) (rest : List (List ℕ)) (fault : Fault) → fault_at before rest ≡ Some fault
    → judged_after before rest ≡ Err fault
unfolding fault_at
at_fault before [] fault h = ap Err (same_Some NoEnd fault h)
at_fault before (line ∷ rest) fault h =
    ap (λ f. judged_by (λ pieces. judged_after pieces rest) before f (read_line line)) h

-- a text that spells pieces is judged as these
pub pieces_are : (text : List ℕ) (pieces : List Piece) → Spells text pieces → judgement_of text ≡ Ok pieces
unfolding judgement_of
pieces_are text pieces s =
    ap (judged_after []) s.lines_of_text ∙ onward_past pieces [] (end_line ∷ []) s.accepted ∙ at_end pieces

-- a text with a first fault is judged as that
pub fault_is : (text : List ℕ) (fault : Fault) → HasFirstFault text fault → judgement_of text ≡ Err fault
unfolding judgement_of
fault_is text fault h =
    ap (judged_after []) h.lines_of_text ∙ onward_past h.before [] h.rest h.accepted
    ∙ at_fault h.before h.rest fault h.at_rest

-- so a text that spells pieces has no fault
pub no_fault : (text : List ℕ) (pieces : List Piece) (fault : Fault) → Spells text pieces
    → HasFirstFault text fault → ⊥
no_fault text pieces fault s h =
    let bad : ◌≡◌ {A = Result (List Piece) Fault} (Ok pieces) (Err fault) =
    sym (pieces_are text pieces s) ∙ fault_is text fault h in
    cc

-- it spells one row of pieces at most
pub one_spelled : (text : List ℕ) (left right : List Piece) → Spells text left
    → Spells text right → left ≡ right
one_spelled text left right a b =
    same_Ok {E = Fault} left right (sym (pieces_are text left a) ∙ pieces_are text right b)

-- the line of a piece is that of no other
pub one_piece : (left right : Piece) → IsLine left → IsLine right
    → data_line left ≡ data_line right → left ≡ right
one_piece left right a b same =
    (some_pair_parts left right (all_bytes left) (all_bytes right)
    (sym (line_again left a) ∙ ap read_line same ∙ line_again right b)).0
