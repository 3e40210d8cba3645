-- What the judgement of a text gives: the pieces that it spells, or its first fault; and a text has one of these.
use Rattle.hex80.proofs.Prelude.{◌≡◌, ℕ, ◌+◌, ◌%◌, Bool, true, false, cond, not, ◌==◌, ◌&&◌, nat_lt, nat_le, List, [], ◌∷◌, ◌++◌, length, map, sum, Option, Some, None, Result, Ok, Err, refl, ap, sym, subst, ◌∙◌, list_all, list_any, option_map_or, bytes_eq, lines, eqb-true, ltb-true, lt-ltb, leb-true, le-leb, not-true, not-false, append_assoc, append-nil, bytes_eq-Decides, Piece, pieces_meet, Fault, BadLine, WrongSum, Overlap, data_line, end_line, read_line, fault_of_data, fault_of_line, is_empty, fault_at, is_line_piece, are_line_pieces, Spells, HasFirstFault, judged_by, judged_after, judgement_of, and_parts}
use Rattle.hex80.proofs.Digits.{IsBytes}
use Rattle.hex80.proofs.LineLaws.{IsLine, line_back}

-- tests of bytes
all_small : (bytes : List ℕ) → IsBytes bytes → list_all (λ byte. nat_lt byte 256) bytes ≡ true
all_small [] all = refl
all_small (byte ∷ others) all =
    ap (λ t. t && list_all (λ b. nat_lt b 256) others) (lt-ltb byte 256 all.0) ∙ all_small others all.1

small_all : (bytes : List ℕ) → list_all (λ byte. nat_lt byte 256) bytes ≡ true → IsBytes bytes
small_all [] h = tt
small_all (byte ∷ others) h =
    let t = and_parts (nat_lt byte 256) (list_all (λ b. nat_lt b 256) others) h in
    (ltb-true byte 256 t.0, small_all others t.1)

-- the tests of a piece of a line
pub line_piece : (before : List Piece) (piece : Piece) → IsLine piece
    → list_any (pieces_meet piece) before ≡ false → is_line_piece before piece ≡ true
line_piece before piece is apart =
    ap (λ t. t && list_all (λ byte. nat_lt byte 256) piece.bytes && nat_lt piece.start 65536
    && nat_le (piece.start + length piece.bytes) 65536 && not (list_any (pieces_meet piece) before))
    (lt-ltb (length piece.bytes) 256 is.short)
    ∙ ap (λ t. t && nat_lt piece.start 65536 && nat_le (piece.start + length piece.bytes) 65536
    && not (list_any (pieces_meet piece) before)) (all_small piece.bytes is.bytes)
    ∙ ap (λ t. t && nat_le (piece.start + length piece.bytes) 65536
    && not (list_any (pieces_meet piece) before)) (lt-ltb piece.start 65536 is.start)
    ∙ ap (λ t. t && not (list_any (pieces_meet piece) before))
    (le-leb (piece.start + length piece.bytes) 65536 is.in_memory)
    ∙ ap not apart

pub piece_line : (before : List Piece) (piece : Piece) → is_line_piece before piece ≡ true
    → IsLine piece × (list_any (pieces_meet piece) before ≡ false)
piece_line before piece h =
    let d = and_parts (nat_lt (length piece.bytes) 256 && list_all (λ byte. nat_lt byte 256) piece.bytes
    && nat_lt piece.start 65536 && nat_le (piece.start + length piece.bytes) 65536)
    (not (list_any (pieces_meet piece) before)) h in
    let c = and_parts (nat_lt (length piece.bytes) 256 && list_all (λ byte. nat_lt byte 256) piece.bytes
    && nat_lt piece.start 65536) (nat_le (piece.start + length piece.bytes) 65536) d.0 in
    let b = and_parts (nat_lt (length piece.bytes) 256 && list_all (λ byte. nat_lt byte 256) piece.bytes)
    (nat_lt piece.start 65536) c.0 in
    let a = and_parts (nat_lt (length piece.bytes) 256)
    (list_all (λ byte. nat_lt byte 256) piece.bytes) b.0 in (
      record {
        short = ltb-true (length piece.bytes) 256 a.0;
        bytes = small_all piece.bytes a.1;
        start = ltb-true piece.start 65536 b.1;
        in_memory = leb-true (piece.start + length piece.bytes) 65536 c.1;
      },
      not-true (list_any (pieces_meet piece) before) d.1,
    )

-- a line without a fault, and what was read of it
pub record Next (before : List Piece) (line : List ℕ) : Type 0 where
  pub read : Piece × List ℕ
  pub found : read_line line ≡ Some read
  pub line_is : line ≡ data_line read.0
  pub accepted : is_line_piece before read.0 ≡ true

next : (before : List Piece) (line : List ℕ) → fault_of_line before line ≡ None → Next before line
next before line h = go (read_line line) refl h
  where
    tests : (read : Piece × List ℕ) → read_line line ≡ Some read
        → (wrong : Bool) → not (sum read.1 % 256 == 0) ≡ wrong
        → (shared : Bool) → list_any (pieces_meet read.0) before ≡ shared
        → cond wrong (Some WrongSum) (cond shared (Some Overlap) None) ≡ None → Next before line
    tests read found true e shared f is = absurd (let bad : Some WrongSum ≡ None = is in cc)
    tests read found false e true f is = absurd (let bad : Some Overlap ≡ None = is in cc)
    tests read found false e false f is =
        let adds : sum read.1 % 256 ≡ 0 =
        eqb-true (sum read.1 % 256) 0 (not-false (sum read.1 % 256 == 0) e) in
        let l = line_back line read.0 read.1 found adds in
        record { read = read; found = found; line_is = l.0; accepted = line_piece before read.0 l.1 f }

    go : (read : Option (Piece × List ℕ)) → read_line line ≡ read
        → option_map_or (fault_of_data before) read (Some BadLine) ≡ None → Next before line
    go None e is = absurd (let bad : Some BadLine ≡ None = is in cc)
    go (Some read) e is =
        tests read e (not (sum read.1 % 256 == 0)) refl (list_any (pieces_meet read.0) before) refl is

-- what a judgement says of the lines after some pieces
pub record TextAfter (before : List Piece) (rows : List (List ℕ)) (all : List Piece) : Type 0 where
  pub later : List Piece
  pub all_is : all ≡ before ++ later
  pub rows_are : rows ≡ map data_line later ++ end_line ∷ []
  pub accepted : are_line_pieces before later ≡ true

pub record FaultAfter (before : List Piece) (rows : List (List ℕ)) (fault : Fault) : Type 0 where
  pub later : List Piece
  pub rest : List (List ℕ)
  pub rows_are : rows ≡ map data_line later ++ rest
  pub accepted : are_line_pieces before later ≡ true
  pub at_rest : fault_at (before ++ later) rest ≡ Some fault

abbrev pub Judges : List Piece → List (List ℕ) → Result (List Piece) Fault → Type 0
Judges before rows (Ok all) = TextAfter before rows all
Judges before rows (Err fault) = FaultAfter before rows fault

after_piece :
    (before : List Piece) (line : List ℕ) (rest : List (List ℕ)) (piece : Piece)
    (judged : Result (List Piece) Fault)
    → line ≡ data_line piece → is_line_piece before piece ≡ true
    → Judges (before ++ piece ∷ []) rest judged → Judges before (line ∷ rest) judged
after_piece before line rest piece (Ok all) line_is accepted j = record {
  later = piece ∷ j.later;
  all_is = j.all_is ∙ append_assoc before (piece ∷ []) j.later;
  rows_are = ap (λ l. l ∷ rest) line_is ∙ ap (λ r. data_line piece ∷ r) j.rows_are;
  accepted = ap (λ t. t && are_line_pieces (before ++ piece ∷ []) j.later) accepted ∙ j.accepted;
}
after_piece before line rest piece (Err fault) line_is accepted j = record {
  later = piece ∷ j.later;
  rest = j.rest;
  rows_are = ap (λ l. l ∷ rest) line_is ∙ ap (λ r. data_line piece ∷ r) j.rows_are;
  accepted = ap (λ t. t && are_line_pieces (before ++ piece ∷ []) j.later) accepted ∙ j.accepted;
  at_rest = ap (λ b. fault_at b j.rest) (sym (append_assoc before (piece ∷ []) j.later)) ∙ j.at_rest;
}

nothing_left : (rest : List (List ℕ)) → cond (is_empty rest) None (Some BadLine) ≡ None → rest ≡ []
nothing_left [] h = refl
nothing_left (line ∷ others) h = absurd (let bad : Some BadLine ≡ None = h in cc)

judged_as :
    (judged_next : List Piece → Result (List Piece) Fault) (before : List Piece) (line : List ℕ)
    (rest : List (List ℕ))
    → ((piece : Piece) → Judges (before ++ piece ∷ []) rest (judged_next (before ++ piece ∷ [])))
    → (fault : Option Fault) → fault_at before (line ∷ rest) ≡ fault
    → Judges before (line ∷ rest) (judged_by judged_next before fault (read_line line))
unfolding fault_at
judged_as judged_next before line rest onward (Some fault) e =
    record { later = []; rest = line ∷ rest; rows_are = refl; accepted = refl; at_rest = ap (λ b. fault_at b (line ∷ rest)) (append-nil before) ∙ e }
judged_as judged_next before line rest onward None e = go (bytes_eq line end_line) refl e
  where
    go : (last : Bool) → bytes_eq line end_line ≡ last
        → cond last (cond (is_empty rest) None (Some BadLine)) (fault_of_line before line) ≡ None
        → Judges before (line ∷ rest) (judged_by judged_next before None (read_line line))
    go true is h =
        let end : line ≡ end_line = (bytes_eq-Decides line end_line).0 is in
        let empty : rest ≡ [] = nothing_left rest h in
        subst (λ l. Judges before (l ∷ rest) (judged_by judged_next before None (read_line l))) (sym end)
        (record {
          later = [];
          all_is = sym (append-nil before);
          rows_are = ap (λ r. end_line ∷ r) empty;
          accepted = refl;
        })
    go false is h =
        let n = next before line h in
        subst (λ read. Judges before (line ∷ rest) (judged_by judged_next before None read)) (sym n.found)
        (after_piece before line rest n.read.0 (judged_next (before ++ n.read.0 ∷ [])) n.line_is n.accepted
        (onward n.read.0))

pub judged_law : (before : List Piece) (rows : List (List ℕ)) → Judges before rows (judged_after before rows)
unfolding fault_at
judged_law before [] = record { later = []; rest = []; rows_are = refl; accepted = refl; at_rest = refl }
judged_law before (line ∷ rest) =
    judged_as (λ pieces. judged_after pieces rest) before line rest
    (λ piece. judged_law (before ++ piece ∷ []) rest)
    (fault_at before (line ∷ rest)) refl

-- a text spells what it is judged to, or has the first fault that it is judged to have
abbrev pub JudgesText : List ℕ → Result (List Piece) Fault → Type 0
JudgesText text (Ok pieces) = Spells text pieces
JudgesText text (Err fault) = HasFirstFault text fault

text_judged : (text : List ℕ) (judged : Result (List Piece) Fault) → Judges [] (lines text) judged
    → JudgesText text judged
text_judged text (Ok all) j =
    subst (Spells text) (sym j.all_is) (record { lines_of_text = j.rows_are; accepted = j.accepted })
text_judged text (Err fault) j =
    record { before = j.later; rest = j.rest; lines_of_text = j.rows_are; accepted = j.accepted; at_rest = j.at_rest }

pub judged : (text : List ℕ) → JudgesText text (judgement_of text)
unfolding judgement_of
judged text = text_judged text (judged_after [] (lines text)) (judged_law [] (lines text))
