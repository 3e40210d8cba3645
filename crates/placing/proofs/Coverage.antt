-- Which bytes pieces have, by how far those reach that start at each address.
use Rattle.placing.proofs.Prelude.{◌≡◌, ℕ, zero, suc, ◌+◌, ◌<◌, ◌≤◌, min, max, Bool, true, false, cond, List, [], ◌∷◌, length, take, get_or, Decides, refl, ap, sym, subst, ◌∙◌, arith, fold, filter, replicate, ◌||◌, ◌&&◌, nat_le, nat_lt, list_any, or_assoc, dec_le, length-set, length-replicate, false≢true, nat_tests, MEMORY_SIZE, Range, PlacedPiece, IsOneOf, holds_byte, is_constant_piece, Decides-one_of, Undeclared, ReachTables, no_ends, no_reaches, end_of, raised, with_end, with_piece, with_pieces, reach_below, is_covered, byte_kind, kind_in, or-false}
use Rattle.placing.specs.declared.table.ByteKind.{ByteKind}
use Rattle.placing.specs.internal.Tables.{IsKind, IsTableOf}

-- a greatest number with one more
fold_with :
    (first more : ℕ) (numbers : List ℕ)
    → fold max (max first more) numbers ≡ max (fold max first numbers) more
fold_with first more [] = refl
fold_with first more (number ∷ others) =
    ap (λ n. fold max n others) (swapped first more number) ∙ fold_with (max first number) more others
  where
    swapped : (a b c : ℕ) → max (max a b) c ≡ max (max a c) b
    swapped a b c = omega arith

raised_below :
    (first : ℕ) (ends : List ℕ) (start end address : ℕ)
    → start < address
    → address ≤ length ends
    → fold max first (take address (raised ends start end)) ≡ max (fold max first (take address ends)) end
raised_below first [] start end address below within = absurd (omega arith)
raised_below first (here ∷ others) start end zero below within = absurd (omega arith)
raised_below first (here ∷ others) zero end (suc address) below within =
    ap (λ n. fold max n (take address others)) (grouped first here end)
    ∙ fold_with (max first here) end (take address others)
  where
    grouped : (a b c : ℕ) → max a (max b c) ≡ max (max a b) c
    grouped a b c = omega arith
raised_below first (here ∷ others) (suc start) end (suc address) below within =
    raised_below (max first here) others start end address (omega arith) (omega arith)

raised_from :
    (first : ℕ) (ends : List ℕ) (start end address : ℕ)
    → address ≤ start
    → fold max first (take address (raised ends start end)) ≡ fold max first (take address ends)
raised_from first [] start end address from = refl
raised_from first (here ∷ others) start end zero from = refl
raised_from first (here ∷ others) zero end (suc address) from = absurd (omega arith)
raised_from first (here ∷ others) (suc start) end (suc address) from =
    raised_from (max first here) others start end address (omega arith)

lt_max : (a u e : ℕ) → nat_lt a (max u e) ≡ (nat_lt a u || nat_lt a e)
lt_max a u e = grind (arith, nat_tests)

lt_min : (a e m : ℕ) → a < m → nat_lt a (min e m) ≡ nat_lt a e
lt_min a e m within = grind (arith, nat_tests)

has_started :
    (address start end : ℕ)
    → start < address + 1
    → (nat_le start address && nat_lt address end) ≡ nat_lt address end
has_started address start end below = grind (arith, nat_tests)

has_not_started :
    (address start end : ℕ) (before : Bool)
    → address + 1 ≤ start
    → before ≡ (before || (nat_le start address && nat_lt address end))
has_not_started address start end true from = refl
has_not_started address start end false from = grind (arith, nat_tests)

-- a table with one piece more covers what it covered, and what the piece has
covered_raised :
    (ends : List ℕ) (piece : PlacedPiece) (address : ℕ)
    → address < length ends
    → address < MEMORY_SIZE
    → is_covered (raised ends piece.range.start (end_of piece.range)) address
    ≡ (is_covered ends address || holds_byte address piece)
covered_raised ends piece address within in_memory =
    elim (dec_le (suc range.start) (address + 1)) [
      | yes below ↦
          ap (nat_lt address) (raised_below 0 ends range.start (end_of range) (address + 1)
          (omega (arith, below)) (omega (arith, within)))
          ∙ lt_max address (reach_below ends (address + 1)) (end_of range)
          ∙ ap (λ is. is_covered ends address || is)
          (lt_min address (range.start + range.len) MEMORY_SIZE in_memory
          ∙ sym (has_started address range.start (range.start + range.len) (omega (arith, below))))
      | no above ↦
          ap (nat_lt address) (raised_from 0 ends range.start (end_of range) (address + 1)
          (omega (arith, above)))
          ∙ has_not_started address range.start (range.start + range.len) (is_covered ends address)
          (omega (arith, above))
    ]
  where
    range : Range
    range = piece.range

covered_with :
    (tables : ReachTables) (pieces : List PlacedPiece) (address : ℕ)
    → address < length tables.all
    → address < MEMORY_SIZE
    → is_covered (with_pieces tables pieces).all address
    ≡ (is_covered tables.all address || list_any (holds_byte address) pieces)
covered_with tables [] address within in_memory = (sym (or-false (is_covered tables.all address)))
covered_with tables (piece ∷ others) address within in_memory =
    covered_with (with_piece tables piece) others address
    (subst (λ n. address < n) (sym (length-set tables.all piece.range.start _)) within) in_memory
    ∙ ap (λ is. is || list_any (holds_byte address) others)
    (covered_raised tables.all piece address within in_memory)
    ∙ or_assoc (is_covered tables.all address) (holds_byte address piece)
    (list_any (holds_byte address) others)

constant_with :
    (tables : ReachTables) (pieces : List PlacedPiece) (address : ℕ)
    → address < length tables.constants
    → address < MEMORY_SIZE
    → is_covered (with_pieces tables pieces).constants address
    ≡ (is_covered tables.constants address || list_any (holds_byte address) (filter is_constant_piece pieces))
constant_with tables [] address within in_memory = (sym (or-false (is_covered tables.constants address)))
constant_with tables (piece ∷ others) address within in_memory =
    step (is_constant_piece piece) (λ is_constant now_within.
    constant_with (with_end tables piece.range.start (end_of piece.range) is_constant) others address
    now_within in_memory)
  where
    step :
        (is_constant : Bool)
        → ((taken : Bool)
        → address < length (with_end tables piece.range.start (end_of piece.range) taken).constants
        → is_covered
        (with_pieces (with_end tables piece.range.start (end_of piece.range) taken) others).constants address
        ≡ (is_covered (with_end tables piece.range.start (end_of piece.range) taken).constants address
        || list_any (holds_byte address) (filter is_constant_piece others)))
        → is_covered
        (with_pieces (with_end tables piece.range.start (end_of piece.range) is_constant) others).constants
        address
        ≡ (is_covered tables.constants address
        || list_any (holds_byte address)
        (cond is_constant (piece ∷ filter is_constant_piece others) (filter is_constant_piece others)))
    step true next =
        next true (subst (λ n. address < n) (sym (length-set tables.constants piece.range.start _)) within)
        ∙ ap (λ is. is || list_any (holds_byte address) (filter is_constant_piece others))
        (covered_raised tables.constants piece address within in_memory)
        ∙ or_assoc (is_covered tables.constants address) (holds_byte address piece)
        (list_any (holds_byte address) (filter is_constant_piece others))
    step false next = next false within

-- before any piece nothing is covered
none_below : (count address : ℕ) → fold max 0 (take address (replicate count 0)) ≡ 0
none_below zero zero = refl
none_below zero (suc address) = refl
none_below (suc count) zero = refl
none_below (suc count) (suc address) = none_below count address

not_past_nothing : (address reach : ℕ) → reach ≡ 0 → nat_lt address reach ≡ false
not_past_nothing address reach is = grind (arith, nat_tests)

none_covered : (address : ℕ) → is_covered no_ends address ≡ false
unfolding no_ends
none_covered address =
    not_past_nothing address (reach_below (replicate MEMORY_SIZE 0) (address + 1))
    (none_below MEMORY_SIZE (address + 1))

within_no_ends : (address : ℕ) → address < MEMORY_SIZE → address < length no_ends
unfolding no_ends
within_no_ends address in_memory =
    subst (λ n. address < n) (sym (length-replicate {A = ℕ} MEMORY_SIZE 0)) in_memory

-- what a byte is, by what decides whether pieces have it
kind_told :
    (pieces : List PlacedPiece) (address : ℕ) (is_declared is_constant : Bool)
    → Decides is_declared (IsOneOf pieces address)
    → Decides is_constant (IsOneOf (filter is_constant_piece pieces) address)
    → IsKind pieces address (byte_kind is_declared is_constant)
kind_told pieces address true true declared constant = constant.0 refl
kind_told pieces address false true declared constant = constant.0 refl
kind_told pieces address true false declared constant =
    (declared.0 refl, λ found. absurd (false≢true (constant.1 found)))
kind_told pieces address false false declared constant = λ found. absurd (false≢true (declared.1 found))

-- a table by how far the pieces reach says what each byte is
pub table_told :
    (pieces : List PlacedPiece) (first tables : ReachTables) (kinds : List ByteKind)
    → first ≡ no_reaches
    → tables ≡ with_pieces first pieces
    → ((address : ℕ) → address < MEMORY_SIZE → get_or kinds address Undeclared ≡ kind_in tables address)
    → IsTableOf pieces kinds
table_told pieces first tables kinds new given told address in_memory =
    let constants : List PlacedPiece = filter is_constant_piece pieces in
    let all_given : tables ≡ with_pieces no_reaches pieces =
    given ∙ ap (λ before. with_pieces before pieces) new in
    let declared : is_covered tables.all address ≡ list_any (holds_byte address) pieces =
    ap (λ (now : ReachTables). is_covered now.all address) all_given
    ∙ covered_with no_reaches pieces address (within_no_ends address in_memory) in_memory
    ∙ ap (λ is. is || list_any (holds_byte address) pieces) (none_covered address) in
    let constant : is_covered tables.constants address ≡ list_any (holds_byte address) constants =
    ap (λ (now : ReachTables). is_covered now.constants address) all_given
    ∙ constant_with no_reaches pieces address (within_no_ends address in_memory) in_memory
    ∙ ap (λ is. is || list_any (holds_byte address) constants) (none_covered address) in
    subst (IsKind pieces address)
    (sym (told address in_memory ∙ ap (λ is. byte_kind is (is_covered tables.constants address)) declared
    ∙ ap (byte_kind (list_any (holds_byte address) pieces)) constant))
    (kind_told pieces address
    (list_any (holds_byte address) pieces) (list_any (holds_byte address) constants)
    (Decides-one_of pieces address) (Decides-one_of constants address))
