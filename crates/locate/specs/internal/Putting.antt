-- The runs of segments as pieces of memory, in the order of their addresses.
use Rattle.std.specs.Prelude.{ℕ, ◌+◌, ◌<◌, ◌≤◌, ◌==◌, if◌then◌else◌, List, [], ◌∷◌, ◌++◌, length}
use Rattle.std.specs.List.{AllByRecursion}
use Rattle.mem80.specs.declared.memory.TheConstants.{MEMORY_SIZE}
use Rattle.mem80.specs.declared.range.Piece.{Piece}
use Rattle.object_modules.specs.declared.segment.Fix.{Fix}
use Rattle.object_modules.specs.declared.segment.Target.{Target}
use Rattle.object_modules.specs.Text.{Run}
use Rattle.locate.specs.internal.Fixing.{walk_at, values_from, fixes_after}

-- a run as a piece
abbrev pub piece_at : (base : ℕ) → Run ℕ → Piece
piece_at base run = record { start = base + run.offset; bytes = run.items }

-- a run as a piece, with the first of these fixes applied
abbrev pub piece_of : (gain_of : Target → ℕ) → (base : ℕ) → Run ℕ → List Fix → Piece
piece_of gain_of base run fixes = record {
  start = base + run.offset;
  bytes = values_from gain_of (walk_at run.offset fixes) run.items;
}

-- the runs of a segment as pieces, with the fixes applied
abbrev pub pieces_from : (gain_of : Target → ℕ) → (base : ℕ) → List (Run ℕ) → List Fix → List Piece
pieces_from gain_of base [] fixes = []
pieces_from gain_of base (run ∷ others) fixes =
    piece_of gain_of base run fixes
    ∷ pieces_from gain_of base others (fixes_after gain_of (walk_at run.offset fixes) run.items)

-- two pieces in a row, as one if they touch
abbrev pub joined : Piece → Piece → List Piece
joined piece next =
    if piece.start + length piece.bytes == next.start
    then record { start = piece.start; bytes = piece.bytes ++ next.bytes } ∷ []
    else piece ∷ next ∷ []

-- pieces with one after them
abbrev pub with_piece : List Piece → Piece → List Piece
with_piece [] next = next ∷ []
with_piece (piece ∷ []) next = joined piece next
with_piece (piece ∷ second ∷ others) next = piece ∷ with_piece (second ∷ others) next

-- pieces with others after them
abbrev pub with_pieces : List Piece → List Piece → List Piece
with_pieces pieces [] = pieces
with_pieces pieces (next ∷ others) = with_pieces (with_piece pieces next) others

-- each run has a place in memory from a base on
abbrev pub LieInMemory : (base : ℕ) → List (Run ℕ) → Type 0
LieInMemory base runs =
    AllByRecursion
    (λ (run : Run ℕ). (base + run.offset < MEMORY_SIZE) × (run.offset + length run.items ≤ MEMORY_SIZE))
    runs
