-- The pieces of an image: those of the segment that begins first, and then those of the other.
use Rattle.std.specs.Prelude.{ℕ, ◌%◌, ◌==◌, Bool, true, false, not, ◌&&◌, nat_le, if◌then◌else◌, List, []}
use Rattle.mem80.specs.declared.range.Piece.{Piece}
use Rattle.object_modules.specs.declared.segment.Fix.{Fix}
use Rattle.object_modules.specs.declared.segment.FixKind.{FixKind}
use Rattle.object_modules.specs.declared.segment.FixKind.TheVariants.{Low, High, Both}
use Rattle.object_modules.specs.declared.segment.Segment.{Segment}
use Rattle.object_modules.specs.declared.segment.Segment.TheVariants.{Code, Data}
use Rattle.object_modules.specs.declared.segment.Target.{Target}
use Rattle.object_modules.specs.Image.{Plan, base_of, gain_at}
use Rattle.object_modules.specs.Module.{ObjectModule}
use Rattle.object_modules.specs.Runs.{runs_of, fixes_in}
use Rattle.locate.specs.internal.Putting.{pieces_from, with_pieces}

abbrev pub segment_pieces : Plan → ObjectModule → Segment → List Piece
segment_pieces plan object segment =
    pieces_from (gain_at plan) (base_of plan segment) (runs_of object segment) (fixes_in object segment)

abbrev pub in_turn : (first second : List Piece) → List Piece
in_turn first second = with_pieces (with_pieces [] first) second

abbrev pub image_pieces : Plan → ObjectModule → List Piece
image_pieces plan object =
    if nat_le plan.code_base plan.data_base
    then in_turn (segment_pieces plan object Code) (segment_pieces plan object Data)
    else in_turn (segment_pieces plan object Data) (segment_pieces plan object Code)

abbrev pub is_high : FixKind → Bool
is_high Low = false
is_high High = true
is_high Both = false

-- a high byte is fixed to a segment that would begin within a page
abbrev pub breaks_high : (gain_of : Target → ℕ) → Fix → Bool
breaks_high gain_of fix = is_high fix.kind && not (gain_of fix.target % 256 == 0)
