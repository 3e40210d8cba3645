-- What placing a module rests on.
use Rattle.locate.proofs.Prelude.{◌≡◌, ◌+◌, ◌<◌, ◌≤◌, true, cond, List, [], ◌∷◌, length, All, Some, None, Err, ap, sym, subst, ◌∙◌, le-leb, lt-leb, All-from_recursion, AllByRecursion, Piece, AreLongestRuns, EndsInMemory, are_runs, Code, Data, Plan, PlacementRefusal, base_of, image_at, image_of, placed, placement_refusal, unless_refused, ObjectModule, places_of, Absolute, IsPlaced, segment_pieces, in_turn, image_pieces, allowed}
use Rattle.locate.proofs.Pieces.{Ends}
use Rattle.locate.proofs.Images.{image_is}

-- each segment has room
pub code_room :
    (plan : Plan) (object : ObjectModule) → placement_refusal plan object ≡ None
    → base_of plan Code + length (places_of object Code) ≤ 65536
code_room plan object h = (allowed plan object h).code

pub data_room :
    (plan : Plan) (object : ObjectModule) → placement_refusal plan object ≡ None
    → base_of plan Data + length (places_of object Data) ≤ 65536
data_room plan object h = (allowed plan object h).data_places

-- the segment that begins first comes first
pub code_first :
    (plan : Plan) (object : ObjectModule) → plan.code_base ≤ plan.data_base
    → in_turn (segment_pieces plan object Code) (segment_pieces plan object Data) ≡ image_pieces plan object
code_first plan object h =
    sym (ap (λ b. cond b (in_turn (segment_pieces plan object Code) (segment_pieces plan object Data))
    (in_turn (segment_pieces plan object Data) (segment_pieces plan object Code)))
    (le-leb plan.code_base plan.data_base h))

pub data_first :
    (plan : Plan) (object : ObjectModule) → plan.data_base < plan.code_base
    → in_turn (segment_pieces plan object Data) (segment_pieces plan object Code) ≡ image_pieces plan object
data_first plan object h =
    sym (ap (λ b. cond b (in_turn (segment_pieces plan object Code) (segment_pieces plan object Data))
    (in_turn (segment_pieces plan object Data) (segment_pieces plan object Code)))
    (lt-leb plan.code_base plan.data_base h))

in_memory_by : (pieces : List Piece) → Ends 65536 pieces → AllByRecursion EndsInMemory pieces
in_memory_by [] ends = tt
in_memory_by (piece ∷ others) ends = (ends.0, in_memory_by others ends.1)

-- the pieces of an image are runs in memory
pub image_runs :
    (plan : Plan) (object : ObjectModule) (pieces : List Piece) → placement_refusal plan object ≡ None
    → pieces ≡ image_pieces plan object → are_runs pieces ≡ true
image_runs plan object pieces h same =
    ap are_runs same ∙ ((image_is plan object h).longest).runs

pub image_in_memory :
    (plan : Plan) (object : ObjectModule) (pieces : List Piece) → placement_refusal plan object ≡ None
    → pieces ≡ image_pieces plan object → All EndsInMemory pieces
image_in_memory plan object pieces h same =
    let P : List Piece → Type 0 = λ these. All EndsInMemory these in
    subst P (sym same)
    (All-from_recursion EndsInMemory (image_pieces plan object)
    (in_memory_by (image_pieces plan object) (image_is plan object h).ends))

-- what has them is the module, placed
pub is_placed :
    (plan : Plan) (object : ObjectModule) (absolute : Absolute)
    → placement_refusal plan object ≡ None → absolute.pieces ≡ image_pieces plan object
    → absolute.start ≡ (placed plan object).start → absolute.symbols ≡ (placed plan object).symbols
    → IsPlaced plan object absolute
is_placed plan object absolute h same start symbols =
    let P : List Piece → Type 0 = λ these. AreLongestRuns these (image_at plan object) in
    record {
      image = placed plan object;
      found = ap (unless_refused (placed plan object)) h;
      pieces = subst P (sym same) (image_is plan object h).longest;
      start = start;
      symbols = symbols;
    }

-- a plan that is refused has no image
pub is_refused :
    (plan : Plan) (object : ObjectModule) (refusal : PlacementRefusal)
    → placement_refusal plan object ≡ Some refusal → image_of plan object ≡ Err refusal
is_refused plan object refusal h = ap (unless_refused (placed plan object)) h
