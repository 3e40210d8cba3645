-- The modules of a merge that is placed and put into a memory stand there.
use Rattle.image_laws.proofs.Prelude.{◌≡◌, ℕ, ◌+◌, ◌<◌, ◌≤◌, true, false, List, [], ◌∷◌, length, map, Option, None, unwrap_or, Ok, ap, sym, subst, ◌∙◌, arith, AllByRecursion, option_or, All-from_recursion, recursion_from_All, byte_at, IsLoaded, Segment, Code, Data, Linked, all_publics, gain_in, linked_modules, start_of, target_kept, Plan, Image, at_address, base_of, gain_at, image_at, image_of, placed, placed_bytes, placement_refusal, code_piece, data_piece, joined, places_moved, some_high_byte_moves, SetByte, Public, ObjectModule, IsObjectModule, places_of, words_are_whole, IsAllowed, allowed, IsMerge, ValidLinked, code_follow, code_pieces, data_follow, data_pieces, linked_valid, merge_is, places_are, unless_ok, Piece, PiecesFollow, end_after, joined_length, moved_length, BytesAreLoaded, ModuleStands, ObjectsStand, OthersStay, SegmentStands, address_of_target, piece_base, segment_bytes}
use Rattle.image_laws.proofs.Images.Gains.{gains_in_two, highs_gain_pages, none_of}
use Rattle.image_laws.proofs.Images.Loaded.{at_elsewhere, code_loaded, data_loaded, loaded_stand, placed_length}
use Rattle.image_laws.proofs.Images.Pieces.{EndsBy, PieceStands, WholePiece, pieces_end, pieces_stand, resolved_length}
use Rattle.image_laws.proofs.Images.TwoSteps.{HighsGainPages, resolved_twice}

whole_pieces :
    (pieces : List (ℕ × List (Option SetByte))) → AllByRecursion Piece pieces
    → AllByRecursion WholePiece pieces
whole_pieces [] all = tt
whole_pieces (piece ∷ others) all = (all.0.whole, whole_pieces others all.1)

-- A segment stands where its piece is in the merge.
segment_stands :
    (plan : Plan) (merged : ObjectModule) (linked : Linked) (segment : Segment) (before after : List ℕ)
    (end : ℕ)
    → words_are_whole (places_of linked.object segment) ≡ true
    → HighsGainPages (gain_in merged.publics linked) (places_of linked.object segment)
    → base_of plan segment + end ≤ 65536
    → EndsBy end
    (start_of linked.start segment, places_moved merged.publics linked (places_of linked.object segment))
    → PieceStands (gain_at plan) before after (base_of plan segment)
    (start_of linked.start segment, places_moved merged.publics linked (places_of linked.object segment))
    → SegmentStands plan merged linked segment before after
segment_stands plan merged linked segment before after end whole high room ends stands =
    let places : List (Option SetByte) = places_of linked.object segment in
    let base : ℕ = piece_base plan linked.start segment in
    let size : length (places_moved merged.publics linked (places_of linked.object segment))
    ≡ length (places_of linked.object segment) =
    moved_length (gain_in merged.publics linked) (target_kept merged.publics linked) None
    (places_of linked.object segment) in
    let many = resolved_length (address_of_target plan merged linked) (places_of linked.object segment) in
    let short :
    base_of plan segment + start_of linked.start segment + length (places_of linked.object segment) ≤ 65536 =
    omega (arith, size, room, ends) in
    let loaded : BytesAreLoaded before after base (segment_bytes plan merged linked segment) =
    subst (BytesAreLoaded before after base)
    (resolved_twice (gain_in merged.publics linked) (gain_at plan) (address_of_target plan merged linked)
    (target_kept merged.publics linked) (gains_in_two plan merged linked) places whole high)
    stands in
    record {
      in_memory = short;
      stands =
          loaded_stand before after base (segment_bytes plan merged linked segment)
          (omega (arith, many, short))
          loaded;
      loaded = loaded;
    }

module _
    (plan : Plan) (merged : ObjectModule) (before after : List ℕ) (code_end data_end : ℕ)
    (code_room : plan.code_base + code_end ≤ 65536) (data_room : plan.data_base + data_end ≤ 65536) where
  modules_stand :
      (linked : List Linked)
      → AllByRecursion ValidLinked linked
      → AllByRecursion (λ one. some_high_byte_moves merged.publics one ≡ false) linked
      → AllByRecursion (EndsBy code_end) (map (code_piece merged.publics) linked)
      → AllByRecursion (EndsBy data_end) (map (data_piece merged.publics) linked)
      → AllByRecursion (PieceStands (gain_at plan) before after plan.code_base)
      (map (code_piece merged.publics) linked)
      → AllByRecursion (PieceStands (gain_at plan) before after plan.data_base)
      (map (data_piece merged.publics) linked)
      → AllByRecursion (ModuleStands plan merged before after) linked
  modules_stand [] valid high code_ends data_ends code_stands data_stands = tt
  modules_stand (one ∷ others) valid high code_ends data_ends code_stands data_stands =
      let pages = highs_gain_pages merged.publics one high.0 in (
        record {
          code =
              segment_stands plan merged one Code before after code_end
              (places_are (length (one.object).externals) (one.object).code valid.0.code).whole pages.0
              code_room
              code_ends.0 code_stands.0;
          data_places =
              segment_stands plan merged one Data before after data_end
              (places_are (length (one.object).externals) (one.object).data_places valid.0.data_places).whole
              pages.1
              data_room data_ends.0 data_stands.0;
        },
        modules_stand others valid.1 high.1 code_ends.1 data_ends.1 code_stands.1 data_stands.1,
      )

-- The pieces of the whole merge.
merge_stands :
    (objects : List ObjectModule) (plan : Plan) (before after : List ℕ)
    → AllByRecursion IsObjectModule objects
    → IsMerge objects (joined objects (linked_modules objects))
    → IsAllowed plan (joined objects (linked_modules objects))
    → IsLoaded (image_at plan (joined objects (linked_modules objects))) before after
    → AllByRecursion (ModuleStands plan (joined objects (linked_modules objects)) before after)
    (linked_modules objects)
merge_stands objects plan before after valid merge is loaded =
    let linked : List Linked = linked_modules objects in
    let publics : List Public = all_publics linked in
    let merged : ObjectModule = joined objects linked in
    let all = linked_valid 0 0 objects valid in
    let codes : List (ℕ × List (Option SetByte)) = map (code_piece publics) linked in
    let datas : List (ℕ × List (Option SetByte)) = map (data_piece publics) linked in
    let codes_follow : PiecesFollow 0 codes = code_follow publics 0 0 objects in
    let datas_follow : PiecesFollow 0 datas = data_follow publics 0 0 objects in
    let code_size : 0 + length (places_of merged Code) ≡ end_after 0 codes =
    joined_length 0 codes codes_follow in
    let data_size : 0 + length (places_of merged Data) ≡ end_after 0 datas =
    joined_length 0 datas datas_follow in
    let code_fits : plan.code_base + length (places_of merged Code) ≤ 65536 = is.code in
    let data_fits : plan.data_base + length (places_of merged Data) ≤ 65536 = is.data_places in
    let code_zero : plan.code_base ≡ plan.code_base + 0 = omega arith in
    let data_zero : plan.data_base ≡ plan.data_base + 0 = omega arith in
    modules_stand plan merged before after (end_after 0 codes) (end_after 0 datas)
    (omega (arith, code_size, code_fits)) (omega (arith, data_size, data_fits)) linked all
    (none_of (some_high_byte_moves publics) linked merge.high)
    (pieces_end 0 codes codes_follow) (pieces_end 0 datas datas_follow)
    (pieces_stand (gain_at plan) before after plan.code_base 0 codes
    (whole_pieces codes (code_pieces publics linked all)) codes_follow
    (subst (λ n. BytesAreLoaded before after n (placed_bytes plan merged Code)) code_zero
    (code_loaded plan merged before after is loaded)))
    (pieces_stand (gain_at plan) before after plan.data_base 0 datas
    (whole_pieces datas (data_pieces publics linked all)) datas_follow
    (subst (λ n. BytesAreLoaded before after n (placed_bytes plan merged Data)) data_zero
    (data_loaded plan merged before after is loaded)))

-- what an image that is put into a memory says of it
pub image_loaded :
    (plan : Plan) (merged : ObjectModule) (image : Image) (before after : List ℕ)
    → image_of plan merged ≡ Ok image
    → IsLoaded image.byte_at before after
    → IsAllowed plan merged × IsLoaded (image_at plan merged) before after
image_loaded plan merged image before after found loaded =
    let is = unless_ok (placed plan merged) (placement_refusal plan merged) image found in (
      allowed plan merged is.1,
      subst (λ (i : Image). IsLoaded i.byte_at before after) (sym is.0) loaded,
    )

pub objects_stand : ObjectsStand
objects_stand objects merged plan image before after is =
    let merge = merge_is objects merged is.merge in
    let made = image_loaded plan merged image before after is.placed is.loaded in
    let P : ObjectModule → Type 0 = λ object.
    IsMerge objects object → IsAllowed plan object → IsLoaded (image_at plan object) before after
    → AllByRecursion (ModuleStands plan object before after) (linked_modules objects) in
    All-from_recursion (ModuleStands plan merged before after) (linked_modules objects)
    (subst P (sym merge.said)
    (merge_stands objects plan before after (recursion_from_All IsObjectModule objects is.valid))
    merge made.0 made.1)

-- An address in neither segment.
image_elsewhere :
    (plan : Plan) (object : ObjectModule) (address : ℕ)
    → ((plan.code_base ≤ address) → (address < plan.code_base + length (placed_bytes plan object Code)) → ⊥)
    → ((plan.data_base ≤ address) → (address < plan.data_base + length (placed_bytes plan object Data)) → ⊥)
    → image_at plan object address ≡ None
unfolding image_at
image_elsewhere plan object address not_code not_data =
    ap (λ x. option_or x (at_address plan.data_base (placed_bytes plan object Data) address))
    (at_elsewhere plan.code_base address (placed_bytes plan object Code) not_code)
    ∙ at_elsewhere plan.data_base address (placed_bytes plan object Data) not_data

pub others_stay : OthersStay
others_stay objects merged plan image before after is address low not_code not_data =
    let made = image_loaded plan merged image before after is.placed is.loaded in
    let code_size = placed_length plan merged Code in
    let data_size = placed_length plan merged Data in
    made.1.bytes address low
    ∙ ap (λ x. unwrap_or x (byte_at before address))
    (image_elsewhere plan merged address
    (λ a b. not_code (a, omega (arith, code_size, b)))
    (λ a b. not_data (a, omega (arith, data_size, b))))
