-- Jumps beside the pieces of a placed module.
use Rattle.object_commands.proofs.Prelude.{◌≡◌, ◌∙◌, ℕ, zero, suc, ◌+◌, ◌-◌, ◌≤◌, Bool, true, false, ◌||◌, List, [], ◌∷◌, length, map, slice_get, Option, None, Some, Ok, inl, inr, refl, sym, ap, subst, arith, if◌then◌else◌, nat_lt, cases_lt, ltb-false, or_parts, All-cons, All-from_recursion, AllPairs-cons, AllByRecursion, option_flatten, option_map, option_or, Absolute, IsPlaced, plan_view, ObjectModule, jump_meets, jump_piece, jump_range, jump_refusal, pieces_with, LeavesRoom, meets_decides, AreApart, AreWritable, EndsInMemory, byte_in, range_of, IsIn, ranges_meet, Plan, Piece, Range, bytes_of, Jmp, none_holds, first_that_holds, replicate, Image, PassesMemory, PlacementRefusal, SegmentsMeet, at_address, code_range, data_range, gain_at, image_of, passes_memory, placed, placed_bytes, range_at, stack_range, image_at, placement_refusal, unless_refused, SetByte, places_of, moved_after, Code, Data, Target, refusal_of, LocateFault, byte_of_piece, one_more, within}
use Rattle.std.specs.Prelude.{◌++◌}
use Rattle.object_modules.specs.Image as images

-- the places of a segment with their fixes done are as many as before
resolved_length :
    (gain_of : Target → ℕ) (before : Option SetByte) (places : List (Option SetByte))
    → length
    (map (option_map (λ (here : SetByte). here.value))
    (moved_after gain_of (λ target. None) before places)) ≡ length places
resolved_length gain_of before [] = refl
resolved_length gain_of before (here ∷ others) = ap suc (resolved_length gain_of here others)

-- nothing is past the end of bytes
past_end : (bytes : List (Option ℕ)) (index : ℕ) → length bytes ≤ index
    → option_flatten (slice_get bytes index) ≡ None
past_end [] index past = refl
past_end (byte ∷ others) zero past = absurd (omega arith)
past_end (byte ∷ others) (suc index) past = past_end others index (omega arith)

-- nothing is outside of the range of bytes
outside : (base address : ℕ) (bytes : List (Option ℕ)) → (IsIn address (range_at base (length bytes)) → ⊥)
    → at_address base bytes address ≡ None
outside base address bytes not_in = go (nat_lt address base) refl
  where
    go : (t : Bool) → nat_lt address base ≡ t
        → (if t then None else option_flatten (slice_get bytes (address - base))) ≡ None
    go true e = refl
    go false e =
        let low = ltb-false address base e in
        past_end bytes (address - base) (elim (cases_lt address (base + length bytes)) [
          | inl high ↦ absurd (not_in (low, high))
          | inr past ↦ omega arith
        ])

-- ranges that do not meet have no address in common
never_both : (left right : Range) → ranges_meet left right ≡ false → (address : ℕ) → IsIn address left
    → IsIn address right → ⊥
never_both left right apart address first second =
    let bad : true ≡ false = sym ((meets_decides left right).1 (address, first, second)) ∙ apart in cc

none_of_both : (first second : Option ℕ) → first ≡ None → second ≡ None → option_or first second ≡ None
none_of_both first second e f = rw (e, f) refl

-- a module sets no byte in a range that meets neither its code nor its data
unset :
    (plan : Plan) (object : ObjectModule) (range : Range)
    → ranges_meet range (code_range (plan_view plan) object) ≡ false
    → ranges_meet range (data_range (plan_view plan) object) ≡ false
    → (address : ℕ) → IsIn address range → image_at (plan_view plan) object address ≡ None
unfolding image_at
unset plan object range code_apart data_apart address is_in =
    none_of_both _ _
    (outside plan.code address (placed_bytes (plan_view plan) object Code)
    (λ there. never_both range (code_range (plan_view plan) object) code_apart address is_in
    (subst (λ (n : ℕ). IsIn address (range_at plan.code n))
    (resolved_length (gain_at (plan_view plan)) None (places_of object Code)) there)))
    (outside plan.data_base address (placed_bytes (plan_view plan) object Data)
    (λ there. never_both range (data_range (plan_view plan) object) data_apart address is_in
    (subst (λ (n : ℕ). IsIn address (range_at plan.data_base n))
    (resolved_length (gain_at (plan_view plan)) None (places_of object Data)) there)))

first_none : (first second : Option ℕ) → option_or first second ≡ None → first ≡ None
first_none None second e = refl
first_none (Some byte) second e = e

second_none : (first second : Option ℕ) → option_or first second ≡ None → second ≡ None
second_none None second e = e
second_none (Some byte) second e = absurd (let bad : Some byte ≡ None = e in cc)

none_is_some : (byte : ℕ) (found : Option ℕ) → found ≡ Some byte → found ≡ None → ⊥
none_is_some byte found some none = let bad : Some byte ≡ None = sym some ∙ none in cc

-- pieces without a byte in the range of another are apart from it
all_apart :
    (one : Piece) (pieces : List Piece)
    → ((address : ℕ) → IsIn address (range_of one) → byte_in pieces address ≡ None)
    → AllByRecursion (AreApart one) pieces
all_apart one [] none = tt
all_apart one (piece ∷ others) none = (
  (λ both.
      let address = both.0 in
      none_is_some _ (byte_of_piece piece address) (within piece address both.2.0 both.2.1)
      (first_none (byte_of_piece piece address) (byte_in others address)
      (sym (one_more piece others address) ∙ none address both.1))),
  all_apart one others (λ address is_in.
      second_none (byte_of_piece piece address) (byte_in others address)
      (sym (one_more piece others address) ∙ none address is_in)),
)

-- what was placed has the bytes of the module that was placed
bytes_placed : (plan : images.Plan) (object : ObjectModule) (image : Image) → image_of plan object ≡ Ok image
    → image.byte_at ≡ image_at plan object
bytes_placed plan object image found = go (placement_refusal plan object) found
  where
    go : (refusal : Option PlacementRefusal) → unless_refused (placed plan object) refusal ≡ Ok image
        → image.byte_at ≡ image_at plan object
    go None e = let same : placed plan object ≡ image = cc in ap (λ (i : Image). i.byte_at) (sym same)
    go (Some refusal) e = absurd (let bad = e in cc)

-- no piece is where neither the code nor the data is
no_piece :
    (plan : Plan) (object : ObjectModule) (absolute : Absolute) (range : Range)
    → IsPlaced (plan_view plan) object absolute
    → ranges_meet range (code_range (plan_view plan) object) ≡ false
    → ranges_meet range (data_range (plan_view plan) object) ≡ false
    → (address : ℕ) → IsIn address range → byte_in absolute.pieces address ≡ None
no_piece plan object absolute range is code_apart data_apart address is_in =
    is.pieces.bytes address
    ∙ ap (λ (byte_at : ℕ → Option ℕ). byte_at address)
    (bytes_placed (plan_view plan) object is.image is.found)
    ∙ unset plan object range code_apart data_apart address is_in

-- a jump for which there is room is apart from the pieces
pub leaves_room :
    (plan : Plan) (object : ObjectModule) (absolute : Absolute) (jump : Option ℕ)
    → IsPlaced (plan_view plan) object absolute
    → jump_refusal plan object jump ≡ None → LeavesRoom jump absolute
leaves_room plan object absolute None is room = tt
leaves_room plan object absolute (Some address) is room =
    let range = jump_range address in
    let first =
    none_holds (passes_memory range) PassesMemory
    ((jump_meets plan object address, SegmentsMeet) ∷ []) room in
    let second = none_holds (jump_meets plan object address) SegmentsMeet [] first.1 in
    let not_stack = or_parts
    (ranges_meet range (code_range (plan_view plan) object)
    || ranges_meet range (data_range (plan_view plan) object))
    (ranges_meet range (stack_range (plan_view plan))) second.0 in
    let apart = or_parts (ranges_meet range (code_range (plan_view plan) object))
    (ranges_meet range (data_range (plan_view plan) object)) not_stack.0 in (
      ltb-false 65536 (address + 3) first.0,
      All-from_recursion (AreApart (jump_piece address absolute.start)) absolute.pieces
          (all_apart (jump_piece address absolute.start) absolute.pieces
          (no_piece plan object absolute range is apart.0 apart.1)),
    )

-- so both can be written
pub writable_with :
    (address : ℕ) (absolute : Absolute) → LeavesRoom (Some address) absolute → AreWritable absolute.pieces
    → AreWritable (pieces_with (Some address) absolute)
writable_with address absolute room writable = record {
  in_memory =
      All-cons EndsInMemory (jump_piece address absolute.start) absolute.pieces room.0 writable.in_memory;
  apart = AllPairs-cons AreApart (jump_piece address absolute.start) absolute.pieces room.1 writable.apart;
}

-- the code of a jump has three bytes
pub jump_bytes :
    (code : List ℕ) (size start : ℕ) → code ≡ bytes_of (Jmp start) ++ replicate (3 - size) 0
    → size ≡ length (bytes_of (Jmp start))
    → code ≡ bytes_of (Jmp start)
jump_bytes code size start is three = rw three at is

-- what is wrong with a jump, if anything is
pub nothing_wrong : (passes meets : Bool) → passes ≡ false → meets ≡ false
    → first_that_holds ((passes, PassesMemory) ∷ (meets, SegmentsMeet) ∷ []) ≡ None
nothing_wrong passes meets e f = rw (e, f) refl

pub passes_first : (passes meets : Bool) → passes ≡ true
    → first_that_holds ((passes, PassesMemory) ∷ (meets, SegmentsMeet) ∷ []) ≡ Some PassesMemory
passes_first passes meets e = rw e refl

pub meets_next : (passes meets : Bool) → passes ≡ false → meets ≡ true
    → first_that_holds ((passes, PassesMemory) ∷ (meets, SegmentsMeet) ∷ []) ≡ Some SegmentsMeet
meets_next passes meets e f = rw (e, f) refl

-- no fault of a jump was found
pub no_refusal : (found : Option LocateFault) (refusal : Option PlacementRefusal)
    → option_map refusal_of found ≡ refusal
    → ((fault : LocateFault) → found ≡ Some fault → ⊥) → refusal ≡ None
no_refusal None refusal is none = sym is
no_refusal (Some fault) refusal is none = absurd (none fault refl)
