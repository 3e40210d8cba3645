-- The pieces of an image are its longest runs, and lie in memory.
use Rattle.locate.proofs.Prelude.{◌≡◌, ℕ, suc, ◌+◌, ◌<◌, ◌≤◌, ◌==◌, inl, inr, Bool, true, false, cond, min, max, nat_le, List, [], ◌∷◌, length, map, Option, Some, None, option_map, refl, ap, sym, subst, ◌∙◌, arith, option_or, leb-true, leb-false, cases_lt, Piece, AreLongestRuns, byte_in, are_runs, Segment, Code, Data, Target, Plan, base_of, gain_at, placed_bytes, at_address, image_at, placement_refusal, SetByte, ObjectModule, places_of, moved_after, bytes_of_run, runs_of, fixes_in, Run, before_runs, runs_from, allowed, segment_pieces, in_turn, image_pieces, LieInMemory, piece_at, with_pieces}
use Rattle.locate.proofs.Values.{value_of}
use Rattle.locate.proofs.Runs.{segment_pieces_are}
use Rattle.locate.proofs.Pieces.{piece_end, one_more, no_byte_above, no_byte_below, has_more, Begins, Begins-less, Ends, Ends-more, runs_parts, runs_with_pieces, ends_with_pieces, with_pieces_is}
use Rattle.locate.proofs.Places.{pieces_at, bytes_are, begins_at, ends_at, are_runs_at}

length_moved :
    (gain_of : Target → ℕ) (kept : Target → Option Target) (before : Option SetByte)
    (places : List (Option SetByte))
    → length (map (option_map value_of) (moved_after gain_of kept before places)) ≡ length places
length_moved gain_of kept before [] = refl
length_moved gain_of kept before (here ∷ others) = ap suc (length_moved gain_of kept here others)

-- pieces that begin at an address and have so many bytes of addresses to lie in
pub record Lie (base size : ℕ) (pieces : List Piece) : Type 0 where
  pub runs : are_runs pieces ≡ true
  pub begins : Begins base pieces
  pub ends : Ends (base + size) pieces

lie_at : (base : ℕ) (places : List (Option ℕ))
    → Lie base (length places) (pieces_at base (runs_from 0 places))
lie_at base places = record {
  runs = are_runs_at base 0 places;
  begins =
      Begins-less base (base + 0) (pieces_at base (runs_from 0 places)) (omega arith)
      (begins_at base 0 places);
  ends =
      Ends-more (base + 0 + length places) (base + length places)
      (pieces_at base (runs_from 0 places)) (omega arith)
      (ends_at base 0 places);
}

segment_are :
    (plan : Plan) (object : ObjectModule) (segment : Segment)
    → segment_pieces plan object segment
    ≡ pieces_at (base_of plan segment) (runs_from 0 (placed_bytes plan object segment))
unfolding runs_of fixes_in
segment_are plan object segment =
    segment_pieces_are (gain_at plan) (λ target. None) (base_of plan segment) (places_of object segment)

segment_lies :
    (plan : Plan) (object : ObjectModule) (segment : Segment)
    → Lie (base_of plan segment) (length (places_of object segment)) (segment_pieces plan object segment)
segment_lies plan object segment =
    let P : List Piece → Type 0 =
    λ pieces. Lie (base_of plan segment) (length (places_of object segment)) pieces in
    let Q : ℕ → Type 0 = λ size.
    Lie (base_of plan segment) size
    (pieces_at (base_of plan segment) (runs_from 0 (placed_bytes plan object segment))) in
    subst P (sym (segment_are plan object segment))
    (subst Q (length_moved (gain_at plan) (λ target. None) None (places_of object segment))
    (lie_at (base_of plan segment) (placed_bytes plan object segment)))

segment_byte :
    (plan : Plan) (object : ObjectModule) (segment : Segment) (address : ℕ)
    → byte_in (segment_pieces plan object segment) address
    ≡ at_address (base_of plan segment) (placed_bytes plan object segment) address
segment_byte plan object segment address =
    let same : base_of plan segment + 0 ≡ base_of plan segment = omega arith in
    ap (λ pieces. byte_in pieces address) (segment_are plan object segment)
    ∙ bytes_are (base_of plan segment) 0 (placed_bytes plan object segment) address
    ∙ ap (λ start. at_address start (placed_bytes plan object segment) address) same

-- two segments that have no address in common, the one that begins first before the other
two_lie :
    (a m b n : ℕ) (first second : List Piece) → Lie a m first → Lie b n second → a ≤ b
    → min (a + m) (b + n) ≤ max a b → a + m ≤ 65536 → b + n ≤ 65536
    → (are_runs (in_turn first second) ≡ true) × Ends 65536 (in_turn first second)
two_lie a m b n first second f s order apart h k =
    go second s (runs_with_pieces 0 [] first refl tt f.runs (Begins-less 0 a first (omega arith) f.begins))
    (ends_with_pieces 0 (a + m) [] first tt (omega arith) f.runs
    (Begins-less 0 a first (omega arith) f.begins) f.ends)
  where
    go : (later : List Piece) → Lie b n later → are_runs (with_pieces [] first) ≡ true
        → Ends (a + m) (with_pieces [] first)
        → (are_runs (in_turn first later) ≡ true) × Ends 65536 (in_turn first later)
    go [] l runs ends = (runs, Ends-more (a + m) 65536 (with_pieces [] first) h ends)
    go (piece ∷ others) l runs ends =
        let p = runs_parts piece others l.runs in
        let some : 0 < length piece.bytes = has_more piece p.0 in
        let low : b ≤ piece.start = l.begins in
        let high : piece_end piece ≤ b + n = l.ends.0 in
        let before : a + m ≤ b = omega arith in (
          runs_with_pieces (a + m) (with_pieces [] first) (piece ∷ others) runs ends l.runs (omega arith),
          ends_with_pieces (a + m) 65536 (with_pieces [] first) (piece ∷ others) ends h l.runs (omega arith)
              (Ends-more (b + n) 65536 (piece ∷ others) k l.ends),
        )

none_past : (n : ℕ) (pieces : List Piece) (address : ℕ) → Ends n pieces → n ≤ address
    → byte_in pieces address ≡ None
none_past n [] address ends h = refl
none_past n (piece ∷ others) address ends h =
    let k : piece_end piece ≤ n = ends.0 in
    one_more piece others address
    ∙ ap (λ x. option_or x (byte_in others address)) (no_byte_above piece address (omega arith))
    ∙ none_past n others address ends.1 h

pub none_before :
    (n : ℕ) (pieces : List Piece) (address : ℕ) → are_runs pieces ≡ true → Begins n pieces → address < n
    → byte_in pieces address ≡ None
none_before n [] address runs begins h = refl
none_before n (piece ∷ others) address runs begins h =
    let p = runs_parts piece others runs in
    let k : n ≤ piece.start = begins in
    one_more piece others address
    ∙ ap (λ x. option_or x (byte_in others address)) (no_byte_below piece address (omega arith))
    ∙ none_before n others address p.2 (Begins-less n (piece_end piece + 1) others (omega arith) p.1) h

left_none : (x y : Option ℕ) → x ≡ None → option_or y x ≡ option_or x y
left_none x None h = ap (option_or None) h ∙ sym (ap (λ v. option_or v None) h)
left_none x (Some value) h = sym (ap (λ v. option_or v (Some value)) h)

right_none : (x y : Option ℕ) → y ≡ None → option_or y x ≡ option_or x y
right_none x y h = sym (left_none y x h)

-- the bytes of both, in either order
either_order :
    (a m b n : ℕ) (first second : List Piece) (address : ℕ) → Lie a m first → Lie b n second → b ≤ a
    → min (a + m) (b + n) ≤ max a b
    → option_or (byte_in second address) (byte_in first address)
    ≡ option_or (byte_in first address) (byte_in second address)
either_order a m b n first second address f s order apart =
    elim (cases_lt address a) [
      | inl under ↦
          left_none (byte_in first address) (byte_in second address)
          (none_before a first address f.runs f.begins under)
      | inr over ↦
          elim (cases_lt address (b + n)) [
            | inl within ↦
                left_none (byte_in first address) (byte_in second address)
                (none_past (a + m) first address f.ends (omega arith))
            | inr past ↦
                right_none (byte_in first address) (byte_in second address)
                (none_past (b + n) second address s.ends past)
          ]
    ]

in_turn_is :
    (first second : List Piece) (address : ℕ)
    → byte_in (in_turn first second) address ≡ option_or (byte_in first address) (byte_in second address)
in_turn_is first second address =
    with_pieces_is (with_pieces [] first) second address
    ∙ ap (λ x. option_or x (byte_in second address)) (with_pieces_is [] first address)

-- what the pieces of an image keep to
pub record IsImage (plan : Plan) (object : ObjectModule) (pieces : List Piece) : Type 0 where
  pub longest : AreLongestRuns pieces (image_at plan object)
  pub ends : Ends 65536 pieces

image_unfolds :
    (plan : Plan) (object : ObjectModule) (address : ℕ)
    → option_or (at_address plan.code_base (placed_bytes plan object Code) address)
    (at_address plan.data_base (placed_bytes plan object Data) address)
    ≡ image_at plan object address
unfolding image_at
image_unfolds plan object address = refl

pub image_is :
    (plan : Plan) (object : ObjectModule) → placement_refusal plan object ≡ None
    → IsImage plan object (image_pieces plan object)
image_is plan object h = go (nat_le plan.code_base plan.data_base) refl
  where
    bytes :
        (address : ℕ)
        → option_or (byte_in (segment_pieces plan object Code) address)
        (byte_in (segment_pieces plan object Data) address)
        ≡ image_at plan object address
    bytes address =
        ap (λ x. option_or x (byte_in (segment_pieces plan object Data) address))
        (segment_byte plan object Code address)
        ∙ ap (option_or (at_address plan.code_base (placed_bytes plan object Code) address))
        (segment_byte plan object Data address)
        ∙ image_unfolds plan object address

    go : (b : Bool) → nat_le plan.code_base plan.data_base ≡ b
        → IsImage plan object
        (cond b (in_turn (segment_pieces plan object Code) (segment_pieces plan object Data))
        (in_turn (segment_pieces plan object Data) (segment_pieces plan object Code)))
    go true e =
        let is = allowed plan object h in
        let order : plan.code_base ≤ plan.data_base = leb-true plan.code_base plan.data_base e in
        let t = two_lie plan.code_base (length (places_of object Code)) plan.data_base
        (length (places_of object Data))
        (segment_pieces plan object Code) (segment_pieces plan object Data) (segment_lies plan object Code)
        (segment_lies plan object Data) order is.apart is.code is.data_places in
        record {
          longest = record {
            runs = t.0;
            bytes = λ address.
                in_turn_is (segment_pieces plan object Code) (segment_pieces plan object Data) address
                ∙ bytes address;
          };
          ends = t.1;
        }
    go false e =
        let is = allowed plan object h in
        let order : plan.data_base < plan.code_base = leb-false plan.code_base plan.data_base e in
        let t = two_lie plan.data_base (length (places_of object Data)) plan.code_base
        (length (places_of object Code))
        (segment_pieces plan object Data) (segment_pieces plan object Code) (segment_lies plan object Data)
        (segment_lies plan object Code) (omega arith) (omega (arith, is.apart)) is.data_places is.code in
        record {
          longest = record {
            runs = t.0;
            bytes = λ address.
                in_turn_is (segment_pieces plan object Data) (segment_pieces plan object Code) address
                ∙ either_order plan.code_base (length (places_of object Code)) plan.data_base
                (length (places_of object Data)) (segment_pieces plan object Code)
                (segment_pieces plan object Data) address
                (segment_lies plan object Code) (segment_lies plan object Data) (omega arith) is.apart
                ∙ bytes address;
          };
          ends = t.1;
        }

-- the runs of bytes are those of the places' values
before_bytes :
    (n : ℕ) (here : SetByte) (runs : List (Run SetByte))
    → before_runs n here.value (map bytes_of_run runs) ≡ map bytes_of_run (before_runs n here runs)
before_bytes n here [] = refl
before_bytes n here (next ∷ others) = go (next.offset == n + 1)
  where
    go : (b : Bool)
        → cond b
        (record { offset = n; items = here.value ∷ map value_of next.items } ∷ map bytes_of_run others)
        (record { offset = n; items = here.value ∷ [] } ∷ bytes_of_run next ∷ map bytes_of_run others)
        ≡ map bytes_of_run
        (cond b (record { offset = n; items = here ∷ next.items } ∷ others)
        (record { offset = n; items = here ∷ [] } ∷ next ∷ others))
    go true = refl
    go false = refl

runs_of_values :
    (n : ℕ) (places : List (Option SetByte))
    → runs_from n (map (option_map value_of) places) ≡ map bytes_of_run (runs_from n places)
runs_of_values n [] = refl
runs_of_values n (None ∷ others) = runs_of_values (n + 1) others
runs_of_values n (Some here ∷ others) =
    ap (before_runs n here.value) (runs_of_values (n + 1) others)
    ∙ before_bytes n here (runs_from (n + 1) others)

length_values_of : (places : List (Option SetByte))
    → length (map (option_map value_of) places) ≡ length places
length_values_of [] = refl
length_values_of (here ∷ others) = ap suc (length_values_of others)

lie_in_memory :
    (base size : ℕ) (runs : List (Run ℕ)) → are_runs (pieces_at base runs) ≡ true
    → Ends size (pieces_at base runs)
    → size ≤ 65536 → LieInMemory base runs
lie_in_memory base size [] runs ends h = tt
lie_in_memory base size (run ∷ others) runs ends h =
    let p = runs_parts (piece_at base run) (pieces_at base others) runs in
    let some : 0 < length run.items = has_more (piece_at base run) p.0 in
    let k : base + run.offset + length run.items ≤ size = ends.0 in
    ((omega arith, omega arith), lie_in_memory base size others p.2 ends.1 h)

-- so the runs of a segment have places in memory
pub runs_lie :
    (object : ObjectModule) (segment : Segment) (base : ℕ) → base + length (places_of object segment) ≤ 65536
    → LieInMemory base (runs_of object segment)
unfolding runs_of
runs_lie object segment base h =
    let values : List (Option ℕ) = map (option_map value_of) (places_of object segment) in
    let l = lie_at base values in
    let P : List (Run ℕ) → Type 0 = λ runs. LieInMemory base runs in
    let size = length_values_of (places_of object segment) in
    subst P (runs_of_values 0 (places_of object segment))
    (lie_in_memory base (base + length values) (runs_from 0 values) l.runs l.ends (omega arith))
