-- What a memory has after the image of a valid module was put into it: the image, and bytes.
use Rattle.locate.proofs.Prelude.{◌≡◌, ℕ, zero, suc, ◌+◌, ◌-◌, ◌<◌, Bool, true, false, nat_lt, List, [], ◌∷◌, length, map, slice_get, slice_index, Option, Some, None, option_map, unwrap_or, Result, Ok, Err, All, refl, sym, ap, subst, ◌∙◌, arith, if◌then◌else◌, list_all, option_flatten, option_map_or, option_or, and_parts, ltb-true, get_or_default, none-some, same_Some, Piece, IsMemory, AreLongestRuns, EndsInMemory, IsLoaded, byte_in, Code, Data, Target, Image, Plan, PlacementRefusal, at_address, gain_at, image_at, image_of, placed, placed_bytes, placement_refusal, unless_refused, IsObjectModule, ObjectModule, Places, SetByte, is_valid_byte, is_valid_segment, bytes_resolved, moved_after, value_moved, Absolute, loaded, image_pieces, moved_is_byte}
use Rattle.locate.specs.Loading.{GivesImage, GivesItsImage}
use Rattle.locate.proofs.Images.{image_is}
use Rattle.locate.proofs.Loads.{is_loaded}
use Rattle.locate.proofs.Placing.{image_in_memory}

-- a byte, if there is one
abbrev IsByte : Option ℕ → Type 0
IsByte found = (byte : ℕ) → found ≡ Some byte → byte < 256

no_byte : IsByte None
no_byte byte found = absurd (none-some byte found)

a_byte : (value : ℕ) → value < 256 → IsByte (Some value)
a_byte value low byte found = subst (λ (n : ℕ). n < 256) (same_Some value byte found) low

either : (first second : Option ℕ) → IsByte first → IsByte second → IsByte (option_or first second)
either None second is other = other
either (Some value) second is other = is

-- each place has a valid byte, or none
abbrev are_valid : (count : ℕ) → List (Option SetByte) → Bool
are_valid count places = list_all (λ place. option_map_or (is_valid_byte count) place true) places

valid_byte : (count : ℕ) (here : SetByte) → is_valid_byte count here ≡ true → here.value < 256
valid_byte count here valid = ltb-true here.value 256 (and_parts (nat_lt here.value 256) _ valid).0

-- so each has a byte or none with all fixes done
each_place :
    (count : ℕ) (gain_of : Target → ℕ) (before : Option SetByte) (places : List (Option SetByte)) (index : ℕ)
    → are_valid count places ≡ true
    → IsByte (option_flatten (slice_get
    (map (option_map (λ (here : SetByte). here.value)) (moved_after gain_of (λ target. None) before places))
    index))
each_place count gain_of before [] index valid = no_byte
each_place count gain_of before (None ∷ others) zero valid = no_byte
each_place count gain_of before (Some here ∷ others) zero valid =
    a_byte (value_moved gain_of before here)
    (moved_is_byte gain_of before here.value here.fixup
    (valid_byte count here (and_parts (is_valid_byte count here) (are_valid count others) valid).0))
each_place count gain_of before (here ∷ others) (suc index) valid =
    each_place count gain_of here others index
    (and_parts (option_map_or (is_valid_byte count) here true) (are_valid count others) valid).1

at_place : (below : Bool) (found : Option ℕ) → IsByte found → IsByte (if below then None else found)
at_place true found is = no_byte
at_place false found is = is

valid_places : (count : ℕ) (segment : Places) → is_valid_segment count segment ≡ true
    → are_valid count segment.places ≡ true
valid_places count segment valid =
    (and_parts _ _ (and_parts _ _ (and_parts _ _ valid).0).0).1

-- an image has bytes
module _ (plan : Plan) (object : ObjectModule) (is : IsObjectModule object) where
  in_segment : (base address : ℕ) (segment : Places)
      → is_valid_segment (length object.externals) segment ≡ true
      → IsByte (at_address base (bytes_resolved (gain_at plan) segment.places) address)
  in_segment base address segment valid =
      at_place (nat_lt address base) _
      (each_place (length object.externals) (gain_at plan) None segment.places (address - base)
      (valid_places (length object.externals) segment valid))

  image_bytes : (address : ℕ) → IsByte (image_at plan object address)
  unfolding image_at
  image_bytes address =
      either (at_address plan.code_base (placed_bytes plan object Code) address) _
      (in_segment plan.code_base address object.code is.code)
      (in_segment plan.data_base address object.data_places is.data_places)

loaded_byte : (found : Option ℕ) (before : ℕ) → IsByte found → before < 256 → unwrap_or found before < 256
loaded_byte None before is low = low
loaded_byte (Some byte) before is low = is byte refl

-- so a memory into which it is put has it, and bytes
module _
    (image : Image) (pieces : List Piece) (memory : List ℕ)
    (each : (address : ℕ) → IsByte (image.byte_at address))
    (runs : AreLongestRuns pieces image.byte_at)
    (ends : All EndsInMemory pieces)
    (is : IsMemory memory) where
  whole : IsLoaded (byte_in pieces) memory (loaded pieces memory)
  whole = is_loaded pieces memory (loaded pieces memory) runs.runs ends refl is.size

  with_image : (address : ℕ) → address < 65536
      → slice_index (loaded pieces memory) address
      ≡ unwrap_or (image.byte_at address) (slice_index memory address)
  with_image address low =
      whole.bytes address low ∙ ap (λ found. unwrap_or found (slice_index memory address))
      (runs.bytes address)

  byte_below : (index other : ℕ) → index < length (loaded pieces memory)
      → slice_index (loaded pieces memory) index < 256
  byte_below index other below =
      let low : index < 65536 = omega (arith, below, whole.size, is.size) in
      let before : slice_index memory index < 256 = is.bytes index 0 (omega (arith, low, is.size)) in
      subst (λ (n : ℕ). n < 256) (sym (with_image index low))
      (loaded_byte (image.byte_at index) (slice_index memory index) (each index) before)

  gives_image : GivesImage image pieces memory
  gives_image = record {
    has_image = record { size = whole.size; bytes = with_image };
    is_memory = record {
      size = whole.size ∙ is.size;
      bytes = λ index other below.
          subst (λ (n : ℕ). n < 256) (get_or_default (loaded pieces memory) index 0 other below)
          (byte_below index other below);
    };
  }

same_image : (value other : Image) → ◌≡◌ {A = Result Image PlacementRefusal} (Ok value) (Ok other)
    → value ≡ other
same_image value other same = ap given same
  where
    given : Result Image PlacementRefusal → Image
    given (Ok found) = found
    given (Err refusal) = value

-- what has the pieces of the image of a valid module gives its image to each memory
pub gives_its_image :
    (plan : Plan) (object : ObjectModule) (absolute : Absolute)
    → placement_refusal plan object ≡ None
    → IsObjectModule object
    → absolute.pieces ≡ image_pieces plan object
    → GivesItsImage plan object absolute
gives_its_image plan object absolute allowed is same image found memory is_memory =
    let there : image_of plan object ≡ Ok (placed plan object) =
    ap (unless_refused (placed plan object)) allowed in
    subst (λ (image : Image). GivesImage image absolute.pieces memory)
    (same_image (placed plan object) image (sym there ∙ found))
    (gives_image (placed plan object) absolute.pieces memory (image_bytes plan object is)
    (subst (λ (pieces : List Piece). AreLongestRuns pieces (image_at plan object)) (sym same)
    (image_is plan object allowed).longest)
    (image_in_memory plan object absolute.pieces allowed same) is_memory)
