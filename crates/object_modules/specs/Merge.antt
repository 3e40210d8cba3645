-- The merge of modules, or the reason for which they can't be merged.
use Rattle.std.specs.Prelude.{ℕ, ◌+◌, ◌-◌, ◌%◌, ◌==◌, Bool, not, ◌||◌, nat_lt, if◌then◌else◌, List, [], ◌∷◌, ◌++◌, codes, length, map, flat_map, filter_map, find, sum_by, replicate, slice_get, Option, Some, None, option_map, Result, Ok, Err}
use Rattle.std.specs.List.{list_any}
use Rattle.std.specs.Option.{option_or, option_map_or}
use Rattle.mem80.specs.declared.memory.TheConstants.{MEMORY_SIZE}
use Rattle.omf80.specs.Records.{first_that_holds}
use Rattle.object_modules.specs.declared.segment.Alignment.{Alignment}
use Rattle.object_modules.specs.declared.segment.Alignment.TheVariants.{Byte, Page}
use Rattle.object_modules.specs.declared.segment.TheConstants.{SEGMENT_LIMIT}
use Rattle.object_modules.specs.Module.{SetByte, Places, Public, ObjectModule, is_page, is_among}
use Rattle.object_modules.specs.Moving.{moved, high_targets}
use Rattle.object_modules.specs.Displacements.{Linked, code_end, data_end, linked_modules, all_publics, gain_in, target_kept}

-- why modules can't be merged
pub data LinkRefusal : Type 0 where
  -- a public name occurs again: the first such name in the order of the modules
  DuplicatePublic : (name : List ℕ) → LinkRefusal
  -- an external name that no module has as a public: the first one
  UnresolvedExternal : (name : List ℕ) → LinkRefusal
  -- a merged segment has more bytes than a segment may have
  SegmentTooLong : LinkRefusal
  -- no module is a main module, or several are
  NotOneMain : LinkRefusal
  -- a high byte is fixed to a target that moves by a number that is not a multiple of 256
  HighByteMoves : LinkRefusal

-- the number of a refusal
abbrev pub link_number : LinkRefusal → List ℕ
link_number (DuplicatePublic name) = codes "L1"
link_number (UnresolvedExternal name) = codes "L2"
link_number SegmentTooLong = codes "L3"
link_number NotOneMain = codes "L4"
link_number HighByteMoves = codes "L5"

-- the pieces of a merged segment one after another; nothing is set between them
abbrev pub joined_after : (end : ℕ) → List (ℕ × List (Option SetByte)) → List (Option SetByte)
joined_after end [] = []
joined_after end (piece ∷ others) =
    replicate (piece.0 - end) None ++ piece.1 ++ joined_after (piece.0 + length piece.1) others

-- the places of a module in the merge
abbrev pub places_moved : List Public → Linked → List (Option SetByte) → List (Option SetByte)
places_moved publics linked places = moved (gain_in publics linked) (target_kept publics linked) places

-- where a segment of a module begins in the merge, and its places there
abbrev pub code_piece : List Public → Linked → ℕ × List (Option SetByte)
code_piece publics linked =
    ((linked.start).code, places_moved publics linked (linked.object).code.places)

abbrev pub data_piece : List Public → Linked → ℕ × List (Option SetByte)
data_piece publics linked =
    ((linked.start).data_start, places_moved publics linked (linked.object).data_places.places)

-- a segment is page-aligned if one of its pieces is
abbrev pub joined_alignment : List Places → Alignment
joined_alignment segments =
    if list_any (λ (segment : Places). is_page segment.alignment) segments then Page else Byte

-- the modules with a start
abbrev pub main_modules : List Linked → List (List ℕ × ℕ)
main_modules linked = filter_map named_start linked
  where
    named_start : Linked → Option (List ℕ × ℕ)
    named_start one =
        option_map (λ offset. ((one.object).name, (offset + (one.start).code) % MEMORY_SIZE)) (one.object).start

-- the merge has the name and the start of the main module, and no external names
abbrev pub joined : List ObjectModule → List Linked → ObjectModule
joined objects linked = record {
  name = option_map_or (λ (main : List ℕ × ℕ). main.0) (slice_get (main_modules linked) 0) [];
  code = record {
    alignment = joined_alignment (map (λ (object : ObjectModule). object.code) objects);
    places = joined_after 0 (map (code_piece (all_publics linked)) linked);
  };
  data_places = record {
    alignment = joined_alignment (map (λ (object : ObjectModule). object.data_places) objects);
    places = joined_after 0 (map (data_piece (all_publics linked)) linked);
  };
  stack_length = sum_by (λ (object : ObjectModule). object.stack_length) objects;
  publics = all_publics linked;
  externals = [];
  start = option_map (λ (main : List ℕ × ℕ). main.1) (slice_get (main_modules linked) 0);
}

-- the first name that occurs again
abbrev pub repeated_after : (known names : List (List ℕ)) → Option (List ℕ)
repeated_after known [] = None
repeated_after known (name ∷ others) =
    if is_among name known then Some name else repeated_after (name ∷ known) others

abbrev pub public_names : List ObjectModule → List (List ℕ)
public_names objects =
    flat_map (λ (object : ObjectModule). map (λ (public : Public). public.name) object.publics) objects

-- the first external name that is not a public
abbrev pub unresolved : List ObjectModule → Option (List ℕ)
unresolved objects =
    find (λ name. not (is_among name (public_names objects)))
    (flat_map (λ (object : ObjectModule). object.externals) objects)

-- where the last of the pieces ends
abbrev pub last_end : (end_of : Linked → ℕ) → List Linked → ℕ
last_end end_of [] = 0
last_end end_of (one ∷ []) = end_of one
last_end end_of (one ∷ next ∷ others) = last_end end_of (next ∷ others)

abbrev pub is_too_long : (bytes : ℕ) → Bool
is_too_long bytes = nat_lt SEGMENT_LIMIT bytes

abbrev pub some_segment_is_too_long : List ObjectModule → List Linked → Bool
some_segment_is_too_long objects linked =
    is_too_long (last_end code_end linked) || is_too_long (last_end data_end linked)
    || is_too_long (sum_by (λ (object : ObjectModule). object.stack_length) objects)

-- a high byte of the module is fixed to a target that gains a number that is not a multiple of 256
abbrev pub some_high_byte_moves : List Public → Linked → Bool
some_high_byte_moves publics one =
    list_any (λ target. not (gain_in publics one target % 256 == 0)) (high_targets one.object)

-- the first refusal that holds: names, then lengths, main modules and high bytes
abbrev pub refusal_of : List ObjectModule → List Linked → Option LinkRefusal
refusal_of objects linked =
    option_or (option_map DuplicatePublic (repeated_after [] (public_names objects)))
    (option_or (option_map UnresolvedExternal (unresolved objects))
    (first_that_holds
    ((some_segment_is_too_long objects linked, SegmentTooLong)
    ∷ (not (length (main_modules linked) == 1), NotOneMain)
    ∷ (list_any (some_high_byte_moves (all_publics linked)) linked, HighByteMoves)
    ∷ [])))

abbrev pub unless_refused : {A R : Type 0} → A → Option R → Result A R
unless_refused value None = Ok value
unless_refused value (Some refusal) = Err refusal

unfoldable pub link_refusal : List ObjectModule → Option LinkRefusal
link_refusal objects = refusal_of objects (linked_modules objects)

-- the merge of modules in this order
unfoldable pub merge_of : List ObjectModule → Result ObjectModule LinkRefusal
merge_of objects = unless_refused (joined objects (linked_modules objects)) (link_refusal objects)
