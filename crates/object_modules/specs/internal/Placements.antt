-- Worked placements, computed on the definitions.
use Rattle.std.specs.Prelude.{◌≡◌, ℕ, true, List, [], ◌∷◌, ◌++◌, map, replicate, codes, Option, Some, None, refl}
use Rattle.std.specs.List.{range_with_len}
use Rattle.mem80.specs.declared.range.Piece.{Piece}
use Rattle.mem80.specs.Pieces.{byte_in, are_runs}
use Rattle.object_modules.specs.declared.segment.FixKind.TheVariants.{Both}
use Rattle.object_modules.specs.declared.segment.Segment.TheVariants.{Stack}
use Rattle.object_modules.specs.declared.segment.Target.TheVariants.{InSegment}
use Rattle.object_modules.specs.Module.{ObjectModule}
use Rattle.object_modules.specs.Image.{Plan, ExternalLeft, NoStart, PassesMemory, SegmentsMeet, PageBroken, HighByteBroken, image_at, placed, placement_refusal}
use Rattle.object_modules.specs.internal.Links.{with_data}
use Rattle.object_modules.specs.internal.Objects.{set, fixed, code_module, module_a, module_b, module_a_b, module_b_a, module_c_d, module_d_c}

-- code at a base, data at 4000H, and 0400H bytes of stack at F000H
abbrev pub code_at : ℕ → Plan
code_at base =
    record { code_base = base; data_base = 0x4000; stack_base = 0xF000; stack_size = 0x400 }

-- the bytes at `count` addresses from one on
abbrev pub bytes_from : Plan → ObjectModule → (address count : ℕ) → List (Option ℕ)
bytes_from plan object address count = map (image_at plan object) (range_with_len address count)

-- A and B at 0100H, with the addresses before and after
pub a_b_placed :
    bytes_from (code_at 0x100) module_a_b 0xFF 11
    ≡ None ∷ map Some (0xCD ∷ 0x04 ∷ 0x01 ∷ 0x76 ∷ 0x3E ∷ 0x08 ∷ 0xD3 ∷ 0x04 ∷ 0xC9 ∷ []) ++ None ∷ []
unfolding image_at
a_b_placed = refl

pub a_b_start : (placed (code_at 0x100) module_a_b).start ≡ 0x100
a_b_start = refl

pub a_b_symbols :
    (placed (code_at 0x100) module_a_b).symbols ≡ record { name = codes "S"; address = 0x104 } ∷ []
a_b_symbols = refl

pub a_b_refusal : placement_refusal (code_at 0x100) module_a_b ≡ None
unfolding placement_refusal
a_b_refusal = refl

-- the pieces of that image have its bytes there
abbrev pub a_b_pieces : List Piece
a_b_pieces = record {
  start = 0x100;
  bytes = 0xCD ∷ 0x04 ∷ 0x01 ∷ 0x76 ∷ 0x3E ∷ 0x08 ∷ 0xD3 ∷ 0x04 ∷ 0xC9 ∷ [];
} ∷ []

pub a_b_runs : are_runs a_b_pieces ≡ true
a_b_runs = refl

pub a_b_bytes :
    map (byte_in a_b_pieces) (range_with_len 0xFF 11) ≡ bytes_from (code_at 0x100) module_a_b 0xFF 11
unfolding image_at
a_b_bytes = refl

-- C and D at 0100H: S lies at 0200H
pub c_d_placed :
    bytes_from (code_at 0x100) module_c_d 0x100 9
    ≡ map Some (0x3E ∷ 0x00 ∷ 0xD3 ∷ 0x00 ∷ 0x3E ∷ 0x02 ∷ 0xD3 ∷ 0x00 ∷ 0x76 ∷ [])
unfolding image_at
c_d_placed = refl

-- a word fixed to the stack becomes the address just past it
abbrev pub stack_word : ObjectModule
stack_word =
    code_module (codes "M") (set 0x31 ∷ fixed Both (InSegment Stack) 0 ∷ set 0 ∷ []) (Some 0)

pub past_the_stack :
    bytes_from (code_at 0x100) stack_word 0x100 3 ≡ map Some (0x31 ∷ 0x00 ∷ 0xF4 ∷ [])
unfolding image_at
past_the_stack = refl

-- refusals
pub external_left : placement_refusal (code_at 0x100) module_a ≡ Some ExternalLeft
unfolding placement_refusal
external_left = refl

pub no_start : placement_refusal (code_at 0x100) module_b ≡ Some NoStart
unfolding placement_refusal
no_start = refl

pub passes_the_end : placement_refusal (code_at 0xFFF8) module_a_b ≡ Some PassesMemory
unfolding placement_refusal
passes_the_end = refl

pub ends_with_memory : placement_refusal (code_at 0xFFF7) module_a_b ≡ None
unfolding placement_refusal
ends_with_memory = refl

pub meets_the_data :
    placement_refusal (code_at 0x3FF8) (with_data module_a_b (set 1 ∷ [])) ≡ Some SegmentsMeet
unfolding placement_refusal
meets_the_data = refl

-- data without bytes meets nothing
pub meets_nothing : placement_refusal (code_at 0x3FF8) module_a_b ≡ None
unfolding placement_refusal
meets_nothing = refl

pub page_broken : placement_refusal (code_at 0x110) module_c_d ≡ Some PageBroken
unfolding placement_refusal
page_broken = refl

pub high_byte_broken : placement_refusal (code_at 0x110) module_d_c ≡ Some HighByteBroken
unfolding placement_refusal
high_byte_broken = refl

-- B and A in this order at 0100H
pub b_a_placed :
    bytes_from (code_at 0x100) module_b_a 0x100 9
    ≡ map Some (0x3E ∷ 0x08 ∷ 0xD3 ∷ 0x04 ∷ 0xC9 ∷ 0xCD ∷ 0x00 ∷ 0x01 ∷ 0x76 ∷ [])
unfolding image_at
b_a_placed = refl

pub b_a_start : (placed (code_at 0x100) module_b_a).start ≡ 0x105
b_a_start = refl

pub b_a_symbols :
    (placed (code_at 0x100) module_b_a).symbols ≡ record { name = codes "S"; address = 0x100 } ∷ []
b_a_symbols = refl

-- C and D: nothing in the gap before the page, and D at it
pub c_d_gap :
    bytes_from (code_at 0x100) module_c_d 0x109 247 ≡ replicate 247 None
unfolding image_at
c_d_gap = refl

pub c_d_page : bytes_from (code_at 0x100) module_c_d 0x200 1 ≡ Some 0xC9 ∷ []
unfolding image_at
c_d_page = refl

-- a stack that ends with memory: the address just past it is 0
pub past_the_last_address :
    bytes_from
    (record { code_base = 0x100; data_base = 0x4000; stack_base = 0xFC00; stack_size = 0x400 })
    stack_word 0x100 3
    ≡ map Some (0x31 ∷ 0x00 ∷ 0x00 ∷ [])
unfolding image_at
past_the_last_address = refl

-- code and data that touch are one run
abbrev pub touching : ObjectModule
touching = with_data (code_module (codes "M") (set 1 ∷ []) (Some 0)) (set 2 ∷ [])

abbrev pub touching_plan : Plan
touching_plan = record { code_base = 0x100; data_base = 0x101; stack_base = 0xF000; stack_size = 0 }

pub touching_allowed : placement_refusal touching_plan touching ≡ None
unfolding placement_refusal
touching_allowed = refl

pub touching_bytes :
    map (byte_in (record { start = 0x100; bytes = 1 ∷ 2 ∷ [] } ∷ [])) (range_with_len 0xFF 4)
    ≡ bytes_from touching_plan touching 0xFF 4
unfolding image_at
touching_bytes = refl

-- of several refusals the first in their order: P3 before P4, P4 before P2, P2 before P1
pub external_before_start :
    placement_refusal (code_at 0xFFFF) (record module_a { start = None }) ≡ Some ExternalLeft
unfolding placement_refusal
external_before_start = refl

pub start_before_end : placement_refusal (code_at 0xFFFF) module_b ≡ Some NoStart
unfolding placement_refusal
start_before_end = refl

pub end_before_meeting :
    placement_refusal
    (record { code_base = 0xFFFF; data_base = 0x4000; stack_base = 0xFFFF; stack_size = 1 }) module_a_b
    ≡ Some PassesMemory
unfolding placement_refusal
end_before_meeting = refl
