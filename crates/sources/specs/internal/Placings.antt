-- Worked values: placings by plans, and lists without bytes.
use Rattle.std.specs.Prelude.{◌≡◌, ℕ, List, [], ◌∷◌, map, Option, None, Some, option_map, codes, refl}
use Rattle.trees.specs.declared.declaration.ScalarType.TheVariants.{Byte, Address}
use Rattle.trees.specs.Trees.{ListLeaf, DeclareTree, ModuleTree}
use Rattle.names.specs.BuiltIns.{built_in_of}
use Rattle.typing.specs.internal.Typing.{typing_of}
use Rattle.typing.specs.internal.Samples.{number_on, string_on, plain, scalar_item, data_item, alone, assigns, module_of}
use Rattle.typing.specs.internal.Measures.{structures, placed_item}
use Rattle.typed_trees.specs.TypedTrees.{TypedModule}
use Rattle.layout.specs.Storage.{storage_with}
use Rattle.layout.specs.Placement.{Placement, range_of}
use Rattle.layout.specs.Following.{Bases, address_of_slot}
use Rattle.layout.specs.Placing.{Plan, placement_by, PlacingRefusal, SegmentTooLarge, PassesMemory, RangesOverlap, ObjectMisplaced, placing_refusal}
use Rattle.sources.specs.internal.Examples.{typed, filled_module, filled_placement}

abbrev pub plan_of : (code_base data_base stack_base stack_size : ℕ) → Plan
plan_of code_base data_base stack_base stack_size = record {
  code_base = code_base;
  data_base = data_base;
  stack_base = stack_base;
  stack_size = stack_size;
}

abbrev pub filled_bases : Bases
filled_bases = record { code_base = 6; data_base = 2 }

-- three bytes in the data segment and two of constants, without code
pub filled_by_plan :
    placement_by (plan_of 6 2 8 2) (typed (filled_module ∷ [])) (2 ∷ []) ≡ filled_placement
unfolding typing_of built_in_of placement_by
filled_by_plan = refl

pub filled_slots :
    map
    (λ (typed : TypedModule). map (option_map (address_of_slot filled_bases)) (storage_with typed).objects)
    (typed (filled_module ∷ []))
    ≡ (Some 2 ∷ Some 3 ∷ Some 6 ∷ []) ∷ []
unfolding typing_of built_in_of
filled_slots = refl

-- the same module twice, with seven bytes in each code segment
pub two_modules :
    placement_by (plan_of 256 16384 61440 1024) (typed (filled_module ∷ filled_module ∷ [])) (7 ∷ 7 ∷ [])
    ≡ record {
      modules =
          record { objects = 16384 ∷ 16385 ∷ 256 ∷ []; lists = 257 ∷ [] }
          ∷ record { objects = 16387 ∷ 16388 ∷ 263 ∷ []; lists = 264 ∷ [] }
          ∷ [];
      code = range_of 256 14;
      stack = range_of 61440 1024;
    }
unfolding typing_of built_in_of placement_by
two_modules = refl

-- DECLARE S(2) STRUCTURE (A BYTE, B(2) ADDRESS), X BYTE AT (.S + 8);: with S at 20, X lies at 28
abbrev pub structures_module : List ModuleTree
structures_module = module_of (structures ∷ []) [] ∷ []

pub structures_by_plan :
    placement_by (plan_of 0 20 40 2) (typed structures_module) (0 ∷ [])
    ≡ record {
      modules = record { objects = 20 ∷ 28 ∷ []; lists = [] } ∷ [];
      code = range_of 0 0;
      stack = range_of 40 2;
    }
unfolding typing_of built_in_of placement_by
structures_by_plan = refl

-- DECLARE K BYTE DATA (1), W ADDRESS; W = .('');: with K at 65535 the list, which has no byte, has the
-- address 0
abbrev pub empty_list_module : ModuleTree
empty_list_module = module_of
    (DeclareTree (
    data_item 2 (codes "K") Byte (alone (number_on 2 1) ∷ [])
    ∷ scalar_item 2 (codes "W") Address
    ∷ []) ∷ [])
    (assigns (plain 3 (codes "W") ∷ []) (ListLeaf (string_on 3 [] ∷ [])) ∷ [])

abbrev pub empty_list_placement : Placement
empty_list_placement = record {
  modules = record { objects = 65535 ∷ 16384 ∷ []; lists = 0 ∷ [] } ∷ [];
  code = range_of 65535 1;
  stack = range_of 61440 1024;
}

pub empty_list_by_plan :
    placement_by (plan_of 65535 16384 61440 1024) (typed (empty_list_module ∷ [])) (1 ∷ [])
    ≡ empty_list_placement
unfolding typing_of built_in_of placement_by
empty_list_by_plan = refl

pub empty_list_placed :
    placing_refusal (plan_of 65535 16384 61440 1024) (typed (empty_list_module ∷ [])) (1 ∷ []) ≡ None
unfolding typing_of built_in_of placement_by placing_refusal
empty_list_placed = refl

-- code segments of 65535 bytes and of one more, and a data segment at the same place as the code
abbrev pub refused : Plan → (code_length : ℕ) → Option PlacingRefusal
unfolding placement_by placing_refusal
refused plan code_length = placing_refusal plan (typed (filled_module ∷ [])) (code_length ∷ [])

pub too_large : refused (plan_of 256 16384 61440 1024) 65536 ≡ Some SegmentTooLarge
unfolding typing_of built_in_of placement_by placing_refusal
too_large = refl

pub past_the_end : refused (plan_of 256 16384 61440 1024) 65535 ≡ Some PassesMemory
unfolding typing_of built_in_of placement_by placing_refusal
past_the_end = refl

pub at_one_place : refused (plan_of 12288 12288 61440 1024) 20 ≡ Some RangesOverlap
unfolding typing_of built_in_of placement_by placing_refusal
at_one_place = refl

-- without code, and without a stack
pub empty_ranges : refused (plan_of 12288 12288 12288 0) 0 ≡ None
unfolding typing_of built_in_of placement_by placing_refusal
empty_ranges = refl

-- DECLARE X BYTE AT (100H);: in the code, and at its end
abbrev pub at_module : List ModuleTree
at_module = module_of
    (DeclareTree (placed_item 2 (codes "X") (alone (number_on 2 256)) ∷ []) ∷ []) [] ∷ []

pub in_code :
    placing_refusal (plan_of 250 16384 61440 1024) (typed at_module) (7 ∷ [])
    ≡ Some (ObjectMisplaced (codes "X"))
unfolding typing_of built_in_of placement_by placing_refusal
in_code = refl

pub after_code : placing_refusal (plan_of 250 16384 61440 1024) (typed at_module) (6 ∷ []) ≡ None
unfolding typing_of built_in_of placement_by placing_refusal
after_code = refl
