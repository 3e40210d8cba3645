-- The placement by a plan, and its refusal, by what is found in turn.
use Rattle.placing.proofs.Prelude.{◌≡◌, ℕ, ◌+◌, ◌<◌, ◌≤◌, Bool, true, false, List, [], ◌∷◌, map, min, Option, None, Some, option_map, if◌then◌else◌, refl, ap, sym, ◌∙◌, arith, ◌||◌, find, sum, sum_by, zip, nat_lt, option_or, dec_le, lt-ltb, ltb-false, sum_by-cons, none-some, Range, Typed, TypedModule, module_view, Layout, Bases, ModulePlacement, Placement, range_of, Plan, SegmentTooLarge, ObjectMisplaced, code_range, data_range, stack_range, bases_from, module_placement_by, placement_by, placing_refusal, segment_too_large, past_memory, overlapping, is_misplaced, placed_objects, first_misplaced, Storage, data_bytes, storage_with, layout_view, CodeModulePlacement, CodePlan, module_placement_view, plan_view, refusal_of, placements_from, code_placements, data_sizes, layout_sizes, range_refusal, name_of_misplaced, both_are_none, misplaced_by_name, or-true}
use Rattle.placing.specs.declared.fault.Fault.{Fault}
use Rattle.placing.specs.declared.ranges.Ranges.{Ranges}

-- the placements of modules whose storage is theirs
based : TypedModule × Bases → ModulePlacement
based placed = module_placement_by placed.1 placed.0 (storage_with placed.0)

from_is :
    (code_base data_base : ℕ) (modules : List TypedModule) (lengths : List ℕ)
    → placements_from (record { code_base = code_base; data_base = data_base }) modules
    (map storage_with modules) lengths
    ≡ map based (zip modules (bases_from code_base data_base modules lengths))
unfolding based
from_is code_base data_base [] lengths = refl
from_is code_base data_base (typed ∷ others) [] = refl
from_is code_base data_base (typed ∷ others) (length ∷ lengths) =
    ap (λ rest. module_placement_by (record { code_base = code_base; data_base = data_base }) typed
    (storage_with typed) ∷ rest)
    (from_is (code_base + length) (data_base + data_bytes typed.objects) others lengths)

sizes_are : (modules : List TypedModule)
    → data_sizes (map storage_with modules)
    ≡ sum_by (λ (typed : TypedModule). data_bytes typed.objects) modules
sizes_are [] = refl
sizes_are (typed ∷ others) =
    sum_by-cons (λ (storage : Storage). storage.data_size) (storage_with typed) (map storage_with others)
    ∙ ap (λ rest. data_bytes typed.objects + rest) (sizes_are others)
    ∙ sym (sum_by-cons (λ (typed : TypedModule). data_bytes typed.objects) typed others)

storages_are : (modules : List Typed)
    → map (λ (typed : Typed). storage_with (module_view typed)) modules
    ≡ map storage_with (map module_view modules)
storages_are [] = refl
storages_are (typed ∷ others) = ap (λ rest. storage_with (module_view typed) ∷ rest) (storages_are others)

small_of : (code variables : Bool) → (if code || variables then Some SegmentTooLarge else None) ≡ None
    → (code ≡ false) × (variables ≡ false)
small_of false false none = (refl, refl)
small_of true variables none = absurd (none-some SegmentTooLarge (sym none))
small_of false true none = absurd (none-some SegmentTooLarge (sym none))

-- lengths that stop at the greatest of 32 bits
module _ (code_base data_base code_len data_len : ℕ) (stack : Range) where
  abbrev capped_code : Range
  capped_code = range_of code_base (min code_len 4294967295)

  abbrev capped_data : Range
  capped_data = range_of data_base (min data_len 4294967295)

  too_large : (code variables : Range) → (nat_lt 65535 code.len || nat_lt 65535 variables.len) ≡ true
      → range_refusal code variables stack ≡ Some SegmentTooLarge
  too_large code variables is =
      ap (λ b. option_or (if b then Some SegmentTooLarge else None)
      (option_or (past_memory code variables stack) (overlapping code variables stack))) is

  large_code : (code variables : Range) → 65535 < code.len
      → range_refusal code variables stack ≡ Some SegmentTooLarge
  large_code code variables large =
      too_large code variables (ap (λ b. b || nat_lt 65535 variables.len) (lt-ltb 65535 code.len large))

  large_data : (code variables : Range) → 65535 < variables.len
      → range_refusal code variables stack ≡ Some SegmentTooLarge
  large_data code variables large =
      too_large code variables
      (ap (λ b. nat_lt 65535 code.len || b) (lt-ltb 65535 variables.len large)
      ∙ or-true (nat_lt 65535 code.len))

  pub capped_refusal : range_refusal capped_code capped_data stack
      ≡ range_refusal (range_of code_base code_len) (range_of data_base data_len) stack
  capped_refusal = elim (dec_le code_len 65535) [
    | no large ↦ large_code capped_code capped_data (omega (arith, large))
        ∙ sym (large_code (range_of code_base code_len) (range_of data_base data_len) (omega (arith, large)))
    | yes small ↦ elim (dec_le data_len 65535) [
      | no large ↦ large_data capped_code capped_data (omega (arith, large))
          ∙ sym (large_data (range_of code_base code_len) (range_of data_base data_len)
          (omega (arith, large)))
      | yes little ↦
          let code_is : min code_len 4294967295 ≡ code_len = omega (arith, small) in
          let data_is : min data_len 4294967295 ≡ data_len = omega (arith, little) in
          (λ i. range_refusal (range_of code_base (code_is i)) (range_of data_base (data_is i)) stack)
    ]
  ]

  -- what is not refused is not capped
  pub uncapped : range_refusal capped_code capped_data stack ≡ None → min code_len 4294967295 ≡ code_len
  uncapped none =
      let small : min code_len 4294967295 ≤ 65535 =
      ltb-false 65535 (min code_len 4294967295)
      (small_of (nat_lt 65535 (min code_len 4294967295)) (nat_lt 65535 (min data_len 4294967295))
      (both_are_none (segment_too_large capped_code capped_data)
      (option_or (past_memory capped_code capped_data stack) (overlapping capped_code capped_data stack))
      none).0).0 in
      omega (arith, small)

-- the refusal, by that of the ranges and by the first misplaced object
or_three : {A : Type 0} (one other third last : Option A)
    → option_or one (option_or other (option_or third last))
    ≡ option_or (option_or one (option_or other third)) last
or_three (Some value) other third last = refl
or_three None (Some value) third last = refl
or_three None None third last = refl

refusal_split :
    (plan : Plan) (modules : List TypedModule) (lengths : List ℕ)
    → placing_refusal plan modules lengths
    ≡ option_or (range_refusal (code_range plan lengths) (data_range plan modules) (stack_range plan))
    (first_misplaced modules (placement_by plan modules lengths))
unfolding placing_refusal
refusal_split plan modules lengths =
    or_three (segment_too_large (code_range plan lengths) (data_range plan modules))
    (past_memory (code_range plan lengths) (data_range plan modules) (stack_range plan))
    (overlapping (code_range plan lengths) (data_range plan modules) (stack_range plan))
    (first_misplaced modules (placement_by plan modules lengths))

misplaced_is :
    (modules : List TypedModule) (placement : Placement)
    → first_misplaced modules placement
    ≡ option_map ObjectMisplaced
    (name_of_misplaced placement.code placement.stack (placed_objects modules placement.modules))
misplaced_is modules placement =
    misplaced_by_name
    (find (is_misplaced placement.code placement.stack) (placed_objects modules placement.modules))

module _ (modules slice : List Typed) (layouts : List Layout) (lengths : List ℕ)
    (plan : CodePlan) (ranges : Ranges)
    (storage : map layout_view layouts ≡ map (λ (typed : Typed). storage_with (module_view typed)) modules)
    (same : slice ≡ modules)
    (code_is : ranges.code ≡ range_of plan.code (min (sum lengths) 4294967295))
    (variables_is : ranges.variables ≡ range_of plan.data_base (min (layout_sizes layouts) 4294967295))
    (stack_is : ranges.stack ≡ stack_range (plan_view plan)) where
  abbrev views : List TypedModule
  views = map module_view modules

  storages : map layout_view layouts ≡ map storage_with views
  storages = storage ∙ storages_are modules

  sizes : layout_sizes layouts ≡ sum_by (λ (typed : TypedModule). data_bytes typed.objects) views
  sizes = ap data_sizes storages ∙ sizes_are views

  ranges_are : range_refusal ranges.code ranges.variables ranges.stack
      ≡ range_refusal (code_range (plan_view plan) lengths) (data_range (plan_view plan) views)
      (stack_range (plan_view plan))
  ranges_are =
      (λ i. range_refusal (code_is i) (variables_is i) (stack_is i))
      ∙ capped_refusal plan.code plan.data_base (sum lengths) (layout_sizes layouts)
      (stack_range (plan_view plan))
      ∙ ap (λ len. range_refusal (code_range (plan_view plan) lengths) (range_of plan.data_base len)
      (stack_range (plan_view plan))) sizes

  refusal_is : placing_refusal (plan_view plan) views lengths
      ≡ option_or (range_refusal ranges.code ranges.variables ranges.stack)
      (first_misplaced views (placement_by (plan_view plan) views lengths))
  refusal_is =
      refusal_split (plan_view plan) views lengths
      ∙ ap (λ refused. option_or refused
      (first_misplaced views (placement_by (plan_view plan) views lengths))) (sym ranges_are)

  -- a fault of the ranges
  pub range_found :
      (found : Option Fault) (fault : Fault)
      → option_map refusal_of found ≡ range_refusal ranges.code ranges.variables ranges.stack
      → found ≡ Some fault
      → placing_refusal (plan_view plan) views lengths ≡ Some (refusal_of fault)
  range_found found fault given some =
      refusal_is
      ∙ ap (λ refused. option_or refused
      (first_misplaced views (placement_by (plan_view plan) views lengths)))
      (sym given ∙ ap (option_map refusal_of) some)

  -- no fault of the ranges
  module _ (found : Option Fault)
      (given : option_map refusal_of found ≡ range_refusal ranges.code ranges.variables ranges.stack)
      (none : found ≡ None) where
    ranges_pass : range_refusal ranges.code ranges.variables ranges.stack ≡ None
    ranges_pass = sym given ∙ ap (option_map refusal_of) none

    code_len_is : min (sum lengths) 4294967295 ≡ sum lengths
    code_len_is =
        uncapped plan.code plan.data_base (sum lengths) (layout_sizes layouts) (stack_range (plan_view plan))
        (sym (λ i. range_refusal (code_is i) (variables_is i) (stack_is i)) ∙ ranges_pass)

    -- the modules lie there
    module _ (placements : List CodeModulePlacement)
        (made_is : map module_placement_view placements
        ≡ code_placements (record { code_base = plan.code; data_base = plan.data_base }) slice
        layouts lengths) where
      abbrev made : List ModulePlacement
      made = map module_placement_view placements

      made_by : made ≡ map based (zip views (bases_from plan.code plan.data_base views lengths))
      made_by =
          made_is
          ∙ (λ i. placements_from (record { code_base = plan.code; data_base = plan.data_base })
          (map module_view (same i)) (storages i) lengths)
          ∙ from_is plan.code plan.data_base views lengths

      pub placed_is : ◌≡◌ {A = Placement}
          (record { modules = made; code = ranges.code; stack = ranges.stack })
          (placement_by (plan_view plan) views lengths)
      unfolding placement_by based
      placed_is =
          (λ i. record { modules = made_by i; code = code_is i; stack = stack_is i })
          ∙ ap (λ len. record { modules = map based (zip views (bases_from plan.code plan.data_base views lengths)); code = range_of plan.code len; stack = stack_range (plan_view plan) }) code_len_is

      pub refused_by :
          (name : Option (List ℕ)) (seen : List CodeModulePlacement)
          → seen ≡ placements
          → name ≡ name_of_misplaced ranges.code ranges.stack
          (placed_objects (map module_view slice) (map module_placement_view seen))
          → placing_refusal (plan_view plan) views lengths ≡ option_map ObjectMisplaced name
      refused_by name seen seen_is is =
          refusal_is
          ∙ ap (λ refused. option_or refused
          (first_misplaced views (placement_by (plan_view plan) views lengths))) ranges_pass
          ∙ sym (ap (first_misplaced views) placed_is)
          ∙ misplaced_is views (record { modules = made; code = ranges.code; stack = ranges.stack })
          ∙ sym (ap (λ these. option_map ObjectMisplaced
          (name_of_misplaced ranges.code ranges.stack (placed_objects (map module_view these) made)))
          same)
          ∙ sym (ap (λ items. option_map ObjectMisplaced
          (name_of_misplaced ranges.code ranges.stack
          (placed_objects (map module_view slice) (map module_placement_view items)))) seen_is)
          ∙ sym (ap (option_map ObjectMisplaced) is)
