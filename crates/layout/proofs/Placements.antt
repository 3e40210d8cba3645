-- What a plan places follows the storage of each module, at the bases that the plan has for it.
use Rattle.layout.proofs.Prelude.{◌≡◌, ℕ, suc, ◌+◌, ◌≤◌, List, [], ◌∷◌, ◌++◌, length, map, Option, None, Some, Bool, true, false, if◌then◌else◌, sym, subst, refl, ap, ◌∙◌, append-nil, length-append, arith, All, zip, sum, sum_by, ◌||◌, enumerate_from, option_or, ltb-false, none-some, append_assoc, length-map, sum_by-cons, All-nil, All-cons, Range, Home, TypedObject, TypedModule, constant_bytes, Slot, data_bytes, slot_of_list, slot_of_object, storage_with, HasAddresses, Bases, LiesInSlot, address_of_slot, FollowsBases, FollowsStorage, both_are_none}
use Rattle.layout.specs.Placing.{Plan, code_range, data_range, stack_range, PassesMemory, passes_memory, segment_too_large, past_memory, overlapping, first_misplaced, placing_refusal, bases_from, address_by_home, addresses_after, module_placement_by, placement_by}

-- the constant lists
lists_follow :
    (bases : Bases) (slots : List Slot)
    → All (λ (list : Slot × ℕ). list.1 ≡ address_of_slot bases list.0)
    (zip slots (map (address_of_slot bases) slots))
lists_follow bases [] = All-nil (λ (list : Slot × ℕ). list.1 ≡ address_of_slot bases list.0)
lists_follow bases (slot ∷ others) =
    All-cons (λ (list : Slot × ℕ). list.1 ≡ address_of_slot bases list.0) (slot, address_of_slot bases slot)
    (zip others (map (address_of_slot bases) others)) refl (lists_follow bases others)

-- the addresses of objects that are still to come
abbrev pub addresses_of : (bases : Bases) (before : List ℕ) → List (TypedObject × Option Slot) → List ℕ
addresses_of bases before [] = []
addresses_of bases before (object ∷ others) =
    address_by_home bases before object.1 (object.0).home
    ∷ addresses_of bases (before ++ address_by_home bases before object.1 (object.0).home ∷ []) others

pub split_addresses :
    (bases : Bases) (before : List ℕ) (objects : List (TypedObject × Option Slot))
    → addresses_after bases before objects ≡ before ++ addresses_of bases before objects
split_addresses bases before [] = sym (append-nil before)
split_addresses bases before (object ∷ others) =
    split_addresses bases (before ++ address_by_home bases before object.1 (object.0).home ∷ []) others
    ∙ append_assoc before (address_by_home bases before object.1 (object.0).home ∷ [])
    (addresses_of bases (before ++ address_by_home bases before object.1 (object.0).home ∷ []) others)

lies_by_home :
    (bases : Bases) (before : List ℕ) (slot : Option Slot) (home : Home)
    → LiesInSlot bases (address_by_home bases before slot home) slot
lies_by_home bases before None home = tt
lies_by_home bases before (Some slot) home = refl

objects_follow :
    (bases : Bases) (before : List ℕ) (objects : List TypedObject) (slots : List (Option Slot))
    → All (λ (object : Option Slot × ℕ). LiesInSlot bases object.1 object.0)
    (zip slots (addresses_of bases before (zip objects slots)))
objects_follow bases before [] [] = All-nil (λ (object : Option Slot × ℕ). LiesInSlot bases object.1 object.0)
objects_follow bases before [] (slot ∷ slots) =
    All-nil (λ (object : Option Slot × ℕ). LiesInSlot bases object.1 object.0)
objects_follow bases before (object ∷ objects) [] =
    All-nil (λ (object : Option Slot × ℕ). LiesInSlot bases object.1 object.0)
objects_follow bases before (object ∷ objects) (slot ∷ slots) =
    All-cons (λ (object : Option Slot × ℕ). LiesInSlot bases object.1 object.0)
    (slot, address_by_home bases before slot object.home)
    (zip slots (addresses_of bases (before ++ address_by_home bases before slot object.home ∷ [])
    (zip objects slots)))
    (lies_by_home bases before slot object.home)
    (objects_follow bases (before ++ address_by_home bases before slot object.home ∷ []) objects slots)

-- a module whose segments end within memory
pub module_follows :
    (bases : Bases) (typed : TypedModule)
    → bases.code_base + constant_bytes typed ≤ 65536
    → bases.data_base + data_bytes typed.objects ≤ 65536
    → FollowsBases bases (storage_with typed) (module_placement_by bases typed (storage_with typed))
module_follows bases typed constants variables = record {
  objects =
      subst
      (λ addresses.
      All (λ (object : Option Slot × ℕ). LiesInSlot bases object.1 object.0)
      (zip (storage_with typed).objects addresses))
      (sym (split_addresses bases [] (zip typed.objects (storage_with typed).objects)))
      (objects_follow bases [] typed.objects (storage_with typed).objects);
  lists = lists_follow bases (storage_with typed).lists;
  constants_in_memory = constants;
  data_in_memory = variables;
}

-- each code segment has room for the constants that it begins with
abbrev pub HoldConstants : List TypedModule → (code_lengths : List ℕ) → Type 0
HoldConstants (typed ∷ others) (length ∷ lengths) =
    (constant_bytes typed ≤ length) × HoldConstants others lengths
HoldConstants modules lengths = Unit {0}

-- there are as many addresses as objects, and as lists
count_addresses :
    (bases : Bases) (before : List ℕ) (objects : List (TypedObject × Option Slot))
    → length (addresses_after bases before objects) ≡ length before + length objects
count_addresses bases before [] = omega arith
count_addresses bases before (object ∷ others) =
    let rest =
    count_addresses bases (before ++ address_by_home bases before object.1 (object.0).home ∷ []) others in
    let more = length-append before (address_by_home bases before object.1 (object.0).home ∷ []) in
    omega (arith, rest, more)

count_numbered : {A : Type 0} (first : ℕ) (items : List A)
    → length (enumerate_from first items) ≡ length items
count_numbered first [] = refl
count_numbered first (item ∷ items) = ap (λ (n : ℕ). suc n) (count_numbered (first + 1) items)

count_both : {A B : Type 0} (one : List A) (other : List B) → length other ≡ length one
    → length (zip one other) ≡ length one
count_both [] other same = refl
count_both (x ∷ one) [] same = absurd (omega (arith, same))
count_both (x ∷ one) (y ∷ other) same = ap (λ (n : ℕ). suc n) (count_both one other (omega (arith, same)))

has_addresses : (bases : Bases) (typed : TypedModule)
    → HasAddresses (typed, module_placement_by bases typed (storage_with typed))
has_addresses bases typed =
    let slots : length (storage_with typed).objects ≡ length typed.objects =
    length-map (enumerate_from 0 typed.objects)
    (λ (numbered : ℕ × TypedObject). slot_of_object typed numbered.0 numbered.1 (numbered.1).home)
    ∙ count_numbered 0 typed.objects in
    let all = count_addresses bases [] (zip typed.objects (storage_with typed).objects) in
    let both = count_both typed.objects (storage_with typed).objects slots in
    record {
      objects = omega (arith, all, both);
      lists = length-map (storage_with typed).lists (address_of_slot bases)
          ∙ length-map (enumerate_from 0 typed.constants.lists)
          (λ (numbered : ℕ × List ℕ). slot_of_list typed numbered.0 numbered.1)
          ∙ count_numbered 0 typed.constants.lists;
    }

-- the modules from one on
modules_follow :
    (code_base data_base : ℕ) (modules : List TypedModule) (lengths : List ℕ)
    → length lengths ≡ length modules
    → HoldConstants modules lengths
    → code_base + sum lengths ≤ 65536
    → data_base + sum_by (λ (typed : TypedModule). data_bytes typed.objects) modules ≤ 65536
    → FollowsStorage (bases_from code_base data_base modules lengths) modules
    (map (λ (based : TypedModule × Bases). module_placement_by based.1 based.0 (storage_with based.0))
    (zip modules (bases_from code_base data_base modules lengths)))
modules_follow code_base data_base [] [] count hold code variables = tt
modules_follow code_base data_base [] (length ∷ lengths) count hold code variables =
    absurd (omega (arith, count))
modules_follow code_base data_base (typed ∷ modules) [] count hold code variables =
    absurd (omega (arith, count))
modules_follow code_base data_base (typed ∷ modules) (first ∷ lengths) count hold code variables =
    let codes = sum_by-cons (λ (n : ℕ). n) first lengths in
    let data_all = sum_by-cons (λ (typed : TypedModule). data_bytes typed.objects) typed modules in
    let held : constant_bytes typed ≤ first = hold.0 in (
      record {
        addresses = has_addresses (record { code_base = code_base; data_base = data_base }) typed;
        follows = module_follows (record { code_base = code_base; data_base = data_base }) typed
            (omega (arith, codes, code, held)) (omega (arith, data_all, variables));
      },
      modules_follow (code_base + first) (data_base + data_bytes typed.objects) modules lengths
          (omega (arith, count)) hold.1 (omega (arith, codes, code)) (omega (arith, data_all, variables)),
    )

not_past :
    (code variables stack : Bool)
    → (if code || variables || stack then Some PassesMemory else None) ≡ None
    → (code ≡ false) × (variables ≡ false)
not_past false false stack none = (refl, refl)
not_past true variables stack none = absurd (none-some PassesMemory (sym none))
not_past false true stack none = absurd (none-some PassesMemory (sym none))

pub range_in_memory : (range : Range) → passes_memory range ≡ false → range.start + range.len ≤ 65536
range_in_memory range passes = ltb-false 65536 (range.start + range.len) passes

-- a plan that is not refused puts each module at the bases that it has for it
pub placing_follows :
    (plan : Plan) (modules : List TypedModule) (code_lengths : List ℕ)
    → length code_lengths ≡ length modules
    → HoldConstants modules code_lengths
    → placing_refusal plan modules code_lengths ≡ None
    → FollowsStorage (bases_from plan.code_base plan.data_base modules code_lengths) modules
    (placement_by plan modules code_lengths).modules
unfolding placing_refusal placement_by
placing_follows plan modules code_lengths count hold none =
    let code = code_range plan code_lengths in
    let variables = data_range plan modules in
    let stack = stack_range plan in
    let first = both_are_none (segment_too_large code variables)
    (option_or (past_memory code variables stack)
    (option_or (overlapping code variables stack)
    (first_misplaced modules (placement_by plan modules code_lengths)))) none in
    let second = both_are_none (past_memory code variables stack)
    (option_or (overlapping code variables stack)
    (first_misplaced modules (placement_by plan modules code_lengths))) first.1 in
    let within = not_past (passes_memory code) (passes_memory variables) (passes_memory stack) second.0 in
    modules_follow plan.code_base plan.data_base modules code_lengths count hold
    (range_in_memory code within.0) (range_in_memory variables within.1)
