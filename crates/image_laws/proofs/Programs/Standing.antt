-- The modules of a program stand in memory where its placement has them.
use Rattle.image_laws.proofs.Prelude.{◌≡◌, ℕ, ◌+◌, ◌%◌, List, [], ◌∷◌, get_or, All, map, zip, refl, ap, subst, ◌∙◌, arith, AllByRecursion, All-from_recursion, recursion_from_All, SlotSegment, Slot, Bases, address_of_slot, PlacingPlan, stack_range, address_past, Segment, Linked, linked_modules, Public, ObjectModule, ModuleStands, piece_base, segment_of, IsAtSlot, ProgramStands, SlotsLie, StandsAt, bases_of, plan_of}
use Rattle.layout.specs.declared.slot.Segment.TheVariants as slots
use Rattle.layout.specs.Following.{base_of}
use Rattle.image_laws.proofs.Images.Objects.{objects_stand}
use Rattle.image_laws.proofs.Images.Publics.{publics_lie}
use Rattle.image_laws.proofs.Programs.Bases.{bases_agree}

module _ (plan : PlacingPlan) (merged : ObjectModule) (before after : List ℕ) where
  stands_at :
      (linked : Linked) → ModuleStands (plan_of plan) merged before after linked
      → StandsAt plan merged before after (linked, bases_of plan linked)
  stands_at linked stands =
      let same : address_past (stack_range plan) + 0 ≡ address_past (stack_range plan) = omega arith in
      record { code = refl; data_base = refl; stack = same; segments = stands }

  all_stand_at :
      (linked : List Linked) → AllByRecursion (ModuleStands (plan_of plan) merged before after) linked
      → AllByRecursion (StandsAt plan merged before after) (zip linked (map (bases_of plan) linked))
  all_stand_at [] all = tt
  all_stand_at (one ∷ others) all = (stands_at one all.0, all_stand_at others all.1)

pub program_stands : ProgramStands
program_stands plan modules objects merged image before after are is =
    let linked : List Linked = linked_modules objects in
    let stand = recursion_from_All (ModuleStands (plan_of plan) merged before after) linked
    (objects_stand objects merged (plan_of plan) image before after is) in
    subst (λ (bases : List Bases). All (StandsAt plan merged before after) (zip linked bases))
    (bases_agree plan modules objects are)
    (All-from_recursion (StandsAt plan merged before after) (zip linked (map (bases_of plan) linked))
    (all_stand_at plan merged before after linked stand))

-- the base of a segment is that of the segment of the storage
same_base :
    (plan : PlacingPlan) (linked : Linked) (segment : SlotSegment)
    → piece_base (plan_of plan) linked.start (segment_of segment) ≡ base_of (bases_of plan linked) segment
same_base plan linked slots.Code = refl
same_base plan linked slots.Data = refl

slot_lies :
    (plan : PlacingPlan) (linked : Linked) (public : Public) (slot : Slot) → IsAtSlot public slot
    → (piece_base (plan_of plan) linked.start public.segment + public.offset) % 65536
    ≡ address_of_slot (bases_of plan linked) slot
slot_lies plan linked public slot is =
    ap (λ (segment : Segment). (piece_base (plan_of plan) linked.start segment + public.offset) % 65536)
    is.segment
    ∙ ap (λ n. (n + public.offset) % 65536) (same_base plan linked slot.segment)
    ∙ ap (λ n. (base_of (bases_of plan linked) slot.segment + n) % 65536) is.offset

pub slots_lie : SlotsLie
slots_lie plan objects merged made k d h j public i slot is =
    let linked : Linked = get_or (linked_modules objects) k d in
    let lies = publics_lie objects merged (plan_of plan) made k d h j public i in
    lies.address ∙ slot_lies plan linked (get_or (linked.object).publics j public) slot is
