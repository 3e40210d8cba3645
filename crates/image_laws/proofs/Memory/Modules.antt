-- Each module of a program in memory: its object module, where that is linked, and where its segments begin.
use Rattle.image_laws.proofs.Prelude.{◌≡◌, ℕ, zero, suc, ◌+◌, ◌%◌, ◌<◌, ◌≤◌, List, [], ◌∷◌, length, Option, Some, None, option_map, unwrap_or, refl, ap, sym, subst, ◌∙◌, arith, slice_get, slice_index, zip, option_and_then, recursion_from_All, none-some, slice_get-map, slice_get-get_or, slice_get_within, MEMORY_SIZE, byte_at, IsStorable, TypedObject, TypedModule, SlotSegment, Slot, Bases, LiesInSlot, HasAddresses, LiesWhereAtSays, PlacingPlan, bases_from, module_placement_by, placement_by, ModuleTarget, SegmentStart, ExternalName, Places, address_of_location, constant_places, data_places, location_of, places_in, slot_of_object, storage_with, module_follows, resolved_length, constants_length, data_length, of_all, Target, InSegment, External, Linked, code_end, data_end, linked_after, linked_from, linked_modules, public_named, Image, SetByte, ObjectModule, BytesAreLoaded, address_of_public, address_of_target, IsObjectOf, AreObjectsOf, StandsAt, bases_of, code_lengths_of, plan_of, HaveSegments, IsInMemory, placement_of, IsLinked, placed_by, BeginWith, HasSegments, IsTarget, got_both, got_numbered}
use Rattle.layout.specs.declared.slot.Segment.TheVariants as slots
use Rattle.layout.specs.{Following.{base_of}, Segments.{resolved}}
use Rattle.image_laws.proofs.Programs.Bases.{bases_agree}
use Rattle.image_laws.proofs.Programs.Standing.{program_stands}
use Rattle.image_laws.proofs.Memory.Addresses.{IsHere, lies_here}
use Rattle.image_laws.proofs.Memory.Bytes.{bytes_alike}

-- a module among those that are linked
record LinkedAt (objects : List ObjectModule) (all : List Linked) (number : ℕ)
    (typed : TypedModule) : Type 0 where
  linked : Linked
  found : slice_get all number ≡ Some linked
  object_found : slice_get objects number ≡ Some linked.object
  made : IsObjectOf typed linked.object
  segments : HasSegments typed linked.object

linked_at :
    (code data_before : ℕ) (modules : List TypedModule) (objects : List ObjectModule) (number : ℕ)
    (typed : TypedModule)
    → AreObjectsOf modules objects
    → HaveSegments modules objects
    → slice_get modules number ≡ Some typed
    → LinkedAt objects (linked_from code data_before objects) number typed
linked_at code data_before [] objects number typed are have found = absurd (none-some typed found)
linked_at code data_before (first ∷ others) [] number typed are have found = absurd are
linked_at code data_before (first ∷ others) (object ∷ objects) zero typed are have found =
    let is : first ≡ typed = ap (λ (found : Option TypedModule). unwrap_or found first) found in
    record {
      linked = linked_after code data_before object;
      found = refl;
      object_found = refl;
      made = subst (λ (one : TypedModule). IsObjectOf one object) is are.0;
      segments = subst (λ (one : TypedModule). HasSegments one object) is have.0;
    }
linked_at code data_before (first ∷ others) (object ∷ objects) (suc number) typed are have found =
    let one : Linked = linked_after code data_before object in
    let rest = linked_at (code_end one) (data_end one) others objects number typed are.1 have.1 found in
    record {
      linked = rest.linked;
      found = rest.found;
      object_found = rest.object_found;
      made = rest.made;
      segments = rest.segments;
    }

-- the addresses of the targets of its bytes
abbrev pub address_for : PlacingPlan → ObjectModule → Linked → ModuleTarget → ℕ
address_for plan merged linked (SegmentStart segment) = base_of (bases_of plan linked) segment
address_for plan merged linked (ExternalName name) =
    address_of_public (plan_of plan) (public_named merged.publics name)

targets_alike :
    (plan : PlacingPlan) (merged : ObjectModule) (linked : Linked) (one : ModuleTarget) (other : Target)
    → IsTarget linked.object one other
    → address_for plan merged linked one ≡ address_of_target (plan_of plan) merged linked other
targets_alike plan merged linked (SegmentStart slots.Code) other is =
    sym (ap (address_of_target (plan_of plan) merged linked) is)
targets_alike plan merged linked (SegmentStart slots.Data) other is =
    sym (ap (address_of_target (plan_of plan) merged linked) is)
targets_alike plan merged linked (ExternalName name) (External number) is =
    sym (ap (λ (name : Option (List ℕ)).
    address_of_public (plan_of plan) (option_and_then (public_named merged.publics) name)) is)
targets_alike plan merged linked (ExternalName name) (InSegment segment) is = absurd is

-- what begins with bytes has no fewer
pub begin_length :
    (object : ObjectModule) (bytes : Places) (places : List (Option SetByte))
    → BeginWith object bytes places
    → length bytes ≤ length places
begin_length object [] places begin = omega arith
begin_length object (byte ∷ bytes) (here ∷ places) begin =
    let rest = begin_length object bytes places begin.1 in omega (arith, rest)
begin_length object (byte ∷ bytes) [] begin = absurd begin

-- bytes that are loaded, by their places
loaded_at :
    (before after : List ℕ) (address : ℕ) (bytes : List (Option ℕ)) (index : ℕ) (byte : Option ℕ)
    → BytesAreLoaded before after address bytes
    → slice_get bytes index ≡ Some byte
    → byte_at after (address + index) ≡ unwrap_or byte (byte_at before (address + index))
loaded_at before after address [] index byte loaded found = absurd (none-some byte found)
loaded_at before after address (first ∷ bytes) zero byte loaded found =
    let is : first ≡ byte = ap (λ (found : Option (Option ℕ)). unwrap_or found first) found in
    let same : address ≡ address + 0 = omega arith in
    subst (λ (at : ℕ). byte_at after at ≡ unwrap_or byte (byte_at before at)) same
    (subst (λ (byte : Option ℕ). byte_at after address ≡ unwrap_or byte (byte_at before address)) is loaded.0)
loaded_at before after address (first ∷ bytes) (suc index) byte loaded found =
    let same : (address + 1) + index ≡ address + suc index = omega arith in
    subst (λ (at : ℕ). byte_at after at ≡ unwrap_or byte (byte_at before at)) same
    (loaded_at before after (address + 1) bytes index byte loaded.1 found)

pub bases_found :
    (plan : PlacingPlan) (modules : List TypedModule) (objects : List ObjectModule)
    (number : ℕ) (linked : Linked)
    → AreObjectsOf modules objects
    → slice_get (linked_modules objects) number ≡ Some linked
    → slice_get (bases_from plan.code_base plan.data_base modules (code_lengths_of objects)) number
    ≡ Some (bases_of plan linked)
bases_found plan modules objects number linked are found =
    ap (λ (bases : List Bases). slice_get bases number) (sym (bases_agree plan modules objects are))
    ∙ slice_get-map (bases_of plan) (linked_modules objects) number
    ∙ ap (λ (linked : Option Linked). option_map (bases_of plan) linked) found

placed_found :
    (plan : PlacingPlan) (modules : List TypedModule) (objects : List ObjectModule) (number : ℕ)
    (typed : TypedModule) (linked : Linked)
    → AreObjectsOf modules objects
    → slice_get modules number ≡ Some typed
    → slice_get (linked_modules objects) number ≡ Some linked
    → slice_get (placement_of plan modules objects).modules number ≡ Some (placed_by plan linked typed)
unfolding placement_by
placed_found plan modules objects number typed linked are typed_is found =
    let bases = bases_from plan.code_base plan.data_base modules (code_lengths_of objects) in
    slice_get-map
    (λ (based : TypedModule × Bases). module_placement_by based.1 based.0 (storage_with based.0))
    (zip modules bases) number
    ∙ ap (λ (based : Option (TypedModule × Bases)).
    option_map (λ (based : TypedModule × Bases). module_placement_by based.1 based.0 (storage_with based.0))
    based)
    (got_both modules bases number typed (bases_of plan linked) typed_is
    (bases_found plan modules objects number linked are found))

module _
    (plan : PlacingPlan) (modules : List TypedModule) (objects : List ObjectModule) (merged : ObjectModule)
    (image : Image) (before after : List ℕ)
    (is : IsInMemory plan modules objects merged image before after)
  where
    pub is_linked :
        (number : ℕ) (typed : TypedModule)
        → slice_get modules number ≡ Some typed
        → IsLinked plan modules objects merged before after number typed
    is_linked number typed typed_is =
        let at = linked_at 0 0 modules objects number typed is.made is.segments typed_is in
        let linked : Linked = at.linked in
        let bases = bases_from plan.code_base plan.data_base modules (code_lengths_of objects) in
        let storable : IsStorable typed =
        of_all IsStorable modules number typed (recursion_from_All IsStorable modules is.storable) typed_is in
        let stands : StandsAt plan merged before after (linked, bases_of plan linked) =
        of_all (StandsAt plan merged before after) (zip (linked_modules objects) bases) number
        (linked, bases_of plan linked)
        (recursion_from_All (StandsAt plan merged before after) (zip (linked_modules objects) bases)
        (program_stands plan modules objects merged image before after is.made is.placed))
        (got_both (linked_modules objects) bases number linked (bases_of plan linked) at.found
        (bases_found plan modules objects number linked is.made at.found)) in
        let placed = placed_found plan modules objects number typed linked is.made typed_is at.found in
        let both : slice_get (zip modules (placement_of plan modules objects).modules) number
        ≡ Some (typed, placed_by plan linked typed) =
        got_both modules (placement_of plan modules objects).modules number typed
        (placed_by plan linked typed)
        typed_is placed in
        let code_room = (stands.segments).code.in_memory in
        let data_room = (stands.segments).data_places.in_memory in
        let code_held =
        begin_length linked.object (constant_places typed) linked.object.code.places at.segments.code in
        let data_held =
        begin_length linked.object (data_places typed) linked.object.data_places.places
        at.segments.data_places in
        let code_size = constants_length typed storable in
        let data_size = data_length typed storable in
        record {
          linked = linked;
          found = at.found;
          object_found = at.object_found;
          segments = at.segments;
          storable = storable;
          stands = stands;
          placed = placed;
          follows = module_follows (bases_of plan linked) typed
              (omega (arith, code_room, code_held, code_size))
              (omega (arith, data_room, data_held, data_size));
          at_says = of_all LiesWhereAtSays (zip modules (placement_of plan modules objects).modules) number
              (typed, placed_by plan linked typed)
              (recursion_from_All LiesWhereAtSays (zip modules (placement_of plan modules objects).modules)
              (is.lawful).where_at_says) both;
          addresses = of_all HasAddresses (zip modules (placement_of plan modules objects).modules) number
              (typed, placed_by plan linked typed)
              (recursion_from_All HasAddresses (zip modules (placement_of plan modules objects).modules)
              (is.lawful).complete) both;
        }

    -- an object of this module lies at the address of its location
    pub lies_at :
        (number_of_module number : ℕ) (typed : TypedModule) (object : TypedObject)
        → (at : IsLinked plan modules objects merged before after number_of_module typed)
        → slice_get typed.objects number ≡ Some object
        → IsHere object.home
        → slice_index (placed_by plan at.linked typed).objects number
        ≡ address_of_location (address_for plan merged at.linked) (location_of typed number)
    lies_at number_of_module number typed object at found here =
        lies_here (bases_of plan at.linked) typed (address_for plan merged at.linked) at.storable
        at.follows at.at_says
        at.addresses (λ segment. refl) number object found here

    -- where an object with a slot lies
    pub in_slot :
        (number_of_module number : ℕ) (typed : TypedModule) (object : TypedObject) (slot : Slot)
        → (at : IsLinked plan modules objects merged before after number_of_module typed)
        → slice_get typed.objects number ≡ Some object
        → slot_of_object typed number object object.home ≡ Some slot
        → slice_index (placed_by plan at.linked typed).objects number
        ≡ (base_of (bases_of plan at.linked) slot.segment + slot.offset) % MEMORY_SIZE
    in_slot number_of_module number typed object slot at found slot_is =
        let address : ℕ = slice_index (placed_by plan at.linked typed).objects number in
        let within = slice_get_within typed.objects number object found in
        let count = (at.addresses).objects in
        subst (λ (slot : Option Slot). LiesInSlot (bases_of plan at.linked) address slot) slot_is
        (of_all (λ (object : Option Slot × ℕ). LiesInSlot (bases_of plan at.linked) object.1 object.0)
        (zip (storage_with typed).objects (placed_by plan at.linked typed).objects) number
        (slot_of_object typed number object object.home, address)
        (recursion_from_All (λ (object : Option Slot × ℕ). LiesInSlot
        (bases_of plan at.linked) object.1 object.0)
        (zip (storage_with typed).objects (placed_by plan at.linked typed).objects) (at.follows).objects)
        (got_both (storage_with typed).objects (placed_by plan at.linked typed).objects number
        (slot_of_object typed number object object.home) address
        (got_numbered
        (λ (numbered : ℕ × TypedObject). slot_of_object typed numbered.0 numbered.1 (numbered.1).home)
        typed.objects 0 number number object found (omega arith))
        (slice_get-get_or (placed_by plan at.linked typed).objects number 0 (omega (arith, within, count)))))

    -- the bytes of the segments of a module
    pub record StandsThere (bases : Bases) (segment : SlotSegment) (index : ℕ)
        (byte : Option ℕ) : Type 0 where
      pub in_memory : base_of bases segment + index < 65536
      pub byte_is :
          byte_at after (base_of bases segment + index)
          ≡ unwrap_or byte (byte_at before (base_of bases segment + index))

    pub stands_there :
        (number_of_module : ℕ) (typed : TypedModule) (segment : SlotSegment) (index : ℕ) (byte : Option ℕ)
        → (at : IsLinked plan modules objects merged before after number_of_module typed)
        → slice_get (resolved (address_for plan merged at.linked) (places_in typed segment)) index ≡ Some byte
        → StandsThere (bases_of plan at.linked) segment index byte
    stands_there number_of_module typed slots.Code index byte at found =
        let within =
        slice_get_within (resolved (address_for plan merged at.linked) (constant_places typed)) index byte
        found in
        let size = resolved_length (address_for plan merged at.linked) None (constant_places typed) in
        let held =
        begin_length at.linked.object (constant_places typed)
        at.linked.object.code.places at.segments.code in
        let room = ((at.stands).segments).code.in_memory in
        record {
          in_memory = omega (arith, within, size, held, room);
          byte_is = loaded_at before after _ _ index byte ((at.stands).segments).code.loaded
              (bytes_alike at.linked.object (address_for plan merged at.linked)
              (address_of_target (plan_of plan) merged at.linked) (targets_alike plan merged at.linked)
              (constant_places typed) at.linked.object.code.places index byte at.segments.code found);
        }
    stands_there number_of_module typed slots.Data index byte at found =
        let within =
        slice_get_within (resolved (address_for plan merged at.linked) (data_places typed)) index byte
        found in
        let size = resolved_length (address_for plan merged at.linked) None (data_places typed) in
        let held =
        begin_length at.linked.object (data_places typed) at.linked.object.data_places.places
        at.segments.data_places in
        let room = ((at.stands).segments).data_places.in_memory in
        record {
          in_memory = omega (arith, within, size, held, room);
          byte_is = loaded_at before after _ _ index byte ((at.stands).segments).data_places.loaded
              (bytes_alike at.linked.object (address_for plan merged at.linked)
              (address_of_target (plan_of plan) merged at.linked) (targets_alike plan merged at.linked)
              (data_places typed) at.linked.object.data_places.places index byte
              at.segments.data_places found);
        }
