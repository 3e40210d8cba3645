-- The places of tree code have addresses where the program lies: those at which its objects and lists begin.
use Rattle.program_laws.proofs.Prelude.{◌≡◌, ℕ, ◌+◌, ◌%◌, ◌<◌, Bool, List, length, zip, Option, Some, None, refl, sym, ap, ◌∙◌, arith, slice_get, slice_index, enumerate_from, option_map_or, recursion_from_All, length-map, length-enumerate_from, slice_get-get_or, MEMORY_SIZE, Target, InSegment, ObjectModule, TypedHome, InData, InConstants, Placed, BasedOn, Elsewhere, Nowhere, InFrame, TypedModule, TypedObject, Slot, address_of_slot, base_of, ModulePlacement, address_of_location, address_of_object, Storage, slot_of_list, storage_with, of_all, object_address, InMemory, Surroundings, home_in, home_of, address_of_list, based_place, Program, Gave, wrap, Layout, ExternalName, Home, Static, Place, static_place, homes_of, number_of_place, place_after, offset_of_list, home_at, Resolves, IsStatic, location_of_place, any_lies, IsStored, list_offset, some_within, place_at, IsGenerated, around_in, LiesInMemory, bases_at, address_for, module_layout, IsSoundlyMade, got_both, got_numbered}
use Rattle.object_modules.specs.declared.segment.Segment.TheVariants as segments
use Rattle.layout.specs.declared.slot.Segment.TheVariants as slots
use Rattle.meaning.specs.Outcomes.{State}
use Rattle.treecode.specs.declared.place.Place.TheVariants as places
use Rattle.program_laws.proofs.ObjectsLie.{has_addresses, object_lies}
use Rattle.program_laws.proofs.Homes.{not_based, not_in_frame}

-- a further place of a layout is so many bytes on
after_place : (layout : Layout) (place : Place) (distance : ℕ)
    → place_at layout (place_after place distance) ≡ (place_at layout place + distance) % 65536
after_place layout (places.Number number) distance = refl
after_place layout (places.Code offset) distance = omega arith
after_place layout (places.Data offset) distance = omega arith
after_place layout (places.External offset name) distance = omega arith

below_memory : (layout : Layout) (place : Place) → number_of_place place ≡ None
    → place_at layout place < 65536
below_memory layout (places.Number number) none = absurd (cc)
below_memory layout (places.Code offset) none = omega arith
below_memory layout (places.Data offset) none = omega arith
below_memory layout (places.External offset name) none = omega arith

twice : (number : ℕ) → (number % MEMORY_SIZE) % MEMORY_SIZE ≡ number % MEMORY_SIZE
twice number = omega arith

turned : (one other : ℕ) → wrap (one + other) ≡ (other + one) % MEMORY_SIZE
turned one other = omega arith

-- there are as many lists in the storage of a module as in the module
pub lists_counted :
    (typed : TypedModule) (storage : Storage)
    → IsStored typed storage
    → length storage.lists ≡ length typed.constants.lists
lists_counted typed storage stored =
    ap (λ (storage : Storage). length storage.lists) stored.storage_is
    ∙ length-map (enumerate_from 0 typed.constants.lists)
    (λ (numbered : ℕ × List ℕ). slot_of_list typed numbered.0 numbered.1)
    ∙ length-enumerate_from 0 typed.constants.lists

module _
    (program : Program) (number : ℕ) (typed : TypedModule) (object : ObjectModule)
    (address_of : Target → ℕ) (address_of_name : (name : List ℕ) → ℕ) (memory : List ℕ)
    (sound : IsSoundlyMade typed object)
    (lies : LiesInMemory program number typed object address_of address_of_name memory)
    (room : ℕ)
  where
    abbrev generated : IsGenerated sound.made.tree object
    generated = sound.made.generated

    abbrev storage : Storage
    storage = sound.made.storage

    abbrev names : List ExternalName
    names = sound.made.tree.externals.items

    abbrev own : Layout
    own = module_layout address_of address_of_name sound.made.generated.to sound.made.generated.code names

    abbrev around : Surroundings
    around = around_in program number room

    -- the base of a segment is that of the module
    starts_code : own.address_of (InSegment segments.Code) ≡ base_of (bases_at address_of) slots.Code
    starts_code = ap address_of (generated.targets.starts segments.Code refl)

    starts_data : own.address_of (InSegment segments.Data) ≡ base_of (bases_at address_of) slots.Data
    starts_data = ap address_of (generated.targets.starts segments.Data refl)

    -- a place is at the address of where it lies
    pub place_lies : (place : Place)
        → place_at own place
        ≡ address_of_location (address_for address_of address_of_name) (location_of_place names place)
    place_lies (places.Number value) = refl
    place_lies (places.Code offset) = ap (λ base. wrap (offset + base)) starts_code ∙ turned offset _
    place_lies (places.Data offset) = ap (λ base. wrap (offset + base)) starts_data ∙ turned offset _
    place_lies (places.External offset index) = turned offset _

    module_there : {A : Type 0} (f : TypedModule → A) (default : A)
        → option_map_or f (slice_get program.modules number) default ≡ f typed
    module_there f default = ap (λ found. option_map_or f found default) lies.is_module

    abbrev starts : List Home
    starts = sound.made.tree.homes.items

    -- what has a place of its own is neither BASED nor in a frame
    static_in_module : (object : ℕ) (place : Place) → home_at starts object ≡ Static place
        → home_at (homes_of typed storage) object ≡ Static place
    static_in_module object place static =
        ap (λ homes. home_at homes object) (sym sound.made.lowered.homes) ∙ static

    static_home : (index : ℕ) (found : TypedObject) (place : Place)
        → slice_get typed.objects index ≡ Some found
        → home_at (homes_of typed storage) index ≡ Static place
        → IsStatic found.home
    static_home index found place is static = by found.home refl
      where
        by : (home : TypedHome) → found.home ≡ home → IsStatic home
        by (InData values) same = tt
        by (InConstants values) same = tt
        by (Placed at) same = tt
        by (BasedOn base) same = absurd (not_based typed storage index base found place is same static)
        by (InFrame procedure) same =
            absurd (not_in_frame typed storage index procedure found place is same static)
        by Elsewhere same = tt
        by Nowhere same = tt

    -- an object begins at the address of its place
    object_begins : (object : ℕ) (place : Place) → home_at starts object ≡ Static place
        → object_address around object ≡ place_at own place
    object_begins object_number place static =
        module_there (λ typed. address_of_object program.modules program.placement number typed object_number)
        0
        ∙ object_lies program number typed object address_of address_of_name memory
        sound.made.laid.storable lies
        object_number
        (λ found is. static_home object_number found place is
        (static_in_module object_number place static))
        ∙ ap (address_of_location (address_for address_of address_of_name))
        (sym (any_lies typed storage object_number sound.made.laid)
        ∙ ap (λ externals. location_of_place externals
        (static_place (home_at (homes_of typed storage) object_number)))
        (sym sound.made.lowered.externals)
        ∙ ap (λ home. location_of_place names (static_place home))
        (ap (λ homes. home_at homes object_number) (sym sound.made.lowered.homes) ∙ static))
        ∙ sym (place_lies place)

    abbrev IsAt : TypedHome → (object : ℕ) → (place : Place) → Type 0
    IsAt home object place =
        (bytes : ℕ) (is_inside : Bool) (s : State)
        → based_place home around object bytes is_inside s
        ≡ Gave (InMemory ((place_at own place + bytes) % MEMORY_SIZE)) s

    in_memory : (object : ℕ) (place : Place) → home_at starts object ≡ Static place
        → (bytes : ℕ) (s : State)
        → Gave (InMemory ((object_address around object + bytes) % MEMORY_SIZE)) s
        ≡ Gave (InMemory ((place_at own place + bytes) % MEMORY_SIZE)) s
    in_memory object place static bytes s =
        ap (λ address. Gave (InMemory ((address + bytes) % MEMORY_SIZE)) s)
        (object_begins object place static)

    by_home :
        (home : TypedHome) (object : ℕ) (place : Place)
        → home_in typed object ≡ home
        → home_at starts object ≡ Static place
        → IsAt home object place
    by_home (InData values) object place is_home static bytes is_inside s =
        in_memory object place static bytes s
    by_home (InConstants values) object place is_home static bytes is_inside s =
        in_memory object place static bytes s
    by_home (Placed at) object place is_home static bytes is_inside s = in_memory object place static bytes s
    by_home Elsewhere object place is_home static bytes is_inside s = in_memory object place static bytes s
    by_home Nowhere object place is_home static bytes is_inside s = in_memory object place static bytes s
    by_home (BasedOn base) object place is_home static bytes is_inside s =
        found (slice_get typed.objects object) refl
      where
        found : (one : Option TypedObject) → slice_get typed.objects object ≡ one
            → based_place (BasedOn base) around object bytes is_inside s
            ≡ Gave (InMemory ((place_at own place + bytes) % MEMORY_SIZE)) s
        found (Some one) there =
            absurd (not_based typed storage object base one place there
            (sym (ap (λ given. option_map_or (λ (x : TypedObject). x.home) given Nowhere) there) ∙ is_home)
            (static_in_module object place static))
        found None there =
            let bad : Nowhere ≡ BasedOn base =
            sym (ap (λ given. option_map_or (λ (x : TypedObject). x.home) given Nowhere) there)
            ∙ is_home in
            absurd (cc)
    by_home (InFrame procedure) object place is_home static bytes is_inside s =
        found (slice_get typed.objects object) refl
      where
        found : (one : Option TypedObject) → slice_get typed.objects object ≡ one
            → based_place (InFrame procedure) around object bytes is_inside s
            ≡ Gave (InMemory ((place_at own place + bytes) % MEMORY_SIZE)) s
        found (Some one) there =
            absurd (not_in_frame typed storage object procedure one place there
            (sym (ap (λ given. option_map_or (λ (x : TypedObject). x.home) given Nowhere) there) ∙ is_home)
            (static_in_module object place static))
        found None there =
            let bad : Nowhere ≡ InFrame procedure =
            sym (ap (λ given. option_map_or (λ (x : TypedObject). x.home) given Nowhere) there)
            ∙ is_home in
            absurd (cc)

    home_is : (object : ℕ) → home_of around object ≡ home_in typed object
    home_is object = module_there (λ typed. home_in typed object) Nowhere

    -- a constant list begins at the address of its place
    list_begins : (list : ℕ) → list < length storage.lists
        → address_of_list around list ≡ place_at own (places.Code (offset_of_list storage list))
    list_begins list within =
        some_within typed.constants.lists list short (λ bytes found. by bytes found)
      where
        short : list < length typed.constants.lists
        short = let counted =
            lists_counted typed storage sound.made.laid.stored in omega (arith, within, counted)

        by : (bytes : List ℕ) → slice_get typed.constants.lists list ≡ Some bytes
            → address_of_list around list ≡ place_at own (places.Code (offset_of_list storage list))
        by bytes found =
            let slot : Slot = slot_of_list typed list bytes in
            let placed : ModulePlacement = lies.placed in
            let address : ℕ = slice_index placed.lists list in
            let addresses =
            has_addresses program number typed object address_of address_of_name memory
            sound.made.laid.storable lies in
            let count = addresses.lists in
            let in_slot : address ≡ address_of_slot (bases_at address_of) slot =
            of_all (λ (one : Slot × ℕ). one.1 ≡ address_of_slot (bases_at address_of) one.0)
            (zip (storage_with typed).lists placed.lists) list (slot, address)
            (recursion_from_All (λ (one : Slot × ℕ). one.1 ≡ address_of_slot (bases_at address_of) one.0)
            (zip (storage_with typed).lists placed.lists) lies.follows.lists)
            (got_both (storage_with typed).lists placed.lists list slot address
            (got_numbered (λ (numbered : ℕ × List ℕ). slot_of_list typed numbered.0 numbered.1)
            typed.constants.lists 0 list list bytes found (omega arith))
            (slice_get-get_or placed.lists list 0 (omega (arith, short, count)))) in
            ap (λ (one : Option ModulePlacement). option_map_or
            (λ (given : ModulePlacement). slice_index given.lists list % MEMORY_SIZE) one 0)
            lies.is_placed
            ∙ ap (λ n. n % MEMORY_SIZE) in_slot
            ∙ twice (base_of (bases_at address_of) slots.Code + slot.offset)
            ∙ sym (turned slot.offset (base_of (bases_at address_of) slots.Code))
            ∙ ap (λ base. wrap (slot.offset + base)) (sym starts_code)
            ∙ ap (λ offset. wrap (offset + own.address_of (InSegment segments.Code)))
            (sym (list_offset typed storage list bytes sound.made.laid.stored found))

    pub resolves : Resolves around starts storage (place_at own)
    resolves = record {
      number = λ value. refl;
      below = below_memory own;
      after = after_place own;
      list = list_begins;
      object = λ object place bytes is_inside s static.
          ap (λ home. based_place home around object bytes is_inside s) (home_is object)
          ∙ by_home (home_in typed object) object place refl static bytes is_inside s;
    }
