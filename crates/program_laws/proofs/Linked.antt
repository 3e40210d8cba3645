-- Modules of a program whose object modules are linked, placed and loaded lie in memory, and their procedures
-- are entered where their code begins.
use Rattle.program_laws.proofs.Prelude.{◌≡◌, ℕ, zero, suc, ◌+◌, ◌%◌, ◌≤◌, true, ◌&&◌, List, [], ◌∷◌, length, sum, Option, Some, option_map, refl, ap, sym, ◌∙◌, subst, arith, slice_get, slice_index, bytes_eq, option_map_or, option_and_then, position_from-zero, sum_by-cons, none-some, same_Some, slice_get-map, bytes_eq-Decides, MEMORY_SIZE, public_named, Image, ObjectModule, Public, address_of_public, piece_base, Visibility, Elsewhere, Nowhere, TypedModule, TypedObject, TypedProcedure, Bases, InProgram, first_found, is_public_procedure, procedure_meant, public_procedure_in, PlacingPlan, bases_from, placement_by, stack_range, address_of_location, location_by_home, location_of, locations_after, address_of_object, location_is, callee_in, Program, wrap, bases_of, code_lengths_of, plan_of, IsInMemory, placement_of, placed_by, IsHere, address_meant, found_place, public_lies, bases_found, lies_at, place_of_label, HasTypes, around_in, ModuleIs, layout_of, made_of, public_address, targets_of, ModulesAre, entries_of, AreEntered, LiesInMemory, and_parts, first_position}
use Rattle.object_modules.specs.declared.segment.Segment.TheVariants as segments
use Rattle.typed_trees.specs.declared.parts.Visibility.TheVariants as visibilities
use Rattle.image_laws.proofs.Memory.Modules.{address_for}
use Rattle.program_laws.proofs.Labels.{procedure_lies}
use Rattle.program_laws.proofs.Shown.{shows_procedures}

-- the code of a module lies within that of the program
pub within_code :
    (code data_base : ℕ) (modules : List TypedModule) (lengths : List ℕ) (number : ℕ)
    (bases : Bases) (count : ℕ)
    → slice_get (bases_from code data_base modules lengths) number ≡ Some bases
    → slice_get lengths number ≡ Some count
    → (code ≤ bases.code_base) × (bases.code_base + count ≤ code + sum lengths)
within_code code data_base [] lengths number bases count found there = absurd (none-some bases found)
within_code code data_base (typed ∷ others) [] number bases count found there = absurd (none-some count there)
within_code code data_base (typed ∷ others) (first ∷ lengths) zero bases count found there =
    let same = ap (λ (one : Bases). one.code_base) (same_Some _ bases found) in
    let long = same_Some first count there in
    let total = sum_by-cons (λ (n : ℕ). n) first lengths in
    (omega (arith, same), omega (arith, same, long, total))
within_code code data_base (typed ∷ others) (first ∷ lengths) (suc number) bases count found there =
    let rest = within_code (code + first) _ others lengths number bases count found there in
    let total = sum_by-cons (λ (n : ℕ). n) first lengths in
    (omega (arith, rest.0), omega (arith, rest.1, total))

public_visibility : (visibility : Visibility) → is_public_procedure visibility ≡ true
    → visibility ≡ visibilities.Public
public_visibility visibilities.Public is = refl
public_visibility visibilities.Private is = absurd (cc)
public_visibility visibilities.External is = absurd (cc)

same_wrapped : (one other : ℕ) → wrap one ≡ other → wrap one ≡ wrap other
same_wrapped one other same = omega (arith, same)

modulo : (number : ℕ) → (number + 0) % 65536 ≡ number % 65536
modulo number = omega arith

twice : (start len : ℕ) → wrap ((start + len) % MEMORY_SIZE) ≡ wrap (start + len)
twice start len = omega arith

module _
    (plan : PlacingPlan) (modules : List TypedModule) (objects : List ObjectModule) (merged : ObjectModule)
    (image : Image) (before after : List ℕ) (is : IsInMemory plan modules objects merged image before after)
  where
    abbrev pub program_of : (script : List (List ℕ)) → Program
    program_of script =
        record { modules = modules; placement = placement_of plan modules objects; script = script }

    module _
        (number : ℕ) (module_is : ModuleIs plan modules objects merged before after number)
      where
        -- its objects
        by_location : (index : ℕ) (found : TypedObject)
            → slice_get module_is.typed.objects index ≡ Some found
            → address_of_location (address_for plan merged module_is.at.linked)
            (location_of module_is.typed index)
            ≡ address_of_location (address_for plan merged module_is.at.linked)
            (location_by_home module_is.typed (locations_after module_is.typed [] module_is.typed.objects)
            index found found.home)
        by_location index found there =
            ap (address_of_location (address_for plan merged module_is.at.linked))
            (location_is module_is.typed index found module_is.at.storable there)

        elsewhere : (index : ℕ) (found : TypedObject)
            → slice_get module_is.typed.objects index ≡ Some found
            → found.home ≡ Elsewhere
            → address_of_object modules (placement_of plan modules objects) number module_is.typed index
            ≡ public_address plan merged found.name % MEMORY_SIZE
        elsewhere index found there is_home =
            address_meant plan modules objects merged image before after is number index
            module_is.typed module_is.at
            module_is.found
            ∙ by_location index found there
            ∙ ap (λ home.
            address_of_location (address_for plan merged module_is.at.linked)
            (location_by_home module_is.typed
            (locations_after module_is.typed [] module_is.typed.objects) index found home))
            is_home
            ∙ modulo (public_address plan merged found.name)

        nowhere : (index : ℕ) (found : TypedObject)
            → slice_get module_is.typed.objects index ≡ Some found
            → found.home ≡ Nowhere
            → slice_index (placed_by plan module_is.at.linked module_is.typed).objects index ≡ 0
        nowhere index found there is_home =
            lies_at plan modules objects merged image before after is number index module_is.typed
            found module_is.at there
            (subst IsHere (sym is_home) tt)
            ∙ by_location index found there
            ∙ ap (λ home.
            address_of_location (address_for plan merged module_is.at.linked)
            (location_by_home module_is.typed
            (locations_after module_is.typed [] module_is.typed.objects) index found home))
            is_home

        -- its code
        within_program :
            (plan.code_base ≤ piece_base (plan_of plan) module_is.at.linked.start segments.Code)
            × (piece_base (plan_of plan) module_is.at.linked.start segments.Code
            + length (module_is.at.linked.object).code.places
            ≤ plan.code_base + sum (code_lengths_of objects))
        within_program =
            within_code plan.code_base plan.data_base modules (code_lengths_of objects) number
            (bases_of plan module_is.at.linked) (length (module_is.at.linked.object).code.places)
            (bases_found plan modules objects number module_is.at.linked is.made module_is.at.found)
            (slice_get-map (λ (object : ObjectModule). length object.code.places) objects number
            ∙ ap (option_map (λ (object : ObjectModule). length object.code.places))
            module_is.at.object_found)

        pub lies_in_memory :
            (script : List (List ℕ))
            → HasTypes (program_of script)
            → LiesInMemory (program_of script) number module_is.typed module_is.at.linked.object
            (targets_of module_is) (public_address plan merged) after
        unfolding placement_by
        lies_in_memory script types =
            let within = within_program in
            record {
              is_module = module_is.found;
              types = types;
              lawful = is.lawful;
              placed = placed_by plan module_is.at.linked module_is.typed;
              is_placed = module_is.at.placed;
              follows = module_is.at.follows;
              elsewhere = elsewhere;
              nowhere = nowhere;
              stack_end =
                  ap wrap module_is.at.stands.stack
                  ∙ twice ((stack_range plan).start) ((stack_range plan).len);
              names = λ index name there.
                  ap (λ (one : Option (List ℕ)).
                  address_of_public (plan_of plan) (option_and_then (public_named merged.publics) one)) there;
              low = within.0;
              high = within.1;
              stands = module_is.at.stands.segments.code.stands;
            }

    module _ (modules_are : ModulesAre plan modules objects merged before after) where
      -- a procedure of a module begins at its label
      pub own_entry :
          (number : ℕ) (module_is : ModuleIs plan modules objects merged before after number) (index : ℕ)
          → modules_are.at number ≡ Some module_is
          → wrap (entries_of modules_are (record { number_of_module = number; number = index }))
          ≡ wrap ((layout_of module_is).place_of index)
      own_entry number module_is index at_is =
          ap (λ one. wrap (option_map_or
          (λ (given : ModuleIs plan modules objects merged before after number). (layout_of given).place_of
          index) one 0)) at_is

      -- a PUBLIC procedure begins where the public of its name lies
      public_entry :
          (number : ℕ) (its : TypedModule) (index : ℕ) (public : TypedProcedure)
          → slice_get modules number ≡ Some its
          → slice_get its.procedures index ≡ Some public
          → public.visibility ≡ visibilities.Public
          → wrap (entries_of modules_are (record { number_of_module = number; number = index }))
          ≡ address_of_public (plan_of plan) (public_named merged.publics public.name)
      public_entry number its index public there found visible =
          let given = modules_are.all number its there in
          let module_is : ModuleIs plan modules objects merged before after number = given.0 in
          let same : its ≡ module_is.typed = same_Some its module_is.typed (sym there ∙ module_is.found) in
          let in_typed : slice_get module_is.typed.procedures index ≡ Some public =
          subst (λ (typed : TypedModule). slice_get typed.procedures index ≡ Some public) same found in
          let one =
          shows_procedures module_is.typed module_is.at.linked.object module_is.sound index
          public in_typed visible in
          let lies =
          public_lies plan modules objects merged image before after is number one.place module_is.typed
          one.public module_is.at one.found in
          let offset : ℕ =
          place_of_label (made_of module_is).generated.code
          (made_of module_is).generated.code_bytes index in
          let there_public : address_of_public (plan_of plan) (public_named merged.publics public.name)
          ≡ (piece_base (plan_of plan) module_is.at.linked.start segments.Code + offset) % MEMORY_SIZE =
          subst (λ (given : Public). address_of_public (plan_of plan) (public_named merged.publics given.name)
          ≡ (piece_base (plan_of plan) module_is.at.linked.start given.segment + given.offset)
          % MEMORY_SIZE) one.is lies.address in
          own_entry number module_is index given.1
          ∙ ap wrap
          (sym (procedure_lies module_is.typed module_is.at.linked.object module_is.sound
          (targets_of module_is)
          (public_address plan merged) index public in_typed
          (λ external. let bad : visibilities.Public ≡ visibilities.External = sym visible ∙ external in cc)))
          ∙ sym there_public

      -- the EXTERNAL procedure of a name goes to the PUBLIC one
      name_goes :
          (name : List ℕ) (place : InProgram)
          → first_found 0 (public_procedure_in name) modules ≡ Some place
          → wrap (entries_of modules_are place)
          ≡ address_of_public (plan_of plan) (public_named merged.publics name)
      name_goes name place found =
          found_place 0 (public_procedure_in name) modules place found
          (λ at its same there in_its.
          first_position
          (λ (one : TypedProcedure). is_public_procedure one.visibility && bytes_eq one.name name) 0
          its.procedures place.number
          (sym (position_from-zero (λ (one : TypedProcedure). is_public_procedure one.visibility
          && bytes_eq one.name name)
          its.procedures) ∙ in_its)
          (λ number public at_number is_there holds.
          let tests = and_parts (is_public_procedure public.visibility) (bytes_eq public.name name) holds in
          let number_is : place.number ≡ number = omega (arith, at_number) in
          let module_of : place.number_of_module ≡ at = omega (arith, same) in
          ap (λ n. wrap (entries_of modules_are (record { number_of_module = n; number = place.number })))
          module_of
          ∙ ap (λ n. wrap (entries_of modules_are (record { number_of_module = at; number = n }))) number_is
          ∙ public_entry at its number public there is_there (public_visibility public.visibility tests.0)
          ∙ ap (λ (given : List ℕ). address_of_public (plan_of plan) (public_named merged.publics given))
          ((bytes_eq-Decides public.name name).0 tests.1)))

      -- procedures are entered so
      pub are_entered :
          (number : ℕ) (module_is : ModuleIs plan modules objects merged before after number)
          (script : List (List ℕ))
          → modules_are.at number ≡ Some module_is
          → AreEntered (program_of script) number module_is.typed
          (place_of_label (made_of module_is).generated.code (made_of module_is).generated.code_bytes)
          (targets_of module_is)
          (public_address plan merged) (entries_of modules_are)
      are_entered number module_is script at_is = record {
        own = λ index found there here.
            own_entry number module_is index at_is
            ∙ ap wrap (sym (procedure_lies module_is.typed module_is.at.linked.object module_is.sound
            (targets_of module_is) (public_address plan merged) index found there here));
        externals = λ index found place there visible callee.
            same_wrapped (entries_of modules_are place) (public_address plan merged found.name)
            (name_goes found.name place (meant number module_is script index found place
            there visible callee));
      }
        where
          meant :
              (number : ℕ) (module_is : ModuleIs plan modules objects merged before after number)
              (script : List (List ℕ)) (index : ℕ) (found : TypedProcedure) (place : InProgram)
              → slice_get module_is.typed.procedures index ≡ Some found
              → found.visibility ≡ visibilities.External
              → callee_in (around_in (program_of script) number 0) index ≡ Some place
              → first_found 0 (public_procedure_in found.name) modules ≡ Some place
          meant number module_is script index found place there visible callee =
              sym
              (ap (option_and_then (λ (typed : TypedModule).
              option_and_then
              (λ (one : TypedProcedure). procedure_meant modules
              (record { number_of_module = number; number = index }) one one.visibility)
              (slice_get typed.procedures index))) module_is.found
              ∙ ap (option_and_then
              (λ (one : TypedProcedure). procedure_meant modules
              (record { number_of_module = number; number = index }) one one.visibility))
              there
              ∙ ap (λ visibility. procedure_meant modules
              (record { number_of_module = number; number = index }) found visibility)
              visible)
              ∙ callee
