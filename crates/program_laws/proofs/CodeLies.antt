-- The code of an object module stands where that lies in memory.
use Rattle.program_laws.proofs.Prelude.{◌≡◌, ℕ, ◌+◌, ◌≤◌, List, [], length, map, Option, Some, refl, sym, ap, subst, ◌∙◌, arith, option_map_or, Target, InSegment, External, ObjectModule, SetByte, bytes_resolved, resolved_retargeted, TypedModule, ExternalName, Program, wrap, resolved, set_bytes, Layout, Stands, SetBytesStand, places_length, set_length, entry, Written, IsGenerated, LiesInMemory, module_layout, written_layout, IsSoundlyMade}
use Rattle.object_modules.specs.declared.segment.Segment.TheVariants as segments
use Rattle.image_laws.specs.internal.Code.{retargeted}
use Rattle.program_laws.proofs.Renumbered.{LaysOut}

module _
    (program : Program) (number : ℕ) (typed : TypedModule) (object : ObjectModule)
    (address_of : Target → ℕ) (address_of_name : (name : List ℕ) → ℕ) (memory : List ℕ)
    (sound : IsSoundlyMade typed object)
    (lies : LiesInMemory program number typed object address_of address_of_name memory)
  where
    abbrev generated : IsGenerated sound.made.tree object
    generated = sound.made.generated

    abbrev written : Written
    written = sound.made.generated.code

    abbrev of_code : Layout
    of_code = written_layout address_of sound.made.generated.to written

    abbrev own : Layout
    own =
        module_layout address_of address_of_name sound.made.generated.to written
        sound.made.tree.externals.items

    abbrev base : ℕ
    base = address_of (InSegment segments.Code)

    abbrev size : ℕ
    size = length sound.made.generated.code_bytes.bytes

    -- labels and targets are those of the code, by its own numbers
    name_lies : (name index : ℕ) → entry written.externals name ≡ Some index
        → own.address_of (External name) ≡ of_code.address_of (External index)
    name_lies name index found =
        let named = generated.targets.names name index (generated.grown name index found) in
        ap (λ (one : Option ExternalName).
        address_of_name (option_map_or (λ (given : ExternalName). given.name) one [])) named.name
        ∙ sym (ap address_of named.target ∙ lies.names named.place named.external.name named.found)

    pub lays_out : LaysOut written own of_code
    lays_out = record {
      labels = λ label index found. ap (λ one. option_map_or of_code.place_of one 0) found;
      names = λ name index found. ap wrap (name_lies name index found);
      starts = λ segment. refl;
    }

    -- it has as many bytes as its segment
    code_length : length object.code.places ≡ size
    code_length =
        ap (λ (places : List (Option SetByte)). length places) generated.code_segment.same
        ∙ places_length (map (retargeted generated.to) generated.code_bytes.fixes) 0
        (set_bytes generated.code_bytes.bytes generated.code_bytes.is_set)
        ∙ set_length generated.code_bytes.bytes generated.code_bytes.is_set

    -- it lies within the code of the program
    pub lies_within :
        (program.placement.code.start ≤ base)
        × (base + size ≤ program.placement.code.start + program.placement.code.len)
    lies_within =
        let high = lies.high in
        (lies.low, omega (arith, high, code_length))

    -- and all that was written stands
    pub all_stand : Stands of_code memory written.code.items base (base + size)
    all_stand =
        let within = lies_within in
        let in_memory = lies.lawful.code_in_memory in
        let start : address_of (generated.to (InSegment segments.Code)) ≡ base =
        ap address_of (generated.targets.starts segments.Code refl) in
        let same : bytes_resolved address_of object.code.places
        ≡ resolved (λ target. address_of (generated.to target)) generated.code_bytes =
        ap (bytes_resolved address_of) generated.code_segment.same
        ∙ resolved_retargeted generated.to address_of generated.code_bytes in
        subst (λ (at : ℕ). Stands of_code memory written.code.items at (at + size)) start
        (generated.code_segment.assembles.stands (λ target. address_of (generated.to target)) memory
        (omega (arith, within.1, in_memory, start))
        (subst (λ (at : ℕ).
        SetBytesStand memory at (resolved (λ target. address_of (generated.to target)) generated.code_bytes))
        (sym start) (subst (SetBytesStand memory base) same lies.stands)))
