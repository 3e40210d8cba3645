-- A module of a program lies where its object module does.
use Rattle.program_laws.proofs.Prelude.{◌≡◌, ℕ, ◌+◌, ◌<◌, List, refl, ap, sym, subst, ◌∙◌, arith, slice_get, Some, MEMORY_SIZE, Target, InSegment, External, ObjectModule, TypedModule, wrap, Layout, Static, Place, TreeProcedure, home_at, nodes_of, HasFrame, placement_lies, place_at, ModuleCode, ModuleLies, InProgram, callee_in, Program, TreeModule, externals_of, name_at, place_of_label, Entries, around_in, in_module, AreEntered, LiesInMemory, module_layout, IsSoundlyMade}
use Rattle.object_modules.specs.declared.segment.Segment.TheVariants as segments
use Rattle.treecode.specs.declared.place.Place.TheVariants as places
use Rattle.frames.proofs.Frames.{has_frame}
use Rattle.treecode.specs.declared.procedure.ProcedureKind.TheVariants as kinds
use Rattle.program_laws.proofs.Labels.{external_kind, has_heading, here_if_own, label_lies}
use Rattle.program_laws.proofs.ModuleStands.{IsOwn, code_of, parts_stand}
use Rattle.program_laws.proofs.Shared.{external_named}
use Rattle.program_laws.proofs.Resolving.{lists_counted, resolves}
use Rattle.program_laws.proofs.VariablesApart.{variables_apart}

module _
    (program : Program) (number : ℕ) (typed : TypedModule) (object : ObjectModule)
    (address_of : Target → ℕ) (address_of_name : (name : List ℕ) → ℕ) (memory : List ℕ)
    (sound : IsSoundlyMade typed object)
    (lies : LiesInMemory program number typed object address_of address_of_name memory)
    (entries : Entries)
    (entered :
    AreEntered program number typed (place_of_label sound.made.generated.code sound.made.generated.code_bytes)
    address_of
    address_of_name entries)
  where
    abbrev tree : TreeModule
    tree = sound.made.tree

    abbrev own : Layout
    own =
        module_layout address_of address_of_name sound.made.generated.to sound.made.generated.code
        sound.made.tree.externals.items

    abbrev code : ModuleCode
    code = code_of program number typed object address_of address_of_name memory sound lies

    -- static places are addresses
    place_small : (place : Place) (index : ℕ) → home_at tree.homes.items index ≡ Static place
        → place_at own place < MEMORY_SIZE
    place_small (places.Number value) index static = sound.words.homes index value static
    place_small (places.Code offset) index static = omega arith
    place_small (places.Data offset) index static = omega arith
    place_small (places.External offset name) index static = omega arith

    stack_lies : wrap (own.address_of (InSegment segments.Stack))
        ≡ wrap (program.placement.stack.start + program.placement.stack.len)
    stack_lies =
        ap (λ target. wrap (address_of target)) (sound.made.generated.targets.starts segments.Stack refl)
        ∙ lies.stack_end

    framed : (index : ℕ) (procedure : TreeProcedure)
        → slice_get tree.procedures.items index ≡ Some procedure → HasFrame procedure
    framed index procedure there =
        let heading = has_heading typed object sound address_of address_of_name index procedure there in
        has_frame typed (nodes_of tree) sound.made.storage index procedure heading.heading
        sound.facts.parameters sound.facts.frames heading.found
        (sound.made.lowered.procedures index procedure heading.heading there heading.found)

    -- procedures are entered at their labels
    own_entry : (index : ℕ) (procedure : TreeProcedure)
        → slice_get tree.procedures.items index ≡ Some procedure
        → IsOwn procedure.kind
        → wrap (entries (in_module number index)) ≡ wrap (own.place_of index)
    own_entry index procedure there is_own =
        let heading = has_heading typed object sound address_of address_of_name index procedure there in
        entered.own index heading.heading heading.found
        (here_if_own typed index heading.heading (subst IsOwn heading.kind is_own))
        ∙ ap wrap (label_lies typed object sound address_of address_of_name index procedure there is_own)

    -- and those that EXTERNAL ones stand for where their names lie
    external_entry : (index name : ℕ) (procedure : TreeProcedure) (at : InProgram)
        → slice_get tree.procedures.items index ≡ Some procedure
        → procedure.kind ≡ kinds.External name
        → callee_in (around_in program number 0) index ≡ Some at
        → wrap (entries at) ≡ wrap (own.address_of (External name))
    external_entry index name procedure at there kind callee =
        let heading = has_heading typed object sound address_of address_of_name index procedure there in
        let external = external_kind typed index heading.heading name (sym heading.kind ∙ kind) in
        let named : name_at tree.externals.items name ≡ heading.heading.name =
        ap (λ names. name_at names name) sound.made.lowered.externals
        ∙ (ap (name_at (externals_of typed)) (sym external.name_is)
        ∙ external_named typed index heading.heading sound.made.laid.globals heading.found
        external.visibility) in
        entered.externals index heading.heading at heading.found external.visibility callee
        ∙ ap (λ (given : List ℕ). wrap (address_of_name given)) (sym named)

    pub module_lies : ModuleLies code entries
    module_lies =
        let parts = parts_stand program number typed object address_of address_of_name memory sound lies in
        record {
          is_module = lies.is_module;
          joined = lies.types.joined;
          globals = lies.types.globals;
          types = sound.facts.types;
          jumps = sound.facts.jumps;
          frames = sound.facts.frames;
          parameters = sound.facts.parameters;
          reentrant = sound.facts.reentrant;
          sized = sound.facts.sized;
          bases = sound.facts.bases;
          lists = lists_counted typed sound.made.storage sound.made.laid.stored;
          lowered = sound.made.lowered;
          numbers = sound.words.numbers;
          script = lies.types.script;
          placed = placement_lies program lies.lawful;
          apart = variables_apart code sound.made.laid sound.made.lowered.homes;
          resolves =
              λ room. resolves program number typed object address_of address_of_name memory sound lies room;
          words = λ index place static. place_small place index static;
          stack_end = stack_lies;
          routines = parts.routines;
          procedures = λ index procedure there not_outside.
              parts.procedures index procedure there (framed index procedure there) not_outside;
          own = own_entry;
          externals = external_entry;
        }
