-- The procedures of a module that are not REENTRANT begin as they are meant to.
use Rattle.procedure_laws.proofs.Prelude.{◌≡◌, ◌≢◌, ℕ, zero, suc, ◌+◌, ◌-◌, ◌*◌, ◌≤◌, Bool, true, false, if◌then◌else◌, List, [], ◌∷◌, length, map, replicate, slice_get, slice_index_or, Some, None, refl, sym, ap, subst, ◌∙◌, arith, eqb-true, AllPairs, ScalarType, Visibility, charge_of, AreParameters, HasParameters, home_of_parameters, size_of_object, BasedOn, Elsewhere, Home, InConstants, InData, InFrame, Nowhere, Placed, TypedModule, TypedObject, TypedProcedure, frame_bytes, frame_of, is_frame_of, parameters_set, Gave, SourceState, State, Parameter, ProcedureKind, TreeProcedure, kind_of, IsProcedure, nodes_of, has_parameters, Does, at_place, keeps_all, no_facts_hold, no_facts, Body, Planned, holds, AreCarriedOut, entry_steps, entry_steps_by, static_entry_steps, ArgumentsLie, bytes_pushed, BodyContext, Entries, IsOfCall, ModuleCode, loaded_by, ModuleLies, at_start, surroundings_in, StaticBegins, static_body, HasBegun}
use Rattle.typed_trees.specs.declared.parts.Visibility.TheVariants as visibilities
use Rattle.treecode.specs.declared.procedure.ProcedureKind.TheVariants as kinds
use Rattle.procedure_laws.proofs.ProcedureCalls.{as_many_values, charge_is}
use Rattle.procedure_laws.proofs.Puts.{AreVariables, EachApart, Slot, put_down, set_all, set_does}
use Rattle.procedure_laws.proofs.Static.StaticBegins.{parameter_of}
use Rattle.procedure_laws.proofs.Static.StaticEntries.{finish, some_does}
use Rattle.procedure_laws.proofs.Static.StaticSlots.{HasSlots, slot_fits, slots_apart, slots_meant, slots_of}
use Rattle.procedure_laws.proofs.Static.StaticStages.{Underway}

-- a static procedure is not REENTRANT, and not EXTERNAL
record IsStatic (found : TypedProcedure) : Type 0 where
  reentrant : found.is_reentrant ≡ false
  here : (visibility : Visibility) → found.visibility ≡ visibility → visibility ≢ visibilities.External

is_static : (typed : TypedModule) (index : ℕ) (found : TypedProcedure)
    → kind_of typed index found ≡ kinds.Static → IsStatic found
is_static typed index found same = by found.visibility found.is_reentrant refl refl
  where
    kind_by : (visibility : Visibility) (is_reentrant : Bool)
        → found.visibility ≡ visibility → found.is_reentrant ≡ is_reentrant
        → kind_of typed index (record found { visibility = visibility; is_reentrant = is_reentrant })
        ≡ kinds.Static
    kind_by visibility is_reentrant one other =
        sym
        (ap (λ (visibility : Visibility). kind_of typed index (record found { visibility = visibility })) one
        ∙ ap (λ (test : Bool). kind_of typed index
        (record found { visibility = visibility; is_reentrant = test })) other)
        ∙ same

    by : (visibility : Visibility) (is_reentrant : Bool)
        → found.visibility ≡ visibility → found.is_reentrant ≡ is_reentrant → IsStatic found
    by visibilities.External is_reentrant one other =
        let bad = kind_by visibilities.External is_reentrant one other in absurd cc
    by visibilities.Public true one other = let bad = kind_by visibilities.Public true one other in absurd cc
    by visibilities.Private true one other =
        let bad = kind_by visibilities.Private true one other in absurd cc
    by visibilities.Public false one other = record {
      reentrant = other;
      here = λ visibility is outside.
          let bad : visibilities.Public ≡ visibilities.External = sym one ∙ is ∙ outside in cc;
    }
    by visibilities.Private false one other = record {
      reentrant = other;
      here = λ visibility is outside.
          let bad : visibilities.Private ≡ visibilities.External = sym one ∙ is ∙ outside in cc;
    }

data_parameters : (index : ℕ) (is_reentrant : Bool) (visibility : Visibility)
    → is_reentrant ≡ false → visibility ≢ visibilities.External
    → home_of_parameters index is_reentrant visibility ≡ InData []
data_parameters index true visibility same here = let bad : ⊥ = cc in absurd bad
data_parameters index false visibilities.External same here = absurd (here refl)
data_parameters index false visibilities.Public same here = refl
data_parameters index false visibilities.Private same here = refl

-- the frame of such a procedure has no bytes
in_its_frame : (index : ℕ) (home : Home) → is_frame_of index home ≡ true → home ≡ InFrame index
in_its_frame index (InFrame other) is = ap (λ (one : ℕ). InFrame one) (sym (eqb-true index other is))
in_its_frame index (InData values) is = let bad : ⊥ = cc in absurd bad
in_its_frame index (InConstants values) is = let bad : ⊥ = cc in absurd bad
in_its_frame index (Placed address) is = let bad : ⊥ = cc in absurd bad
in_its_frame index (BasedOn base) is = let bad : ⊥ = cc in absurd bad
in_its_frame index Elsewhere is = let bad : ⊥ = cc in absurd bad
in_its_frame index Nowhere is = let bad : ⊥ = cc in absurd bad

no_bytes : (index : ℕ) (objects : List TypedObject) (object : ℕ)
    → ((number : ℕ) (found : TypedObject) → slice_get objects number ≡ Some found
    → found.home ≢ InFrame index)
    → length {A = ℕ}
    (slice_index_or
    (map
    (λ (object : TypedObject). if is_frame_of index object.home then replicate
    (size_of_object object) 0 else [])
    objects) object []) ≡ 0
no_bytes index [] object none = refl
no_bytes index (first ∷ others) zero none = by (is_frame_of index first.home) refl
  where
    by : (test : Bool) → is_frame_of index first.home ≡ test
        → length {A = ℕ} (if test then replicate (size_of_object first) 0 else []) ≡ 0
    by false is = refl
    by true is = absurd (none 0 first refl (in_its_frame index first.home is))
no_bytes index (first ∷ others) (suc object) none =
    no_bytes index others object (λ number found there. none (suc number) found there)

steps_are : (body : Body) (parameters : List Parameter) (first : ℕ)
    → body.procedure.now.kind ≡ kinds.Static
    → body.procedure.now.parameters.items ≡ parameters
    → entry_steps body first ≡ static_entry_steps parameters
unfolding entry_steps_by
steps_are body parameters first static same =
    ap (λ (kind : ProcedureKind). entry_steps_by kind body first) static
    ∙ ap (λ (parameters : List Parameter). static_entry_steps parameters) same

none_steps : (slots : List Slot) → length slots ≡ 0
    → static_entry_steps (map parameter_of slots) ≡ holds no_facts ∷ []
unfolding static_entry_steps
none_steps [] same = refl
none_steps (slot ∷ slots) same = absurd (omega (arith, same))

nothing_put : (slots : List Slot) (values memory : List ℕ) → length slots ≡ 0
    → memory ≡ put_down (length slots) slots values memory
nothing_put [] values memory same = refl
nothing_put (slot ∷ slots) values memory same = absurd (omega (arith, same))

pub static_begins : (code : ModuleCode) (entries : Entries) (bound : ℕ) → ModuleLies code entries
    → StaticBegins code bound
static_begins code entries bound lies index number room from to top first procedure found body list begun is
    static fits sound written there back values s r memory enters =
    subst (λ (scalars : List ScalarType).
    Does (loaded_by code) s.budget 0 (at_place from r memory s.events)
    (parameters_set (surroundings_in code (room - charge_of found)) scalars found.parameters values
    (record s { frame = frame_of index code.typed })) Good) has.scalars_are
    (subst (λ (parameters : List ℕ).
    Does (loaded_by code) s.budget 0 (at_place from r memory s.events)
    (parameters_set (surroundings_in code (room - charge_of found))
    (map (λ (slot : Slot). slot.scalar) has.slots) parameters values
    (record s { frame = frame_of index code.typed })) Good) has.objects_are
    (set_does (surroundings_in code (room - charge_of found)) has.slots values
    (record s { frame = frame_of index code.typed })
    (slots_meant code entries (room - charge_of found) has.slots lies has.fit) many
    (λ variables. entry variables (length has.slots) refl)))
  where
    lowered : IsProcedure code.typed (nodes_of code.tree.now) code.storage index procedure found
    lowered = lies.lowered.procedures index procedure found is.there is.is

    is_one : IsStatic found
    is_one = is_static code.typed index found (sym lowered.kind ∙ static)

    parameters : HasParameters code.typed index found
    parameters = has_parameters code.typed index found lies.parameters is.is

    in_data : AreParameters code.typed (InData []) found.parameter_types found.parameters
    in_data =
        subst (λ (home : Home). AreParameters code.typed home found.parameter_types found.parameters)
        (data_parameters index found.is_reentrant found.visibility is_one.reentrant
        (is_one.here found.visibility refl)) parameters.objects

    has : HasSlots code found.parameter_types found.parameters
    has = slots_of code entries found.parameter_types found.parameters lies in_data

    types_long : length has.slots ≡ length found.parameter_types
    types_long = mapped_long has.slots ∙ ap (λ (types : List ScalarType). length types) has.scalars_are
      where
        mapped_long : (slots : List Slot) → length slots ≡ length (map (λ (slot : Slot). slot.scalar) slots)
        mapped_long [] = refl
        mapped_long (slot ∷ slots) = ap suc (mapped_long slots)

    many : length values ≡ length has.slots
    many =
        let values_long = as_many_values found.parameter_types values (top + 2) r memory enters.arguments in
        omega (arith, values_long, types_long)

    at : BodyContext
    at = static_body code index found body bound number room top

    Good : Unit {0} → SourceState → State → Type 0
    Good given t end =
        HasBegun (static_body code index found body bound number room top) to
        (top + 2 + bytes_pushed values) back
        begun.facts memory t end

    none : (object : ℕ) → length (frame_bytes (frame_of index code.typed) object) ≡ 0
    none object =
        no_bytes index code.typed.objects object
        (λ its object_found its_there home.
        let reentrant = lies.reentrant its index object_found found its_there is.is home in
        let bad : true ≡ false = sym reentrant ∙ is_one.reentrant in cc)

    apart : EachApart has.slots
    apart =
        slots_apart code entries has.slots lies has.fit
        (subst (λ (parameters : List ℕ). AllPairs (λ (one other : ℕ). one ≢ other) parameters)
        (sym has.objects_are) parameters.differ)

    its_parameters : body.procedure.now.parameters.items ≡ map parameter_of has.slots
    its_parameters =
        ap (λ (one : TreeProcedure). one.parameters.items) is.is_procedure ∙ lowered.has_body.parameters
        ∙ has.parameters_are

    its_written : AreCarriedOut body code.called at_start None
        (static_entry_steps (map parameter_of has.slots)) list begun
    its_written =
        subst (λ (steps : List Planned). AreCarriedOut body code.called at_start None steps list begun)
        (steps_are body (map parameter_of has.slots) first
        (ap (λ (one : TreeProcedure). one.kind) is.is_procedure ∙ static) its_parameters) written

    low : top + 2 - room ≤ top
    low =
        let enough = enters.low in
        let charge = charge_is found in
        omega (arith, enough, charge, fits)

    high : top + 2 + 2 * (length has.slots - 1)
        ≤ code.program.placement.stack.start + code.program.placement.stack.len
    high = let most = enters.high in omega (arith, most, many)

    on : (above : ℕ) → Underway (static_body code index found body bound number room top) above
        memory memory no_facts top
        s.memory r memory
    on above = record {
      pointer = enters.pointer;
      registers = enters.registers;
      shares = enters.shares;
      known = no_facts_hold;
      kept = keeps_all (IsOfCall code.program (top + 2 - room) above) memory;
      stack = λ address one other. refl;
    }

    entry : AreVariables code.program has.slots
        → (count : ℕ) → length has.slots ≡ count
        → Does (loaded_by code) s.budget 0 (at_place from r memory s.events)
        (Gave tt (record s { frame = frame_of index code.typed; memory = set_all has.slots values s.memory }))
        Good
    entry variables zero none_there =
        subst (λ (above : ℕ).
        Does (loaded_by code) s.budget 0 (at_place from r memory s.events)
        (Gave tt (record s { frame = frame_of index code.typed; memory = set_all has.slots values s.memory }))
        (λ given t end.
        HasBegun (static_body code index found body bound number room top) to above back
        begun.facts memory t end))
        (omega (arith, many))
        (finish (static_body code index found body bound number room top) sound.sound (λ object. refl) memory
        (frame_of index code.typed) none has.slots values s.memory
        (λ its slot its_there. (
          (slot_fits code has.slots its slot has.fit its_there).at_is,
          (slot_fits code has.slots its slot has.fit its_there).small,
        ))
        apart many enters.shares.size variables top back to begun
        (record s { frame = frame_of index code.typed; memory = set_all has.slots values s.memory }) low high
        (omega (arith, types_long)) refl refl refl enters.return_lies no_facts at_start list
        from top memory r memory
        (subst (λ (steps : List Planned). AreCarriedOut body code.called at_start None steps list begun)
        (none_steps has.slots none_there) its_written)
        there
        (subst (λ (source : List ℕ).
        Underway (static_body code index found body bound number room top)
        (top + 2 + 2 * (length has.slots - 1)) memory
        memory no_facts top source r memory) (nothing_put has.slots values s.memory none_there)
        (on (top + 2 + 2 * (length has.slots - 1))))
        (omega (arith, none_there)) enters.return_lies no_facts_hold)
    entry variables (suc others) count =
        subst (λ (above : ℕ).
        Does (loaded_by code) s.budget 0 (at_place from r memory s.events)
        (Gave tt (record s { frame = frame_of index code.typed; memory = set_all has.slots values s.memory }))
        (λ given t end.
        HasBegun (static_body code index found body bound number room top) to above back
        begun.facts memory t end))
        (omega (arith, many))
        (some_does (static_body code index found body bound number room top) sound.sound
        (λ object. refl) memory
        (frame_of index code.typed) none has.slots values s.memory
        (λ its slot its_there. (
          (slot_fits code has.slots its slot has.fit its_there).at_is,
          (slot_fits code has.slots its slot has.fit its_there).small,
        ))
        apart many enters.shares.size variables top back to begun
        (record s { frame = frame_of index code.typed; memory = set_all has.slots values s.memory }) low high
        (omega (arith, types_long)) refl refl refl enters.return_lies others list from r count
        (subst (λ (scalars : List ScalarType). ArgumentsLie scalars values (top + 2) r memory)
        (sym has.scalars_are)
        enters.arguments)
        its_written there (on (top + 2 + 2 * (length has.slots - 1))))
