-- A module's own procedures do what calls of them mean, where calls of all procedures do so in runs of less.
use Rattle.procedure_laws.proofs.Prelude.{◌≡◌, ◌≢◌, ℕ, zero, suc, ◌+◌, ◌-◌, ◌*◌, ◌<◌, ◌≤◌, ◌⊎◌, inl, inr, Bool, true, false, List, [], ◌∷◌, ◌++◌, length, slice_get, Some, refl, sym, ap, subst, ◌∙◌, arith, Bor, ScalarType, Visibility, charge_of, height_of_list, AreParameters, HasParameters, home_of_parameters, BodyIsSound, Home, TypedModule, TypedProcedure, TypesHoldInList, TypesHoldInProcedure, WithinProcedure, done_list, entered, later_by, SourceState, Registers, State, running, TreeModule, ProcedureKind, TreeProcedure, kind_of, IsProcedure, nodes_of, FramePlan, return_distance, return_of, parameter_count, has_parameters, numbered_at, IsThere, LiesWell, Does, at_place, AreThere, both_there, place_at, ArgumentsLie, FrameIsPlanned, bytes_pushed, BodyContext, IsSoundBody, CallsAreKnown, ComesBack, Entries, EntryDoes, IsEntered, Shape, activation_in, body_in, context_in, frame_shape, static_shape, ModuleCode, loaded_by, ModuleLies, ProcedureStands, bare, surroundings_in, Anywhere, with_tree, CallsOfModuleFit, IsBodyOf, ListsAreDone, ReentrantBegins, ReentrantReturns, StaticBegins, StaticReturns, frame_level, static_level, BeginDoes, ReturnDoes, holds_for_item}
use Rattle.typed_trees.specs.declared.parts.Visibility.TheVariants as visibilities
use Rattle.treecode.specs.declared.procedure.ProcedureKind.TheVariants as kinds
use Rattle.procedure_laws.proofs.Trees.{lies_anywhere}
use Rattle.procedure_laws.proofs.Callees.{tree_of}
use Rattle.treecode_laws.proofs.Labels.{procedure_labels_differ}
use Rattle.procedure_laws.proofs.CallsInParts.{entered_does}
use Rattle.procedure_laws.proofs.Soundness.{body_sound, context_sound, frame_lies, frame_planned, static_lies, static_planned, there_in}
use Rattle.procedure_laws.proofs.Ways.{IsLeftBy, body_left}

-- as many values as types
pub as_many_values : (types : List ScalarType) (values : List ℕ) (top : ℕ) (r : Registers) (memory : List ℕ)
    → ArgumentsLie types values top r memory → length values ≡ length types
as_many_values [] [] top r memory lie = refl
as_many_values [] (value ∷ values) top r memory lie = absurd lie
as_many_values (scalar ∷ []) [] top r memory lie = absurd lie
as_many_values (scalar ∷ []) (value ∷ []) top r memory lie = refl
as_many_values (scalar ∷ []) (value ∷ next ∷ values) top r memory lie = absurd lie
as_many_values (scalar ∷ next ∷ scalars) [] top r memory lie = absurd lie
as_many_values (scalar ∷ next ∷ scalars) (value ∷ values) top r memory lie =
    ap suc (as_many_values (next ∷ scalars) values top r memory lie.1)

-- as many parameters as types
pub as_many_parameters : (typed : TypedModule) (home : Home) (scalars : List ScalarType) (parameters : List ℕ)
    → AreParameters typed home scalars parameters → length parameters ≡ length scalars
as_many_parameters typed home [] [] are = refl
as_many_parameters typed home [] (parameter ∷ parameters) are = absurd are
as_many_parameters typed home (scalar ∷ scalars) [] are = absurd are
as_many_parameters typed home (scalar ∷ scalars) (parameter ∷ parameters) are =
    ap suc (as_many_parameters typed home scalars parameters are.1)

pub charge_is : (found : TypedProcedure)
    → charge_of found
    ≡ 10 + 2 * length found.parameters + found.frame_bytes + 2 * height_of_list found.body
unfolding charge_of
charge_is found = refl

-- where the return address of a frame lies
pub return_is : (plan : FramePlan) (bytes count : ℕ)
    → plan.variable_bytes ≡ bytes → plan.parameter_count ≡ count
    → ((return_of plan).start + 2 + 2 * (count - 1) ≡ 2 + 2 * count + bytes)
    × ((return_of plan).start + 2 ≤ 2 + 2 * count + bytes)
    × ((return_of plan).start ≤ 2 + bytes)
return_is plan bytes count is counts = by_count plan.parameter_count counts
  where
    by_count : (parameters : ℕ) → parameters ≡ count
        → (return_distance plan.variable_bytes parameters + 2 + 2 * (count - 1) ≡ 2 + 2 * count + bytes)
        × (return_distance plan.variable_bytes parameters + 2 ≤ 2 + 2 * count + bytes)
        × (return_distance plan.variable_bytes parameters ≤ 2 + bytes)
    by_count zero same = (omega (arith, same, is), omega (arith, same, is), omega (arith, same, is))
    by_count (suc others) same = (omega (arith, same, is), omega (arith, same, is), omega (arith, same, is))

-- what is known of a procedure that was entered
record EntryFits (code : ModuleCode) (found : TypedProcedure) (room top : ℕ) (values : List ℕ) : Type 0 where
  many : bytes_pushed values ≡ 2 * (length found.parameter_types - 1)
  low : code.program.placement.stack.start + room ≤ top + 2
  high : top + 2 + 2 * (length found.parameter_types - 1)
      ≤ code.program.placement.stack.start + code.program.placement.stack.len
  charged : 10 + 2 * length found.parameters + found.frame_bytes + 2 * height_of_list found.body ≤ room
  types : length found.parameters ≡ length found.parameter_types

kind_here : (typed : TypedModule) (index : ℕ) (found : TypedProcedure)
    → found.visibility ≢ visibilities.External
    → ((kind_of typed index found ≡ kinds.Static) × (found.is_reentrant ≡ false))
    ⊎ (kind_of typed index found ≡ kinds.Reentrant)
kind_here typed index found here = by found.visibility found.is_reentrant refl refl
  where
    kind_by : (visibility : Visibility) (is_reentrant : Bool)
        → found.visibility ≡ visibility → found.is_reentrant ≡ is_reentrant
        → kind_of typed index found
        ≡ kind_of typed index (record found { visibility = visibility; is_reentrant = is_reentrant })
    kind_by visibility is_reentrant one other =
        ap (λ (visibility : Visibility). kind_of typed index (record found { visibility = visibility })) one
        ∙ ap (λ (test : Bool). kind_of typed index
        (record found { visibility = visibility; is_reentrant = test })) other

    by : (visibility : Visibility) (is_reentrant : Bool)
        → found.visibility ≡ visibility → found.is_reentrant ≡ is_reentrant
        → ((kind_of typed index found ≡ kinds.Static) × (found.is_reentrant ≡ false))
        ⊎ (kind_of typed index found ≡ kinds.Reentrant)
    by visibilities.External is_reentrant one other = absurd (here one)
    by visibilities.Public true one other = inr (kind_by visibilities.Public true one other)
    by visibilities.Public false one other = inl (kind_by visibilities.Public false one other, other)
    by visibilities.Private true one other = inr (kind_by visibilities.Private true one other)
    by visibilities.Private false one other = inl (kind_by visibilities.Private false one other, other)

module _ (code : ModuleCode) (entries : Entries) (bound number : ℕ) (lies : ModuleLies code entries)
    (known : CallsAreKnown code.program code.image (later_by bound) number entries)
    (bounded : suc number ≤ bound)
    (lists : ListsAreDone) (fit : CallsOfModuleFit code bound) where
  module _ (index : ℕ) (procedure : TreeProcedure) (found : TypedProcedure)
      (there : slice_get code.tree.now.procedures.items index ≡ Some procedure)
      (is : slice_get code.typed.procedures index ≡ Some found)
      (not_outside : (name : ℕ) → procedure.kind ≢ kinds.External name)
      (stands : ProcedureStands code procedure (code.layout.place_of index))
      (one_tree : stands.body.tree ≡ code.tree) where
    lowered : IsProcedure code.typed (nodes_of code.tree.now) code.storage index procedure found
    lowered = lies.lowered.procedures index procedure found there is

    sound_jumps : BodyIsSound found.body
    sound_jumps =
        holds_for_item (λ (one : TypedProcedure). BodyIsSound one.body) code.typed.procedures index found
        lies.jumps.procedures is

    types_hold : TypesHoldInList code.typed (WithinProcedure index found.result) found.body
    types_hold =
        numbered_at (TypesHoldInProcedure code.typed) code.typed.procedures index found
        lies.types.procedures is

    has : HasParameters code.typed index found
    has = has_parameters code.typed index found lies.parameters is

    is_body : IsBodyOf code index procedure found stands.body
    is_body = record {
      there = there;
      is = is;
      tree = one_tree;
      is_procedure = stands.is_procedure;
      frame = stands.frame;
    }

    -- the body of a call, wherever its activation lies
    abbrev body_at : (room : ℕ) (shape : Shape) → BodyContext
    body_at room shape =
        body_in code (WithinProcedure index found.result) stands.body found bound (suc number)
        (room - charge_of found)
        shape

    in_shape :
        (room top : ℕ) (shape : Shape)
        → LiesWell (activation_in code (room - charge_of found) shape)
        → FrameIsPlanned
        (context_in code (WithinProcedure index found.result) stands.body.frame bound (suc number)
        (room - charge_of found) shape)
        → shape.back + 2 ≤ shape.whole
        → shape.level + shape.whole ≡ top + 2 + 2 * (length found.parameter_types - 1)
        → shape.floor + (room - charge_of found) + (2 + 2 * height_of_list found.body) ≤ shape.level
        → ((middle : ℕ)
        → IsSoundBody (body_at room shape)
        → IsThere (activation_in code (room - charge_of found) shape) stands.begins
        (code.layout.place_of index) middle
        → BeginDoes (body_at room shape) index found room (code.layout.place_of index) middle
        top stands.begun.facts)
        → (IsSoundBody (body_at room shape) → ReturnDoes (body_at room shape) (shape.level + shape.whole))
        → (back : ℕ) (values : List ℕ) (s : SourceState) (r : Registers) (memory : List ℕ)
        → s.budget < suc number
        → bytes_pushed values ≡ 2 * (length found.parameter_types - 1)
        → IsEntered code.program code.image room found.parameter_types values top back s r memory
        → Does (loaded_by code) s.budget 0 (at_place (code.layout.place_of index) r memory s.events)
        (entered (later_by bound) code.typed index found values
        (surroundings_in code (room - charge_of found)) s)
        (ComesBack code.program code.image found.result shape.floor
        (top + 2 + bytes_pushed values) back s memory)
    in_shape room top shape well planned within_whole ends_above has_room begins returns back values s r
        memory below many enters =
        entered_does (body_at room shape) index found procedure.body room
        (code.layout.place_of index) first.middle
        second.middle stands.to top (length (nodes_of code.tree.now).statements)
        stands.begun.facts stands.last
        procedure.reaches_its_end stands.ends well within_whole ends_above has_room body_result
        (begins first.middle sound first_there)
        (lists (body_at room shape) stands.begun.facts procedure.body stands.statements
        stands.last first.middle
        second.middle sound stands.list_written second_there)
        lowered.has_body.body types_hold sound_jumps.stands
        (λ t.
        subst (λ (reaches : Bool).
        IsLeftBy (record { reaches = reaches; returns = true; labels = [] })
        (done_list (later_by bound) (surroundings_in code (room - charge_of found)) found.body t))
        (sym lowered.has_body.reaches_its_end)
        (body_left code.typed (WithinProcedure index found.result) (nodes_of code.tree.now) code.storage
        (place_at code.layout) (surroundings_in code (room - charge_of found))
        (lies.resolves (room - charge_of found))
        lies.lists bound found.body t sound_jumps.closed sound_jumps.stands types_hold))
        stands.end_written third_there (returns sound) back values s r memory below many enters
      where
        first : AreThere (bare code) stands.begins (stands.statements ++ stands.ends)
            (code.layout.place_of index) stands.to
        first = both_there stands.begins (stands.statements ++ stands.ends) stands.there

        second : AreThere (bare code) stands.statements stands.ends first.middle stands.to
        second = both_there stands.statements stands.ends first.second

        first_there : IsThere (activation_in code (room - charge_of found) shape) stands.begins
            (code.layout.place_of index) first.middle
        first_there = there_in code (room - charge_of found) shape first.first

        second_there : IsThere (activation_in code (room - charge_of found) shape)
            stands.statements first.middle
            second.middle
        second_there = there_in code (room - charge_of found) shape second.first

        third_there : IsThere (activation_in code (room - charge_of found) shape) stands.ends
            second.middle stands.to
        third_there = there_in code (room - charge_of found) shape second.second

        body_result : stands.body.procedure.now.result ≡ found.result
        body_result = ap (λ (one : TreeProcedure). one.result) stands.is_procedure ∙ lowered.result

        sound : IsSoundBody (body_at room shape)
        sound =
            body_sound code (WithinProcedure index found.result) stands.body found bound (suc number)
            (room - charge_of found) shape one_tree body_result bounded
            (procedure_labels_differ code.typed index found lies.jumps sound_jumps.stands is)
            (context_sound code entries (WithinProcedure index found.result) stands.body.frame bound number
            (room - charge_of found) shape lies known bounded well planned
            (fit (WithinProcedure index found.result) stands.body.frame (suc number)
            (room - charge_of found) shape))

    entry_fits : (room top back : ℕ) (values : List ℕ) (s : SourceState) (r : Registers) (memory : List ℕ)
        → charge_of found ≤ room
        → IsEntered code.program code.image room found.parameter_types values top back s r memory
        → EntryFits code found room top values
    entry_fits room top back values s r memory charge_fits enters =
        let many = as_many_values found.parameter_types values (top + 2) r memory enters.arguments in
        let high = enters.high in
        let charge = charge_is found in
        record {
          many = omega (arith, many);
          low = enters.low;
          high = omega (arith, high, many);
          charged = omega (arith, charge_fits, charge);
          types =
              as_many_parameters code.typed
              (home_of_parameters index found.is_reentrant found.visibility)
              found.parameter_types found.parameters
              has.objects;
        }

    static_does :
        StaticBegins code bound → StaticReturns code bound
        → procedure.kind ≡ kinds.Static
        → found.is_reentrant ≡ false
        → (room top back : ℕ) (values : List ℕ) (s : SourceState) (r : Registers) (memory : List ℕ)
        → s.budget < suc number
        → charge_of found ≤ room
        → IsEntered code.program code.image room found.parameter_types values top back s r memory
        → EntryFits code found room top values
        → Does (loaded_by code) s.budget 0 (at_place (code.layout.place_of index) r memory s.events)
        (entered (later_by bound) code.typed index found values
        (surroundings_in code (room - charge_of found)) s)
        (ComesBack code.program code.image found.result (top + 2 - room)
        (top + 2 + bytes_pushed values) back s memory)
    static_does begins returns kind static room top back values s r memory below charge_fits enters fits =
        in_shape room top (static_shape (top + 2 - room) (static_level found top))
        (static_lies code entries (room - charge_of found) (top + 2 - room) (static_level found top) 2 lies
        (omega (arith, low)) (omega (arith, low, charged)) (omega (arith, high)))
        (static_planned code entries index found found.result stands.body.frame bound (suc number)
        (room - charge_of found) (top + 2 - room) (static_level found top) lies is static)
        (omega arith) (omega arith) (omega (arith, low, charged, charge))
        (λ middle sound its_there.
        begins index (suc number) room (code.layout.place_of index) middle top stands.first
        procedure found stands.body
        stands.begins stands.begun is_body kind charge_fits sound stands.entry_written its_there)
        (λ sound. returns index (suc number) room top procedure found stands.body is_body
        kind charge_fits sound)
        back values s r memory below fits.many enters
      where
        low : code.program.placement.stack.start + room ≤ top + 2
        low = fits.low

        high : top + 2 + 2 * (length found.parameter_types - 1)
            ≤ code.program.placement.stack.start + code.program.placement.stack.len
        high = fits.high

        charged : 10 + 2 * length found.parameters + found.frame_bytes + 2 * height_of_list found.body ≤ room
        charged = fits.charged

        charge : charge_of found
            ≡ 10 + 2 * length found.parameters + found.frame_bytes + 2 * height_of_list found.body
        charge = charge_is found

    reentrant_does :
        ReentrantBegins code bound → ReentrantReturns code bound
        → procedure.kind ≡ kinds.Reentrant
        → (room top back : ℕ) (values : List ℕ) (s : SourceState) (r : Registers) (memory : List ℕ)
        → s.budget < suc number
        → charge_of found ≤ room
        → IsEntered code.program code.image room found.parameter_types values top back s r memory
        → EntryFits code found room top values
        → Does (loaded_by code) s.budget 0 (at_place (code.layout.place_of index) r memory s.events)
        (entered (later_by bound) code.typed index found values
        (surroundings_in code (room - charge_of found)) s)
        (ComesBack code.program code.image found.result (top + 2 - room)
        (top + 2 + bytes_pushed values) back s memory)
    reentrant_does begins returns kind room top back values s r memory below charge_fits enters fits =
        in_shape room top (frame_shape code.typed index found plan (top + 2 - room) (frame_level plan top))
        (frame_lies code entries index procedure found plan (room - charge_of found) (top + 2 - room)
        (frame_level plan top)
        lies there is (stands.frame kind) (omega (arith, low)) (omega (arith, low, charged, at_most))
        (omega (arith, high, whole, low, charged, at_most, types)))
        (frame_planned code index found found.result stands.body.frame bound (suc number)
        (room - charge_of found)
        (top + 2 - room) (frame_level plan top))
        (omega (arith, within)) (omega (arith, whole, low, charged, at_most, types))
        (omega (arith, low, charged, charge, at_most))
        (λ middle sound its_there.
        begins index (suc number) room (code.layout.place_of index) middle top stands.first
        procedure found stands.body
        stands.begins stands.begun is_body kind charge_fits sound stands.entry_written its_there)
        (λ sound. returns index (suc number) room top procedure found stands.body is_body
        kind charge_fits sound)
        back values s r memory below fits.many enters
      where
        plan : FramePlan
        plan = stands.body.frame.now

        low : code.program.placement.stack.start + room ≤ top + 2
        low = fits.low

        high : top + 2 + 2 * (length found.parameter_types - 1)
            ≤ code.program.placement.stack.start + code.program.placement.stack.len
        high = fits.high

        charged : 10 + 2 * length found.parameters + found.frame_bytes + 2 * height_of_list found.body ≤ room
        charged = fits.charged

        types : length found.parameters ≡ length found.parameter_types
        types = fits.types

        charge : charge_of found
            ≡ 10 + 2 * length found.parameters + found.frame_bytes + 2 * height_of_list found.body
        charge = charge_is found

        of_plan : ((return_of plan).start + 2 + 2 * (length found.parameters - 1)
            ≡ 2 + 2 * length found.parameters + found.frame_bytes)
            × ((return_of plan).start + 2 ≤ 2 + 2 * length found.parameters + found.frame_bytes)
            × ((return_of plan).start ≤ 2 + found.frame_bytes)
        of_plan =
            return_is plan found.frame_bytes (length found.parameters)
            ((stands.frame kind).variable_bytes ∙ lowered.frame_bytes)
            ((stands.frame kind).parameter_count
            ∙ parameter_count code.typed index found (nodes_of code.tree.now).homes
            procedure.parameters.items has
            lowered.has_body.parameters)

        whole : (return_of plan).start + 2 + 2 * (length found.parameters - 1)
            ≡ 2 + 2 * length found.parameters + found.frame_bytes
        whole = of_plan.0

        within : (return_of plan).start + 2 ≤ 2 + 2 * length found.parameters + found.frame_bytes
        within = of_plan.1

        at_most : (return_of plan).start ≤ 2 + found.frame_bytes
        at_most = of_plan.2

    -- a call of it, from its entry on
    own_does :
        StaticBegins code bound → StaticReturns code bound → ReentrantBegins code bound
        → ReentrantReturns code bound
        → ((procedure.kind ≡ kinds.Static) × (found.is_reentrant ≡ false))
        ⊎ (procedure.kind ≡ kinds.Reentrant)
        → EntryDoes code.program code.image (later_by bound) (suc number)
        (record { number_of_module = code.number; number = index }) code.typed found
        (entries (record { number_of_module = code.number; number = index }))
    own_does begins returns frame_begins frame_returns kind room top back values s r memory below
        charge_fits enters =
        subst (λ (state : State).
        Does (loaded_by code) s.budget 0 state
        (entered (later_by bound) code.typed index found values
        (surroundings_in code (room - charge_of found)) s)
        (ComesBack code.program code.image found.result (top + 2 - room)
        (top + 2 + bytes_pushed values) back s memory))
        (ap (λ (place : ℕ). running (record r { pc = place }) memory s.events)
        (sym (lies.own index procedure there not_outside)))
        (by_kind kind)
      where
        by_kind : ((procedure.kind ≡ kinds.Static) × (found.is_reentrant ≡ false))
            ⊎ (procedure.kind ≡ kinds.Reentrant)
            → Does (loaded_by code) s.budget 0 (at_place (code.layout.place_of index) r memory s.events)
            (entered (later_by bound) code.typed index found values
            (surroundings_in code (room - charge_of found)) s)
            (ComesBack code.program code.image found.result (top + 2 - room)
            (top + 2 + bytes_pushed values) back s memory)
        by_kind (inl static) =
            static_does begins returns static.0 static.1 room top back values s r memory
            below charge_fits enters
            (entry_fits room top back values s r memory charge_fits enters)
        by_kind (inr reentrant) =
            reentrant_does frame_begins frame_returns reentrant room top back values s r memory
            below charge_fits enters
            (entry_fits room top back values s r memory charge_fits enters)

-- The step for a module: its own procedures do what calls of them mean, in runs of one more.
pub procedures_do :
    (code : ModuleCode) (entries : Entries) (bound number : ℕ)
    → ModuleLies code entries
    → CallsAreKnown code.program code.image (later_by bound) number entries
    → suc number ≤ bound
    → ListsAreDone
    → CallsOfModuleFit code bound
    → Anywhere (λ one. StaticBegins one bound) code
    → Anywhere (λ one. StaticReturns one bound) code
    → Anywhere (λ one. ReentrantBegins one bound) code
    → Anywhere (λ one. ReentrantReturns one bound) code
    → (index : ℕ) (found : TypedProcedure)
    → slice_get code.typed.procedures index ≡ Some found
    → found.visibility ≢ visibilities.External
    → EntryDoes code.program code.image (later_by bound) (suc number)
    (record { number_of_module = code.number; number = index }) code.typed found
    (entries (record { number_of_module = code.number; number = index }))
procedures_do code entries bound number lies known bounded lists fit begins returns frame_begins frame_returns
    index found is here =
    let tree = tree_of code entries index found lies is in
    let kind = kind_here code.typed index found here in
    let own : (name : ℕ) → tree.procedure.kind ≢ kinds.External name =
    λ name outside. by_sum kind (λ one. no_static name (sym one.0 ∙ sym tree.kind ∙ outside))
    (λ other. no_reentrant name (sym other ∙ sym tree.kind ∙ outside)) in
    let stands : ProcedureStands code tree.procedure (code.layout.place_of index) =
    lies.procedures index tree.procedure tree.there own in
    let its : Bor TreeModule = stands.body.tree in
    own_does (with_tree code its) entries bound number (lies_anywhere code entries its stands.tree lies)
    known bounded lists fit
    index tree.procedure found
    (subst (λ (one : TreeModule). slice_get one.procedures.items index ≡ Some tree.procedure)
    (sym stands.tree) tree.there) is own
    (strong stands)
    refl
    (begins its stands.tree) (returns its stands.tree) (frame_begins its stands.tree)
    (frame_returns its stands.tree)
    (of_tree tree.procedure.kind tree.kind kind)
  where
    no_static : (name : ℕ) → kinds.Static ≡ kinds.External name → ⊥
    no_static name same = cc

    no_reentrant : (name : ℕ) → kinds.Reentrant ≡ kinds.External name → ⊥
    no_reentrant name same = cc

    by_sum : {A B : Type 0} → A ⊎ B → (A → ⊥) → (B → ⊥) → ⊥
    by_sum (inl one) first second = first one
    by_sum (inr other) first second = second other

    of_tree : (kind : ProcedureKind) → kind ≡ kind_of code.typed index found
        → ((kind_of code.typed index found ≡ kinds.Static) × (found.is_reentrant ≡ false))
        ⊎ (kind_of code.typed index found ≡ kinds.Reentrant)
        → ((kind ≡ kinds.Static) × (found.is_reentrant ≡ false)) ⊎ (kind ≡ kinds.Reentrant)
    of_tree kind same (inl static) = inl (same ∙ static.0, static.1)
    of_tree kind same (inr reentrant) = inr (same ∙ reentrant)

    strong :
        {procedure : TreeProcedure} (stands : ProcedureStands code procedure (code.layout.place_of index))
        → ProcedureStands (with_tree code stands.body.tree) procedure (code.layout.place_of index)
    strong stands = record {
      body = stands.body;
      tree = refl;
      is_procedure = stands.is_procedure;
      frame = stands.frame;
      first = stands.first;
      begins = stands.begins;
      begun = stands.begun;
      entry_written = stands.entry_written;
      statements = stands.statements;
      last = stands.last;
      list_written = stands.list_written;
      ends = stands.ends;
      end_written = stands.end_written;
      to = stands.to;
      there = stands.there;
    }
