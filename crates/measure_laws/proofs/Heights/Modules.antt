-- The code of a module pushes at most what heights and charges allow.
use Rattle.measure_laws.proofs.Prelude.{◌≡◌, ℕ, suc, ◌+◌, ◌-◌, ◌*◌, ◌<◌, ◌≤◌, ◌⊎◌, inl, inr, get_or, Bool, true, false, List, [], ◌∷◌, ◌++◌, length, Option, Some, None, slice_get, refl, sym, ap, subst, ◌∙◌, arith, slice_get_cases, slice_get_within, option_map_or, ScalarType, FRAME_LIMIT, charge_of, count_of_arguments, height_of, height_of_arguments, height_of_list, height_of_reference, height_of_statement, height_of_target, AreParameters, FramesFit, ParametersFit, home_of_parameters, TypedModule, TypedProcedure, IsWellTyped, TypesHoldInList, TypesHoldInProcedure, Within, WithinMain, WithinProcedure, Storage, Item, Range, TreeModule, ProcedureKind, TreeProcedure, StatementNumber, HasBody, IsLowered, IsProcedure, labels_numbered_in_list, nodes_of, has_frame, parameter_count, frame_fits, has_parameters, numbered_at, Facts, Part, Task, Site, IsWritten, Body, Here, IsCarriedOut, IsListCarriedOut, IsEndCode, IsFrameOf, FindsRoom, NothingThere, PushesAtMost, taken_by, Source, BodyGround, IsList, TypedList}
use Rattle.typed_trees.specs.TypedTrees.{Home}
use Rattle.treecode.specs.declared.procedure.ProcedureKind.TheVariants as kinds
use Rattle.frames.specs.internal.Calls.{call_bytes}
use Rattle.steps8080.specs.declared.step.Task.TheVariants as tasks
use Rattle.measure_laws.specs.internal.Charges.{ListPushes, PushesWithinCharges, Setting, StatementPushes, TaskPushes}
use Rattle.measure_laws.proofs.{Heights.Rooms.{room_joined}, Bounds.Returns.{end_fits}, Bounds.Statements.{statement_fits, whole_list_fits}, Footprints.Trees.{aim_holds, gives, needs}, Footprints.Parts.{part_written}}
use Rattle.measure_laws.specs.internal.Footprints.{TaskIsOf, anywhere}

-- there are as many parameter types as parameters
types_many :
    (typed : TypedModule) (home : Home) (scalars : List ScalarType) (parameters : List ℕ)
    → AreParameters typed home scalars parameters
    → length scalars ≡ length parameters
types_many typed home [] [] are = refl
types_many typed home [] (parameter ∷ parameters) are = absurd are
types_many typed home (scalar ∷ scalars) [] are = absurd are
types_many typed home (scalar ∷ scalars) (parameter ∷ parameters) are =
    ap suc (types_many typed home scalars parameters are.1)

-- a procedure takes a word for each of its parameters but the last
pub takes_words :
    (typed : TypedModule) (storage : Storage) (tree : TreeModule)
    → ParametersFit typed
    → IsLowered typed storage tree
    → (number : ℕ) (heading : TypedProcedure)
    → slice_get typed.procedures number ≡ Some heading
    → taken_by tree number ≡ 2 * (length heading.parameter_types - 1)
takes_words typed storage tree fit lowered number heading stands =
    by (slice_get_cases tree.procedures.items number).1
    (subst (λ count. number < count) (sym lowered.procedure_count)
    (slice_get_within typed.procedures number heading stands))
  where
    counted : (found : TreeProcedure) → slice_get tree.procedures.items number ≡ Some found
        → length found.parameters.items ≡ length heading.parameter_types
    counted found there =
        let has = has_parameters typed number heading fit stands in
        parameter_count typed number heading (nodes_of tree).homes found.parameters.items has
        (lowered.procedures number found heading there stands).has_body.parameters
        ∙ sym
        (types_many typed (home_of_parameters number heading.is_reentrant heading.visibility)
        heading.parameter_types heading.parameters has.objects)

    by : ((x : TreeProcedure) × (number < length tree.procedures.items)
        × (slice_get tree.procedures.items number ≡ Some x)
        × (get_or tree.procedures.items number x ≡ x))
        ⊎ ((length tree.procedures.items ≤ number) × (slice_get tree.procedures.items number ≡ None))
        → number < length tree.procedures.items
        → taken_by tree number ≡ 2 * (length heading.parameter_types - 1)
    by (inl found) less =
        ap (λ (entry : Option TreeProcedure).
        option_map_or (λ (one : TreeProcedure). 2 * (length one.parameters.items - 1)) entry 0) found.2
        ∙ ap (λ n. 2 * (n - 1)) (counted found.0 found.2)
    by (inr past) less = let most = past.0 in absurd (omega (arith, less, most))

abbrev pub source_of :
    (typed : TypedModule) (storage : Storage) (tree : TreeModule)
    → ParametersFit typed → IsLowered typed storage tree → Within → Source tree
source_of typed storage tree fit lowered within = record {
  typed = typed;
  storage = storage;
  within = within;
  takes = takes_words typed storage tree fit lowered;
}

abbrev setting_of : {tree : TreeModule} → Source tree → Setting
setting_of source = record { typed = source.typed; storage = source.storage; within = source.within }

task_pushes :
    (site : Site) (source : Source site.tree.now) (task : Task) (list : List Item)
    → ((free : ℕ) → TaskIsOf site.tree.now source free anywhere free task
    → PushesAtMost site.tree.now free list)
    → TaskPushes site.tree.now (setting_of source) task list
task_pushes site source (tasks.Branch condition label sense) list pushes = λ bound expression node types.
    pushes (2 * height_of expression)
    (needs {source = source} node types (omega arith), refl, tt)
task_pushes site source (tasks.Address reference) list pushes = λ bound part node types.
    pushes (2 * height_of_reference part)
    (record { bound = bound; part = part; node = node; types = types; room = omega arith })
task_pushes site source (tasks.Store target is_wanted) list pushes = λ bound scalar to node types.
    pushes (2 + 2 * height_of_target to)
    (record {
      bound = bound;
      to = to;
      node = node;
      types = aim_holds source.typed source.within scalar to types;
      room = omega arith;
    })
task_pushes site source (tasks.Call procedure arguments) list pushes = λ bound result trees node takes types.
    pushes (2 * (1 + count_of_arguments trees + height_of_arguments trees))
    (gives {source = source} result node takes types (omega arith))
task_pushes site source task list pushes = λ bound expression node types.
    pushes (2 * height_of expression) (needs {source = source} node types (omega arith))

-- an expression, and each other part of one
pub part_pushes :
    (typed : TypedModule) (storage : Storage) (within : Within) (site : Site) (called : List Bool)
    {facts last : Facts} {part : Part} {list : List Item}
    → ParametersFit typed
    → IsLowered typed storage site.tree.now
    → IsWritten site called facts part list last
    → TaskPushes site.tree.now (record { typed = typed; storage = storage; within = within }) part.task list
part_pushes typed storage within site called {part = part} {list = list} fit lowered written =
    task_pushes site (source_of typed storage site.tree.now fit lowered within) part.task list
    (λ free is.
    (part_written site (source_of typed storage site.tree.now fit lowered within) called free
    free written is).room)

-- the ground of a body where only pushes count
abbrev pushing : (body : Body) (called : List Bool) → Source body.tree.now → (level : ℕ) → BodyGround
pushing body called source level = record {
  body = body;
  called = called;
  source = source;
  level = level;
  ok = anywhere;
  counts = ⊥;
  pushes = Unit {0};
  knows = λ none. absurd none;
}

list_room :
    (body : Body) (source : Source body.tree.now) (called : List Bool) (level : ℕ)
    (labels : List ℕ) (range : Range)
    {bound : ℕ} {statements : TypedList} {before : Facts} {after : Here} {list : List Item}
    → body.frame.now.variable_bytes ≤ FRAME_LIMIT
    → IsList (nodes_of body.tree.now) source.storage labels bound range statements
    → TypesHoldInList source.typed source.within statements
    → 2 + 2 * height_of_list statements ≤ level
    → IsListCarriedOut body called before range list after
    → PushesAtMost body.tree.now level list
list_room body source called level labels range small node types room done =
    ((whole_list_fits (pushing body called source level) (λ none. absurd none) small labels
    (λ none. absurd none) range []
    node types (λ none. absurd none) (λ none. absurd none)
    (λ number label named any none. absurd none) room).fits done
    (λ label bound none. absurd none)).room tt

-- a statement
pub statement_pushes :
    (typed : TypedModule) (storage : Storage) (within : Within) (body : Body) (called : List Bool)
    (number : StatementNumber) {before : Facts} {after : Here} {list : List Item}
    → body.frame.now.variable_bytes ≤ FRAME_LIMIT
    → ParametersFit typed
    → IsLowered typed storage body.tree.now
    → IsCarriedOut body called before number list after
    → StatementPushes body (record { typed = typed; storage = storage; within = within }) number list
statement_pushes typed storage within body called number small fit lowered done =
    λ labels bound statement node types.
    ((statement_fits (pushing body called (source_of typed storage body.tree.now fit lowered within)
    (2 + 2 * height_of_statement statement))
    (λ none. absurd none) small labels (λ none. absurd none) number [] node types (λ none. absurd none)
    (λ none. absurd none)
    (λ number label named any none. absurd none) (omega arith)).fits done
    (λ label bound none. absurd none)).measured.room tt

-- a list of statements
pub list_pushes :
    (typed : TypedModule) (storage : Storage) (within : Within) (body : Body) (called : List Bool)
    (range : Range)
    {before : Facts} {after : Here} {list : List Item}
    → body.frame.now.variable_bytes ≤ FRAME_LIMIT
    → ParametersFit typed
    → IsLowered typed storage body.tree.now
    → IsListCarriedOut body called before range list after
    → ListPushes body (record { typed = typed; storage = storage; within = within }) range list
list_pushes typed storage within body called range small fit lowered done =
    λ labels bound statements node types.
    list_room body (source_of typed storage body.tree.now fit lowered within) called
    (2 + 2 * height_of_list statements) labels
    range small node types (omega arith) done

-- a body with its end
end_room :
    (body : Body) (source : Source body.tree.now) (called : List Bool) (level : ℕ) (here : Here)
    (is_reached : Bool)
    (list : List Item)
    → body.frame.now.variable_bytes ≤ FRAME_LIMIT
    → IsEndCode body called here is_reached list
    → FindsRoom body.tree.now level level list level
end_room body source called level here true list small is =
    ((end_fits (pushing body called source level) small).fits is.1 (λ label bound none. absurd none)).room tt
end_room body source called level here false list small is =
    subst (λ (items : List Item). FindsRoom body.tree.now level level items level) (sym is) NothingThere

body_room :
    (typed : TypedModule) (storage : Storage) (within : Within) (body : Body) (called : List Bool) (bytes : ℕ)
    (procedure : TreeProcedure) (heading : TypedProcedure) (is_reached : Bool) (ending : List Item)
    {before : Facts} {last : Here} {statements : List Item}
    → body.frame.now.variable_bytes ≤ FRAME_LIMIT
    → ParametersFit typed
    → IsLowered typed storage body.tree.now
    → HasBody (nodes_of body.tree.now) storage procedure heading
    → TypesHoldInList typed within heading.body
    → 2 + 2 * height_of_list heading.body ≤ bytes
    → IsListCarriedOut body called before procedure.body statements last
    → IsEndCode body called last is_reached ending
    → PushesAtMost body.tree.now bytes (statements ++ ending)
body_room typed storage within body called bytes procedure heading is_reached ending {last = last} small fit
    lowered has types room written ends =
    let source = source_of typed storage body.tree.now fit lowered within in
    room_joined
    (list_room body source called bytes (labels_numbered_in_list heading.body) procedure.body small
    has.body types room written)
    (end_room body source called bytes last is_reached ending small ends)

-- the frame of a body has at most as many bytes as a typed procedure may have
pub frame_is_small :
    (typed : TypedModule) (storage : Storage) (tree : TreeModule) (number : ℕ) (procedure : TreeProcedure)
    (heading : TypedProcedure) (body : Body)
    → FramesFit typed
    → ParametersFit typed
    → slice_get typed.procedures number ≡ Some heading
    → IsProcedure typed (nodes_of tree) storage number procedure heading
    → IsFrameOf procedure body.frame.now
    → body.frame.now.variable_bytes ≤ FRAME_LIMIT
frame_is_small typed storage tree number procedure heading body frames fit stands is frame =
    by procedure.kind refl
  where
    none : (procedure.kind ≡ kinds.Reentrant → ⊥) → body.frame.now.variable_bytes ≤ FRAME_LIMIT
    none other = omega (arith, (frame.empty other).variable_bytes)

    by : (kind : ProcedureKind) → procedure.kind ≡ kind → body.frame.now.variable_bytes ≤ FRAME_LIMIT
    by kinds.Reentrant same =
        omega (
          arith,
          (frame.planned same (has_frame typed (nodes_of tree) storage number procedure heading fit frames
              stands is)).variable_bytes,
          is.frame_bytes,
          (frame_fits typed number heading frames stands).bytes,
        )
    by kinds.Static same = none (λ other. cc)
    by (kinds.External name) same = none (λ other. cc)

-- a procedure, and the main program
enough_charged : (heading : TypedProcedure)
    → 2 + 2 * height_of_list heading.body ≤ charge_of heading - call_bytes heading
unfolding charge_of
enough_charged heading = omega arith

main_charged : (heading : TypedProcedure) → 2 + 2 * height_of_list heading.body ≤ charge_of heading
unfolding charge_of
main_charged heading = omega arith

pub pushes_within_charges :
    (typed : TypedModule) (storage : Storage) (tree : TreeModule)
    → IsWellTyped typed
    → FramesFit typed
    → ParametersFit typed
    → IsLowered typed storage tree
    → PushesWithinCharges typed tree
pushes_within_charges typed storage tree types frames fit lowered = record {
  procedures = λ called number procedure heading list there stands code.
      subst (λ (one : TreeModule). IsLowered typed storage one
      → HasBody (nodes_of one) storage procedure heading
      → PushesAtMost one (charge_of heading - call_bytes heading)
      (code.statements ++ code.ending)) code.tree_is
      (λ lowered_one has.
      body_room typed storage (WithinProcedure number heading.result) code.body called
      (charge_of heading - call_bytes heading) procedure heading procedure.reaches_its_end code.ending
      (frame_is_small typed storage tree number procedure heading code.body frames fit stands
      (lowered.procedures number procedure heading there stands) code.frame) fit lowered_one has
      (numbered_at (TypesHoldInProcedure typed) typed.procedures number heading types.procedures stands)
      (enough_charged heading) code.written code.ends)
      lowered (lowered.procedures number procedure heading there stands).has_body;
  main = λ called start list code.
      subst (λ (one : TreeModule). IsLowered typed storage one
      → HasBody (nodes_of one) storage tree.main typed.main
      → PushesAtMost one (charge_of typed.main) code.statements) code.tree_is
      (λ lowered has.
      list_room code.body (source_of typed storage code.body.tree.now fit lowered WithinMain) called
      (charge_of typed.main)
      (labels_numbered_in_list typed.main.body) tree.main.body
      (omega (arith, code.frame.variable_bytes)) has.body types.main
      (main_charged typed.main) code.written)
      lowered lowered.main;
}
