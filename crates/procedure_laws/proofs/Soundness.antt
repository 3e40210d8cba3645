-- The bodies of a module are carried out in what is asked of their contexts.
use Rattle.procedure_laws.proofs.Prelude.{◌≡◌, ◌≢◌, ℕ, suc, ◌+◌, ◌*◌, ◌<◌, ◌≤◌, Bool, true, false, if◌then◌else◌, List, length, slice_get, Option, Some, None, refl, sym, ap, ◌∙◌, arith, eq-eqb, eqb-true, AllPairs, IsSomeAnd, Bor, option_map_or, ScalarType, is_in_frame, size_of_object, BasedOn, Elsewhere, Home, InConstants, InData, InFrame, Nowhere, Placed, TypedModule, TypedObject, TypedProcedure, Within, WithinMain, WithinProcedure, later_by, TreeModule, TreeProcedure, Item, frame_number, labels_numbered_in_list, FramePlan, IsPlanOf, distance_of, HasByte, ObjectsLie, lowered_framed, IsThere, LiesWell, no_facts, Body, CallsFit, FrameIsPlanned, IsSound, RoutineIsAt, IsSoundBody, IsWithin, CallsAreKnown, Entries, Shape, activation_in, body_in, context_in, frame_shape, main_shape, size_in_frame, static_shape, ModuleCode, ModuleLies, bare}
use Rattle.runtime8080.specs.declared.routine.Routine.{Routine}
use Rattle.procedure_laws.proofs.CallInstructions.{calls_do}

-- what stands in the code stands there for each activation
pub there_in :
    (code : ModuleCode) (room : ℕ) (shape : Shape) {list : List Item} {from to : ℕ}
    → IsThere (bare code) list from to
    → IsThere (activation_in code room shape) list from to
there_in code room shape there = record { stands = there.stands; low = there.low; high = there.high }

routine_there :
    (code : ModuleCode) (room : ℕ) (shape : Shape) (routine : Routine) (entry : ℕ)
    → RoutineIsAt (bare code) routine entry
    → RoutineIsAt (activation_in code room shape) routine entry
routine_there code room shape routine entry is = record {
  layout = is.layout;
  items = is.items;
  to = is.to;
  stands = is.stands;
  has_bytes = is.has_bytes;
  low = is.low;
  high = is.high;
  is_routine = is.is_routine;
}

-- the context of a body is sound
pub context_sound :
    (code : ModuleCode) (entries : Entries) (within : Within) (frame : Bor FramePlan) (bound number room : ℕ)
    (shape : Shape)
    → ModuleLies code entries
    → CallsAreKnown code.program code.image (later_by bound) number entries
    → suc number ≤ bound
    → LiesWell (activation_in code room shape)
    → FrameIsPlanned (context_in code within frame bound (suc number) room shape)
    → CallsFit (context_in code within frame bound (suc number) room shape)
    → IsSound (context_in code within frame bound (suc number) room shape)
context_sound code entries within frame bound number room shape lies known bounded well planned fit = record {
  lowered = lies.lowered;
  types = lies.types;
  lists = lies.lists;
  numbers = lies.numbers;
  is_module = lies.is_module;
  lies = well;
  resolves = lies.resolves room;
  frame = planned;
  bases = lies.bases;
  words = lies.words;
  routines = λ routine has. routine_there code room shape routine _ (lies.routines routine has);
  calls = calls_do code entries within frame bound number room shape lies known bounded well;
  calls_fit = fit;
  script = lies.script;
}

-- and so is the body
pub body_sound :
    (code : ModuleCode) (within : Within) (body : Body) (found : TypedProcedure)
    (bound number room : ℕ) (shape : Shape)
    → body.tree ≡ code.tree
    → IsWithin within body
    → number ≤ bound
    → AllPairs (λ (one other : ℕ). one ≢ other) (labels_numbered_in_list found.body)
    → IsSound (context_in code within body.frame bound number room shape)
    → IsSoundBody (body_in code within body found bound number room shape)
body_sound code within body found bound number room shape is_tree is_within bounded labels sound = record {
  sound = sound;
  site = ap (λ (tree : Bor TreeModule). record { tree = tree; frame = body.frame; facts = no_facts })
      (sym is_tree);
  within = is_within;
  bound = bound;
  later = refl;
  number = bounded;
  labels = labels;
}

same_procedure : (one other : ℕ) (first second : Option ScalarType)
    → WithinProcedure one first ≡ WithinProcedure other second → one ≡ other
same_procedure one other first second same = cc

-- without a frame
pub static_lies :
    (code : ModuleCode) (entries : Entries) (room floor level whole : ℕ)
    → ModuleLies code entries
    → code.program.placement.stack.start ≤ floor
    → floor ≤ level
    → level + whole ≤ code.program.placement.stack.start + code.program.placement.stack.len
    → LiesWell (activation_in code room (record {
      floor = floor;
      level = level;
      distance = λ object. 0;
      size = λ object. 0;
      back = 0;
      whole = whole;
    }))
static_lies code entries room floor level whole lies bottom low above = record {
  placed = lies.placed;
  bottom = bottom;
  low = low;
  above = above;
  inside = λ object offset within. absurd (omega (arith, within));
  not_back = λ object offset within. absurd (omega (arith, within));
  differ = λ object offset other place within there. absurd (omega (arith, within));
}

pub static_planned :
    (code : ModuleCode) (entries : Entries) (index : ℕ) (heading : TypedProcedure)
    (result : Option ScalarType)
    (frame : Bor FramePlan) (bound number room floor level : ℕ)
    → ModuleLies code entries
    → slice_get code.typed.procedures index ≡ Some heading
    → heading.is_reentrant ≡ false
    → FrameIsPlanned
    (context_in code (WithinProcedure index result) frame bound number room (static_shape floor level))
static_planned code entries index heading result frame bound number room floor level lies is static procedure
    object other found within there home =
    let same : index ≡ procedure = same_procedure index procedure result other within in
    let reentrant =
    lies.reentrant object index found heading there is (home ∙ ap (λ (one : ℕ). InFrame one) (sym same)) in
    let bad : true ≡ false = sym reentrant ∙ static in
    absurd cc

-- with the frame of a plan
size_at :
    (typed : TypedModule) (procedure object : ℕ) (found : TypedObject)
    → slice_get typed.objects object ≡ Some found
    → found.home ≡ InFrame procedure
    → size_in_frame typed procedure object ≡ size_of_object found
size_at typed procedure object found there home =
    ap (λ (entry : Option TypedObject).
    option_map_or
    (λ (found : TypedObject). if is_in_frame procedure found.home then size_of_object found else 0) entry 0)
    there
    ∙ ap (λ (home : Home). if is_in_frame procedure home then size_of_object found else 0) home
    ∙ ap (λ (test : Bool). if test then size_of_object found else 0) (eq-eqb procedure procedure refl)

pub frame_home : (procedure : ℕ) (home : Home) → is_in_frame procedure home ≡ true → home ≡ InFrame procedure
frame_home procedure (InFrame other) is = ap (λ (one : ℕ). InFrame one) (sym (eqb-true procedure other is))
frame_home procedure (InData values) is = let bad : ⊥ = cc in absurd bad
frame_home procedure (InConstants values) is = let bad : ⊥ = cc in absurd bad
frame_home procedure (Placed address) is = let bad : ⊥ = cc in absurd bad
frame_home procedure (BasedOn base) is = let bad : ⊥ = cc in absurd bad
frame_home procedure Elsewhere is = let bad : ⊥ = cc in absurd bad
frame_home procedure Nowhere is = let bad : ⊥ = cc in absurd bad

byte_in_frame :
    (typed : TypedModule) (procedure object offset : ℕ)
    → offset < size_in_frame typed procedure object
    → HasByte typed procedure object offset
byte_in_frame typed procedure object offset within = by_object (slice_get typed.objects object) within
  where
    by_test : (found : TypedObject) (test : Bool) → is_in_frame procedure found.home ≡ test
        → offset < (if test then size_of_object found else 0)
        → (found.home ≡ InFrame procedure) × (offset < size_of_object found)
    by_test found true is within = (frame_home procedure found.home is, within)
    by_test found false is within = absurd (omega (arith, within))

    by_object : (entry : Option TypedObject)
        → offset < option_map_or
        (λ (found : TypedObject). if is_in_frame procedure found.home then size_of_object found else 0) entry
        0
        → IsSomeAnd entry
        (λ (found : TypedObject). (found.home ≡ InFrame procedure) × (offset < size_of_object found))
    by_object None within = absurd (omega (arith, within))
    by_object (Some found) within = by_test found (is_in_frame procedure found.home) refl within

pub frame_lies :
    (code : ModuleCode) (entries : Entries) (index : ℕ) (procedure : TreeProcedure) (found : TypedProcedure)
    (plan : FramePlan) (room floor level : ℕ)
    → ModuleLies code entries
    → slice_get code.tree.now.procedures.items index ≡ Some procedure
    → slice_get code.typed.procedures index ≡ Some found
    → IsPlanOf procedure plan
    → code.program.placement.stack.start ≤ floor
    → floor ≤ level
    → level + (2 + 2 * length found.parameters + found.frame_bytes)
    ≤ code.program.placement.stack.start + code.program.placement.stack.len
    → LiesWell (activation_in code room (frame_shape code.typed index found plan floor level))
frame_lies code entries index procedure found plan room floor level lies there is planned bottom low above =
    record {
      placed = lies.placed;
      bottom = bottom;
      low = low;
      above = above;
      inside = λ object offset within.
          objects.within object offset (byte_in_frame code.typed index object offset within);
      not_back = λ object offset within. (
        (λ same.
            objects.off_return object offset (byte_in_frame code.typed index object offset within)
            (omega (arith, same), omega (arith, same))),
        (λ same.
            objects.off_return object offset (byte_in_frame code.typed index object offset within)
            (omega (arith, same), omega (arith, same))),
      );
      differ = λ object offset other place within there same.
          objects.apart object offset other place (byte_in_frame code.typed index object offset within)
          (byte_in_frame code.typed index other place there) same;
    }
  where
    objects : ObjectsLie code.typed index found plan
    objects =
        (lowered_framed code.typed code.storage code.tree.now index procedure found lies.sized
        lies.parameters lies.frames
        lies.lowered there is).objects plan planned

pub frame_planned :
    (code : ModuleCode) (index : ℕ) (found : TypedProcedure) (result : Option ScalarType)
    (frame : Bor FramePlan)
    (bound number room floor level : ℕ)
    → FrameIsPlanned (context_in code (WithinProcedure index result) frame bound number room
    (frame_shape code.typed index found frame.now floor level))
frame_planned code index found result frame bound number room floor level procedure object other
    its within there home =
    let same : index ≡ procedure = same_procedure index procedure result other within in (
      ap (λ (one : ℕ). distance_of frame.now (frame_number code.typed one object)) same,
      size_at code.typed index object its there (home ∙ ap (λ (one : ℕ). InFrame one) (sym same)),
    )

pub main_planned :
    (code : ModuleCode) (frame : Bor FramePlan) (bound number room floor level : ℕ)
    → FrameIsPlanned (context_in code WithinMain frame bound number room (main_shape floor level))
main_planned code frame bound number room floor level procedure object result found within there home =
    let bad : ⊥ = cc in absurd bad
