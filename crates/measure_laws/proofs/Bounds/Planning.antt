-- Footprints of single planned steps.
use Rattle.measure_laws.proofs.Prelude.{bound_first, ◌≡◌, ℕ, ◌+◌, ◌*◌, ◌≤◌, Bool, true, false, if◌then◌else◌, List, [], ◌∷◌, arith, refl, false≢true, Sp, ScalarType, Option, TypedArguments, TypedExpression, height_of, height_of_arguments, count_of_arguments, Takes, TypesHold, TypesHoldInArguments, weight_of_arguments, weight_of_expression, WordForm, ExpressionNumber, Range, AreArguments, IsExpression, nodes_of, LabelNumber, TreeModule, Planned, part, whole, BodyGround, ItemsMeasured, IsWithinLevel, JumpTo, JumpsTo, MayBind, MayGo, PlanMeasured, PlanFootprint, Source, bytes_for, Item, TypedReference, TypedTarget, Reference, Target, IsReference, IsTarget, AimHolds, TypesHoldInReference, height_of_reference, height_of_target, weight_of_reference, Task, Step, Facts, Here, Location, Static, Frame, Site, knowing, is_at, location_of, site_of, AreCarriedOut, ListCarriedOut, StatementCarriedOut, StepCarriedOut, carried_steps, jump_on_steps, load_byte_steps, load_word_steps, byte_at_steps, word_at_steps, HoldsNoStatement, keeps_stack, keeps_stack_with, GoesOnWithLabel, GoesOnWithWord, size_of_step, size_of_steps, beside_at, PartOf, NoSubscript, None, IsAbsent, IsPart}
use Rattle.asm8080.specs.declared.item.WordForm.TheVariants as word_forms
use Rattle.steps8080.specs.declared.step.Step.TheVariants as steps
use Rattle.steps8080.specs.declared.step.Task.TheVariants as tasks
use Rattle.statements8080.specs.declared.plan.Planned.TheVariants as planned
use Rattle.measure_laws.specs.internal.Footprints.{Aims, Footprint, Goes, IsWithin, Needs, Places, TaskIsOf, anywhere, bytes_of_task}
use Rattle.measure_laws.proofs.Footprints.Weights as weights
use Rattle.measure_laws.proofs.{Bounds.ExpressionParts.{target_weighs, typed_is, weight_beside}, Bounds.Fitting.{items_then, items_within, none_fit, none_measured, then_fit}, Bounds.Pieces.{bytes_of_plan, bytes_of_planned, bytes_of_step, jump_given, jumps_parted}, Footprints.Addresses.{instruction_small}, Footprints.Items.{Measured, ground, steps_measured}, Footprints.Joining.{by_finding, by_test, counted, joined, kept_plain}, Footprints.Parts.{knows_anywhere}, Footprints.Trees.{gives, needs}, Footprints.Weights.{arguments_weigh, reference_weighs, weighs_at}}

-- A planned step that is neither a statement nor a list, by the footprints of its expression steps: `To` is a
-- condition on the labels that it refers to.
module _ (at : BodyGround) (free after most : ℕ) (To : (ℕ → Type 0) → Type 0) (all : To anywhere)
    (to : at.counts → To at.ok) where
  abbrev Prints : Planned → Type 1
  Prints step =
      (ok : ℕ → Type 0) → To ok → (here : Here)
      → Footprint (ground (site_of at.body) at.source at.level ok) free
      (carried_steps (site_of at.body) here step) after most

  step_measured :
      {here last : Here} {waiting : Option Facts} {list : List Item} (step : Planned)
      → HoldsNoStatement step
      → Prints step
      → AreCarriedOut at.body at.called here waiting (step ∷ []) list last
      → MayBind at list
      → ItemsMeasured at free list after most
  step_measured {here = here} step alone prints
      (StepCarriedOut {first = first} {more = more} also written rest) own =
      let measured : (c : at.counts) → Measured
      (ground (site_of at.body) at.source at.level at.ok) free first after
      (size_of_steps (bytes_of_task at.body.tree.now) (carried_steps (site_of at.body) here step)) =
      λ c. steps_measured (site_of at.body) at.source at.level at.ok at.called free after (at.knows c) written
      (prints at.ok (to c) here).go (λ label bound. own label (bound_first label first more bound) c) in
      let one : ItemsMeasured at free first after most = record {
        room = λ p. (steps_measured (site_of at.body) at.source at.level anywhere at.called free after
            (knows_anywhere (site_of at.body) at.called) written (prints anywhere all here).go
            (λ label bound. tt)).room;
        small = λ c. omega (arith, (measured c).small, (prints at.ok (to c) here).small);
        goes = λ c. (measured c).goes;
      } in
      items_within (items_then first more one (none_measured {most = 0} rest)) (λ c. omega arith)
  step_measured step alone prints (StatementCarriedOut done rest) own = absurd alone
  step_measured step alone prints (ListCarriedOut done rest) own = absurd alone

  step_fits : (step : Planned) → HoldsNoStatement step → Prints step
      → PlanMeasured at free (step ∷ []) after most
  step_fits step alone prints = record { fits = λ done own. step_measured step alone prints done own }

-- an expression step that is neither a part nor a jump
abbrev pub is_code : Step → Bool
is_code (steps.Part task) = false
is_code (steps.Jump form label) = false
is_code step = true

code_goes :
    (tree : TreeModule) (source : Source tree) (level free after : ℕ) (ok : ℕ → Type 0) (step : Step)
    → is_code step ≡ true
    → Goes tree source level anywhere free (step ∷ []) after
    → Goes tree source level ok free (step ∷ []) after
code_goes tree source level free after ok (steps.Part task) is go = absurd (false≢true is)
code_goes tree source level free after ok (steps.Jump form label) is go = absurd (false≢true is)
code_goes tree source level free after ok step is go = go

code_small : (size : Task → ℕ) (step : Step) → is_code step ≡ true
    → size_of_step size step ≤ bytes_of_step step
code_small size (steps.Part task) is = absurd (false≢true is)
code_small size (steps.Plain i) is = instruction_small i
code_small size step is = omega arith

pub code_fits :
    {at : BodyGround} {free after : ℕ} (step : Step)
    → is_code step ≡ true
    → Goes at.body.tree.now at.source at.level anywhere free (step ∷ []) after
    → PlanMeasured at free (planned.Code step ∷ []) after (bytes_of_step step)
unfolding carried_steps
code_fits {at = at} {free = free} {after = after} step is go =
    step_fits at free after (bytes_of_step step)
    (λ ok. Goes at.body.tree.now at.source at.level ok free (step ∷ []) after) go
    (λ c. code_goes at.body.tree.now at.source at.level free after at.ok step is go) (planned.Code step) tt
    (λ ok goes here. counted goes (omega (arith, code_small (bytes_of_task at.body.tree.now) step is)))

-- steps that keep the stack pointer: instructions, labels, and jumps when nothing is pushed
abbrev pub jumps_plainly : WordForm → Bool
jumps_plainly word_forms.Jump = true
jumps_plainly (word_forms.JumpWhere condition) = true
jumps_plainly form = keeps_stack_with form

abbrev pub is_plain_step : Step → Bool
is_plain_step (steps.Plain i) = keeps_stack i
is_plain_step (steps.Word form place) = keeps_stack_with form
is_plain_step (steps.Jump form label) = jumps_plainly form
is_plain_step (steps.CallRoutine routine) = false
is_plain_step (steps.CallProcedure procedure) = false
is_plain_step (steps.Part task) = false
is_plain_step step = true

abbrev pub is_plain : Planned → Bool
is_plain (planned.Code step) = is_plain_step step
is_plain (planned.Statement number) = false
is_plain (planned.List list) = false
is_plain (planned.LoadByte reference) = false
is_plain (planned.LoadWord reference) = false
is_plain step = true

abbrev pub are_plain : List Planned → Bool
are_plain [] = true
are_plain (step ∷ others) = if is_plain step then are_plain others else false

word_keeps :
    (free : ℕ) (form : WordForm) (Rest : ℕ → Type 0)
    → keeps_stack_with form ≡ true → Rest free → GoesOnWithWord free form Rest
word_keeps free (word_forms.LoadPair Sp) Rest kept rest = absurd (false≢true kept)
word_keeps free word_forms.Jump Rest kept rest = absurd (false≢true kept)
word_keeps free (word_forms.JumpWhere condition) Rest kept rest = absurd (false≢true kept)
word_keeps free word_forms.CallTo Rest kept rest = absurd (false≢true kept)
word_keeps free (word_forms.CallWhere condition) Rest kept rest = absurd (false≢true kept)
word_keeps free form Rest kept rest = rest

label_keeps :
    (level : ℕ) (form : WordForm) (Rest : ℕ → Type 0)
    → jumps_plainly form ≡ true → Rest level → GoesOnWithLabel level level form Rest
label_keeps level (word_forms.LoadPair Sp) Rest kept rest = absurd (false≢true kept)
label_keeps level word_forms.Jump Rest kept rest = (omega arith, rest)
label_keeps level (word_forms.JumpWhere condition) Rest kept rest = (omega arith, rest)
label_keeps level word_forms.CallTo Rest kept rest = absurd (false≢true kept)
label_keeps level (word_forms.CallWhere condition) Rest kept rest = absurd (false≢true kept)
label_keeps level form Rest kept rest = rest

plain_goes :
    (tree : TreeModule) (source : Source tree) (level : ℕ) (ok : ℕ → Type 0) (step : Step)
    → is_plain_step step ≡ true
    → JumpTo ok (planned.Code step)
    → Goes tree source level ok level (step ∷ []) level
plain_goes tree source level ok (steps.Plain i) is to = kept_plain level level i _ is refl
plain_goes tree source level ok (steps.Word form place) is to = word_keeps level form _ is refl
plain_goes tree source level ok (steps.Jump form label) is to = (to, label_keeps level form _ is refl)
plain_goes tree source level ok (steps.Mark label) is to = (omega arith, refl)
plain_goes tree source level ok steps.TestA is to = refl
plain_goes tree source level ok (steps.Holds held) is to = refl
plain_goes tree source level ok steps.MemoryChanged is to = refl
plain_goes tree source level ok step is to = absurd (false≢true is)

plain_small : (size : Task → ℕ) (step : Step) → is_plain_step step ≡ true
    → size_of_step size step ≤ bytes_of_step step
plain_small size (steps.Part task) is = absurd (false≢true is)
plain_small size (steps.Plain i) is = instruction_small i
plain_small size step is = omega arith

module _ (at : BodyGround) where
  abbrev AtLevel : (ok : ℕ → Type 0) → List Step → (most : ℕ) → Type 0
  AtLevel ok planned most =
      Footprint (ground (site_of at.body) at.source at.level ok) at.level planned at.level most

  jump_on_prints : (ok : ℕ → Type 0) (goes_on : Bool) (label : LabelNumber) → ok label.index
      → AtLevel ok (jump_on_steps goes_on label) 3
  jump_on_prints ok true label to = counted (to, (omega arith, refl)) (omega arith)
  jump_on_prints ok false label to = counted refl (omega arith)

  plain_prints :
      (ok : ℕ → Type 0) (step : Planned)
      → is_plain step ≡ true
      → JumpTo ok step
      → (here : Here)
      → AtLevel ok (carried_steps (site_of at.body) here step) (bytes_of_planned step)
  unfolding carried_steps
  plain_prints ok (planned.Code step) is to here =
      counted (plain_goes at.body.tree.now at.source at.level ok step is to)
      (omega (arith, plain_small (bytes_of_task at.body.tree.now) step is))
  plain_prints ok (planned.JumpOn label) is to here = jump_on_prints ok here.goes_on label to
  plain_prints ok (planned.Turn other end) is to here =
      joined 3 0 (jump_on_prints ok here.goes_on end to)
      (counted (omega arith, refl) (omega arith)) (omega arith)
  plain_prints ok (planned.Meet label) is to here = counted (omega arith, refl) (omega arith)
  plain_prints ok (planned.Again label facts is_entered) is to here =
      counted (omega arith, refl) (omega arith)
  plain_prints ok (planned.Jumped alone) is to here = counted refl (omega arith)
  plain_prints ok (planned.Reaches goes_on) is to here = counted refl (omega arith)
  plain_prints ok step is to here = absurd (false≢true is)

plain_alone : (step : Planned) → is_plain step ≡ true → HoldsNoStatement step
plain_alone (planned.Statement number) is = absurd (false≢true is)
plain_alone (planned.List list) is = absurd (false≢true is)
plain_alone step is = tt

jump_anywhere : (step : Planned) → JumpTo anywhere step
jump_anywhere (planned.Code (steps.Jump form label)) = tt
jump_anywhere (planned.JumpOn label) = tt
jump_anywhere (planned.Turn other end) = tt
jump_anywhere step = tt

pub plain_fits :
    {at : BodyGround} (step : Planned)
    → is_plain step ≡ true
    → JumpTo (λ label. MayGo at label) step
    → PlanFootprint at (step ∷ []) (bytes_of_planned step)
plain_fits {at = at} step is to =
    step_fits at at.level at.level (bytes_of_planned step) (λ ok. JumpTo ok step) (jump_anywhere step)
    (λ c. jump_given at.ok at.counts step to c) step
    (plain_alone step is) (λ ok goes here. plain_prints at ok step is goes here)

pub plains_fit :
    {at : BodyGround} (list : List Planned)
    → are_plain list ≡ true
    → JumpsTo (λ label. MayGo at label) list
    → PlanFootprint at list (bytes_of_plan list)
plains_fit [] is to = none_fit
plains_fit {at = at} (step ∷ others) is to =
    by (is_plain step) refl
    (λ plain. plains_fit others plain (jumps_parted (λ label. MayGo at label) step others to).1)
  where
    by :
        (plain : Bool) → is_plain step ≡ plain
        → (are_plain others ≡ true → PlanFootprint at others (bytes_of_plan others))
        → PlanFootprint at (step ∷ others) (bytes_of_planned step + bytes_of_plan others)
    by true this rest =
        then_fit (plain_fits step this (jumps_parted (λ label. MayGo at label) step others to).0)
        (rest (rw this at is))
    by false this rest = let never : (false ≡ true) = rw this at is in absurd (false≢true never)

-- parts of expressions
pub within_is :
    {tree : TreeModule} {source : Source tree} {level bound : ℕ} {number : ExpressionNumber}
    {expression : TypedExpression}
    → IsExpression (nodes_of tree) source.storage bound number.index expression
    → TypesHold source.typed source.within expression
    → 2 * height_of expression ≤ level
    → IsWithin tree source level number expression
within_is node types room = record { typed = typed_is node types; room = room }

needed :
    {tree : TreeModule} {source : Source tree} {level : ℕ} {number : ExpressionNumber}
    {expression : TypedExpression}
    → IsWithin tree source level number expression
    → Needs tree source 0 level number
needed {source = source} is = needs {source = source} is.typed.node is.typed.types (omega (arith, is.room))

-- the weight of such an expression
weighs :
    {tree : TreeModule} {source : Source tree} {level : ℕ} {number : ExpressionNumber}
    {expression : TypedExpression}
    → IsWithin tree source level number expression
    → 1 + beside_at (nodes_of tree) number.index ≡ weight_of_expression expression
weighs {tree = tree} {source = source} {number = number} {expression = expression} is =
    weighs_at (nodes_of tree) source.storage is.typed.bound is.typed.bound number.index
    expression (omega arith)
    is.typed.node

module _ (at : BodyGround) where
  task_at :
      (free : ℕ) (task : Task) (pushed most : ℕ)
      → TaskIsOf at.body.tree.now at.source at.level anywhere free task
      → (at.counts → TaskIsOf at.body.tree.now at.source at.level at.ok free task)
      → bytes_of_task at.body.tree.now task ≤ most
      → PlanMeasured at free (part task pushed ∷ []) free most
  unfolding carried_steps
  task_at free task pushed most is goes small =
      step_fits at free free most (λ ok. TaskIsOf at.body.tree.now at.source at.level ok free task) is goes
      (part task pushed) tt
      (λ ok of here. counted (of, refl) (omega (arith, small)))

  pub word_at :
      {tree : TypedExpression} (free : ℕ) (value : ExpressionNumber) (pushed : ℕ)
      → IsWithin at.body.tree.now at.source free value tree
      → PlanMeasured at free (part (tasks.Word value) pushed ∷ []) free
      (bytes_for (weight_of_expression tree))
  word_at {tree = tree} free value pushed is =
      let need : Needs at.body.tree.now at.source 0 free value = needed is in
      task_at free (tasks.Word value) pushed (bytes_for (weight_of_expression tree)) need (λ c. need)
      (omega (arith, need.word_small, weighs is))

  pub byte_fits :
      {tree : TypedExpression} (value : ExpressionNumber) (pushed : ℕ)
      → IsWithinLevel at value tree
      → PlanFootprint at (part (tasks.Byte value) pushed ∷ []) (bytes_for (weight_of_expression tree))
  byte_fits {tree = tree} value pushed is =
      let need : Needs at.body.tree.now at.source 0 at.level value = needed is in
      task_at at.level (tasks.Byte value) pushed (bytes_for (weight_of_expression tree)) need (λ c. need)
      (omega (arith, need.byte_small, weighs is))

  pub word_fits :
      {tree : TypedExpression} (value : ExpressionNumber) (pushed : ℕ)
      → IsWithinLevel at value tree
      → PlanFootprint at (part (tasks.Word value) pushed ∷ []) (bytes_for (weight_of_expression tree))
  word_fits value pushed is = word_at at.level value pushed is

  pub effects_fit :
      {tree : TypedExpression} (value : ExpressionNumber) (pushed : ℕ)
      → IsWithinLevel at value tree
      → PlanFootprint at (part (tasks.Effects value) pushed ∷ []) (bytes_for (weight_of_expression tree))
  effects_fit {tree = tree} value pushed is =
      task_at at.level (tasks.Effects value) pushed (bytes_for (weight_of_expression tree))
      (needed is) (λ c. needed is)
      (omega (arith, weighs is))

  pub branch_fits :
      {tree : TypedExpression} (condition : ExpressionNumber) (label : LabelNumber)
      (sense : Bool) (pushed : ℕ)
      → IsWithinLevel at condition tree
      → MayGo at label.index
      → PlanFootprint at (part (tasks.Branch condition label sense) pushed ∷ [])
      (bytes_for (weight_of_expression tree))
  branch_fits {tree = tree} condition label sense pushed is to =
      task_at at.level (tasks.Branch condition label sense) pushed (bytes_for (weight_of_expression tree))
      (needed is, refl, tt) (λ c. (needed is, refl, to c)) (omega (arith, weighs is))

  pub call_fits :
      {bound : ℕ} {trees : TypedArguments} (procedure : ℕ) (arguments : Range) (pushed : ℕ)
      (result : Option ScalarType)
      → AreArguments (nodes_of at.body.tree.now) at.source.storage bound arguments.first arguments.count trees
      → Takes at.source.typed procedure result trees
      → TypesHoldInArguments at.source.typed at.source.within trees
      → 2 * (1 + count_of_arguments trees + height_of_arguments trees) ≤ at.level
      → PlanFootprint at (part (tasks.Call procedure arguments) pushed ∷ [])
      (3 + bytes_for (weight_of_arguments trees))
  call_fits {bound = bound} {trees = trees} procedure arguments pushed result are takes types room =
      let given = gives {source = at.source} result are takes types room in
      task_at at.level (tasks.Call procedure arguments) pushed
      (3 + bytes_for (weight_of_arguments trees)) given (λ c. given)
      (omega (
        arith,
        arguments_weigh (nodes_of at.body.tree.now) at.source.storage bound
            (beside_at (nodes_of at.body.tree.now))
            (weighs_at (nodes_of at.body.tree.now) at.source.storage bound) (omega arith) are,
      ))

  pub address_fits :
      {bound : ℕ} {tree : TypedReference} (reference : Reference) (pushed : ℕ)
      → IsReference (nodes_of at.body.tree.now) at.source.storage bound reference tree
      → TypesHoldInReference at.source.typed at.source.within tree
      → 2 * height_of_reference tree ≤ at.level
      → PlanFootprint at (part (tasks.Address reference) pushed ∷ [])
      (32 + bytes_for (weight_of_reference tree))
  address_fits {bound = bound} {tree = tree} reference pushed is types room =
      let placed : Places at.body.tree.now at.source at.level reference =
      record { bound = bound; part = tree; node = is; types = types; room = room } in
      task_at at.level (tasks.Address reference) pushed (32 + bytes_for (weight_of_reference tree))
      placed (λ c. placed)
      (omega (
        arith,
        reference_weighs (nodes_of at.body.tree.now) at.source.storage bound
            (beside_at (nodes_of at.body.tree.now))
            (weighs_at (nodes_of at.body.tree.now) at.source.storage bound) (omega arith) is,
      ))

  pub store_fits :
      {bound : ℕ} {tree : TypedTarget} (target : Target) (is_wanted : Bool) (pushed : ℕ)
      → IsTarget (nodes_of at.body.tree.now) at.source.storage bound target tree
      → AimHolds at.source.typed at.source.within tree
      → 2 + 2 * height_of_target tree ≤ at.level
      → PlanFootprint at (part (tasks.Store target is_wanted) pushed ∷ [])
      (64 + bytes_for (weight_beside tree))
  store_fits {bound = bound} {tree = tree} target is_wanted pushed is types room =
      let aims : Aims at.body.tree.now at.source at.level target =
      record { bound = bound; to = tree; node = is; types = types; room = room } in
      task_at at.level (tasks.Store target is_wanted) pushed
      (64 + bytes_for (weight_beside tree)) aims (λ c. aims)
      (omega (
        arith,
        target_weighs tree,
        weights.target_weighs (nodes_of at.body.tree.now) at.source.storage bound
            (beside_at (nodes_of at.body.tree.now))
            (weighs_at (nodes_of at.body.tree.now) at.source.storage bound) (omega arith) is,
      ))

  -- a whole object is a part of one, without subscripts
  pub whole_is :
      (object : ℕ)
      → IsReference (nodes_of at.body.tree.now) at.source.storage 0 (whole object)
      (PartOf object NoSubscript None 0 NoSubscript)
  whole_is object = IsPart IsAbsent IsAbsent

  pub whole_address_fits :
      (object : ℕ) → 2 ≤ at.level → PlanFootprint at (part (tasks.Address (whole object)) 0 ∷ []) 32
  whole_address_fits object two =
      address_fits (whole object) 0 (whole_is object) (tt, tt) (omega (arith, two))

  -- a whole object that is loaded
  module _ (object : ℕ) (two : 2 ≤ at.level) where
    placed : Places at.body.tree.now at.source at.level (whole object)
    placed = record {
      bound = 0;
      part = PartOf object NoSubscript None 0 NoSubscript;
      node = whole_is object;
      types = (tt, tt);
      room = omega (arith, two);
    }

    byte_at_prints :
        (ok : ℕ → Type 0) (facts : Facts) (location : Location)
        → AtLevel at ok (byte_at_steps facts (whole object) location) 35
    byte_at_prints ok facts (Frame variable offset) = counted (placed, refl) (omega arith)
    byte_at_prints ok facts (Static place) =
        by_test (is_at facts.address_in_hl (Static place)) (counted (placed, refl) (omega arith))
        (counted refl (omega arith))

    load_byte_prints : (ok : ℕ → Type 0) (site : Site)
        → AtLevel at ok (load_byte_steps site (whole object)) 35
    unfolding load_byte_steps
    load_byte_prints ok site =
        by_finding (location_of site (whole object))
        (λ location there. by_test (is_at site.facts.byte_in_a location) (counted refl (omega arith))
        (joined 35 0 (byte_at_prints ok site.facts location) (counted refl (omega arith)) (omega arith)))
        (λ none. counted refl (omega arith))

    pub load_byte_fits : PlanFootprint at (planned.LoadByte (whole object) ∷ []) 35
    unfolding carried_steps
    load_byte_fits =
        step_fits at at.level at.level 35 (λ ok. Unit {0}) tt (λ c. tt) (planned.LoadByte (whole object)) tt
        (λ ok to here. load_byte_prints ok (knowing (site_of at.body) here.facts))

    word_at_prints : (ok : ℕ → Type 0) (location : Location)
        → AtLevel at ok (word_at_steps (whole object) location) 44
    word_at_prints ok (Frame variable offset) = counted (placed, refl) (omega arith)
    word_at_prints ok (Static place) = counted refl (omega arith)

    load_word_prints : (ok : ℕ → Type 0) (site : Site)
        → AtLevel at ok (load_word_steps site (whole object)) 44
    unfolding load_word_steps
    load_word_prints ok site =
        by_finding (location_of site (whole object))
        (λ location there. by_test (is_at site.facts.word_in_hl location) (counted refl (omega arith))
        (joined 44 0 (word_at_prints ok location) (counted refl (omega arith)) (omega arith)))
        (λ none. counted refl (omega arith))

    pub load_word_fits : PlanFootprint at (planned.LoadWord (whole object) ∷ []) 44
    unfolding carried_steps
    load_word_fits =
        step_fits at at.level at.level 44 (λ ok. Unit {0}) tt (λ c. tt) (planned.LoadWord (whole object)) tt
        (λ ok to here. load_word_prints ok (knowing (site_of at.body) here.facts))
