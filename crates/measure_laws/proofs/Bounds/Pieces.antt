-- Planned steps of which the pushes do not count: their instructions, labels and jumps.
use Rattle.measure_laws.proofs.Prelude.{◌≡◌, ℕ, zero, suc, ◌+◌, ◌*◌, ◌≤◌, Bool, true, false, false≢true, List, [], ◌∷◌, replicate, Option, refl, arith, Instr, Item, size_of_items, size_in_parts, Facts, Step, Site, AreWritten, CallWritten, ChangeWritten, HoldsWritten, JumpWritten, MarkWritten, NoneWritten, PlainWritten, RoutineWritten, TestWritten, WordWritten, call_items, test_items, Planned, plain, Here, AreCarriedOut, StepCarriedOut, carried_steps, ItemsGo, BodyGround, ItemsMeasured, JumpTo, JumpsTo, MayGo, PlanMeasured}
use Rattle.steps8080.specs.declared.step.Step.TheVariants as steps
use Rattle.statements8080.specs.declared.plan.Planned.TheVariants as planned
use Rattle.measure_laws.proofs.{Bounds.Fitting.{items_then, items_within, less_fits, none_fit, none_measured, then_fit}, Footprints.Addresses.{instruction_small}}
use Rattle.measure_laws.proofs.Footprints.Items.{size_of_call, word_goes}

-- the greatest size of steps without parts in bytes
abbrev pub bytes_of_step : Step → ℕ
bytes_of_step (steps.Mark label) = 0
bytes_of_step (steps.Holds held) = 0
bytes_of_step steps.MemoryChanged = 0
bytes_of_step step = 3

abbrev pub bytes_of_steps : List Step → ℕ
bytes_of_steps [] = 0
bytes_of_steps (step ∷ others) = bytes_of_step step + bytes_of_steps others

-- a step that is not a part
abbrev pub IsNoPart : Step → Type 0
IsNoPart (steps.Part part) = ⊥
IsNoPart step = Unit {0}

abbrev pub HoldNoPart : List Step → Type 0
HoldNoPart [] = Unit {0}
HoldNoPart (step ∷ others) = IsNoPart step × HoldNoPart others

tested_within : (shown : Bool) (facts : Facts) → facts.zero_shows_a ≡ shown
    → size_of_items (test_items facts) ≤ 3
tested_within true facts is = rw is (omega arith)
tested_within false facts is = rw is (omega arith)

-- the items of steps without parts
pub steps_within :
    {site : Site} {called : List Bool} (list : List Step) {facts last : Facts} {items : List Item}
    → HoldNoPart list
    → AreWritten site called facts list items last
    → size_of_items items ≤ bytes_of_steps list
steps_within [] none NoneWritten = omega arith
steps_within (steps.Plain i ∷ others) none (PlainWritten rest) =
    omega (arith, instruction_small i, steps_within others none.1 rest)
steps_within (steps.Word form place ∷ others) none (WordWritten rest) =
    omega (arith, steps_within others none.1 rest)
steps_within (steps.Jump form label ∷ others) none (JumpWritten rest) =
    omega (arith, steps_within others none.1 rest)
steps_within (steps.Mark label ∷ others) none (MarkWritten rest) =
    omega (arith, steps_within others none.1 rest)
steps_within (steps.CallRoutine routine ∷ others) none (RoutineWritten is rest) =
    omega (arith, steps_within others none.1 rest)
steps_within {site = site} (steps.CallProcedure procedure ∷ others) none (CallWritten {more = more} rest) =
    omega (
      arith,
      size_in_parts (call_items site procedure) more,
      size_of_call site procedure,
      steps_within others none.1 rest,
    )
steps_within (steps.TestA ∷ others) {facts = facts} none (TestWritten {more = more} rest) =
    omega (
      arith,
      size_in_parts (test_items facts) more,
      tested_within facts.zero_shows_a facts refl,
      steps_within others none.1 rest,
    )
steps_within (steps.Holds held ∷ others) none (HoldsWritten rest) =
    omega (arith, steps_within others none.1 rest)
steps_within (steps.MemoryChanged ∷ others) none (ChangeWritten rest) =
    omega (arith, steps_within others none.1 rest)
steps_within (steps.Part part ∷ others) none done = absurd none.0

-- the greatest size of planned steps without parts in bytes
abbrev pub bytes_of_planned : Planned → ℕ
bytes_of_planned (planned.Code step) = bytes_of_step step
bytes_of_planned (planned.JumpOn label) = 3
bytes_of_planned (planned.Turn other end) = 3
bytes_of_planned step = 0

abbrev pub bytes_of_plan : List Planned → ℕ
bytes_of_plan [] = 0
bytes_of_plan (step ∷ others) = bytes_of_planned step + bytes_of_plan others

-- what planned steps jump to, where labels count
pub jump_given : (ok : ℕ → Type 0) (counts : Type 0) (step : Planned)
    → JumpTo (λ label. counts → ok label) step → counts → JumpTo ok step
jump_given ok counts (planned.Code (steps.Jump form label)) to c = to c
jump_given ok counts (planned.JumpOn label) to c = to c
jump_given ok counts (planned.Turn other end) to c = to c
jump_given ok counts step to c = tt

pub jumps_parted :
    (ok : ℕ → Type 0) (step : Planned) (others : List Planned)
    → JumpsTo ok (step ∷ others) → JumpTo ok step × JumpsTo ok others
jumps_parted ok (planned.Code (steps.Jump form label)) others to = to
jumps_parted ok (planned.JumpOn label) others to = to
jumps_parted ok (planned.Turn other end) others to = to
jumps_parted ok step others to = (tt, to)

-- instructions, labels, facts and jumps
abbrev pub is_bare : Step → Bool
is_bare (steps.Plain i) = true
is_bare (steps.Word form place) = true
is_bare (steps.Jump form label) = true
is_bare (steps.Mark label) = true
is_bare (steps.Holds held) = true
is_bare step = false

bare_small :
    {site : Site} {called : List Bool} {facts known : Facts} {list : List Item} (step : Step)
    → is_bare step ≡ true
    → AreWritten site called facts (step ∷ []) list known
    → size_of_items list ≤ bytes_of_step step
bare_small (steps.Part part) is written = absurd (false≢true is)
bare_small step is written = omega (arith, steps_within (step ∷ []) (tt, tt) written)

bare_goes :
    {site : Site} {called : List Bool} {facts known : Facts} {list : List Item}
    (ok : ℕ → Type 0) (step : Step)
    → is_bare step ≡ true
    → JumpTo ok (planned.Code step)
    → AreWritten site called facts (step ∷ []) list known
    → ItemsGo ok list
bare_goes ok (steps.Plain i) is to (PlainWritten NoneWritten) = (tt, tt)
bare_goes ok (steps.Word form place) is to (WordWritten NoneWritten) = (word_goes ok form place, tt)
bare_goes ok (steps.Jump form label) is to (JumpWritten NoneWritten) = (to, tt)
bare_goes ok (steps.Mark label) is to (MarkWritten NoneWritten) = (tt, tt)
bare_goes ok (steps.Holds held) is to (HoldsWritten NoneWritten) = tt
bare_goes ok step is to written = absurd (false≢true is)

module _ {at : BodyGround} (none : at.pushes → ⊥) where
  bare_measured :
      {free : ℕ} {here last : Here} {waiting : Option Facts} {list : List Item} (step : Step)
      → is_bare step ≡ true
      → JumpTo (λ label. MayGo at label) (planned.Code step)
      → AreCarriedOut at.body at.called here waiting (planned.Code step ∷ []) list last
      → ItemsMeasured at free list free (bytes_of_step step)
  unfolding carried_steps
  bare_measured {free = free} step is to (StepCarriedOut {first = first} {more = more} alone written rest) =
      let one : ItemsMeasured at free first free (bytes_of_step step) = record {
        room = λ p. absurd (none p);
        small = λ c. bare_small step is written;
        goes = λ c. bare_goes at.ok step is (jump_given at.ok at.counts (planned.Code step) to c) written;
      } in
      items_within (items_then first more one (none_measured {most = 0} rest)) (λ c. omega arith)

  pub bare_fits :
      {free : ℕ} (step : Step)
      → is_bare step ≡ true
      → JumpTo (λ label. MayGo at label) (planned.Code step)
      → PlanMeasured at free (planned.Code step ∷ []) free (bytes_of_step step)
  bare_fits step is to = record { fits = λ done own. bare_measured step is to done }

  -- an instruction `count` times
  pub repeated_fit : {free : ℕ} (i : Instr) (count : ℕ)
      → PlanMeasured at free (replicate count (plain i)) free (3 * count)
  repeated_fit i zero = none_fit
  repeated_fit i (suc count) =
      less_fits (then_fit (bare_fits (steps.Plain i) refl tt) (repeated_fit i count)) (omega arith)
