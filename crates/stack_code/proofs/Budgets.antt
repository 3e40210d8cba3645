-- Runs of stack code with a budget and with a greater one.
use Rattle.stack_code.proofs.Prelude.{◌≡◌, ℕ, zero, suc, ◌+◌, ◌-◌, ◌%◌, ◌<◌, ◌≤◌, ◌==◌, Bool, true, false, List, [], ◌∷◌, slice_get, nat_lt, Option, Some, None, cond, refl, sym, ap, subst, ◌∙◌, arith, append-nil, option_map_or, MEMORY_SIZE, ScalarType, Byte, Address, charge_of, TypedProcedure, TypedModule, InProgram, as_type, is_true, result_of, Place, InMemory, InTheFrame, read_scalar, write_scalar, Program, Surroundings, charged, computed, moved, procedure_at, State, Ended, More, Outside, Outcome, Gave, Stopped, then_do, Instruction, Call, Machine, Progress, Going, Done, after_first, and_then_steps, arguments_now, argument_of, below, calling, carried_out, entering, is_mark, leaving, looping, machine_in, parameter_set, part_place, progress_of, pushing, returning, spending, stack_run, started, step, steps, top, values_after, Adds}
use Rattle.stack_code.specs.declared.instruction.Instruction.TheVariants as instructions
use Rattle.std.proofs.{Common.{◌/◌}, lemmas.Grind.{common_steps}}
use Rattle.meaning.specs.Access.{is_constant, is_declared, next_place, read_byte, write_byte}
use Rattle.meaning.specs.internal.Kept.{with_more}
use Rattle.stack_code.proofs.Events.{adds_both, adds_calling, adds_steps}

-- ---- what takes none of the budget

-- an outcome with as much budget left as there was, and the same with more
abbrev pub TakesNone : {A : Type 0} → (more budget : ℕ) → (one other : Outcome A) → Type 0
TakesNone more budget (Gave found t) other = (other ≡ Gave found (with_more more t)) × (t.budget ≡ budget)
TakesNone more budget (Stopped (Outside reason) t) other =
    (other ≡ Stopped (Outside reason) (with_more more t)) × (t.budget ≡ budget)
TakesNone more budget (Stopped Ended t) other = ⊥
TakesNone more budget (Stopped More t) other = ⊥

module _ (more : ℕ) where
  none_then : {A B : Type 0} (budget : ℕ) (outcome other : Outcome A) (go else_go : A → State → Outcome B)
      → TakesNone more budget outcome other
      → ((found : A) (t : State) → t.budget ≡ budget
      → TakesNone more budget (go found t) (else_go found (with_more more t)))
      → TakesNone more budget (then_do outcome go) (then_do other else_go)
  none_then budget (Gave found t) other go else_go first rest =
      subst (λ one. TakesNone more budget (go found t) (then_do one else_go)) (sym first.0)
      (rest found t first.1)
  none_then budget (Stopped (Outside reason) t) other go else_go first rest =
      (ap (λ one. then_do one else_go) first.0, first.1)
  none_then budget (Stopped Ended t) other go else_go first rest = absurd first
  none_then budget (Stopped More t) other go else_go first rest = absurd first

  none_if : {A : Type 0} (budget : ℕ) (test : Bool) (one else_one other else_other : Outcome A)
      → TakesNone more budget one other → TakesNone more budget else_one else_other
      → TakesNone more budget (cond test one else_one) (cond test other else_other)
  none_if budget true one else_one other else_other first second = first
  none_if budget false one else_one other else_other first second = second

  -- from a state with that budget
  none_from : {A : Type 0} (budget : ℕ) (t : State) (go : State → Outcome A) → t.budget ≡ budget
      → TakesNone more t.budget (go t) (go (with_more more t))
      → TakesNone more budget (go t) (go (with_more more t))
  none_from budget t go same first = subst (λ b. TakesNone more b (go t) (go (with_more more t))) same first

  module _ (program : Program) where
    none_read : (place : Place) (s : State)
        → TakesNone more s.budget (read_byte program place s) (read_byte program place (with_more more s))
    none_read (InMemory address) s =
        none_if s.budget (is_declared program address) _ _ _ _ (refl, refl) (refl, refl)
    none_read (InTheFrame object offset is_inside) s =
        none_if s.budget is_inside _ _ _ _ (refl, refl) (refl, refl)

    none_write : (place : Place) (byte : ℕ) (s : State)
        → TakesNone more s.budget (write_byte program place byte s)
        (write_byte program place byte (with_more more s))
    none_write (InMemory address) byte s =
        none_if s.budget (is_declared program address) _ _ _ _
        (none_if s.budget (is_constant program address) _ _ _ _ (refl, refl) (refl, refl)) (refl, refl)
    none_write (InTheFrame object offset is_inside) byte s =
        none_if s.budget is_inside _ _ _ _ (refl, refl) (refl, refl)

    none_read_scalar : (scalar : ScalarType) (place : Place) (s : State)
        → TakesNone more s.budget (read_scalar program scalar place s)
        (read_scalar program scalar place (with_more more s))
    none_read_scalar Byte place s = none_read place s
    none_read_scalar Address place s =
        none_then s.budget (read_byte program place s)
        (read_byte program place (with_more more s)) _ _ (none_read place s)
        (λ low t same.
        none_then s.budget (read_byte program (next_place place) t)
        (read_byte program (next_place place) (with_more more t)) _ _
        (none_from s.budget t (λ u. read_byte program (next_place place) u) same
        (none_read (next_place place) t)) (λ high u last. (refl, last)))

    none_write_scalar : (scalar : ScalarType) (place : Place) (number : ℕ) (s : State)
        → TakesNone more s.budget (write_scalar program scalar place number s)
        (write_scalar program scalar place number (with_more more s))
    none_write_scalar Byte place number s = none_write place (number % 256) s
    none_write_scalar Address place number s =
        none_then s.budget (write_byte program place (number % 256) s)
        (write_byte program place (number % 256) (with_more more s)) _ _
        (none_write place (number % 256) s)
        (λ done t same. none_from s.budget t (λ u. write_byte program (next_place place) (number / 256) u)
        same (none_write (next_place place) (number / 256) t))

    none_moved : (count source destination budget : ℕ) (s : State) → s.budget ≡ budget
        → TakesNone more budget (moved program count source destination s)
        (moved program count source destination (with_more more s))
    none_moved zero source destination budget s same = (refl, same)
    none_moved (suc count) source destination budget s same =
        none_then budget (read_byte program (InMemory (source % MEMORY_SIZE)) s)
        (read_byte program (InMemory (source % MEMORY_SIZE)) (with_more more s)) _ _
        (none_from budget s (λ u. read_byte program (InMemory (source % MEMORY_SIZE)) u) same
        (none_read (InMemory (source % MEMORY_SIZE)) s))
        (λ byte t next.
        none_then budget (write_byte program (InMemory (destination % MEMORY_SIZE)) byte t)
        (write_byte program (InMemory (destination % MEMORY_SIZE)) byte (with_more more t)) _ _
        (none_from budget t (λ u. write_byte program (InMemory (destination % MEMORY_SIZE)) byte u) next
        (none_write (InMemory (destination % MEMORY_SIZE)) byte t))
        (λ done u last. none_moved count (source + 1) (destination + 1) budget u last))

  none_computed : (found : Option ℕ) (s : State)
      → TakesNone more s.budget (computed found s) (computed found (with_more more s))
  none_computed (Some found) s = (refl, refl)
  none_computed None s = (refl, refl)

  none_pushing : (budget : ℕ) (outcome other : Outcome ℕ) (values : List ℕ)
      → TakesNone more budget outcome other
      → TakesNone more budget (pushing outcome values) (pushing other values)
  none_pushing budget outcome other values first =
      none_then budget outcome other _ _ first (λ number t same. (refl, same))

  none_leaving : (budget : ℕ) (outcome other : Outcome (Unit {0})) (values : List ℕ)
      → TakesNone more budget outcome other
      → TakesNone more budget (leaving outcome values) (leaving other values)
  none_leaving budget outcome other values first =
      none_then budget outcome other _ _ first (λ done t same. (refl, same))

  none_parameter : (around : Surroundings) (scalar : ScalarType) (place : Place) (found : Option ℕ)
      (values : List ℕ) (s : State)
      → TakesNone more s.budget (parameter_set around scalar place found values s)
      (parameter_set around scalar place found values (with_more more s))
  none_parameter around scalar place None values s = (refl, refl)
  none_parameter around scalar place (Some number) values s =
      none_leaving s.budget _ _ values (none_write_scalar around.program scalar place number s)

  none_values : (instruction : Instruction) (around : Surroundings) (arguments : ℕ)
      (values : List ℕ) (s : State)
      → TakesNone more s.budget (values_after instruction around arguments values s)
      (values_after instruction around arguments values (with_more more s))
  none_values (instructions.Push number) around arguments values s = (refl, refl)
  none_values instructions.Drop around arguments values s = (refl, refl)
  none_values (instructions.ReadAt scalar address) around arguments values s =
      none_pushing s.budget _ _ values (none_read_scalar around.program scalar (InMemory address) s)
  none_values (instructions.WriteAt scalar address) around arguments values s =
      none_leaving s.budget _ _ values
      (none_write_scalar around.program scalar (InMemory address) (as_type scalar (top values)) s)
  none_values (instructions.Read scalar offset) around arguments values s =
      none_pushing s.budget _ _ (below values)
      (none_read_scalar around.program scalar (InMemory ((top values + offset) % MEMORY_SIZE)) s)
  none_values (instructions.Write scalar offset) around arguments values s =
      none_leaving s.budget _ _ (below values)
      (none_write_scalar around.program scalar (InMemory ((top values + offset) % MEMORY_SIZE))
      (as_type scalar (top (below values))) s)
  none_values (instructions.ReadFrame scalar part) around arguments values s =
      none_pushing s.budget _ _ _ (none_read_scalar around.program scalar (part_place part values) s)
  none_values (instructions.WriteFrame scalar part) around arguments values s =
      none_leaving s.budget _ _ _ (none_write_scalar around.program scalar (part_place part values) _ s)
  none_values (instructions.LocateFrame part) around arguments values s = (refl, refl)
  none_values (instructions.Scale stride) around arguments values s = (refl, refl)
  none_values (instructions.Advance number) around arguments values s = (refl, refl)
  none_values instructions.Sum around arguments values s = (refl, refl)
  none_values (instructions.Convert scalar) around arguments values s = (refl, refl)
  none_values (instructions.Unary scalar operator) around arguments values s = (refl, refl)
  none_values (instructions.Binary operands operator) around arguments values s =
      none_pushing s.budget _ _ (below (below values))
      (none_computed (result_of operands operator (top (below values)) (top values)) s)
  none_values (instructions.BinaryWith operands operator right) around arguments values s =
      none_pushing s.budget _ _ (below values)
      (none_computed (result_of operands operator (top values) right) s)
  none_values (instructions.Function function) around arguments values s = (refl, refl)
  none_values (instructions.Shift scalar function) around arguments values s = (refl, refl)
  none_values (instructions.Step scalar) around arguments values s = (refl, refl)
  none_values (instructions.Input port) around arguments values s = (refl, refl)
  none_values (instructions.Output port) around arguments values s = (refl, refl)
  none_values instructions.Move around arguments values s =
      none_leaving s.budget _ _ (below (below (below values)))
      (none_moved around.program (top (below (below values))) (top (below values))
      (top values) s.budget s refl)
  none_values (instructions.Parameter index scalar address) around arguments values s =
      none_parameter around scalar (InMemory address) (argument_of arguments index values) values s
  none_values (instructions.FrameParameter index scalar object) around arguments values s =
      none_parameter around scalar (InTheFrame object 0 true) (argument_of arguments index values) values s
  none_values instructions.Discard around arguments values s = (refl, refl)
  none_values (instructions.Mark number_of_module label) around arguments values s = (refl, refl)
  none_values (instructions.Begin number_of_module procedure) around arguments values s = (refl, refl)
  none_values (instructions.Jump count) around arguments values s = (refl, refl)
  none_values (instructions.JumpUnless count) around arguments values s = (refl, refl)
  none_values (instructions.LoopBack count) around arguments values s = (refl, refl)
  none_values (instructions.Case count) around arguments values s = (refl, refl)
  none_values (instructions.Goto number_of_module label) around arguments values s = (refl, refl)
  none_values (instructions.Call number_of_module procedure many) around arguments values s = (refl, refl)
  none_values instructions.Return around arguments values s = (refl, refl)
  none_values instructions.Halt around arguments values s = (refl, refl)

  none_charged : (charge : ℕ) (around : Surroundings) (s : State)
      → TakesNone more s.budget (charged charge around s (λ within t. Gave within t))
      (charged charge around (with_more more s) (λ within t. Gave within t))
  none_charged charge around s =
      none_if s.budget (nat_lt around.room charge) _ _ _ _ (refl, refl) (refl, refl)

-- ---- the budget does not grow

abbrev pub left_in : Progress → ℕ
left_in (Going m) = m.state.budget
left_in (Done why s) = s.budget

-- after some progress no more of it is left than before, and none where the run wants more
abbrev pub Sinks : (budget : ℕ) → Progress → Type 0
Sinks budget (Going m) = m.state.budget ≤ budget
Sinks budget (Done Ended s) = s.budget ≤ budget
Sinks budget (Done (Outside reason) s) = s.budget ≤ budget
Sinks budget (Done More s) = s.budget ≡ 0

pub left_within_budget : (budget : ℕ) (progress : Progress) → Sinks budget progress
    → left_in progress ≤ budget
left_within_budget budget (Going m) sinks = sinks
left_within_budget budget (Done Ended s) sinks = sinks
left_within_budget budget (Done (Outside reason) s) sinks = sinks
left_within_budget budget (Done More s) sinks = omega (arith, sinks)

sinks_from : (budget less : ℕ) (progress : Progress) → less ≤ budget → Sinks less progress
    → Sinks budget progress
sinks_from budget less (Going m) within sinks = omega (arith, within, sinks)
sinks_from budget less (Done Ended s) within sinks = omega (arith, within, sinks)
sinks_from budget less (Done (Outside reason) s) within sinks = omega (arith, within, sinks)
sinks_from budget less (Done More s) within sinks = sinks

sinks_progress : {A : Type 0} (budget : ℕ) (outcome other : Outcome A) (go : A → State → Machine)
    → TakesNone 0 budget outcome other → ((found : A) (t : State) → (go found t).state.budget ≡ t.budget)
    → Sinks budget (progress_of outcome go)
sinks_progress budget (Gave found t) other go takes same = omega (arith, takes.1, same found t)
sinks_progress budget (Stopped (Outside reason) t) other go takes same = omega (arith, takes.1)
sinks_progress budget (Stopped Ended t) other go takes same = absurd takes
sinks_progress budget (Stopped More t) other go takes same = absurd takes

sinks_spending : (s : State) (go : State → Progress) → ((t : State) → Sinks t.budget (go t))
    → Sinks s.budget (spending s go)
sinks_spending s go rest = by_test (s.budget == 0) refl
  where
    by_test : (test : Bool) → (s.budget == 0) ≡ test
        → Sinks s.budget (cond test (Done More s) (go (record s { budget = s.budget - 1 })))
    by_test true is = grind (arith, common_steps, is)
    by_test false is =
        sinks_from s.budget (s.budget - 1) (go (record s { budget = s.budget - 1 })) (omega arith)
        (rest (record s { budget = s.budget - 1 }))

sinks_looping : (m : Machine) (count : ℕ) (test : Bool) → Sinks m.state.budget (looping m count test)
sinks_looping m count true =
    sinks_spending m.state (λ s. Going (record m { at = m.at - count; values = below m.values; state = s }))
    (λ t. omega arith)
sinks_looping m count false = omega arith

sinks_returning : (m : Machine) (calls : List Call) → Sinks m.state.budget (returning m calls)
sinks_returning m [] = omega arith
sinks_returning m (call ∷ calls) = omega arith

sinks_calling : (code : List Instruction) (m : Machine) (at : InProgram) (arguments : ℕ) (s : State)
    (found : Option (TypedModule × TypedProcedure))
    → Sinks s.budget
    (option_map_or (λ (one : TypedModule × TypedProcedure). entering code m at arguments one s)
    found (Done Ended s))
sinks_calling code m at arguments s None = omega arith
sinks_calling code m at arguments s (Some found) =
    sinks_progress s.budget
    (charged (charge_of found.1) (record m.around { number_of_module = at.number_of_module }) s
    (λ within t. Gave within t)) _ _
    (none_charged 0 (charge_of found.1) (record m.around { number_of_module = at.number_of_module }) s)
    (λ within t. refl)

sinks_by_values : (instruction : Instruction) (m : Machine)
    → Sinks m.state.budget
    (progress_of (values_after instruction m.around (arguments_now m.calls) m.values m.state)
    (λ values s. record m { at = m.at + 1; values = values; state = s }))
sinks_by_values instruction m =
    sinks_progress m.state.budget
    (values_after instruction m.around (arguments_now m.calls) m.values m.state) _
    (λ values s. record m { at = m.at + 1; values = values; state = s })
    (none_values 0 instruction m.around (arguments_now m.calls) m.values m.state) (λ values s. refl)

sinks_carried : (code : List Instruction) (instruction : Instruction) (m : Machine)
    → Sinks m.state.budget (carried_out code instruction m)
sinks_carried code (instructions.Jump count) m = omega arith
sinks_carried code (instructions.JumpUnless count) m = omega arith
sinks_carried code (instructions.LoopBack count) m = sinks_looping m count (is_true (top m.values))
sinks_carried code (instructions.Case count) m = omega arith
sinks_carried code (instructions.Goto number_of_module label) m =
    sinks_spending m.state
    (λ s. Going (record m { at = after_first (is_mark number_of_module label) code; state = s }))
    (λ t. omega arith)
sinks_carried code (instructions.Call number_of_module procedure arguments) m =
    let at : InProgram = record { number_of_module = number_of_module; number = procedure } in
    sinks_spending m.state (λ s. calling code m at arguments s)
    (λ t. sinks_calling code m at arguments t (procedure_at m.around.program.modules at))
sinks_carried code instructions.Return m = sinks_returning m m.calls
sinks_carried code instructions.Halt m = omega arith
sinks_carried code instruction m = sinks_by_values instruction m

sinks_after : (budget : ℕ) (progress : Progress) (go : Machine → Progress) → Sinks budget progress
    → ((n : Machine) → Sinks n.state.budget (go n)) → Sinks budget (and_then_steps progress go)
sinks_after budget (Going n) go sinks rest = sinks_from budget n.state.budget (go n) sinks (rest n)
sinks_after budget (Done why t) go sinks rest = sinks

module _ (code : List Instruction) where
  sinks_found : (m : Machine) (found : Option Instruction)
      → Sinks m.state.budget
      (option_map_or (λ instruction. carried_out code instruction m) found (Done Ended m.state))
  sinks_found m None = omega arith
  sinks_found m (Some instruction) = sinks_carried code instruction m

  -- along any number of steps the budget does not grow
  sinks_steps : (count : ℕ) (m : Machine) → Sinks m.state.budget (steps code count m)
  sinks_steps zero m = omega arith
  sinks_steps (suc count) m =
      sinks_after m.state.budget (step code m) (steps code count) (sinks_found m (slice_get code m.at))
      (λ n. sinks_steps count n)

  pub sinks_run : (main : TypedModule) (around : Surroundings) (s : State) (count : ℕ)
      → Sinks s.budget (stack_run code main around s count)
  sinks_run main around s count =
      sinks_after s.budget (started main around s) (steps code count)
      (sinks_progress s.budget (charged (charge_of main.main) around s (λ within t. Gave within t)) _
      machine_in (none_charged 0 (charge_of main.main) around s) (λ within t. refl))
      (λ n. sinks_steps count n)

-- ---- with more budget

abbrev pub more_in : ℕ → Machine → Machine
more_in more m = record m { state = with_more more m.state }

-- A run with more budget: it is the same, with so much more left; but where the first wanted more it goes on
-- from there, and then less than that is left.
abbrev pub LastsOn : ℕ → Progress → Progress → Type 0
LastsOn more (Going n) other = other ≡ Going (more_in more n)
LastsOn more (Done Ended s) other = other ≡ Done Ended (with_more more s)
LastsOn more (Done (Outside reason) s) other = other ≡ Done (Outside reason) (with_more more s)
LastsOn more (Done More s) other = Adds s other × (left_in other < more)

module _ (more : ℕ) (some : 1 ≤ more) where
  lasts_progress : {A : Type 0} (budget : ℕ) (outcome other : Outcome A) (go else_go : A → State → Machine)
      → TakesNone more budget outcome other
      → ((found : A) (t : State) → else_go found (with_more more t) ≡ more_in more (go found t))
      → LastsOn more (progress_of outcome go) (progress_of other else_go)
  lasts_progress budget (Gave found t) other go else_go takes same =
      ap (λ one. progress_of one else_go) takes.0 ∙ ap (λ (m : Machine). Going m) (same found t)
  lasts_progress budget (Stopped (Outside reason) t) other go else_go takes same =
      ap (λ one. progress_of one else_go) takes.0
  lasts_progress budget (Stopped Ended t) other go else_go takes same = absurd takes
  lasts_progress budget (Stopped More t) other go else_go takes same = absurd takes

  -- where one of the budget is taken
  spent_by : (s : State) (go else_go : State → Progress) (test second : Bool) → (s.budget == 0) ≡ test
      → (s.budget + more == 0) ≡ second
      → ((t : State) → LastsOn more (go t) (else_go (with_more more t)))
      → ((t : State) → t.events ≡ s.events → Adds s (else_go t))
      → ((t : State) → Sinks t.budget (else_go t))
      → LastsOn more (cond test (Done More s) (go (record s { budget = s.budget - 1 })))
      (cond second (Done More (with_more more s)) (else_go (record s { budget = s.budget + more - 1 })))
  spent_by s go else_go test true one two lasts adds sinks = absurd (grind (arith, common_steps, some, two))
  spent_by s go else_go true false one two lasts adds sinks =
      let none : s.budget ≡ 0 = grind (arith, common_steps, one) in
      let less =
      left_within_budget (s.budget + more - 1) (else_go (record s { budget = s.budget + more - 1 }))
      (sinks (record s { budget = s.budget + more - 1 })) in
      (adds (record s { budget = s.budget + more - 1 }) refl, omega (arith, none, less, some))
  spent_by s go else_go false false one two lasts adds sinks =
      let at_least : 1 ≤ s.budget = grind (arith, common_steps, one) in
      let same : (s.budget - 1) + more ≡ s.budget + more - 1 = omega (arith, at_least) in
      subst (λ budget. LastsOn more (go (record s { budget = s.budget - 1 }))
      (else_go (record s { budget = budget }))) same (lasts (record s { budget = s.budget - 1 }))

  lasts_spending : (s : State) (go else_go : State → Progress)
      → ((t : State) → LastsOn more (go t) (else_go (with_more more t)))
      → ((t : State) → t.events ≡ s.events → Adds s (else_go t))
      → ((t : State) → Sinks t.budget (else_go t))
      → LastsOn more (spending s go) (spending (with_more more s) else_go)
  lasts_spending s go else_go lasts adds sinks =
      spent_by s go else_go (s.budget == 0) (s.budget + more == 0) refl refl lasts adds sinks

  lasts_looping : (m : Machine) (count : ℕ) (test : Bool)
      → LastsOn more (looping m count test) (looping (more_in more m) count test)
  lasts_looping m count true =
      lasts_spending m.state (λ s. Going (record m { at = m.at - count; values = below m.values; state = s }))
      (λ s. Going (record m { at = m.at - count; values = below m.values; state = s }))
      (λ t. refl) (λ t same. ([], same ∙ sym (append-nil m.state.events))) (λ t. omega arith)
  lasts_looping m count false = refl

  lasts_returning : (m : Machine) (calls : List Call)
      → LastsOn more (returning m calls) (returning (more_in more m) calls)
  lasts_returning m [] = refl
  lasts_returning m (call ∷ calls) = refl

  lasts_calling : (code : List Instruction) (m : Machine) (at : InProgram) (arguments : ℕ) (t : State)
      (found : Option (TypedModule × TypedProcedure))
      → LastsOn more
      (option_map_or (λ (one : TypedModule × TypedProcedure). entering code m at arguments one t)
      found (Done Ended t))
      (option_map_or (λ (one : TypedModule × TypedProcedure). entering code (more_in more m) at arguments one
      (with_more more t)) found (Done Ended (with_more more t)))
  lasts_calling code m at arguments t None = refl
  lasts_calling code m at arguments t (Some found) =
      lasts_progress t.budget
      (charged (charge_of found.1) (record m.around { number_of_module = at.number_of_module }) t
      (λ within u. Gave within u)) _ _ _
      (none_charged more (charge_of found.1) (record m.around { number_of_module = at.number_of_module }) t)
      (λ within u. refl)

  lasts_by_values : (instruction : Instruction) (m : Machine)
      → LastsOn more
      (progress_of (values_after instruction m.around (arguments_now m.calls) m.values m.state)
      (λ values s. record m { at = m.at + 1; values = values; state = s }))
      (progress_of (values_after instruction m.around (arguments_now m.calls) m.values
      (with_more more m.state)) (λ values s. record m { at = m.at + 1; values = values; state = s }))
  lasts_by_values instruction m =
      lasts_progress m.state.budget
      (values_after instruction m.around (arguments_now m.calls) m.values m.state) _
      (λ values s. record m { at = m.at + 1; values = values; state = s })
      (λ values s. record m { at = m.at + 1; values = values; state = s })
      (none_values more instruction m.around (arguments_now m.calls) m.values m.state) (λ values s. refl)

  lasts_carried : (code : List Instruction) (instruction : Instruction) (m : Machine)
      → LastsOn more (carried_out code instruction m) (carried_out code instruction (more_in more m))
  lasts_carried code (instructions.Jump count) m = refl
  lasts_carried code (instructions.JumpUnless count) m = refl
  lasts_carried code (instructions.LoopBack count) m = lasts_looping m count (is_true (top m.values))
  lasts_carried code (instructions.Case count) m = refl
  lasts_carried code (instructions.Goto number_of_module label) m =
      lasts_spending m.state
      (λ s. Going (record m { at = after_first (is_mark number_of_module label) code; state = s }))
      (λ s. Going (record m { at = after_first (is_mark number_of_module label) code; state = s }))
      (λ t. refl) (λ t same. ([], same ∙ sym (append-nil m.state.events))) (λ t. omega arith)
  lasts_carried code (instructions.Call number_of_module procedure arguments) m =
      let at : InProgram = record { number_of_module = number_of_module; number = procedure } in
      lasts_spending m.state (λ s. calling code m at arguments s)
      (λ s. calling code (more_in more m) at arguments s)
      (λ t. lasts_calling code m at arguments t (procedure_at m.around.program.modules at))
      (λ t same. adds_calling code (more_in more m) at arguments t
      (procedure_at m.around.program.modules at) same)
      (λ t. sinks_calling code (more_in more m) at arguments t (procedure_at m.around.program.modules at))
  lasts_carried code instructions.Return m = lasts_returning m m.calls
  lasts_carried code instructions.Halt m = refl
  lasts_carried code instruction m = lasts_by_values instruction m

  module _ (code : List Instruction) where
    lasts_found : (m : Machine) (found : Option Instruction)
        → LastsOn more
        (option_map_or (λ instruction. carried_out code instruction m) found (Done Ended m.state))
        (option_map_or (λ instruction. carried_out code instruction (more_in more m)) found
        (Done Ended (with_more more m.state)))
    lasts_found m None = refl
    lasts_found m (Some instruction) = lasts_carried code instruction m

    lasts_after : (one other : Progress) (count : ℕ) → LastsOn more one other
        → ((n : Machine) → LastsOn more (steps code count n) (steps code count (more_in more n)))
        → LastsOn more (and_then_steps one (steps code count)) (and_then_steps other (steps code count))
    lasts_after (Going n) other count same rest =
        subst (λ progress. LastsOn more (steps code count n) (and_then_steps progress (steps code count)))
        (sym same) (rest n)
    lasts_after (Done Ended s) other count same rest =
        ap (λ progress. and_then_steps progress (steps code count)) same
    lasts_after (Done (Outside reason) s) other count same rest =
        ap (λ progress. and_then_steps progress (steps code count)) same
    lasts_after (Done More s) (Going n) count wants rest =
        let less = left_within_budget n.state.budget (steps code count n) (sinks_steps code count n) in
        (adds_both s n.state (steps code count n) wants.0 (adds_steps code count n), omega (arith, less, wants.1))
    lasts_after (Done More s) (Done why t) count wants rest = wants

    -- along any number of steps
    lasts_steps : (count : ℕ) (m : Machine)
        → LastsOn more (steps code count m) (steps code count (more_in more m))
    lasts_steps zero m = refl
    lasts_steps (suc count) m =
        lasts_after (step code m) (step code (more_in more m)) count (lasts_found m (slice_get code m.at))
        (λ n. lasts_steps count n)

    pub lasts_run : (main : TypedModule) (around : Surroundings) (s : State) (count : ℕ)
        → LastsOn more (stack_run code main around s count)
        (stack_run code main around (with_more more s) count)
    lasts_run main around s count =
        lasts_after (started main around s) (started main around (with_more more s)) count
        (lasts_progress s.budget (charged (charge_of main.main) around s (λ within t. Gave within t)) _
        machine_in machine_in (none_charged more (charge_of main.main) around s) (λ within t. refl))
        (λ n. lasts_steps count n)
