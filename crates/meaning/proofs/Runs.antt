-- Runs of one program with a budget and with a greater one.
use Rattle.meaning.proofs.Prelude.{Ended, Event, Flow, Gave, IsBeginning, Lasts, List, More, None, Onward, Option, Outcome, Outside, Placement, Some, Stack, State, Stop, Stopped, Surroundings, TypedModule, [], ap, arith, charge_of, done_list, find, is_main, later_by, nat_lt, option_map_or, refl, starting_memory, subst, suc, with_more, ℕ, ◌+◌, ◌-◌, ◌≡◌}
use Rattle.meaning.specs.Run.{Run, main_done, number_of_main, run_of, source_run}
use Rattle.meaning.proofs.Added.{later_adds}
use Rattle.meaning.proofs.KeptCalls.{later_keeps}
use Rattle.meaning.proofs.Lasting.{lasts_if, lasts_list, later_lasts}

-- A run with more budget: it is the same, but where the first wanted more it goes on from there.
abbrev pub LastsAs : (end : Stop) → Run → Run → Type 0
LastsAs Ended one other = other ≡ one
LastsAs (Outside reason) one other = other ≡ one
LastsAs More one other = IsBeginning one.events other.events

module _ (more : ℕ) where
  of_outcomes : (outcome other : Outcome Flow) → Lasts more outcome other
      → LastsAs (run_of outcome).end (run_of outcome) (run_of other)
  of_outcomes (Gave flow s) other lasts = ap run_of lasts
  of_outcomes (Stopped Ended s) other lasts = ap run_of lasts
  of_outcomes (Stopped (Outside reason) s) other lasts = ap run_of lasts
  of_outcomes (Stopped More s) (Gave flow t) lasts = lasts
  of_outcomes (Stopped More s) (Stopped why t) lasts = lasts

  main_lasts : (budget : ℕ) (typed : TypedModule) (around : Surroundings) (s : State) → s.budget ≡ budget
      → Lasts more (main_done budget typed around s)
      (main_done (budget + more) typed around (with_more more s))
  main_lasts budget typed around s is =
      let within : Surroundings = record around { room = around.room - charge_of typed.main } in
      let same : suc budget + more ≡ suc (budget + more) = omega arith in
      let rest : Lasts more (done_list (later_by (suc budget)) within typed.main.body s)
      (done_list (later_by (suc (budget + more))) within typed.main.body (with_more more s)) =
      subst (λ count. Lasts more (done_list (later_by (suc budget)) within typed.main.body s)
      (done_list (later_by count) within typed.main.body (with_more more s))) same
      (lasts_list more (suc budget) (later_by (suc budget)) (later_by (suc budget + more))
      (later_keeps (suc budget)) (later_adds (suc budget + more)) (later_lasts (suc budget) more)
      typed.main.body within s (omega (arith, is))) in
      lasts_if more (nat_lt around.room (charge_of typed.main)) (Stopped (Outside Stack) s)
      (done_list (later_by (suc budget)) within typed.main.body s)
      (Stopped (Outside Stack) (with_more more s))
      (done_list (later_by (suc (budget + more))) within typed.main.body (with_more more s))
      (λ on. refl) (λ off. rest)

  found_lasts : (budget : ℕ) (found : Option TypedModule) (around : Surroundings) (s : State)
      → s.budget ≡ budget
      → Lasts more
      (option_map_or (λ (typed : TypedModule). main_done budget typed around s) found (Gave Onward s))
      (option_map_or (λ (typed : TypedModule). main_done (budget + more) typed around (with_more more s))
      found (Gave Onward (with_more more s)))
  found_lasts budget None around s is = refl
  found_lasts budget (Some typed) around s is = main_lasts budget typed around s is

  pub runs_last : (modules : List TypedModule) (placement : Placement) (room : ℕ) (memory : List ℕ)
      (script : List (List ℕ)) (events : List Event) (budget : ℕ)
      → LastsAs (source_run modules placement room memory script events budget).end
      (source_run modules placement room memory script events budget)
      (source_run modules placement room memory script events (budget + more))
  unfolding source_run
  runs_last modules placement room memory script events budget =
      of_outcomes _ _
      (found_lasts budget (find is_main modules)
      (record { program = record { modules = modules; placement = placement; script = script }; number_of_module = number_of_main modules; room = room })
      (record { memory = starting_memory modules placement memory; frame = []; events = events; budget = budget }) refl)
