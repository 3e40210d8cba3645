-- Runs of sources that were printed.
use Rattle.commands.proofs.{Prelude.{◌≡◌, ℕ, Bool, true, false, List, [], ◌∷◌, ◌++◌, Option, Some, None, Result, Ok, Err, IfOk, OnErr, OnOk, inr, refl, sym, ap, subst, ◌∙◌, Appends, AppendsBeginning, Ending, status_of, Event, Values, Interpret, Construction, source_of, IsStart, GivesInput, PrintsBuilt, SourceDoes, StopsBuilt, run_report, source_word, IfSome, Stop, Run, StopsBefore, Uses, outputs_of, module_names, DoesAsSource, IsWithinInput, UsesBudget, HasMore, IsPast, RunsSource, EndsAsSource, Outcome, told_of}, PortReads.{passes, read_within, write_within}}
use Rattle.interpreter.specs.RunFault.TheVariants as faults

-- a run of the source is one of what was built
module _ (one other : ℕ → Run) (same : one ≡ other) (budget used : ℕ) (events : List Event) where
  pub stops_so : (stop : Stop) → one budget ≡ record { end = stop; events = events } → Uses one budget stop used → RunsSource other budget (Some stop) None events used
  stops_so stop means uses = subst (λ (runs : ℕ → Run). RunsSource runs budget (Some stop) None events used) same (refl, means, uses)

  pub reads_so : (port : ℕ) → StopsBefore one budget (faults.Input port) events used → RunsSource other budget None (Some port) events used
  reads_so port stops = subst (λ (runs : ℕ → Run). RunsSource runs budget None (Some port) events used) same (record { next = stops.next; of_read = stops.is_call; of_write = λ none. cc; begins = stops.begins; used_is = stops.used_is })

  pub writes_so : (port : ℕ) → StopsBefore one budget (faults.Output port) events used → RunsSource other budget None None events used
  writes_so port stops = subst (λ (runs : ℕ → Run). RunsSource runs budget None None events used) same (record { next = stops.next; of_read = tt; of_write = λ none. stops.is_call.0; begins = stops.begins; used_is = stops.used_is })

-- what a run does is what the values want
module _ (until_dry : Bool) (script : List (List ℕ)) (runs : ℕ → Run) (limit : ℕ) (read : Option ℕ) (events : List Event) (used : ℕ) where
  -- a port that failed was not read past its input
  failed_within : (next : Event) (read : Option ℕ) → IfSome read (λ port. (next.write ≡ false) × (next.port ≡ port)) → (read ≡ None → next.write ≡ true) → IsWithinInput script events × HasMore read script events → IsWithinInput script (events ++ next ∷ [])
  failed_within next None of_read of_write known = write_within script events next known.0 (of_write refl)
  failed_within next (Some port) of_read of_write known = read_within script events next known.0 port known.1 of_read.0 of_read.1

  to_end : (end : Option Stop) → RunsSource runs limit end read events used → (until_dry ≡ true → IsWithinInput script events × HasMore read script events) → DoesAsSource until_dry script runs limit (Some end) events
  to_end (Some stop) ran known = (ran.1, λ on. (known on).0)
  to_end None ran known = (ran.next, ran.begins, λ on. failed_within ran.next read ran.of_read ran.of_write (known on))

  to_dry : (end : Option Stop) (read : Option ℕ) → RunsSource runs limit end read events used → until_dry ≡ true → IsWithinInput script events → IsPast read script events → DoesAsSource until_dry script runs limit None events
  to_dry (Some stop) read ran on within past = let bad : ⊥ = subst (λ (port : Option ℕ). IsPast port script events) ran.0 past in absurd bad
  to_dry None None ran on within past = absurd past
  to_dry None (Some port) ran on within past = (on, (ran.next, ran.begins, passes script events ran.next port within past ran.of_read.0 ran.of_read.1))

  used_to_end : (end : Option Stop) → RunsSource runs limit end read events used → UsesBudget runs limit (Some end) events used
  used_to_end (Some stop) ran = ran.2
  used_to_end None ran = (ran.next, ran.used_is)

  used_to_dry : (end : Option Stop) (read : Option ℕ) → RunsSource runs limit end read events used → IsPast read script events → UsesBudget runs limit None events used
  used_to_dry (Some stop) read ran past = let bad : ⊥ = subst (λ (port : Option ℕ). IsPast port script events) ran.0 past in absurd bad
  used_to_dry None read ran past = (ran.next, ran.used_is)

  -- how it ended: at its end, or before a read past the input where it is to end there
  module _ (end : Option Stop) (ran : RunsSource runs limit end read events used)
      (answer : Option (Option Stop)) (same : IfSome answer (λ other. other ≡ end))
      (dry : answer ≡ None → IsPast read script events) where
    pub source_does : (until_dry ≡ true → IsWithinInput script events) → (answer ≡ None → until_dry ≡ true)
        → (until_dry ≡ true → IfSome answer (λ other. HasMore read script events))
        → DoesAsSource until_dry script runs limit answer events
    source_does within = by answer same dry
      where
        by : (answer : Option (Option Stop)) → IfSome answer (λ other. other ≡ end)
            → (answer ≡ None → IsPast read script events) → (answer ≡ None → until_dry ≡ true)
            → (until_dry ≡ true → IfSome answer (λ other. HasMore read script events))
            → DoesAsSource until_dry script runs limit answer events
        by None same dry on more = to_dry end read ran (on refl) (within (on refl)) (dry refl)
        by (Some other) same dry on more =
            subst (λ (e : Option Stop). DoesAsSource until_dry script runs limit (Some e) events) (sym same)
            (to_end end ran (λ wanted. (within wanted, more wanted)))

    pub source_uses : UsesBudget runs limit answer events used
    source_uses = by answer same dry
      where
        by : (answer : Option (Option Stop)) → IfSome answer (λ other. other ≡ end)
            → (answer ≡ None → IsPast read script events) → UsesBudget runs limit answer events used
        by None same dry = used_to_dry end read ran (dry refl)
        by (Some other) same dry =
            subst (λ (e : Option Stop). UsesBudget runs limit (Some e) events used) (sym same)
            (used_to_end end ran)

-- what was printed of it, with this outcome
module _ (values : Values) (built : Construction) (memory : List ℕ) (script : List (List ℕ)) (before : List Event)
    (old new : Option (List ℕ)) (start : IsStart values memory) (gives : GivesInput values.input script)
    (none : before ≡ []) (outcome : Outcome) (events seen : List Event) (shown : seen ≡ events)
    (ends : EndsAsSource (module_names built.program) values script (source_of built memory script before)
    outcome events) where
  runs_are : source_of built memory script before ≡ source_of built memory script []
  runs_are = ap (λ (es : List Event). source_of built memory script es) none

  source_done : SourceDoes values built ends.end events outcome.steps
  source_done = record {
    memory = memory;
    start = start;
    script = script;
    gives = gives;
    does = subst
        (λ (runs : ℕ → Run). DoesAsSource values.watch.until_dry script runs values.limit ends.end events)
        runs_are ends.does;
    counted = λ counts.
        subst (λ (runs : ℕ → Run). UsesBudget runs values.limit ends.end events outcome.steps)
        runs_are ends.counted;
  }

  report_is : told_of values seen outcome
      ≡ run_report values events outcome.steps (source_word ends.end) outcome.text.bytes.items
  report_is =
      ap (λ (es : List Event). told_of values es outcome) shown
      ∙ ap (λ (w : List ℕ). run_report values events outcome.steps w outcome.text.bytes.items) ends.word

  pub source_printed : {E : Type 0} (result : Result Ending E) (outputs : List (List ℕ))
      → IfOk result (λ ending. ending ≡ outcome.ending) → OnOk result (outputs ≡ outputs_of values seen)
      → OnOk result (Appends old new (told_of values seen outcome))
      → IfOk result (λ ending. PrintsBuilt Interpret [] values built (status_of ending) outputs old new)
  source_printed (Err failure) outputs same gathered printed = tt
  source_printed (Ok ending) outputs same gathered printed = record {
    end = ends.end;
    events = events;
    steps = outcome.steps;
    text = outcome.text.bytes.items;
    does = source_done;
    named = ends.named;
    ended = ap status_of same ∙ ends.status;
    gathered = gathered ∙ ap (λ (es : List Event). outputs_of values es) shown;
    printed = subst (λ (l : List ℕ). Appends old new l) report_is printed;
  }

  pub source_begun : {E : Type 0} (result : Result Ending E)
      → OnErr result (AppendsBeginning old new (told_of values seen outcome))
      → OnErr result (StopsBuilt Interpret [] values built old new)
  unfolding StopsBuilt
  source_begun (Ok ending) begun = tt
  source_begun (Err failure) begun = inr (record {
    end = ends.end;
    events = events;
    steps = outcome.steps;
    text = outcome.text.bytes.items;
    does = source_done;
    named = ends.named;
    printed = subst (λ (l : List ℕ). AppendsBeginning old new l) report_is begun;
  })
