-- Runs of images that were printed.
use Rattle.commands.proofs.{Prelude.{◌≡◌, ℕ, Bool, true, false, List, [], Option, Some, Result, Ok, Err, inl, inr, refl, sym, ap, subst, ◌∙◌, IfOk, OnErr, OnOk, Appends, AppendsBeginning, Event, Ending, status_of, Values, started, IsStart, GivesInput, ImageDoes, PrintsImage, machine_status, machine_word, run_report, Absolute, report_of, BeginsRun, PrintsRun, end_word, Machine, IsRun, End, StopsImage, quiet_ports, outputs_of, NamesPlace, StandsAt, no_names, with_place, CarriesOut, DoesOnMachine, last_words, EndsOnMachine, Outcome, told_of}, Printed.{stays_written, whole_begins}}

pub nothing : (names : List (List ℕ)) (values : Values) (image : Absolute) (known : Option (List ℕ)) → StopsImage names values image known known
nothing names values image known = inl (stays_written known)

-- a run that may read past its input
pub ran_to_end : (values : Values) (from : Machine) (end : End) (machine : Machine) (events : List Event) → values.watch.until_dry ≡ false → events ≡ machine.state.events → IsRun values.limit from end machine
    → DoesOnMachine values.watch.until_dry values.limit from (Some end) events
ran_to_end values from end machine events to_end same run = (machine, run, same, λ on. let bad : false ≡ true = sym to_end ∙ on in cc)

-- from its start an image does this
module _ (values : Values) (image : Absolute) (memory : List ℕ) (script : List (List ℕ)) (before : List Event) (failures : ℕ) (from : Machine) (old new : Option (List ℕ)) (start : IsStart values memory) (gives : GivesInput values.input script)
    (none : before ≡ []) (unfailed : failures ≡ 0) (starts : from ≡ started image memory script before failures) where
  same_start : from ≡ started image memory script [] 0
  same_start = starts ∙ ap (λ (es : List Event). started image memory script es failures) none ∙ ap (λ (n : ℕ). started image memory script [] n) unfailed

  module _ (end : Option End) (events : List Event) (steps place : ℕ) (does : DoesOnMachine values.watch.until_dry values.limit from end events) (counted : values.watch.count ≡ true → CarriesOut values.limit from end events steps)
      (stands : values.watch.place ≡ true → StandsAt values.limit from end events place) where
    image_does : ImageDoes values image end events steps place
    image_does = record {
      memory = memory;
      start = start;
      script = script;
      gives = gives;
      does = subst (λ (m : Machine). DoesOnMachine values.watch.until_dry values.limit m end events) same_start does;
      counted = λ counts. subst (λ (m : Machine). CarriesOut values.limit m end events steps) same_start (counted counts);
      stands = λ wanted. subst (λ (m : Machine). StandsAt values.limit m end events place) same_start (stands wanted);
    }

  -- what was printed once it had ended, with this outcome
  module _ (names : List (List ℕ)) (outcome : Outcome) (events seen : List Event) (shown : seen ≡ events)
      (ends : EndsOnMachine names values from outcome events) where
    ended_does : ImageDoes values image ends.end events outcome.steps ends.place
    ended_does =
        image_does ends.end events outcome.steps ends.place ends.does ends.counted (λ wanted. ends.stands)

    report_is : told_of values seen outcome
        ≡ run_report values events outcome.steps (machine_word ends.end) outcome.text.bytes.items
    report_is =
        ap (λ (es : List Event). told_of values es outcome) shown
        ∙ ap (λ (w : List ℕ). run_report values events outcome.steps w outcome.text.bytes.items) ends.word

    pub image_printed : {E : Type 0} (result : Result Ending E) (outputs : List (List ℕ))
        → IfOk result (λ ending. ending ≡ outcome.ending) → OnOk result (outputs ≡ outputs_of values seen)
        → OnOk result (Appends old new (told_of values seen outcome))
        → IfOk result (λ ending. PrintsImage names [] values image (status_of ending) outputs old new)
    image_printed (Err failure) outputs same gathered printed = tt
    image_printed (Ok ending) outputs same gathered printed = record {
      end = ends.end;
      events = events;
      steps = outcome.steps;
      place = ends.place;
      text = outcome.text.bytes.items;
      does = ended_does;
      named = λ wanted. ends.named;
      ended = ap status_of same ∙ ends.status;
      gathered = gathered ∙ ap (λ (es : List Event). outputs_of values es) shown;
      printed = subst (λ (l : List ℕ). Appends old new l) report_is printed;
    }

    pub image_begun : {E : Type 0} (result : Result Ending E)
        → OnErr result (AppendsBeginning old new (told_of values seen outcome))
        → OnErr result (StopsImage names values image old new)
    image_begun (Ok ending) begun = tt
    image_begun (Err failure) begun = inr (record {
      end = ends.end;
      events = events;
      steps = outcome.steps;
      place = ends.place;
      text = outcome.text.bytes.items;
      does = ended_does;
      named = λ wanted. ends.named;
      printed = subst (λ (l : List ℕ). AppendsBeginning old new l) report_is begun;
    })

  -- what was printed while it ran, where it is not watched
  module _ (plain : values.watch.count ≡ false) (to_end : values.watch.until_dry ≡ false) (unplaced : values.watch.place ≡ false) (quiet : List ℕ) (silent : quiet ≡ quiet_ports values) where
    not_counted : (end : Option End) (events : List Event) → values.watch.count ≡ true → CarriesOut values.limit from end events 0
    not_counted end events counts = let bad : false ≡ true = sym plain ∙ counts in cc

    not_standing : (end : Option End) (events : List Event) → values.watch.place ≡ true → StandsAt values.limit from end events 0
    not_standing end events wanted = let bad : false ≡ true = sym unplaced ∙ wanted in cc

    not_named : values.watch.place ≡ true → NamesPlace no_names 0 []
    not_named wanted = let bad : false ≡ true = sym unplaced ∙ wanted in cc

    plain_report : (events : List Event) (word : List ℕ) → report_of quiet events word ≡ run_report values events 0 word []
    plain_report events word =
        ap (λ (q : List ℕ). report_of q events word) silent
        ∙ ap (λ (wanted : Bool). report_of (quiet_ports values) events (with_place wanted word [])) (sym unplaced)
        ∙ ap (λ (count : Bool). report_of (quiet_ports values) events (last_words count 0 (with_place values.watch.place word []))) (sym plain)

    plain_does : (end : End) (machine : Machine) → IsRun values.limit from end machine → ImageDoes values image (Some end) machine.state.events 0 0
    plain_does end machine run =
        image_does (Some end) machine.state.events 0 0 (ran_to_end values from end machine machine.state.events to_end refl run) (not_counted (Some end) machine.state.events) (not_standing (Some end) machine.state.events)

    pub plain_printed : (end : End) (machine : Machine) (seen : List Event) (outputs : List (List ℕ)) (status : ℕ)
        → seen ≡ machine.state.events → outputs ≡ outputs_of values seen → status ≡ machine_status (Some end)
        → PrintsRun quiet values.limit from end machine old new
        → PrintsImage no_names [] values image status outputs old new
    plain_printed end machine seen outputs status shown gathered is ran = record {
      end = Some end;
      events = machine.state.events;
      steps = 0;
      place = 0;
      text = [];
      does = plain_does end machine ran.run;
      named = not_named;
      ended = is;
      gathered = gathered ∙ ap (λ (es : List Event). outputs_of values es) shown;
      printed = subst (λ (text : List ℕ). Appends old new text) (plain_report machine.state.events (end_word end)) ran.printed;
    }

    pub plain_begun : BeginsRun quiet values.limit from old new → StopsImage no_names values image old new
    plain_begun ran = inr (record {
      end = Some ran.end;
      events = ran.machine.state.events;
      steps = 0;
      place = 0;
      text = [];
      does = plain_does ran.end ran.machine ran.run;
      named = not_named;
      printed = subst (λ (text : List ℕ). AppendsBeginning old new text) (plain_report ran.machine.state.events (end_word ran.end)) ran.printed;
    })

    -- a run that was printed whole, of which not all was gathered
    pub plain_whole : (end : End) (machine : Machine) → PrintsRun quiet values.limit from end machine old new → StopsImage no_names values image old new
    plain_whole end machine ran = plain_begun (record { end = end; machine = machine; run = ran.run; printed = whole_begins old new _ ran.printed })
