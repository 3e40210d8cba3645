-- What was printed of runs that have ended.
use Rattle.commands.proofs.{Prelude.{◌≡◌, ℕ, List, Option, Result, Ok, Err, IfOk, OnErr, ap, subst, ◌∙◌, Appends, AppendsBeginning, Ending, Event, Values, run_report, report_of, quiet_ports, with_place, last_words, EndsRun}, Printed.{nothing_begun}}

-- the events of a run and its last words, the last one of them with the text of its place
module _ (values : Values) (events : List Event) (steps : ℕ) (word text said placed words quiet : List ℕ)
    (old new : Option (List ℕ)) (silent : quiet ≡ quiet_ports values) (spelled : said ≡ text)
    (place : placed ≡ with_place values.watch.place word said)
    (are : words ≡ last_words values.watch.count steps placed) where
  report_is : report_of quiet events words ≡ run_report values events steps word text
  report_is =
      ap (λ (q : List ℕ). report_of q events words) silent
      ∙ ap (report_of (quiet_ports values) events)
      (are ∙ ap (λ (w : List ℕ). last_words values.watch.count steps w)
      (place ∙ ap (λ (t : List ℕ). with_place values.watch.place word t) spelled))

  pub printed : Appends old new (report_of quiet events words)
      → Appends old new (run_report values events steps word text)
  printed all = subst (Appends old new) report_is all

  pub report_begun : AppendsBeginning old new (report_of quiet events words)
      → AppendsBeginning old new (run_report values events steps word text)
  report_begun some = subst (AppendsBeginning old new) report_is some

pub nothing : (values : Values) (events : List Event) (steps : ℕ) (word text : List ℕ) (known : Option (List ℕ))
    → AppendsBeginning known known (run_report values events steps word text)
nothing values events steps word text known = nothing_begun known (run_report values events steps word text)

module _ {E : Type 0} (result : Result Ending E) where
  -- the command ends as the run did
  pub ended_so : (ending : Ending) → EndsRun ending → IfOk result (λ other. other ≡ ending) → IfOk result EndsRun
  ended_so ending ended = by result
    where
      by : (result : Result Ending E) → IfOk result (λ other. other ≡ ending) → IfOk result EndsRun
      by (Ok other) same = rw same ended
      by (Err failure) same = tt

  -- a run that was printed, or not whole
  pub of_printed : (ending : Ending) (P : Ending → Type 0) → result ≡ Ok ending → IfOk result P → P ending
  of_printed ending P same holds = subst (λ (r : Result Ending E). IfOk r P) same holds

  pub of_stopped : (P : Type 0) → IfOk result (λ ending. ⊥) → OnErr result P → P
  of_stopped P = by result
    where
      by : (result : Result Ending E) → IfOk result (λ ending. ⊥) → OnErr result P → P
      by (Ok ending) never holds = absurd never
      by (Err failure) never holds = holds

  -- by other words
  pub printed_as : (P Q : Ending → Type 0) → ((ending : Ending) → P ending → Q ending) → IfOk result P
      → IfOk result Q
  printed_as P Q so = by result
    where
      by : (result : Result Ending E) → IfOk result P → IfOk result Q
      by (Ok ending) holds = so ending holds
      by (Err failure) holds = tt

  pub stopped_as : {P Q : Type 0} → (P → Q) → OnErr result P → OnErr result Q
  stopped_as {P} {Q} so = by result
    where
      by : (result : Result Ending E) → OnErr result P → OnErr result Q
      by (Ok ending) holds = tt
      by (Err failure) holds = so holds
