-- Orders to run, with files of ports or without.
use Rattle.commands.proofs.{Prelude.{◌≡◌, ℕ, List, [], Ok, Option, Some, inl, subst, files_stay, Directory, Tells, memory_line, Values, execute_in, outputs_in, program_in, DeliversRun, RefusesAsWanted, RefusesRun, RunsAsWanted, RunsOut, PrintsWith, RefusesWith, RunOrder, Objects, Sources, output_texts, values_wanted, wanted_run}, Delivered.{by_any, delivered_as, plain_run, with_some, without_any}, Executed.{memory_first, prints_execution}, ProgramsTold.{prints_program}, RefusedRuns.{refused_as, refused_unended}, Untold.{for_memory, runs_out}}
use Rattle.commands.specs.Converting.{TellsRun}
use Rattle.commands.specs.OutputFiles.{output_names}
use Rattle.commands.proofs.Executed as of_objects
use Rattle.commands.proofs.Untold as of_sources

-- memory ran out before anything was read
pub memory_with : (order : RunOrder) (values : Values) (files : Option Directory) (before after : ℕ)
    (old new out : Option (List ℕ)) → after ≡ before → Tells memory_line old new
    → RefusesWith order values files before after old new out out
memory_with (Sources order) values files before after old new out same told =
    for_memory _ _ _ _ _ _ _ out same told
memory_with (Objects order) values files before after old new out same told =
    memory_first _ _ _ _ _ _ _ out same told

-- a refusal, with files of ports or without
pub told_by_any : (order : RunOrder) (output : List (List ℕ) → Type 0) (refusal : Type 0) → refusal
    → TellsRun (output_texts order) output refusal
told_by_any order output refusal told = by_any (output_texts order) told (inl told)

-- memory ran out before the values were known
module _ (order : RunOrder) (files : Option Directory) (before after : ℕ) (old new out : Option (List ℕ))
    (same : after ≡ before) where
  pub memory_refused : Tells memory_line old new
      → RefusesAsWanted (wanted_run order) files files before after old new out out
  memory_refused told = by order
    where
      kept : RunsOut before after old new out out
      kept = runs_out before after old new out same told

      lines : RunsOut before after old new (Some []) (Some [])
      lines = runs_out before after old new (Some []) same told

      by : (order : RunOrder) → RefusesAsWanted (wanted_run order) files files before after old new out out
      by (Sources order) = by_any (program_in order.now).output_files
          (of_sources.refuses_memory _ _ _ _ _ _ _ _ kept)
          (refused_unended _ _ _ _ _ _ _ _ _ _ [] (of_sources.refuses_memory _ _ _ _ _ _ _ _ lines) (files_stay files))
      by (Objects order) = by_any (execute_in order.now).output_files
          (of_objects.refuses_memory _ _ _ _ _ _ _ _ kept)
          (refused_unended _ _ _ _ _ _ _ _ _ _ [] (of_objects.refuses_memory _ _ _ _ _ _ _ _ lines) (files_stay files))

-- with the values that are written
module _ (order : RunOrder) (values : Values) (files changed : Option Directory)
    (old new out now : Option (List ℕ)) (written : values_wanted order ≡ Ok values)
    (named : output_names values ≡ outputs_in (output_texts order)) where
  pub refused_plainly : (before after : ℕ) → output_texts order ≡ []
      → RefusesWith order values files before after old new out now
      → RefusesAsWanted (wanted_run order) files changed before after old new out now
  refused_plainly before after = by order written
    where
      by : (order : RunOrder) → values_wanted order ≡ Ok values → output_texts order ≡ []
          → RefusesWith order values files before after old new out now
          → RefusesAsWanted (wanted_run order) files changed before after old new out now
      by (Sources order) written none refused = without_any (program_in order.now).output_files _ none
          (of_sources.refuses_values _ _ _ _ _ _ _ _ _ written refused)
      by (Objects order) written none refused = without_any (execute_in order.now).output_files _ none
          (of_objects.refuses_values _ _ _ _ _ _ _ _ _ written refused)

  pub refused_with_files : (before after : ℕ) → (output_texts order ≡ [] → ⊥)
      → RefusesRun (RefusesWith order values files before after old new) (PrintsWith order values files)
      (output_names values) files changed before after old new out now
      → RefusesAsWanted (wanted_run order) files changed before after old new out now
  refused_with_files before after = by order written named
    where
      by : (order : RunOrder) → values_wanted order ≡ Ok values
          → output_names values ≡ outputs_in (output_texts order) → (output_texts order ≡ [] → ⊥)
          → RefusesRun (RefusesWith order values files before after old new) (PrintsWith order values files)
          (output_names values) files changed before after old new out now
          → RefusesAsWanted (wanted_run order) files changed before after old new out now
      by (Sources order) written named some refused = with_some (program_in order.now).output_files _ some
          (refused_as _ _ _ _ _ _ _ _ _ _ _ _ _ _
          (λ first last why. of_sources.refuses_values _ _ _ _ _ _ _ _ _ written why)
          (λ status outputs first last printed. prints_program _ _ _ _ _ _ _ written printed) named refused)
      by (Objects order) written named some refused = with_some (execute_in order.now).output_files _ some
          (refused_as _ _ _ _ _ _ _ _ _ _ _ _ _ _
          (λ first last why. of_objects.refuses_values _ _ _ _ _ _ _ _ _ written why)
          (λ status outputs first last printed. prints_execution _ _ _ _ _ _ _ written printed) named refused)

  pub ran_plainly : (status : ℕ) (outputs : List (List ℕ)) → output_texts order ≡ []
      → PrintsWith order values files status outputs out now
      → RunsAsWanted (wanted_run order) files changed status old new out now
  ran_plainly status outputs none printed =
      by order written none
      (subst (λ (l : List (List ℕ)). PrintsWith order values files status l out now)
      (plain_run order values files status outputs out now none named printed) printed)
    where
      by : (order : RunOrder) → values_wanted order ≡ Ok values → output_texts order ≡ []
          → PrintsWith order values files status [] out now
          → RunsAsWanted (wanted_run order) files changed status old new out now
      by (Sources order) written none printed = without_any (program_in order.now).output_files _ none
          (prints_program _ _ _ _ _ _ _ written printed)
      by (Objects order) written none printed = without_any (execute_in order.now).output_files _ none
          (prints_execution _ _ _ _ _ _ _ written printed)

  pub ran_with_files : (status : ℕ) → (output_texts order ≡ [] → ⊥)
      → DeliversRun (PrintsWith order values files status) (output_names values) files changed old new out now
      → RunsAsWanted (wanted_run order) files changed status old new out now
  ran_with_files status = by order written named
    where
      by : (order : RunOrder) → values_wanted order ≡ Ok values
          → output_names values ≡ outputs_in (output_texts order) → (output_texts order ≡ [] → ⊥)
          → DeliversRun (PrintsWith order values files status) (output_names values) files changed old new out now
          → RunsAsWanted (wanted_run order) files changed status old new out now
      by (Sources order) written named some delivered = with_some (program_in order.now).output_files _ some
          (delivered_as _ _ _ _ _ _ _ _ _ _
          (λ outputs first last printed. prints_program _ _ _ _ _ _ _ written printed) named delivered)
      by (Objects order) written named some delivered = with_some (execute_in order.now).output_files _ some
          (delivered_as _ _ _ _ _ _ _ _ _ _
          (λ outputs first last printed. prints_execution _ _ _ _ _ _ _ written printed) named delivered)
