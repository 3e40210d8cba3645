-- Merges of objects that were run, or not.
use Rattle.commands.proofs.{Prelude.{◌≡◌, ℕ, List, [], Ok, Option, inl, inr, ◌++◌, Directory, KeepsFiles, Tells, TellsRefusal, memory_line, RefusesFor, RunsOut, PrintsImage, Values, Absolute, ExecuteWanted, execute_read, PlacesMerge, RefusesPlacing, PrintsExecution, PrintsMerge, StopsImage, StopsRead, HasInput, input_names, RefusesExecution, RefusesObjects, TellsUnwritten, no_names}, InputFiles.{input_there, refused_after, told_after}, Printed.{stays_written}}
use Rattle.commands.specs.Executing.{PrintsRead}

-- the files of the input were read, and the image was run, or not whole
module _ (values full : Values) (files : Option Directory) (image : Absolute) (old new : Option (List ℕ)) (input : HasInput files values full) where
  pub prints_read : (status : ℕ) (outputs : List (List ℕ)) → PrintsImage no_names [] full image status outputs old new → PrintsRead values files image status outputs old new
  prints_read status outputs printed = record { full = full; input = input; printed = printed }

  pub stops_read : (told was : Option (List ℕ)) → TellsUnwritten was told → StopsImage no_names full image old new → StopsRead values files image was told old new
  stops_read told was unwritten stops = record { full = full; input = input; told = unwritten; printed = stops }

-- the objects were placed before
module _ (wanted : ExecuteWanted) (values : Values) (files mid : Option Directory) (image : Absolute) (kept : KeepsFiles files mid) (placed : PlacesMerge files wanted.objects values.plan image) where
  pub runs_merge : (status : ℕ) (outputs : List (List ℕ)) (old new : Option (List ℕ)) → PrintsRead values mid image status outputs old new → PrintsMerge wanted values files status outputs old new
  runs_merge status outputs old new printed = record {
    image = image;
    placed = placed;
    printed = record { full = printed.full; input = input_there files mid values printed.full kept printed.input; printed = printed.printed };
  }

  stopped_there : (old new out now : Option (List ℕ)) → StopsRead values mid image old new out now → StopsRead values files image old new out now
  stopped_there old new out now stops =
      record { full = stops.full; input = input_there files mid values stops.full kept stops.input; told = stops.told; printed = stops.printed }

  pub not_run : (before now after : ℕ) (old new out done : Option (List ℕ)) → now ≡ before
      → RefusesFor (StopsRead values mid image old new out done) mid (input_names values) now after old new out done
      → RefusesObjects wanted values files before after old new out done
  unfolding RefusesObjects
  not_run before now after old new out done same refused = inr (record {
    image = image;
    placed = placed;
    stopped = refused_after files mid [] (input_names values) [] before now after kept tt same (StopsRead values mid image old new out done) (StopsRead values files image old new out done)
        old new out done (stopped_there old new out done) refused;
  })

  pub told_later : (before now after : ℕ) (old new : Option (List ℕ)) → now ≡ before → TellsRefusal mid (input_names values) now after old new
      → TellsRefusal files (wanted.objects ++ input_names values) before after old new
  told_later before now after old new same told =
      told_after files mid wanted.objects (input_names values) placed.texts before now after kept placed.read same old new told

-- it was not placed, with nothing printed
pub not_placed : (wanted : ExecuteWanted) (values : Values) (files : Option Directory) (before after : ℕ) (old new out : Option (List ℕ))
    → RefusesPlacing files wanted.objects values.plan before after old new → RefusesObjects wanted values files before after old new out out
unfolding RefusesObjects
not_placed wanted values files before after old new out refused = inl (stays_written out, refused)

-- memory ran out before they were read
pub memory_first : (wanted : ExecuteWanted) (values : Values) (files : Option Directory) (before after : ℕ) (old new out : Option (List ℕ)) → after ≡ before → Tells memory_line old new
    → RefusesObjects wanted values files before after old new out out
unfolding RefusesObjects RefusesPlacing
memory_first wanted values files before after old new out same told = inl (stays_written out, inr (same, inl told))

pub prints_execution : (wanted : ExecuteWanted) (values : Values) (files : Option Directory) (status : ℕ) (outputs : List (List ℕ)) (old new : Option (List ℕ)) → execute_read wanted ≡ Ok values
    → PrintsMerge wanted values files status outputs old new → PrintsExecution wanted files status outputs old new
prints_execution wanted values files status outputs old new written printed = record { values = values; written = written; printed = printed }

-- the values are those that are written, or memory ran out before they were known
module _ (wanted : ExecuteWanted) (files : Option Directory) (before after : ℕ) (old new out now : Option (List ℕ)) where
  pub refuses_values : (values : Values) → execute_read wanted ≡ Ok values → RefusesObjects wanted values files before after old new out now
      → RefusesExecution wanted files before after old new out now
  unfolding RefusesExecution
  refuses_values values written refused = inr (record { values = values; written = written; refused = refused })

  pub refuses_memory : RunsOut before after old new out now → RefusesExecution wanted files before after old new out now
  unfolding RefusesExecution
  refuses_memory out_of = inl out_of
