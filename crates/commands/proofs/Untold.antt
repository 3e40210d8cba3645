-- Why sources were not run or interpreted, or not compiled.
use Rattle.commands.proofs.{Prelude.{◌≡◌, ℕ, ◌<◌, ◌≤◌, Bool, List, [], ◌∷◌, Bor, Err, Ok, Option, Result, inl, inr, length, map, refl, subst, sym, ⊎_elim, cases_lt, length-map, texts, CountsFailure, Failure, Fault, Directory, HasFile, HasFiles, StopsAt, Tells, file_line, memory_line, output_line, CompileWanted, ProgramWanted, Values, values_read, Action, MOST_SOURCES, IsProgramOf, program_modules, texts_of, Construction, IsConstruction, IsInOrder, IsRefusedAlone, ToolFault, TooManySources, CompilesTo, fault_line, map_if, RefusesCompiling, RefusesFiles, RefusesFor, RefusesProgram, RefusesTexts, RunsOut, TellsUnwritten, StopsBuilt, KeepsFiles, ◌++◌, HasInput, input_names, RefusesRead}, InputFiles.{input_there, files_of_order}, Printed.{stays_written}}
use Rattle.sources.specs.declared.sources.Source.{Source}
use Rattle.tool.specs.Sources.{HasCause}

pub memory_unwritten : (old new : Option (List ℕ)) → Tells memory_line old new → TellsUnwritten old new
unfolding TellsUnwritten
memory_unwritten old new told = inl told

pub output_unwritten : (old new : Option (List ℕ)) → Tells output_line old new → TellsUnwritten old new
unfolding TellsUnwritten
output_unwritten old new told = inr told

no_failure : {A : Type 0} (built : A) (failure : Failure ToolFault) → Ok built ≡ Err failure → ⊥
no_failure built failure e = cc

same_fault : {A : Type 0} (result : Result A (Failure ToolFault)) (fault other : ToolFault) → result ≡ Err (Fault fault) → result ≡ Err (Fault other) → fault ≡ other
same_fault result fault other e f = cc

-- sources of which there would be another answer if they were too many
module _ (sources : List Source) where
  few_if : (MOST_SOURCES < length sources → ⊥) → length sources ≤ MOST_SOURCES
  few_if none =
      ⊎_elim (λ (more : MOST_SOURCES < length sources). absurd (none more))
      (λ (few : length sources ≤ MOST_SOURCES). few) (cases_lt MOST_SOURCES (length sources))

  pub few_sources : {A : Type 0} (built : A) (failure : Failure ToolFault)
      → (MOST_SOURCES < length sources → Ok built ≡ Err failure) → length sources ≤ MOST_SOURCES
  few_sources built failure past = few_if (λ more. no_failure built failure (past more))

  few_texts : (MOST_SOURCES < length sources → ⊥) → length (texts_of sources) ≤ MOST_SOURCES
  few_texts none = subst (λ (count : ℕ). count ≤ MOST_SOURCES) (sym (length-map sources (λ (s : Source). s.text.now)))
      (few_if none)

  pub few_built : {A : Type 0} (built : A) (failure : Failure ToolFault) → (MOST_SOURCES < length sources → Ok built ≡ Err failure) → length (texts_of sources) ≤ MOST_SOURCES
  few_built built failure past = few_texts (λ more. no_failure built failure (past more))

  pub few_but : {A : Type 0} (result : Result A (Failure ToolFault)) (fault : ToolFault) → result ≡ Err (Fault fault) → (MOST_SOURCES < length sources → result ≡ Err (Fault TooManySources))
      → (fault ≡ TooManySources → ⊥) → length (texts_of sources) ≤ MOST_SOURCES
  few_but result fault e past other = few_texts (λ more. other (same_fault result fault TooManySources e (past more)))

module _ (action : Action) (with_map : Bool) (values : Values) where
  -- a fault of the sources, told with the names of their files
  pub tells_cause : (names order : List (Bor (List ℕ))) (sources : List (List ℕ)) (fault was : ToolFault) (old new out : Option (List ℕ)) → names ≡ order → was ≡ fault
      → HasCause fault sources values.plan → ((fault ≡ TooManySources → ⊥) → length sources ≤ MOST_SOURCES) → IsInOrder fault sources
      → Tells (fault_line (map (λ n. n.now) names) was) old new → RefusesTexts action with_map values (texts order) sources old new out out
  unfolding RefusesTexts
  tells_cause names order sources fault was old new out same is cause few first told =
      let of_fault : Tells (fault_line (map (λ n. n.now) names) fault) old new = subst (λ (f : ToolFault). Tells (fault_line (map (λ n. n.now) names) f) old new) is told in
      let of_order : Tells (fault_line (texts order) fault) old new = subst (λ (l : List (Bor (List ℕ))). Tells (fault_line (map (λ n. n.now) l) fault) old new) same of_fault in
      inl (stays_written out, inl (record { fault = fault; cause = cause; few = few; order = first; told = of_order }))

  pub tells_memory : (names sources : List (List ℕ)) (old new out : Option (List ℕ)) → Tells memory_line old new → RefusesTexts action with_map values names sources old new out out
  unfolding RefusesTexts
  tells_memory names sources old new out told = inl (stays_written out, inr told)

  -- a program that was built, of which not all was written
  pub tells_unwritten : (names sources : List (List ℕ)) (built : Construction) (old new out now : Option (List ℕ)) → length sources ≤ MOST_SOURCES → IsProgramOf sources (program_modules built.program)
      → built.plan ≡ values.plan → IsConstruction built → TellsUnwritten old new → StopsBuilt action (map_if with_map built) values built out now
      → RefusesTexts action with_map values names sources old new out now
  unfolding RefusesTexts
  tells_unwritten names sources built old new out now few program planned construction told printed =
      inr (record { built = built; few = few; program = program; plan = planned; construction = construction; told = told; printed = printed })

-- the texts are those of the files that are wanted
pub refuses_files : (wanted : ProgramWanted) (values : Values) (files : Option Directory) (names order : List (Bor (List ℕ))) (read used : List (List ℕ)) (old new out now : Option (List ℕ))
    → names ≡ order → wanted.files ≡ texts order → HasFiles files (map (λ n. n.now) names) read → used ≡ read
    → (mid : Option Directory) → KeepsFiles files mid → RefusesRead wanted values mid used old new out now → RefusesFiles wanted values files old new out now
refuses_files wanted values files names order read used old new out now same wants has are mid kept refused = record {
  texts = read;
  read = subst (λ (l : List (List ℕ)). HasFiles files l read) (sym wants) (files_of_order names order files read same has);
  refused = record {
    full = refused.full;
    input = input_there files mid values refused.full kept refused.input;
    refused = subst (λ (l : List (List ℕ)). RefusesTexts wanted.action wanted.map refused.full wanted.files l old new out now) are refused.refused;
  };
}

-- the files of the input were read, and the action was not carried out
pub refuses_read : (wanted : ProgramWanted) (values full : Values) (files : Option Directory) (read : List (List ℕ)) (old new out now : Option (List ℕ)) → HasInput files values full
    → RefusesTexts wanted.action wanted.map full wanted.files read old new out now → RefusesRead wanted values files read old new out now
refuses_read wanted values full files read old new out now input refused = record { full = full; input = input; refused = refused }

-- the texts are those of these sources
pub refuses_texts : (action : Action) (with_map : Bool) (values : Values) (names used read : List (List ℕ)) (old new out now : Option (List ℕ)) → used ≡ read
    → RefusesTexts action with_map values names used old new out now → RefusesTexts action with_map values names read old new out now
refuses_texts action with_map values names used read old new out now are refused =
    subst (λ (l : List (List ℕ)). RefusesTexts action with_map values names l old new out now) are refused

module _ (reason : Type 0) (files : Option Directory) (names : List (List ℕ)) (old new : Option (List ℕ)) where
  -- a file whose failure was counted, after calls that did not fail
  pub for_file : (before now after : ℕ) (name : List ℕ) (out : Option (List ℕ)) → now ≡ before → CountsFailure now after → StopsAt files names name → Tells (file_line name) old new
      → RefusesFor reason files names before after old new out out
  unfolding RefusesFor
  for_file before now after name out same counted stopped told =
      inl (stays_written out, record { counted = subst (λ (n : ℕ). CountsFailure n after) same counted; name = name; stopped = stopped; told = told })

  -- memory, or the reason, where no failure was counted
  pub for_memory : (before after : ℕ) (out : Option (List ℕ)) → after ≡ before → Tells memory_line old new → RefusesFor reason files names before after old new out out
  unfolding RefusesFor
  for_memory before after out same told = inr (inl (record { count = same; told = told; nothing = stays_written out }))

  pub for_reason : (before after : ℕ) (out now : Option (List ℕ)) → after ≡ before → reason → RefusesFor reason files names before after old new out now
  unfolding RefusesFor
  for_reason before after out now same why = inr (inr (same, why))

pub runs_out : (before after : ℕ) (old new out : Option (List ℕ)) → after ≡ before → Tells memory_line old new → RunsOut before after old new out out
runs_out before after old new out same told = record { count = same; told = told; nothing = stays_written out }

-- the values are those that are written, or memory ran out before they were known
module _ (wanted : ProgramWanted) (files : Option Directory) (before after : ℕ) (old new out now : Option (List ℕ)) where
  pub refuses_values : (values : Values) → values_read wanted ≡ Ok values → RefusesFor (RefusesFiles wanted values files old new out now) files (wanted.files ++ input_names values) before after old new out now
      → RefusesProgram wanted files before after old new out now
  unfolding RefusesProgram
  refuses_values values written refused = inr (record { values = values; written = written; refused = refused })

  pub refuses_memory : RunsOut before after old new out now → RefusesProgram wanted files before after old new out now
  unfolding RefusesProgram
  refuses_memory out_of = inl out_of

-- why a source was not compiled
module _ (wanted : CompileWanted) (files : Option Directory) (before after : ℕ) (old new : Option (List ℕ)) where
  -- it could not be read, after calls that did not fail
  pub for_source : (now : ℕ) → now ≡ before → CountsFailure now after → Tells (file_line wanted.source) old new → RefusesCompiling wanted files before after old new
  unfolding RefusesCompiling
  for_source now same counted told =
      inl (record { counted = subst (λ (n : ℕ). CountsFailure n after) same counted; name = wanted.source; stopped = inl refl; told = told })

  -- it was compiled, and the object file could not be written
  pub for_object : (now : ℕ) (text bytes : List ℕ) → now ≡ before → CountsFailure now after → HasFile files wanted.source text → CompilesTo text bytes → Tells (file_line wanted.object) old new
      → RefusesCompiling wanted files before after old new
  unfolding RefusesCompiling
  for_object now text bytes same counted read m told = inl (record {
    counted = subst (λ (n : ℕ). CountsFailure n after) same counted;
    name = wanted.object;
    stopped = inr (refl, record { text = text; read = read; object = m.object; compiled = m.compiled });
    told = told;
  })

  pub without_memory : after ≡ before → Tells memory_line old new → RefusesCompiling wanted files before after old new
  unfolding RefusesCompiling
  without_memory same told = inr (same, inl told)

  pub for_fault : (text : List ℕ) (fault : ToolFault) → after ≡ before → HasFile files wanted.source text → IsRefusedAlone text fault → Tells (fault_line (wanted.source ∷ []) fault) old new
      → RefusesCompiling wanted files before after old new
  unfolding RefusesCompiling
  for_fault text fault same read cause told = inr (same, inr (record { text = text; read = read; fault = fault; cause = cause; told = told }))
