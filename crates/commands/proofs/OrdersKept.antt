-- Files after a command line was carried out.
use Rattle.commands.proofs.{Prelude.{◌≡◌, ◌≤◌, ◌⊎◌, ℕ, List, [], ◌∷◌, Ok, Option, None, Some, inl, inr, refl, subst, arith, Directory, KeepsFiles, status_of, TellsRefusal, Ending, Done, Refused, WrongLine, Limit, Stopped, Outside, Wanted, wants_compile, wants_convert, wants_execute, wants_explain, wants_link, wants_need, wants_place, wants_program, only_file, kept_others, ChangesAsWanted, ChangesByWords, WritesAsWanted, WritesByWords, PrintsAsWanted, PrintsByWords, StopsAsWanted, StopsByWords, names_by_words, names_of, RunsOut, outputs_in, ConvertsAsWanted, ConvertsByWords, TellsAsWanted, TellsByWords, TellsOutput}, Delivered.{by_any, kept_changes}, Tables.{kept_all_but}}

-- where no file changed, none changed but what was wanted
pub kept_as_wanted : (wanted : Wanted) (old new : Option Directory) → KeepsFiles old new → ChangesAsWanted wanted old new
kept_as_wanted (wants_compile compile) old new kept = kept_others old new compile.object kept
kept_as_wanted (wants_program program) old new kept = kept_changes (outputs_in program.output_files) old new kept
kept_as_wanted (wants_link link) old new kept = kept_others old new link.out kept
kept_as_wanted (wants_place place) old new kept = kept
kept_as_wanted (wants_need need) old new kept = kept
kept_as_wanted (wants_execute execute) old new kept = kept_changes (outputs_in execute.output_files) old new kept
kept_as_wanted (wants_explain explain) old new kept = kept
kept_as_wanted (wants_convert convert) old new kept = kept_all_but convert.lines old new kept

pub kept_by_words : (found : Option Wanted) (old new : Option Directory) → KeepsFiles old new → ChangesByWords found old new
kept_by_words None old new kept = kept
kept_by_words (Some wanted) old new kept = kept_as_wanted wanted old new kept

-- the words give the order that was carried out
pub by_words : (found : Option Wanted) (wanted : Wanted) (old new : Option Directory) → found ≡ Some wanted → ChangesAsWanted wanted old new → ChangesByWords found old new
by_words found wanted old new e changes = rw e changes

pub written_by_words : (found : Option Wanted) (wanted : Wanted) (old new : Option Directory) → found ≡ Some wanted → WritesAsWanted wanted old new → WritesByWords found old new
written_by_words found wanted old new e links = rw e links

-- where no file changed, and where the words give the order that was not carried out
pub stops_as_wanted : (wanted : Wanted) (old new : Option Directory) → KeepsFiles old new → StopsAsWanted wanted old new
stops_as_wanted (wants_compile compile) old new kept = inl kept
stops_as_wanted (wants_program program) old new kept = kept_changes (outputs_in program.output_files) old new kept
stops_as_wanted (wants_link link) old new kept = inl kept
stops_as_wanted (wants_place place) old new kept = kept
stops_as_wanted (wants_need need) old new kept = kept
stops_as_wanted (wants_execute execute) old new kept = kept_changes (outputs_in execute.output_files) old new kept
stops_as_wanted (wants_explain explain) old new kept = kept
stops_as_wanted (wants_convert convert) old new kept = kept_all_but convert.lines old new kept

pub kept_stops : (found : Option Wanted) (old new : Option Directory) → KeepsFiles old new → StopsByWords found old new
kept_stops None old new kept = kept
kept_stops (Some wanted) old new kept = stops_as_wanted wanted old new kept

pub stops_by_words : (found : Option Wanted) (wanted : Wanted) (old new : Option Directory) → found ≡ Some wanted → StopsAsWanted wanted old new → StopsByWords found old new
stops_by_words found wanted old new e stops = rw e stops

pub prints_by_words : (found : Option Wanted) (wanted : Wanted) (files : Option Directory) (old new : Option (List ℕ)) → found ≡ Some wanted → PrintsAsWanted wanted files old new
    → PrintsByWords found files old new
prints_by_words found wanted files old new e prints = rw e prints

-- the names of files that are told
pub told_by_words : (files : Option Directory) (found : Option Wanted) (wanted : Wanted) (before after : ℕ) (old new : Option (List ℕ)) → found ≡ Some wanted
    → TellsRefusal files (names_of wanted) before after old new → TellsRefusal files (names_by_words found) before after old new
told_by_words files found wanted before after old new e told = rw e told

-- what is told with status 1, and what converting prints
pub tells_by_words : (found : Option Wanted) (wanted : Wanted) (files : Option Directory) (before after : ℕ) (old new : Option (List ℕ)) → found ≡ Some wanted
    → TellsAsWanted wanted (TellsOutput before after old new) (TellsRefusal files (names_of wanted) before after old new)
    → TellsByWords found (TellsOutput before after old new) (TellsRefusal files (names_by_words found) before after old new)
tells_by_words found wanted files before after old new e told = rw e told

pub tells_any : (found : Option Wanted) (output : List (List ℕ) → Type 0) (refusal : Type 0) → refusal → TellsByWords found output refusal
tells_any None output refusal told = told
tells_any (Some (wants_compile compile)) output refusal told = told
tells_any (Some (wants_program program)) output refusal told = by_any program.output_files told (inl told)
tells_any (Some (wants_link link)) output refusal told = told
tells_any (Some (wants_place place)) output refusal told = told
tells_any (Some (wants_need need)) output refusal told = told
tells_any (Some (wants_execute execute)) output refusal told = by_any execute.output_files told (inl told)
tells_any (Some (wants_explain explain)) output refusal told = told
tells_any (Some (wants_convert convert)) output refusal told = tt

pub converts_by_words : (found : Option Wanted) (wanted : Wanted) (files later : Option Directory) (status before after : ℕ) (old new out now : Option (List ℕ))
    → found ≡ Some wanted → ConvertsAsWanted wanted files later status before after old new out now → ConvertsByWords found files later status before after old new out now
converts_by_words found wanted files later status before after old new out now e converts = rw e (inr converts)

pub memory_converts : (found : Option Wanted) (files later : Option Directory) (status before after : ℕ) (old new out now : Option (List ℕ)) → status ≡ 1 → KeepsFiles files later
    → RunsOut before after old new out now → ConvertsByWords found files later status before after old new out now
memory_converts None files later status before after old new out now one stay out_of = tt
memory_converts (Some wanted) files later status before after old new out now one stay out_of = inl (one, stay, out_of)

pub converts_with_status : (found : Option Wanted) (files later : Option Directory) (status other before after : ℕ) (old new out now : Option (List ℕ)) → status ≡ other
    → ConvertsByWords found files later other before after old new out now → ConvertsByWords found files later status before after old new out now
converts_with_status found files later status other before after old new out now same converts = rw same converts

one_alone : (files : List (List ℕ)) (file : List ℕ) → only_file files ≡ Ok file → file ∷ [] ≡ files
one_alone [] file e = cc
one_alone (one ∷ []) file e = cc
one_alone (one ∷ second ∷ more) file e = cc

pub told_of_only : (known : Option Directory) (files : List (List ℕ)) (file : List ℕ) (before after : ℕ) (old new : Option (List ℕ)) → only_file files ≡ Ok file
    → TellsRefusal known (file ∷ []) before after old new → TellsRefusal known files before after old new
told_of_only known files file before after old new e told = subst (λ (l : List (List ℕ)). TellsRefusal known l before after old new) (one_alone files file e) told

pub not_done : (ending : Ending) → (status_of ending ≡ 0 → ⊥) → ending ≡ Done → ⊥
not_done ending other done = other (rw done refl)

pub not_refused : (ending : Ending) → (status_of ending ≡ 1 → ⊥) → ending ≡ Refused → ⊥
not_refused ending other refused = other (rw refused refl)

pub not_wrong : (ending : Ending) → (status_of ending ≡ 2 → ⊥) → ending ≡ WrongLine → ⊥
not_wrong ending other wrong = other (rw wrong refl)

pub refused_is : (ending : Ending) → status_of ending ≡ 1 → ending ≡ Refused
refused_is Done e = absurd (omega arith)
refused_is Refused e = refl
refused_is WrongLine e = absurd (omega arith)
refused_is Limit e = absurd (omega arith)
refused_is Stopped e = absurd (omega arith)
refused_is Outside e = absurd (omega arith)

pub status_bound : (ending : Ending) → status_of ending ≤ 5
status_bound Done = omega arith
status_bound Refused = omega arith
status_bound WrongLine = omega arith
status_bound Limit = omega arith
status_bound Stopped = omega arith
status_bound Outside = omega arith

pub done_is : (ending : Ending) → status_of ending ≡ 0 → ending ≡ Done
done_is Done e = refl
done_is Refused e = absurd (omega arith)
done_is WrongLine e = absurd (omega arith)
done_is Limit e = absurd (omega arith)
done_is Stopped e = absurd (omega arith)
done_is Outside e = absurd (omega arith)

-- orders that end as nothing but a run does
pub done_status : (ending : Ending) → ending ≡ Done → status_of ending ≡ 0
done_status ending done = rw done refl

pub other_status : (ending : Ending) → (ending ≡ Done) ⊎ (ending ≡ Refused) → (ending ≡ Refused → ⊥) → status_of ending ≡ 0
other_status ending (inl done) not = done_status ending done
other_status ending (inr refused) not = absurd (not refused)

pub refused_mild : (ending : Ending) → ending ≡ Refused → status_of ending ≤ 2
refused_mild ending refused = rw refused (omega arith)
