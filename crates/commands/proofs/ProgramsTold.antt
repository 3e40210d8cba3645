-- What was printed of programs, and why not.
use Rattle.commands.proofs.{Prelude.{◌≡◌, ℕ, List, [], ◌∷◌, Ok, None, Option, Some, inl, inr, sym, subst, ◌∙◌, Directory, KeepsFiles, status_of, TellsRefusal, Ending, Refused, WrongLine, CompileWanted, PlaceWanted, ProgramWanted, Wanted, wants_compile, wants_convert, wants_execute, wants_explain, wants_link, wants_need, wants_place, wants_program, Values, jump_read, only_file, plan_read, values_read, Plan, RefusesCompiling, RunsOut, PrintsFiles, PrintsProgram, RefusesAsWanted, RefusesByWords, RunsAsWanted, RunsByWords, StopsPlaced, QuietAsWanted, QuietByWords, RefusesObject}, Printed.{stays_written}, OrdersKept.{not_refused, not_wrong}, Delivered.{by_any}}

-- the values are those that are written
pub prints_program : (files : Option Directory) (wanted : ProgramWanted) (values : Values) (status : ℕ) (outputs : List (List ℕ)) (old new : Option (List ℕ)) → values_read wanted ≡ Ok values
    → PrintsFiles wanted values files status outputs old new → PrintsProgram wanted files status outputs old new
prints_program files wanted values status outputs old new written printed = record { values = values; written = written; printed = printed }

-- the one file, the plan and the jump are values, and what was printed of the file stops
pub refuses_object : (place : PlaceWanted) (name : List ℕ) (plan : Plan) (jump : Option ℕ) (files : Option Directory) (before after : ℕ) (old new out now : Option (List ℕ))
    → only_file place.files ≡ Ok name → plan_read place.plan ≡ Ok plan → jump_read place.jump ≡ Ok jump → TellsRefusal files (name ∷ []) before after old new
    → StopsPlaced place.action files name plan jump out now → RefusesObject place files before after old new out now
refuses_object place name plan jump files before after old new out now only planned jumping told printed =
    record { name = name; plan = plan; jump = jump; only = only; planned = planned; jumping = jumping; told = told; printed = printed }

-- compiling prints nothing
pub refuses_compile : (compile : CompileWanted) (files changed : Option Directory) (before after : ℕ) (old new out : Option (List ℕ)) → RefusesCompiling compile files before after old new
    → RefusesAsWanted (wants_compile compile) files changed before after old new out out
refuses_compile compile files changed before after old new out refused = (refused, stays_written out)

-- the words give the order that was carried out
pub runs_by_words : (found : Option Wanted) (wanted : Wanted) (files changed : Option Directory) (status : ℕ) (old new out now : Option (List ℕ)) → found ≡ Some wanted
    → RunsAsWanted wanted files changed status old new out now → RunsByWords found files changed status old new out now
runs_by_words found wanted files changed status old new out now e runs = rw e runs

pub quiet_by_words : (found : Option Wanted) (wanted : Wanted) (old new : Option (List ℕ)) → found ≡ Some wanted → QuietAsWanted wanted old new → QuietByWords found old new
quiet_by_words found wanted old new e quiet = rw e quiet

-- nothing went to standard error
pub quiet_as_wanted : (wanted : Wanted) (old new : Option (List ℕ)) → new ≡ old → QuietAsWanted wanted old new
quiet_as_wanted (wants_compile compile) old new same = same
quiet_as_wanted (wants_program program) old new same = by_any program.output_files same tt
quiet_as_wanted (wants_link link) old new same = same
quiet_as_wanted (wants_place place) old new same = same
quiet_as_wanted (wants_need need) old new same = same
quiet_as_wanted (wants_execute execute) old new same = by_any execute.output_files same tt
quiet_as_wanted (wants_explain explain) old new same = same
quiet_as_wanted (wants_convert convert) old new same = same

pub quiet_by_any : (found : Option Wanted) (old new : Option (List ℕ)) → new ≡ old → QuietByWords found old new
quiet_by_any None old new same = same
quiet_by_any (Some wanted) old new same = quiet_as_wanted wanted old new same

pub refuses_by_words : (found : Option Wanted) (wanted : Wanted) (files changed : Option Directory) (before after : ℕ) (old new out now : Option (List ℕ)) → found ≡ Some wanted
    → RefusesAsWanted wanted files changed before after old new out now → RefusesByWords found files changed before after old new out now
unfolding RefusesByWords
refuses_by_words found wanted files changed before after old new out now e refuses = rw e (inr refuses)

-- memory ran out before an order was known
pub memory_by_words : (found : Option Wanted) (files changed : Option Directory) (before after : ℕ) (old new out now : Option (List ℕ)) → KeepsFiles files changed
    → RunsOut before after old new out now → RefusesByWords found files changed before after old new out now
unfolding RefusesByWords
memory_by_words None files changed before after old new out now kept out_of = out_of
memory_by_words (Some wanted) files changed before after old new out now kept out_of = inl (kept, out_of)

-- the status is that of the ending
pub runs_by_status : (found : Option Wanted) (files changed : Option Directory) (ending : Ending) (status : ℕ) (old new out now : Option (List ℕ)) → status ≡ status_of ending → (status ≡ 1 → ⊥) → (status ≡ 2 → ⊥)
    → ((ending ≡ Refused → ⊥) → (ending ≡ WrongLine → ⊥) → RunsByWords found files changed (status_of ending) old new out now) → RunsByWords found files changed status old new out now
runs_by_status found files changed ending status old new out now is not_one not_two runs =
    subst (λ (s : ℕ). RunsByWords found files changed s old new out now) (sym is)
    (runs (not_refused ending (λ one. not_one (is ∙ one))) (not_wrong ending (λ two. not_two (is ∙ two))))
