-- What carrying out the words of a command line leaves, as `run_command` promises it.
use Rattle.std.specs.Prelude.{◌≡◌, ◌≤◌, ℕ, List, [], Option}
use Rattle.clap.specs.Words.{Text, fault_of}
use Rattle.host.specs.Files.{Directory, KeepsFiles}
use Rattle.host.specs.Refusals.{TellsRefusal}
use Rattle.command_line.specs.Command.{plm_app, wanted_by}
use Rattle.commands.specs.Orders.{AsksHelpAtMost, AsksNoHelp, ChangesByWords, PrintsByWords, QuietByWords, RefusesByWords, RefusesNoText, RunsByWords, StopsByWords, TellsTextByWords, WritesByWords, names_by_words}
use Rattle.commands.specs.Converting.{ConvertsByWords, TellsByWords, TellsOutput}
use Rattle.commands.specs.Refusing.{RunsOut}
use Rattle.explaining.specs.Growing.{Grows}
use Rattle.explaining.specs.Looking.{Looks}

-- These words end with this status; the files, the count of their failures, standard error and standard output go from the
-- first of each pair to the second. Each field is the clause of `run_command` that has its name, and the first is `status`.
pub record Ends
    (words : List Text) (status : ℕ) (files new : Option Directory) (before after : ℕ)
    (err_old err_new out_old out_new : Option (List ℕ)) : Type 0 where
  pub in_range : status ≤ 5
  pub unchanged : ChangesByWords (wanted_by words) files new
  pub idle : (fault_of plm_app words ≡ [] → ⊥) → KeepsFiles files new
  pub written : fault_of plm_app words ≡ [] → status ≡ 0 → WritesByWords (wanted_by words) files new
  pub printed : fault_of plm_app words ≡ [] → status ≡ 0 →
      PrintsByWords (wanted_by words) files out_old out_new
  pub ran : fault_of plm_app words ≡ [] → (status ≡ 1 → ⊥) → (status ≡ 2 → ⊥) →
      RunsByWords (wanted_by words) files new status err_old err_new out_old out_new
  pub stopped : (status ≡ 0 → ⊥) → StopsByWords (wanted_by words) files new
  pub untouched : status ≡ 2 → KeepsFiles files new
  pub refused_text : fault_of plm_app words ≡ [] → status ≡ 2 →
      TellsTextByWords (wanted_by words) err_old err_new
  pub not_wrong : AsksHelpAtMost (fault_of plm_app words) →
      (fault_of plm_app words ≡ [] → RefusesNoText (wanted_by words)) → status ≡ 2 → ⊥
  pub usage : (fault_of plm_app words ≡ [] → ⊥) → AsksNoHelp (fault_of plm_app words) → status ≡ 0 → ⊥
  pub wrong : (fault_of plm_app words ≡ [] → ⊥) → AsksNoHelp (fault_of plm_app words) → status ≡ 1 →
      RunsOut before after err_old err_new out_old out_new
  pub told : status ≡ 1 → TellsByWords (wanted_by words) (TellsOutput before after err_old err_new)
      (TellsRefusal files (names_by_words (wanted_by words)) before after err_old err_new)
  pub converted : fault_of plm_app words ≡ [] → ConvertsByWords
      (wanted_by words) files new status before after err_old err_new out_old out_new
  pub refused : fault_of plm_app words ≡ [] → status ≡ 1 → RefusesByWords
      (wanted_by words) files new before after err_old err_new out_old out_new
  pub silent : status ≡ 2 → out_new ≡ out_old
  pub faulty : (fault_of plm_app words ≡ [] → ⊥) → status ≤ 2
  pub count : (status ≡ 1 → ⊥) → after ≡ before
  pub quiet : (status ≡ 1 → ⊥) → (status ≡ 2 → ⊥) → QuietByWords (wanted_by words) err_old err_new

-- the same, and then at most `tables` tables were looked for, and something more is on standard error
pub record EndsExplained
    (words : List Text) (tables status : ℕ) (files new : Option Directory) (before after : ℕ)
    (err_old err_new out_old out_new : Option (List ℕ)) : Type 0 where
  pub left : Option (List ℕ)
  pub ended : Option Directory
  pub counted : ℕ
  pub ends : Ends words status files ended before counted err_old left out_old out_new
  pub looks : Looks tables ended new counted after
  pub grows : Grows left err_new
