-- What is printed of a number that is explained, and why it is not.
use Rattle.std.specs.Prelude.{◌≡◌, ◌⊎◌, ℕ, List, Ok, Option}
use Rattle.std.specs.Io.KnownBytes.{Appends, Keeps}
use Rattle.host.specs.Writing.{AppendsBeginning}
use Rattle.host.specs.Refusals.{Tells, memory_line}
use Rattle.command_line.specs.Command.{ExplainWanted}
use Rattle.command_line.specs.Settings.{page_read}
use Rattle.commands.specs.Refusing.{TellsUnwritten}

-- what is said of the number that is wanted was printed
pub record PrintsPage (wanted : ExplainWanted) (old new : Option (List ℕ)) : Type 0 where
  pub page : List ℕ
  pub read : page_read wanted ≡ Ok page
  pub printed : Appends old new page

-- The page of the number was known, and then memory ran out or standard output was not written. What was printed by
-- then is a beginning of the page, which may be nothing or all.
pub record StopsPage (wanted : ExplainWanted) (err_old err_new out_old out_new : Option (List ℕ)) : Type 0 where
  pub page : List ℕ
  pub read : page_read wanted ≡ Ok page
  pub told : TellsUnwritten err_old err_new
  pub printed : AppendsBeginning out_old out_new page

-- why a number was not explained: memory ran out before its page was known, with nothing printed; or that
unfoldable pub RefusesPage : ExplainWanted → (err_old err_new out_old out_new : Option (List ℕ)) → Type 0
RefusesPage wanted err_old err_new out_old out_new =
    (Tells memory_line err_old err_new × Keeps out_old out_new)
    ⊎ StopsPage wanted err_old err_new out_old out_new
