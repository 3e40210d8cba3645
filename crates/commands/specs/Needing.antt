-- What is printed of the need of sources, and where it is not.
use Rattle.std.specs.Prelude.{ℕ, List, Option}
use Rattle.host.specs.Files.{Directory}
use Rattle.host.specs.Reading.{HasFiles}
use Rattle.commands.specs.Printing.{PrintsNeed, StopsNeed, TellsNoNeed}

-- the files of these names have texts, and the line that tells the need of their program was written
pub record PrintsNeedOf (files : Option Directory) (names : List (List ℕ)) (old new : Option (List ℕ)) :
    Type 0 where
  pub texts : List (List ℕ)
  pub read : HasFiles files names texts
  pub printed : PrintsNeed texts old new

-- the files of these names have texts; it was told why these have no need, or that memory ran out, or that the
-- need was not written; and nothing of the line was written by then, or a beginning of it
pub record RefusesNeedOf (files : Option Directory) (names : List (List ℕ))
    (err_old err_new out_old out_new : Option (List ℕ)) : Type 0 where
  pub texts : List (List ℕ)
  pub read : HasFiles files names texts
  pub told : TellsNoNeed names texts err_old err_new
  pub printed : StopsNeed texts out_old out_new
