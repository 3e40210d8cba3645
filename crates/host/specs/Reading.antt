-- Files that were read, and the one at which a command stopped.
use Rattle.std.specs.Prelude.{◌≡◌, ℕ, List, ◌∷◌, ◌++◌, Option}
use Rattle.std.specs.List.{AllZip}
use Rattle.host.specs.Files.{Directory, HasFile}

-- the files of these names have these bytes, each its own
abbrev pub HasFiles : Option Directory → List (List ℕ) → List (List ℕ) → Type 0
HasFiles files names texts = AllZip (HasFile files) names texts

-- the first of these names whose file could not be read or written: the files of all names before it were
-- read. A device may fail at any file, so nothing is said of the bytes of this one
pub record StopsAt (files : Option Directory) (names : List (List ℕ)) (name : List ℕ) : Type 0 where
  pub before : List (List ℕ)
  pub rest : List (List ℕ)
  pub texts : List (List ℕ)
  pub names_are : names ≡ before ++ (name ∷ rest)
  pub read : HasFiles files before texts
