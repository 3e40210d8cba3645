-- Files by their names, where they are known, and the failures of the device that holds them.
use Rattle.std.specs.Prelude.{◌≡◌, ℕ, List, ◌++◌, [], Option, None, Some, ⊤, unwrap_or, if◌then◌else◌}
use Rattle.std.specs.Str.{bytes_eq}
use Rattle.ports.specs.Events.{CountsFailure}
use Rattle.failure.specs.declared.Failure.{Failure}
use Rattle.failure.specs.declared.Failure.TheVariants.{Fault, Memory}

-- the bytes of the file of a name, or None where there is no such file
abbrev pub Directory : Type 0
Directory = List ℕ → Option (List ℕ)

-- there is a file of this name, with these bytes; nothing is claimed of files that are not known
abbrev pub HasFile : Option Directory → List ℕ → List ℕ → Type 0
HasFile None name bytes = ⊤
HasFile (Some files) name bytes = files name ≡ Some bytes

-- the bytes of the file of this name, or None where there is no such file; nothing is claimed of files that are not known
abbrev pub FindsFile : Option Directory → List ℕ → Option (List ℕ) → Type 0
FindsFile None name found = ⊤
FindsFile (Some files) name found = files name ≡ found

-- known files are afterwards the ones that the last argument says
abbrev pub ChangesFiles : Option Directory → Option Directory → (Directory → Directory) → Type 0
ChangesFiles None new change = ⊤
ChangesFiles (Some old) None change = ⊥
ChangesFiles (Some old) (Some new) change = (name : List ℕ) → new name ≡ change old name

-- known files stay as they were
abbrev pub KeepsFiles : Option Directory → Option Directory → Type 0
KeepsFiles old new = ChangesFiles old new (λ files. files)

-- the file of this name has these bytes, and the others stay
abbrev pub with_file : List ℕ → List ℕ → Directory → Directory
with_file name bytes files other = if bytes_eq other name then Some bytes else files other

-- the file of this name becomes empty
abbrev pub BeginsFile : Option Directory → Option Directory → List ℕ → Type 0
BeginsFile old new name = ChangesFiles old new (with_file name [])

-- the file of this name grows by these bytes; where there was none it has these bytes
abbrev pub GrowsFile : Option Directory → Option Directory → List ℕ → List ℕ → Type 0
GrowsFile old new name bytes =
    ChangesFiles old new (λ files. with_file name (unwrap_or (files name) [] ++ bytes) files)

-- a fault of the device adds one to the count of failures, which stays at its greatest value; out of memory adds
-- none
abbrev pub Counts : {F : Type 0} → Failure F → ℕ → ℕ → Type 0
Counts (Fault fault) old new = CountsFailure old new
Counts Memory old new = new ≡ old
