-- Files with the table of lines that an order to convert wants, or none.
use Rattle.std.specs.Prelude.{ℕ, List, Option, None, Some}
use Rattle.host.specs.Files.{ChangesFiles, Directory, KeepsFiles, with_file}
use Rattle.object_commands.specs.Linking.{KeepsOthers, StopsWriting}

-- no file changes but the one of this name, where there is one
abbrev pub KeepsAllBut : Option (List ℕ) → Option Directory → Option Directory → Type 0
KeepsAllBut None old new = KeepsFiles old new
KeepsAllBut (Some name) old new = KeepsOthers old new name

-- the file of this name has the table, and the others stay; without a name all stay
abbrev pub WritesTable : Option (List ℕ) → (old new : Option Directory) → (table : List ℕ) → Type 0
WritesTable None old new table = KeepsFiles old new
WritesTable (Some name) old new table = ChangesFiles old new (with_file name table)

-- the same, but the file may have a beginning of the table, which may be all of it, or be as before
abbrev pub BeginsTable : Option (List ℕ) → (old new : Option Directory) → (table : List ℕ) → Type 0
BeginsTable None old new table = KeepsFiles old new
BeginsTable (Some name) old new table = StopsWriting old new name table
