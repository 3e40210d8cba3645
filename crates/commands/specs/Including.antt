-- The files that a source includes: where they are looked for, and what was found.
use Rattle.std.specs.Prelude.{◌≡◌, ◌⊎◌, ◌≤◌, ◌<◌, ℕ, if◌then◌else◌, List, [], ◌∷◌, ◌++◌, length, Option, None, Some, option_map}
use Rattle.std.specs.Str.{IsUtf8}
use Rattle.host.specs.Files.{Directory, FindsFile, HasFile}
use Rattle.convert.specs.declared.advice.Advice.{Advice}
use Rattle.convert.specs.declared.assembly.PlacedNote.{PlacedNote}
use Rattle.convert.specs.declared.includes.Entry.{Entry}
use Rattle.convert.specs.declared.includes.Found.{Found}
use Rattle.convert.specs.Assembly.{Parts, assembled}
use Rattle.convert.specs.Includes.{candidates}
use Rattle.convert.specs.Lines.{plain}
use Rattle.command_line.specs.Command.{ConvertWanted}
use Rattle.commands.specs.declared.including.TheConstants.{MOST_NAMES}

-- there is no file of this name, if it is a text at all
abbrev pub IsMissing : Option Directory → List ℕ → Type 0
IsMissing files name = IsUtf8 name → FindsFile files name None

-- what was found under one name: its file, with its text plain, or no file
abbrev pub FindsText : Option Directory → List ℕ → Option (List ℕ × List ℕ) → Type 0
FindsText files name None = IsMissing files name
FindsText files name (Some found) =
    (text : List ℕ) × HasFile files name text × (found ≡ (name, plain text))

-- what was found under these names: the first name that has a file, with its text plain, or no file
pub data LooksUp (files : Option Directory) : List (List ℕ) → Option (List ℕ × List ℕ) → Type 0 where
  nowhere : LooksUp files [] None
  here : {name : List ℕ} (text : List ℕ) {names : List (List ℕ)}
      → HasFile files name text
      → LooksUp files (name ∷ names) (Some (name, plain text))
  elsewhere : {name : List ℕ} {names : List (List ℕ)} {found : Option (List ℕ × List ℕ)}
      → IsMissing files name
      → LooksUp files names found
      → LooksUp files (name ∷ names) found

-- one of these names: its file can't be read, and the names before it have no file
pub data StopsLooking (files : Option Directory) : List (List ℕ) → List ℕ → Type 0 where
  at_name : {name : List ℕ} {names : List (List ℕ)}
      → StopsLooking files (name ∷ names) name
  after_name : {name stop : List ℕ} {names : List (List ℕ)}
      → IsMissing files name
      → StopsLooking files names stop
      → StopsLooking files (name ∷ names) stop

abbrev pub found_view : Found → List ℕ × List ℕ
found_view found = (found.opened.items, found.text.items)

-- what was found of a file after INCLUDE
abbrev pub IsLookedUp : ConvertWanted → Option Directory → Entry → Type 0
IsLookedUp wanted files entry =
    LooksUp files (candidates wanted.folders wanted.file entry.name.items) (option_map found_view entry.found)

-- a source, which is plain, with these files put in, after what was told before
abbrev pub put_together : Advice → ConvertWanted → List Entry → List PlacedNote → List ℕ → Parts
put_together advice wanted entries before source = assembled advice entries before wanted.sets source

-- the first of names
abbrev pub first_of : List (List ℕ) → Option (List ℕ)
first_of [] = None
first_of (name ∷ names) = Some name

-- how many names are looked for at most: none of a listing, which has the lines of its files
abbrev pub most_names : ConvertWanted → ℕ
most_names wanted = if wanted.listing then 0 else MOST_NAMES

-- with these files put in, this is the next name that is looked for: the first that the source includes and that was not
pub record IsNext (advice : Advice) (wanted : ConvertWanted) (before : List PlacedNote) (source : List ℕ)
    (entries : List Entry) (name : List ℕ) : Type 0 where
  pub few : length entries < most_names wanted
  pub first : first_of (put_together advice wanted entries before source).wanted ≡ Some name

module _ (advice : Advice) (wanted : ConvertWanted) (files : Option Directory) (before : List PlacedNote) (source : List ℕ)
  where
    -- what was looked for, in its order
    pub data Looks : List Entry → Type 0 where
      begun : Looks []
      further : {entries : List Entry} (entry : Entry)
          → Looks entries
          → IsNext advice wanted before source entries entry.name.items
          → IsLookedUp wanted files entry
          → Looks (entries ++ entry ∷ [])

    -- what was looked for is all that the source includes, or as many names as are looked for at most
    pub record IsIncluded (entries : List Entry) : Type 0 where
      pub looked : Looks entries
      pub enough : ((put_together advice wanted entries before source).wanted ≡ []) ⊎ (most_names wanted ≤ length entries)

    -- the next name is looked for, and a file under it can't be read
    pub record StopsLookingForNext (stop : List ℕ) : Type 0 where
      pub entries : List Entry
      pub looked : Looks entries
      pub name : List ℕ
      pub next : IsNext advice wanted before source entries name
      pub stops : StopsLooking files (candidates wanted.folders wanted.file name) stop
