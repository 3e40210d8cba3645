-- What linking makes of files.
use Rattle.std.specs.Prelude.{◌≡◌, ◌⊎◌, ℕ, false, List, Option, None, Some}
use Rattle.std.specs.Str.{bytes_eq}
use Rattle.host.specs.Writing.{IsBeginning}
use Rattle.host.specs.Files.{ChangesFiles, Directory, KeepsFiles, with_file}
use Rattle.object_modules.specs.Module.{ObjectModule}
use Rattle.object_modules.specs.Text.{text_of}
use Rattle.link.specs.Streams.{Merges}
use Rattle.host.specs.Reading.{HasFiles}

-- known files other than the one of this name stay as they were
abbrev pub KeepsOthers : Option Directory → Option Directory → List ℕ → Type 0
KeepsOthers None new name = Unit {0}
KeepsOthers (Some old) None name = ⊥
KeepsOthers (Some old) (Some new) name = (other : List ℕ) → bytes_eq other name ≡ false → new other ≡ old other

-- the file of this name has a beginning of these bytes, and the others stay
abbrev pub BeginsWriting : (old new : Option Directory) → (name bytes : List ℕ) → Type 0
BeginsWriting old new name bytes =
    (sent : List ℕ) × IsBeginning sent bytes × ChangesFiles old new (with_file name sent)

-- a file that was not written whole: all files are as before, or it has a beginning of its bytes
abbrev pub StopsWriting : (old new : Option Directory) → (name bytes : List ℕ) → Type 0
StopsWriting old new name bytes = KeepsFiles old new ⊎ BeginsWriting old new name bytes

-- these bytes are the text of the merge of the modules that files spell
pub record MergesTo (texts : List (List ℕ)) (bytes : List ℕ) : Type 0 where
  pub object : ObjectModule
  pub merges : Merges texts object
  pub text : bytes ≡ text_of object

-- the file `out` has the text of the merge of the modules that the files of these names spell; the others stay
pub record LinksFiles (old new : Option Directory) (names : List (List ℕ)) (out : List ℕ) : Type 0 where
  pub texts : List (List ℕ)
  pub read : HasFiles old names texts
  pub object : ObjectModule
  pub merges : Merges texts object
  pub written : ChangesFiles old new (with_file out (text_of object))

-- the file `out` has a beginning of that text; the others stay
pub record BeginsLinking (old new : Option Directory) (names : List (List ℕ)) (out : List ℕ) : Type 0 where
  pub texts : List (List ℕ)
  pub read : HasFiles old names texts
  pub object : ObjectModule
  pub merges : Merges texts object
  pub written : BeginsWriting old new out (text_of object)

-- files that were not linked: all are as before, or `out` has a beginning of the text of their merge
abbrev pub StopsLinking :
    (old new : Option Directory) → (names : List (List ℕ)) → (out : List ℕ) → Type 0
StopsLinking old new names out = KeepsFiles old new ⊎ BeginsLinking old new names out
