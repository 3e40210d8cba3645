-- What compiling makes of files.
use Rattle.std.specs.Prelude.{◌≡◌, ◌⊎◌, ℕ, List, Option}
use Rattle.host.specs.Files.{ChangesFiles, Directory, HasFile, KeepsFiles, with_file}
use Rattle.object_modules.specs.Module.{ObjectModule}
use Rattle.object_modules.specs.Text.{text_of}
use Rattle.object_commands.specs.Linking.{BeginsWriting}
use Rattle.tool.specs.Made.{IsCompiledTo}

-- these bytes are the text of an object module that the text is compiled to
pub record CompilesTo (text : List ℕ) (bytes : List ℕ) : Type 0 where
  pub object : ObjectModule
  pub compiled : IsCompiledTo text object
  pub text_is : bytes ≡ text_of object

-- the file `out` has the text of an object module that the file of this name is compiled to; the others stay
pub record CompilesFile (old new : Option Directory) (name : List ℕ) (out : List ℕ) : Type 0 where
  pub text : List ℕ
  pub read : HasFile old name text
  pub object : ObjectModule
  pub compiled : IsCompiledTo text object
  pub written : ChangesFiles old new (with_file out (text_of object))

-- the file `out` has a beginning of such a text; the others stay
pub record BeginsCompiling (old new : Option Directory) (name : List ℕ) (out : List ℕ) : Type 0 where
  pub text : List ℕ
  pub read : HasFile old name text
  pub object : ObjectModule
  pub compiled : IsCompiledTo text object
  pub written : BeginsWriting old new out (text_of object)

-- files that were not compiled: all are as before, or `out` has a beginning of the text of the object module
abbrev pub StopsCompiling : (old new : Option Directory) → (name : List ℕ) → (out : List ℕ) → Type 0
StopsCompiling old new name out = KeepsFiles old new ⊎ BeginsCompiling old new name out
