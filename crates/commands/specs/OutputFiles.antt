-- The files to which the bytes of ports go.
use Rattle.std.specs.Prelude.{◌≡◌, ℕ, ◌==◌, Bool, ◌&&◌, false, List, [], ◌∷◌, Option, None, Some, codes, flat_map, map, if◌then◌else◌}
use Rattle.std.specs.Io.KnownBytes.{Appends}
use Rattle.std.specs.List.{list_any}
use Rattle.std.specs.Str.{bytes_eq}
use Rattle.host.specs.Writing.{AppendsBeginning}
use Rattle.ports.specs.declared.event.Event.{Event}
use Rattle.host.specs.Files.{ChangesFiles, Directory, KeepsFiles, with_file}
use Rattle.command_line.specs.Settings.{NamedPort, Values, file_names}

-- the byte of an event, where the event writes it to this port
abbrev pub byte_written : (port : ℕ) → Event → List ℕ
byte_written port event = if event.write && (event.port == port) then event.value ∷ [] else []

-- the bytes that events write to a port, in their order
abbrev pub bytes_written : (port : ℕ) → List Event → List ℕ
bytes_written port events = flat_map (byte_written port) events

-- the bytes of each of these files
abbrev pub outputs_for : List NamedPort → List Event → List (List ℕ)
outputs_for files events = map (λ (file : NamedPort). bytes_written file.port events) files

-- the bytes of the files of ports, in the order of the options
abbrev pub outputs_of : Values → List Event → List (List ℕ)
outputs_of values events = outputs_for values.output_files events

-- the names of the files, in the order of the options
abbrev pub output_names : Values → List (List ℕ)
output_names values = file_names values.output_files

-- the name of standard output
abbrev pub is_dash : (name : List ℕ) → Bool
is_dash name = bytes_eq name (codes "-")

-- the file of this name has these bytes, and the others stay; of standard output all stay
abbrev pub with_output : (name bytes : List ℕ) → Directory → Directory
with_output name bytes files = if is_dash name then files else with_file name bytes files

-- the files of these names have these bytes, each its own, and the others stay
abbrev pub with_outputs : (names outputs : List (List ℕ)) → Directory → Directory
with_outputs [] outputs files = files
with_outputs (name ∷ names) [] files = files
with_outputs (name ∷ names) (bytes ∷ outputs) files = with_outputs names outputs (with_output name bytes files)

-- the bytes for standard output, where it has a port
abbrev pub dash_bytes : (names outputs : List (List ℕ)) → Option (List ℕ)
dash_bytes [] outputs = None
dash_bytes (name ∷ names) [] = None
dash_bytes (name ∷ names) (bytes ∷ outputs) = if is_dash name then Some bytes else dash_bytes names outputs

-- Lines go to standard output. Where that has a port it gets the bytes of the port, and the lines go to standard error,
-- which may have a beginning of them: a failure there changes nothing else.
abbrev pub Shows :
    (bytes : Option (List ℕ)) → (lines : List ℕ) → (err_old err_new out_old out_new : Option (List ℕ)) → Type 0
Shows None lines err_old err_new out_old out_new = (err_new ≡ err_old) × Appends out_old out_new lines
Shows (Some bytes) lines err_old err_new out_old out_new =
    AppendsBeginning err_old err_new lines × Appends out_old out_new bytes

-- a run with these lines and these bytes for the files of ports was delivered
pub record Delivers (names outputs : List (List ℕ)) (lines : List ℕ) (old new : Option Directory)
    (err_old err_new out_old out_new : Option (List ℕ)) : Type 0 where
  pub changed : ChangesFiles old new (with_outputs names outputs)
  pub shown : Shows (dash_bytes names outputs) lines err_old err_new out_old out_new

-- one of these names
abbrev pub is_output : (names : List (List ℕ)) → (name : List ℕ) → Bool
is_output names name = list_any (bytes_eq name) names

-- known files other than those of these names stay as they were
abbrev pub KeepsAllBut : (names : List (List ℕ)) → Option Directory → Option Directory → Type 0
KeepsAllBut names None new = Unit {0}
KeepsAllBut names (Some old) None = ⊥
KeepsAllBut names (Some old) (Some new) = (other : List ℕ) → is_output names other ≡ false → new other ≡ old other

-- the same, where all stay if there are no names
abbrev pub ChangesOutputs : (names : List (List ℕ)) → Option Directory → Option Directory → Type 0
ChangesOutputs [] old new = KeepsFiles old new
ChangesOutputs (name ∷ names) old new = KeepsAllBut (name ∷ names) old new

-- what holds where no texts write files for ports, and what holds where they do
abbrev pub ByOutputs : (texts : List (List ℕ)) → (without with_files : Type 0) → Type 0
ByOutputs [] without with_files = without
ByOutputs (text ∷ texts) without with_files = with_files

-- a run that prints lines, and gives bytes for the files of ports, was delivered
pub record DeliversRun (prints : (outputs : List (List ℕ)) → (old new : Option (List ℕ)) → Type 0)
    (names : List (List ℕ)) (old new : Option Directory) (err_old err_new out_old out_new : Option (List ℕ)) :
    Type 0 where
  pub outputs : List (List ℕ)
  pub lines : List ℕ
  pub printed : prints outputs (Some []) (Some lines)
  pub delivered : Delivers names outputs lines old new err_old err_new out_old out_new
