-- The files from which the bytes of ports come.
use Rattle.std.specs.Prelude.{◌≡◌, ℕ, List, ◌++◌, Option, flat_map, map, zip}
use Rattle.host.specs.Files.{Directory}
use Rattle.host.specs.Reading.{HasFiles}
use Rattle.command_line.specs.Settings.{NamedPort, Values, file_names}
use Rattle.command_line.specs.declared.values.InputByte.{InputByte}

-- the ports of files
abbrev pub ports_of : List NamedPort → List ℕ
ports_of files = map (λ (file : NamedPort). file.port) files

-- the ports whose events are not printed: those that have a file
abbrev pub quiet_ports : Values → List ℕ
quiet_ports values = ports_of values.output_files ++ ports_of values.input_files

-- the names of the files, in the order of the options
abbrev pub input_names : Values → List (List ℕ)
input_names values = file_names values.input_files

-- the bytes of a file, each for its port
abbrev pub bytes_of_file : NamedPort × List ℕ → List InputByte
bytes_of_file given = map (λ byte. record { port = (given.0).port; byte = byte }) given.1

-- the bytes of files, and then those of an input
abbrev pub input_with : List NamedPort → (texts : List (List ℕ)) → List InputByte → List InputByte
input_with files texts input = flat_map bytes_of_file (zip files texts) ++ input

-- these values, where the files have such texts
abbrev pub with_texts : Values → (texts : List (List ℕ)) → Values
with_texts values texts = record values { input = input_with values.input_files texts values.input }

-- the files have texts, whose bytes were added to the input of these values
pub record HasInput (files : Option Directory) (values full : Values) : Type 0 where
  pub texts : List (List ℕ)
  pub read : HasFiles files (input_names values) texts
  pub full_is : full ≡ with_texts values texts
