-- What the functions that read a text answer.
use Rattle.std.specs.Prelude.{◌≡◌, ◌++◌, Bool, List, Option, Some, None, Ok, Err, Result, option_map, if◌then◌else◌}
use Rattle.command_line.specs.Settings.{NamedPort, Read, port_file_in}
use Rattle.command_line.specs.declared.port_files.PortFile.{PortFile}
use Rattle.command_line.specs.declared.values.ValueFault.{ValueFault}

-- what was found, with these bytes in front
abbrev pub in_front : {A : Type 0} → List A → Option (List A) → Option (List A)
in_front bytes found = option_map (λ more. bytes ++ more) found

-- the list, where all was read
abbrev pub if_read : {A : Type 0} → Bool → List A → Option (List A)
if_read is_read bytes = if is_read then Some bytes else None

-- the answer is the file that the text reads as
abbrev pub ReadsFileOfPort : Read NamedPort → Result PortFile ValueFault → Type 0
ReadsFileOfPort read (Ok file) = read ≡ Ok (port_file_in file)
ReadsFileOfPort read (Err fault) = read ≡ Err fault.text.now
