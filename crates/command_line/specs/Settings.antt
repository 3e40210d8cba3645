-- The values of an order's options: which texts are values, and what they say.
use Rattle.std.specs.Prelude.{◌≡◌, ◌==◌, Bool, ◌&&◌, ◌||◌, ◌+◌, ◌*◌, ◌++◌, ℕ, List, [], ◌∷◌, codes, length, map, nat_le, nat_lt}
use Rattle.std.specs.Prelude.{Option, Some, None, option_and_then, option_map, Result, Ok, Err, if◌then◌else◌}
use Rattle.std.specs.Borrow.{Bor}
use Rattle.std.specs.Char.{digit_value, is_digit}
use Rattle.std.specs.List.{after_first, before_first, flat_map, list_all, list_any, position_or_len, slice_split}
use Rattle.std.specs.Str.{bytes_eq}
use Rattle.std.specs.Str.Parse.{digits_value}
use Rattle.clap.specs.Words.{Text}
use Rattle.failure.specs.declared.Failure.{Failure}
use Rattle.failure.specs.declared.Failure.TheVariants.{Fault, Memory}
use Rattle.command_line.specs.Command.{ExecuteWanted, ExplainWanted, PlanWanted, ProgramWanted}
use Rattle.command_line.specs.Explained.{page_of}
use Rattle.command_line.specs.declared.orders.Watch.{Watch}
use Rattle.command_line.specs.declared.values.InputByte.{InputByte}
use Rattle.command_line.specs.declared.port_files.PortFile.{PortFile}
use Rattle.command_line.specs.declared.start_memory.MemoryByte.{MemoryByte}
use Rattle.mem80.specs.declared.memory.TheConstants.{MEMORY_SIZE}
use Rattle.mem80.specs.declared.plan.Plan.{Plan}
use Rattle.command_line.specs.declared.values.Settings.{Settings}
use Rattle.command_line.specs.declared.values.ValueFault.{ValueFault}

-- what texts read as: a value, or the first text that is refused
abbrev pub Read : Type 0 → Type 0
Read A = Result A Text

-- goes on where no text is refused
infixl 10 ◌>>=◌
abbrev pub ◌>>=◌ : {A B : Type 0} → Result A Text → (A → Result B Text) → Result B Text
(Ok value) >>= next = next value
(Err text) >>= next = Err text

-- the value that was found in a text; the text is refused if no value was found
abbrev pub found_in : {A : Type 0} → Text → Option A → Read A
found_in text (Some value) = Ok value
found_in text None = Err text

-- a decimal number: one digit or more, and nothing else
abbrev pub is_decimal : Text → Bool
is_decimal text = nat_lt 0 (length text) && list_all (λ c. is_digit c 10) text

-- the number that such a text writes, where it is at most `most`
abbrev pub number_to : ℕ → Text → Read ℕ
number_to most text =
    if is_decimal text && nat_le (digits_value 10 text) most then Ok (digits_value 10 text) else Err text

-- a number of a plan
abbrev pub plan_number : Text → Read ℕ
plan_number = number_to 65535

-- a limit of instructions, or a budget
abbrev pub limit_number : Text → Read ℕ
limit_number = number_to 1000000000000

-- the byte that two hexadecimal digits write, in either case
abbrev pub byte_of : ℕ → ℕ → Option ℕ
byte_of high low =
    if is_digit high 16 && is_digit low 16 then Some (digit_value high * 16 + digit_value low) else None

-- the bytes that an even number of hexadecimal digits writes, each for this port
abbrev pub bytes_for : ℕ → Text → Option (List InputByte)
bytes_for port [] = Some []
bytes_for port (lone ∷ []) = None
bytes_for port (high ∷ low ∷ rest) = option_and_then (λ byte.
    option_map (λ more. record { port = port; byte = byte } ∷ more) (bytes_for port rest)) (byte_of high low)

-- a group: the two digits of a port, a colon (58), and the digits of its bytes
abbrev pub group_bytes : Text → Option (List InputByte)
group_bytes (high ∷ low ∷ colon ∷ digits) =
    if colon == 58 then option_and_then (λ port. bytes_for port digits) (byte_of high low) else None
group_bytes _ = None

-- what several groups write, one after another, by what one of them writes
abbrev pub all_groups : {A : Type 0} → (Text → Option (List A)) → List Text → Option (List A)
all_groups written [] = Some []
all_groups written (group ∷ others) = option_and_then (λ bytes.
    option_map (λ more. bytes ++ more) (all_groups written others)) (written group)

-- what a text writes: its groups, between which slashes (47) stand
abbrev pub groups_in : {A : Type 0} → (Text → Option (List A)) → Text → Option (List A)
groups_in written text = all_groups written (slice_split (λ c. c == 47) text)

-- the bytes of an input
abbrev pub input_bytes : Text → Option (List InputByte)
input_bytes text = groups_in group_bytes text

-- the bytes of an input; no bytes if it was left out
abbrev pub input_read : Option Text → Read (List InputByte)
input_read None = Ok []
input_read (Some text) = found_in text (input_bytes text)

-- the byte of a text of two hexadecimal digits
abbrev pub digits_byte : Text → Option ℕ
digits_byte [] = None
digits_byte (lone ∷ []) = None
digits_byte (high ∷ low ∷ []) = byte_of high low
digits_byte (high ∷ low ∷ more ∷ others) = None

-- the byte that memory has at the start where nothing else is said
abbrev pub fill_read : Text → Read ℕ
fill_read text = found_in text (digits_byte text)

-- the address that four hexadecimal digits write, the high byte first
abbrev pub address_of : ℕ → ℕ → ℕ → ℕ → Option ℕ
address_of a b c d =
    option_and_then (λ high. option_map (λ low. high * 256 + low) (byte_of c d)) (byte_of a b)

-- the bytes that an even number of hexadecimal digits writes, from this address on, where none passes FFFFH
abbrev pub bytes_from : ℕ → Text → Option (List MemoryByte)
bytes_from address [] = Some []
bytes_from address (lone ∷ []) = None
bytes_from address (high ∷ low ∷ rest) =
    if nat_lt address MEMORY_SIZE then option_and_then (λ byte.
    option_map (λ more. record { address = address; byte = byte } ∷ more) (bytes_from (address + 1) rest))
    (byte_of high low) else None

-- a group: the four digits of an address, a colon (58), and the digits of the bytes from there on
abbrev pub memory_group : Text → Option (List MemoryByte)
memory_group (a ∷ b ∷ c ∷ d ∷ colon ∷ digits) =
    if colon == 58 then option_and_then (λ address. bytes_from address digits) (address_of a b c d) else None
memory_group _ = None

-- the bytes of memory that a text writes
abbrev pub memory_bytes : Text → Option (List MemoryByte)
memory_bytes text = groups_in memory_group text

-- the same; no bytes if the text was left out
abbrev pub memory_read : Option Text → Read (List MemoryByte)
memory_read None = Ok []
memory_read (Some text) = found_in text (memory_bytes text)

-- a port and the name of its file
pub record NamedPort : Type 0 where
  pub port : ℕ
  pub name : Text

-- a colon (58)
abbrev pub is_colon : ℕ → Bool
is_colon letter = letter == 58

-- the name of a file, where a dash stands for standard input
abbrev pub input_name : Text → Text
input_name name = if bytes_eq name (codes "-") then codes "/dev/stdin" else name

-- a port and a name, which has a letter at least
abbrev pub port_of_digits : (digits name : Text) → Option NamedPort
port_of_digits digits name =
    if nat_lt 0 (length name) then option_map (λ port. record { port = port; name = input_name name }) (digits_byte digits)
    else None

-- the file of a port: before the first colon of the text the two digits of the port, and after it the name
abbrev pub port_file : Text → Option NamedPort
port_file text =
    if nat_lt (position_or_len is_colon text) (length text)
    then port_of_digits (before_first is_colon text) (after_first is_colon text) else None

-- whether some bytes of an input are for a port, and whether one of these files is
abbrev pub has_input : List InputByte → (port : ℕ) → Bool
has_input input port = list_any (λ (one : InputByte). one.port == port) input

abbrev pub has_file : List NamedPort → (port : ℕ) → Bool
has_file files port = list_any (λ (one : NamedPort). one.port == port) files

-- the file that a text writes, of a port that has neither one of these files nor bytes of an input
abbrev pub port_file_read : List InputByte → List NamedPort → Text → Read NamedPort
port_file_read input files text = do
  file ← found_in text (port_file text)
  if has_input input file.port || has_file files file.port then Err text else Ok file

-- these files, and then those that texts write
abbrev pub port_files_after : List InputByte → List NamedPort → List Text → Read (List NamedPort)
port_files_after input files [] = Ok files
port_files_after input files (text ∷ more) =
    port_file_read input files text >>= (λ file. port_files_after input (files ++ file ∷ []) more)

-- the files of ports that texts write, beside an input
abbrev pub port_files_read : List InputByte → List Text → Read (List NamedPort)
port_files_read input texts = port_files_after input [] texts

-- the names of the files that texts write
abbrev pub names_if : Option NamedPort → List Text
names_if None = []
names_if (Some file) = file.name ∷ []

abbrev pub names_in : List Text → List Text
names_in texts = flat_map (λ text. names_if (port_file text)) texts

-- the names of files of ports
abbrev pub file_names : List NamedPort → List Text
file_names files = map (λ (file : NamedPort). file.name) files

-- a port and the name of the file to which its bytes go, which has a letter at least; a dash stays one
abbrev pub output_of_digits : (digits name : Text) → Option NamedPort
output_of_digits digits name =
    if nat_lt 0 (length name) then option_map (λ port. record { port = port; name = name }) (digits_byte digits)
    else None

-- the file to which the bytes of a port go: before the first colon of the text the two digits of the port, and after
-- it the name
abbrev pub output_file : Text → Option NamedPort
output_file text =
    if nat_lt (position_or_len is_colon text) (length text)
    then output_of_digits (before_first is_colon text) (after_first is_colon text) else None

-- whether one of these files has a name
abbrev pub has_name : List NamedPort → (name : Text) → Bool
has_name files name = list_any (λ (one : NamedPort). bytes_eq one.name name) files

-- the file that a text writes, of a port that has none of these files, and with another name than theirs
abbrev pub output_file_read : List NamedPort → Text → Read NamedPort
output_file_read files text = do
  file ← found_in text (output_file text)
  if has_file files file.port || has_name files file.name then Err text else Ok file

-- these files, and then those that texts write
abbrev pub output_files_after : List NamedPort → List Text → Read (List NamedPort)
output_files_after files [] = Ok files
output_files_after files (text ∷ more) =
    output_file_read files text >>= (λ file. output_files_after (files ++ file ∷ []) more)

-- the files to which the bytes of ports go, as texts write them
abbrev pub output_files_read : List Text → Read (List NamedPort)
output_files_read texts = output_files_after [] texts

-- the names of the files that texts write
abbrev pub outputs_in : List Text → List Text
outputs_in texts = flat_map (λ text. names_if (output_file text)) texts

-- the values of all options
pub record Values : Type 0 where
  pub plan : Plan
  pub limit : ℕ
  pub input : List InputByte
  pub fill : ℕ
  pub memory : List MemoryByte
  pub input_files : List NamedPort
  pub output_files : List NamedPort
  pub watch : Watch

-- the plan that texts write
abbrev pub plan_read : PlanWanted → Read Plan
plan_read wanted = do
  code ← plan_number wanted.code
  data_base ← plan_number wanted.data_base
  stack ← plan_number wanted.stack
  stack_size ← plan_number wanted.stack_size
  Ok (record { code = code; data_base = data_base; stack = stack; stack_size = stack_size })

-- the values that the texts of all options write, or the first text that is no value
abbrev pub texts_read :
    PlanWanted → (limit : Text) → (input : Option Text) → (fill : Text) → (memory : Option Text)
    → (input_files output_files : List Text) → Watch → Read Values
texts_read plan_text limit_text input_text fill_text memory_text input_file_texts output_file_texts watch = do
  plan ← plan_read plan_text
  limit ← limit_number limit_text
  input ← input_read input_text
  fill ← fill_read fill_text
  memory ← memory_read memory_text
  input_files ← port_files_read input input_file_texts
  output_files ← output_files_read output_file_texts
  Ok (record {
    plan = plan;
    limit = limit;
    input = input;
    fill = fill;
    memory = memory;
    input_files = input_files;
    output_files = output_files;
    watch = watch;
  })

-- the values of what is wanted of sources
abbrev pub values_read : ProgramWanted → Read Values
values_read wanted =
    texts_read wanted.plan wanted.limit wanted.input wanted.fill wanted.memory wanted.input_files wanted.output_files
    wanted.watch

-- the values of what is wanted of objects
abbrev pub execute_read : ExecuteWanted → Read Values
execute_read wanted =
    texts_read wanted.plan wanted.limit wanted.input wanted.fill wanted.memory wanted.input_files wanted.output_files
    wanted.watch

-- the address of a jump, where one is wanted
abbrev pub jump_read : Option Text → Read (Option ℕ)
jump_read None = Ok None
jump_read (Some text) = plan_number text >>= (λ address. Ok (Some address))

-- the file, where there is one alone: a second one is refused
abbrev pub only_file : List Text → Read Text
only_file [] = Err []
only_file (file ∷ []) = Ok file
only_file (file ∷ second ∷ more) = Err second

-- what is printed of the number that is wanted, which is refused where there is no such number
abbrev pub page_read : ExplainWanted → Read Text
page_read wanted = found_in wanted.number (page_of wanted.number)

-- the answer is what the text reads as
abbrev pub Reads : {A : Type 0} → Read A → Result A ValueFault → Type 0
Reads read (Ok value) = read ≡ Ok value
Reads read (Err fault) = read ≡ Err fault.text.now

-- the same of a text
abbrev pub ReadsFile : Read Text → Result (Bor Text) ValueFault → Type 0
ReadsFile read (Ok file) = read ≡ Ok file.now
ReadsFile read (Err fault) = read ≡ Err fault.text.now

-- a port and the name of its file, as settings hold them
abbrev pub port_file_in : PortFile → NamedPort
port_file_in file = record { port = file.port; name = file.name.now }

-- what settings hold
abbrev pub values_in : Settings → Values
values_in settings = record {
  plan = settings.plan;
  limit = settings.limit;
  input = settings.input.items;
  fill = settings.fill;
  memory = settings.memory.items;
  input_files = map port_file_in settings.input_files.items;
  output_files = map port_file_in settings.output_files.items;
  watch = settings.watch;
}

-- the files of the settings have the names that these texts write
abbrev pub HasNames : List Text → Result Settings (Failure ValueFault) → Type 0
HasNames texts (Ok settings) = file_names (map port_file_in settings.input_files.items) ≡ names_in texts
HasNames texts (Err failure) = Unit {0}

-- the same of the files to which the bytes of ports go
abbrev pub HasOutputs : List Text → Result Settings (Failure ValueFault) → Type 0
HasOutputs texts (Ok settings) = file_names (map port_file_in settings.output_files.items) ≡ outputs_in texts
HasOutputs texts (Err failure) = Unit {0}

-- the answer is what the texts read as, unless memory ran out
abbrev pub IsSettingsOf : Read Values → Result Settings (Failure ValueFault) → Type 0
IsSettingsOf read (Ok settings) = read ≡ Ok (values_in settings)
IsSettingsOf read (Err (Fault fault)) = read ≡ Err fault.text.now
IsSettingsOf read (Err Memory) = Unit {0}

-- the answer is the page that the text reads as, unless memory ran out
abbrev pub IsPageOf : Read Text → Result (Bor Text) (Failure ValueFault) → Type 0
IsPageOf read (Ok page) = read ≡ Ok page.now
IsPageOf read (Err (Fault fault)) = read ≡ Err fault.text.now
IsPageOf read (Err Memory) = Unit {0}

-- memory did not run out
abbrev pub HasMemory : Result Settings (Failure ValueFault) → Type 0
HasMemory (Err Memory) = ⊥
HasMemory (Err (Fault fault)) = Unit {0}
HasMemory (Ok settings) = Unit {0}
