-- What the parts of an order to convert make, print and tell.
use Rattle.std.specs.Prelude.{◌≡◌, ◌⊎◌, ◌<◌, ℕ, List, [], length, Option, None, Some, Result, Ok, Err}
use Rattle.std.specs.Io.KnownBytes.{Appends, Keeps}
use Rattle.ports.specs.Events.{CountsFailure}
use Rattle.words.specs.declared.limits.TheConstants.{LONGEST_SOURCE}
use Rattle.host.specs.Writing.{AppendsBeginning}
use Rattle.host.specs.Files.{Directory}
use Rattle.host.specs.Outcome.{Failure}
use Rattle.host.specs.Outcome.TheVariants.{Fault, Memory}
use Rattle.host.specs.Refusals.{Tells, file_line, memory_line, refusal_line}
use Rattle.sources.specs.declared.read.ReadFault.{ReadFault}
use Rattle.sources.specs.declared.read.ReadFault.TheVariants.{TooLong, Words, Expansion, Syntax, Typing, Storage}
use Rattle.sources.specs.Faults.{line_of, number_of}
use Rattle.convert.specs.declared.advice.Advice.{Advice}
use Rattle.convert.specs.declared.assembly.PlacedNote.{PlacedNote}
use Rattle.convert.specs.declared.includes.Entry.{Entry}
use Rattle.convert.specs.declared.rule.Rule.{Rule}
use Rattle.convert.specs.Assembly.{Parts}
use Rattle.convert.specs.Edits.{Change}
use Rattle.convert.specs.Origins.{line_table}
use Rattle.convert.specs.Sources.{IsConverted, note_lines, place_at}
use Rattle.command_line.specs.Command.{ConvertWanted}
use Rattle.object_commands.specs.Linking.{StopsWriting}
use Rattle.commands.specs.declared.converting.Conversion.{Conversion}
use Rattle.commands.specs.declared.converting.Form.{Form}
use Rattle.commands.specs.declared.converting.Form.TheVariants.{Mistyped, Module, Old}
use Rattle.commands.specs.declared.converting.Refusal.{Refusal}
use Rattle.commands.specs.Converting.{Converts, ConvertsText, HasNoConversion, IsMistyped, IsModule, IsNoModule, IsPutTogether, StopsIncluding, StopsSource, fault_line_at}
use Rattle.commands.specs.Refusing.{TellsFile, TellsUnwritten}
use Rattle.commands.specs.Tables.{BeginsTable, WritesTable}

-- what a text with a fault is
abbrev pub form_of_fault : ReadFault → Form
form_of_fault TooLong = Old
form_of_fault (Words fault) = Old
form_of_fault (Expansion fault) = Old
form_of_fault (Syntax fault) = Old
form_of_fault (Typing fault) = Mistyped
form_of_fault (Storage fault) = Module

-- what a text is: a module; one but for a fault of names or of types; or neither
abbrev pub IsOfForm : (text : List ℕ) → Form → Type 0
IsOfForm text Module = IsModule text
IsOfForm text Mistyped = IsMistyped text
IsOfForm text Old = IsNoModule text

-- the table, if one is wanted
abbrev pub table_if : Option (List ℕ) → List ℕ → List ℕ
table_if None table = []
table_if (Some name) table = table

-- the line that tells a refusal
abbrev pub told_line : Refusal → List ℕ
told_line refusal = refusal_line refusal.number.now refusal.file.items refusal.line

-- something holds, but where a fault was found
abbrev pub UnlessFault : {A F : Type 0} → Result A (Failure F) → Type 0 → Type 0
UnlessFault (Ok value) P = P
UnlessFault (Err (Fault fault)) P = Unit {0}
UnlessFault (Err Memory) P = P

module _ (wanted : ConvertWanted) (entries : List Entry) (parts : Parts) where
  -- This text is printed, and these notes are told. The table, if it is wanted, is that of this text, which these changes make of
  -- what was put together.
  pub record IsMadeOf (changes : List Change) (text : List ℕ) (notes : List PlacedNote) (made : Conversion) : Type 0 where
    pub text_is : made.text.items ≡ text
    pub told_is : made.told.items ≡ note_lines wanted.file entries notes
    pub table_is : made.table.items ≡ table_if wanted.lines (line_table wanted.file entries parts changes text)

  -- the same by the changes of rules
  pub record ComesOf (rules : List Rule) (made : Conversion) : Type 0 where
    pub changes : List Change
    pub text : List ℕ
    pub notes : List PlacedNote
    pub converted : IsConverted rules parts changes text notes
    pub made_of : IsMadeOf changes text notes made

  -- what was put together has a fault, and this tells it
  pub record RefusesParts (refusal : Refusal) : Type 0 where
    pub fault : ReadFault
    pub cause : HasNoConversion parts.text fault
    pub line_is : told_line refusal ≡ fault_line_at wanted.file entries (place_at parts.places (line_of fault)) fault

module _ (rules : List Rule) (advice : Advice) (wanted : ConvertWanted) (files : Option Directory)
    (before : List PlacedNote) (text : List ℕ) where
  -- with these files a text is converted to this, after what was told before
  pub record IsConvertedTo (made : Conversion) : Type 0 where
    pub entries : List Entry
    pub notes : List PlacedNote
    pub table : List ℕ
    pub converts : Converts rules advice wanted files before text entries made.text.items notes table
    pub told_is : made.told.items ≡ note_lines wanted.file entries notes
    pub table_is : made.table.items ≡ table_if wanted.lines table

module _ (advice : Advice) (wanted : ConvertWanted) (files : Option Directory) (told : List PlacedNote) (text : List ℕ) where
  -- a file that the text includes can't be read, whose failure was counted, and this tells it
  pub record RefusesInclude (before after : ℕ) (refusal : Refusal) : Type 0 where
    pub counted : CountsFailure before after
    pub stops : StopsIncluding advice wanted files told text refusal.file.items
    pub line_is : told_line refusal ≡ file_line refusal.file.items

  -- the text is too long, and this tells it
  pub record RefusesLength (refusal : Refusal) : Type 0 where
    pub long : LONGEST_SOURCE < length text
    pub line_is : told_line refusal ≡ refusal_line (number_of TooLong) wanted.file 0

  -- what is put together of the text has a fault, and this tells it
  pub record RefusesSource (refusal : Refusal) : Type 0 where
    pub entries : List Entry
    pub parts : Parts
    pub together : IsPutTogether advice wanted files told text entries parts
    pub refuses : RefusesParts wanted entries parts refusal

  -- one of these tells why the text is not converted
  abbrev pub IsRefusedAs : (before after : ℕ) → Refusal → Type 0
  IsRefusedAs before after refusal =
      RefusesInclude before after refusal ⊎ ((after ≡ before) × (RefusesLength refusal ⊎ RefusesSource refusal))

-- The text of a conversion was printed, and its notes, if there are any, were told, as far as standard error takes them. Or standard
-- output did not take the whole text, and that was told.
unfoldable pub PrintsTold : Conversion → (status : ℕ) → (err_old err_new out_old out_new : Option (List ℕ)) → Type 0
PrintsTold made status err_old err_new out_old out_new =
    ((status ≡ 0) × (made.told.items ≡ []) × Appends out_old out_new made.text.items)
    ⊎ (((status ≡ 1) × (0 < length made.told.items) × Appends out_old out_new made.text.items
    × AppendsBeginning err_old err_new made.told.items)
    ⊎ ((status ≡ 1) × TellsUnwritten err_old err_new × AppendsBeginning out_old out_new made.text.items))

-- This was done once the table, if one is wanted, was written. Or its file could not be written, or memory ran out by then, and that
-- was told, and nothing was printed.
unfoldable pub PrintsTabled :
    ConvertWanted → Conversion → (files now : Option Directory)
    → (status before after : ℕ) → (err_old err_new out_old out_new : Option (List ℕ)) → Type 0
PrintsTabled wanted made files now status before after err_old err_new out_old out_new =
    ((after ≡ before) × WritesTable wanted.lines files now made.table.items
    × PrintsTold made status err_old err_new out_old out_new)
    ⊎ (((status ≡ 1) × Keeps out_old out_new
    × TellsFile (λ stop. (wanted.lines ≡ Some stop) × StopsWriting files now stop made.table.items) before after err_old err_new)
    ⊎ ((status ≡ 1) × (after ≡ before) × BeginsTable wanted.lines files now made.table.items
    × Tells memory_line err_old err_new × Keeps out_old out_new))

-- what converting the text of the file of an order does, after what was told before
unfoldable pub ConvertsHeld :
    List Rule → Advice → ConvertWanted → Option Directory → (told : List PlacedNote) → (text : List ℕ)
    → (now : Option Directory) → (status before after : ℕ) → (err_old err_new out_old out_new : Option (List ℕ)) → Type 0
ConvertsHeld rules advice wanted files told text now status before after err_old err_new out_old out_new =
    ((status ≡ 1) × Keeps out_old out_new
    × TellsFile (StopsSource rules advice wanted files told text now) before after err_old err_new)
    ⊎ ((after ≡ before)
    × ConvertsText rules advice wanted files told text now status err_old err_new out_old out_new)
