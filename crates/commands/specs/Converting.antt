-- What is printed and told of a source that is converted.
use Rattle.std.specs.Prelude.{◌≡◌, ◌⊎◌, ◌<◌, ℕ, true, List, [], length, map, min, Option, None, Some}
use Rattle.std.specs.Io.KnownBytes.{Appends, Keeps}
use Rattle.host.specs.Writing.{AppendsBeginning}
use Rattle.clap.specs.Words.{Text}
use Rattle.words.specs.declared.limits.TheConstants.{LONGEST_SOURCE}
use Rattle.host.specs.Files.{Directory, HasFile, KeepsFiles}
use Rattle.host.specs.Refusals.{Tells, memory_line, refusal_line}
use Rattle.sources.specs.declared.read.ReadFault.{ReadFault}
use Rattle.sources.specs.declared.read.ReadFault.TheVariants.{TooLong, Words, Expansion, Syntax, Typing, Storage}
use Rattle.sources.specs.Causes.{HasReadCause, HasTypingFault}
use Rattle.sources.specs.Faults.{line_of, number_of}
use Rattle.sources.specs.Reading.{HasTyping}
use Rattle.convert.specs.declared.advice.Advice.{Advice}
use Rattle.convert.specs.declared.assembly.Place.{Place}
use Rattle.convert.specs.declared.assembly.PlacedNote.{PlacedNote}
use Rattle.convert.specs.declared.includes.Entry.{Entry}
use Rattle.convert.specs.declared.preparing.Medium.{Medium}
use Rattle.convert.specs.declared.rule.Rule.{Rule}
use Rattle.convert.specs.Advice.{advice_view, usual_advice}
use Rattle.convert.specs.Assembly.{Parts, as_it_is}
use Rattle.convert.specs.Conversion.{IsRefused}
use Rattle.convert.specs.Edits.{Change}
use Rattle.convert.specs.Includes.{name_of_file}
use Rattle.convert.specs.Origins.{line_table}
use Rattle.convert.specs.Lines.{plain}
use Rattle.convert.specs.Preparing.{prepared, prepared_notes}
use Rattle.convert.specs.Table.{rule_view, table_of_rules}
use Rattle.convert.specs.Sources.{IsConverted, note_lines, place_at}
use Rattle.command_line.specs.Command.{ConvertWanted, Wanted, wants_compile, wants_convert, wants_execute}
use Rattle.command_line.specs.Command.{wants_explain, wants_link, wants_need, wants_place, wants_program}
use Rattle.command_line.specs.Settings.{outputs_in}
use Rattle.object_commands.specs.Linking.{StopsWriting}
use Rattle.commands.specs.Including.{IsIncluded, StopsLookingForNext, put_together}
use Rattle.commands.specs.OutputFiles.{ByOutputs, is_output}
use Rattle.commands.specs.Refusing.{RunsOut, TellsFile, TellsUnwritten}
use Rattle.commands.specs.Tables.{BeginsTable, WritesTable}

-- a text is a module of this language, with no fault of names or of types
abbrev pub IsModule : (text : List ℕ) → Type 0
IsModule text = (typed : _) × HasTyping text typed

-- a text would be a module but for a fault of names or of types
abbrev pub IsMistyped : (text : List ℕ) → Type 0
IsMistyped text = (fault : _) × HasTypingFault text fault

-- the faults of a text that is no module
abbrev pub IsOfNoModule : ReadFault → Type 0
IsOfNoModule TooLong = ⊥
IsOfNoModule (Words fault) = Unit {0}
IsOfNoModule (Expansion fault) = Unit {0}
IsOfNoModule (Syntax fault) = Unit {0}
IsOfNoModule (Typing fault) = ⊥
IsOfNoModule (Storage fault) = ⊥

-- a text is no module, with this fault
pub record IsNoModule (text : List ℕ) : Type 0 where
  pub fault : ReadFault
  pub kind : IsOfNoModule fault
  pub cause : HasReadCause fault text

-- a text is no module, and with the files that it includes it is put together so, after what was told before
pub record IsPutTogether (advice : Advice) (wanted : ConvertWanted) (files : Option Directory) (before : List PlacedNote)
    (text : List ℕ) (entries : List Entry) (parts : Parts) : Type 0 where
  pub none : IsNoModule text
  pub included : IsIncluded advice wanted files before (plain text) entries
  pub parts_are : parts ≡ put_together advice wanted entries before (plain text)

-- a text is no module, and a file that it includes can't be read
pub record StopsIncluding (advice : Advice) (wanted : ConvertWanted) (files : Option Directory) (before : List PlacedNote)
    (text stop : List ℕ) : Type 0 where
  pub none : IsNoModule text
  pub next : StopsLookingForNext advice wanted files before (plain text) stop

-- the cause that what was put together is not converted: it is too long, or its words are refused
abbrev pub HasNoConversion : List ℕ → ReadFault → Type 0
HasNoConversion text TooLong = LONGEST_SOURCE < length text
HasNoConversion text (Words fault) = ⊥
HasNoConversion text (Expansion fault) = IsRefused text fault
HasNoConversion text (Syntax fault) = ⊥
HasNoConversion text (Typing fault) = ⊥
HasNoConversion text (Storage fault) = ⊥

-- where a fault is told: the line of a text that is too long is 0, and no greater one is told than 4294967295
abbrev pub fault_line_at : (name : List ℕ) → List Entry → Place → ReadFault → List ℕ
fault_line_at name entries place fault =
    refusal_line (number_of fault) (name_of_file name entries place.file) (min place.line 4294967295)

-- how a file holds its source
abbrev pub medium_of : ConvertWanted → Medium
medium_of wanted = record { listing = wanted.listing; cards = wanted.cards }

module _ (rules : List Rule) (advice : Advice) (wanted : ConvertWanted) (files : Option Directory)
    (before : List PlacedNote) (text : List ℕ) where
  -- What a text is printed as with these files, what is told of it after what was told before, and the table of its lines: a
  -- module stays as it is. Of one with a fault of names or of types the words alone are changed.
  pub data Converts : List Entry → List ℕ → List PlacedNote → (table : List ℕ) → Type 0 where
    stays : IsModule text
        → Converts [] text before (line_table wanted.file [] (as_it_is before text) [] text)
    rewritten : {changes : List Change} {printed : List ℕ} {notes : List PlacedNote}
        → IsMistyped text
        → IsConverted rules (as_it_is before text) changes printed notes
        → Converts [] printed notes (line_table wanted.file [] (as_it_is before text) changes printed)
    changed : {entries : List Entry} {parts : Parts} {changes : List Change} {printed : List ℕ} {notes : List PlacedNote}
        → IsPutTogether advice wanted files before text entries parts
        → IsConverted rules parts changes printed notes
        → Converts entries printed notes (line_table wanted.file entries parts changes printed)

  -- all was printed, with nothing to tell, and the table was written that is wanted
  pub record PrintsText (now : Option Directory) (old new : Option (List ℕ)) : Type 0 where
    pub entries : List Entry
    pub printed : List ℕ
    pub table : List ℕ
    pub converts : Converts entries printed [] table
    pub appended : Appends old new printed
    pub tabled : WritesTable wanted.lines files now table

  -- all was printed, the table was written that is wanted, and there are notes, which were told, or a beginning of them
  pub record TellsNotes (now : Option Directory) (err_old err_new out_old out_new : Option (List ℕ)) : Type 0 where
    pub entries : List Entry
    pub printed : List ℕ
    pub notes : List PlacedNote
    pub table : List ℕ
    pub some : 0 < length notes
    pub converts : Converts entries printed notes table
    pub appended : Appends out_old out_new printed
    pub tabled : WritesTable wanted.lines files now table
    pub told : AppendsBeginning err_old err_new (note_lines wanted.file entries notes)

  -- memory ran out or standard output was not written, once all of the table was written that is wanted: a beginning was
  -- printed, which may be nothing or all
  pub record StopsText (now : Option Directory) (err_old err_new out_old out_new : Option (List ℕ)) : Type 0 where
    pub entries : List Entry
    pub printed : List ℕ
    pub notes : List PlacedNote
    pub table : List ℕ
    pub converts : Converts entries printed notes table
    pub tabled : WritesTable wanted.lines files now table
    pub told : TellsUnwritten err_old err_new
    pub begun : AppendsBeginning out_old out_new printed

  -- memory ran out while the wanted table was written: its file has a beginning of it, and nothing was printed
  pub record StopsBeforeText (now : Option Directory) (err_old err_new out_old out_new : Option (List ℕ)) : Type 0 where
    pub entries : List Entry
    pub printed : List ℕ
    pub notes : List PlacedNote
    pub table : List ℕ
    pub converts : Converts entries printed notes table
    pub tabled : BeginsTable wanted.lines files now table
    pub told : Tells memory_line err_old err_new
    pub nothing : Keeps out_old out_new

  -- the table is wanted in a file of this name, which can't be written: all files are as before, or it has a beginning
  pub record StopsTable (now : Option Directory) (stop : List ℕ) : Type 0 where
    pub entries : List Entry
    pub printed : List ℕ
    pub notes : List PlacedNote
    pub table : List ℕ
    pub converts : Converts entries printed notes table
    pub wanted_is : wanted.lines ≡ Some stop
    pub begun : StopsWriting files now stop table

  -- the file at which converting a text stops: one that it includes, with no file changed, or that of the table
  abbrev pub StopsSource : (now : Option Directory) → (stop : List ℕ) → Type 0
  StopsSource now stop =
      (KeepsFiles files now × StopsIncluding advice wanted files before text stop) ⊎ StopsTable now stop

  -- the text is not converted, and its fault was told, at the place of its line
  pub record TellsFault (old new : Option (List ℕ)) : Type 0 where
    pub entries : List Entry
    pub parts : Parts
    pub together : IsPutTogether advice wanted files before text entries parts
    pub fault : ReadFault
    pub cause : HasNoConversion parts.text fault
    pub told : Tells (fault_line_at wanted.file entries (place_at parts.places (line_of fault)) fault) old new

  -- the text is too long, and this was told
  pub record TellsLength (old new : Option (List ℕ)) : Type 0 where
    pub long : LONGEST_SOURCE < length text
    pub told : Tells (refusal_line (number_of TooLong) wanted.file 0) old new

  -- Why a text was not printed, or not without a word. Where it is refused, no file changes; the table that is wanted is
  -- written before anything is printed.
  unfoldable pub RefusesText : (now : Option Directory) → (err_old err_new out_old out_new : Option (List ℕ)) → Type 0
  RefusesText now err_old err_new out_old out_new =
      (KeepsFiles files now × Keeps out_old out_new
      × (Tells memory_line err_old err_new ⊎ (TellsLength err_old err_new ⊎ TellsFault err_old err_new)))
      ⊎ (TellsNotes now err_old err_new out_old out_new
      ⊎ (StopsText now err_old err_new out_old out_new ⊎ StopsBeforeText now err_old err_new out_old out_new))

  -- what converting a text prints, tells and writes, and the status
  unfoldable pub ConvertsText :
      (now : Option Directory) → (status : ℕ) → (err_old err_new out_old out_new : Option (List ℕ)) → Type 0
  ConvertsText now status err_old err_new out_old out_new =
      ((status ≡ 0) × PrintsText now out_old out_new)
      ⊎ ((status ≡ 1) × RefusesText now err_old err_new out_old out_new)

-- the file that is wanted has a text, whose source was converted, after what is told of its lines
pub record ConvertsRead (rules : List Rule) (advice : Advice) (wanted : ConvertWanted) (files now : Option Directory)
    (status : ℕ) (err_old err_new out_old out_new : Option (List ℕ)) : Type 0 where
  pub text : List ℕ
  pub read : HasFile files wanted.file text
  pub converted : ConvertsText rules advice wanted files (prepared_notes advice (medium_of wanted) text)
      (prepared (medium_of wanted) text) now status err_old err_new out_old out_new

-- the file that is wanted has a text, and a file that its source includes can't be read, or that of the table not written
pub record StopsRead (rules : List Rule) (advice : Advice) (wanted : ConvertWanted) (files now : Option Directory)
    (stop : List ℕ) : Type 0 where
  pub text : List ℕ
  pub read : HasFile files wanted.file text
  pub stops : StopsSource rules advice wanted files (prepared_notes advice (medium_of wanted) text)
      (prepared (medium_of wanted) text) now stop

-- the file at which converting stops: the one that is wanted, with no file changed, or one at which its source stops
abbrev pub StopsConverting :
    List Rule → Advice → ConvertWanted → (files now : Option Directory) → (stop : List ℕ) → Type 0
StopsConverting rules advice wanted files now stop =
    (KeepsFiles files now × (stop ≡ wanted.file)) ⊎ StopsRead rules advice wanted files now stop

-- What converting a file prints, tells and writes, and the status: 1 where it or a file that it includes can't be read, that
-- of the table can't be written, or memory ran out, with nothing printed, or else what converting its text does.
unfoldable pub ConvertsFile :
    List Rule → Advice → ConvertWanted → (files now : Option Directory) → (status before after : ℕ)
    → (err_old err_new out_old out_new : Option (List ℕ)) → Type 0
ConvertsFile rules advice wanted files now status before after err_old err_new out_old out_new =
    ((status ≡ 1) × Keeps out_old out_new
    × TellsFile (StopsConverting rules advice wanted files now) before after err_old err_new)
    ⊎ (((status ≡ 1) × KeepsFiles files now × RunsOut before after err_old err_new out_old out_new)
    ⊎ ((after ≡ before) × ConvertsRead rules advice wanted files now status err_old err_new out_old out_new))

-- the same with the rules and what is told of controls as they are
pub record ConvertsByTables (wanted : ConvertWanted) (files now : Option Directory) (status before after : ℕ)
    (err_old err_new out_old out_new : Option (List ℕ)) : Type 0 where
  pub rules : List Rule
  pub advice : Advice
  pub rules_are : map rule_view rules ≡ table_of_rules
  pub advice_is : advice_view advice ≡ usual_advice
  pub converts : ConvertsFile rules advice wanted files now status before after err_old err_new out_old out_new

-- what an order to convert prints, tells and writes; of other orders that is said elsewhere
abbrev pub ConvertsAsWanted :
    Wanted → (files now : Option Directory) → (status before after : ℕ)
    → (err_old err_new out_old out_new : Option (List ℕ)) → Type 0
ConvertsAsWanted (wants_convert convert) files now status before after err_old err_new out_old out_new =
    ConvertsByTables convert files now status before after err_old err_new out_old out_new
ConvertsAsWanted (wants_compile compile) files now status before after err_old err_new out_old out_new = Unit {0}
ConvertsAsWanted (wants_program program) files now status before after err_old err_new out_old out_new = Unit {0}
ConvertsAsWanted (wants_link link) files now status before after err_old err_new out_old out_new = Unit {0}
ConvertsAsWanted (wants_place place) files now status before after err_old err_new out_old out_new = Unit {0}
ConvertsAsWanted (wants_need need) files now status before after err_old err_new out_old out_new = Unit {0}
ConvertsAsWanted (wants_execute execute) files now status before after err_old err_new out_old out_new = Unit {0}
ConvertsAsWanted (wants_explain explain) files now status before after err_old err_new out_old out_new = Unit {0}

-- the same of what words want, or memory ran out before that was known, with no file changed
abbrev pub ConvertsByWords :
    Option Wanted → (files now : Option Directory) → (status before after : ℕ)
    → (err_old err_new out_old out_new : Option (List ℕ)) → Type 0
ConvertsByWords None files now status before after err_old err_new out_old out_new = Unit {0}
ConvertsByWords (Some wanted) files now status before after err_old err_new out_old out_new =
    ((status ≡ 1) × KeepsFiles files now × RunsOut before after err_old err_new out_old out_new)
    ⊎ ConvertsAsWanted wanted files now status before after err_old err_new out_old out_new

-- one of these files of ports was told, which could not be written, and its failure was counted
abbrev pub TellsOutput : (before after : ℕ) → (old new : Option (List ℕ)) → (names : List (List ℕ)) → Type 0
TellsOutput before after old new names = TellsFile (λ name. is_output names name ≡ true) before after old new

-- what is told of a run: a refusal, or one of the files of ports that texts write
abbrev pub TellsRun : (texts : List Text) → (output : List (List ℕ) → Type 0) → (refusal : Type 0) → Type 0
TellsRun texts output refusal = ByOutputs texts refusal (refusal ⊎ output (outputs_in texts))

-- what is told with status 1 is a refusal, or a file of a port, but of an order to convert, whose notes are told too:
-- that is said above
abbrev pub TellsAsWanted : Wanted → (output : List (List ℕ) → Type 0) → (refusal : Type 0) → Type 0
TellsAsWanted (wants_convert convert) output refusal = Unit {0}
TellsAsWanted (wants_compile compile) output refusal = refusal
TellsAsWanted (wants_program program) output refusal = TellsRun program.output_files output refusal
TellsAsWanted (wants_link link) output refusal = refusal
TellsAsWanted (wants_place place) output refusal = refusal
TellsAsWanted (wants_need need) output refusal = refusal
TellsAsWanted (wants_execute execute) output refusal = TellsRun execute.output_files output refusal
TellsAsWanted (wants_explain explain) output refusal = refusal

abbrev pub TellsByWords : Option Wanted → (output : List (List ℕ) → Type 0) → (refusal : Type 0) → Type 0
TellsByWords None output refusal = refusal
TellsByWords (Some wanted) output refusal = TellsAsWanted wanted output refusal
