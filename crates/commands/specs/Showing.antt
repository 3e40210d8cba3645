-- What is printed of files that are listed, and of the symbols of sources, and where they are refused.
use Rattle.std.specs.Prelude.{◌≡◌, ◌⊎◌, ℕ, ◌≤◌, ◌==◌, Bool, true, false, List, [], ◌∷◌, length, Option}
use Rattle.std.specs.Io.KnownBytes.{Appends, Keeps}
use Rattle.host.specs.Writing.{AppendsBeginning}
use Rattle.host.specs.Files.{Directory}
use Rattle.host.specs.Reading.{HasFiles}
use Rattle.host.specs.Refusals.{Tells, TellsOther, memory_line}
use Rattle.command_line.specs.declared.orders.PlaceAction.{PlaceAction}
use Rattle.command_line.specs.declared.orders.PlaceAction.TheVariants.{Listing, Symbols}
use Rattle.listings.specs.Programs.{ListsProgram}
use Rattle.listings.specs.Symbols.{SymbolsOfProgram}
use Rattle.mem80.specs.declared.plan.Plan.{Plan}
use Rattle.object_commands.specs.Listing.{PrintsListing, StopsListing}
use Rattle.sources.specs.declared.sources.TheConstants.{MOST_SOURCES}
use Rattle.sources.specs.Programs.{IsProgramOf, program_modules, text_of}
use Rattle.tool.specs.Construction.{Construction, IsConstruction}
use Rattle.commands.specs.Refusing.{TellsCause, TellsUnwritten}

-- bytes begin with the type of an object's first record (2), as those of no source do
abbrev pub begins_object : List ℕ → Bool
begins_object [] = false
begins_object (byte ∷ bytes) = byte == 2

-- one file alone is listed as an object, where it begins as one
abbrev pub is_object : (texts : List (List ℕ)) → Bool
is_object (text ∷ []) = begins_object text
is_object texts = false

abbrev pub takes_object : PlaceAction → (texts : List (List ℕ)) → Bool
takes_object Listing texts = is_object texts
takes_object action texts = false

-- the text of a program that was built from texts: its listing, or its symbols
abbrev pub ShowsProgram : PlaceAction → (texts : List (List ℕ)) → Construction → (text : List ℕ) → Type 0
ShowsProgram Listing texts built text = ListsProgram texts built text
ShowsProgram Symbols texts built text = SymbolsOfProgram texts built text
ShowsProgram action texts built text = ⊥

-- a program was built of texts, which are not too many, at a plan, and has this text
pub record HasShown (action : PlaceAction) (plan : Plan) (texts : List (List ℕ)) (text : List ℕ) : Type 0 where
  pub built : Construction
  pub few : length texts ≤ MOST_SOURCES
  pub program : IsProgramOf texts (program_modules built.program)
  pub planned : built.plan ≡ plan
  pub construction : IsConstruction built
  pub shown : ShowsProgram action texts built text

-- that text was written, or a beginning of it
pub record PrintsProgramText (action : PlaceAction) (plan : Plan) (texts : List (List ℕ))
    (old new : Option (List ℕ)) : Type 0 where
  pub text : List ℕ
  pub shown : HasShown action plan texts text
  pub printed : Appends old new text

pub record BeginsProgramText (action : PlaceAction) (plan : Plan) (texts : List (List ℕ))
    (old new : Option (List ℕ)) : Type 0 where
  pub text : List ℕ
  pub shown : HasShown action plan texts text
  pub printed : AppendsBeginning old new text

-- the text of a program was written; and why it was not, with a beginning of it written, or nothing
pub record PrintsBuilt (action : PlaceAction) (texts : List (List ℕ)) (built : Construction)
    (old new : Option (List ℕ)) : Type 0 where
  pub text : List ℕ
  pub shown : ShowsProgram action texts built text
  pub printed : Appends old new text

pub record BeginsBuilt (action : PlaceAction) (texts : List (List ℕ)) (built : Construction)
    (old new : Option (List ℕ)) : Type 0 where
  pub text : List ℕ
  pub shown : ShowsProgram action texts built text
  pub printed : AppendsBeginning old new text

abbrev pub StopsShowing :
    PlaceAction → (texts : List (List ℕ)) → Construction → (err_old err_new out_old out_new : Option (List ℕ)) → Type 0
StopsShowing action texts built err_old err_new out_old out_new =
    (Keeps out_old out_new × Tells memory_line err_old err_new)
    ⊎ (TellsUnwritten err_old err_new × BeginsBuilt action texts built out_old out_new)

-- what is printed of texts, by whether they are that of an object
abbrev pub PrintsTextsBy :
    (object : Bool) → PlaceAction → Plan → (texts : List (List ℕ)) → (old new : Option (List ℕ)) → Type 0
PrintsTextsBy true action plan texts old new = PrintsListing (text_of texts 0) plan old new
PrintsTextsBy false action plan texts old new = PrintsProgramText action plan texts old new

-- the files of these names have texts, and what is wanted of these at a plan was printed
pub record PrintsShown (action : PlaceAction) (files : Option Directory) (names : List (List ℕ)) (plan : Plan)
    (old new : Option (List ℕ)) : Type 0 where
  pub texts : List (List ℕ)
  pub read : HasFiles files names texts
  pub printed : PrintsTextsBy (takes_object action texts) action plan texts old new

-- Why nothing is printed of texts, or only a beginning: for the fault of an object or of its place; for a fault of
-- sources or of the plan, with nothing printed; or since memory ran out or standard output was not written.
abbrev pub RefusesTextsBy :
    (object : Bool) → PlaceAction → Plan → (names texts : List (List ℕ))
    → (err_old err_new out_old out_new : Option (List ℕ)) → Type 0
RefusesTextsBy true action plan names texts err_old err_new out_old out_new =
    TellsOther err_old err_new × StopsListing (text_of texts 0) plan out_old out_new
RefusesTextsBy false action plan names texts err_old err_new out_old out_new =
    (Keeps out_old out_new × (TellsCause names texts plan err_old err_new ⊎ Tells memory_line err_old err_new))
    ⊎ (TellsUnwritten err_old err_new × BeginsProgramText action plan texts out_old out_new)

pub record RefusesShown (action : PlaceAction) (files : Option Directory) (names : List (List ℕ)) (plan : Plan)
    (err_old err_new out_old out_new : Option (List ℕ)) : Type 0 where
  pub texts : List (List ℕ)
  pub read : HasFiles files names texts
  pub refused : RefusesTextsBy (takes_object action texts) action plan names texts err_old err_new out_old out_new
