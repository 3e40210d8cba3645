-- Names as the code keeps them.
use Rattle.std.specs.Prelude.{ℕ, List, codes, map, Option}
use Rattle.object_modules.specs.Image.{Symbol}
use Rattle.runtime8080.specs.declared.routine.Routine.{Routine as TheRoutine}
use Rattle.runtime8080.specs.declared.routine.Routine.TheVariants as routines
use Rattle.listings.specs.Names.{symbol_at}
use Rattle.listings.specs.declared.named.Named.{Named}
use Rattle.listings.specs.declared.named.NameText.{NameText}
use Rattle.listings.specs.declared.named.NameText.TheVariants.{Declared, Routine}

-- the name of a routine
abbrev pub routine_name : TheRoutine → List ℕ
routine_name routines.Multiply = codes "Multiply"
routine_name routines.Divide = codes "Divide"
routine_name routines.ShiftLeftByte = codes "ShiftLeftByte"
routine_name routines.ShiftRightByte = codes "ShiftRightByte"
routine_name routines.ShiftLeftAddress = codes "ShiftLeftAddress"
routine_name routines.ShiftRightAddress = codes "ShiftRightAddress"
routine_name routines.RotateLeft = codes "RotateLeft"
routine_name routines.RotateRight = codes "RotateRight"
routine_name routines.Move = codes "Move"

abbrev pub text_of_name : NameText → List ℕ
text_of_name (Declared name) = name
text_of_name (Routine routine) = routine_name routine

-- a name that an address has
abbrev pub named_with : (address : ℕ) → NameText → Named
named_with address text = record { address = address; text = text }

-- a name with its address
abbrev pub named_view : Named → Symbol
named_view named = record { name = text_of_name named.text; address = named.address }

-- the first name of an address, if it has one
abbrev pub name_at : List Named → (address : ℕ) → Option Symbol
name_at names address = symbol_at (map named_view names) address
