-- What is printed where a command is refused.
use Rattle.std.specs.Prelude.{◌≡◌, ◌⊎◌, ℕ, Bool, true, List, [], ◌∷◌, ◌++◌, codes, decimal, Option}
use Rattle.std.specs.List.{list_any}
use Rattle.std.specs.Str.{bytes_eq}
use Rattle.ports.specs.Events.{CountsFailure}
use Rattle.failure.specs.Writing.{AppendsBeginning, IsBeginning}
use Rattle.host.specs.Files.{Directory}
use Rattle.host.specs.Reading.{StopsAt}

-- the line of a refusal: the number of the fault, a place and the line of a text, with spaces (32) between
-- them and a line feed (10) at the end
unfoldable pub refusal_line : (number place : List ℕ) → (line : ℕ) → List ℕ
refusal_line number place line = number ++ (32 ∷ (place ++ (32 ∷ (decimal line ++ 10 ∷ []))))

-- the line of a file that can't be read or written
abbrev pub file_line : (name : List ℕ) → List ℕ
file_line name = refusal_line (codes "U3") name 0

-- the line of standard output, which has a dash for a name
abbrev pub output_line : List ℕ
output_line = file_line (codes "-")

-- the line where memory ran out
abbrev pub memory_line : List ℕ
memory_line = refusal_line (codes "MEMORY") (codes "-") 0

-- the numbers of the faults that commands print, with the word for memory that ran out
abbrev pub fault_numbers : List (List ℕ)
fault_numbers =
    codes "C1" ∷ codes "C2" ∷ codes "C3" ∷ codes "C4" ∷ codes "C5" ∷ codes "C6" ∷ codes "C7"
    ∷ codes "C8" ∷ codes "C9" ∷ codes "C11" ∷ codes "C12" ∷ codes "C13" ∷ codes "C14" ∷ codes "C15" ∷ codes "C16"
    ∷ codes "C17" ∷ codes "C18" ∷ codes "C19" ∷ codes "C20" ∷ codes "G1" ∷ codes "J1" ∷ codes "J2" ∷ codes "J3"
    ∷ codes "J4" ∷ codes "J5" ∷ codes "L1" ∷ codes "L2" ∷ codes "L3" ∷ codes "L4" ∷ codes "L5" ∷ codes "O1"
    ∷ codes "O2" ∷ codes "O3" ∷ codes "O4" ∷ codes "O5" ∷ codes "O6" ∷ codes "O7" ∷ codes "O8" ∷ codes "O9"
    ∷ codes "P1" ∷ codes "P2" ∷ codes "P3" ∷ codes "P4" ∷ codes "P5" ∷ codes "P6" ∷ codes "U1" ∷ codes "U2"
    ∷ codes "U3" ∷ codes "U4" ∷ codes "MEMORY" ∷ []

-- one of them
abbrev pub is_fault_number : (number : List ℕ) → Bool
is_fault_number number = list_any (λ known. bytes_eq known number) fault_numbers

-- the line of another fault than that of a file
abbrev pub IsOfNoFile : (line : List ℕ) → Type 0
IsOfNoFile line = (line ≡ output_line) ⊎ (IsBeginning (codes "U3 ") line → ⊥)

-- a line was printed, or a beginning of it, which may be nothing
pub record Tells (line : List ℕ) (old new : Option (List ℕ)) : Type 0 where
  pub printed : AppendsBeginning old new line

-- the line of another fault was printed, or a beginning of it, which may be nothing
pub record TellsOther (old new : Option (List ℕ)) : Type 0 where
  pub number : List ℕ
  pub place : List ℕ
  pub line : ℕ
  pub numbered : is_fault_number number ≡ true
  pub of_no_file : IsOfNoFile (refusal_line number place line)
  pub told : Tells (refusal_line number place line) old new

-- a command was refused: for the first of these files that could not be read or written, whose failure was
-- counted, or for another fault, where no failure was counted
unfoldable pub TellsRefusal :
    (files : Option Directory) → (names : List (List ℕ)) → (before after : ℕ) → (old new : Option (List ℕ))
    → Type 0
TellsRefusal files names before after old new =
    (CountsFailure before after × ((name : List ℕ) × StopsAt files names name × Tells (file_line name) old new))
    ⊎ ((after ≡ before) × TellsOther old new)
