-- Code that loads values from memory.
use Rattle.std.specs.Prelude.{ℕ, ◌==◌, List, [], ◌∷◌, ◌++◌, Option, Some, None, if◌then◌else◌}
use Rattle.isa8080.specs.declared.instr.Instr.TheVariants.{Pop, Push}
use Rattle.isa8080.specs.declared.instr.Register.TheVariants.{A, H, L}
use Rattle.isa8080.specs.declared.instr.StackPair.TheVariants.{StackHl}
use Rattle.asm8080.specs.declared.item.WordForm.TheVariants.{LoadA, LoadHl}
use Rattle.treecode.specs.declared.place.Location.{Location}
use Rattle.treecode.specs.declared.place.Location.TheVariants.{Static, Frame}
use Rattle.treecode.specs.declared.reference.Reference.{Reference}
use Rattle.steps8080.specs.declared.step.Step.{Step}
use Rattle.steps8080.specs.declared.step.Step.TheVariants.{Plain, Word}
use Rattle.steps8080.specs.declared.step.Task.TheVariants.{Address}
use Rattle.steps8080.specs.internal.Facts.{before, byte_for_l, byte_from_hl, is_at}
use Rattle.steps8080.specs.internal.Instructions.{copy, load, set}
use Rattle.steps8080.specs.internal.Step.{part, plain}
use Rattle.steps8080.specs.declared.sites.site.Site.{Site}
use Rattle.steps8080.specs.internal.Queries.{location_of}
use Rattle.steps8080.specs.internal.Site.{distance}
use Rattle.operands8080.specs.internal.Addresses.{note_word_steps, location_address_steps, location_word_steps, word_at_hl_steps}

-- puts the word at the stack pointer into HL
abbrev pub top_word_steps : List Step
top_word_steps = plain (Pop StackHl ∷ Push StackHl ∷ [])

-- puts the byte at a location of the frame into A, if these steps come first
abbrev pub frame_byte_steps : Site → Location → (away pushed : ℕ) → List Step
frame_byte_steps site location away pushed =
    if away == 0 then top_word_steps ++ note_word_steps location ++ (Plain (copy A L) ∷ [])
    else if away == 1
    then top_word_steps ++ note_word_steps (before location) ++ (Plain (copy A H) ∷ [])
    else location_address_steps site location pushed ++ (Plain (load A) ∷ [])

-- puts the byte at a location into A, if these steps come first; for a static location, only A changes
abbrev pub location_byte_steps : Site → Location → (pushed : ℕ) → List Step
location_byte_steps site location pushed =
    if is_at site.facts.byte_in_a location then []
    else elim (byte_from_hl site.facts location) [
      | Some instruction ↦ Plain instruction ∷ []
      | None ↦ elim location [
        | Static place ↦ Word LoadA place ∷ []
        | Frame variable offset ↦
            frame_byte_steps site (Frame variable offset) (distance site variable offset pushed) pushed
      ]
    ]

-- puts the byte of a part of memory into A, if these steps come first
abbrev pub byte_in_memory_steps : Site → Reference → (pushed : ℕ) → List Step
byte_in_memory_steps site reference pushed = elim (location_of site reference) [
  | Some location ↦ location_byte_steps site location pushed
  | None ↦ part (Address reference) pushed ∷ Plain (load A) ∷ []
]

-- puts the byte at a location of the frame into L, if these steps come first; A and DE are kept
abbrev pub frame_byte_to_l_steps : Site → Location → (away pushed : ℕ) → List Step
frame_byte_to_l_steps site location away pushed =
    if away == 0 then top_word_steps
    else if away == 1 then top_word_steps ++ (Plain (copy L H) ∷ [])
    else location_address_steps site location pushed ++ (Plain (load L) ∷ [])

-- puts the byte at a location into L, if these steps come first; A and DE are kept
abbrev pub byte_to_l_steps : Site → Location → (pushed : ℕ) → List Step
byte_to_l_steps site location pushed =
    if is_at site.facts.word_in_hl location then []
    else elim (byte_for_l site.facts location) [
      | Some instruction ↦ Plain instruction ∷ []
      | None ↦ elim location [
        | Static place ↦ Word LoadHl place ∷ []
        | Frame variable offset ↦
            frame_byte_to_l_steps site (Frame variable offset) (distance site variable offset pushed) pushed
      ]
    ]

-- puts the byte of a part of memory into HL, zero-extended, if these steps come first; A and DE are kept if
-- the code for the address keeps them
abbrev pub extended_byte_in_memory_steps : Site → Reference → (pushed : ℕ) → List Step
extended_byte_in_memory_steps site reference pushed = elim (location_of site reference) [
  | Some location ↦ byte_to_l_steps site location pushed ++ (Plain (set H 0) ∷ [])
  | None ↦ part (Address reference) pushed ∷ plain (load L ∷ set H 0 ∷ [])
]

-- puts the word of a part of memory into HL, if these steps come first; DE is kept if that for the address
-- keeps it
abbrev pub word_in_memory_steps : Site → Reference → (pushed : ℕ) → List Step
word_in_memory_steps site reference pushed = elim (location_of site reference) [
  | Some location ↦ location_word_steps site location pushed
  | None ↦ part (Address reference) pushed ∷ word_at_hl_steps
]
