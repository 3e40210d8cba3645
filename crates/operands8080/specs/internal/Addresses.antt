-- Code that puts addresses of objects and their parts into HL.
use Rattle.std.specs.Prelude.{ℕ, ◌+◌, ◌-◌, ◌%◌, ◌==◌, List, [], ◌∷◌, ◌++◌, Option, Some, None, if◌then◌else◌, nat_le}
use Rattle.isa8080.specs.declared.instr.Instr.TheVariants.{Dad, Dcx, Inx, Lxi, Pop, Push, Xchg}
use Rattle.isa8080.specs.declared.instr.Pair.TheVariants.{Bc, De, Hl, Sp}
use Rattle.isa8080.specs.declared.instr.Register.TheVariants.{A, H, L}
use Rattle.isa8080.specs.declared.instr.StackPair.TheVariants.{StackBc, StackDe, StackHl}
use Rattle.asm8080.specs.declared.item.WordForm.TheVariants.{LoadHl, LoadPair}
use Rattle.treecode.specs.declared.place.Location.{Location}
use Rattle.treecode.specs.declared.place.Location.TheVariants as locations
use Rattle.treecode.specs.declared.place.Place.{Place}
use Rattle.treecode.specs.declared.place.Place.TheVariants.{Number}
use Rattle.treecode.specs.declared.reference.Reference.{Reference}
use Rattle.treecode.specs.declared.reference.Subscript.{Subscript}
use Rattle.treecode.specs.internal.Homes.{location_after}
use Rattle.treecode.specs.internal.Queries.{place_number}
use Rattle.steps8080.specs.declared.step.Step.{Step}
use Rattle.steps8080.specs.declared.step.Step.TheVariants.{Holds, Plain, Word}
use Rattle.steps8080.specs.internal.Step.{plain, repeat_steps}
use Rattle.steps8080.specs.internal.Facts.{before, is_at, no_facts}
use Rattle.steps8080.specs.internal.Instructions.{copy, load}
use Rattle.steps8080.specs.declared.sites.queries.Base.{Base}
use Rattle.steps8080.specs.declared.sites.queries.Base.TheVariants as bases
use Rattle.steps8080.specs.declared.sites.queries.Located.{Located}
use Rattle.steps8080.specs.declared.sites.site.Site.{Site}
use Rattle.steps8080.specs.internal.Queries.{keeps, located}
use Rattle.steps8080.specs.internal.Site.{distance}
use Rattle.steps8080.specs.internal.Widths.{unknown}
use Rattle.operands8080.specs.internal.Products.{product_steps}

-- the number that is subtracted from 65536 to give this one
abbrev pub negated : (number : ℕ) → ℕ
negated number = (65536 - number) % 65536

-- adds a number to HL; A and DE are kept
abbrev pub number_added_steps : (number : ℕ) → List Step
number_added_steps number =
    if nat_le number 3 then repeat_steps (Inx Hl) number
    else if nat_le (negated number) 3 then repeat_steps (Dcx Hl) (negated number)
    else plain (Lxi Bc number ∷ Dad Bc ∷ [])

-- adds a known word to HL; A and DE are kept
abbrev pub addition_steps : Place → List Step
addition_steps place = elim (place_number place) [
  | Some number ↦ number_added_steps number
  | None ↦ Word (LoadPair Bc) place ∷ Plain (Dad Bc) ∷ []
]

-- notes that HL holds the address of a location
abbrev pub note_address_steps : Location → List Step
note_address_steps location = Holds (record no_facts { address_in_hl = Some location }) ∷ []

-- notes that HL holds the word at a location
abbrev pub note_word_steps : Location → List Step
note_word_steps location = Holds (record no_facts { word_in_hl = Some location }) ∷ []

-- puts the address of a location into HL, whatever the registers hold
abbrev pub new_address_steps : Site → Location → (pushed : ℕ) → List Step
new_address_steps site (locations.Static place) pushed = Word (LoadPair Hl) place ∷ []
new_address_steps site (locations.Frame variable offset) pushed =
    plain (Lxi Hl (distance site variable offset pushed) ∷ Dad Sp ∷ [])

-- puts the address of a location into HL, if these steps come first; A and DE are kept
abbrev pub location_address_steps : Site → Location → (pushed : ℕ) → List Step
location_address_steps site location pushed =
    if is_at site.facts.address_in_hl location then []
    else if is_at site.facts.address_in_hl (before location) then Plain (Inx Hl) ∷ note_address_steps location
    else if is_at site.facts.address_in_hl (location_after location 1)
    then Plain (Dcx Hl) ∷ note_address_steps location
    else new_address_steps site location pushed ++ note_address_steps location

-- loads HL with the word at the address that it holds; DE is kept
abbrev pub word_at_hl_steps : List Step
word_at_hl_steps = plain (load A ∷ Inx Hl ∷ load H ∷ copy L A ∷ [])

-- puts the word at a location of the frame into HL, if these steps come first; a word next to the stack
-- pointer is popped and pushed back; DE is kept
abbrev pub frame_word_steps : Site → Location → (away pushed : ℕ) → List Step
frame_word_steps site location away pushed =
    if away == 0 then plain (Pop StackHl ∷ Push StackHl ∷ []) ++ note_word_steps location
    else if away == 2
    then plain (Pop StackBc ∷ Pop StackHl ∷ Push StackHl ∷ Push StackBc ∷ []) ++ note_word_steps location
    else location_address_steps site location pushed ++ word_at_hl_steps ++ note_word_steps location

-- puts the word at a location into HL, if these steps come first; DE is kept, and A if the location is static
abbrev pub location_word_steps : Site → Location → (pushed : ℕ) → List Step
location_word_steps site location pushed =
    if is_at site.facts.word_in_hl location then []
    else elim location [
      | locations.Static place ↦ Word LoadHl place ∷ []
      | locations.Frame variable offset ↦
          frame_word_steps site (locations.Frame variable offset) (distance site variable offset pushed) pushed
    ]

-- puts the address of a base without computed subscripts into HL
abbrev pub base_steps : Site → Base → (pushed : ℕ) → List Step
base_steps site (bases.Static place) pushed = location_address_steps site (locations.Static place) pushed
base_steps site (bases.Frame variable offset) pushed =
    location_address_steps site (locations.Frame variable offset) pushed
base_steps site (bases.Based pointer offset) pushed =
    location_word_steps site pointer pushed ++ addition_steps (Number offset)

-- adds the address of a base to the computed subscripts in HL
abbrev pub base_added_steps : Site → Base → (pushed : ℕ) → List Step
base_added_steps site (bases.Static place) pushed = addition_steps place
base_added_steps site (bases.Frame variable offset) pushed =
    plain (Lxi Bc (distance site variable offset pushed) ∷ Dad Bc ∷ Dad Sp ∷ [])
base_added_steps site (bases.Based pointer offset) pushed =
    Plain Xchg ∷ location_word_steps (unknown site) pointer pushed
    ++ (Plain (Dad De) ∷ addition_steps (Number offset))

-- adds a second subscript to the first one, which is in HL and is kept in DE or on the stack meanwhile
abbrev pub second_steps : Site → Subscript → (pushed : ℕ) → List Step
second_steps site second pushed =
    if (keeps site second.index).de
    then Plain Xchg ∷ product_steps second.index second.stride pushed ++ (Plain (Dad De) ∷ [])
    else Plain (Push StackHl) ∷ product_steps second.index second.stride ((pushed + 2) % 65536)
    ++ plain (Pop StackDe ∷ Dad De ∷ [])

-- puts the address of an object or a part of it, from its parts, into HL
abbrev pub located_steps : Site → Located → (pushed : ℕ) → List Step
located_steps site parts pushed = elim parts.first [
  | None ↦ base_steps site parts.base pushed
  | Some first ↦ elim parts.second [
    | None ↦ product_steps first.index first.stride pushed ++ base_added_steps site parts.base pushed
    | Some second ↦
        product_steps first.index first.stride pushed ++ second_steps site second pushed
        ++ base_added_steps site parts.base pushed
  ]
]

-- puts the address of an object or a part of it into HL
abbrev pub address_steps : Site → Reference → (pushed : ℕ) → List Step
address_steps site reference pushed = located_steps site (located site reference) pushed
