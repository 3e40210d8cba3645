-- Code as it is written. Its items name labels and EXTERNAL names by their numbers in the module; the code
-- numbers both in the order of their first use.
use Rattle.std.specs.Prelude.{◌≡◌, ◌==◌, ◌<◌, ◌≤◌, ◌⊎◌, ℕ, Bool, true, false, if◌then◌else◌, nat_lt, List, [], ◌∷◌, ◌++◌, length, map, slice_index_or, Option, Some, None, option_map}
use Rattle.std.specs.List.{list_any}
use Rattle.object_modules.specs.declared.segment.Segment.TheVariants as segments
use Rattle.object_modules.specs.declared.segment.Target.TheVariants.{InSegment, External}
use Rattle.asm8080.specs.declared.item.Item.{Item}
use Rattle.asm8080.specs.declared.item.Item.TheVariants.{WithWord, Byte, Address, Mark}
use Rattle.asm8080.specs.declared.item.Reference.{Reference}
use Rattle.asm8080.specs.declared.item.Reference.TheVariants.{AtLabel, AtTarget, AtNumber}
use Rattle.asm8080.specs.declared.item.WordForm.{WordForm}
use Rattle.asm8080.specs.declared.item.WordForm.TheVariants.{CallTo}
use Rattle.asm8080.specs.Assembled.{Assembled, Assembles, place_of}
use Rattle.asm8080.specs.Items.{Assembly, BoundOnce, IsAssembly, is_bound}
use Rattle.runtime8080.specs.declared.routine.Routine.{Routine}
use Rattle.runtime8080.specs.internal.Routines.{AddsRoutine}
use Rattle.treecode.specs.declared.place.Place.{Place}
use Rattle.treecode.specs.declared.place.Place.TheVariants as places
use Rattle.steps8080.specs.declared.step.LabelNumber.{LabelNumber}
use Rattle.steps8080.specs.internal.Instructions.{high, low}
use Rattle.steps8080.specs.internal.Externals.{Extends, entry}

-- code, its numbers of the labels and the EXTERNAL names that it uses, and a flag for each label that has its place
pub record Written : Type 0 where
  pub code : Assembly
  pub labels : List (Option ℕ)
  pub marked : List Bool
  pub externals : List (Option ℕ)

-- a reference, an item, items with these numbers
abbrev pub numbered_reference : Written → Reference → Option Reference
numbered_reference written (AtLabel label) = option_map AtLabel (entry written.labels label)
numbered_reference written (AtTarget (External name) offset) =
    option_map (λ number. AtTarget (External number) offset) (entry written.externals name)
numbered_reference written (AtTarget (InSegment segment) offset) = Some (AtTarget (InSegment segment) offset)
numbered_reference written (AtNumber number) = Some (AtNumber number)

abbrev pub numbered_item : Written → Item → Option Item
numbered_item written (WithWord form reference) =
    option_map (WithWord form) (numbered_reference written reference)
numbered_item written (Address reference) = option_map Address (numbered_reference written reference)
numbered_item written (Mark label) = option_map Mark (entry written.labels label)
numbered_item written item = Some item

-- an item before others, if all are there
abbrev pub in_front : Option Item → Option (List Item) → Option (List Item)
in_front (Some item) (Some others) = Some (item ∷ others)
in_front item others = None

abbrev pub numbered : Written → List Item → Option (List Item)
numbered written [] = Some []
numbered written (item ∷ others) = in_front (numbered_item written item) (numbered written others)

-- whether a reference, an item, one of items refers to the EXTERNAL name with this number
abbrev pub is_to_name : (name : ℕ) → Reference → Bool
is_to_name name (AtTarget (External other) offset) = name == other
is_to_name name reference = false

abbrev pub uses_name : (name : ℕ) → Item → Bool
uses_name name (WithWord form reference) = is_to_name name reference
uses_name name (Address reference) = is_to_name name reference
uses_name name item = false

abbrev pub use_name : (name : ℕ) → List Item → Bool
use_name name items = list_any (uses_name name) items

-- items refer only to names with indices below a number
pub record AreNamed (count : ℕ) (items : List Item) : Type 0 where
  pub below : (name : ℕ) → use_name name items ≡ true → name < count

-- a table of names gets longer, if at all, and no longer than the names that items refer to need
pub record GrowsFor (before after : List (Option ℕ)) (items : List Item) : Type 0 where
  pub longer : length before ≤ length after
  pub within : (count : ℕ) → AreNamed count items → length before ≤ count → length after ≤ count

-- a name gets a number only if items refer to it
abbrev pub NumbersNames : (before after : List (Option ℕ)) → List Item → Type 0
NumbersNames before after items =
    (name number : ℕ)
    → entry after name ≡ Some number
    → (entry before name ≡ Some number) ⊎ (use_name name items ≡ true)

-- whether a reference is to the label with this number; whether an item, one of items refers to it or is its place
abbrev pub is_to_label : (number : ℕ) → Reference → Bool
is_to_label number (AtLabel other) = number == other
is_to_label number reference = false

abbrev pub names_label : (number : ℕ) → Item → Bool
names_label number (WithWord form reference) = is_to_label number reference
names_label number (Address reference) = is_to_label number reference
names_label number (Mark other) = number == other
names_label number item = false

abbrev pub name_label : (number : ℕ) → List Item → Bool
name_label number items = list_any (names_label number) items

-- a label of code that is new is that of this number
abbrev pub CountsOne : (number : ℕ) → (before after : Written) → Type 0
CountsOne number before after =
    (label : ℕ) → label < after.code.labels
    → (label < before.code.labels) ⊎ (entry after.labels number ≡ Some label)

-- a label of code that is new is that of a number that items name
abbrev pub CountsNamed : (before after : Written) → List Item → Type 0
CountsNamed before after items =
    (label : ℕ) → label < after.code.labels
    → (label < before.code.labels)
    ⊎ ((number : ℕ) × (entry after.labels number ≡ Some label) × (name_label number items ≡ true))

-- whether a label has its place, by its number in the module
abbrev pub is_marked : (marked : List Bool) → (label : ℕ) → Bool
is_marked marked label = slice_index_or marked label false

-- a label gets its place only by items that bind it
abbrev pub MarksOnly : (before after : List Bool) → List Item → Type 0
MarksOnly before after items =
    (label : ℕ)
    → is_marked after label ≡ true
    → (is_marked before label ≡ true) ⊎ (is_bound label items ≡ true)

-- no label gets its place
abbrev pub KeepsMarks : (before after : List Bool) → Type 0
KeepsMarks before after = (label : ℕ) → is_marked after label ≡ true → is_marked before label ≡ true

-- items that bind each label at most once, and none that has its place
pub record AreWritable (before : Written) (items : List Item) : Type 0 where
  pub once : BoundOnce items
  pub new : (label : ℕ) → is_bound label items ≡ true → is_marked before.marked label ≡ false

-- Items are appended to code, whole if they are writable. Numbers that were given before stay, the code has no label
-- more than the items name, and the table of names grows no further than the items need.
pub record Writes (before after : Written) (items : List Item) : Type 0 where
  pub made : List Item
  pub added : after.code.items ≡ before.code.items ++ made
  pub same : AreWritable before items → numbered after items ≡ Some made
  pub labels : Extends before.labels after.labels
  pub counted : CountsNamed before after items
  pub marked : MarksOnly before.marked after.marked items
  pub externals : Extends before.externals after.externals
  pub names : NumbersNames before.externals after.externals items
  pub grown : GrowsFor before.externals after.externals items

-- A routine is appended to code, with a label of the module at its start. The module has no numbers for the
-- routine's own labels.
pub record WritesRoutine
    (routine : Routine) (label : LabelNumber) (before after : Written) : Type 0 where
  pub entered : Written
  pub marked : Writes before entered (Mark label.index ∷ [])
  pub added : AddsRoutine routine entered.code after.code
  pub labels : after.labels ≡ entered.labels
  pub places : after.marked ≡ entered.marked
  pub externals : after.externals ≡ entered.externals

-- the reference of a place
abbrev pub reference_at : Place → Reference
reference_at (places.Number number) = AtNumber number
reference_at (places.Code offset) = AtTarget (InSegment segments.Code) offset
reference_at (places.Data offset) = AtTarget (InSegment segments.Data) offset
reference_at (places.External offset name) = AtTarget (External name) offset

-- an instruction with the word of a place
abbrev pub word_item : WordForm → Place → Item
word_item form place = WithWord form (reference_at place)

-- an instruction with the address just past the stack as its word
abbrev pub stack_end_item : WordForm → Item
stack_end_item form = WithWord form (AtTarget (InSegment segments.Stack) 0)

-- a call of a procedure in another module
abbrev pub external_call_item : (name : ℕ) → Item
external_call_item name = WithWord CallTo (AtTarget (External name) 0)

-- an instruction with the place of a label
abbrev pub jump_item : WordForm → LabelNumber → Item
jump_item form label = WithWord form (AtLabel label.index)

-- a word of data
abbrev pub address_items : Place → List Item
address_items (places.Number number) = Byte (low number) ∷ Byte (high number) ∷ []
address_items (places.Code offset) = Address (AtTarget (InSegment segments.Code) offset) ∷ []
address_items (places.Data offset) = Address (AtTarget (InSegment segments.Data) offset) ∷ []
address_items (places.External offset name) = Address (AtTarget (External name) offset) ∷ []

-- the label with this number, if code has that many
abbrev pub known_label : (count : ℕ) → Option ℕ → Option ℕ
known_label count None = None
known_label count (Some label) = if nat_lt label count then Some label else None

-- the offset of a label from the start of assembled code; 0 if the code does not have it
abbrev pub place_of_known : Assembled → Option ℕ → ℕ
place_of_known bytes None = 0
place_of_known bytes (Some label) = place_of bytes label

-- the offset of a label of the module from the start of its code; 0 if the code does not use it
abbrev pub place_of_label : Written → Assembled → (number : ℕ) → ℕ
place_of_label written bytes number =
    place_of_known bytes (known_label written.code.labels (entry written.labels number))

-- Code is finished: its items are assembled, and its labels are kept by their numbers in the module.
pub record Finishes (written : Written) (bytes : Assembled) (labels : List (Option ℕ)) : Type 0 where
  pub assembles : Assembles written.code bytes
  pub is_assembly : IsAssembly written.code
  pub known : labels ≡ map (known_label written.code.labels) written.labels
