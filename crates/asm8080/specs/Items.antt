-- Code before it has a place: instructions with words that may depend on where something will lie.
use Rattle.std.specs.Prelude.{◌≡◌, ℕ, ◌+◌, ◌<◌, ◌==◌, Bool, true, false, if◌then◌else◌, IsTrue, List, [], ◌∷◌, ◌++◌, All, replicate, Option, Some, None, option_map}
use Rattle.std.specs.List.{list_any}
use Rattle.object_modules.specs.declared.segment.Target.{Target}
use Rattle.object_modules.specs.declared.segment.Target.TheVariants.{InSegment, External}
use Rattle.object_modules.specs.Module.{is_movable}
use Rattle.isa8080.specs.declared.instr.Instr.{Instr}
use Rattle.isa8080.specs.declared.instr.Instr.TheVariants.{Lxi, Shld, Lhld, Sta, Lda, Jmp, JumpIf, Call, CallIf}
use Rattle.isa8080.specs.State.{high_byte, low_byte, wrap}
use Rattle.isa8080.specs.Code.{bytes_of}
use Rattle.asm8080.specs.declared.item.WordForm.{WordForm}
use Rattle.asm8080.specs.declared.item.WordForm.TheVariants.{LoadPair, StoreHl, LoadHl, StoreA, LoadA, Jump, JumpWhere, CallTo, CallWhere}
use Rattle.asm8080.specs.declared.item.Reference.{Reference}
use Rattle.asm8080.specs.declared.item.Reference.TheVariants.{AtLabel, AtTarget, AtNumber}
use Rattle.asm8080.specs.declared.item.Item.{Item}
use Rattle.asm8080.specs.declared.item.Item.TheVariants.{Plain, WithWord, Byte, Address, Gap, Mark}
use Rattle.asm8080.specs.Standing.{BytesStand, size_of_instruction}

-- the program: items in their order, and how many labels there are; the labels are 0, 1 and so
-- on
pub record Assembly : Type 0 where
  pub items : List Item
  pub labels : ℕ

-- the instruction of a form with its word
abbrev pub instruction_with : WordForm → (word : ℕ) → Instr
instruction_with (LoadPair pair) word = Lxi pair word
instruction_with StoreHl word = Shld word
instruction_with LoadHl word = Lhld word
instruction_with StoreA word = Sta word
instruction_with LoadA word = Lda word
instruction_with Jump word = Jmp word
instruction_with (JumpWhere condition) word = JumpIf condition word
instruction_with CallTo word = Call word
instruction_with (CallWhere condition) word = CallIf condition word

-- how many bytes an item takes
abbrev pub size_of : Item → ℕ
size_of (Plain instruction) = size_of_instruction instruction
size_of (WithWord form reference) = 3
size_of (Byte value) = 1
size_of (Address reference) = 2
size_of (Gap count) = count
size_of (Mark label) = 0

abbrev pub size_of_items : List Item → ℕ
size_of_items [] = 0
size_of_items (item ∷ others) = size_of item + size_of_items others

abbrev pub marks : (label : ℕ) → Item → Bool
marks label (Mark other) = label == other
marks label item = false

abbrev pub is_bound : (label : ℕ) → List Item → Bool
is_bound label items = list_any (marks label) items

-- the labels that are bound stay those that were
abbrev pub BindsSame : (before after : List Item) → Type 0
BindsSame before after = (label : ℕ) → is_bound label after ≡ is_bound label before

-- and so do all but one
abbrev pub BindsSameBut : (label : ℕ) → (before after : List Item) → Type 0
BindsSameBut label before after =
    (other : ℕ) → (other == label) ≡ false → is_bound other after ≡ is_bound other before

-- the offset of a label from the start
abbrev pub offset_of : (label : ℕ) → List Item → Option ℕ
offset_of label [] = None
offset_of label (item ∷ others) =
    if marks label item then Some 0
    else option_map (λ offset. size_of item + offset) (offset_of label others)

-- whether an object module may have a target: its place is not known before linking and placing
abbrev pub may_be_target : Target → Bool
may_be_target (InSegment segment) = is_movable segment
may_be_target (External number) = true

-- a label that an item refers to is below `labels`, and a target is one that an object module may have
abbrev pub IsKnown : (labels : ℕ) → Reference → Type 0
IsKnown labels (AtLabel label) = label < labels
IsKnown labels (AtTarget target offset) = IsTrue (may_be_target target)
IsKnown labels (AtNumber number) = Unit {0}

abbrev pub KnowsLabels : (labels : ℕ) → Item → Type 0
KnowsLabels labels (WithWord form reference) = IsKnown labels reference
KnowsLabels labels (Address reference) = IsKnown labels reference
KnowsLabels labels (Mark label) = label < labels
KnowsLabels labels item = Unit {0}

-- the number of an external name that an item refers to is below `external_count`, and fits two bytes
abbrev pub IsListed : (external_count : ℕ) → Reference → Type 0
IsListed external_count (AtTarget (External number) offset) = (number < external_count) × (number < 65536)
IsListed external_count reference = Unit {0}

abbrev pub ListsExternals : (external_count : ℕ) → Item → Type 0
ListsExternals external_count (WithWord form reference) = IsListed external_count reference
ListsExternals external_count (Address reference) = IsListed external_count reference
ListsExternals external_count item = Unit {0}

-- none of the labels that an item binds is bound by items
abbrev pub BindsNew : Item → List Item → Type 0
BindsNew item items = (label : ℕ) → marks label item ≡ true → is_bound label items ≡ false

-- no label is bound twice
abbrev pub BoundOnce : List Item → Type 0
BoundOnce [] = Unit {0}
BoundOnce (item ∷ others) = BindsNew item others × BoundOnce others

-- what can be assembled, but for labels that are not bound yet
pub record IsAssembly (assembly : Assembly) : Type 0 where
  pub known : All (KnowsLabels assembly.labels) assembly.items
  pub once : BoundOnce assembly.items

-- where labels lie, and from where on the offsets of targets count
pub record Layout : Type 0 where
  pub place_of : (label : ℕ) → ℕ
  pub address_of : Target → ℕ

-- the word that a reference becomes
abbrev pub word_of : Layout → Reference → ℕ
word_of layout (AtLabel label) = wrap (layout.place_of label)
word_of layout (AtTarget target offset) = wrap (offset + layout.address_of target)
word_of layout (AtNumber number) = number

-- the bytes of an item that isn't a label, with 0 for each that stays unset
abbrev pub bytes_of_item : Layout → Item → List ℕ
bytes_of_item layout (Plain instruction) = bytes_of instruction
bytes_of_item layout (WithWord form reference) = bytes_of (instruction_with form (word_of layout reference))
bytes_of_item layout (Byte value) = value ∷ []
bytes_of_item layout (Address reference) =
    low_byte (word_of layout reference) ∷ high_byte (word_of layout reference) ∷ []
bytes_of_item layout (Gap count) = replicate count 0
bytes_of_item layout (Mark label) = []

-- whether the bytes of an item are set
abbrev pub is_set : Item → Bool
is_set (Gap count) = false
is_set item = true

-- of each byte of an item whether it is set: no byte of a gap is, and each of any other item is
abbrev pub flags_of_item : Item → List Bool
flags_of_item item = replicate (size_of item) (is_set item)

-- and of each byte of items, one after another
abbrev pub flags_of_items : List Item → List Bool
flags_of_items [] = []
flags_of_items (item ∷ others) = flags_of_item item ++ flags_of_items others

-- Items stand in a memory from one address to another, and each label that they bind lies where it stands.
-- Bytes that stay unset are not constrained.
abbrev pub Stands : Layout → (memory : List ℕ) → List Item → (from to : ℕ) → Type 0
Stands layout memory [] from to = from ≡ to
Stands layout memory (Mark label ∷ others) from to =
    (layout.place_of label ≡ from) × Stands layout memory others from to
Stands layout memory (Gap count ∷ others) from to = Stands layout memory others (from + count) to
Stands layout memory (item ∷ others) from to =
    BytesStand memory from (bytes_of_item layout item) × Stands layout memory others (from + size_of item) to
