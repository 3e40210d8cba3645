-- Entries that are put together into bodies of records, each as far as whole entries fit.
use Rattle.std.specs.Prelude.{ℕ, ◌-◌, nat_lt, if◌then◌else◌, List, [], ◌∷◌, ◌++◌, length, Option, Some, None}
use Rattle.omf80.specs.declared.kind.RecordKind.{RecordKind}
use Rattle.omf80.specs.declared.kind.TheConstants.{BODY_LIMIT}
use Rattle.omf80.specs.Records.{bytes_of}
use Rattle.object_modules.specs.Before.{is_empty}

-- a record that is begun: its kind, the bytes before its entries, and the bytes of the entries that it has
pub record Group : Type 0 where
  pub kind : RecordKind
  pub front : List ℕ
  pub begun : List ℕ

-- a record with no entries yet
abbrev pub empty_group : RecordKind → (front : List ℕ) → Group
empty_group kind front = record { kind = kind; front = front; begun = [] }

-- how many bytes more its body may have
abbrev pub room_of : Group → ℕ
room_of group = BODY_LIMIT - length group.front - length group.begun

-- the bytes of the record with the entries that it has
abbrev pub group_bytes : Group → List ℕ
group_bytes group = bytes_of (record { kind = group.kind; body = group.front ++ group.begun })

-- An entry that does not fit goes into a record of its own kind, and then the one before it is written.
abbrev pub flushed : Group → (size : ℕ) → List ℕ
flushed group size = if nat_lt (room_of group) size then group_bytes group else []

-- what is begun once there is room for an entry of a size
abbrev pub with_room : Group → (size : ℕ) → Group
with_room group size = if nat_lt (room_of group) size then empty_group group.kind group.front else group

-- a group and bytes after those of its entries
abbrev pub with_bytes : Group → List ℕ → Group
with_bytes group bytes = record group { begun = group.begun ++ bytes }

abbrev pub with_entry : Group → (entry : List ℕ) → Group
with_entry group entry = with_bytes (with_room group (length entry)) entry

-- what is written at the end: the record that is begun, if it has an entry
abbrev pub last_record : Group → List ℕ
last_record group = if is_empty group.begun then [] else group_bytes group

-- The same for an item that has an entry or none.
abbrev pub flushed_by : Group → Option (List ℕ) → List ℕ
flushed_by group None = []
flushed_by group (Some entry) = flushed group (length entry)

abbrev pub with_item : Group → Option (List ℕ) → Group
with_item group None = group
with_item group (Some entry) = with_entry group entry

-- all that is written for items, one after another, from a group that is begun
abbrev pub records_of : Group → (items : List (Option (List ℕ))) → List ℕ
records_of group [] = last_record group
records_of group (item ∷ others) = flushed_by group item ++ records_of (with_item group item) others
