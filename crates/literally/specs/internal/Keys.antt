-- Names as keys of a map.
use Rattle.std.specs.Prelude.{◌≡◌, ℕ, true, List}
use Rattle.std.specs.List.{flat_map}
use Rattle.std.specs.Str.{bytes_eq}
use Rattle.std.specs.Hash.{HashWrites, u8}
use Rattle.std.proofs.Common.{ap}
use Rattle.std.proofs.lemmas.Slice.Eq.{bytes_eq-Decides}
use Rattle.symbols.specs.Names.{name_of}

-- the bytes that a name writes to a hasher: its characters
abbrev pub writes_of : List ℕ → HashWrites
writes_of text = flat_map u8 (name_of text)

-- equal names write the same
pub name_respects : (text other : List ℕ)
    → bytes_eq (name_of text) (name_of other) ≡ true
    → writes_of text ≡ writes_of other
name_respects text other same = ap (flat_map u8) ((bytes_eq-Decides (name_of text) (name_of other)).0 same)
