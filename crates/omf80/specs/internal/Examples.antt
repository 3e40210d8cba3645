-- Worked records, computed on the definitions.
use Rattle.std.specs.Prelude.{◌≡◌, ℕ, List, [], ◌∷◌, ◌++◌, Some, None, refl}
use Rattle.omf80.specs.declared.fault.Fault.TheVariants.{Truncated, WrongSum, WrongLength, UnknownType}
use Rattle.omf80.specs.declared.kind.RecordKind.TheVariants.{ModuleEnd, EndOfFile}
use Rattle.omf80.specs.Records.{record_bytes, bytes_of, BeginsWith, record_fault}

-- the record that ends a file
abbrev end_of_file : List ℕ
end_of_file = 0x0E ∷ 0x01 ∷ 0x00 ∷ 0xF1 ∷ []

pub end_of_file_bytes : bytes_of (record { kind = EndOfFile; body = [] }) ≡ end_of_file
unfolding record_bytes
end_of_file_bytes = refl

-- the end of a main module that starts at offset 0 of its code
abbrev main_end_but_sum : List ℕ
main_end_but_sum = 0x04 ∷ 0x05 ∷ 0x00 ∷ 0x01 ∷ 0x01 ∷ 0x00 ∷ 0x00 ∷ []

abbrev main_end : List ℕ
main_end = main_end_but_sum ++ 0xF5 ∷ []

pub main_end_bytes : bytes_of (record { kind = ModuleEnd; body = 1 ∷ 1 ∷ 0 ∷ 0 ∷ [] }) ≡ main_end
unfolding record_bytes
main_end_bytes = refl

pub main_end_without_fault : record_fault main_end ≡ None
unfolding record_fault
main_end_without_fault = refl

-- another last byte, and no last byte
pub main_end_with_another_sum : record_fault (main_end_but_sum ++ 0xF4 ∷ []) ≡ Some WrongSum
unfolding record_fault
main_end_with_another_sum = refl

pub main_end_without_sum : record_fault main_end_but_sum ≡ Some Truncated
unfolding record_fault
main_end_without_sum = refl

-- two bytes of a heading; nothing; lengths 0 and 1029, though the bytes end
pub half_a_heading : record_fault (0x0E ∷ 0x01 ∷ []) ≡ Some Truncated
unfolding record_fault
half_a_heading = refl

pub nothing : record_fault [] ≡ Some Truncated
unfolding record_fault
nothing = refl

pub length_0 : record_fault (0x0E ∷ 0x00 ∷ 0x00 ∷ []) ≡ Some WrongLength
unfolding record_fault
length_0 = refl

pub length_1029 : record_fault (0x0E ∷ 0x05 ∷ 0x04 ∷ []) ≡ Some WrongLength
unfolding record_fault
length_1029 = refl

-- a line-number record, which this profile doesn't have; with a wrong sum, the sum comes first
pub unknown_type : record_fault (0x08 ∷ 0x01 ∷ 0x00 ∷ 0xF7 ∷ []) ≡ Some UnknownType
unfolding record_fault
unknown_type = refl

pub unknown_type_with_a_wrong_sum : record_fault (0x08 ∷ 0x01 ∷ 0x00 ∷ 0xF8 ∷ []) ≡ Some WrongSum
unfolding record_fault
unknown_type_with_a_wrong_sum = refl

-- the end of a file with bytes after it
pub record_and_rest : BeginsWith (end_of_file ++ 7 ∷ []) (record { kind = EndOfFile; body = [] }) (7 ∷ [])
unfolding record_bytes
record_and_rest = record { limit = Rattle.std.proofs.Common.lit≤ tt; spelled = refl }
