-- A file that is spelled, one with a fault, and how longer lists are cut.
use Rattle.std.specs.Prelude.{◌≡◌, ℕ, List, [], ◌∷◌, ◌++◌, map, length, replicate, codes, Some, None, refl}
use Rattle.omf80.specs.Records.{record_bytes}
use Rattle.object_modules.specs.declared.fault.Fault.TheVariants.{OutOfOrder}
use Rattle.object_modules.specs.declared.segment.FixKind.TheVariants.{Low, Both}
use Rattle.object_modules.specs.declared.segment.Segment.TheVariants.{Code, Stack}
use Rattle.object_modules.specs.declared.segment.Target.TheVariants.{InSegment}
use Rattle.object_modules.specs.Module.{SetByte}
use Rattle.object_modules.specs.Parts.{Part, HeaderPart, ExternalNamesPart, ContentPart, ExternalReferencesPart, ModuleEndPart, EndOfFilePart}
use Rattle.object_modules.specs.Rules.{fault_at}
use Rattle.object_modules.specs.Spelling.{module_of, Spells, HasFirstFault}
use Rattle.object_modules.specs.Text.{Run, contents_of_run, external_parts}
use Rattle.object_modules.specs.internal.Objects.{object_a, module_a}

-- the parts of A
abbrev pub parts_of_a : List Part
parts_of_a =
    HeaderPart (codes "A") 0 0 (record { segment = Code; length = 4; alignment = 3 } ∷ [])
    ∷ ExternalNamesPart (codes "S" ∷ [])
    ∷ ContentPart (record { segment = Code; offset = 0; bytes = 0xCD ∷ 0 ∷ 0 ∷ 0x76 ∷ [] })
    ∷ ExternalReferencesPart Both (record { external = 0; offset = 1 } ∷ [])
    ∷ ModuleEndPart (Some 0)
    ∷ EndOfFilePart
    ∷ []

pub a_is_spelled : Spells object_a module_a
unfolding record_bytes module_of
a_is_spelled = record {
  parts = parts_of_a;
  file = record { accepted = refl; ended = refl; spelled = refl };
  said = refl;
}

pub a_and_a_byte : HasFirstFault (object_a ++ 0 ∷ []) OutOfOrder
unfolding record_bytes fault_at
a_and_a_byte = record {
  before = parts_of_a;
  rest = 0 ∷ [];
  accepted = refl;
  spelled = refl;
  at_rest = refl;
}

-- bytes that are not fixed, a fixed one, and a fixed word
abbrev pub plain : ℕ → List SetByte
plain count = replicate count (record { value = 0xA5; fixup = None })

abbrev pub low_byte : List SetByte
low_byte = record {
  value = 0xA5;
  fixup = Some (record { kind = Low; target = InSegment Stack });
} ∷ []

abbrev pub word : List SetByte
word = record { value = 0xA5; fixup = Some (record { kind = Both; target = InSegment Code }) } ∷ plain 1

-- where the contents of a run at offset 0 begin, and how many bytes each has
abbrev pub cut : List SetByte → List (Run ℕ)
cut items =
    map (λ (content : Run SetByte). record { offset = content.offset; items = length content.items ∷ [] })
    (contents_of_run (record { offset = 0; items = items }))

abbrev pub content_at : (offset size : ℕ) → Run ℕ
content_at offset size = record { offset = offset; items = size ∷ [] }

-- 1030 bytes: a word at 1023 goes whole into the second content; a word at 1022 and a low byte at 1023 end
-- the first
pub word_at_the_end : cut (plain 1023 ++ word ++ plain 5) ≡ content_at 0 1023 ∷ content_at 1023 7 ∷ []
word_at_the_end = refl

pub word_before_the_end : cut (plain 1022 ++ word ++ plain 6) ≡ content_at 0 1024 ∷ content_at 1024 6 ∷ []
word_before_the_end = refl

pub byte_at_the_end :
    cut (plain 1023 ++ low_byte ++ plain 6) ≡ content_at 0 1024 ∷ content_at 1024 6 ∷ []
byte_at_the_end = refl

-- names of 31 characters take 33 bytes each: 31 of them fill a record
abbrev pub names_in : Part → ℕ
names_in (ExternalNamesPart names) = length names
names_in part = 0

pub names_fill_records : map names_in (external_parts (replicate 63 (replicate 31 65))) ≡ 31 ∷ 31 ∷ 1 ∷ []
names_fill_records = refl
