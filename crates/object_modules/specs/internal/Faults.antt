-- Worked faults of files, computed on the definitions.
use Rattle.std.specs.Prelude.{◌≡◌, ℕ, ◌+◌, ◌%◌, List, [], ◌∷◌, ◌++◌, map, replicate, take, slice_index, slice_set, Result, Ok, Err, refl}
use Rattle.std.specs.List.{concat, range_with_len}
use Rattle.omf80.specs.Records.{record_fault}
use Rattle.object_modules.specs.declared.fault.Fault.{Fault}
use Rattle.object_modules.specs.declared.fault.Fault.TheVariants.{Truncated, WrongSum, UnknownType, OutOfOrder, WrongBody, ContentMisplaced, FixMisplaced, WrongAlignment}
use Rattle.object_modules.specs.declared.segment.Alignment.TheVariants.{Page}
use Rattle.object_modules.specs.Module.{ObjectModule}
use Rattle.object_modules.specs.Reading.{part_in}
use Rattle.object_modules.specs.Rules.{fault_at}
use Rattle.object_modules.specs.Spelling.{module_of}
use Rattle.object_modules.specs.internal.Judgement.{parts_of, judgement_of}
use Rattle.object_modules.specs.internal.Objects.{object_a, object_b, module_a}

-- each file that is cut short
abbrev pub cut_short : List ℕ → (size : ℕ) → List (Result ObjectModule Fault)
cut_short bytes size = map (λ count. judgement_of (take count bytes)) (range_with_len 0 size)

pub a_cut_short : cut_short object_a 51 ≡ replicate 51 (Err Truncated)
unfolding record_fault part_in fault_at module_of parts_of
a_cut_short = refl

pub b_cut_short : cut_short object_b 46 ≡ replicate 46 (Err Truncated)
unfolding record_fault part_in fault_at module_of parts_of
b_cut_short = refl

-- a file with another byte at one of these places
abbrev pub changed : List ℕ → (places : List ℕ) → List (Result ObjectModule Fault)
changed bytes places =
    map (λ place. judgement_of (slice_set bytes place ((slice_index bytes place + 1) % 256))) places

-- the places of all bytes but those of lengths
abbrev pub places_in_a : List ℕ
places_in_a =
    0 ∷ 3 ∷ 4 ∷ 5 ∷ 6 ∷ 7 ∷ 8 ∷ 9 ∷ 10 ∷ 11 ∷ 12 ∷ 15 ∷ 16 ∷ 17 ∷ 18 ∷ 19 ∷ 22 ∷ 23 ∷ 24 ∷ 25 ∷ 26 ∷
    27 ∷ 28 ∷ 29 ∷ 30 ∷ 33 ∷ 34 ∷ 35 ∷ 36 ∷ 37 ∷ 38 ∷ 39 ∷ 42 ∷ 43 ∷ 44 ∷ 45 ∷ 46 ∷ 47 ∷ 50 ∷ []

pub a_changed : changed object_a places_in_a ≡ replicate 39 (Err WrongSum)
unfolding record_fault part_in fault_at module_of parts_of
a_changed = refl

-- the places of all bytes but those of lengths
abbrev pub places_in_b : List ℕ
places_in_b =
    0 ∷ 3 ∷ 4 ∷ 5 ∷ 6 ∷ 7 ∷ 8 ∷ 9 ∷ 10 ∷ 11 ∷ 12 ∷ 15 ∷ 16 ∷ 17 ∷ 18 ∷ 19 ∷ 20 ∷ 21 ∷ 22 ∷ 25 ∷ 26 ∷
    27 ∷ 28 ∷ 29 ∷ 30 ∷ 31 ∷ 32 ∷ 33 ∷ 34 ∷ 37 ∷ 38 ∷ 39 ∷ 40 ∷ 41 ∷ 42 ∷ 45 ∷ []

pub b_changed : changed object_b places_in_b ≡ replicate 36 (Err WrongSum)
unfolding record_fault part_in fault_at module_of parts_of
b_changed = refl

-- a length that is one more: the record then takes a byte of the next one
pub lengths_of_a_changed :
    changed object_a (1 ∷ 13 ∷ 20 ∷ 31 ∷ 40 ∷ 48 ∷ [])
    ≡ replicate 5 (Err WrongSum) ++ Err Truncated ∷ []
unfolding record_fault part_in fault_at module_of parts_of
lengths_of_a_changed = refl

-- two other bytes after the name
abbrev another_translator_file : List ℕ
another_translator_file = concat (
    (0x02 ∷ 0x09 ∷ 0x00 ∷ 0x01 ∷ 0x41 ∷ 0x12 ∷ 0x34 ∷ 0x01 ∷ 0x04 ∷ 0x00 ∷ 0x03 ∷ 0x65 ∷ [])
    ∷ (0x18 ∷ 0x04 ∷ 0x00 ∷ 0x01 ∷ 0x53 ∷ 0x00 ∷ 0x90 ∷ [])
    ∷ (0x06 ∷ 0x08 ∷ 0x00 ∷ 0x01 ∷ 0x00 ∷ 0x00 ∷ 0xCD ∷ 0x00 ∷ 0x00 ∷ 0x76 ∷ 0xAE ∷ [])
    ∷ (0x20 ∷ 0x06 ∷ 0x00 ∷ 0x03 ∷ 0x00 ∷ 0x00 ∷ 0x01 ∷ 0x00 ∷ 0xD6 ∷ [])
    ∷ (0x04 ∷ 0x05 ∷ 0x00 ∷ 0x01 ∷ 0x01 ∷ 0x00 ∷ 0x00 ∷ 0xF5 ∷ [])
    ∷ (0x0E ∷ 0x01 ∷ 0x00 ∷ 0xF1 ∷ [])
    ∷ [])

pub another_translator : judgement_of another_translator_file ≡ Ok module_a
unfolding record_fault part_in fault_at module_of parts_of
another_translator = refl

-- a code that begins at a page
abbrev at_a_page_file : List ℕ
at_a_page_file = concat (
    (0x02 ∷ 0x09 ∷ 0x00 ∷ 0x01 ∷ 0x41 ∷ 0x00 ∷ 0x00 ∷ 0x01 ∷ 0x04 ∷ 0x00 ∷ 0x01 ∷ 0xAD ∷ [])
    ∷ (0x18 ∷ 0x04 ∷ 0x00 ∷ 0x01 ∷ 0x53 ∷ 0x00 ∷ 0x90 ∷ [])
    ∷ (0x06 ∷ 0x08 ∷ 0x00 ∷ 0x01 ∷ 0x00 ∷ 0x00 ∷ 0xCD ∷ 0x00 ∷ 0x00 ∷ 0x76 ∷ 0xAE ∷ [])
    ∷ (0x20 ∷ 0x06 ∷ 0x00 ∷ 0x03 ∷ 0x00 ∷ 0x00 ∷ 0x01 ∷ 0x00 ∷ 0xD6 ∷ [])
    ∷ (0x04 ∷ 0x05 ∷ 0x00 ∷ 0x01 ∷ 0x01 ∷ 0x00 ∷ 0x00 ∷ 0xF5 ∷ [])
    ∷ (0x0E ∷ 0x01 ∷ 0x00 ∷ 0xF1 ∷ [])
    ∷ [])

pub at_a_page : judgement_of at_a_page_file ≡ Ok (record module_a {
  code = record { alignment = Page; places = module_a.code.places };
})
unfolding record_fault part_in fault_at module_of parts_of
at_a_page = refl

-- a byte after the end of the file
abbrev bytes_after_the_end_file : List ℕ
bytes_after_the_end_file = concat (
    (0x02 ∷ 0x09 ∷ 0x00 ∷ 0x01 ∷ 0x41 ∷ 0x00 ∷ 0x00 ∷ 0x01 ∷ 0x04 ∷ 0x00 ∷ 0x03 ∷ 0xAB ∷ [])
    ∷ (0x18 ∷ 0x04 ∷ 0x00 ∷ 0x01 ∷ 0x53 ∷ 0x00 ∷ 0x90 ∷ [])
    ∷ (0x06 ∷ 0x08 ∷ 0x00 ∷ 0x01 ∷ 0x00 ∷ 0x00 ∷ 0xCD ∷ 0x00 ∷ 0x00 ∷ 0x76 ∷ 0xAE ∷ [])
    ∷ (0x20 ∷ 0x06 ∷ 0x00 ∷ 0x03 ∷ 0x00 ∷ 0x00 ∷ 0x01 ∷ 0x00 ∷ 0xD6 ∷ [])
    ∷ (0x04 ∷ 0x05 ∷ 0x00 ∷ 0x01 ∷ 0x01 ∷ 0x00 ∷ 0x00 ∷ 0xF5 ∷ [])
    ∷ (0x0E ∷ 0x01 ∷ 0x00 ∷ 0xF1 ∷ [])
    ∷ (0x00 ∷ [])
    ∷ [])

pub bytes_after_the_end : judgement_of bytes_after_the_end_file ≡ Err OutOfOrder
unfolding record_fault part_in fault_at module_of parts_of
bytes_after_the_end = refl

-- a record of line numbers
abbrev line_numbers_file : List ℕ
line_numbers_file = concat (
    (0x02 ∷ 0x09 ∷ 0x00 ∷ 0x01 ∷ 0x41 ∷ 0x00 ∷ 0x00 ∷ 0x01 ∷ 0x04 ∷ 0x00 ∷ 0x03 ∷ 0xAB ∷ [])
    ∷ (0x08 ∷ 0x06 ∷ 0x00 ∷ 0x01 ∷ 0x00 ∷ 0x00 ∷ 0x00 ∷ 0x00 ∷ 0xF1 ∷ [])
    ∷ [])

pub line_numbers : judgement_of line_numbers_file ≡ Err UnknownType
unfolding record_fault part_in fault_at module_of parts_of
line_numbers = refl

-- external names before a header
abbrev no_header_file : List ℕ
no_header_file = concat (
    (0x18 ∷ 0x04 ∷ 0x00 ∷ 0x01 ∷ 0x53 ∷ 0x00 ∷ 0x90 ∷ [])
    ∷ (0x02 ∷ 0x09 ∷ 0x00 ∷ 0x01 ∷ 0x41 ∷ 0x00 ∷ 0x00 ∷ 0x01 ∷ 0x04 ∷ 0x00 ∷ 0x03 ∷ 0xAB ∷ [])
    ∷ [])

pub no_header : judgement_of no_header_file ≡ Err OutOfOrder
unfolding record_fault part_in fault_at module_of parts_of
no_header = refl

-- a second header
abbrev two_headers_file : List ℕ
two_headers_file = concat (
    (0x02 ∷ 0x09 ∷ 0x00 ∷ 0x01 ∷ 0x41 ∷ 0x00 ∷ 0x00 ∷ 0x01 ∷ 0x04 ∷ 0x00 ∷ 0x03 ∷ 0xAB ∷ [])
    ∷ (0x02 ∷ 0x09 ∷ 0x00 ∷ 0x01 ∷ 0x41 ∷ 0x00 ∷ 0x00 ∷ 0x01 ∷ 0x04 ∷ 0x00 ∷ 0x03 ∷ 0xAB ∷ [])
    ∷ [])

pub two_headers : judgement_of two_headers_file ≡ Err OutOfOrder
unfolding record_fault part_in fault_at module_of parts_of
two_headers = refl

-- a fix record without a content
abbrev fix_without_content_file : List ℕ
fix_without_content_file = concat (
    (0x02 ∷ 0x09 ∷ 0x00 ∷ 0x01 ∷ 0x41 ∷ 0x00 ∷ 0x00 ∷ 0x01 ∷ 0x04 ∷ 0x00 ∷ 0x03 ∷ 0xAB ∷ [])
    ∷ (0x18 ∷ 0x04 ∷ 0x00 ∷ 0x01 ∷ 0x53 ∷ 0x00 ∷ 0x90 ∷ [])
    ∷ (0x20 ∷ 0x06 ∷ 0x00 ∷ 0x03 ∷ 0x00 ∷ 0x00 ∷ 0x01 ∷ 0x00 ∷ 0xD6 ∷ [])
    ∷ [])

pub fix_without_content : judgement_of fix_without_content_file ≡ Err OutOfOrder
unfolding record_fault part_in fault_at module_of parts_of
fix_without_content = refl

-- external names after publics
abbrev externals_after_publics_file : List ℕ
externals_after_publics_file = concat (
    (0x02 ∷ 0x09 ∷ 0x00 ∷ 0x01 ∷ 0x41 ∷ 0x00 ∷ 0x00 ∷ 0x01 ∷ 0x04 ∷ 0x00 ∷ 0x03 ∷ 0xAB ∷ [])
    ∷ (0x16 ∷ 0x07 ∷ 0x00 ∷ 0x01 ∷ 0x00 ∷ 0x00 ∷ 0x01 ∷ 0x54 ∷ 0x00 ∷ 0x8D ∷ [])
    ∷ (0x18 ∷ 0x04 ∷ 0x00 ∷ 0x01 ∷ 0x53 ∷ 0x00 ∷ 0x90 ∷ [])
    ∷ [])

pub externals_after_publics : judgement_of externals_after_publics_file ≡ Err OutOfOrder
unfolding record_fault part_in fault_at module_of parts_of
externals_after_publics = refl

-- the end of the file without that of the module
abbrev end_without_module_end_file : List ℕ
end_without_module_end_file = concat (
    (0x02 ∷ 0x09 ∷ 0x00 ∷ 0x01 ∷ 0x41 ∷ 0x00 ∷ 0x00 ∷ 0x01 ∷ 0x04 ∷ 0x00 ∷ 0x03 ∷ 0xAB ∷ [])
    ∷ (0x0E ∷ 0x01 ∷ 0x00 ∷ 0xF1 ∷ [])
    ∷ [])

pub end_without_module_end : judgement_of end_without_module_end_file ≡ Err OutOfOrder
unfolding record_fault part_in fault_at module_of parts_of
end_without_module_end = refl

-- a name in lower case
abbrev lower_case_name_file : List ℕ
lower_case_name_file = concat (
    (0x02 ∷ 0x09 ∷ 0x00 ∷ 0x01 ∷ 0x61 ∷ 0x00 ∷ 0x00 ∷ 0x01 ∷ 0x04 ∷ 0x00 ∷ 0x03 ∷ 0x8B ∷ [])
    ∷ [])

pub lower_case_name : judgement_of lower_case_name_file ≡ Err WrongBody
unfolding record_fault part_in fault_at module_of parts_of
lower_case_name = refl

-- segment 4
abbrev memory_segment_file : List ℕ
memory_segment_file = concat (
    (0x02 ∷ 0x09 ∷ 0x00 ∷ 0x01 ∷ 0x41 ∷ 0x00 ∷ 0x00 ∷ 0x04 ∷ 0x04 ∷ 0x00 ∷ 0x03 ∷ 0xA8 ∷ [])
    ∷ [])

pub memory_segment : judgement_of memory_segment_file ≡ Err WrongBody
unfolding record_fault part_in fault_at module_of parts_of
memory_segment = refl

-- data before code
abbrev segments_descend_file : List ℕ
segments_descend_file = concat (
    (0x02 ∷ 0x0D ∷ 0x00 ∷ 0x01 ∷ 0x41 ∷ 0x00 ∷ 0x00 ∷ 0x02 ∷ 0x04 ∷ 0x00 ∷ 0x03 ∷ 0x01 ∷ 0x04 ∷ 0x00 ∷
    0x03 ∷ 0x9E ∷ [])
    ∷ [])

pub segments_descend : judgement_of segments_descend_file ≡ Err WrongBody
unfolding record_fault part_in fault_at module_of parts_of
segments_descend = refl

-- a name that is external and public
abbrev name_twice_file : List ℕ
name_twice_file = concat (
    (0x02 ∷ 0x09 ∷ 0x00 ∷ 0x01 ∷ 0x41 ∷ 0x00 ∷ 0x00 ∷ 0x01 ∷ 0x04 ∷ 0x00 ∷ 0x03 ∷ 0xAB ∷ [])
    ∷ (0x18 ∷ 0x04 ∷ 0x00 ∷ 0x01 ∷ 0x53 ∷ 0x00 ∷ 0x90 ∷ [])
    ∷ (0x16 ∷ 0x07 ∷ 0x00 ∷ 0x01 ∷ 0x00 ∷ 0x00 ∷ 0x01 ∷ 0x53 ∷ 0x00 ∷ 0x8E ∷ [])
    ∷ [])

pub name_twice : judgement_of name_twice_file ≡ Err WrongBody
unfolding record_fault part_in fault_at module_of parts_of
name_twice = refl

-- an external number that no name has
abbrev unknown_external_file : List ℕ
unknown_external_file = concat (
    (0x02 ∷ 0x09 ∷ 0x00 ∷ 0x01 ∷ 0x41 ∷ 0x00 ∷ 0x00 ∷ 0x01 ∷ 0x04 ∷ 0x00 ∷ 0x03 ∷ 0xAB ∷ [])
    ∷ (0x18 ∷ 0x04 ∷ 0x00 ∷ 0x01 ∷ 0x53 ∷ 0x00 ∷ 0x90 ∷ [])
    ∷ (0x06 ∷ 0x08 ∷ 0x00 ∷ 0x01 ∷ 0x00 ∷ 0x00 ∷ 0xCD ∷ 0x00 ∷ 0x00 ∷ 0x76 ∷ 0xAE ∷ [])
    ∷ (0x20 ∷ 0x06 ∷ 0x00 ∷ 0x03 ∷ 0x01 ∷ 0x00 ∷ 0x01 ∷ 0x00 ∷ 0xD5 ∷ [])
    ∷ [])

pub unknown_external : judgement_of unknown_external_file ≡ Err WrongBody
unfolding record_fault part_in fault_at module_of parts_of
unknown_external = refl

-- a fix of kind 4
abbrev fix_kind_4_file : List ℕ
fix_kind_4_file = concat (
    (0x02 ∷ 0x09 ∷ 0x00 ∷ 0x01 ∷ 0x41 ∷ 0x00 ∷ 0x00 ∷ 0x01 ∷ 0x04 ∷ 0x00 ∷ 0x03 ∷ 0xAB ∷ [])
    ∷ (0x18 ∷ 0x04 ∷ 0x00 ∷ 0x01 ∷ 0x53 ∷ 0x00 ∷ 0x90 ∷ [])
    ∷ (0x06 ∷ 0x08 ∷ 0x00 ∷ 0x01 ∷ 0x00 ∷ 0x00 ∷ 0xCD ∷ 0x00 ∷ 0x00 ∷ 0x76 ∷ 0xAE ∷ [])
    ∷ (0x22 ∷ 0x04 ∷ 0x00 ∷ 0x04 ∷ 0x01 ∷ 0x00 ∷ 0xD5 ∷ [])
    ∷ [])

pub fix_kind_4 : judgement_of fix_kind_4_file ≡ Err WrongBody
unfolding record_fault part_in fault_at module_of parts_of
fix_kind_4 = refl

-- a reference to another segment that is the content's own
abbrev own_segment_file : List ℕ
own_segment_file = concat (
    (0x02 ∷ 0x09 ∷ 0x00 ∷ 0x01 ∷ 0x41 ∷ 0x00 ∷ 0x00 ∷ 0x01 ∷ 0x04 ∷ 0x00 ∷ 0x03 ∷ 0xAB ∷ [])
    ∷ (0x18 ∷ 0x04 ∷ 0x00 ∷ 0x01 ∷ 0x53 ∷ 0x00 ∷ 0x90 ∷ [])
    ∷ (0x06 ∷ 0x08 ∷ 0x00 ∷ 0x01 ∷ 0x00 ∷ 0x00 ∷ 0xCD ∷ 0x00 ∷ 0x00 ∷ 0x76 ∷ 0xAE ∷ [])
    ∷ (0x24 ∷ 0x05 ∷ 0x00 ∷ 0x01 ∷ 0x03 ∷ 0x01 ∷ 0x00 ∷ 0xD2 ∷ [])
    ∷ [])

pub own_segment : judgement_of own_segment_file ≡ Err WrongBody
unfolding record_fault part_in fault_at module_of parts_of
own_segment = refl

-- a fix record without an entry
abbrev no_fixes_file : List ℕ
no_fixes_file = concat (
    (0x02 ∷ 0x09 ∷ 0x00 ∷ 0x01 ∷ 0x41 ∷ 0x00 ∷ 0x00 ∷ 0x01 ∷ 0x04 ∷ 0x00 ∷ 0x03 ∷ 0xAB ∷ [])
    ∷ (0x18 ∷ 0x04 ∷ 0x00 ∷ 0x01 ∷ 0x53 ∷ 0x00 ∷ 0x90 ∷ [])
    ∷ (0x06 ∷ 0x08 ∷ 0x00 ∷ 0x01 ∷ 0x00 ∷ 0x00 ∷ 0xCD ∷ 0x00 ∷ 0x00 ∷ 0x76 ∷ 0xAE ∷ [])
    ∷ (0x22 ∷ 0x02 ∷ 0x00 ∷ 0x03 ∷ 0xD9 ∷ [])
    ∷ [])

pub no_fixes : judgement_of no_fixes_file ≡ Err WrongBody
unfolding record_fault part_in fault_at module_of parts_of
no_fixes = refl

-- a start in the data
abbrev start_in_data_file : List ℕ
start_in_data_file = concat (
    (0x02 ∷ 0x09 ∷ 0x00 ∷ 0x01 ∷ 0x41 ∷ 0x00 ∷ 0x00 ∷ 0x01 ∷ 0x04 ∷ 0x00 ∷ 0x03 ∷ 0xAB ∷ [])
    ∷ (0x04 ∷ 0x05 ∷ 0x00 ∷ 0x01 ∷ 0x02 ∷ 0x00 ∷ 0x00 ∷ 0xF4 ∷ [])
    ∷ [])

pub start_in_data : judgement_of start_in_data_file ≡ Err WrongBody
unfolding record_fault part_in fault_at module_of parts_of
start_in_data = refl

-- an alignment that is neither 1 nor 3
abbrev alignment_2_file : List ℕ
alignment_2_file = concat (
    (0x02 ∷ 0x09 ∷ 0x00 ∷ 0x01 ∷ 0x41 ∷ 0x00 ∷ 0x00 ∷ 0x01 ∷ 0x04 ∷ 0x00 ∷ 0x02 ∷ 0xAC ∷ [])
    ∷ [])

pub alignment_2 : judgement_of alignment_2_file ≡ Err WrongAlignment
unfolding record_fault part_in fault_at module_of parts_of
alignment_2 = refl

-- a stack at a page, though it has no bytes
abbrev stack_at_a_page_file : List ℕ
stack_at_a_page_file = concat (
    (0x02 ∷ 0x09 ∷ 0x00 ∷ 0x01 ∷ 0x41 ∷ 0x00 ∷ 0x00 ∷ 0x03 ∷ 0x00 ∷ 0x00 ∷ 0x01 ∷ 0xAF ∷ [])
    ∷ [])

pub stack_at_a_page : judgement_of stack_at_a_page_file ≡ Err WrongAlignment
unfolding record_fault part_in fault_at module_of parts_of
stack_at_a_page = refl

-- a content that passes its segment
abbrev past_its_segment_file : List ℕ
past_its_segment_file = concat (
    (0x02 ∷ 0x09 ∷ 0x00 ∷ 0x01 ∷ 0x41 ∷ 0x00 ∷ 0x00 ∷ 0x01 ∷ 0x04 ∷ 0x00 ∷ 0x03 ∷ 0xAB ∷ [])
    ∷ (0x06 ∷ 0x08 ∷ 0x00 ∷ 0x01 ∷ 0x01 ∷ 0x00 ∷ 0x01 ∷ 0x02 ∷ 0x03 ∷ 0x04 ∷ 0xE6 ∷ [])
    ∷ [])

pub past_its_segment : judgement_of past_its_segment_file ≡ Err ContentMisplaced
unfolding record_fault part_in fault_at module_of parts_of
past_its_segment = refl

-- a content that overlaps the one before it
abbrev contents_overlap_file : List ℕ
contents_overlap_file = concat (
    (0x02 ∷ 0x09 ∷ 0x00 ∷ 0x01 ∷ 0x41 ∷ 0x00 ∷ 0x00 ∷ 0x01 ∷ 0x04 ∷ 0x00 ∷ 0x03 ∷ 0xAB ∷ [])
    ∷ (0x06 ∷ 0x06 ∷ 0x00 ∷ 0x01 ∷ 0x00 ∷ 0x00 ∷ 0x01 ∷ 0x02 ∷ 0xF0 ∷ [])
    ∷ (0x06 ∷ 0x05 ∷ 0x00 ∷ 0x01 ∷ 0x01 ∷ 0x00 ∷ 0x03 ∷ 0xF0 ∷ [])
    ∷ [])

pub contents_overlap : judgement_of contents_overlap_file ≡ Err ContentMisplaced
unfolding record_fault part_in fault_at module_of parts_of
contents_overlap = refl

-- contents that descend
abbrev contents_descend_file : List ℕ
contents_descend_file = concat (
    (0x02 ∷ 0x09 ∷ 0x00 ∷ 0x01 ∷ 0x41 ∷ 0x00 ∷ 0x00 ∷ 0x01 ∷ 0x04 ∷ 0x00 ∷ 0x03 ∷ 0xAB ∷ [])
    ∷ (0x06 ∷ 0x06 ∷ 0x00 ∷ 0x01 ∷ 0x02 ∷ 0x00 ∷ 0x01 ∷ 0x02 ∷ 0xEE ∷ [])
    ∷ (0x06 ∷ 0x05 ∷ 0x00 ∷ 0x01 ∷ 0x00 ∷ 0x00 ∷ 0x03 ∷ 0xF1 ∷ [])
    ∷ [])

pub contents_descend : judgement_of contents_descend_file ≡ Err ContentMisplaced
unfolding record_fault part_in fault_at module_of parts_of
contents_descend = refl

-- a word that begins at the last byte of its content
abbrev half_outside_file : List ℕ
half_outside_file = concat (
    (0x02 ∷ 0x09 ∷ 0x00 ∷ 0x01 ∷ 0x41 ∷ 0x00 ∷ 0x00 ∷ 0x01 ∷ 0x04 ∷ 0x00 ∷ 0x03 ∷ 0xAB ∷ [])
    ∷ (0x18 ∷ 0x04 ∷ 0x00 ∷ 0x01 ∷ 0x53 ∷ 0x00 ∷ 0x90 ∷ [])
    ∷ (0x06 ∷ 0x08 ∷ 0x00 ∷ 0x01 ∷ 0x00 ∷ 0x00 ∷ 0xCD ∷ 0x00 ∷ 0x00 ∷ 0x76 ∷ 0xAE ∷ [])
    ∷ (0x22 ∷ 0x04 ∷ 0x00 ∷ 0x03 ∷ 0x03 ∷ 0x00 ∷ 0xD4 ∷ [])
    ∷ [])

pub half_outside : judgement_of half_outside_file ≡ Err FixMisplaced
unfolding record_fault part_in fault_at module_of parts_of
half_outside = refl

-- two words that share a byte, in two records
abbrev fixes_cross_file : List ℕ
fixes_cross_file = concat (
    (0x02 ∷ 0x09 ∷ 0x00 ∷ 0x01 ∷ 0x41 ∷ 0x00 ∷ 0x00 ∷ 0x01 ∷ 0x04 ∷ 0x00 ∷ 0x03 ∷ 0xAB ∷ [])
    ∷ (0x18 ∷ 0x04 ∷ 0x00 ∷ 0x01 ∷ 0x53 ∷ 0x00 ∷ 0x90 ∷ [])
    ∷ (0x06 ∷ 0x08 ∷ 0x00 ∷ 0x01 ∷ 0x00 ∷ 0x00 ∷ 0xCD ∷ 0x00 ∷ 0x00 ∷ 0x76 ∷ 0xAE ∷ [])
    ∷ (0x20 ∷ 0x06 ∷ 0x00 ∷ 0x03 ∷ 0x00 ∷ 0x00 ∷ 0x01 ∷ 0x00 ∷ 0xD6 ∷ [])
    ∷ (0x22 ∷ 0x04 ∷ 0x00 ∷ 0x03 ∷ 0x02 ∷ 0x00 ∷ 0xD5 ∷ [])
    ∷ [])

pub fixes_cross : judgement_of fixes_cross_file ≡ Err FixMisplaced
unfolding record_fault part_in fault_at module_of parts_of
fixes_cross = refl

-- a low and a high byte at one place
abbrev fix_twice_file : List ℕ
fix_twice_file = concat (
    (0x02 ∷ 0x09 ∷ 0x00 ∷ 0x01 ∷ 0x41 ∷ 0x00 ∷ 0x00 ∷ 0x01 ∷ 0x04 ∷ 0x00 ∷ 0x03 ∷ 0xAB ∷ [])
    ∷ (0x18 ∷ 0x04 ∷ 0x00 ∷ 0x01 ∷ 0x53 ∷ 0x00 ∷ 0x90 ∷ [])
    ∷ (0x06 ∷ 0x08 ∷ 0x00 ∷ 0x01 ∷ 0x00 ∷ 0x00 ∷ 0xCD ∷ 0x00 ∷ 0x00 ∷ 0x76 ∷ 0xAE ∷ [])
    ∷ (0x22 ∷ 0x04 ∷ 0x00 ∷ 0x01 ∷ 0x00 ∷ 0x00 ∷ 0xD9 ∷ [])
    ∷ (0x22 ∷ 0x04 ∷ 0x00 ∷ 0x02 ∷ 0x00 ∷ 0x00 ∷ 0xD8 ∷ [])
    ∷ [])

pub fix_twice : judgement_of fix_twice_file ≡ Err FixMisplaced
unfolding record_fault part_in fault_at module_of parts_of
fix_twice = refl

-- a fix outside its content in a record with an unknown external number
abbrev broken_before_misplaced_file : List ℕ
broken_before_misplaced_file = concat (
    (0x02 ∷ 0x09 ∷ 0x00 ∷ 0x01 ∷ 0x41 ∷ 0x00 ∷ 0x00 ∷ 0x01 ∷ 0x04 ∷ 0x00 ∷ 0x03 ∷ 0xAB ∷ [])
    ∷ (0x18 ∷ 0x04 ∷ 0x00 ∷ 0x01 ∷ 0x53 ∷ 0x00 ∷ 0x90 ∷ [])
    ∷ (0x06 ∷ 0x08 ∷ 0x00 ∷ 0x01 ∷ 0x00 ∷ 0x00 ∷ 0xCD ∷ 0x00 ∷ 0x00 ∷ 0x76 ∷ 0xAE ∷ [])
    ∷ (0x20 ∷ 0x0A ∷ 0x00 ∷ 0x03 ∷ 0x00 ∷ 0x00 ∷ 0x09 ∷ 0x00 ∷ 0x01 ∷ 0x00 ∷ 0x01 ∷ 0x00 ∷ 0xC8 ∷ [])
    ∷ [])

pub broken_before_misplaced : judgement_of broken_before_misplaced_file ≡ Err WrongBody
unfolding record_fault part_in fault_at module_of parts_of
broken_before_misplaced = refl
