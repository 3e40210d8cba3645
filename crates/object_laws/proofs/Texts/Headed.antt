-- The header that is written: it may come first, and tells lengths and alignments.
use Rattle.object_laws.proofs.Prelude.{◌≡◌, ℕ, suc, ◌+◌, ◌≤◌, ◌==◌, Bool, true, false, cond, not, ◌&&◌, ◌||◌, nat_lt, List, [], ◌∷◌, ◌++◌, length, flat_map, Option, Some, None, refl, ap, sym, ◌∙◌, arith, cons_option, list_all, and_from, eqb-true, length-append, is_name, BODY_LIMIT, Alignment, Byte, Page, Segment, Code, Data, Stack, ObjectModule, holds_bytes, is_page, length_of, SegmentEntry, segment_entry_bytes, length_in, ascend_from, is_served, is_accepted, alignment_in, alignment_number, header_for}
use Rattle.object_laws.proofs.Texts.Accepting.{accepted_by}
use Rattle.object_laws.proofs.Texts.NamesAccepted.{IsName, short_name}

-- an entry of a segment that is listed, or none
abbrev pub entry_if : (left_out : Bool) → Segment → (size : ℕ) → Alignment → Option SegmentEntry
entry_if left_out segment size alignment =
    cond left_out None
    (Some (record { segment = segment; length = size; alignment = alignment_number alignment }))

-- the entries of three segments
abbrev pub entries : (c d s : Bool) → (code data_size stack : ℕ)
    → (of_code of_data of_stack : Alignment) → List SegmentEntry
entries c d s code data_size stack of_code of_data of_stack =
    cons_option (entry_if c Code code of_code)
    (cons_option (entry_if d Data data_size of_data) (cons_option (entry_if s Stack stack of_stack) []))

abbrev pub entries_for : ObjectModule → List SegmentEntry
entries_for object =
    entries (length_of object Code == 0) (length_of object Data == 0) (length_of object Stack == 0)
    (length_of object Code) (length_of object Data) (length_of object Stack)
    object.code.alignment object.data_places.alignment Byte

entries_ascend :
    (c d s : Bool) (code data_size stack : ℕ) (of_code of_data of_stack : Alignment)
    → ascend_from 0 (entries c d s code data_size stack of_code of_data of_stack) ≡ true
entries_ascend true true true code data_size stack of_code of_data of_stack = refl
entries_ascend true true false code data_size stack of_code of_data of_stack = refl
entries_ascend true false true code data_size stack of_code of_data of_stack = refl
entries_ascend true false false code data_size stack of_code of_data of_stack = refl
entries_ascend false true true code data_size stack of_code of_data of_stack = refl
entries_ascend false true false code data_size stack of_code of_data of_stack = refl
entries_ascend false false true code data_size stack of_code of_data of_stack = refl
entries_ascend false false false code data_size stack of_code of_data of_stack = refl

entries_short :
    (c d s : Bool) (code data_size stack : ℕ) (of_code of_data of_stack : Alignment)
    → length (flat_map segment_entry_bytes (entries c d s code data_size stack of_code of_data of_stack)) ≤ 12
entries_short true true true code data_size stack of_code of_data of_stack =
    (let l : 0 ≤ 12 = omega arith in l)
entries_short true true false code data_size stack of_code of_data of_stack =
    (let l : 4 ≤ 12 = omega arith in l)
entries_short true false true code data_size stack of_code of_data of_stack =
    (let l : 4 ≤ 12 = omega arith in l)
entries_short true false false code data_size stack of_code of_data of_stack =
    (let l : 8 ≤ 12 = omega arith in l)
entries_short false true true code data_size stack of_code of_data of_stack =
    (let l : 4 ≤ 12 = omega arith in l)
entries_short false true false code data_size stack of_code of_data of_stack =
    (let l : 8 ≤ 12 = omega arith in l)
entries_short false false true code data_size stack of_code of_data of_stack =
    (let l : 8 ≤ 12 = omega arith in l)
entries_short false false false code data_size stack of_code of_data of_stack =
    (let l : 12 ≤ 12 = omega arith in l)

-- an entry in front of others
served_entry : (segment : Segment) → holds_bytes segment ≡ true → (size : ℕ) (alignment : Alignment)
    → is_served (record { segment = segment; length = size; alignment = alignment_number alignment }) ≡ true
served_entry segment holds size Byte = refl
served_entry segment holds size Page = holds

served_if :
    (left_out : Bool) (entry : SegmentEntry) (others : List SegmentEntry) → is_served entry ≡ true
    → list_all is_served others ≡ true → list_all is_served
    (cons_option (cond left_out None (Some entry)) others) ≡ true
served_if true entry others h k = k
served_if false entry others h k = and_from (is_served entry) (list_all is_served others) h k

entries_served :
    (c d s : Bool) (code data_size stack : ℕ) (of_code of_data : Alignment)
    → list_all is_served (entries c d s code data_size stack of_code of_data Byte) ≡ true
entries_served c d s code data_size stack of_code of_data =
    let first : SegmentEntry =
    record { segment = Code; length = code; alignment = alignment_number of_code } in
    let second : SegmentEntry =
    record { segment = Data; length = data_size; alignment = alignment_number of_data } in
    let third : SegmentEntry =
    record { segment = Stack; length = stack; alignment = alignment_number Byte } in
    let last : List SegmentEntry = cons_option (cond s None (Some third)) [] in
    served_if c first (cons_option (cond d None (Some second)) last) (served_entry Code refl code of_code)
    (served_if d second last (served_entry Data refl data_size of_data) (served_if s third [] refl refl))

pub header_accepted : (object : ObjectModule) → IsName object.name → is_accepted [] (header_for object) ≡ true
header_accepted object valid =
    let c : Bool = length_of object Code == 0 in
    let d : Bool = length_of object Data == 0 in
    let s : Bool = length_of object Stack == 0 in
    let listed : List SegmentEntry = entries_for object in
    let short : length object.name ≤ 31 = short_name object.name valid in
    let of_entries : length (flat_map segment_entry_bytes listed) ≤ 12 =
    entries_short c d s (length_of object Code) (length_of object Data) (length_of object Stack)
    object.code.alignment object.data_places.alignment Byte in
    let long : length (object.name ++ 0 ∷ 0 ∷ flat_map segment_entry_bytes listed)
    ≡ length object.name + length (0 ∷ 0 ∷ flat_map segment_entry_bytes listed) =
    length-append object.name (0 ∷ 0 ∷ flat_map segment_entry_bytes listed) in
    accepted_by [] (header_for object) (record {
      limit = (let l : suc (length (object.name ++ 0 ∷ 0
          ∷ flat_map segment_entry_bytes listed)) ≤ BODY_LIMIT =
          omega (arith, short, of_entries, long) in l);
      follows = refl;
      body = and_from (is_name object.name) (ascend_from 0 listed) valid
          (entries_ascend c d s (length_of object Code) (length_of object Data) (length_of object Stack)
          object.code.alignment object.data_places.alignment Byte);
      served = entries_served c d s (length_of object Code) (length_of object Data) (length_of object Stack)
          object.code.alignment object.data_places.alignment;
      content = refl;
      fixes = refl;
    })

-- the lengths that the entries tell

code_length_told :
    (c d s : Bool) (code data_size stack : ℕ) (of_code of_data of_stack : Alignment)
    → (c ≡ true → code ≡ 0)
    → length_in (entries c d s code data_size stack of_code of_data of_stack) Code ≡ code
code_length_told true true true code data_size stack of_code of_data of_stack h = sym (h refl)
code_length_told true true false code data_size stack of_code of_data of_stack h = sym (h refl)
code_length_told true false true code data_size stack of_code of_data of_stack h = sym (h refl)
code_length_told true false false code data_size stack of_code of_data of_stack h = sym (h refl)
code_length_told false true true code data_size stack of_code of_data of_stack h = refl
code_length_told false true false code data_size stack of_code of_data of_stack h = refl
code_length_told false false true code data_size stack of_code of_data of_stack h = refl
code_length_told false false false code data_size stack of_code of_data of_stack h = refl

data_length_told :
    (c d s : Bool) (code data_size stack : ℕ) (of_code of_data of_stack : Alignment)
    → (d ≡ true → data_size ≡ 0)
    → length_in (entries c d s code data_size stack of_code of_data of_stack) Data ≡ data_size
data_length_told true true true code data_size stack of_code of_data of_stack h = sym (h refl)
data_length_told true true false code data_size stack of_code of_data of_stack h = sym (h refl)
data_length_told true false true code data_size stack of_code of_data of_stack h = refl
data_length_told true false false code data_size stack of_code of_data of_stack h = refl
data_length_told false true true code data_size stack of_code of_data of_stack h = sym (h refl)
data_length_told false true false code data_size stack of_code of_data of_stack h = sym (h refl)
data_length_told false false true code data_size stack of_code of_data of_stack h = refl
data_length_told false false false code data_size stack of_code of_data of_stack h = refl

stack_length_told :
    (c d s : Bool) (code data_size stack : ℕ) (of_code of_data of_stack : Alignment)
    → (s ≡ true → stack ≡ 0)
    → length_in (entries c d s code data_size stack of_code of_data of_stack) Stack ≡ stack
stack_length_told true true true code data_size stack of_code of_data of_stack h = sym (h refl)
stack_length_told true true false code data_size stack of_code of_data of_stack h = refl
stack_length_told true false true code data_size stack of_code of_data of_stack h = sym (h refl)
stack_length_told true false false code data_size stack of_code of_data of_stack h = refl
stack_length_told false true true code data_size stack of_code of_data of_stack h = sym (h refl)
stack_length_told false true false code data_size stack of_code of_data of_stack h = refl
stack_length_told false false true code data_size stack of_code of_data of_stack h = sym (h refl)
stack_length_told false false false code data_size stack of_code of_data of_stack h = refl

is_zero : (n : ℕ) → (n == 0) ≡ true → n ≡ 0
is_zero n h = eqb-true n 0 h

pub code_length_is : (object : ObjectModule) → length_in (entries_for object) Code ≡ length_of object Code
code_length_is object =
    code_length_told (length_of object Code == 0) (length_of object Data == 0) (length_of object Stack == 0)
    (length_of object Code) (length_of object Data) (length_of object Stack)
    object.code.alignment object.data_places.alignment Byte
    (is_zero (length_of object Code))

pub data_length_is : (object : ObjectModule) → length_in (entries_for object) Data ≡ length_of object Data
data_length_is object =
    data_length_told (length_of object Code == 0) (length_of object Data == 0) (length_of object Stack == 0)
    (length_of object Code) (length_of object Data) (length_of object Stack)
    object.code.alignment object.data_places.alignment Byte
    (is_zero (length_of object Data))

pub stack_length_is : (object : ObjectModule) → length_in (entries_for object) Stack ≡ length_of object Stack
stack_length_is object =
    stack_length_told (length_of object Code == 0) (length_of object Data == 0) (length_of object Stack == 0)
    (length_of object Code) (length_of object Data) (length_of object Stack)
    object.code.alignment object.data_places.alignment Byte
    (is_zero (length_of object Stack))

-- the alignments that the entries tell
alignment_listed : (size : ℕ) (alignment : Alignment) → (not (is_page alignment) || nat_lt 0 size) ≡ true
    → cond (alignment_number alignment == 1 && nat_lt 0 size) Page Byte ≡ alignment
alignment_listed size Byte h = refl
alignment_listed size Page h = ap (λ b. cond b Page Byte) h

alignment_left_out : (size : ℕ) (alignment : Alignment)
    → (not (is_page alignment) || nat_lt 0 size) ≡ true → size ≡ 0
    → Byte ≡ alignment
alignment_left_out size Byte h e = refl
alignment_left_out size Page h e = absurd (let bad : false ≡ true = sym (ap (nat_lt 0) e) ∙ h in cc)

code_alignment_told :
    (c d s : Bool) (code data_size stack : ℕ) (of_code of_data of_stack : Alignment)
    → (c ≡ true → code ≡ 0) → (not (is_page of_code) || nat_lt 0 code) ≡ true
    → alignment_in (entries c d s code data_size stack of_code of_data of_stack) Code ≡ of_code
code_alignment_told true true true code data_size stack of_code of_data of_stack h k =
    alignment_left_out code of_code k (h refl)
code_alignment_told true true false code data_size stack of_code of_data of_stack h k =
    alignment_left_out code of_code k (h refl)
code_alignment_told true false true code data_size stack of_code of_data of_stack h k =
    alignment_left_out code of_code k (h refl)
code_alignment_told true false false code data_size stack of_code of_data of_stack h k =
    alignment_left_out code of_code k (h refl)
code_alignment_told false true true code data_size stack of_code of_data of_stack h k =
    alignment_listed code of_code k
code_alignment_told false true false code data_size stack of_code of_data of_stack h k =
    alignment_listed code of_code k
code_alignment_told false false true code data_size stack of_code of_data of_stack h k =
    alignment_listed code of_code k
code_alignment_told false false false code data_size stack of_code of_data of_stack h k =
    alignment_listed code of_code k

data_alignment_told :
    (c d s : Bool) (code data_size stack : ℕ) (of_code of_data of_stack : Alignment)
    → (d ≡ true → data_size ≡ 0) → (not (is_page of_data) || nat_lt 0 data_size) ≡ true
    → alignment_in (entries c d s code data_size stack of_code of_data of_stack) Data ≡ of_data
data_alignment_told true true true code data_size stack of_code of_data of_stack h k =
    alignment_left_out data_size of_data k (h refl)
data_alignment_told true true false code data_size stack of_code of_data of_stack h k =
    alignment_left_out data_size of_data k (h refl)
data_alignment_told true false true code data_size stack of_code of_data of_stack h k =
    alignment_listed data_size of_data k
data_alignment_told true false false code data_size stack of_code of_data of_stack h k =
    alignment_listed data_size of_data k
data_alignment_told false true true code data_size stack of_code of_data of_stack h k =
    alignment_left_out data_size of_data k (h refl)
data_alignment_told false true false code data_size stack of_code of_data of_stack h k =
    alignment_left_out data_size of_data k (h refl)
data_alignment_told false false true code data_size stack of_code of_data of_stack h k =
    alignment_listed data_size of_data k
data_alignment_told false false false code data_size stack of_code of_data of_stack h k =
    alignment_listed data_size of_data k

pub code_alignment_is :
    (object : ObjectModule) → (not (is_page object.code.alignment) || nat_lt 0 (length_of object Code)) ≡ true
    → alignment_in (entries_for object) Code ≡ object.code.alignment
code_alignment_is object h =
    code_alignment_told (length_of object Code == 0) (length_of object Data == 0)
    (length_of object Stack == 0)
    (length_of object Code) (length_of object Data) (length_of object Stack)
    object.code.alignment object.data_places.alignment Byte
    (is_zero (length_of object Code)) h

pub data_alignment_is :
    (object : ObjectModule) → (not (is_page object.data_places.alignment) || nat_lt 0 (length_of object Data))
    ≡ true
    → alignment_in (entries_for object) Data ≡ object.data_places.alignment
data_alignment_is object h =
    data_alignment_told (length_of object Code == 0) (length_of object Data == 0)
    (length_of object Stack == 0)
    (length_of object Code) (length_of object Data) (length_of object Stack)
    object.code.alignment object.data_places.alignment Byte
    (is_zero (length_of object Data)) h
