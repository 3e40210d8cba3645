-- Places of an image, shown part by part.
use Rattle.listings.proofs.Prelude.{◌≡◌, ℕ, zero, suc, ◌+◌, ◌-◌, ◌<◌, ◌≤◌, ◌%◌, min, Bool, true, false, nat_lt, if◌then◌else◌, List, [], ◌∷◌, ◌++◌, length, take, slice_index, Option, Some, None, refl, ap, sym, subst, ◌∙◌, arith, ltb-true, append-nil, append_assoc, length-take, flat_map-append, AllByRecursion, IfSome, option_to_list, bytes_of, Instr, MEMORY_SIZE, Piece, AllThere, IsNoCodeAt, byte_among, cell_of, cells_from, cells_in, is_address_at, byte_in, Coded, CodeSegment, Part, AddsParts, IsAdding, IsByteAt, IsCodeIn, IsGoodBy, IsKindBy, IsLone, IsNamedBy, IsNoCode, IsPartOf, StepsOver, bytes_shown, cells_if, kept_cells, room_of, IsCoded, IsCodedAt}
use Rattle.std.specs.Prelude.{flat_map}

-- a byte has an address of the memory
in_memory : (pieces : List Piece) (address byte : ℕ) → byte_in pieces address ≡ Some byte
    → address < MEMORY_SIZE
unfolding byte_in
in_memory pieces address byte found = go (nat_lt address MEMORY_SIZE) refl found
  where
    go : (t : Bool) → nat_lt address MEMORY_SIZE ≡ t
        → (if t then byte_among pieces address else None) ≡ Some byte → address < MEMORY_SIZE
    go true e is = ltb-true address MEMORY_SIZE e
    go false e is = cc

word_is : (pieces : List Piece) (address byte : ℕ) → byte_in pieces address ≡ Some byte
    → address % 65536 ≡ address
word_is pieces address byte found = let small = in_memory pieces address byte found in omega arith

-- bytes that are there are the first cells
cells_there : (pieces : List Piece) (address room : ℕ) (bytes : List ℕ) → AllThere pieces address bytes
    → length bytes ≤ room
    → cells_from address bytes ++ cells_in pieces (address + length bytes) (room - length bytes)
    ≡ cells_in pieces address room
cells_there pieces address room [] there fits =
    let here : address + 0 ≡ address = omega arith in
    let all : room - 0 ≡ room = omega arith in
    ap (λ (a : ℕ). cells_in pieces a (room - 0)) here ∙ ap (cells_in pieces address) all
cells_there pieces address zero (byte ∷ bytes) there fits = absurd (omega (arith, fits))
cells_there pieces address (suc room) (byte ∷ bytes) there fits =
    let later : address + suc (length bytes) ≡ address + 1 + length bytes = omega arith in
    let fewer : length bytes ≤ room = omega (arith, fits) in
    let less : suc room - suc (length bytes) ≡ room - length bytes = omega arith in
    ap (λ (n : ℕ). (address, byte) ∷ (cells_from (address + 1) bytes
    ++ cells_in pieces (address + suc (length bytes)) n)) less
    ∙ ap (λ (a : ℕ). (address, byte) ∷ (cells_from (address + 1) bytes
    ++ cells_in pieces a (room - length bytes))) later
    ∙ ap (λ rest. (address, byte) ∷ rest) (cells_there pieces (address + 1) room bytes there.1 fewer)
    ∙ ap (λ found. cell_of address found ++ cells_in pieces (address + 1) room) (sym there.0)

-- no byte in the first place
pub steps_nowhere : (pieces : List Piece) (address room : ℕ) → 0 < room → byte_in pieces address ≡ None
    → StepsOver pieces address room None
steps_nowhere pieces address zero some none = absurd (omega (arith, some))
steps_nowhere pieces address (suc room) some none =
    let less : suc room - 1 ≡ room = omega arith in
    record {
      cells = ap (cells_in pieces (address + 1)) less
          ∙ ap (λ found. cell_of address found ++ cells_in pieces (address + 1) room) (sym none);
    }

min_few : (n : ℕ) → n ≤ 3 → min n 3 ≡ n
min_few zero few = refl
min_few (suc zero) few = refl
min_few (suc (suc zero)) few = refl
min_few (suc (suc (suc zero))) few = refl
min_few (suc (suc (suc (suc n)))) few = absurd (omega (arith, few))

-- bytes that are there are shown as a part
steps_over : (pieces : List Piece) (address room : ℕ) (part : Part)
    → AllThere pieces address (bytes_shown part) → part.address ≡ address
    → length (bytes_shown part) ≡ part.size → part.size ≤ room
    → StepsOver pieces address room (Some part)
steps_over pieces address room part there at counted fits =
    let shown : length (bytes_shown part) ≤ room = omega (arith, counted, fits) in
    record {
      cells =
          ap (λ (a : ℕ). cells_from a (bytes_shown part)
          ++ cells_in pieces (address + part.size) (room - part.size)) at
          ∙ ap (λ (n : ℕ). cells_from address (bytes_shown part) ++ cells_in pieces (address + n) (room - n))
          (sym counted)
          ∙ cells_there pieces address room (bytes_shown part) there shown;
    }

-- one byte
pub steps_by_byte : (pieces : List Piece) (address room byte word : ℕ) (part : Part) → 0 < room
    → byte_in pieces address ≡ Some byte → word ≡ address % 65536 → part.address ≡ word
    → part.size ≡ 1 → take 1 part.bytes ≡ byte ∷ [] → StepsOver pieces address room (Some part)
steps_by_byte pieces address room byte word part some found word_of at one bytes =
    let shown : bytes_shown part ≡ byte ∷ [] = ap (λ (n : ℕ). take (min n 3) part.bytes) one ∙ bytes in
    steps_over pieces address room part
    (subst (AllThere pieces address) (sym shown) (found, tt))
    (at ∙ word_of ∙ word_is pieces address byte found)
    (ap length shown ∙ sym one)
    (omega (arith, some, one))

-- the first of three bytes
first_byte : (bytes : List ℕ) (byte : ℕ) → take 1 bytes ≡ byte ∷ [] → slice_index bytes 0 ≡ byte
first_byte [] byte e = cc
first_byte (b ∷ bytes) byte e = cc

-- the byte of an address, and the line below which it stands
pub byte_shown : (pieces : List Piece) (address byte word line : ℕ) (part : Part)
    → byte_in pieces address ≡ Some byte → word ≡ address % 65536 → part.address ≡ word
    → part.size ≡ 1 → part.line ≡ line → part.instr ≡ None → take 1 part.bytes ≡ byte ∷ []
    → IsByteAt line address part
byte_shown pieces address byte word line part found word_of at one line_is instr bytes =
    let shown : bytes_shown part ≡ slice_index part.bytes 0 ∷ [] =
    ap (λ (n : ℕ). take (min n 3) part.bytes) one ∙ bytes
    ∙ ap (λ (b : ℕ). b ∷ []) (sym (first_byte part.bytes byte bytes)) in
    let small = in_memory pieces address byte found in
    let at_is : part.address ≡ address = at ∙ word_of ∙ word_is pieces address byte found in
    record {
      good = subst (λ (i : Option Instr). IsGoodBy i part) (sym instr) shown;
      line_is = line_is;
      instr = instr;
      at_is = at_is;
      word = omega (arith, at_is, small);
    }

-- bytes that are there begin with one
first_there : (pieces : List Piece) (address : ℕ) (bytes : List ℕ) → 1 ≤ length bytes
    → AllThere pieces address bytes → (byte : ℕ) × (byte_in pieces address ≡ Some byte)
first_there pieces address [] some there = absurd (omega (arith, some))
first_there pieces address (byte ∷ bytes) some there = (byte, there.0)

-- an instruction
pub code_steps : (pieces : List Piece) (address room word : ℕ) (code : Coded) (part : Part)
    → word ≡ address % 65536 → IsCodedAt pieces address code
    → code.size ≤ room → length code.bytes ≡ 3 → part.address ≡ word → part.size ≡ code.size
    → part.bytes ≡ code.bytes → StepsOver pieces address room (Some part)
code_steps pieces address room word code part word_of is fits three at sized bytes =
    let few : code.size ≤ 3 = (is.coded).few in
    let shown : bytes_shown part ≡ take code.size code.bytes =
    ap (λ (n : ℕ). take (min n 3) part.bytes) sized
    ∙ ap (λ (n : ℕ). take n part.bytes) (min_few code.size few) ∙ ap (take code.size) bytes in
    let counted : length (take code.size code.bytes) ≡ code.size =
    length-take code.size code.bytes ∙ omega (arith, few, three) in
    let one : 1 ≤ length (take code.size code.bytes) = omega (arith, counted, (is.coded).some) in
    let found = first_there pieces address (take code.size code.bytes) one is.there in
    steps_over pieces address room part
    (subst (AllThere pieces address) (sym shown) is.there)
    (at ∙ word_of ∙ word_is pieces address found.0 found.1)
    (ap length shown ∙ counted ∙ sym sized)
    (omega (arith, fits, sized))

good_code : (code : Coded) (part : Part) → IsCoded code → part.size ≡ code.size → part.bytes ≡ code.bytes
    → bytes_shown part ≡ bytes_of code.instr
good_code code part is sized bytes =
    ap (λ (n : ℕ). take (min n 3) part.bytes) sized
    ∙ ap (λ (n : ℕ). take n part.bytes) (min_few code.size is.few)
    ∙ ap (take code.size) bytes ∙ is.bytes_are

-- an instruction of a code segment
pub code_part : (pieces : List Piece) (segment : CodeSegment) (offset address word : ℕ) (code : Coded)
    (part : Part) → IsCodeIn pieces segment offset code → address ≡ segment.start + offset
    → word ≡ address % 65536 → part.address ≡ word → part.size ≡ code.size → part.bytes ≡ code.bytes
    → part.instr ≡ Some code.instr
    → part.is_address ≡ is_address_at segment.fixes.now (offset + 1) → IsPartOf pieces segment part
code_part pieces segment offset address word code part is at_is word_of at sized bytes instr named =
    let three : length code.bytes ≡ 3 = ((is.coded).coded).three in
    let few : code.size ≤ 3 = ((is.coded).coded).few in
    let some : 1 ≤ code.size = ((is.coded).coded).some in
    let counted : length (take code.size code.bytes) ≡ code.size =
    length-take code.size code.bytes ∙ omega (arith, few, three) in
    let one : 1 ≤ length (take code.size code.bytes) = omega (arith, counted, some) in
    let found =
    first_there pieces (segment.start + offset) (take code.size code.bytes) one (is.coded).there in
    let small = in_memory pieces (segment.start + offset) found.0 found.1 in
    let place : part.address ≡ segment.start + offset = omega (arith, at, word_of, at_is, small) in
    let past : segment.start + segment.constants ≤ part.address = omega (arith, place, is.past) in
    let from_start : offset ≡ part.address - segment.start = omega (arith, place) in
    record {
      good = subst (λ (i : Option Instr). IsGoodBy i part) (sym instr)
          (good_code code part (is.coded).coded sized bytes);
      word = omega (arith, place, small);
      kind = subst
          (λ (i : Option Instr). IsKindBy i pieces (segment.start + segment.constants)
          (segment.start + segment.length) part.address) (sym instr) past;
      named = subst
          (λ (i : Option Instr). IsNamedBy i part.is_address segment.fixes.now (part.address - segment.start))
          (sym instr)
          (named ∙ ap (λ (n : ℕ). is_address_at segment.fixes.now (n + 1)) from_start);
      beside = λ within. absurd (omega (arith, within, past));
    }

-- a byte of a code segment
byte_part : (pieces : List Piece) (segment : CodeSegment) (offset line address : ℕ) (part : Part)
    → (offset < segment.constants → line ≡ 0) → IsNoCode pieces segment offset
    → address ≡ segment.start + offset → IsByteAt line address part → IsPartOf pieces segment part
byte_part pieces segment offset line address part beside none at_is is =
    let place : segment.start + offset ≡ part.address = sym at_is ∙ sym is.at_is in
    record {
      good = is.good;
      word = is.word;
      kind = subst
          (λ (i : Option Instr). IsKindBy i pieces (segment.start + segment.constants)
          (segment.start + segment.length) part.address) (sym is.instr)
          (subst (λ (a : ℕ). IsNoCodeAt pieces (segment.start + segment.constants)
          (segment.start + segment.length) a) place none);
      named = subst
          (λ (i : Option Instr). IsNamedBy i part.is_address segment.fixes.now (part.address - segment.start))
          (sym is.instr) tt;
      beside = λ within. is.line_is ∙ beside (omega (arith, within, place));
    }

pub byte_parts : (pieces : List Piece) (segment : CodeSegment) (offset line address : ℕ) (part : Option Part)
    → (offset < segment.constants → line ≡ 0) → IsNoCode pieces segment offset
    → address ≡ segment.start + offset → IfSome part (IsByteAt line address)
    → IfSome part (IsPartOf pieces segment)
byte_parts pieces segment offset line address None beside none at_is is = tt
byte_parts pieces segment offset line address (Some part) beside none at_is is =
    byte_part pieces segment offset line address part beside none at_is is

-- parts that are being added
pub flat_more : (added more : List Part)
    → flat_map kept_cells (added ++ more) ≡ flat_map kept_cells added ++ flat_map kept_cells more
flat_more added more = flat_map-append kept_cells added more

pub all_more : (P : Part → Type 0) (added more : List Part) → AllByRecursion P added → AllByRecursion P more
    → AllByRecursion P (added ++ more)
all_more P [] more each others = others
all_more P (part ∷ added) more each others = (each.0, all_more P added more each.1 others)

all_if : (P : Part → Type 0) (part : Option Part) → IfSome part P → AllByRecursion P (option_to_list part)
all_if P None each = tt
all_if P (Some part) each = (each, tt)

cells_of_if : (part : Option Part) → flat_map kept_cells (option_to_list part) ≡ cells_if part
cells_of_if None = refl
cells_of_if (Some part) = append-nil (kept_cells part)

pub adding_begins : (P : Part → Type 0) (all : List (ℕ × ℕ)) (parts : List Part)
    → IsAdding P all all parts parts
adding_begins P all parts = record { added = []; now_is = sym (append-nil parts); cells = refl; each = tt }

pub adding_goes_on : (P : Part → Type 0) (all left rest : List (ℕ × ℕ)) (old now new : List Part)
    (part : Option Part) → IsAdding P all left old now → cells_if part ++ rest ≡ left
    → IfSome part P → new ≡ now ++ option_to_list part → IsAdding P all rest old new
adding_goes_on P all left rest old now new part so_far step each with_part = record {
  added = so_far.added ++ option_to_list part;
  now_is =
      with_part ∙ ap (λ parts. parts ++ option_to_list part) so_far.now_is
      ∙ append_assoc old so_far.added (option_to_list part);
  cells =
      ap (λ cells. cells ++ rest) (flat_more so_far.added (option_to_list part))
      ∙ append_assoc (flat_map kept_cells so_far.added) (flat_map kept_cells (option_to_list part)) rest
      ∙ ap (λ cells. flat_map kept_cells so_far.added ++ (cells ++ rest)) (cells_of_if part)
      ∙ ap (λ cells. flat_map kept_cells so_far.added ++ cells) step
      ∙ so_far.cells;
  each = all_more P so_far.added (option_to_list part) so_far.each (all_if P part each);
}

pub adding_ends : (P : Part → Type 0) (all left : List (ℕ × ℕ)) (old now : List Part)
    → IsAdding P all left old now → left ≡ [] → AddsParts P all old now
adding_ends P all left old now so_far none = record {
  added = so_far.added;
  new_is = so_far.now_is;
  cells_are =
      sym (append-nil (flat_map kept_cells so_far.added))
      ∙ ap (λ cells. flat_map kept_cells so_far.added ++ cells) (sym none) ∙ so_far.cells;
  each = so_far.each;
}

-- one step over places that are counted from a start
pub stepped : (pieces : List Piece) (start offset end room next address : ℕ) (part : Option Part)
    → address ≡ start + offset → room ≡ end - offset → next ≡ offset + room_of part
    → StepsOver pieces address room part
    → cells_if part ++ cells_in pieces (start + next) (end - next)
    ≡ cells_in pieces (start + offset) (end - offset)
stepped pieces start offset end room next address part at room_is next_is step =
    let here : start + next ≡ address + room_of part = omega (arith, at, next_is) in
    let left : end - next ≡ room - room_of part = omega (arith, room_is, next_is) in
    ap (λ (a : ℕ). cells_if part ++ cells_in pieces a (end - next)) here
    ∙ ap (λ (n : ℕ). cells_if part ++ cells_in pieces (address + room_of part) n) left
    ∙ step.cells
    ∙ ap (λ (a : ℕ). cells_in pieces a room) at
    ∙ ap (cells_in pieces (start + offset)) room_is

-- places that are counted from a start, part by part
pub places_begin : (P : Part → Type 0) (pieces : List Piece) (start end offset : ℕ) (parts : List Part)
    → offset ≡ 0
    → IsAdding P (cells_in pieces start end) (cells_in pieces (start + offset) (end - offset)) parts parts
places_begin P pieces start end offset parts none =
    let here : start ≡ start + offset = omega (arith, none) in
    let all : end ≡ end - offset = omega (arith, none) in
    subst (λ (cells : List (ℕ × ℕ)). IsAdding P (cells_in pieces start end) cells parts parts)
    (ap (λ (a : ℕ). cells_in pieces a end) here ∙ ap (cells_in pieces (start + offset)) all)
    (adding_begins P (cells_in pieces start end) parts)

pub places_end : (P : Part → Type 0) (pieces : List Piece) (start end offset : ℕ) (old now : List Part)
    → IsAdding P (cells_in pieces start end) (cells_in pieces (start + offset) (end - offset)) old now
    → end ≤ offset → AddsParts P (cells_in pieces start end) old now
places_end P pieces start end offset old now so_far past =
    let none : end - offset ≡ 0 = omega (arith, past) in
    adding_ends P (cells_in pieces start end) (cells_in pieces (start + offset) (end - offset)) old now so_far
    (ap (cells_in pieces (start + offset)) none)

pub code_goes_on : (pieces : List Piece) (segment : CodeSegment) (offset next : ℕ) (old now new : List Part)
    (part : Option Part)
    → IsAdding (IsPartOf pieces segment) (cells_in pieces segment.start segment.length)
    (cells_in pieces (segment.start + offset) (segment.length - offset)) old now
    → StepsOver pieces (segment.start + offset) (segment.length - offset) part → next ≡ offset + room_of part
    → IfSome part (IsPartOf pieces segment) → new ≡ now ++ option_to_list part
    → IsAdding (IsPartOf pieces segment) (cells_in pieces segment.start segment.length)
    (cells_in pieces (segment.start + next) (segment.length - next)) old new
code_goes_on pieces segment offset next old now new part so_far step next_is each with_part =
    adding_goes_on (IsPartOf pieces segment) (cells_in pieces segment.start segment.length)
    (cells_in pieces (segment.start + offset) (segment.length - offset))
    (cells_in pieces (segment.start + next) (segment.length - next)) old now new part so_far
    (stepped pieces segment.start offset segment.length (segment.length - offset) next
    (segment.start + offset) part refl refl next_is step) each with_part

lone : (line address : ℕ) (part : Option Part) → line ≡ 0 → IfSome part (IsByteAt line address)
    → IfSome part IsLone
lone line address None none is = tt
lone line address (Some part) none is = record { good = is.good; line = is.line_is ∙ none; instr = is.instr }

pub bytes_go_on : (pieces : List Piece) (start count index next address : ℕ) (old now new : List Part)
    (part : Option Part)
    → IsAdding IsLone (cells_in pieces start count) (cells_in pieces (start + index) (count - index)) old now
    → index < count → address ≡ start + index
    → ((room : ℕ) → 0 < room → StepsOver pieces address room part) → room_of part ≡ 1 → next ≡ index + 1
    → IfSome part (IsByteAt 0 address) → new ≡ now ++ option_to_list part
    → IsAdding IsLone (cells_in pieces start count) (cells_in pieces (start + next) (count - next)) old new
bytes_go_on pieces start count index next address old now new part so_far within at steps one
    next_is is with_part =
    let some : 0 < count - index = omega (arith, within) in
    let after : next ≡ index + room_of part = omega (arith, one, next_is) in
    adding_goes_on IsLone (cells_in pieces start count) (cells_in pieces (start + index) (count - index))
    (cells_in pieces (start + next) (count - next)) old now new part so_far
    (stepped pieces start index count (count - index) next address part at refl after
    (steps (count - index) some)) (lone 0 address part refl is) with_part
