-- What parts are shown as.
use Rattle.listings.proofs.{Prelude.{◌≡◌, inl, inr, ℕ, suc, ◌+◌, ◌-◌, ◌<◌, ◌≤◌, ◌==◌, ◌||◌, nat_lt, min, drop, filter, get_or, length, nil_from_length, take, arith, Bool, true, false, cond, List, [], ◌∷◌, ◌++◌, All, flat_map, map, slice_index, codes, Result, OnOk, Option, Some, None, refl, ap, sym, subst, ◌∙◌, append-nil, append_assoc, take_all, All-from_recursion, none-some, AllByRecursion, byte_digits, Instr, part_line, Piece, Symbol, fixes_in, Fix, Code, constant_bytes, IsShown, ShownPart, ShowsByte, cells_in, cells_of, instr_text, margin, name_line, part_lines, parts_beside, parts_in, parts_text, CodeSegment, Part, ModuleView, AddsParts, IsCodePart, IsGood, IsGoodBy, IsKindBy, IsLone, IsNamedBy, IsPartOf, bytes_shown, kept_cells, lined, lines_if, part_view, text_for, IsPartOfCode, code_size, object_of, typed_of}, Adding.{weaken_on_ok, split_first}}

-- the same bytes
pub cells_lined : (name_at : ℕ → Option Symbol) (parts : List Part)
    → flat_map (λ (part : ℕ × ShownPart). cells_of part.1) (map (lined name_at) parts)
    ≡ flat_map kept_cells parts
cells_lined name_at [] = refl
cells_lined name_at (part ∷ parts) = ap (λ cells. kept_cells part ++ cells) (cells_lined name_at parts)

-- a part, and a byte
part_by : (name_at : ℕ → Option Symbol) (pieces : List Piece) (fixes : List Fix) (start begin end : ℕ)
    (part : Part) (instr : Option Instr) → IsGoodBy instr part
    → IsKindBy instr pieces begin end part.address
    → IsNamedBy instr part.is_address fixes (part.address - start)
    → IsShown name_at pieces fixes start begin end
    (record { address = part.address; bytes = bytes_shown part; text = text_for name_at part instr })
part_by name_at pieces fixes start begin end part None good kind named =
    inr (kind, record { byte = slice_index part.bytes 0; bytes_are = good; text_is = refl })
part_by name_at pieces fixes start begin end part (Some i) good kind named =
    inl (kind, record { i = i; bytes_are = good; text_is = ap (λ (t : Bool). instr_text name_at t i) named })

byte_by : (name_at : ℕ → Option Symbol) (part : Part) (instr : Option Instr) → instr ≡ None
    → IsGoodBy instr part
    → ShowsByte
    (record { address = part.address; bytes = bytes_shown part; text = text_for name_at part instr })
byte_by name_at part None none good =
    record { byte = slice_index part.bytes 0; bytes_are = good; text_is = refl }
byte_by name_at part (Some i) none good = absurd (none-some i (sym none))

parts_by : (name_at : ℕ → Option Symbol) (pieces : List Piece) (fixes : List Fix) (start begin end : ℕ)
    (parts : List Part) → AllByRecursion (IsCodePart pieces fixes start begin end) parts
    → AllByRecursion (λ (part : ℕ × ShownPart). IsShown name_at pieces fixes start begin end part.1)
    (map (lined name_at) parts)
parts_by name_at pieces fixes start begin end [] each = tt
parts_by name_at pieces fixes start begin end (part ∷ parts) each = (
  part_by name_at pieces fixes start begin end part part.instr (each.0).good (each.0).kind (each.0).named,
  parts_by name_at pieces fixes start begin end parts each.1,
)

bytes_by : (name_at : ℕ → Option Symbol) (parts : List Part) → AllByRecursion IsLone parts
    → AllByRecursion (λ (part : ℕ × ShownPart). ShowsByte part.1) (map (lined name_at) parts)
bytes_by name_at [] each = tt
bytes_by name_at (part ∷ parts) each =
    (byte_by name_at part part.instr (each.0).instr (each.0).good, bytes_by name_at parts each.1)

pub parts_shown : (name_at : ℕ → Option Symbol) (pieces : List Piece) (fixes : List Fix) (start begin end : ℕ)
    (parts : List Part) → AllByRecursion (IsCodePart pieces fixes start begin end) parts
    → All (λ (part : ℕ × ShownPart). IsShown name_at pieces fixes start begin end part.1)
    (map (lined name_at) parts)
parts_shown name_at pieces fixes start begin end parts each =
    All-from_recursion (λ (part : ℕ × ShownPart). IsShown name_at pieces fixes start begin end part.1)
    (map (lined name_at) parts)
    (parts_by name_at pieces fixes start begin end parts each)

pub bytes_are_shown : (name_at : ℕ → Option Symbol) (parts : List Part) → AllByRecursion IsLone parts
    → All (λ (part : ℕ × ShownPart). ShowsByte part.1) (map (lined name_at) parts)
bytes_are_shown name_at parts each =
    All-from_recursion (λ (part : ℕ × ShownPart). ShowsByte part.1) (map (lined name_at) parts)
    (bytes_by name_at parts each)

-- constants stand below no line
beside_by : (name_at : ℕ → Option Symbol) (pieces : List Piece) (fixes : List Fix) (start begin end : ℕ)
    (parts : List Part) → AllByRecursion (IsCodePart pieces fixes start begin end) parts
    → AllByRecursion (λ (part : ℕ × ShownPart). part.1.address < begin → part.0 ≡ 0)
    (map (lined name_at) parts)
beside_by name_at pieces fixes start begin end [] each = tt
beside_by name_at pieces fixes start begin end (part ∷ parts) each =
    ((each.0).beside, beside_by name_at pieces fixes start begin end parts each.1)

pub parts_beside_lines : (name_at : ℕ → Option Symbol) (pieces : List Piece) (fixes : List Fix)
    (start begin end : ℕ) (parts : List Part) → AllByRecursion (IsCodePart pieces fixes start begin end) parts
    → All (λ (part : ℕ × ShownPart). part.1.address < begin → part.0 ≡ 0) (map (lined name_at) parts)
parts_beside_lines name_at pieces fixes start begin end parts each =
    All-from_recursion (λ (part : ℕ × ShownPart). part.1.address < begin → part.0 ≡ 0)
    (map (lined name_at) parts) (beside_by name_at pieces fixes start begin end parts each)

-- bytes that stand alone are below no line
pub none_left_out : (name_at : ℕ → Option Symbol) (parts : List Part) → AllByRecursion IsLone parts
    → parts_in 0 (map (lined name_at) parts) ≡ map (lined name_at) parts
none_left_out name_at [] each = refl
none_left_out name_at (part ∷ parts) each =
    ap (λ (number : ℕ). cond (number == 0) (lined name_at part ∷ parts_in 0 (map (lined name_at) parts))
    (parts_in 0 (map (lined name_at) parts))) (each.0).line
    ∙ ap (λ others. lined name_at part ∷ others) (none_left_out name_at parts each.1)

-- parts that were added to none
good_lone : (parts : List Part) → AllByRecursion IsLone parts → AllByRecursion IsGood parts
good_lone [] each = tt
good_lone (part ∷ parts) each = ((each.0).good, good_lone parts each.1)

pub each_added : (P : Part → Type 0) (cells : List (ℕ × ℕ)) (parts : List Part) → AddsParts P cells [] parts
    → AllByRecursion P parts
each_added P cells parts adds = subst (AllByRecursion P) (sym adds.new_is) adds.each

pub lone_added : (cells : List (ℕ × ℕ)) (parts : List Part) → AddsParts IsLone cells [] parts
    → AllByRecursion IsGood parts
lone_added cells parts adds = good_lone parts (each_added IsLone cells parts adds)

pub cells_added : (P : Part → Type 0) (cells : List (ℕ × ℕ)) (parts : List Part) → AddsParts P cells [] parts
    → flat_map kept_cells parts ≡ cells
cells_added P cells parts adds = ap (flat_map kept_cells) adds.new_is ∙ adds.cells_are

good_code : (pieces : List Piece) (fixes : List Fix) (start begin end : ℕ) (parts : List Part)
    → AllByRecursion (IsCodePart pieces fixes start begin end) parts → AllByRecursion IsGood parts
good_code pieces fixes start begin end [] each = tt
good_code pieces fixes start begin end (part ∷ parts) each =
    ((each.0).good, good_code pieces fixes start begin end parts each.1)

pub code_added : (pieces : List Piece) (view : ModuleView) (cells : List (ℕ × ℕ)) (parts : List Part)
    → AddsParts (IsPartOfCode pieces view) cells [] parts → AllByRecursion IsGood parts
code_added pieces view cells parts adds =
    good_code pieces (fixes_in (object_of view) Code) view.code_base
    (view.code_base + constant_bytes (typed_of view)) (view.code_base + code_size view) parts
    (each_added (IsPartOfCode pieces view) cells parts adds)

-- the same constants, though they are counted up to a limit alone
kind_by : (pieces : List Piece) (start count kept end address : ℕ) (instr : Option Instr)
    → kept ≡ min count 4294967295 → address < 65536
    → IsKindBy instr pieces (start + kept) end address → IsKindBy instr pieces (start + count) end address
kind_by pieces start count kept end address (Some i) is small kind = omega (arith, is, small, kind)
kind_by pieces start count kept end address None is small (inl within) = inl (omega (arith, is, within))
kind_by pieces start count kept end address None is small (inr none) = inr none

counted : (pieces : List Piece) (fixes : List Fix) (start count kept end : ℕ) (parts : List Part)
    → kept ≡ min count 4294967295
    → AllByRecursion (IsCodePart pieces fixes start (start + kept) end) parts
    → AllByRecursion (IsCodePart pieces fixes start (start + count) end) parts
counted pieces fixes start count kept end [] is each = tt
counted pieces fixes start count kept end (part ∷ parts) is each = (
  record {
    good = (each.0).good;
    word = (each.0).word;
    kind = kind_by pieces start count kept end part.address part.instr is (each.0).word (each.0).kind;
    named = (each.0).named;
    beside = λ within. (each.0).beside (omega (arith, is, (each.0).word, within));
  },
  counted pieces fixes start count kept end parts is each.1,
)

pub code_of_module : (pieces : List Piece) (view : ModuleView) (segment : CodeSegment) (old new : List Part)
    → old ≡ [] → segment.start ≡ view.code_base
    → segment.constants ≡ min (constant_bytes (typed_of view)) 4294967295 → segment.length ≡ code_size view
    → segment.fixes.now ≡ fixes_in (object_of view) Code
    → AddsParts (IsPartOf pieces segment) (cells_in pieces segment.start segment.length) old new
    → AddsParts (IsPartOfCode pieces view) (cells_in pieces view.code_base (code_size view)) [] new
code_of_module pieces view segment old new none start constants size fixes adds = record {
  added = adds.added;
  new_is = adds.new_is ∙ ap (λ (parts : List Part). parts ++ adds.added) none;
  cells_are =
      adds.cells_are ∙ ap (λ (a : ℕ). cells_in pieces a segment.length) start
      ∙ ap (cells_in pieces view.code_base) size;
  each = counted pieces (fixes_in (object_of view) Code) view.code_base (constant_bytes (typed_of view))
      segment.constants (view.code_base + code_size view) adds.added constants
      (subst (λ (a : ℕ). AllByRecursion (IsCodePart pieces (fixes_in (object_of view) Code) a
      (a + segment.constants) (a + code_size view)) adds.added) start
      (subst (λ (n : ℕ). AllByRecursion (IsCodePart pieces (fixes_in (object_of view) Code) segment.start
      (segment.start + segment.constants) (segment.start + n)) adds.added) size
      (subst (λ (f : List Fix). AllByRecursion
      (IsCodePart pieces f segment.start (segment.start + segment.constants)
      (segment.start + segment.length)) adds.added) fixes adds.each)));
}

-- parts that are shown, one after another
pub first_good : (parts : List Part) (d : Part) → 1 ≤ length parts → AllByRecursion IsGood parts
    → IsGood (get_or parts 0 d)
first_good [] d some each = absurd (omega (arith, some))
first_good (part ∷ parts) d some each = each.0

pub rest_good : (parts : List Part) → 1 ≤ length parts → AllByRecursion IsGood parts
    → AllByRecursion IsGood (take (length parts - 1) (drop 1 parts))
rest_good [] some each = absurd (omega (arith, some))
rest_good (part ∷ parts) some each =
    let count : length parts ≡ suc (length parts) - 1 = omega arith in
    subst (AllByRecursion IsGood)
    (sym (take_all (length parts) parts (omega arith)) ∙ ap (λ (n : ℕ). take n parts) count) each.1

shown_first : (name_at : ℕ → Option Symbol) (shown : Bool) (part : ℕ × ShownPart)
    (others : List (ℕ × ShownPart)) (now all : List ℕ)
    → now ++ parts_text name_at (cond shown (part ∷ others) others) ≡ all
    → (now ++ lines_if shown name_at part.1) ++ parts_text name_at others ≡ all
shown_first name_at true part others now all is =
    append_assoc now (part_lines name_at part.1) (parts_text name_at others) ∙ is
shown_first name_at false part others now all is =
    ap (λ (l : List ℕ). l ++ parts_text name_at others) (append-nil now) ∙ is

shown_next : (name_at : ℕ → Option Symbol) (test : ℕ × ShownPart → Bool) (parts : List Part) (part d : Part)
    (shown : Bool) (now new all : List ℕ) → 1 ≤ length parts → part ≡ get_or parts 0 d
    → shown ≡ test (lined name_at part)
    → now ++ parts_text name_at (filter test (map (lined name_at) parts)) ≡ all
    → new ≡ now ++ lines_if shown name_at (part_view name_at part)
    → new ++ parts_text name_at (filter test (map (lined name_at) (take (length parts - 1) (drop 1 parts))))
    ≡ all
shown_next name_at test parts part d shown now new all some is shown_is so_far added =
    let others : List (ℕ × ShownPart) =
    filter test (map (lined name_at) (take (length parts - 1) (drop 1 parts))) in
    let here : now ++ parts_text name_at
    (cond (test (lined name_at part)) (lined name_at part ∷ others) others) ≡ all =
    subst (λ (left : List Part). now ++ parts_text name_at (filter test (map (lined name_at) left)) ≡ all)
    (split_first parts part d some is) so_far in
    ap (λ (l : List ℕ). l ++ parts_text name_at others) added
    ∙ shown_first name_at shown (lined name_at part) others now all
    (subst (λ (t : Bool). now ++ parts_text name_at (cond t (lined name_at part ∷ others) others) ≡ all)
    (sym shown_is) here)

pub next_in : (name_at : ℕ → Option Symbol) (line : ℕ) (parts : List Part) (part d : Part)
    (now new all : List ℕ) → 1 ≤ length parts → part ≡ get_or parts 0 d
    → now ++ parts_text name_at (parts_in line (map (lined name_at) parts)) ≡ all
    → new ≡ now ++ lines_if (part.line == line) name_at (part_view name_at part)
    → new ++ parts_text name_at (parts_in line (map (lined name_at) (take (length parts - 1) (drop 1 parts))))
    ≡ all
next_in name_at line parts part d now new all some is so_far added =
    shown_next name_at (λ (shown : ℕ × ShownPart). shown.0 == line) parts part d (part.line == line) now new
    all some is refl so_far added

pub next_beside : (name_at : ℕ → Option Symbol) (count : ℕ) (parts : List Part) (part d : Part) (shown : Bool)
    (now new all : List ℕ) → 1 ≤ length parts → part ≡ get_or parts 0 d
    → shown ≡ ((part.line == 0) || nat_lt count part.line)
    → now ++ parts_text name_at (parts_beside count (map (lined name_at) parts)) ≡ all
    → new ≡ now ++ lines_if shown name_at (part_view name_at part)
    → new ++ parts_text name_at
    (parts_beside count (map (lined name_at) (take (length parts - 1) (drop 1 parts)))) ≡ all
next_beside name_at count parts part d shown now new all some is shown_is so_far added =
    shown_next name_at (λ (beside : ℕ × ShownPart). (beside.0 == 0) || nat_lt count beside.0) parts part d
    shown now new all some is shown_is so_far added

-- no part is left
pub none_shown : (name_at : ℕ → Option Symbol) (test : ℕ × ShownPart → Bool) (parts : List Part)
    (now all : List ℕ) → length parts < 1
    → now ++ parts_text name_at (filter test (map (lined name_at) parts)) ≡ all → now ≡ all
none_shown name_at test parts now all none so_far =
    sym (append-nil now)
    ∙ subst (λ (left : List Part). now ++ parts_text name_at (filter test (map (lined name_at) left))
    ≡ all) (nil_from_length parts (omega (arith, none))) so_far

-- a byte alone, after the name of its address
lone_line : (name_at : ℕ → Option Symbol) (part : Part) (old named margined new : List ℕ) → part.instr ≡ None
    → IsGood part → named ≡ old ++ name_line (name_at part.address)
    → margined ≡ named ++ margin → new ≡ margined ++ part_line part.address (slice_index part.bytes 0 ∷ []) (codes "DB " ++ byte_digits (slice_index part.bytes 0))
    → new ≡ old ++ part_lines name_at (part_view name_at part)
lone_line name_at part old named margined new none good first second third =
    let alone : bytes_shown part ≡ slice_index part.bytes 0 ∷ [] =
    subst (λ (i : Option Instr). IsGoodBy i part) none good in
    let text : text_for name_at part part.instr ≡ codes "DB " ++ byte_digits (slice_index part.bytes 0) = ap (text_for name_at part) none in
    let name : List ℕ = name_line (name_at part.address) in
    let line : List ℕ = part_line part.address (bytes_shown part) (text_for name_at part part.instr) in
    third
    ∙ ap (λ (bytes : List ℕ). margined ++ part_line part.address bytes (codes "DB " ++ byte_digits (slice_index part.bytes 0))) (sym alone)
    ∙ ap (λ (t : List ℕ). margined ++ part_line part.address (bytes_shown part) t) (sym text)
    ∙ ap (λ (l : List ℕ). l ++ line)
    (second ∙ ap (λ (l : List ℕ). l ++ margin) first ∙ append_assoc old name margin)
    ∙ append_assoc old (name ++ margin) line

pub lone_put : {T E : Type 0} (name_at : ℕ → Option Symbol) (part : Part) (old named margined new : List ℕ)
    (result : Result T E) → part.instr ≡ None → IsGood part
    → named ≡ old ++ name_line (name_at part.address) → margined ≡ named ++ margin
    → OnOk result (new ≡ margined ++ part_line part.address (slice_index part.bytes 0 ∷ []) (codes "DB " ++ byte_digits (slice_index part.bytes 0)))
    → OnOk result (new ≡ old ++ part_lines name_at (part_view name_at part))
lone_put name_at part old named margined new result none good first second third =
    weaken_on_ok result (new ≡ margined ++ part_line part.address (slice_index part.bytes 0 ∷ []) (codes "DB " ++ byte_digits (slice_index part.bytes 0)))
    (new ≡ old ++ part_lines name_at (part_view name_at part))
    (lone_line name_at part old named margined new none good first second) third
