-- Lines of listings.
use Rattle.object_commands.proofs.{Prelude.{◌≡◌, ℕ, ◌+◌, ◌≤◌, Bool, false, None, arith, append-nil, append_assoc, drop, flat_map, get_or, length, take-length, ◌^◌, ◌-◌, ◌<◌, true, List, take, [], ◌∷◌, ◌++◌, Option, Some, Result, OnOk, IfSome, refl, ap, subst, sym, ◌∙◌, Appends, digits, digits_output, format_spec, styled_digits_output, hex_byte, Absolute, ObjectModule, plan_view, byte_digits, Form, One, Two, Three, Unknown, first_instruction, form_of, instruction_of, ◌&&◌, if◌then◌else◌, nat_le, not, slice_index, and_parts, leb-true, length-drop, MEMORY_SIZE, Piece, Instr, Range, AreListed, IsListing, ListsModule, next_piece, no_piece, begins, ends, if_whole, is_named_within, is_whole, label_line, part_line, shown_text, size_of, ListsPiece, ListsPieces, Symbol, code_range, Plan, part_lines, shown_at}, Lists.{left_is, nothing_left}}

-- what a hole `{:02X}` writes of a byte
pub byte_written : {E : Type 0} (result : Result (Unit {0}) E) (d : _) (spec : _) (n : ℕ) (old new : List ℕ)
    → digits_output d ≡ Some (digits 16 true n) → spec ≡ format_spec 32 0 4 2 (2 ^ 64 - 1) → n < 256
    → OnOk result (IfSome (styled_digits_output d spec) (Appends (Some old) (Some new)))
    → OnOk result (new ≡ old ++ byte_digits n)
byte_written result d spec n old new shown is small wrote =
    let printed : styled_digits_output d spec ≡ Some (byte_digits n) = rw (is, shown) (ap Some (hex_byte true n small)) in
    subst (λ (o : Option (List ℕ)). OnOk result (IfSome o (Appends (Some old) (Some new)))) printed wrote

pub shown_by : (symbols : List Symbol) (code : Range) (address count : ℕ) (bytes : List ℕ)
    (first shown : Option (Instr × ℕ)) → count ≡ length bytes → first ≡ first_instruction bytes
    → shown ≡ if_whole symbols code address count first → shown ≡ shown_at symbols code address bytes
unfolding shown_at
shown_by symbols code address count bytes first shown counted is e =
    e ∙ ap (λ (n : ℕ). if_whole symbols code address n first) counted
    ∙ ap (if_whole symbols code address (length bytes)) is

-- how many bytes an instruction has
record IsFew (shown : Option (Instr × ℕ)) : Type 0 where
  some : 0 < size_of shown
  few : size_of shown ≤ 3

form_few : (form : Form) (a b : ℕ) → IsFew (instruction_of form a b)
form_few (One i) a b = record { some = omega arith; few = omega arith }
form_few (Two i) a b = record { some = omega arith; few = omega arith }
form_few (Three i) a b = record { some = omega arith; few = omega arith }
form_few Unknown a b = record { some = omega arith; few = omega arith }

first_few : (bytes : List ℕ) → IsFew (first_instruction bytes)
first_few bytes = form_few (form_of (slice_index bytes 0)) (slice_index bytes 1) (slice_index bytes 2)

module _ (symbols : List Symbol) (code : Range) (address count : ℕ) where
  whole_few : (first : Option (Instr × ℕ)) → IsFew first → IsFew (if_whole symbols code address count first)
  whole_few None is = record { some = omega arith; few = omega arith }
  whole_few (Some (i, size)) is = go (is_whole symbols code address count size)
    where
      go : (t : Bool) → IsFew (if t then Some (i, size) else None)
      go true = record { some = is.some; few = is.few }
      go false = record { some = omega arith; few = omega arith }

  whole_there : (first : Option (Instr × ℕ)) → 0 < count
      → size_of (if_whole symbols code address count first) ≤ count
  whole_there None some = omega arith
  whole_there (Some (i, size)) some = go (is_whole symbols code address count size) refl
    where
      go : (t : Bool) → is_whole symbols code address count size ≡ t
          → size_of (if t then Some (i, size) else None) ≤ count
      go true e =
          let in_code : Bool = nat_le (address + size) (code.start + code.len) in
          let apart : Bool = not (is_named_within symbols address size) in
          let three = (and_parts (nat_le size count && nat_le code.start address && in_code) apart e).0 in
          let two = (and_parts (nat_le size count && nat_le code.start address) in_code three).0 in
          leb-true size count (and_parts (nat_le size count) (nat_le code.start address) two).0
      go false e = omega arith

module _ (symbols : List Symbol) (code : Range) (address : ℕ) (bytes : List ℕ)
    (shown : Option (Instr × ℕ)) where
  is_few : shown ≡ shown_at symbols code address bytes → IsFew shown
  unfolding shown_at
  is_few is =
      subst IsFew (sym is)
      (whole_few symbols code address (length bytes) (first_instruction bytes) (first_few bytes))

  pub shown_some : shown ≡ shown_at symbols code address bytes → 0 < size_of shown
  shown_some is = (is_few is).some

  pub shown_few : shown ≡ shown_at symbols code address bytes → size_of shown ≤ 3
  shown_few is = (is_few is).few

  pub shown_there : shown ≡ shown_at symbols code address bytes → 0 < length bytes
      → size_of shown ≤ length bytes
  unfolding shown_at
  shown_there is some =
      subst (λ (s : Option (Instr × ℕ)). size_of s ≤ length bytes) (sym is)
      (whole_there symbols code address (length bytes) (first_instruction bytes) some)

-- names and then a line
pub part_added : (symbols : List Symbol) (address : ℕ) (bytes old named new : List ℕ)
    (shown here : Option (Instr × ℕ)) → named ≡ old ++ flat_map (label_line address) symbols
    → new ≡ named ++ part_line address (take (size_of shown) bytes) (shown_text shown bytes) → shown ≡ here
    → new ≡ old ++ part_lines symbols address bytes here
unfolding part_lines
part_added symbols address bytes old named new shown here with_names with_line is =
    with_line
    ∙ ap (λ (l : List ℕ). l ++ part_line address (take (size_of shown) bytes) (shown_text shown bytes))
    with_names
    ∙ append_assoc old (flat_map (label_line address) symbols)
    (part_line address (take (size_of shown) bytes) (shown_text shown bytes))
    ∙ ap (λ (s : Option (Instr × ℕ)). old
    ++ (flat_map (label_line address) symbols
    ++ part_line address (take (size_of s) bytes) (shown_text s bytes))) is

-- bytes that were listed up to an address: what the rest is listed as comes after that
pub record ListedSoFar (symbols : List Symbol) (code : Range) (start : ℕ) (bytes old now : List ℕ)
    (address : ℕ) (rest : List ℕ) : Type 0 where
  pub in_memory : address + length rest ≤ MEMORY_SIZE
  pub text : List ℕ
  pub added : now ≡ old ++ text
  pub goes_on : (more : List ℕ) → IsListing symbols code address rest more
      → IsListing symbols code start bytes (text ++ more)

pub rest_is : (n : ℕ) (xs : List ℕ) → take (length xs - n) (drop n xs) ≡ drop n xs
rest_is n xs = ap (λ (k : ℕ). take k (drop n xs)) (sym (length-drop n xs)) ∙ take-length (drop n xs)

-- one part more
pub listed_next : (symbols : List Symbol) (code : Range) (start : ℕ) (all old now new : List ℕ) (address : ℕ)
    (rest : List ℕ) (size : ℕ) (left : List ℕ)
    → ListedSoFar symbols code start all old now address rest → 1 ≤ length rest → size ≤ length rest
    → size ≡ size_of (shown_at symbols code address rest)
    → new ≡ now ++ part_lines symbols address rest (shown_at symbols code address rest)
    → left ≡ drop size rest
    → ListedSoFar symbols code start all old new (address + size) left
listed_next symbols code start all old now new address rest size left so_far some there is with_part left_is =
    let shown : Option (Instr × ℕ) = shown_at symbols code address rest in
    let part : List ℕ = part_lines symbols address rest shown in
    let count : length left ≡ length rest - size = ap length left_is ∙ length-drop size rest in
    let fits : address + length rest ≤ MEMORY_SIZE = so_far.in_memory in
    record {
      in_memory = omega arith;
      text = so_far.text ++ part;
      added = with_part ∙ ap (λ (l : List ℕ). l ++ part) so_far.added ∙ append_assoc old so_far.text part;
      goes_on =
          λ more listed. subst (λ (l : List ℕ). IsListing symbols code start all l)
          (sym (append_assoc so_far.text part more))
          (so_far.goes_on (part ++ more) (begins address rest more shown (omega arith) refl
          (subst (λ (n : ℕ). IsListing symbols code (address + n) (drop n rest) more) is
          (subst (λ (l : List ℕ). IsListing symbols code (address + size) l more) left_is listed))));
    }

-- nothing is left
pub listed_whole : (symbols : List Symbol) (code : Range) (piece : Piece) (old now : List ℕ)
    (address : ℕ) (rest : List ℕ)
    → ListedSoFar symbols code piece.start piece.bytes old now address rest → length rest < 1
    → ListsPiece symbols code piece old now
listed_whole symbols code piece old now address [] so_far none = record {
  text = so_far.text;
  listing =
      subst (λ (l : List ℕ). IsListing symbols code piece.start piece.bytes l) (append-nil so_far.text)
      (so_far.goes_on [] (ends address));
  added = so_far.added;
}
listed_whole symbols code piece old now address (byte ∷ more) so_far none = absurd (omega arith)

-- pieces that were listed up to some: what the others are listed as comes after that
pub record PiecesSoFar (symbols : List Symbol) (code : Range) (all : List Piece) (old now : List ℕ)
    (rest : List Piece) : Type 0 where
  pub text : List ℕ
  pub added : now ≡ old ++ text
  pub goes_on : (more : List ℕ) → AreListed symbols code rest more → AreListed symbols code all (text ++ more)

pub piece_next : (symbols : List Symbol) (code : Range) (all : List Piece) (old now new : List ℕ) (i : ℕ)
    (piece : Piece) → PiecesSoFar symbols code all old now (drop i all) → i < length all
    → piece ≡ get_or all i piece → ListsPiece symbols code piece now new
    → PiecesSoFar symbols code all old new (drop (i + 1) all)
piece_next symbols code all old now new i piece so_far within is listed = record {
  text = so_far.text ++ listed.text;
  added = listed.added ∙ ap (λ (l : List ℕ). l ++ listed.text) so_far.added
      ∙ append_assoc old so_far.text listed.text;
  goes_on =
      λ more others. subst (λ (l : List ℕ). AreListed symbols code all l)
      (sym (append_assoc so_far.text listed.text more))
      (so_far.goes_on (listed.text ++ more)
      (subst (λ (ps : List Piece). AreListed symbols code ps (listed.text ++ more))
      (sym (left_is all i piece within is))
      (next_piece piece (drop (i + 1) all) listed.text more listed.listing others)));
}

pub pieces_whole : (symbols : List Symbol) (code : Range) (all : List Piece) (old now : List ℕ) (i : ℕ)
    → PiecesSoFar symbols code all old now (drop i all) → length all ≤ i
    → ListsPieces symbols code all old now
pieces_whole symbols code all old now i so_far past = record {
  text = so_far.text;
  listed = subst (λ (l : List ℕ). AreListed symbols code all l) (append-nil so_far.text)
      (so_far.goes_on [] (subst (λ (ps : List Piece). AreListed symbols code ps [])
      (sym (nothing_left all i past)) no_piece));
  added = so_far.added;
}

-- the pieces of a placed module, after nothing
pub module_listed : (plan : Plan) (object : ObjectModule) (absolute : Absolute) (symbols : List Symbol)
    (code : Range) (pieces : List Piece) (lines : List ℕ) → symbols ≡ absolute.symbols
    → code ≡ code_range (plan_view plan) object → pieces ≡ absolute.pieces
    → ListsPieces symbols code pieces [] lines → ListsModule plan object absolute lines
module_listed plan object absolute symbols code pieces lines names is_code are listed =
    subst (λ (s : List Symbol). AreListed s (code_range (plan_view plan) object) absolute.pieces lines) names
    (subst (λ (r : Range). AreListed symbols r absolute.pieces lines) is_code
    (subst (λ (ps : List Piece). AreListed symbols code ps lines) are
    (subst (λ (l : List ℕ). AreListed symbols code pieces l) (sym listed.added) listed.listed)))
