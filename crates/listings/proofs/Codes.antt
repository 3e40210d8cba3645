-- Instructions that are read from an image.
use Rattle.listings.proofs.Prelude.{◌≡◌, ℕ, zero, suc, ◌+◌, ◌-◌, ◌≤◌, Bool, true, false, ◌&&◌, List, [], ◌∷◌, ◌++◌, length, take, replicate, slice_index, Option, Some, None, refl, ap, sym, ◌∙◌, ◌<◌, inl, inr, subst, unwrap_or, arith, and_parts, eq-eqb, eqb-true, true≢false, take-append-le, take_all, none-some, same_Some, read_back, Form, One, Three, Two, Unknown, bytes_of, first_instruction, form_of, instruction_of, word, Instr, Piece, AllThere, byte_in, Coded, CodeSegment, IsCodeIn, IsNoCode, IsCoded, IsCodedAt, are_there, is_byte}

-- the first bytes of an instruction's code are its bytes
pub bytes_taken : (i : Instr) (bytes : List ℕ) (size count : ℕ) → bytes ≡ bytes_of i ++ replicate count 0
    → size ≡ length (bytes_of i) → take size bytes ≡ bytes_of i
bytes_taken i bytes size count is counted =
    ap (take size) is
    ∙ ap (λ (n : ℕ). take n (bytes_of i ++ replicate count 0)) counted
    ∙ take-append-le (length (bytes_of i)) (bytes_of i) (replicate count 0) (omega arith)
    ∙ take_all (length (bytes_of i)) (bytes_of i) (omega arith)

-- a byte that is there
there_is : (found : Option ℕ) (byte : ℕ) → is_byte found byte ≡ true → found ≡ Some byte
there_is None byte e = cc
there_is (Some there) byte e = ap Some (eqb-true there byte e)

-- three bytes, of which so many are there
all_there : (pieces : List Piece) (address a b c size : ℕ) → 1 ≤ size → size ≤ 3
    → are_there pieces address (a ∷ b ∷ c ∷ []) size ≡ true
    → AllThere pieces address (take size (a ∷ b ∷ c ∷ []))
all_there pieces address a b c zero some few e = absurd (omega arith)
all_there pieces address a b c (suc zero) some few e =
    (there_is (byte_in pieces address) a (and_parts (is_byte (byte_in pieces address) a) _ e).0, tt)
all_there pieces address a b c (suc (suc zero)) some few e =
    let first = and_parts (is_byte (byte_in pieces address) a) _ e in
    let second = and_parts (is_byte (byte_in pieces (address + 1)) b) _ first.1 in
    (there_is (byte_in pieces address) a first.0, (there_is (byte_in pieces (address + 1)) b second.0, tt))
all_there pieces address a b c (suc (suc (suc zero))) some few e =
    let first = and_parts (is_byte (byte_in pieces address) a) _ e in
    let second = and_parts (is_byte (byte_in pieces (address + 1)) b) _ first.1 in
    let two : address + 1 + 1 ≡ address + 2 = omega arith in (
      there_is (byte_in pieces address) a first.0,
      (
        there_is (byte_in pieces (address + 1)) b second.0,
        (ap (byte_in pieces) two ∙ there_is (byte_in pieces (address + 2)) c second.1, tt),
      ),
    )
all_there pieces address a b c (suc (suc (suc (suc size)))) some few e = absurd (omega arith)

three_there : (pieces : List Piece) (address size : ℕ) (bytes : List ℕ) → length bytes ≡ 3 → 1 ≤ size
    → size ≤ 3 → are_there pieces address bytes size ≡ true → AllThere pieces address (take size bytes)
three_there pieces address size (a ∷ b ∷ c ∷ []) three some few e =
    all_there pieces address a b c size some few e
three_there pieces address size [] three some few e = absurd (omega (arith, three))
three_there pieces address size (a ∷ []) three some few e = absurd (omega (arith, three))
three_there pieces address size (a ∷ b ∷ []) three some few e = absurd (omega (arith, three))
three_there pieces address size (a ∷ b ∷ c ∷ d ∷ more) three some few e = absurd (omega (arith, three))

-- the code of an instruction
pub code_of : (code : Coded) (i : Instr) → code.instr ≡ i → length code.bytes ≡ 3 → 1 ≤ code.size
    → code.size ≤ 3 → code.size ≡ length (bytes_of i) → take code.size code.bytes ≡ bytes_of i → IsCoded code
code_of code i is three some few sized bytes =
    record { three = three; some = some; few = few; sized = sized ∙ ap (λ (j : Instr). length (bytes_of j)) (sym is); bytes_are = bytes ∙ ap bytes_of (sym is) }

-- whose bytes are there
pub coded_at : (pieces : List Piece) (address : ℕ) (code : Coded) (test : Bool) → IsCoded code
    → test ≡ are_there pieces address code.bytes code.size → test ≡ true
    → IsCodedAt pieces address code
coded_at pieces address code test coded found holds =
    record { coded = coded; there = three_there pieces address code.size code.bytes coded.three coded.some coded.few (sym found ∙ holds) }

-- the first of bytes that are there, and those after it
there_first : (pieces : List Piece) (address byte : ℕ) (bytes : List ℕ)
    → AllThere pieces address (byte ∷ bytes) → byte_in pieces address ≡ Some byte
there_first pieces address byte bytes there = there.0

there_after : (pieces : List Piece) (address byte : ℕ) (bytes : List ℕ)
    → AllThere pieces address (byte ∷ bytes) → AllThere pieces (address + 1) bytes
there_after pieces address byte bytes there = there.1

-- bytes that are there are found
found_there : (found : Option ℕ) (byte : ℕ) → found ≡ Some byte → is_byte found byte ≡ true
found_there found byte e = ap (λ (f : Option ℕ). is_byte f byte) e ∙ eq-eqb byte byte refl

all_found : (pieces : List Piece) (address a b c size : ℕ) → 1 ≤ size → size ≤ 3
    → AllThere pieces address (take size (a ∷ b ∷ c ∷ []))
    → are_there pieces address (a ∷ b ∷ c ∷ []) size ≡ true
all_found pieces address a b c zero some few there = absurd (omega (arith, some))
all_found pieces address a b c (suc zero) some few there =
    ap (λ (t : Bool). t && true)
    (found_there (byte_in pieces address) a (there_first pieces address a [] there))
all_found pieces address a b c (suc (suc zero)) some few there =
    let second = there_after pieces address a (b ∷ []) there in
    ap (λ (t : Bool). t && (is_byte (byte_in pieces (address + 1)) b && true))
    (found_there (byte_in pieces address) a (there_first pieces address a (b ∷ []) there))
    ∙ ap (λ (t : Bool). t && true)
    (found_there (byte_in pieces (address + 1)) b (there_first pieces (address + 1) b [] second))
all_found pieces address a b c (suc (suc (suc zero))) some few there =
    let two : address + 2 ≡ address + 1 + 1 = omega arith in
    let second = there_after pieces address a (b ∷ c ∷ []) there in
    let third = there_after pieces (address + 1) b (c ∷ []) second in
    ap (λ (t : Bool). t && (is_byte (byte_in pieces (address + 1)) b
    && is_byte (byte_in pieces (address + 2)) c))
    (found_there (byte_in pieces address) a (there_first pieces address a (b ∷ c ∷ []) there))
    ∙ ap (λ (t : Bool). t && is_byte (byte_in pieces (address + 2)) c)
    (found_there (byte_in pieces (address + 1)) b (there_first pieces (address + 1) b (c ∷ []) second))
    ∙ found_there (byte_in pieces (address + 2)) c
    (ap (byte_in pieces) two ∙ there_first pieces (address + 1 + 1) c [] third)
all_found pieces address a b c (suc (suc (suc (suc size)))) some few there = absurd (omega (arith, few))

three_found : (pieces : List Piece) (address size : ℕ) (bytes : List ℕ) → length bytes ≡ 3 → 1 ≤ size
    → size ≤ 3 → AllThere pieces address (take size bytes) → are_there pieces address bytes size ≡ true
three_found pieces address size (a ∷ b ∷ c ∷ []) three some few there =
    all_found pieces address a b c size some few there
three_found pieces address size [] three some few there = absurd (omega (arith, three))
three_found pieces address size (a ∷ []) three some few there = absurd (omega (arith, three))
three_found pieces address size (a ∷ b ∷ []) three some few there = absurd (omega (arith, three))
three_found pieces address size (a ∷ b ∷ c ∷ d ∷ more) three some few there = absurd (omega (arith, three))

-- an instruction that lies there is the one that was read
pub code_whole : (pieces : List Piece) (address : ℕ) (code : Coded) (test : Bool) (i : Instr) → IsCoded code
    → test ≡ are_there pieces address code.bytes code.size → test ≡ false
    → AllThere pieces address (bytes_of i) → code.instr ≡ i → ⊥
code_whole pieces address code test i coded found fails there is =
    let here : AllThere pieces address (take code.size code.bytes) =
    subst (AllThere pieces address) (sym (coded.bytes_are ∙ ap bytes_of is)) there in
    true≢false
    (sym (three_found pieces address code.size code.bytes coded.three coded.some coded.few here)
    ∙ sym found ∙ fails)

-- how many bytes an instruction has
form_few : (form : Form) (a b n : ℕ) (i : Instr) → instruction_of form a b ≡ Some (i, n) → (1 ≤ n) × (n ≤ 3)
form_few (One j) a b n i e =
    let s : 1 ≡ n = ap (λ (p : Instr × ℕ). p.1) (same_Some (j, 1) (i, n) e) in
    (omega (arith, s), omega (arith, s))
form_few (Two j) a b n i e =
    let s : 2 ≡ n = ap (λ (p : Instr × ℕ). p.1) (same_Some (j a, 2) (i, n) e) in
    (omega (arith, s), omega (arith, s))
form_few (Three j) a b n i e =
    let s : 3 ≡ n = ap (λ (p : Instr × ℕ). p.1) (same_Some (j (word b a), 3) (i, n) e) in
    (omega (arith, s), omega (arith, s))
form_few Unknown a b n i e = absurd (none-some (i, n) e)

bytes_few : (i : Instr) → (1 ≤ length (bytes_of i)) × (length (bytes_of i) ≤ 3)
bytes_few i =
    let all = bytes_of i ++ [] in
    form_few (form_of (slice_index all 0)) (slice_index all 1) (slice_index all 2)
    (length (bytes_of i)) i (read_back i [])

-- the bytes that begin with those of an instruction that lies there
bytes_read : (pieces : List Piece) (address : ℕ) (i : Instr) (bytes : List ℕ) → bytes_of i ≡ bytes
    → 1 ≤ length bytes → length bytes ≤ 3 → AllThere pieces address bytes
    → first_instruction
    (unwrap_or (byte_in pieces address) 0 ∷ unwrap_or (byte_in pieces (address + 1)) 0
    ∷ unwrap_or (byte_in pieces (address + 2)) 0 ∷ []) ≡ Some (i, length (bytes_of i))
bytes_read pieces address i [] is some few there = absurd (omega (arith, some))
bytes_read pieces address i (a ∷ []) is some few there =
    let second : ℕ = unwrap_or (byte_in pieces (address + 1)) 0 in
    let third : ℕ = unwrap_or (byte_in pieces (address + 2)) 0 in
    ap (λ (f : Option ℕ). first_instruction (unwrap_or f 0 ∷ second ∷ third ∷ []))
    (there_first pieces address a [] there)
    ∙ ap (λ (l : List ℕ). first_instruction (l ++ second ∷ third ∷ [])) (sym is)
    ∙ read_back i (second ∷ third ∷ [])
bytes_read pieces address i (a ∷ b ∷ []) is some few there =
    let second : Option ℕ = byte_in pieces (address + 1) in
    let third : ℕ = unwrap_or (byte_in pieces (address + 2)) 0 in
    let after = there_after pieces address a (b ∷ []) there in
    ap (λ (f : Option ℕ). first_instruction (unwrap_or f 0 ∷ unwrap_or second 0 ∷ third ∷ []))
    (there_first pieces address a (b ∷ []) there)
    ∙ ap (λ (f : Option ℕ). first_instruction (a ∷ unwrap_or f 0 ∷ third ∷ []))
    (there_first pieces (address + 1) b [] after)
    ∙ ap (λ (l : List ℕ). first_instruction (l ++ third ∷ [])) (sym is)
    ∙ read_back i (third ∷ [])
bytes_read pieces address i (a ∷ b ∷ c ∷ []) is some few there =
    let two : address + 2 ≡ address + 1 + 1 = omega arith in
    let second : Option ℕ = byte_in pieces (address + 1) in
    let third : Option ℕ = byte_in pieces (address + 2) in
    let after = there_after pieces address a (b ∷ c ∷ []) there in
    let last = there_after pieces (address + 1) b (c ∷ []) after in
    ap (λ (f : Option ℕ). first_instruction (unwrap_or f 0 ∷ unwrap_or second 0 ∷ unwrap_or third 0 ∷ []))
    (there_first pieces address a (b ∷ c ∷ []) there)
    ∙ ap (λ (f : Option ℕ). first_instruction (a ∷ unwrap_or f 0 ∷ unwrap_or third 0 ∷ []))
    (there_first pieces (address + 1) b (c ∷ []) after)
    ∙ ap (λ (f : Option ℕ). first_instruction (a ∷ b ∷ unwrap_or f 0 ∷ []))
    (ap (byte_in pieces) two ∙ there_first pieces (address + 1 + 1) c [] last)
    ∙ ap (λ (l : List ℕ). first_instruction (l ++ [])) (sym is)
    ∙ read_back i []
bytes_read pieces address i (a ∷ b ∷ c ∷ d ∷ more) is some few there = absurd (omega (arith, few))

-- what is read is an instruction that lies there, if one does
pub code_read : (pieces : List Piece) (address first second third next after : ℕ) (read : Option (Instr × ℕ))
    → next ≡ address + 1 → after ≡ address + 2
    → first ≡ unwrap_or (byte_in pieces address) 0 → second ≡ unwrap_or (byte_in pieces next) 0
    → third ≡ unwrap_or (byte_in pieces after) 0
    → read ≡ first_instruction (first ∷ second ∷ third ∷ []) → (i : Instr)
    → AllThere pieces address (bytes_of i) → read ≡ Some (i, length (bytes_of i))
code_read pieces address first second third next after read next_is after_is first_is second_is
    third_is read_is i there =
    let few = bytes_few i in
    read_is
    ∙ ap (λ (b : ℕ). first_instruction (b ∷ second ∷ third ∷ [])) first_is
    ∙ ap (λ (b : ℕ). first_instruction (unwrap_or (byte_in pieces address) 0 ∷ b ∷ third ∷ []))
    (second_is ∙ ap (λ (a : ℕ). unwrap_or (byte_in pieces a) 0) next_is)
    ∙ ap (λ (b : ℕ). first_instruction (unwrap_or (byte_in pieces address) 0
    ∷ unwrap_or (byte_in pieces (address + 1)) 0 ∷ b
    ∷ [])) (third_is ∙ ap (λ (a : ℕ). unwrap_or (byte_in pieces a) 0) after_is)
    ∙ bytes_read pieces address i (bytes_of i) refl few.0 few.1 there

-- an instruction of a code segment, or none
pub code_found : (pieces : List Piece) (segment : CodeSegment) (offset address : ℕ) (code : Coded)
    → address ≡ segment.start + offset → IsCodedAt pieces address code
    → code.size ≤ segment.length - offset → segment.constants ≤ offset → IsCodeIn pieces segment offset code
code_found pieces segment offset address code at coded fits past =
    record { coded = subst (λ (a : ℕ). IsCodedAt pieces a code) at coded; fits = fits; past = past }

pub constant_there : (pieces : List Piece) (segment : CodeSegment) (offset : ℕ) → offset < segment.constants
    → IsNoCode pieces segment offset
constant_there pieces segment offset within = inl (omega (arith, within))

pub code_missing : (pieces : List Piece) (segment : CodeSegment) (offset address : ℕ)
    → address ≡ segment.start + offset → ((i : Instr) → AllThere pieces address (bytes_of i) → ⊥)
    → IsNoCode pieces segment offset
code_missing pieces segment offset address at none =
    inr (λ (i : Instr) lies. none i (subst (λ (a : ℕ). AllThere pieces a (bytes_of i)) (sym at) lies.there))

pub code_too_long : (pieces : List Piece) (segment : CodeSegment) (offset address : ℕ) (code : Coded)
    → address ≡ segment.start + offset → IsCodedAt pieces address code
    → ((i : Instr) → AllThere pieces address (bytes_of i) → code.instr ≡ i)
    → segment.length - offset < code.size → IsNoCode pieces segment offset
code_too_long pieces segment offset address code at coded whole long =
    inr (λ (i : Instr) lies.
    let same = whole i (subst (λ (a : ℕ). AllThere pieces a (bytes_of i)) (sym at) lies.there) in
    let sized : code.size ≡ length (bytes_of i) =
    (coded.coded).sized ∙ ap (λ (j : Instr). length (bytes_of j)) same in
    let within : length (bytes_of i) ≤ segment.start + segment.length - (segment.start + offset) =
    lies.within in
    absurd (omega (arith, sized, within, long)))
