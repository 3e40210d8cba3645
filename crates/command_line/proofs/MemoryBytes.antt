-- The bytes of the memory at the start, one after another.
use Rattle.command_line.proofs.{Prelude.{◌≡◌, ◌∙◌, ℕ, ◌+◌, ◌-◌, ◌<◌, ◌≤◌, List, [], ◌∷◌, ◌++◌, Option, Some, None, Bool, true, false, get_or, length, refl, ap, take, drop, arith, ◌==◌, if◌then◌else◌, option_and_then, option_map, append-nil, take-length, le-ltb, lt-ltb, nat_lt, Text, byte_of, bytes_from, if_read, in_front, MemoryByte, address_of, memory_group, nat_tests}, Inputs.{in_front_twice, one_in_front}}

-- a byte that was added stands in front of what is left
one_more : (before : List MemoryByte) (address byte high low : ℕ) (more : Text) → address < 65536
    → Some byte ≡ byte_of high low
    → in_front (before ++ record { address = address; byte = byte } ∷ []) (bytes_from (address + 1) more)
    ≡ in_front before (bytes_from address (high ∷ low ∷ more))
one_more before address byte high low more inside e =
    let x : MemoryByte = record { address = address; byte = byte } in
    in_front_twice before (x ∷ []) (bytes_from (address + 1) more)
    ∙ ap (in_front before) (one_in_front x (bytes_from (address + 1) more)
    ∙ ap (option_and_then (λ (b : ℕ). option_map
    (λ (rest : List MemoryByte). record { address = address; byte = b } ∷ rest)
    (bytes_from (address + 1) more))) e
    ∙ rw (lt-ltb address 65536 inside) refl)

-- where two letters write no byte, nothing is read
pub no_byte : (before : List MemoryByte) (address high low : ℕ) (more : Text) → None ≡ byte_of high low
    → in_front before (bytes_from address (high ∷ low ∷ more)) ≡ None
no_byte before address high low more e = rw (← e) (go (nat_lt address 65536))
  where
    go : (t : Bool)
        → in_front before (let found : Option (List MemoryByte) = if t then None else None in found) ≡ None
    go true = refl
    go false = refl

-- nor past the end of memory
pub past_end : (before : List MemoryByte) (address high low : ℕ) (more : Text) → 65536 ≤ address
    → in_front before (bytes_from address (high ∷ low ∷ more)) ≡ None
past_end before address high low more past = rw (le-ltb address 65536 past) refl

-- at the end of the digits all was read, unless one is left
pub bytes_end : (before : List MemoryByte) (address : ℕ) (rest : Text) → length rest < 2
    → in_front before (bytes_from address rest) ≡ if_read (length rest == 0) before
bytes_end before address [] short = ap Some (append-nil before)
bytes_end before address (lone ∷ []) short = refl
bytes_end before address (high ∷ low ∷ more) short = absurd (omega arith)

-- a step over two letters that write a byte
pub pair_step : (before after : List MemoryByte) (address next byte : ℕ) (rest : Text) → 2 ≤ length rest
    → address < 65536 → next ≡ address + 1
    → Some byte ≡ byte_of (get_or rest 0 0) (get_or rest 1 0)
    → after ≡ before ++ record { address = address; byte = byte } ∷ []
    → in_front after (bytes_from next (take (length rest - 2) (drop 2 rest)))
    ≡ in_front before (bytes_from address rest)
pair_step before after address next byte [] two inside on e is = absurd (omega arith)
pair_step before after address next byte (lone ∷ []) two inside on e is = absurd (omega arith)
pair_step before after address next byte (high ∷ low ∷ more) two inside on e is =
    let count : length (high ∷ low ∷ more) - 2 ≡ length more = omega arith in
    rw (is, on, count, take-length more) (one_more before address byte high low more inside e)

-- a group of bytes of memory has four digits and a colon (58)
pub short_group : (before : List MemoryByte) (group : Text) → length group < 5
    → in_front before (memory_group group) ≡ None
short_group before [] short = refl
short_group before (a ∷ []) short = refl
short_group before (a ∷ b ∷ []) short = refl
short_group before (a ∷ b ∷ c ∷ []) short = refl
short_group before (a ∷ b ∷ c ∷ d ∷ []) short = refl
short_group before (a ∷ b ∷ c ∷ d ∷ e ∷ more) short = absurd (omega arith)

pub no_colon : (before : List MemoryByte) (group : Text) → 5 ≤ length group → (get_or group 4 0 ≡ 58 → ⊥)
    → in_front before (memory_group group) ≡ None
no_colon before [] long other = absurd (omega arith)
no_colon before (a ∷ []) long other = absurd (omega arith)
no_colon before (a ∷ b ∷ []) long other = absurd (omega arith)
no_colon before (a ∷ b ∷ c ∷ []) long other = absurd (omega arith)
no_colon before (a ∷ b ∷ c ∷ d ∷ []) long other = absurd (omega arith)
no_colon before (a ∷ b ∷ c ∷ d ∷ e ∷ more) long other =
    let no : (e == 58) ≡ false = grind (arith, nat_tests) in
    rw no refl

pub group_is : (group : Text) (address : Option ℕ) → 5 ≤ length group → get_or group 4 0 ≡ 58
    → address ≡ address_of (get_or group 0 0) (get_or group 1 0) (get_or group 2 0) (get_or group 3 0)
    → memory_group group ≡ option_and_then
    (λ start. bytes_from start (take (length group - 5) (drop 5 group))) address
group_is [] address long colon is = absurd (omega arith)
group_is (a ∷ []) address long colon is = absurd (omega arith)
group_is (a ∷ b ∷ []) address long colon is = absurd (omega arith)
group_is (a ∷ b ∷ c ∷ []) address long colon is = absurd (omega arith)
group_is (a ∷ b ∷ c ∷ d ∷ []) address long colon is = absurd (omega arith)
group_is (a ∷ b ∷ c ∷ d ∷ e ∷ more) address long colon is =
    let count : length (a ∷ b ∷ c ∷ d ∷ e ∷ more) - 5 ≡ length more = omega arith in
    rw (is, count, take-length more, colon) refl
