-- What a first byte and the bytes after it are read as, and the codes that no instruction has.
use Rattle.isa8080.proofs.Prelude.{◌≡◌, ◌↔◌, ℕ, ◌<◌, Bool, true, false, Option, is_some, IsNone, Contains, slice_index, Some, None, List, [], ◌∷◌, ◌++◌, length, nat_eq, not, refl, ap, ◌∙◌, sym, list_any, agree_below_at, eqb-true, not-false, nat_eq_equiv, Contains-from_any, list_any-from_Contains, Instr, Form, One, Two, Three, Unknown, bytes_of, first_instruction, form_of, instruction_of, undocumented}
use Rattle.isa8080.specs.internal.Reading.{Reads}
use Rattle.isa8080.proofs.EncodingLemmas.{read_back}

-- some instruction has this form
abbrev pub is_known : Form → Bool
is_known (One i) = true
is_known (Two i) = true
is_known (Three i) = true
is_known Unknown = false

-- a first byte that is none of the twelve
abbrev pub is_documented : ℕ → Bool
is_documented code = not (list_any (nat_eq code) undocumented)

pub is_known-form_of : (code : ℕ) → code < 256 → is_known (form_of code) ≡ is_documented code
is_known-form_of code h = agree_below_at (λ c. is_known (form_of c)) is_documented 256 code refl h

-- the test refuses just the twelve
pub Contains-undocumented : (code : ℕ) → (is_documented code ≡ false) ↔ Contains undocumented code
Contains-undocumented code =
    (λ h. Contains-from_any {eq = nat_eq} eqb-true code undocumented (not-false _ h), λ h. ap not (list_any-from_Contains nat_eq_equiv code undocumented h))

Unknown-from_test : (form : Form) → is_known form ≡ false → form ≡ Unknown
Unknown-from_test (One i) h = cc
Unknown-from_test (Two i) h = cc
Unknown-from_test (Three i) h = cc
Unknown-from_test Unknown h = refl

-- just the twelve codes are those of no instruction
pub Unknown-form_of : (code : ℕ) → code < 256 → (form_of code ≡ Unknown) ↔ Contains undocumented code
Unknown-form_of code small =
    let e = is_known-form_of code small in
    let w = Contains-undocumented code in
    (λ h. w.0 (sym e ∙ ap is_known h), λ h. Unknown-from_test (form_of code) (e ∙ w.1 h))

-- three bytes begin with these
abbrev pub BeginWith : List ℕ → ℕ → ℕ → ℕ → Type 0
BeginWith [] code low high = Unit {0}
BeginWith (a ∷ []) code low high = a ≡ code
BeginWith (a ∷ b ∷ []) code low high = (a ≡ code) × (b ≡ low)
BeginWith (a ∷ b ∷ c ∷ []) code low high = (a ≡ code) × (b ≡ low) × (c ≡ high)
BeginWith (a ∷ b ∷ c ∷ d ∷ rest) code low high = ⊥

-- what stands after them
parted :
    (bytes : List ℕ) (code low high : ℕ)
    → BeginWith bytes code low high
    → (after : List ℕ) × (bytes ++ after ≡ code ∷ low ∷ high ∷ [])
parted [] code low high h = (code ∷ low ∷ high ∷ [], refl)
parted (a ∷ []) code low high h = (low ∷ high ∷ [], ap (λ x. x ∷ low ∷ high ∷ []) h)
parted (a ∷ b ∷ []) code low high h =
    (high ∷ [], ap (λ x. x ∷ b ∷ high ∷ []) h.0 ∙ ap (λ x. code ∷ x ∷ high ∷ []) h.1)
parted (a ∷ b ∷ c ∷ []) code low high h =
    ([], ap (λ x. x ∷ b ∷ c ∷ []) h.0 ∙ (ap (λ x. code ∷ x ∷ c ∷ []) h.1 ∙ ap (λ x. code ∷ low ∷ x ∷ []) h.2))
parted (a ∷ b ∷ c ∷ d ∷ rest) code low high h = absurd h

-- bytes that begin with those of an instruction are read as that instruction
pub Reads-instruction :
    (i : Instr) (size code low high : ℕ)
    → length (bytes_of i) ≡ size
    → BeginWith (bytes_of i) code low high
    → Reads code low high (Some (i, size))
unfolding Reads
Reads-instruction i size code low high e h =
    let w = parted (bytes_of i) code low high h in
    ap (λ n. Some (i, n)) (sym e) ∙ (sym (read_back i w.0) ∙ ap first_instruction w.1)

-- a code that the test refuses is read as no instruction
pub Reads-none : (code low high : ℕ) → code < 256 → is_documented code ≡ false → Reads code low high None
unfolding Reads
Reads-none code low high small h =
    ap (λ form. instruction_of form low high)
    (sym ((Unknown-form_of code small).1 ((Contains-undocumented code).0 h)))

-- what three bytes are read as
pub first-read :
    (bytes : List ℕ) (result : Option (Instr × ℕ))
    → Reads (slice_index bytes 0) (slice_index bytes 1) (slice_index bytes 2) result
    → result ≡ first_instruction bytes
unfolding Reads
first-read bytes result h = h

is_some-instruction_of : (form : Form) (low high : ℕ) → is_some (instruction_of form low high) ≡ is_known form
is_some-instruction_of (One i) low high = refl
is_some-instruction_of (Two i) low high = refl
is_some-instruction_of (Three i) low high = refl
is_some-instruction_of Unknown low high = refl

-- just the twelve codes are read as no instruction
pub none-read :
    (code low high : ℕ) (result : Option (Instr × ℕ))
    → code < 256
    → Reads code low high result
    → IsNone result ↔ Contains undocumented code
unfolding Reads
none-read code low high result small h =
    let e = ap is_some h ∙ (is_some-instruction_of (form_of code) low high ∙ is_known-form_of code small) in
    let w = Contains-undocumented code in
    (λ k. w.0 (sym e ∙ k), λ k. e ∙ w.1 k)

pub ruleset reads = (Reads-instruction, Reads-none)

pub ruleset of_three_bytes = (first-read, none-read)
