-- The bytes that MOVE copies: the source goes outside, or all of them are declared, and those that it writes
-- variables.
use Rattle.statement_laws.proofs.Prelude.{◌≡◌, ℕ, zero, suc, ◌+◌, ◌<◌, Bool, true, false, if◌then◌else◌, List, slice_set, refl, ap, subst, ◌∙◌, arith, byte_at, byte_small, Reason, UndeclaredByte, Constant, is_constant, is_declared, moved, Program, SourceState, Outside, Outcome, Gave, Stopped, then_do, Registers, wrap, copied, Activation, IsReady, IsVariable, LiesWell, ready_with_variable, one_moved, wrapped_small}

-- all bytes of a block are declared
abbrev pub AreDeclared : Program → (count source : ℕ) → Type 0
AreDeclared program zero source = Unit {0}
AreDeclared program (suc count) source =
    (is_declared program (wrap source) ≡ true) × AreDeclared program count (source + 1)

-- and variables
abbrev pub AreVariables : Program → (count destination : ℕ) → Type 0
AreVariables program zero destination = Unit {0}
AreVariables program (suc count) destination =
    IsVariable program (wrap destination) × AreVariables program count (destination + 1)

-- what MOVE does
pub data Moved (program : Program) (count source destination : ℕ) (s : SourceState) : Type 0 where
  MovesOutside : (reason : Reason) (t : SourceState)
      → moved program count source destination s ≡ Stopped (Outside reason) t
      → Moved program count source destination s
  MovesAll :
      moved program count source destination s
      ≡ Gave tt (record s { memory = copied count source destination s.memory })
      → AreDeclared program count source
      → AreVariables program count destination
      → Moved program count source destination s

-- the first byte, and then the others
one_more :
    (program : Program) (count source destination : ℕ) (s : SourceState)
    → is_declared program (wrap source) ≡ true
    → IsVariable program (wrap destination)
    → moved program (suc count) source destination s
    ≡ moved program count (source + 1) (destination + 1)
    (record s { memory = slice_set s.memory (wrap destination) (byte_at s.memory (wrap source)) })
one_more program count source destination s declared variable =
    ap (λ (test : Bool). outcome test (is_declared program (wrap destination))
    (is_constant program (wrap destination))) declared
    ∙ ap (λ (test : Bool). outcome true test (is_constant program (wrap destination))) variable.0
    ∙ ap (λ (test : Bool). outcome true true test) variable.1
  where
    outcome : (one two three : Bool) → Outcome (Unit {0})
    outcome one two three =
        then_do (if one then Gave (byte_at s.memory (wrap source)) s else Stopped (Outside UndeclaredByte) s)
        (λ byte t.
        then_do
        (if two then (if three then Stopped (Outside Constant) t
        else Gave (tt {0}) (record t { memory = slice_set t.memory (wrap destination) byte }))
        else Stopped (Outside UndeclaredByte) t)
        (λ _ u. moved program count (source + 1) (destination + 1) u))

pub moved_is :
    (program : Program) (count source destination : ℕ) (s : SourceState)
    → Moved program count source destination s
moved_is program zero source destination s = MovesAll refl tt tt
moved_is program (suc count) source destination s =
    by (is_declared program (wrap source)) (is_declared program (wrap destination))
    (is_constant program (wrap destination))
    refl refl refl
    (moved_is program count (source + 1) (destination + 1)
    (record s { memory = slice_set s.memory (wrap destination) (byte_at s.memory (wrap source)) }))
  where
    outcome : (one two three : Bool) → Outcome (Unit {0})
    outcome one two three =
        then_do (if one then Gave (byte_at s.memory (wrap source)) s else Stopped (Outside UndeclaredByte) s)
        (λ byte t.
        then_do
        (if two then (if three then Stopped (Outside Constant) t
        else Gave (tt {0}) (record t { memory = slice_set t.memory (wrap destination) byte }))
        else Stopped (Outside UndeclaredByte) t)
        (λ _ u. moved program count (source + 1) (destination + 1) u))

    by : (one two three : Bool)
        → is_declared program (wrap source) ≡ one
        → is_declared program (wrap destination) ≡ two
        → is_constant program (wrap destination) ≡ three
        → Moved program count (source + 1) (destination + 1)
        (record s { memory = slice_set s.memory (wrap destination) (byte_at s.memory (wrap source)) })
        → Moved program (suc count) source destination s
    by false two three one_is two_is three_is others =
        MovesOutside UndeclaredByte s
        (ap (λ (test : Bool). outcome test (is_declared program (wrap destination))
        (is_constant program (wrap destination))) one_is)
    by true false three one_is two_is three_is others =
        MovesOutside UndeclaredByte s
        (ap (λ (test : Bool). outcome test (is_declared program (wrap destination))
        (is_constant program (wrap destination))) one_is
        ∙ ap (λ (test : Bool). outcome true test (is_constant program (wrap destination))) two_is)
    by true true true one_is two_is three_is others =
        MovesOutside Constant s
        (ap (λ (test : Bool). outcome test (is_declared program (wrap destination))
        (is_constant program (wrap destination))) one_is
        ∙ ap (λ (test : Bool). outcome true test (is_constant program (wrap destination))) two_is
        ∙ ap (λ (test : Bool). outcome true true test) three_is)
    by true true false one_is two_is three_is (MovesOutside reason t same) =
        MovesOutside reason t (one_more program count source destination s one_is (two_is, three_is) ∙ same)
    by true true false one_is two_is three_is (MovesAll same declared variables) =
        MovesAll (one_more program count source destination s one_is (two_is, three_is) ∙ same)
        (one_is, declared) ((two_is, three_is), variables)

-- an activation stays ready while both copy
pub copied_ready :
    (activation : Activation) (top : ℕ) (base : List ℕ) (frame : List (List ℕ)) (r : Registers)
    (count from to : ℕ) (source memory : List ℕ)
    → LiesWell activation
    → AreDeclared activation.around.program count from
    → AreVariables activation.around.program count to
    → IsReady activation top base source frame r memory
    → IsReady activation top base (copied count from to source) frame r (copied count from to memory)
copied_ready activation top base frame r zero from to source memory lies declared variables ready = ready
copied_ready activation top base frame r (suc count) from to source memory lies declared variables ready =
    let byte : ℕ = byte_at memory (wrap from) in
    let same : byte ≡ byte_at source (wrap from) = ready.shares.declared (wrap from) declared.0 in
    copied_ready activation top base frame r count (from + 1) (to + 1)
    (slice_set source (wrap to) (byte_at source (wrap from))) (slice_set memory (wrap to) byte) lies
    declared.1 variables.1
    (subst (λ (value : ℕ). IsReady activation top base (slice_set source (wrap to) value) frame r
    (slice_set memory (wrap to) byte)) same
    (ready_with_variable activation top base source frame r memory (wrap to) byte lies
    variables.0 (wrapped_small to)
    (byte_small memory (wrap from) ready.shares.is_memory) ready))

-- a byte of a block is one of these
pub declared_in_block :
    (program : Program) (count source k : ℕ) → k < count → AreDeclared program count source
    → is_declared program (wrap (source + k)) ≡ true
declared_in_block program zero source k less declared = absurd (omega (arith, less))
declared_in_block program (suc count) source zero less declared =
    subst (λ (n : ℕ). is_declared program (wrap n) ≡ true) (omega arith) declared.0
declared_in_block program (suc count) source (suc k) less declared =
    subst (λ (n : ℕ). is_declared program (wrap n) ≡ true) (one_moved source k)
    (declared_in_block program count (source + 1) k (omega (arith, less)) declared.1)

pub variable_in_block :
    (program : Program) (count destination k : ℕ) → k < count → AreVariables program count destination
    → IsVariable program (wrap (destination + k))
variable_in_block program zero destination k less variables = absurd (omega (arith, less))
variable_in_block program (suc count) destination zero less variables =
    subst (λ (n : ℕ). IsVariable program (wrap n)) (omega arith) variables.0
variable_in_block program (suc count) destination (suc k) less variables =
    subst (λ (n : ℕ). IsVariable program (wrap n)) (one_moved destination k)
    (variable_in_block program count (destination + 1) k (omega (arith, less)) variables.1)
