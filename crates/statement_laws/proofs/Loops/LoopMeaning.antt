-- What a turn of an iterative DO means, where the machine has its variable.
use Rattle.statement_laws.proofs.Prelude.{◌≡◌, ℕ, ◌+◌, ◌*◌, ◌<◌, ◌≤◌, Bool, true, false, nat_lt, if◌then◌else◌, List, refl, sym, ap, subst, ◌∙◌, arith, ltb-true, ltb-false, byte_at, byte_small, ScalarType, Byte, Address, read_scalar, write_scalar, next_turn, step_value, value, SourceState, Outcome, Gave, then_do, taking_one, Flow, Onward, as_type, values_of, Registers, State, wrap, Does, Activation, IsReady, IsSteady, Context, IsSound, byte_read, word_read, loaded_in, BodyContext, IsSoundBody, two_bytes_fit}
use Rattle.statement_laws.proofs.Loops.CountedVariables.{IsCounted, variable_address, variable_place}
use Rattle.statement_laws.proofs.Loops.LoopTurns.{Loop, Out, after_list, from_list, from_test, next_is}

-- the value of a type at an address
abbrev pub scalar_at : ScalarType → (memory : List ℕ) → (address : ℕ) → ℕ
scalar_at Byte memory address = byte_at memory address
scalar_at Address memory address = byte_at memory address + 256 * byte_at memory (wrap (address + 1))

-- its bytes are steady
abbrev pub IsSteadyScalar : Activation → ScalarType → (address : ℕ) → Type 0
IsSteadyScalar activation Byte address = IsSteady activation address
IsSteadyScalar activation Address address =
    IsSteady activation address × IsSteady activation (wrap (address + 1))

-- it is of the type
pub scalar_small : (scalar : ScalarType) (memory : List ℕ) (address : ℕ)
    → Rattle.mem80.specs.Memory.IsMemory memory → scalar_at scalar memory address < values_of scalar
scalar_small Byte memory address is = byte_small memory address is
scalar_small Address memory address is =
    two_bytes_fit (byte_at memory address) (byte_at memory (wrap (address + 1)))
    (byte_small memory address is)
    (byte_small memory (wrap (address + 1)) is)

-- the variable is read
pub counted_read :
    {A : Type 0} {budget more : ℕ} {from : State} {Good : A → SourceState → State → Type 0}
    {context : Context} {top : ℕ} {base memory : List ℕ} {r : Registers} {variable : ℕ} (scalar : ScalarType)
    (s : SourceState) (go : ℕ → SourceState → Outcome A)
    → IsSound context
    → IsCounted context variable scalar
    → IsReady context.activation top base s.memory s.frame r memory
    → (IsSteadyScalar context.activation scalar (variable_address context variable)
    → Does (loaded_in context) budget more from
    (go (scalar_at scalar memory (variable_address context variable)) s) Good)
    → Does (loaded_in context) budget more from
    (then_do (read_scalar context.activation.around.program scalar (variable_place context variable) s) go)
    Good
counted_read {context = context} {variable = variable} Byte s go sound counted ready does =
    byte_read (variable_place context variable) s go sound ready counted.fits does
counted_read {context = context} {variable = variable} Address s go sound counted ready does =
    word_read (variable_place context variable) s go sound ready counted.fits (λ low high. does (low, high))

-- the test of a turn, where its last value is known
pub tested :
    {at : BodyContext} {budget : ℕ} {from : State} {top : ℕ} {base memory : List ℕ} {r : Registers}
    (loop : Loop at) (scalar : ScalarType) (last : ℕ) (t : SourceState)
    → IsSoundBody at
    → (loop.head).scalar ≡ scalar
    → value at.context.later at.context.activation.around (loop.head).last t ≡ Gave last t
    → IsCounted at.context (loop.head).variable scalar
    → IsReady at.context.activation top base t.memory t.frame r memory
    → (nat_lt last (scalar_at scalar memory (variable_address at.context (loop.head).variable)) ≡ true
    → IsSteadyScalar at.context.activation scalar (variable_address at.context (loop.head).variable)
    → Does (loaded_in at.context) budget 0 from (Gave Onward t) (Out loop))
    → (nat_lt last (scalar_at scalar memory (variable_address at.context (loop.head).variable)) ≡ false
    → IsSteadyScalar at.context.activation scalar (variable_address at.context (loop.head).variable)
    → Does (loaded_in at.context) budget 0 from (taking_one t (from_list loop)) (Out loop))
    → Does (loaded_in at.context) budget 0 from (from_test loop t) (Out loop)
tested {at = at} {budget = budget} {from = from} {memory = memory} loop scalar last t sound same is
    counted ready ends goes =
    subst (λ (one : Outcome ℕ). Does (loaded_in at.context) budget 0 from
    (then_do one
    (λ last u. then_do (read_scalar at.context.activation.around.program (loop.head).scalar
    (variable_place at.context (loop.head).variable) u)
    (λ number v. if nat_lt last number then Gave Onward v else taking_one v (from_list loop))))
    (Out loop)) (sym is)
    (subst (λ (scalar : ScalarType). Does (loaded_in at.context) budget 0 from
    (then_do (read_scalar at.context.activation.around.program scalar
    (variable_place at.context (loop.head).variable) t)
    (λ number v. if nat_lt last number then Gave Onward v else taking_one v (from_list loop)))
    (Out loop)) (sym same)
    (counted_read scalar t (λ number v. if nat_lt last number then Gave Onward
    v else taking_one v (from_list loop))
    sound.sound counted ready
    (λ steady. by (nat_lt last number) refl steady)))
  where
    number : ℕ
    number = scalar_at scalar memory (variable_address at.context (loop.head).variable)

    by : (above : Bool) → nat_lt last number ≡ above
        → IsSteadyScalar at.context.activation scalar (variable_address at.context (loop.head).variable)
        → Does (loaded_in at.context) budget 0 from
        (if above then Gave Onward t else taking_one t (from_list loop)) (Out loop)
    by true is steady = ends is steady
    by false is steady = goes is steady

-- what follows where the step is there: the variable is read, and changed
abbrev pub stepped_with : {at : BodyContext} → Loop at → ScalarType → (step : ℕ) → SourceState → Outcome Flow
stepped_with {at = at} loop scalar step t =
    then_do (read_scalar at.context.activation.around.program scalar
    (variable_place at.context (loop.head).variable) t)
    (λ number v. then_do
    (write_scalar at.context.activation.around.program scalar (variable_place at.context (loop.head).variable)
    (as_type scalar (number + step)) v)
    (λ _ w. next_turn at.context.later at.context.activation.around loop.head loop.list (number + step) w))

pub stepped_with_is :
    {at : BodyContext} (loop : Loop at) (scalar : ScalarType) (t : SourceState)
    → (loop.head).scalar ≡ scalar
    → after_list loop Onward t
    ≡ then_do (step_value at.context.later at.context.activation.around (loop.head).step t)
    (stepped_with loop scalar)
stepped_with_is {at = at} loop scalar t same =
    ap (λ (scalar : ScalarType). then_do
    (step_value at.context.later at.context.activation.around (loop.head).step t)
    (stepped_with loop scalar)) same

-- what follows a list whose end is reached, where the step is known
pub stepped_by :
    {at : BodyContext} {budget : ℕ} {from : State} {top : ℕ} {base memory : List ℕ} {r : Registers}
    (loop : Loop at) (scalar : ScalarType) (step : ℕ) (t : SourceState)
    → IsSoundBody at
    → IsCounted at.context (loop.head).variable scalar
    → IsReady at.context.activation top base t.memory t.frame r memory
    → (IsSteadyScalar at.context.activation scalar (variable_address at.context (loop.head).variable)
    → Does (loaded_in at.context) budget 0 from
    (then_do
    (write_scalar at.context.activation.around.program scalar (variable_place at.context (loop.head).variable)
    (as_type scalar (scalar_at scalar memory (variable_address at.context (loop.head).variable) + step)) t)
    (λ _ v. next_turn at.context.later at.context.activation.around loop.head loop.list
    (scalar_at scalar memory (variable_address at.context (loop.head).variable) + step) v)) (Out loop))
    → Does (loaded_in at.context) budget 0 from (stepped_with loop scalar step t) (Out loop)
stepped_by {at = at} loop scalar step t sound counted ready does =
    counted_read scalar t
    (λ number v. then_do
    (write_scalar at.context.activation.around.program scalar (variable_place at.context (loop.head).variable)
    (as_type scalar (number + step)) v)
    (λ _ w. next_turn at.context.later at.context.activation.around loop.head loop.list (number + step) w))
    sound.sound counted ready does

-- where the sum is of the type, the next turn begins at its test
pub next_tests :
    {at : BodyContext} {budget : ℕ} {from : State} (loop : Loop at) (scalar : ScalarType)
    (sum : ℕ) (t : SourceState)
    → IsSoundBody at
    → (loop.head).scalar ≡ scalar
    → t.budget < loop.budget
    → (sum < values_of scalar → Does (loaded_in at.context) budget 0 from (from_test loop t) (Out loop))
    → (values_of scalar ≤ sum → Does (loaded_in at.context) budget 0 from (Gave Onward t) (Out loop))
    → Does (loaded_in at.context) budget 0 from
    (next_turn at.context.later at.context.activation.around loop.head loop.list sum t) (Out loop)
next_tests {at = at} {budget = budget} {from = from} loop scalar sum t sound same less goes ends =
    subst (λ (one : Outcome Flow). Does (loaded_in at.context) budget 0 from one (Out loop))
    (sym (next_is loop sum t sound less
    ∙ ap (λ (scalar : ScalarType). if nat_lt sum (values_of scalar) then from_test loop t else Gave Onward t)
    same))
    (by (nat_lt sum (values_of scalar)) refl)
  where
    by : (is_of_type : Bool) → nat_lt sum (values_of scalar) ≡ is_of_type
        → Does (loaded_in at.context) budget 0 from
        (if is_of_type then from_test loop t else Gave Onward t) (Out loop)
    by true is = goes (ltb-true sum (values_of scalar) is)
    by false is = ends (ltb-false sum (values_of scalar) is)

-- Where the last value is known and the variable has the sum: a further turn, where the sum is not above it,
pub turns_again :
    {at : BodyContext} {budget : ℕ} {from : State} {top : ℕ} {base memory : List ℕ} {r : Registers}
    (loop : Loop at) (scalar : ScalarType) (last sum : ℕ) (t : SourceState)
    → IsSoundBody at
    → (loop.head).scalar ≡ scalar
    → value at.context.later at.context.activation.around (loop.head).last t ≡ Gave last t
    → IsCounted at.context (loop.head).variable scalar
    → IsReady at.context.activation top base t.memory t.frame r memory
    → t.budget < loop.budget
    → scalar_at scalar memory (variable_address at.context (loop.head).variable) ≡ as_type scalar sum
    → sum < values_of scalar
    → sum ≤ last
    → Does (loaded_in at.context) budget 0 from (taking_one t (from_list loop)) (Out loop)
    → Does (loaded_in at.context) budget 0 from
    (next_turn at.context.later at.context.activation.around loop.head loop.list sum t) (Out loop)
turns_again {at = at} {memory = memory} loop scalar last sum t sound same is counted ready less
    there small enough does =
    next_tests loop scalar sum t sound same less
    (λ of_type.
    tested loop scalar last t sound same is counted ready
    (λ above steady. absurd (over scalar
    (scalar_at scalar memory (variable_address at.context (loop.head).variable))
    (ltb-true last (scalar_at scalar memory (variable_address at.context (loop.head).variable)) above) there
    small))
    (λ fine steady. does))
    (λ past. absurd (omega (arith, past, small)))
  where
    over : (scalar : ScalarType) (number : ℕ) → last < number → number ≡ as_type scalar sum
        → sum < values_of scalar → ⊥
    over Byte number above is small = omega (arith, above, is, small, enough)
    over Address number above is small = omega (arith, above, is, small, enough)

-- and the end elsewhere
pub turns_end :
    {at : BodyContext} {budget : ℕ} {from : State} {top : ℕ} {base memory : List ℕ} {r : Registers}
    (loop : Loop at) (scalar : ScalarType) (last sum : ℕ) (t : SourceState)
    → IsSoundBody at
    → (loop.head).scalar ≡ scalar
    → value at.context.later at.context.activation.around (loop.head).last t ≡ Gave last t
    → IsCounted at.context (loop.head).variable scalar
    → IsReady at.context.activation top base t.memory t.frame r memory
    → t.budget < loop.budget
    → scalar_at scalar memory (variable_address at.context (loop.head).variable) ≡ as_type scalar sum
    → (sum < values_of scalar → last < sum)
    → Does (loaded_in at.context) budget 0 from (Gave Onward t) (Out loop)
    → Does (loaded_in at.context) budget 0 from
    (next_turn at.context.later at.context.activation.around loop.head loop.list sum t) (Out loop)
turns_end {at = at} {memory = memory} loop scalar last sum t sound same is counted ready
    less there past does =
    next_tests loop scalar sum t sound same less
    (λ of_type.
    tested loop scalar last t sound same is counted ready
    (λ above steady. does)
    (λ fine steady. absurd (over scalar
    (scalar_at scalar memory (variable_address at.context (loop.head).variable))
    (ltb-false last (scalar_at scalar memory (variable_address at.context (loop.head).variable)) fine) there
    of_type (past of_type))))
    (λ beyond. does)
  where
    over : (scalar : ScalarType) (number : ℕ) → number ≤ last → number ≡ as_type scalar sum
        → sum < values_of scalar → last < sum → ⊥
    over Byte number below is small more = omega (arith, below, is, small, more)
    over Address number below is small more = omega (arith, below, is, small, more)
