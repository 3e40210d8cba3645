-- The last argument of a procedure: it is in its register, and goes to the word below the return address.
use Rattle.procedure_laws.proofs.Prelude.{◌≡◌, ℕ, suc, ◌+◌, ◌-◌, ◌*◌, ◌/◌, ◌%◌, ◌<◌, ◌≤◌, ◌⊎◌, inl, inr, List, [], ◌∷◌, length, zip, slice_get, Some, None, refl, ap, subst, ◌∙◌, arith, MEMORY_SIZE, byte_at, Event, ScalarType, Byte, Address, AreParameters, IsParameter, Home, TypedModule, Push, Psw, StackHl, act, flag_byte, HoldBytes, Registers, word, wrap, pushed, pushed_is_pushed, push_does, Parameter, at_place, no_facts, plain, last_argument_facts, last_argument_steps, pair_of, with_argument, ArgumentsLie, InRegister, InWord}
use Rattle.isa8080.proofs.FlagBytes.{flag_byte_small}
use Rattle.procedure_laws.proofs.CallInstructions.{word_kept}
use Rattle.procedure_laws.proofs.Frames.FramesSet.{LieInWords}
use Rattle.procedure_laws.proofs.Numbers.{two_less_one}

-- the steps of the last argument, and what is known of it, by the last parameter
pub steps_of_last :
    (parameters : List Parameter) (last : Parameter)
    → slice_get parameters (length parameters - 1) ≡ Some last
    → last_argument_steps parameters ≡ plain (Push (pair_of last.scalar)) ∷ []
unfolding last_argument_steps
steps_of_last parameters last same = rw (same, last_argument_steps) refl

pub steps_of_none :
    (parameters : List Parameter)
    → slice_get parameters (length parameters - 1) ≡ None
    → last_argument_steps parameters ≡ []
unfolding last_argument_steps
steps_of_none parameters same = rw (same, last_argument_steps) refl

pub facts_of_last :
    (parameters : List Parameter) (last : Parameter)
    → slice_get parameters (length parameters - 1) ≡ Some last
    → last_argument_facts parameters ≡ with_argument no_facts last
unfolding last_argument_facts
facts_of_last parameters last same = rw (same, last_argument_facts) refl

pub facts_of_none :
    (parameters : List Parameter)
    → slice_get parameters (length parameters - 1) ≡ None
    → last_argument_facts parameters ≡ no_facts
unfolding last_argument_facts
facts_of_none parameters same = rw (same, last_argument_facts) refl

-- what is pushed of a value of a type
abbrev pub pushed_word : ScalarType → Registers → ℕ
pushed_word Byte r = word r.a (flag_byte r.flags)
pushed_word Address r = word r.h r.l

pub pushed_word_small : (scalar : ScalarType) (r : Registers) → HoldBytes r
    → pushed_word scalar r < MEMORY_SIZE
pushed_word_small Byte r bytes =
    let a = bytes.a in
    let f = flag_byte_small r.flags in
    omega (arith, a, f)
pushed_word_small Address r bytes =
    let h = bytes.h in
    let l = bytes.l in
    omega (arith, h, l)

-- PUSH of a value of a type
pub last_pushed :
    (script : List (List ℕ)) (scalar : ScalarType) (place top : ℕ) (r : Registers) (memory : List ℕ)
    (events : List Event)
    → r.sp ≡ wrap top
    → top ≤ MEMORY_SIZE
    → 2 ≤ top
    → act script (Push (pair_of scalar)) (at_place place r memory events)
    ≡ at_place place (record r { sp = wrap (top - 2) }) (pushed top (pushed_word scalar r) memory) events
last_pushed script Byte place top r memory events pointer limit room =
    push_does script Psw place top r memory events pointer limit room
last_pushed script Address place top r memory events pointer limit room =
    push_does script StackHl place top r memory events pointer limit room

high_of : (a f value : ℕ) → f < 256 → a ≡ value → word a f / 256 ≡ value
high_of a f value small is = omega (arith, small, is)

low_of : (h l value : ℕ) → l < 256 → l ≡ value % 256 → word h l % 256 ≡ value % 256
low_of h l value small is = omega (arith, small, is)

-- then it lies in its word
pub last_in_word :
    (scalar : ScalarType) (value top : ℕ) (r : Registers) (memory : List ℕ)
    → 2 ≤ top
    → top ≤ MEMORY_SIZE
    → length memory ≡ MEMORY_SIZE
    → HoldBytes r
    → InRegister scalar value r
    → InWord scalar value (pushed top (pushed_word scalar r) memory) (top - 2)
last_in_word Byte value top r memory room limit size bytes is =
    ap (byte_at (pushed top (pushed_word Byte r) memory)) (two_less_one top room)
    ∙ (pushed_is_pushed top (pushed_word Byte r) memory room limit size).high
    ∙ high_of r.a (flag_byte r.flags) value (flag_byte_small r.flags) is
last_in_word Address value top r memory room limit size bytes is = (
  (pushed_is_pushed top (pushed_word Address r) memory room limit size).low
      ∙ low_of r.h r.l value bytes.l is.1,
  ap (byte_at (pushed top (pushed_word Address r) memory)) (two_less_one top room)
      ∙ (pushed_is_pushed top (pushed_word Address r) memory room limit size).high
      ∙ high_of r.h r.l (value / 256) bytes.l is.0,
)

-- The last one of parameters and arguments; and all arguments lie in their words where that one does, and the
-- others are where they were.
pub record LastIs
    (typed : TypedModule) (home : Home) (scalars : List ScalarType) (parameters values : List ℕ) (top : ℕ)
    (r : Registers) (memory : List ℕ) : Type 0 where
  pub scalar : ScalarType
  pub parameter : ℕ
  pub value : ℕ
  pub pair : slice_get (zip scalars parameters) (length scalars - 1) ≡ Some (scalar, parameter)
  pub stands : slice_get parameters (length scalars - 1) ≡ Some parameter
  pub object : IsParameter typed home scalar parameter
  pub in_register : InRegister scalar value r
  pub some : 1 ≤ length scalars
  pub words : (level bytes : ℕ) (ended : List ℕ)
      → level + bytes + 4 ≡ top
      → InWord scalar value ended (level + bytes)
      → ((address : ℕ) → top ≤ address → byte_at ended address ≡ byte_at memory address)
      → LieInWords level bytes scalars values ended

pub record NoneAre (scalars : List ScalarType) (parameters values : List ℕ) : Type 0 where
  pub types : scalars ≡ []
  pub parameters_are : parameters ≡ []
  pub values_are : values ≡ []

last_place : (count : ℕ) → suc (suc count) - 1 ≡ suc (suc count - 1)
last_place count = omega arith

only_place : 1 - 1 ≡ 0
only_place = omega arith

word_place : (level bytes top count : ℕ) → level + bytes + 4 ≡ top
    → top + 2 * count ≡ level + (bytes + 4 + 2 * count)
word_place level bytes top count same = omega (arith, same)

one_more :
    {typed : TypedModule} {home : Home} {scalars : List ScalarType} {parameters values : List ℕ} {top : ℕ}
    {r : Registers} {memory : List ℕ} {next : ScalarType} (scalar : ScalarType) (parameter value : ℕ)
    → InWord scalar value memory (top + 2 * length scalars)
    → LastIs typed home (next ∷ scalars) parameters values top r memory
    → LastIs typed home (scalar ∷ next ∷ scalars) (parameter ∷ parameters) (value ∷ values) top r memory
one_more {scalars = scalars} {parameters = parameters} {values = values} {top = top} {memory = memory}
    {next = next} scalar parameter value lie last = record {
      scalar = last.scalar;
      parameter = last.parameter;
      value = last.value;
      pair =
          ap (λ (place : ℕ). slice_get (zip (scalar ∷ next ∷ scalars) (parameter ∷ parameters)) place)
          (last_place (length scalars))
          ∙ last.pair;
      stands =
          ap (λ (place : ℕ). slice_get (parameter ∷ parameters) place) (last_place (length scalars))
          ∙ last.stands;
      object = last.object;
      in_register = last.in_register;
      some = omega arith;
      words = λ level bytes ended same in_word stays. (
        subst (λ (address : ℕ). InWord scalar value ended address)
            (word_place level bytes top (length scalars) same)
            (word_kept scalar value (top + 2 * length scalars) memory ended
            (stays (top + 2 * length scalars) (omega arith))
            (stays (top + 2 * length scalars + 1) (omega arith)) lie),
        last.words level bytes ended same in_word stays,
      );
    }

pub last_is :
    (typed : TypedModule) (home : Home) (scalars : List ScalarType) (parameters values : List ℕ) (top : ℕ)
    (r : Registers) (memory : List ℕ)
    → AreParameters typed home scalars parameters
    → ArgumentsLie scalars values top r memory
    → NoneAre scalars parameters values ⊎ LastIs typed home scalars parameters values top r memory
last_is typed home [] (parameter ∷ parameters) values top r memory are lie = absurd are
last_is typed home [] [] (value ∷ values) top r memory are lie = absurd lie
last_is typed home [] [] [] top r memory are lie =
    inl (record { types = refl; parameters_are = refl; values_are = refl })
last_is typed home (scalar ∷ scalars) [] values top r memory are lie = absurd are
last_is typed home (scalar ∷ []) (parameter ∷ []) [] top r memory are lie = absurd lie
last_is typed home (scalar ∷ []) (parameter ∷ []) (value ∷ next ∷ values) top r memory are lie = absurd lie
last_is typed home (scalar ∷ []) (parameter ∷ next ∷ parameters) values top r memory are lie = absurd are.1
last_is typed home (scalar ∷ []) (parameter ∷ []) (value ∷ []) top r memory are lie =
    inr (record {
      scalar = scalar;
      parameter = parameter;
      value = value;
      pair = ap (λ (place : ℕ). slice_get ((scalar, parameter) ∷ []) place) only_place;
      stands = ap (λ (place : ℕ). slice_get (parameter ∷ []) place) only_place;
      object = are.0;
      in_register = lie;
      some = omega arith;
      words = λ level bytes ended same in_word stays. (in_word, tt);
    })
last_is typed home (scalar ∷ next ∷ scalars) (parameter ∷ []) values top r memory are lie = absurd are.1
last_is typed home (scalar ∷ next ∷ scalars) (parameter ∷ second ∷ parameters) [] top r memory are lie =
    absurd lie
last_is typed home (scalar ∷ next ∷ scalars) (parameter ∷ second ∷ parameters) (value ∷ values)
    top r memory are lie =
    by_rest (last_is typed home (next ∷ scalars) (second ∷ parameters) values top r memory are.1 lie.1)
  where
    by_rest : NoneAre (next ∷ scalars) (second ∷ parameters) values
        ⊎ LastIs typed home (next ∷ scalars) (second ∷ parameters) values top r memory
        → NoneAre (scalar ∷ next ∷ scalars) (parameter ∷ second ∷ parameters) (value ∷ values)
        ⊎ LastIs typed home (scalar ∷ next ∷ scalars) (parameter ∷ second ∷ parameters)
        (value ∷ values) top r memory
    by_rest (inl none) = let types = none.types in let bad : ⊥ = cc in absurd bad
    by_rest (inr last) = inr (one_more scalar parameter value lie.0 last)
