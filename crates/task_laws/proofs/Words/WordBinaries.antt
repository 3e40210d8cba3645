-- Products and differences in HL.
use Rattle.task_laws.proofs.Prelude.{◌≡◌, ℕ, ◌+◌, ◌-◌, ◌*◌, ◌%◌, ◌<◌, ◌≤◌, max, false, if◌then◌else◌, List, [], ◌∷◌, ◌++◌, Option, Some, None, is_some, refl, sym, ap, ◌∙◌, subst, arith, Address, height_of, type_of, TypedExpression, value, SourceState, Gave, then_do, Operation, Subtract, SubtractWithBorrow, Registers, ExpressionNumber, Place, Number, number_of_place, known_number, Nodes, keeps_at, keeps_none, keeps_of_binary, number_at, Does, loaded_of, at_place, Arrives, HasRoom, Facts, CallRoutine, part_of, plain, keeps, known, number_of, fits_byte, PairOrder, LeftInHl, RightInHl, addition_steps, pair_in_order_steps, product_steps, Operands, knowing, difference_steps, left_word, paired_steps, product_order, product_word_steps, taken_from_number_steps, with_word_steps, Context, IsSound, nodes_in, StepsStand, PartDoes, WordIsGiven, computed_product_steps}
use Rattle.trees.specs.declared.expression.BinaryOperator.TheVariants as operators
use Rattle.runtime8080.specs.declared.routine.Routine.TheVariants as routines
use Rattle.steps8080.specs.declared.step.Task.TheVariants as tasks
use Rattle.task_laws.proofs.Machine.RegisterCode.{AreOnRegisters}
use Rattle.exprgen8080.specs.internal.WordOperators.{with_pair_steps}
use Rattle.task_laws.proofs.Machine.Rules.{GoesOn}
use Rattle.task_laws.proofs.Machine.KnownOperands.{number_known, number_small}
use Rattle.task_laws.proofs.Machine.Values.{word_given}
use Rattle.task_laws.proofs.Words.Pairs.{IsOperand, same_rest}
use Rattle.task_laws.proofs.Words.PairedWords.{byte_instructions, difference_makes, paired_does}
use Rattle.task_laws.proofs.Words.WordSums.{TwoWords, added_does, first_known, kept_as, less_high, one_high, second_known, two_high}
use Rattle.task_laws.proofs.Words.WordForms.{difference_small, taken_does}
use Rattle.task_laws.proofs.Words.WordRoutines.{multiply_does, word_given_by}
use Rattle.task_laws.proofs.Places.Products.{product_then}
use Rattle.task_laws.proofs.Words.Multiples.{products_do}
use Rattle.steps8080.proofs.SiteTraits.{known_is}
use Rattle.task_laws.proofs.Numbers.{address_is_word, product_is_word}

-- a number at a site is that of its node
pub number_same :
    (context : Context) (facts : Facts) (of : ExpressionNumber)
    → number_of (knowing context.site facts) of ≡ number_at (nodes_in context) of
unfolding number_of
number_same context facts of =
    by (known (knowing context.site facts) of) ∙ ap known_number (known_is (knowing context.site facts) of)
  where
    by : (found : Option Place)
        → elim found [
          | Some place ↦ number_of_place place
          | None ↦ None
        ]
        ≡ known_number found
    by (Some place) = refl
    by None = refl

pub is_number_at : (context : Context) (facts : Facts) (of : ExpressionNumber) (found : Option ℕ)
    → number_of (knowing context.site facts) of ≡ found
    → number_at (nodes_in context) of ≡ found
is_number_at context facts of found same = sym (number_same context facts of) ∙ same

-- a value times a number
pub numbered_product_does :
    {context : Context} {pushed top need to : ℕ} {base : List ℕ} {facts last : Facts}
    {other : ExpressionNumber} {tree : TypedExpression} (n : ℕ) (number : ExpressionNumber) (from : ℕ)
    (s : SourceState) (r : Registers) (memory : List ℕ) (sound : IsSound context)
    → n < 65536
    → IsOperand context other tree
    → type_of tree ≡ Address
    → keeps context.site number ≡ keeps_at (nodes_in context) other
    → s.budget < context.number
    → HasRoom context.activation top pushed need
    → 2 * height_of tree ≤ need
    → StepsStand context (PartDoes context) facts from (product_steps other n pushed) last to
    → GoesOn context facts top base s.memory s.frame r memory
    → Does (loaded_of context.activation) s.budget 0 (at_place from r memory s.events)
    (then_do (value context.later context.activation.around tree s) (λ x t. Gave ((x * n) % 65536) t))
    (Arrives context.activation top base to (WordIsGiven context last number Address r memory))
numbered_product_does {context = context} {pushed = pushed} {to = to} {facts = facts} {last = last}
    {other = other} n number from s r memory sound small operand address kept less room height stand going =
    product_then from s r memory (products_do context sound facts last other n pushed from to small stand)
    operand.is operand.types address less room
    height going
    (λ x t now ended fewer going_on given.
    let bytes = going_on.ready.registers in
    word_given t (product_is_word x n)
    (word_given_by ((x * n) % 65536) now.h now.l bytes.h bytes.l given.hl now refl refl)
    (kept_as context number other r now kept (record { a = given.a; d = given.d; e = given.e })) going_on)

turned_product : (a b : ℕ) → (a * b) % 65536 ≡ (b * a) % 65536
turned_product a b = omega arith

module _ (nodes : Nodes) (left right : ExpressionNumber) where
  abbrev by_numbers : (one other : Option ℕ) → Rattle.treecode.specs.declared.traits.Keeps.Keeps
  by_numbers one other =
      if is_some one then keeps_at nodes left else if is_some other then keeps_at nodes right else keeps_none

  product_right : (n : ℕ) → number_at nodes right ≡ Some n
      → keeps_of_binary nodes operators.Multiply left right ≡ keeps_at nodes left
  product_right n is = ap (λ found. by_numbers found (number_at nodes left)) is

  product_left : (n : ℕ) → number_at nodes right ≡ None → number_at nodes left ≡ Some n
      → keeps_of_binary nodes operators.Multiply left right ≡ keeps_at nodes right
  product_left n none is =
      ap (λ found. by_numbers found (number_at nodes left)) none ∙ ap (λ found. by_numbers None found) is

  product_none : number_at nodes right ≡ None → number_at nodes left ≡ None
      → keeps_of_binary nodes operators.Multiply left right ≡ keeps_none
  product_none none also =
      ap (λ found. by_numbers found (number_at nodes left)) none ∙ ap (λ found. by_numbers None found) also

  difference_right : (n : ℕ) → number_at nodes right ≡ Some n
      → keeps_of_binary nodes operators.Subtract left right ≡ keeps_at nodes left
  difference_right n is = ap (λ found. if is_some found then keeps_at nodes left else keeps_none) is

  difference_none : number_at nodes right ≡ None
      → keeps_of_binary nodes operators.Subtract left right ≡ keeps_none
  difference_none none = ap (λ found. if is_some found then keeps_at nodes left else keeps_none) none

-- a product
pub product_does :
    {context : Context} {pushed top need to : ℕ} {base : List ℕ} {facts last : Facts}
    {first second : TypedExpression} (operands : Operands) (number : ExpressionNumber)
    (from : ℕ) (s : SourceState)
    (r : Registers) (memory : List ℕ) (sound : IsSound context)
    → TwoWords context operands first second
    → keeps context.site number ≡ keeps_of_binary (nodes_in context) operators.Multiply
    operands.left operands.right
    → s.budget < context.number
    → HasRoom context.activation top pushed need
    → 2 * (1 + max (height_of first) (height_of second)) ≤ need
    → StepsStand context (PartDoes context) facts from
    (product_word_steps (knowing context.site facts) operands pushed) last to
    → GoesOn context facts top base s.memory s.frame r memory
    → Does (loaded_of context.activation) s.budget 0 (at_place from r memory s.events)
    (then_do (value context.later context.activation.around first s)
    (λ x t. then_do (value context.later context.activation.around second t)
    (λ y u. Gave ((x * y) % 65536) u)))
    (Arrives context.activation top base to (WordIsGiven context last number Address r memory))
unfolding product_word_steps computed_product_steps
product_does {context = context} {pushed = pushed} {top = top} {need = need} {to = to} {base = base}
    {facts = facts} {last = last} {first = first} {second = second} operands number from s r memory sound
    words kept less room height stand going =
    by_right (number_of (knowing context.site facts) operands.right) refl stand
  where
    by_left : (found : Option ℕ) → number_of (knowing context.site facts) operands.left ≡ found
        → number_of (knowing context.site facts) operands.right ≡ None
        → StepsStand context (PartDoes context) facts from (elim found [
          | Some n ↦ product_steps operands.right n pushed
          | None ↦
              pair_in_order_steps (knowing context.site facts) operands.left operands.right
              (product_order (fits_byte (knowing context.site facts) operands.left)
              (fits_byte (knowing context.site facts) operands.right)) pushed
              ++ (CallRoutine routines.Multiply ∷ [])
        ]) last to
        → Does (loaded_of context.activation) s.budget 0 (at_place from r memory s.events)
        (then_do (value context.later context.activation.around first s)
        (λ x t. then_do (value context.later context.activation.around second t)
        (λ y u. Gave ((x * y) % 65536) u)))
        (Arrives context.activation top base to (WordIsGiven context last number Address r memory))
    by_left (Some n) is none stand =
        subst (λ outcome. Does (loaded_of context.activation) s.budget 0
        (at_place from r memory s.events) outcome
        (Arrives context.activation top base to (WordIsGiven context last number Address r memory)))
        (sym (first_known second facts (Number n) (λ x y u. Gave ((x * y) % 65536) u) s sound words.one
        (number_known context facts operands.left n is)
        ∙ same_rest (value context.later context.activation.around second s)
        (λ y u. Gave ((n * y) % 65536) u) (λ y u. Gave ((y * n) % 65536) u)
        (λ y u. ap (λ m. Gave m u) (turned_product n y))))
        (numbered_product_does n number from s r memory sound
        (address_is_word n (type_of first) words.one_is
        (number_small facts n sound words.one.is words.one.types is))
        words.two words.two_is
        (kept ∙ product_left (nodes_in context) operands.left operands.right n
        (is_number_at context facts operands.right None none)
        (is_number_at context facts operands.left (Some n) is))
        less room (less_high (height_of first) (height_of second) need height) stand going)
    by_left None is none stand =
        multiply_does number _ from s r memory sound words.one words.two
        (kept ∙ product_none (nodes_in context) operands.left operands.right
        (is_number_at context facts operands.right None none)
        (is_number_at context facts operands.left None is))
        less room (one_high (height_of first) (height_of second) need height)
        (two_high (height_of first) (height_of second) need height) stand going

    by_right : (found : Option ℕ) → number_of (knowing context.site facts) operands.right ≡ found
        → StepsStand context (PartDoes context) facts from (elim found [
          | Some n ↦ product_steps operands.left n pushed
          | None ↦ elim (number_of (knowing context.site facts) operands.left) [
            | Some n ↦ product_steps operands.right n pushed
            | None ↦
                pair_in_order_steps (knowing context.site facts) operands.left operands.right
                (product_order (fits_byte (knowing context.site facts) operands.left)
                (fits_byte (knowing context.site facts) operands.right)) pushed
                ++ (CallRoutine routines.Multiply ∷ [])
          ]
        ]) last to
        → Does (loaded_of context.activation) s.budget 0 (at_place from r memory s.events)
        (then_do (value context.later context.activation.around first s)
        (λ x t. then_do (value context.later context.activation.around second t)
        (λ y u. Gave ((x * y) % 65536) u)))
        (Arrives context.activation top base to (WordIsGiven context last number Address r memory))
    by_right (Some n) is stand =
        subst (λ outcome. Does (loaded_of context.activation) s.budget 0
        (at_place from r memory s.events) outcome
        (Arrives context.activation top base to (WordIsGiven context last number Address r memory)))
        (sym (second_known first facts (Number n) (λ x y u. Gave ((x * y) % 65536) u) s sound words.two
        (number_known context facts operands.right n is)))
        (numbered_product_does n number from s r memory sound
        (address_is_word n (type_of second) words.two_is
        (number_small facts n sound words.two.is words.two.types is))
        words.one words.one_is
        (kept ∙ product_right (nodes_in context) operands.left operands.right n
        (is_number_at context facts operands.right (Some n) is))
        less room (one_high (height_of first) (height_of second) need height) stand going)
    by_right None is stand = by_left (number_of (knowing context.site facts) operands.left) refl is stand

added_difference : (x n : ℕ) → n < 65536 → (x + (65536 - n) % 65536) % 65536 ≡ (x + (65536 - n)) % 65536
added_difference x n small = omega (arith, small)

lacking_small : (n : ℕ) → (65536 - n) % 65536 < 65536
lacking_small n = omega arith

pub pairs_same : (on_low on_high : Operation) (order : PairOrder)
    → with_pair_steps order on_low on_high ≡ plain (byte_instructions on_low on_high order)
unfolding with_pair_steps
pairs_same on_low on_high LeftInHl = refl
pairs_same on_low on_high RightInHl = refl

pub bytes_on : (on_low on_high : Operation) (order : PairOrder)
    → AreOnRegisters (byte_instructions on_low on_high order)
bytes_on on_low on_high LeftInHl = (tt, (tt, (tt, (tt, (tt, (tt, tt))))))
bytes_on on_low on_high RightInHl = (tt, (tt, (tt, (tt, (tt, (tt, tt))))))

-- the assumption about a difference with a word in memory on the left
abbrev pub LeftWordDoes : Context → Type 0
LeftWordDoes context =
    (facts last : Facts) (operands : Operands) (number : ExpressionNumber) (place : Place)
    (pushed top need from to : ℕ) (base : List ℕ) (s : SourceState) (r : Registers) (memory : List ℕ)
    (first second : TypedExpression)
    → TwoWords context operands first second
    → left_word (knowing context.site facts) operands ≡ Some place
    → keeps context.site number ≡ keeps_none
    → s.budget < context.number
    → HasRoom context.activation top pushed need
    → 2 * (1 + max (height_of first) (height_of second)) ≤ need
    → StepsStand context (PartDoes context) facts from
    (part_of (tasks.Word operands.right) pushed ∷ with_word_steps place Subtract SubtractWithBorrow) last to
    → GoesOn context facts top base s.memory s.frame r memory
    → Does (loaded_of context.activation) s.budget 0 (at_place from r memory s.events)
    (then_do (value context.later context.activation.around first s)
    (λ x t. then_do (value context.later context.activation.around second t)
    (λ y u. Gave ((x + (65536 - y)) % 65536) u)))
    (Arrives context.activation top base to (WordIsGiven context last number Address r memory))

abbrev DifferenceGiven :
    Context → (from : ℕ) → SourceState → Registers → (memory : List ℕ) → (first second : TypedExpression)
    → (last : Facts) → (number : ExpressionNumber) → (top : ℕ) → (base : List ℕ) → (to : ℕ) → Type 0
DifferenceGiven context from s r memory first second last number top base to =
    Does (loaded_of context.activation) s.budget 0 (at_place from r memory s.events)
    (then_do (value context.later context.activation.around first s)
    (λ x t. then_do (value context.later context.activation.around second t)
    (λ y u. Gave ((x + (65536 - y)) % 65536) u)))
    (Arrives context.activation top base to (WordIsGiven context last number Address r memory))

-- a difference
pub difference_does :
    {context : Context} {pushed top need to : ℕ} {base : List ℕ} {facts last : Facts}
    {first second : TypedExpression} (operands : Operands) (number : ExpressionNumber)
    (from : ℕ) (s : SourceState)
    (r : Registers) (memory : List ℕ) (sound : IsSound context)
    → LeftWordDoes context
    → TwoWords context operands first second
    → keeps context.site number ≡ keeps_of_binary (nodes_in context) operators.Subtract
    operands.left operands.right
    → s.budget < context.number
    → HasRoom context.activation top pushed need
    → 2 * (1 + max (height_of first) (height_of second)) ≤ need
    → StepsStand context (PartDoes context) facts from
    (difference_steps (knowing context.site facts) operands pushed) last to
    → GoesOn context facts top base s.memory s.frame r memory
    → Does (loaded_of context.activation) s.budget 0 (at_place from r memory s.events)
    (then_do (value context.later context.activation.around first s)
    (λ x t. then_do (value context.later context.activation.around second t)
    (λ y u. Gave ((x + (65536 - y)) % 65536) u)))
    (Arrives context.activation top base to (WordIsGiven context last number Address r memory))
unfolding difference_steps paired_steps
difference_does {context = context} {pushed = pushed} {top = top} {need = need} {to = to} {base = base}
    {facts = facts} {last = last} {first = first} {second = second} operands number from s r memory sound
    left_words words kept less room height stand going =
    by_right (number_of (knowing context.site facts) operands.right) refl stand
  where
    by_word : (found : Option Place) → left_word (knowing context.site facts) operands ≡ found
        → number_of (knowing context.site facts) operands.right ≡ None
        → StepsStand context (PartDoes context) facts from (elim found [
          | Some place ↦ part_of (tasks.Word operands.right) pushed
              ∷ with_word_steps place Subtract SubtractWithBorrow
          | None ↦ paired_steps (knowing context.site facts) operands Subtract SubtractWithBorrow pushed
        ]) last to
        → DifferenceGiven context from s r memory first second last number top base to
    by_word (Some place) is none stand =
        left_words facts last operands number place pushed top need from to base s r memory
        first second words is
        (kept ∙ difference_none (nodes_in context) operands.left operands.right
        (is_number_at context facts operands.right None none))
        less room height stand going
    by_word None is none stand =
        paired_does (byte_instructions Subtract SubtractWithBorrow) (λ x y. (x + (65536 - y)) % 65536) number
        None from s r memory sound
        (bytes_on Subtract SubtractWithBorrow) difference_makes
        (λ x y one two. difference_small x y) words.one words.two
        (kept ∙ difference_none (nodes_in context) operands.left operands.right
        (is_number_at context facts operands.right None none))
        less room (one_high (height_of first) (height_of second) need height)
        (two_high (height_of first) (height_of second) need height)
        (subst (λ steps. StepsStand context (PartDoes context) facts from
        (Rattle.operands8080.specs.internal.Pairs.pair_steps (knowing context.site facts) operands.left
        operands.right false pushed ++ steps) last to)
        (pairs_same Subtract SubtractWithBorrow
        (Rattle.operands8080.specs.internal.Pairs.pair_order (knowing context.site facts) operands.left
        operands.right false)) stand)
        going

    by_left : (found : Option ℕ) → number_of (knowing context.site facts) operands.left ≡ found
        → number_of (knowing context.site facts) operands.right ≡ None
        → StepsStand context (PartDoes context) facts from (elim found [
          | Some n ↦ part_of (tasks.Word operands.right) pushed ∷ taken_from_number_steps n
          | None ↦ elim (left_word (knowing context.site facts) operands) [
            | Some place ↦ part_of (tasks.Word operands.right) pushed
                ∷ with_word_steps place Subtract SubtractWithBorrow
            | None ↦ paired_steps (knowing context.site facts) operands Subtract SubtractWithBorrow pushed
          ]
        ]) last to
        → DifferenceGiven context from s r memory first second last number top base to
    by_left (Some n) is none stand =
        subst (λ outcome. Does (loaded_of context.activation) s.budget 0
        (at_place from r memory s.events) outcome
        (Arrives context.activation top base to (WordIsGiven context last number Address r memory)))
        (sym (first_known second facts (Number n)
        (λ x y u. Gave ((x + (65536 - y)) % 65536) u) s sound words.one
        (number_known context facts operands.left n is)))
        (taken_does n number from s r memory sound
        (address_is_word n (type_of first) words.one_is
        (number_small facts n sound words.one.is words.one.types is))
        words.two
        (kept ∙ difference_none (nodes_in context) operands.left operands.right
        (is_number_at context facts operands.right None none))
        less room (less_high (height_of first) (height_of second) need height) stand going)
    by_left None is none stand = by_word (left_word (knowing context.site facts) operands) refl none stand

    by_right : (found : Option ℕ) → number_of (knowing context.site facts) operands.right ≡ found
        → StepsStand context (PartDoes context) facts from (elim found [
          | Some n ↦ part_of (tasks.Word operands.left) pushed ∷ addition_steps (Number ((65536 - n) % 65536))
          | None ↦ elim (number_of (knowing context.site facts) operands.left) [
            | Some n ↦ part_of (tasks.Word operands.right) pushed ∷ taken_from_number_steps n
            | None ↦ elim (left_word (knowing context.site facts) operands) [
              | Some place ↦ part_of (tasks.Word operands.right) pushed
                  ∷ with_word_steps place Subtract SubtractWithBorrow
              | None ↦ paired_steps (knowing context.site facts) operands Subtract SubtractWithBorrow pushed
            ]
          ]
        ]) last to
        → DifferenceGiven context from s r memory first second last number top base to
    by_right (Some n) is stand =
        let small =
        address_is_word n (type_of second) words.two_is
        (number_small facts n sound words.two.is words.two.types is) in
        subst (λ outcome. Does (loaded_of context.activation) s.budget 0
        (at_place from r memory s.events) outcome
        (Arrives context.activation top base to (WordIsGiven context last number Address r memory)))
        (sym (second_known first facts (Number n)
        (λ x y u. Gave ((x + (65536 - y)) % 65536) u) s sound words.two
        (number_known context facts operands.right n is)
        ∙ same_rest (value context.later context.activation.around first s)
        (λ x t. Gave ((x + (65536 - n)) % 65536) t) (λ x t. Gave ((x + (65536 - n) % 65536) % 65536) t)
        (λ x t. ap (λ m. Gave m t) (sym (added_difference x n small)))))
        (added_does (Number ((65536 - n) % 65536)) number from s r memory sound (lacking_small n) words.one
        (kept ∙ difference_right (nodes_in context) operands.left operands.right n
        (is_number_at context facts operands.right (Some n) is))
        less room (one_high (height_of first) (height_of second) need height) stand going)
    by_right None is stand = by_left (number_of (knowing context.site facts) operands.left) refl is stand
