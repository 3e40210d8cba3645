-- AND of two ADDRESSes, one of them below 256: the result fits a byte.
use Rattle.task_laws.proofs.Prelude.{◌≡◌, ℕ, ◌+◌, ◌*◌, ◌<◌, ◌≤◌, ◌⊎◌, inl, inr, max, true, false, List, ◌++◌, Option, Some, None, option_map, length, bit_and, refl, ap, subst, arith, slice_get_past, and_le_l, and_le_r, Address, height_of, BinaryNode, TypedExpression, SourceState, Gave, then_do, And, Registers, Expression, ExpressionNumber, IsExpression, IsNode, keeps_none, Does, at_place, Arrives, HasRoom, Facts, low, extension_steps, expression, is_free, keeps, number_of, fits_byte, low_number, Operands, knowing, byte_operation_steps, form_of, from_number_steps, in_form_steps, with_number_steps, is_of_bytes, Context, IsSound, nodes_in, StepsStand, ByteIsGiven, PartDoes, WordIsGiven, or_cases, same_given, given_again}
use Rattle.trees.specs.declared.expression.BinaryOperator.TheVariants as operators
use Rattle.task_laws.proofs.Words.AndNumbers.{extended_then}
use Rattle.task_laws.proofs.Bytes.BytesAsked.{BytesAsked}
use Rattle.task_laws.proofs.Places.Fitting.{gave_first}
use Rattle.task_laws.proofs.Words.LogicPairs.{LogicGiven}
use Rattle.task_laws.proofs.Ranges.Ranges.{bytes_fit_after, fits_means, ready_fits}
use Rattle.task_laws.proofs.Machine.Rules.{GoesOn, Parted, steps_split}
use Rattle.task_laws.proofs.Machine.SiteNodes.{value_in}
use Rattle.task_laws.proofs.Machine.Stages.{at_carried, loaded_in}
use Rattle.task_laws.proofs.Bytes.TwoBytes.{two_bytes}
use Rattle.task_laws.proofs.Words.WordSums.{TwoWords}
use Rattle.task_laws.proofs.Numbers.{equals_byte}

-- a number without an expression: nothing is promised about the registers that its code keeps
abbrev pub no_expression : Context → ExpressionNumber
no_expression context = record { index = length (nodes_in context).expressions }

pub none_is_not_free : (context : Context) → is_free context.site (no_expression context) ≡ false
unfolding is_free expression
none_is_not_free context =
    ap (λ (found : Option Expression). elim found [
      | Some one ↦ one.traits.is_free
      | None ↦ false
    ])
    (slice_get_past (nodes_in context).expressions (length (nodes_in context).expressions) (omega arith))

-- a bound may be a higher one
pub below_more :
    (context : Context) {bound index : ℕ} {tree : TypedExpression} (more : ℕ)
    → bound ≤ more
    → IsExpression (nodes_in context) context.storage bound index tree
    → IsExpression (nodes_in context) context.storage more index tree
below_more context more less (IsNode below there scalar form) =
    IsNode (omega (arith, less, below)) there scalar form

least : (a b : ℕ) → a ≤ max a b
least a b = omega arith

least_too : (a b : ℕ) → b ≤ max a b
least_too a b = omega arith

and_left : (x y : ℕ) → x < 256 → bit_and x y < 256
and_left x y small = let less : bit_and x y ≤ x = and_le_l x y in omega (arith, less, small)

and_right : (x y : ℕ) → y < 256 → bit_and x y < 256
and_right x y small = let less : bit_and x y ≤ y = and_le_r x y in omega (arith, less, small)

pub of_bytes_does :
    {context : Context} {pushed top need to : ℕ} {base : List ℕ} {facts last : Facts}
    {first second : TypedExpression} (operands : Operands) (number : ExpressionNumber) (from : ℕ)
    (s : SourceState) (r : Registers) (memory : List ℕ) (sound : IsSound context)
    → BytesAsked context
    → TwoWords context operands first second
    → is_of_bytes (knowing context.site facts) And operands ≡ true
    → number_of (knowing context.site facts) operands.right ≡ None
    → number_of (knowing context.site facts) operands.left ≡ None
    → keeps context.site number ≡ keeps_none
    → s.budget < context.number
    → HasRoom context.activation top pushed need
    → 2 * (1 + max (height_of first) (height_of second)) ≤ need
    → StepsStand context (PartDoes context) facts from
    (byte_operation_steps (knowing context.site facts) And operands pushed ++ extension_steps) last to
    → GoesOn context facts top base s.memory s.frame r memory
    → LogicGiven context And from s r memory first second last number top base to
unfolding byte_operation_steps low_number is_of_bytes
of_bytes_does {context = context} {pushed = pushed} {top = top} {need = need} {to = to} {base = base}
    {facts = facts} {last = last} {first = first} {second = second} operands number from s r memory sound
    asked words bytes right_none left_none none less room height stand going =
    subst (λ outcome. Does (loaded_in context) s.budget 0 (at_place from r memory s.events) outcome
    (Arrives context.activation top base to (WordIsGiven context last number Address r memory)))
    (given_again (value_in context (BinaryNode Address operators.And first second) s))
    (at_carried from parts.middle parts.found
    (two_bytes context facts parts.found from parts.middle pushed (max words.one.bound words.two.bound)
    (no_expression context)
    operands.left operands.right Address first second And
    (BinaryNode Address operators.And first second) asked sound
    (below_more context (max words.one.bound words.two.bound) (least words.one.bound words.two.bound)
    words.one.is) words.one.types words.one_is
    (below_more context (max words.one.bound words.two.bound) (least_too words.one.bound words.two.bound)
    words.two.is) words.two.types words.two_is
    tt refl refl (λ t. refl) (none_is_not_free context) parts.first)
    height tt
    (λ n now ended (given : ByteIsGiven context parts.found (no_expression context) Address r memory n now ended). given.known)
    (record { below = less; room = room; ready = going.ready; known = going.known })
    (λ n t now ended same given next.
    extended_then number sound none n t r now memory ended (small n t same)
    (equals_byte now.a n given.a (small n t same)) parts.second next))
  where
    by_number :
        (one other : Option ℕ)
        → number_of (knowing context.site facts) operands.right ≡ one
        → number_of (knowing context.site facts) operands.left ≡ other
        → one ≡ None → other ≡ None
        → StepsStand context (PartDoes context) facts from
        (elim (option_map low one) [
          | Some n ↦ with_number_steps And operands.left n pushed
          | None ↦ elim (option_map low other) [
            | Some n ↦ from_number_steps And n operands.right pushed
            | None ↦ in_form_steps (form_of (knowing context.site facts) And operands) And operands pushed
          ]
        ] ++ extension_steps) last to
        → StepsStand context (PartDoes context) facts from
        (in_form_steps (form_of (knowing context.site facts) And operands) And operands pushed
        ++ extension_steps) last to
    by_number None None one_is other_is one_none other_none stand = stand
    by_number (Some n) other one_is other_is one_none other_none stand = absurd cc
    by_number None (Some n) one_is other_is one_none other_none stand = absurd cc

    parts : Parted context (PartDoes context) facts from
        (in_form_steps (form_of (knowing context.site facts) And operands) And operands pushed)
        extension_steps last to
    parts =
        steps_split (in_form_steps (form_of (knowing context.site facts) And operands) And operands pushed)
        extension_steps
        (by_number (number_of (knowing context.site facts) operands.right)
        (number_of (knowing context.site facts) operands.left)
        refl refl right_none left_none stand)

    small : (n : ℕ) (t : SourceState) → value_in context (BinaryNode Address operators.And first second) s
        ≡ Gave n t → n < 256
    small n t same =
        let one = gave_first (value_in context first s)
        (λ x t. then_do (value_in context second t) (λ y u. Gave (bit_and x y) u)) n t same in
        let two =
        gave_first (value_in context second one.t) (λ y u. Gave (bit_and one.first y) u) n t one.next in
        let source = ready_fits context s going.ready in
        subst (λ (m : ℕ). m < 256) (same_given two.next)
        (by (or_cases (fits_byte (knowing context.site facts) operands.left)
        (fits_byte (knowing context.site facts) operands.right) bytes)
        (λ fits. and_left one.first two.first
        (fits_means context sound facts s words.one.is words.one.types fits source one.is))
        (λ fits. and_right one.first two.first
        (fits_means context sound facts one.t words.two.is words.two.types fits
        (bytes_fit_after s sound words.one.is words.one.types source one.is) two.is)))
      where
        by : {A B C : Type 0} → A ⊎ B → (A → C) → (B → C) → C
        by (inl a) one two = one a
        by (inr b) one two = two b
