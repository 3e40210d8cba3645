-- Sums and differences in HL.
use Rattle.task_laws.proofs.Prelude.{◌≡◌, ℕ, ◌+◌, ◌*◌, ◌/◌, ◌%◌, ◌<◌, ◌≤◌, max, false, if◌then◌else◌, List, [], ◌∷◌, ◌++◌, Option, Some, None, is_some, refl, sym, ap, ◌∙◌, subst, arith, option_map_or, Address, height_of, type_of, TypedExpression, value, SourceState, Outcome, Gave, then_do, Instr, Registers, word, wrap, Expression, ExpressionNumber, Place, keeps_at, keeps_none, keeps_of_binary, known_at, no_traits, Does, loaded_of, at_place, Arrives, HasRoom, place_at, Facts, Plain, part_of, keeps, known, expression, addition_steps, Operands, knowing, sum_steps, Context, IsSound, nodes_in, StepsStand, PartThere, PartDoes, WordIsGiven, sum_turned}
use Rattle.trees.specs.declared.expression.BinaryOperator.TheVariants as operators
use Rattle.steps8080.specs.declared.step.Task.TheVariants as tasks
use Rattle.task_laws.proofs.Machine.Addresses.{addition_goes}
use Rattle.task_laws.proofs.Machine.Rules.{GoesOn}
use Rattle.task_laws.proofs.Machine.KnownOperands.{known_small, word_fits}
use Rattle.task_laws.proofs.Machine.Values.{KeepsThem, word_given, word_then}
use Rattle.task_laws.proofs.Words.Pairs.{IsOperand, same_rest}
use Rattle.task_laws.proofs.Words.PairedWords.{paired_does, sum_instructions, sum_makes}
use Rattle.task_laws.proofs.Words.WordArithmetic.{has_word}
use Rattle.steps8080.proofs.SiteTraits.{known_is}
use Rattle.task_laws.proofs.Machine.SiteNodes.{known_means}

-- the registers that a node keeps are those at the site
pub keeps_at_site : (context : Context) (of : ExpressionNumber)
    → keeps context.site of ≡ keeps_at (nodes_in context) of
unfolding keeps expression
keeps_at_site context of = by (Rattle.std.specs.Prelude.slice_get (nodes_in context).expressions of.index)
  where
    by : (found : Option Expression)
        → elim found [
          | Some node ↦ node.traits.keeps
          | None ↦ keeps_none
        ]
        ≡ (option_map_or (λ (node : Expression). node.traits) found no_traits).keeps
    by (Some node) = refl
    by None = refl

-- the registers that another expression keeps
pub kept_as :
    (context : Context) (number other : ExpressionNumber) (r now : Registers)
    → keeps context.site number ≡ keeps_at (nodes_in context) other
    → KeepsThem context other r now
    → KeepsThem context number r now
kept_as context number other r now same kept =
    let is = sym (same ∙ sym (keeps_at_site context other)) in
    record {
      a = λ asked. kept.a (ap (λ k. k.a) is ∙ asked);
      d = λ asked. kept.d (ap (λ k. k.de) is ∙ asked);
      e = λ asked. kept.e (ap (λ k. k.de) is ∙ asked);
    }

-- registers beside HL that are the same as those that were kept
pub kept_beside :
    {context : Context} {after : Facts}
    {scalar : Rattle.trees.specs.declared.declaration.ScalarType.ScalarType} {number : ExpressionNumber}
    {r now : Registers} {memory ended : List ℕ}
    {n : ℕ} (last : Registers)
    → WordIsGiven context after number scalar r memory n now ended
    → last.a ≡ now.a → last.d ≡ now.d → last.e ≡ now.e
    → KeepsThem context number r last
kept_beside last given a d e = record {
  a = λ is. a ∙ given.a is;
  d = λ is. d ∙ given.d is;
  e = λ is. e ∙ given.e is;
}

added : (h l x y : ℕ) → h ≡ x / 256 → l ≡ x % 256 → wrap (word h l + y) ≡ (x + y) % 65536
added h l x y one two = omega (arith, one, two)

wrapped_small : (x y : ℕ) → (x + y) % 65536 < 65536
wrapped_small x y = omega arith

-- a value and a known word, which is added
pub added_does :
    {context : Context} {pushed top need to : ℕ} {base : List ℕ} {facts last : Facts}
    {other : ExpressionNumber} {tree : TypedExpression} (place : Place) (number : ExpressionNumber) (from : ℕ)
    (s : SourceState) (r : Registers) (memory : List ℕ) (sound : IsSound context)
    → place_at context.activation.layout place < 65536
    → IsOperand context other tree
    → keeps context.site number ≡ keeps_at (nodes_in context) other
    → s.budget < context.number
    → HasRoom context.activation top pushed need
    → 2 * height_of tree ≤ need
    → StepsStand context (PartDoes context) facts from
    (part_of (tasks.Word other) pushed ∷ addition_steps place) last to
    → GoesOn context facts top base s.memory s.frame r memory
    → Does (loaded_of context.activation) s.budget 0 (at_place from r memory s.events)
    (then_do (value context.later context.activation.around tree s)
    (λ x t. Gave ((x + place_at context.activation.layout place) % 65536) t))
    (Arrives context.activation top base to (WordIsGiven context last number Address r memory))
added_does {context = context} {other = other} place number from s r memory sound small operand kept less room
    height (PartThere part rest) going =
    word_then from s r memory part operand.is operand.types less room height going
    (λ x t now ended same fewer going_on given.
    addition_goes place now sound small rest going_on
    (λ last_registers beside going_last.
    let word_value = (x + place_at context.activation.layout place) % 65536 in
    let bytes = going_last.ready.registers in
    let is = has_word word_value last_registers.h last_registers.l bytes.h bytes.l
    (beside.hl ∙ added now.h now.l x (place_at context.activation.layout place) given.h given.l) in
    word_given t (wrapped_small x (place_at context.activation.layout place)) (record { h = is.0; l = is.1 })
    (kept_as context number other r last_registers kept
    (kept_beside last_registers given beside.a beside.d beside.e)) going_last))

is_known : (context : Context) (facts : Facts) (of : ExpressionNumber) (found : Option Place)
    → known (knowing context.site facts) of ≡ found
    → known_at (nodes_in context) of ≡ found
is_known context facts of found same = sym (known_is (knowing context.site facts) of) ∙ same

-- the second is known
pub second_known :
    {context : Context} {right : ExpressionNumber} {second : TypedExpression}
    (first : TypedExpression) (facts : Facts)
    (place : Place) (go : ℕ → ℕ → SourceState → Outcome ℕ) (s : SourceState)
    → IsSound context
    → IsOperand context right second
    → known (knowing context.site facts) right ≡ Some place
    → then_do (value context.later context.activation.around first s)
    (λ x t. then_do (value context.later context.activation.around second t) (λ y u. go x y u))
    ≡ then_do (value context.later context.activation.around first s)
    (λ x t. go x (place_at context.activation.layout place) t)
second_known {context = context} {second = second} first facts place go s sound two here =
    same_rest (value context.later context.activation.around first s)
    (λ x t. then_do (value context.later context.activation.around second t) (λ y u. go x y u))
    (λ x t. go x (place_at context.activation.layout place) t)
    (λ x t. ap (λ outcome. then_do outcome (λ y u. go x y u))
    (known_means facts place sound two.is two.types here t))

-- the first is known
pub first_known :
    {context : Context} {left : ExpressionNumber} {first : TypedExpression}
    (second : TypedExpression) (facts : Facts)
    (place : Place) (go : ℕ → ℕ → SourceState → Outcome ℕ) (s : SourceState)
    → IsSound context
    → IsOperand context left first
    → known (knowing context.site facts) left ≡ Some place
    → then_do (value context.later context.activation.around first s)
    (λ x t. then_do (value context.later context.activation.around second t) (λ y u. go x y u))
    ≡ then_do (value context.later context.activation.around second s)
    (λ y u. go (place_at context.activation.layout place) y u)
first_known {context = context} second facts place go s sound one here =
    ap (λ outcome. then_do outcome (λ x t. then_do
    (value context.later context.activation.around second t) (λ y u. go x y u)))
    (known_means facts place sound one.is one.types here s)

keeps_right : (nodes : Rattle.treecode.specs.internal.Nodes.Nodes) (left right : ExpressionNumber) (place : Place)
    → known_at nodes right ≡ Some place
    → keeps_of_binary nodes operators.Add left right ≡ keeps_at nodes left
keeps_right nodes left right place here =
    ap (λ found. if is_some found then keeps_at nodes left
    else if is_some (known_at nodes left) then keeps_at nodes right else keeps_none) here

keeps_left : (nodes : Rattle.treecode.specs.internal.Nodes.Nodes) (left right : ExpressionNumber) (place : Place)
    → known_at nodes right ≡ None
    → known_at nodes left ≡ Some place
    → keeps_of_binary nodes operators.Add left right ≡ keeps_at nodes right
keeps_left nodes left right place none here =
    ap (λ found. if is_some found then keeps_at nodes left
    else if is_some (known_at nodes left) then keeps_at nodes right else keeps_none) none
    ∙ ap (λ found. if is_some found then keeps_at nodes right else keeps_none) here

keeps_neither : (nodes : Rattle.treecode.specs.internal.Nodes.Nodes) (left right : ExpressionNumber)
    → known_at nodes right ≡ None
    → known_at nodes left ≡ None
    → keeps_of_binary nodes operators.Add left right ≡ keeps_none
keeps_neither nodes left right none also =
    ap (λ found. if is_some found then keeps_at nodes left
    else if is_some (known_at nodes left) then keeps_at nodes right else keeps_none) none
    ∙ ap (λ found. if is_some found then keeps_at nodes right else keeps_none) also

-- two ADDRESS operands of an operator
pub record TwoWords
    (context : Context) (operands : Operands) (first second : TypedExpression) : Type 0 where
  pub one : IsOperand context operands.left first
  pub two : IsOperand context operands.right second
  pub one_is : type_of first ≡ Address
  pub two_is : type_of second ≡ Address

pub one_high : (a b need : ℕ) → 2 * (1 + max a b) ≤ need → 2 * a ≤ need
one_high a b need h = omega (arith, h)

pub two_high : (a b need : ℕ) → 2 * (1 + max a b) ≤ need → 2 + 2 * b ≤ need
two_high a b need h = omega (arith, h)

pub less_high : (a b need : ℕ) → 2 * (1 + max a b) ≤ need → 2 * b ≤ need
less_high a b need h = omega (arith, h)

-- a sum
pub sum_does :
    {context : Context} {pushed top need to : ℕ} {base : List ℕ} {facts last : Facts}
    {first second : TypedExpression} (operands : Operands) (number : ExpressionNumber)
    (from : ℕ) (s : SourceState)
    (r : Registers) (memory : List ℕ) (sound : IsSound context)
    → TwoWords context operands first second
    → keeps context.site number ≡ keeps_of_binary (nodes_in context) operators.Add
    operands.left operands.right
    → s.budget < context.number
    → HasRoom context.activation top pushed need
    → 2 * (1 + max (height_of first) (height_of second)) ≤ need
    → StepsStand context (PartDoes context) facts from
    (sum_steps (knowing context.site facts) operands pushed) last to
    → GoesOn context facts top base s.memory s.frame r memory
    → Does (loaded_of context.activation) s.budget 0 (at_place from r memory s.events)
    (then_do (value context.later context.activation.around first s)
    (λ x t. then_do (value context.later context.activation.around second t)
    (λ y u. Gave ((x + y) % 65536) u)))
    (Arrives context.activation top base to (WordIsGiven context last number Address r memory))
unfolding sum_steps
sum_does {context = context} {pushed = pushed} {top = top} {need = need} {to = to} {base = base}
    {facts = facts} {last = last} {first = first} {second = second} operands number from s r memory sound
    words kept less room height stand going =
    by_right (known (knowing context.site facts) operands.right) refl stand
  where
    by_left : (found : Option Place) → known (knowing context.site facts) operands.left ≡ found
        → known (knowing context.site facts) operands.right ≡ None
        → StepsStand context (PartDoes context) facts from (elim found [
          | Some place ↦ part_of (tasks.Word operands.right) pushed ∷ addition_steps place
          | None ↦
              Rattle.operands8080.specs.internal.Pairs.pair_steps (knowing context.site facts) operands.left
              operands.right false pushed
              ++ (Plain (Rattle.isa8080.specs.declared.instr.Instr.TheVariants.Dad
              Rattle.isa8080.specs.declared.instr.Pair.TheVariants.De) ∷ [])
        ]) last to
        → Does (loaded_of context.activation) s.budget 0 (at_place from r memory s.events)
        (then_do (value context.later context.activation.around first s)
        (λ x t. then_do (value context.later context.activation.around second t)
        (λ y u. Gave ((x + y) % 65536) u)))
        (Arrives context.activation top base to (WordIsGiven context last number Address r memory))
    by_left (Some place) is none stand =
        subst (λ outcome. Does (loaded_of context.activation) s.budget 0
        (at_place from r memory s.events) outcome
        (Arrives context.activation top base to (WordIsGiven context last number Address r memory)))
        (sym (first_known second facts place (λ x y u. Gave ((x + y) % 65536) u) s sound words.one is
        ∙ same_rest (value context.later context.activation.around second s)
        (λ y u. Gave ((place_at context.activation.layout place + y) % 65536) u)
        (λ y u. Gave ((y + place_at context.activation.layout place) % 65536) u)
        (λ y u. ap (λ n. Gave n u) (sum_turned y (place_at context.activation.layout place)))))
        (added_does place number from s r memory sound
        (word_fits (place_at context.activation.layout place) (type_of first)
        (known_small facts place sound words.one.is words.one.types is))
        words.two
        (kept ∙ keeps_left (nodes_in context) operands.left operands.right place
        (is_known context facts operands.right None none)
        (is_known context facts operands.left (Some place) is))
        less room (less_high (height_of first) (height_of second) need height) stand going)
    by_left None is none stand =
        paired_does sum_instructions (λ x y. (x + y) % 65536) number None from s r memory sound
        (λ order. (tt, tt)) sum_makes
        (λ x y one two. wrapped_small x y) words.one words.two
        (kept ∙ keeps_neither (nodes_in context) operands.left operands.right
        (is_known context facts operands.right None none) (is_known context facts operands.left None is))
        less room (one_high (height_of first) (height_of second) need height)
        (two_high (height_of first) (height_of second) need height) stand going

    by_right : (found : Option Place) → known (knowing context.site facts) operands.right ≡ found
        → StepsStand context (PartDoes context) facts from (elim found [
          | Some place ↦ part_of (tasks.Word operands.left) pushed ∷ addition_steps place
          | None ↦ elim (known (knowing context.site facts) operands.left) [
            | Some place ↦ part_of (tasks.Word operands.right) pushed ∷ addition_steps place
            | None ↦
                Rattle.operands8080.specs.internal.Pairs.pair_steps (knowing context.site facts) operands.left
                operands.right false pushed
                ++ (Plain (Rattle.isa8080.specs.declared.instr.Instr.TheVariants.Dad
                Rattle.isa8080.specs.declared.instr.Pair.TheVariants.De) ∷ [])
          ]
        ]) last to
        → Does (loaded_of context.activation) s.budget 0 (at_place from r memory s.events)
        (then_do (value context.later context.activation.around first s)
        (λ x t. then_do (value context.later context.activation.around second t)
        (λ y u. Gave ((x + y) % 65536) u)))
        (Arrives context.activation top base to (WordIsGiven context last number Address r memory))
    by_right (Some place) is stand =
        subst (λ outcome. Does (loaded_of context.activation) s.budget 0
        (at_place from r memory s.events) outcome
        (Arrives context.activation top base to (WordIsGiven context last number Address r memory)))
        (sym (second_known first facts place (λ x y u. Gave ((x + y) % 65536) u) s sound words.two is))
        (added_does place number from s r memory sound
        (word_fits (place_at context.activation.layout place) (type_of second)
        (known_small facts place sound words.two.is words.two.types is))
        words.one
        (kept ∙ keeps_right (nodes_in context) operands.left operands.right place
        (is_known context facts operands.right (Some place) is))
        less room (one_high (height_of first) (height_of second) need height) stand going)
    by_right None is stand = by_left (known (knowing context.site facts) operands.left) refl is stand
