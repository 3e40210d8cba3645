-- Two words, one put into HL and the other into DE.
use Rattle.task_laws.proofs.Prelude.{◌≡◌, ℕ, ◌+◌, ◌-◌, ◌*◌, ◌/◌, ◌%◌, ◌<◌, ◌≤◌, Bool, true, false, ◌&&◌, if◌then◌else◌, List, [], ◌∷◌, ◌++◌, Option, Some, None, refl, sym, ap, ◌∙◌, subst, arith, and_parts, height_of, type_of, TypedExpression, TypesHold, value, SourceState, Outcome, Gave, Stopped, then_do, Xchg, De, A, D, E, StackDe, StackHl, Registers, State, wrap, LoadPair, ExpressionNumber, Place, IsExpression, Does, loaded_of, at_place, HasRoom, place_at, Facts, Step, copy, set, part_of, Site, is_free, keeps, known, may_exchange, expression, fits_byte, append_assoc, Choices, PairForm, RightKnown, LeftKnown, RightKeeps, LeftKeeps, PairOrder, LeftInHl, RightInHl, any_order, choices_of, form_steps, is_free_byte, left_in_hl, order_of, pair_form, pair_in_order_steps, pair_order_by, right_in_hl, wished_steps, with_byte_steps, with_exchange_steps, with_known_steps, knowing, Context, IsSound, nodes_in, StepsStand, PlainThere, WordThere, PartThere, PartDoes}
use Rattle.steps8080.specs.declared.step.Task.TheVariants as tasks
use Rattle.operands8080.specs.{declared.pairs.PairForm.TheVariants.{RightFree, LeftFree, Pushed}, internal.Pairs.{with_stack_steps}}
use Rattle.task_laws.proofs.Machine.Rules.{GoesOn, more_pushed, pop_goes, push_goes, word_goes}
use Rattle.task_laws.proofs.Machine.RegisterCode.{effect, registers_then}
use Rattle.task_laws.proofs.Machine.KnownOperands.{known_small, word_fits}
use Rattle.task_laws.proofs.Ranges.Ranges.{fits_means, ready_fits}
use Rattle.task_laws.proofs.Machine.Values.{byte_then, part_first, word_then}
use Rattle.task_laws.proofs.Machine.SiteNodes.{does_exchanged, known_means}
use Rattle.task_laws.proofs.Numbers.{high_of_joined, low_of_joined, no_high_byte}
use Rattle.task_laws.proofs.Heights.{some_height}

-- one value is in HL, and another one in DE
pub record HasBoth (first second : ℕ) (r : Registers) : Type 0 where
  pub h : r.h ≡ first / 256
  pub l : r.l ≡ first % 256
  pub d : r.d ≡ second / 256
  pub e : r.e ≡ second % 256

-- the left value and the right one; the order is which of them is in HL
abbrev pub HasPair : PairOrder → (left right : ℕ) → Registers → Type 0
HasPair LeftInHl left right r = HasBoth left right r
HasPair RightInHl left right r = HasBoth right left r

-- an expression of a number
pub record IsOperand (context : Context) (of : ExpressionNumber) (tree : TypedExpression) : Type 0 where
  pub bound : ℕ
  pub is : IsExpression (nodes_in context) context.storage bound of.index tree
  pub types : TypesHold context.typed context.within tree

word_of_value : (n : ℕ) → n < 65536 → (256 * (n / 256) + n % 256) / 256 ≡ n / 256
word_of_value n small = omega (arith, small)

low_byte_is : (a n : ℕ) → a ≡ n % 256 → n < 256 → a ≡ n % 256
low_byte_is a n same small = same

-- the rest after an outcome may be replaced by an equal one
pub same_rest : {A B : Type 0} (outcome : Outcome A) (one other : A → SourceState → Outcome B)
    → ((found : A) (t : SourceState) → one found t ≡ other found t)
    → then_do outcome one ≡ then_do outcome other
same_rest (Gave found t) one other same = same found t
same_rest (Stopped why t) one other same = refl

abbrev other_order : PairOrder → PairOrder
other_order LeftInHl = RightInHl
other_order RightInHl = LeftInHl

abbrev wished_order : Option PairOrder → PairOrder → PairOrder
wished_order None order = order
wished_order (Some wish) order = wish

module _ (context : Context) (sound : IsSound context) where
  abbrev pub meant : TypedExpression → SourceState → Outcome ℕ
  meant tree s = value context.later context.activation.around tree s

  -- the rest for two values in HL and DE
  abbrev pub Continues :
      {B : Type 0} → (more top : ℕ) → (base : List ℕ) → (budget : ℕ) → (others : List Step) → (last : Facts)
      → (to : ℕ)
      → (Held : (first second : ℕ) → Registers → Type 0)
      → (go : ℕ → ℕ → SourceState → Outcome B)
      → (Good : B → SourceState → State → Type 0) → Type 0
  Continues more top base budget others last to Held go Good =
      (first second : ℕ) (t : SourceState) (now : Registers) (ended : List ℕ) (middle : ℕ) (found : Facts)
      → t.budget ≤ budget
      → StepsStand context (PartDoes context) found middle others last to
      → GoesOn context found top base t.memory t.frame now ended
      → Held first second now
      → Does (loaded_of context.activation) t.budget more (at_place middle now ended t.events)
      (go first second t) Good

  -- the first one into HL, and a known word into DE
  known_then :
      {B : Type 0} {more pushed top need to : ℕ} {base : List ℕ} {facts last : Facts}
      {go : ℕ → ℕ → SourceState → Outcome B} {Good : B → SourceState → State → Type 0}
      {first : ExpressionNumber} {tree : TypedExpression} (others : List Step) (place : Place) (from : ℕ)
      (s : SourceState) (r : Registers) (memory : List ℕ)
      → IsOperand context first tree
      → place_at context.activation.layout place < 65536
      → s.budget < context.number
      → HasRoom context.activation top pushed need
      → 2 * height_of tree ≤ need
      → StepsStand context (PartDoes context) facts from
      (with_known_steps first place pushed ++ others) last to
      → GoesOn context facts top base s.memory s.frame r memory
      → Continues more top base s.budget others last to HasBoth go Good
      → Does (loaded_of context.activation) s.budget more (at_place from r memory s.events)
      (then_do (meant tree s) (λ n t. go n (place_at context.activation.layout place) t)) Good
  known_then {more = more} {go = go} {Good = Good} others place from s r memory operand small less room high
      (PartThere {middle = middle} part (WordThere there rest)) going continue =
      word_then from s r memory part operand.is operand.types less room high going
      (λ n t now ended same fewer going_on given.
      let word : ℕ = place_at context.activation.layout place in
      let last_registers : Registers = record now { d = word / 256; e = word % 256 } in
      let bytes = going_on.ready.registers in
      word_goes (LoadPair De) place now last_registers ended sound there going_on tt refl
      (λ known.
      continue n word t last_registers ended (middle + 3) _ fewer rest
      (record {
        ready = record {
          pointer = going_on.ready.pointer;
          registers =
              record { a = bytes.a; b = bytes.b; c = bytes.c; d = omega (arith, small); e = omega arith; h = bytes.h; l = bytes.l };
          shares = going_on.ready.shares;
          frame_lies = going_on.ready.frame_lies;
          kept = going_on.ready.kept;
        };
        known = known;
      })
      (record { h = given.h; l = given.l; d = refl; e = refl })))

  -- the first one into DE, and the second one, which leaves DE alone, into HL
  exchange_then :
      {B : Type 0} {more pushed top need to : ℕ} {base : List ℕ} {facts last : Facts}
      {go : ℕ → ℕ → SourceState → Outcome B} {Good : B → SourceState → State → Type 0}
      {first second : ExpressionNumber} {one two : TypedExpression} (others : List Step) (from : ℕ)
      (s : SourceState) (r : Registers) (memory : List ℕ)
      → IsOperand context first one
      → IsOperand context second two
      → (keeps context.site second).de ≡ true
      → s.budget < context.number
      → HasRoom context.activation top pushed need
      → 2 * height_of one ≤ need
      → 2 * height_of two ≤ need
      → StepsStand context (PartDoes context) facts from
      (with_exchange_steps first second pushed ++ others) last to
      → GoesOn context facts top base s.memory s.frame r memory
      → Continues more top base s.budget others last to (λ m n r. HasBoth n m r) go Good
      → Does (loaded_of context.activation) s.budget more (at_place from r memory s.events)
      (then_do (meant one s) (λ m t. then_do (meant two t) (λ n u. go m n u))) Good
  exchange_then {pushed = pushed} {go = go} {second = second} others from s r memory one two kept less room
      high higher (PartThere part rest) going continue =
      word_then from s r memory part one.is one.types less room high going
      (λ m t now ended same fewer going_on given.
      registers_then (Xchg ∷ []) (part_of (tasks.Word second) pushed ∷ others) now sound
      (tt, tt) rest going_on
      (λ middle found stand swapped.
      let then_part = part_first stand in
      let swapped_registers : Registers = effect (Xchg ∷ []) now in
      word_then middle t swapped_registers ended then_part.does two.is two.types
      (omega (arith, less, fewer)) room higher
      swapped
      (λ n u then_registers then_ended also fewer_still going_still then_given.
      continue m n u then_registers then_ended then_part.middle then_part.found
      (omega (arith, fewer, fewer_still))
      then_part.rest going_still
      (record {
        h = then_given.h;
        l = then_given.l;
        d = then_given.d kept ∙ given.h;
        e = then_given.e kept ∙ given.l;
      }))))

  -- puts the first one into HL, and the second one, a byte with code that changes only A, into DE
  byte_beside_then :
      {B : Type 0} {more pushed top need to : ℕ} {base : List ℕ} {facts last : Facts}
      {go : ℕ → ℕ → SourceState → Outcome B} {Good : B → SourceState → State → Type 0}
      {first second : ExpressionNumber} {one two : TypedExpression} (others : List Step) (from : ℕ)
      (s : SourceState) (r : Registers) (memory : List ℕ)
      → IsOperand context first one
      → IsOperand context second two
      → is_free context.site second ≡ true
      → fits_byte (knowing context.site facts) second ≡ true
      → s.budget < context.number
      → HasRoom context.activation top pushed need
      → 2 * height_of one ≤ need
      → 2 * height_of two ≤ need
      → StepsStand context (PartDoes context) facts from
      (with_byte_steps first second pushed ++ others) last to
      → GoesOn context facts top base s.memory s.frame r memory
      → Continues more top base s.budget others last to HasBoth go Good
      → Does (loaded_of context.activation) s.budget more (at_place from r memory s.events)
      (then_do (meant one s) (λ m t. then_do (meant two t) (λ n u. go m n u))) Good
  byte_beside_then {pushed = pushed} {facts = facts} {go = go} {second = second} others from s r memory one
      two free fits less room high higher (PartThere {middle = middle} part rest) going continue =
      word_then from s r memory part one.is one.types less room high going
      (λ m t now ended same fewer going_on given.
      let then_part = part_first rest in
      byte_then middle t now ended then_part.does two.is two.types (omega (arith, less, fewer))
      room higher going_on
      (λ n u then_registers then_ended also fewer_still going_still then_given.
      let small : n < 256 =
      fits_means context sound facts t two.is two.types fits (ready_fits context t going_on.ready) also in
      let only = then_given.free free in
      registers_then (copy E A ∷ set D 0 ∷ []) others then_registers sound (tt, (tt, tt))
      then_part.rest going_still
      (λ last_middle last_found stand going_last.
      continue m n u (effect (copy E A ∷ set D 0 ∷ []) then_registers) then_ended last_middle last_found
      (omega (arith, fewer, fewer_still)) stand going_last
      (record {
        h = only.h ∙ given.h;
        l = only.l ∙ given.l;
        d = no_high_byte n small;
        e = then_given.a;
      }))))

  -- the first one onto the stack, the second one into HL, and the first one into DE
  stack_then :
      {B : Type 0} {more pushed top need to : ℕ} {base : List ℕ} {facts last : Facts}
      {go : ℕ → ℕ → SourceState → Outcome B} {Good : B → SourceState → State → Type 0}
      {first second : ExpressionNumber} {one two : TypedExpression} (others : List Step) (from : ℕ)
      (s : SourceState) (r : Registers) (memory : List ℕ)
      → IsOperand context first one
      → IsOperand context second two
      → s.budget < context.number
      → HasRoom context.activation top pushed need
      → 2 * height_of one ≤ need
      → 2 + 2 * height_of two ≤ need
      → StepsStand context (PartDoes context) facts from
      (with_stack_steps first second pushed ++ others) last to
      → GoesOn context facts top base s.memory s.frame r memory
      → Continues more top base s.budget others last to (λ m n r. HasBoth n m r) go Good
      → Does (loaded_of context.activation) s.budget more (at_place from r memory s.events)
      (then_do (meant one s) (λ m t. then_do (meant two t) (λ n u. go m n u))) Good
  stack_then {pushed = pushed} {top = top} {need = need} {go = go} {second = second} {two = second_tree}
      others from s r memory one two less room high higher
      (PartThere part (PlainThere push_there (PartThere then_part (PlainThere pop_there rest)))) going
      continue =
      let some = some_height second_tree in
      let enough : 2 ≤ need = omega (arith, higher) in
      word_then from s r memory part one.is one.types less room high going
      (λ m t now ended same fewer going_on given.
      push_goes StackHl now sound push_there going_on enough room
      (λ pushed_on.
      word_then _ t (record now { sp = wrap (top - 2) }) _ then_part two.is two.types
      (omega (arith, less, fewer))
      (more_pushed (2 * height_of second_tree) sound.lies (omega (arith, some)) higher room)
      (omega arith) pushed_on
      (λ n u then_registers then_ended also fewer_still going_still then_given.
      let bytes = going_on.ready.registers in
      let h_small = bytes.h in
      let l_small = bytes.l in
      pop_goes StackDe then_registers sound pop_there enough room going_on.ready
      (omega (arith, h_small, l_small)) going_still
      (λ going_last.
      continue m n u _ then_ended _ _ (omega (arith, fewer, fewer_still)) rest going_last
      (record {
        h = then_given.h;
        l = then_given.l;
        d = high_of_joined now.h now.l m given.h given.l;
        e = low_of_joined now.h now.l m given.h given.l;
      })))))

  -- the requirement of a form
  abbrev IsAllowed : Facts → (left right : ExpressionNumber) → PairForm → Type 0
  IsAllowed facts left right (RightKnown place) = known (knowing context.site facts) right ≡ Some place
  IsAllowed facts left right (LeftKnown place) = known (knowing context.site facts) left ≡ Some place
  IsAllowed facts left right RightKeeps = (keeps (knowing context.site facts) right).de ≡ true
  IsAllowed facts left right LeftKeeps =
      (may_exchange (knowing context.site facts) left right ≡ true)
      × ((keeps (knowing context.site facts) left).de ≡ true)
  IsAllowed facts left right RightFree = is_free_byte (knowing context.site facts) right ≡ true
  IsAllowed facts left right LeftFree =
      (may_exchange (knowing context.site facts) left right ≡ true)
      × (is_free_byte (knowing context.site facts) left ≡ true)
  IsAllowed facts left right Pushed = Unit {0}

  chosen :
      {X : Type 0} (P : X → Type 0) (test : Bool) (one other : X)
      → (test ≡ true → P one) → (test ≡ false → P other)
      → P (if test then one else other)
  chosen P true one other this that = this refl
  chosen P false one other this that = that refl

  module _ (facts : Facts) (left right : ExpressionNumber) where
    abbrev choices : Choices
    choices = choices_of (knowing context.site facts) left right

    abbrev Allowed : PairForm → Type 0
    Allowed form = IsAllowed facts left right form

    left_keeps_allowed : choices.left_keeps ≡ true → Allowed LeftKeeps
    left_keeps_allowed is =
        and_parts (may_exchange (knowing context.site facts) left right)
        (keeps (knowing context.site facts) left).de is

    left_free_allowed : choices.left_is_free ≡ true → Allowed LeftFree
    left_free_allowed is =
        and_parts (may_exchange (knowing context.site facts) left right)
        (is_free_byte (knowing context.site facts) left) is

    any_allowed : Allowed (any_order choices)
    any_allowed =
        chosen Allowed (choices.left_keeps && choices.right_is_in_hl) LeftKeeps _
        (λ is. left_keeps_allowed (and_parts choices.left_keeps choices.right_is_in_hl is).0)
        (λ _. chosen Allowed choices.right_keeps RightKeeps _ (λ is. is)
        (λ _. chosen Allowed choices.left_keeps LeftKeeps _ (λ is. left_keeps_allowed is)
        (λ _. chosen Allowed choices.right_is_free RightFree _ (λ is. is)
        (λ _. chosen Allowed choices.left_is_free LeftFree Pushed (λ is. left_free_allowed is) (λ _. tt)))))

    left_allowed : Allowed (left_in_hl choices)
    left_allowed =
        chosen Allowed (choices.left_is_in_hl && choices.right_is_free) RightFree _
        (λ is. (and_parts choices.left_is_in_hl choices.right_is_free is).1)
        (λ _. chosen Allowed (choices.left_is_in_hl && choices.right_keeps) RightKeeps _
        (λ is. (and_parts choices.left_is_in_hl choices.right_keeps is).1)
        (λ _. chosen Allowed choices.left_keeps LeftKeeps _ (λ is. left_keeps_allowed is)
        (λ _. chosen Allowed choices.right_is_free RightFree (any_order choices) (λ is. is)
        (λ _. any_allowed))))

    right_allowed : Allowed (right_in_hl choices)
    right_allowed =
        chosen Allowed (choices.right_is_in_hl && choices.left_is_free) LeftFree _
        (λ is. left_free_allowed (and_parts choices.right_is_in_hl choices.left_is_free is).1)
        (λ _. chosen Allowed (choices.right_is_in_hl && choices.left_keeps) LeftKeeps _
        (λ is. left_keeps_allowed (and_parts choices.right_is_in_hl choices.left_keeps is).1)
        (λ _. chosen Allowed choices.right_keeps RightKeeps _ (λ is. is)
        (λ _. chosen Allowed choices.left_is_free LeftFree (any_order choices) (λ is. left_free_allowed is)
        (λ _. any_allowed))))

    form_allowed : (wish : Option PairOrder)
        → Allowed (pair_form (knowing context.site facts) left right wish)
    form_allowed wish = by_right (known (knowing context.site facts) right) refl
      where
        by_wish : (asked : Option PairOrder)
            → Allowed (elim asked [
              | Some order ↦ elim order [
                | LeftInHl ↦ left_in_hl choices
                | RightInHl ↦ right_in_hl choices
              ]
              | None ↦ any_order choices
            ])
        by_wish (Some LeftInHl) = left_allowed
        by_wish (Some RightInHl) = right_allowed
        by_wish None = any_allowed

        by_left : (found : Option Place) → known (knowing context.site facts) left ≡ found
            → Allowed (elim found [
              | Some place ↦ LeftKnown place
              | None ↦ elim wish [
                | Some order ↦ elim order [
                  | LeftInHl ↦ left_in_hl choices
                  | RightInHl ↦ right_in_hl choices
                ]
                | None ↦ any_order choices
              ]
            ])
        by_left (Some place) is = is
        by_left None is = by_wish wish

        by_right : (found : Option Place) → known (knowing context.site facts) right ≡ found
            → Allowed (elim found [
              | Some place ↦ RightKnown place
              | None ↦ elim (known (knowing context.site facts) left) [
                | Some place ↦ LeftKnown place
                | None ↦ elim wish [
                  | Some order ↦ elim order [
                    | LeftInHl ↦ left_in_hl choices
                    | RightInHl ↦ right_in_hl choices
                  ]
                  | None ↦ any_order choices
                ]
              ]
            ])
        by_right (Some place) is = is
        by_right None is = by_left (known (knowing context.site facts) left) refl

  pub keeps_same : (facts : Facts) (of : ExpressionNumber)
      → keeps (knowing context.site facts) of ≡ keeps context.site of
  unfolding keeps expression
  keeps_same facts of = refl

  pub free_same : (facts : Facts) (of : ExpressionNumber)
      → is_free (knowing context.site facts) of ≡ is_free context.site of
  unfolding is_free expression
  free_same facts of = refl

  kept_de : (facts : Facts) (of : ExpressionNumber) → (keeps (knowing context.site facts) of).de ≡ true
      → (keeps context.site of).de ≡ true
  kept_de facts of is = sym (ap (λ kept. kept.de) (keeps_same facts of)) ∙ is

  -- two operands in a form
  form_then :
      {B : Type 0} {more pushed top need to : ℕ} {base : List ℕ} {facts last : Facts}
      {go : ℕ → ℕ → SourceState → Outcome B} {Good : B → SourceState → State → Type 0}
      {left right : ExpressionNumber} {first second : TypedExpression} (form : PairForm) (others : List Step)
      (from : ℕ) (s : SourceState) (r : Registers) (memory : List ℕ)
      → IsOperand context left first
      → IsOperand context right second
      → IsAllowed facts left right form
      → s.budget < context.number
      → HasRoom context.activation top pushed need
      → 2 * height_of first ≤ need
      → 2 + 2 * height_of second ≤ need
      → StepsStand context (PartDoes context) facts from (form_steps form left right pushed ++ others) last to
      → GoesOn context facts top base s.memory s.frame r memory
      → Continues more top base s.budget others last to (HasPair (order_of form)) go Good
      → Does (loaded_of context.activation) s.budget more (at_place from r memory s.events)
      (then_do (meant first s) (λ x t. then_do (meant second t) (λ y u. go x y u))) Good
  form_then {more = more} {facts = facts} {go = go} {Good = Good} {first = first} {second = second}
      (RightKnown place) others from s r memory one two allowed less room high higher stand going continue =
      subst (λ outcome. Does (loaded_of context.activation) s.budget more
      (at_place from r memory s.events) outcome Good)
      (sym (same_rest (meant first s) (λ x t. then_do (meant second t) (λ y u. go x y u))
      (λ x t. go x (place_at context.activation.layout place) t)
      (λ x t. ap (λ outcome. then_do outcome (λ y u. go x y u))
      (known_means facts place sound two.is two.types allowed t))))
      (known_then others place from s r memory one
      (word_fits (place_at context.activation.layout place) (type_of second)
      (known_small facts place sound two.is two.types allowed))
      less room high stand going continue)
  form_then {more = more} {facts = facts} {go = go} {Good = Good} {first = first} {second = second}
      (LeftKnown place) others from s r memory one two allowed less room high higher stand going continue =
      subst (λ outcome. Does (loaded_of context.activation) s.budget more
      (at_place from r memory s.events) outcome Good)
      (sym (ap (λ outcome. then_do outcome (λ x t. then_do (meant second t) (λ y u. go x y u)))
      (known_means facts place sound one.is one.types allowed s)))
      (known_then {go = λ y x u. go x y u} others place from s r memory two
      (word_fits (place_at context.activation.layout place) (type_of first)
      (known_small facts place sound one.is one.types allowed))
      less room (omega (arith, higher)) stand going
      (λ y x t now ended middle found. continue x y t now ended middle found))
  form_then {facts = facts} {right = right} RightKeeps others from s r memory one two allowed less room high
      higher stand going continue =
      exchange_then others from s r memory one two (kept_de facts right allowed) less room high
      (omega (arith, higher)) stand going continue
  form_then {facts = facts} {go = go} {left = left} {first = first} {second = second} LeftKeeps others from s
      r memory one two allowed less room high higher stand going continue =
      does_exchanged facts go s sound one.is two.is one.types allowed.0
      (exchange_then {go = λ y x u. go x y u} others from s r memory two one (kept_de facts left allowed.1)
      less room (omega (arith, higher)) high stand going
      (λ y x t now ended middle found. continue x y t now ended middle found))
  form_then {facts = facts} {right = right} RightFree others from s r memory one two allowed less room high
      higher stand going continue =
      let is =
      and_parts (fits_byte (knowing context.site facts) right)
      (is_free (knowing context.site facts) right) allowed in
      byte_beside_then others from s r memory one two (sym (free_same facts right) ∙ is.1) is.0 less room high
      (omega (arith, higher)) stand going continue
  form_then {facts = facts} {go = go} {left = left} {first = first} {second = second} LeftFree others from s r
      memory one two allowed less room high higher stand going continue =
      let is =
      and_parts (fits_byte (knowing context.site facts) left)
      (is_free (knowing context.site facts) left) allowed.1 in
      does_exchanged facts go s sound one.is two.is one.types allowed.0
      (byte_beside_then {go = λ y x u. go x y u} others from s r memory two one
      (sym (free_same facts left) ∙ is.1) is.0 less room (omega (arith, higher)) high stand going
      (λ y x t now ended middle found. continue x y t now ended middle found))
  form_then Pushed others from s r memory one two allowed less room high higher stand going continue =
      stack_then others from s r memory one two less room high higher stand going continue

  -- where one order is wished for, they change places if they are in the other one
  swapped_pair : (x y : ℕ) (r : Registers) (order : PairOrder) → HasPair order x y r
      → HasPair (other_order order) x y (effect (Xchg ∷ []) r)
  swapped_pair x y r LeftInHl has = record { h = has.d; l = has.e; d = has.h; e = has.l }
  swapped_pair x y r RightInHl has = record { h = has.d; l = has.e; d = has.h; e = has.l }

  wished_then :
      {B : Type 0} {more top to budget : ℕ} {base : List ℕ} {last : Facts}
      {go : ℕ → ℕ → SourceState → Outcome B} {Good : B → SourceState → State → Type 0}
      (wish : Option PairOrder) (order : PairOrder) (others : List Step)
      → Continues more top base budget others last to (HasPair (wished_order wish order)) go Good
      → Continues more top base budget (wished_steps wish order ++ others) last to (HasPair order) go Good
  wished_then None LeftInHl others continue = continue
  wished_then None RightInHl others continue = continue
  wished_then (Some LeftInHl) LeftInHl others continue = continue
  wished_then (Some RightInHl) RightInHl others continue = continue
  wished_then {go = go} (Some LeftInHl) RightInHl others continue =
      λ x y t now ended middle found less stand going has.
      registers_then (Xchg ∷ []) others now sound (tt, tt) stand going
      (λ after after_found rest swapped.
      continue x y t (effect (Xchg ∷ []) now) ended after after_found less rest swapped
      (swapped_pair x y now RightInHl has))
  wished_then {go = go} (Some RightInHl) LeftInHl others continue =
      λ x y t now ended middle found less stand going has.
      registers_then (Xchg ∷ []) others now sound (tt, tt) stand going
      (λ after after_found rest swapped.
      continue x y t (effect (Xchg ∷ []) now) ended after after_found less rest swapped
      (swapped_pair x y now LeftInHl has))

  order_same : (site : Site) (left right : ExpressionNumber) (wish : Option PairOrder)
      → wished_order wish (order_of (pair_form site left right wish)) ≡ pair_order_by site left right wish
  order_same site left right None = refl
  order_same site left right (Some wish) = refl

  -- two operands, in the order that is wished for
  pub pair_then :
      {B : Type 0} {more pushed top need to : ℕ} {base : List ℕ} {facts last : Facts}
      {go : ℕ → ℕ → SourceState → Outcome B} {Good : B → SourceState → State → Type 0}
      {left right : ExpressionNumber} {first second : TypedExpression} (wish : Option PairOrder)
      (others : List Step)
      (from : ℕ) (s : SourceState) (r : Registers) (memory : List ℕ)
      → IsOperand context left first
      → IsOperand context right second
      → s.budget < context.number
      → HasRoom context.activation top pushed need
      → 2 * height_of first ≤ need
      → 2 + 2 * height_of second ≤ need
      → StepsStand context (PartDoes context) facts from
      (pair_in_order_steps (knowing context.site facts) left right wish pushed ++ others) last to
      → GoesOn context facts top base s.memory s.frame r memory
      → Continues more top base s.budget others last to
      (HasPair (pair_order_by (knowing context.site facts) left right wish)) go Good
      → Does (loaded_of context.activation) s.budget more (at_place from r memory s.events)
      (then_do (meant first s) (λ x t. then_do (meant second t) (λ y u. go x y u))) Good
  pair_then {more = more} {pushed = pushed} {top = top} {to = to} {base = base} {facts = facts} {last = last}
      {go = go} {Good = Good} {left = left} {right = right} wish others from s r memory one two less room high
      higher stand going continue =
      let form : PairForm = pair_form (knowing context.site facts) left right wish in
      form_then form (wished_steps wish (order_of form) ++ others) from s r memory one two
      (form_allowed facts left right wish) less room high higher
      (subst (λ steps. StepsStand context (PartDoes context) facts from steps last to)
      (append_assoc (form_steps form left right pushed) (wished_steps wish (order_of form)) others) stand)
      going
      (wished_then wish (order_of form) others
      (subst (λ order. Continues more top base s.budget others last to (HasPair order) go Good)
      (sym (order_same (knowing context.site facts) left right wish)) continue))
