-- What is known where ways meet, and conditions at whose one jump the same is known as at their end.
use Rattle.statement_laws.proofs.Prelude.{◌≡◌, ℕ, zero, suc, Bool, true, false, not, ◌&&◌, if◌then◌else◌, List, Option, Some, None, refl, sym, subst, ◌∙◌, true≢false, BinaryOperator, Negate, Not, TypedExpression, Registers, Expression, ExpressionForm, ExpressionNumber, Location, IsExpression, IsForm, IsNumber, IsValue, IsLocation, IsConstantList, IsConversion, IsEmbedded, IsUnary, IsBinary, IsCallOf, IsFunction, IsShift, IsInput, Activation, AddressHolds, AllHold, ByteHolds, Distances, IsByteAt, IsWordAt, WordHolds, ZeroHolds, location_at, same_locations, Facts, same_location, knowing, has_one_jump_within, inner_of_form, is_and_or_or, may_jump_twice_by, Here, arriving, common, common_location, known_here, met, is_plain, jumps_once, Context, IsSound, distances_in, nodes_in, Know, node_of}
use Rattle.trees.specs.declared.expression.BinaryOperator.TheVariants as operators

module _ (activation : Activation) (distance : Distances) where
  -- one of two locations that are the same, or none
  picked :
      (Holds : Option Location → Type 0) (one other : Location) (test : Bool)
      → (test ≡ true → Holds (Some one))
      → Holds None
      → Holds (if test then Some one else None)
  picked Holds one other true here none = here refl
  picked Holds one other false here none = none

  -- what holds of one of two, and whatever holds of the other where they are at one address
  common_holds_of :
      (Holds : Option Location → Type 0) (one other : Option Location)
      → Holds None
      → Holds one
      → Holds (common_location one other)
  common_holds_of Holds (Some one) (Some other) none here =
      picked Holds one other (same_location one other) (λ same. here) none
  common_holds_of Holds (Some one) None none here = none
  common_holds_of Holds None other none here = none

  common_holds_by :
      (Holds : Option Location → Type 0) (one other : Option Location)
      → ((first second : Location) → location_at activation distance first
      ≡ location_at activation distance second
      → Holds (Some second) → Holds (Some first))
      → Holds None
      → Holds other
      → Holds (common_location one other)
  common_holds_by Holds (Some one) (Some other) moves none here =
      pick (same_location one other) refl
    where
      pick : (test : Bool) → same_location one other ≡ test → Holds (if test then Some one else None)
      pick true same = moves one other (same_locations activation distance one other same) here
      pick false same = none
  common_holds_by Holds (Some one) None moves none here = none
  common_holds_by Holds None other moves none here = none

  zero_of : (one other : Bool) (zero_flag : Bool) (a : ℕ) → ZeroHolds one zero_flag a
      → ZeroHolds (one && other) zero_flag a
  zero_of true true zero_flag a holds = holds
  zero_of true false zero_flag a holds = tt
  zero_of false other zero_flag a holds = tt

  zero_by : (one other : Bool) (zero_flag : Bool) (a : ℕ) → ZeroHolds other zero_flag a
      → ZeroHolds (one && other) zero_flag a
  zero_by true other zero_flag a holds = holds
  zero_by false other zero_flag a holds = tt

  -- what is known by both of two facts holds where the first do
  common_first :
      {a h l : ℕ} {zero_flag : Bool} {memory : List ℕ} (one other : Facts)
      → AllHold activation distance one a h l zero_flag memory
      → AllHold activation distance (common one other) a h l zero_flag memory
  common_first {a = a} {h = h} {l = l} {zero_flag = zero_flag} {memory = memory} one other holds = record {
    byte_holds =
        common_holds_of (λ location. ByteHolds activation distance location a memory)
        one.byte_in_a other.byte_in_a tt
        holds.byte_holds;
    word_holds =
        common_holds_of (λ location. WordHolds activation distance location h l memory)
        one.word_in_hl other.word_in_hl tt
        holds.word_holds;
    address_holds =
        common_holds_of (λ location. AddressHolds activation distance location h l)
        one.address_in_hl other.address_in_hl
        tt holds.address_holds;
    zero_holds = zero_of one.zero_shows_a other.zero_shows_a zero_flag a holds.zero_holds;
  }

  -- and where the second do
  common_second :
      {a h l : ℕ} {zero_flag : Bool} {memory : List ℕ} (one other : Facts)
      → AllHold activation distance other a h l zero_flag memory
      → AllHold activation distance (common one other) a h l zero_flag memory
  common_second {a = a} {h = h} {l = l} {zero_flag = zero_flag} {memory = memory} one other holds = record {
    byte_holds =
        common_holds_by (λ location. ByteHolds activation distance location a memory)
        one.byte_in_a other.byte_in_a
        (λ first second same here. subst (λ (address : ℕ). IsByteAt activation memory address a) (sym same)
        here) tt
        holds.byte_holds;
    word_holds =
        common_holds_by (λ location. WordHolds activation distance location h l memory)
        one.word_in_hl other.word_in_hl
        (λ first second same here. subst (λ (address : ℕ). IsWordAt activation memory address h l) (sym same)
        here) tt
        holds.word_holds;
    address_holds =
        common_holds_by (λ location. AddressHolds activation distance location h l)
        one.address_in_hl other.address_in_hl
        (λ first second same here. here ∙ sym same) tt holds.address_holds;
    zero_holds = zero_by one.zero_shows_a other.zero_shows_a zero_flag a holds.zero_holds;
  }

-- facts of the first way hold where both meet
pub first_meets :
    (context : Context) (r : Registers) (memory : List ℕ) (one other : Facts)
    → Know context one r memory
    → Know context (common one other) r memory
first_meets context r memory one other known =
    common_first context.activation (distances_in context) one other known

-- and so do those of the second
pub second_meets :
    (context : Context) (r : Registers) (memory : List ℕ) (one other : Facts)
    → Know context other r memory
    → Know context (common one other) r memory
second_meets context r memory one other known =
    common_second context.activation (distances_in context) one other known

-- code comes to a place where ways meet, and what is known there holds
pub record Meets (context : Context) (there : Here) (r : Registers) (memory : List ℕ) : Type 0 where
  pub goes_on : there.goes_on ≡ true
  pub known : Know context there.facts r memory

-- from the way that ends there
pub meets_here :
    (context : Context) (r : Registers) (memory : List ℕ) (here : Here) (waiting : Option Facts)
    → here.goes_on ≡ true
    → Know context here.facts r memory
    → Meets context (arriving (met (known_here here) waiting)) r memory
meets_here context r memory here waiting goes_on known =
    subst (λ (b : Bool). Meets context (arriving (met (if b then Some here.facts else None) waiting)) r
    memory) (sym goes_on)
    (by waiting)
  where
    by : (waiting : Option Facts) → Meets context (arriving (met (Some here.facts) waiting)) r memory
    by (Some other) = record { goes_on = refl; known = first_meets context r memory here.facts other known }
    by None = record { goes_on = refl; known = known }

-- from the one that waits
pub meets_waiting :
    (context : Context) (r : Registers) (memory : List ℕ) (here : Option Facts) (waiting : Facts)
    → Know context waiting r memory
    → Meets context (arriving (met here (Some waiting))) r memory
meets_waiting context r memory (Some one) waiting known =
    record { goes_on = refl; known = second_meets context r memory one waiting known }
meets_waiting context r memory None waiting known = record { goes_on = refl; known = known }

-- code that goes on waits with what is known
pub waits_here :
    (context : Context) (r : Registers) (memory : List ℕ) (one : Option Facts) (here : Here)
    → here.goes_on ≡ true
    → Know context here.facts r memory
    → Meets context (arriving (met one (known_here here))) r memory
waits_here context r memory one here goes_on known =
    subst (λ (b : Bool). Meets context (arriving (met one (if b then Some here.facts else None))) r memory)
    (sym goes_on)
    (meets_waiting context r memory one here.facts known)

no_and_or : (operator : BinaryOperator) → not (is_and_or_or operator) ≡ true → is_plain operator ≡ true
no_and_or operators.And is = absurd (true≢false (sym is))
no_and_or operators.Or is = absurd (true≢false (sym is))
no_and_or operators.Xor is = refl
no_and_or operators.Equal is = refl
no_and_or operators.Less is = refl
no_and_or operators.Greater is = refl
no_and_or operators.LessOrEqual is = refl
no_and_or operators.GreaterOrEqual is = refl
no_and_or operators.Unequal is = refl
no_and_or operators.Add is = refl
no_and_or operators.Subtract is = refl
no_and_or operators.Multiply is = refl
no_and_or operators.Divide is = refl
no_and_or operators.Modulo is = refl

-- a condition that surely has one jump
pub has_one_jump_is :
    {context : Context} {bound : ℕ} {tree : TypedExpression} (facts : Facts) (left : ℕ)
    (condition : ExpressionNumber)
    → IsSound context
    → IsExpression (nodes_in context) context.storage bound condition.index tree
    → has_one_jump_within left (knowing context.site facts) condition ≡ true
    → jumps_once tree ≡ true
unfolding has_one_jump_within
has_one_jump_is facts zero condition sound is one = absurd (true≢false (sym one))
has_one_jump_is {context = context} {tree = tree} facts (suc left) condition sound is one =
    let node = node_of sound is in
    by (λ inside below inner there single. has_one_jump_is facts left inside sound there single) node.form
    (subst (λ (found : Option Expression).
    elim (elim found as (λ (given : Option Expression). Option
    ExpressionNumber) [ Some given ↦ inner_of_form given.form | None ↦ None ])
    as (λ (given : Option ExpressionNumber). Bool) [
      | Some inside ↦ has_one_jump_within left (knowing context.site facts) inside
      | None ↦ not
          (elim found as (λ (given : Option Expression). Bool) [ Some given ↦ may_jump_twice_by given.form | None ↦ true ])
    ] ≡ true) (node.at_site facts) one)
  where
    by : {form : ExpressionForm} {one_tree : TypedExpression} {number : ℕ}
        → ((inside : ExpressionNumber) (below : ℕ) (inner : TypedExpression)
        → IsExpression (nodes_in context) context.storage below inside.index inner
        → has_one_jump_within left (knowing context.site facts) inside ≡ true
        → jumps_once inner ≡ true)
        → IsForm (nodes_in context) context.storage number form one_tree
        → elim (inner_of_form form) as (λ (given : Option ExpressionNumber). Bool) [
          | Some inside ↦ has_one_jump_within left (knowing context.site facts) inside
          | None ↦ not (may_jump_twice_by form)
        ] ≡ true
        → jumps_once one_tree ≡ true
    by again IsNumber one = refl
    by again (IsValue part) one = refl
    by again (IsLocation part) one = refl
    by again IsConstantList one = refl
    by again (IsConversion {inner = inside} inner) one = again inside _ _ inner one
    by again (IsEmbedded target inner) one = refl
    by again (IsUnary {operator = Not} {operand = inside} inner) one = again inside _ _ inner one
    by again (IsUnary {operator = Negate} inner) one = absurd (true≢false (sym one))
    by again (IsBinary {operator = operator} first second) one = no_and_or operator one
    by again (IsCallOf are) one = refl
    by again (IsFunction inner) one = absurd (true≢false (sym one))
    by again (IsShift first second) one = refl
    by again IsInput one = refl
