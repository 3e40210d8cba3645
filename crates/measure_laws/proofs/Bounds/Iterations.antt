-- Iterative DO.
use Rattle.measure_laws.proofs.Prelude.{◌≡◌, ℕ, ◌+◌, ◌%◌, Bool, true, false, not, ◌&&◌, if◌then◌else◌, nat_eq, nat_le, [], ◌∷◌, ◌++◌, Option, Some, None, refl, ap, ◌∙◌, arith, Carry, NoCarry, NotZero, Zero, AccumulateImmediate, Dad, Inr, Inx, MovToMemory, Xchg, M, Add, AddWithCarry, Compare, Or, Subtract, SubtractWithBorrow, De, Hl, A, D, E, H, L, Jump, JumpWhere, LoadA, LoadPair, StoreHl, ScalarType, Byte, Address, type_of, NoSubscript, PartOf, StoredIn, TypedExpression, TypedIteration, weight_of_expression, weight_of_iteration, weight_of_optional, weight_of_storing, Storage, Expression, ExpressionNumber, Range, Location, Place, Iteration, place_after, IsExpressionIn, IsIteration, IsNode, IsNoValue, IsOptional, IsSomeValue, IsStored, nodes_of, LabelNumber, label_of, copy, high, load, low, set, with_memory, with_register, Site, expression, scalar, known, location_of, number, knowing, Facts, Body, Test, Counter, Again, Jumped, ListOf, Meet, Reaches, whole, counter_of, counter_place, counts_by_one, has_a_turn, add_byte_steps, add_de_steps, add_steps, add_word_to_byte_steps, asked_jump, asked_mark, asked_test_steps, below_steps, count_at_hl_steps, count_steps, counts_in_place, facts_of_turn, first_steps, first_test_steps, general_begin_steps, general_end_steps, general_steps, is_byte, is_byte_type, iteration_steps, loop_labels, next_byte_steps, next_steps, next_turn_steps, next_word_steps, step_in_de_steps, step_steps, sum_of_byte_steps, sum_of_word_steps, test_label_steps, to_known_steps, turns_if_any, turns_steps, all, jump, mark, nth_label, part, plain, word, computed_test, facts_of_test, known_test, less_steps, test_of, test_steps, word_at, word_test_by, site_of, bytes_for, BodyGround, HoldsWithinLevel, IsWithinLevel, MayGo, PlanBinds, IfSome, PlanFootprint, ◌≤◌, ◌⊎◌, inl, inr}
use Rattle.steps8080.specs.declared.step.Task.TheVariants as tasks
use Rattle.statements8080.specs.declared.bound.Test.TheVariants as tests
use Rattle.measure_laws.proofs.{Bounds.Assignments.{value_fits}, Bounds.Fitting.{asking_fits, both_fit, closed_fit, either_fit, finding_fits, less_fits, none_fit, then_fit}, Bounds.Singles.{single_fits}, Labels.Binding.{plan_first, plan_later}}
use Rattle.measure_laws.proofs.Bounds.Planning.{byte_fits, load_byte_fits, load_word_fits, plain_fits, plains_fit, whole_address_fits, whole_is, within_is, word_fits}

-- sets the carry if HL is less than a number, and clears it otherwise
pub less_steps_fit : {at : BodyGround} (bound : ℕ) → PlanFootprint at (less_steps bound) 12
less_steps_fit bound =
    either_fit (nat_eq (bound % 256) 0)
    (less_fits (plains_fit (all (copy A H ∷ AccumulateImmediate Compare (high bound) ∷ [])) refl tt)
    (omega arith))
    (less_fits
    (plains_fit
    (all
    (copy A L ∷ AccumulateImmediate Subtract (low bound)
    ∷ copy A H ∷ AccumulateImmediate SubtractWithBorrow (high bound) ∷ [])) refl tt)
    (omega arith))

-- the place of a label, if asked for, and a jump to it
asked_mark_fits : {at : BodyGround} (is_asked : Bool) (label : LabelNumber)
    → PlanFootprint at (asked_mark is_asked label) 0
asked_mark_fits is_asked label = either_fit is_asked (plains_fit (mark label ∷ []) refl tt) none_fit

asked_jump_fits :
    {at : BodyGround} (is_tested : Bool) (test : LabelNumber)
    → (is_tested ≡ true → MayGo at test.index)
    → PlanFootprint at (asked_jump is_tested test) 3
asked_jump_fits is_tested test to =
    asking_fits is_tested (λ tested. plains_fit (Jumped true ∷ jump Jump test ∷ []) refl (to tested, tt))
    (λ not_tested. none_fit)

-- the place of the test is bound if it is asked for, or if an ADDRESS is counted by 1
label_bound_by :
    (one entered : Bool) (variable : ScalarType) (test : LabelNumber)
    → ((one ≡ true) × (variable ≡ Address)) ⊎ (entered ≡ true)
    → PlanBinds test.index
    (if one && not (is_byte_type variable) then mark test ∷ [] else if entered then Meet test ∷ [] else [])
label_bound_by true entered Address test is = inl refl
label_bound_by true true Byte test is = inl refl
label_bound_by false true variable test is = inl refl
label_bound_by true false Byte test (inl is) = let never : ⊥ = cc in absurd never
label_bound_by true false Byte test (inr is) = let never : ⊥ = cc in absurd never
label_bound_by false false variable test (inl is) = let never : ⊥ = cc in absurd never
label_bound_by false false variable test (inr is) = let never : ⊥ = cc in absurd never

label_bound :
    (counter : Counter) (one entered : Bool) (test : LabelNumber)
    → ((one ≡ true) × (counter.scalar ≡ Address)) ⊎ (entered ≡ true)
    → PlanBinds test.index (test_label_steps counter one entered test)
unfolding test_label_steps
label_bound counter one entered test is = label_bound_by one entered counter.scalar test is

-- the end of a loop with a known bound is bound if it is asked for
end_asked :
    (counter : Counter) (last : ℕ) (is_tested : Bool) (range : Range) (turn end : LabelNumber)
    → is_tested ≡ true
    → PlanBinds end.index
    (asked_test_steps counter last is_tested end
    ++ (Again turn (facts_of_turn counter) true
    ∷ ListOf range
    ∷ (next_turn_steps counter last turn ++ (asked_mark is_tested end ++ (Reaches true ∷ [])))))
end_asked counter last true range turn end is =
    plan_later end.index (asked_test_steps counter last true end) _
    (inr (inr (plan_later end.index (next_turn_steps counter last turn) _ (inl refl))))
end_asked counter last false range turn end is = let never : ⊥ = cc in absurd never

-- the labels of the general form are bound
turn_bound :
    (counter : Counter) (test : Test) (is_tested : Bool) (range : Range) (first : ℕ)
    → PlanBinds first (general_begin_steps counter test is_tested range (loop_labels first))
unfolding general_begin_steps
turn_bound counter test is_tested range first =
    plan_later first (asked_jump is_tested (nth_label first 1)) _ (inl refl)

end_bound :
    (site : Site) (counter : Counter) (head : Iteration) (test : Test) (is_tested : Bool) (first : ℕ)
    → PlanBinds (nth_label first 2).index
    (general_end_steps site counter head test is_tested (loop_labels first))
unfolding general_end_steps
end_bound site counter head test is_tested first =
    plan_later (nth_label first 2).index (step_steps site counter head.step (loop_labels first)) _
    (plan_later (nth_label first 2).index
    (test_label_steps counter (counts_by_one site head.step) is_tested (nth_label first 1)) _
    (plan_later (nth_label first 2).index (test_steps counter test (label_of first)) _ (inl refl)))

test_bound :
    (site : Site) (counter : Counter) (head : Iteration) (test : Test) (is_tested : Bool) (first : ℕ)
    → ((counts_by_one site head.step ≡ true) × (counter.scalar ≡ Address)) ⊎ (is_tested ≡ true)
    → PlanBinds (nth_label first 1).index
    (general_end_steps site counter head test is_tested (loop_labels first))
unfolding general_end_steps
test_bound site counter head test is_tested first is =
    plan_later (nth_label first 1).index (step_steps site counter head.step (loop_labels first)) _
    (plan_first (nth_label first 1).index
    (test_label_steps counter (counts_by_one site head.step) is_tested (nth_label first 1)) _
    (label_bound counter (counts_by_one site head.step) is_tested (nth_label first 1) is))

-- the variable of a loop is a whole object
module _ (at : BodyGround) (object : ℕ) (kind : ScalarType) (location : Option Location)
    (two : 2 ≤ at.level) where
  abbrev counter : Counter
  counter = record { reference = whole object; scalar = kind; location = location }

  address_first : PlanFootprint at (part (tasks.Address (whole object)) 0 ∷ []) 32
  address_first = whole_address_fits at object two

  -- tests whether it is less than a number
  below_fits :
      (scalar : ScalarType) (bound : ℕ)
      → PlanFootprint at (below_steps scalar counter bound) 56
  below_fits Byte bound =
      less_fits
      (then_fit (load_byte_fits at object two)
      (plains_fit (plain (AccumulateImmediate Compare (low bound)) ∷ []) refl tt))
      (omega arith)
  below_fits Address bound =
      then_fit (load_word_fits at object two) (less_steps_fit bound)

  first_test_fits :
      (last : ℕ) (end : LabelNumber) → MayGo at end.index
      → PlanFootprint at (first_test_steps counter last end) 59
  unfolding first_test_steps
  first_test_fits last end to =
      either_fit (nat_le 65535 last) none_fit
      (both_fit (below_fits kind (last + 1)) (plains_fit (jump (JumpWhere NoCarry) end ∷ []) refl (to, tt)))

  asked_test_fits :
      (last : ℕ) (is_tested : Bool) (end : LabelNumber)
      → (is_tested ≡ true → MayGo at end.index)
      → PlanFootprint at (asked_test_steps counter last is_tested end) 59
  unfolding asked_test_steps
  asked_test_fits last true end to =
      either_fit (not (is_byte_type counter.scalar && nat_le 255 last))
      (first_test_fits last end (to refl)) none_fit
  asked_test_fits last false end to = none_fit

  -- counts it by 1, and begins another turn
  next_byte_fits :
      (last : ℕ) (turn : LabelNumber) → MayGo at turn.index
      → PlanFootprint at (next_byte_steps counter last turn) 65
  next_byte_fits last turn to =
      less_fits
      (then_fit address_first
      (either_fit {most = 12} (nat_le 255 last)
      (less_fits (plains_fit (plain (Inr M) ∷ jump (JumpWhere NotZero) turn ∷ []) refl (to, tt))
      (omega arith))
      (less_fits
      (both_fit (plains_fit (all (load A ∷ AccumulateImmediate Compare (low last) ∷ Inr M ∷ [])) refl tt)
      (plains_fit (jump (JumpWhere Carry) turn ∷ []) refl (to, tt)))
      (omega arith))))
      (omega arith)

  next_word_fits :
      (place : Place) (last : ℕ) (turn : LabelNumber)
      → MayGo at turn.index
      → PlanFootprint at (next_word_steps counter place last turn) 65
  next_word_fits place last turn to =
      less_fits
      (then_fit (load_word_fits at object two)
      (both_fit
      (plains_fit
      (all
      (copy A L ∷ AccumulateImmediate Subtract (low last)
      ∷ copy A H ∷ AccumulateImmediate SubtractWithBorrow (high last)
      ∷ Inx Hl ∷ [])) refl tt)
      (plains_fit (word StoreHl place ∷ jump (JumpWhere Carry) turn ∷ []) refl (to, tt))))
      (omega arith)

  next_fits :
      (counts_byte : Bool) (place : Option Place) (last : ℕ) (turn : LabelNumber)
      → MayGo at turn.index
      → PlanFootprint at (next_steps counts_byte place counter last turn) 65
  next_fits false (Some place) last turn to = next_word_fits place last turn to
  next_fits false None last turn to = next_byte_fits last turn to
  next_fits true place last turn to = next_byte_fits last turn to

  next_turn_fits :
      (last : ℕ) (turn : LabelNumber) → MayGo at turn.index
      → PlanFootprint at (next_turn_steps counter last turn) 65
  unfolding next_turn_steps
  next_turn_fits last turn to = next_fits (is_byte_type counter.scalar) (counter_place counter) last turn to

  -- counting by 1 to a known bound
  to_known_fits :
      (last : ℕ) (is_tested : Bool) (list : Range) (first within : ℕ)
      → PlanFootprint at (ListOf list ∷ []) within
      → PlanFootprint at (to_known_steps counter last is_tested list first) (within + 124)
  unfolding to_known_steps
  to_known_fits last is_tested list first within list_fits =
      closed_fit (λ own. less_fits
      (both_fit
      (asked_test_fits last is_tested (nth_label first 1)
      (λ tested. own (nth_label first 1).index
      (end_asked counter last is_tested list (label_of first) (nth_label first 1) tested)))
      (then_fit (plain_fits (Again (label_of first) (facts_of_turn counter) true) refl tt)
      (then_fit list_fits
      (both_fit
      (next_turn_fits last (label_of first)
      (own first (plan_later first (asked_test_steps counter last is_tested (nth_label first 1)) _
      (inl refl))))
      (both_fit (asked_mark_fits is_tested (nth_label first 1)) (plains_fit (Reaches true ∷ []) refl tt))))))
      (omega arith))

  -- the variable is counted by 1
  count_at_hl_fits :
      (scalar : ScalarType) (first : ℕ)
      → MayGo at (nth_label first 2).index
      → (scalar ≡ Address → MayGo at (nth_label first 1).index)
      → PlanFootprint at (count_at_hl_steps scalar (loop_labels first)) 15
  count_at_hl_fits Byte first end test =
      less_fits (plains_fit (plain (Inr M) ∷ jump (JumpWhere Zero) (nth_label first 2) ∷ []) refl (end, tt))
      (omega arith)
  count_at_hl_fits Address first end test =
      plains_fit
      (plain (Inr M)
      ∷ jump (JumpWhere NotZero) (nth_label first 1)
      ∷ plain (Inx Hl)
      ∷ plain (Inr M)
      ∷ jump (JumpWhere Zero) (nth_label first 2)
      ∷ []) refl (test refl, (end, tt))

  count_fits :
      (first : ℕ)
      → MayGo at (nth_label first 2).index
      → (kind ≡ Address → MayGo at (nth_label first 1).index)
      → PlanFootprint at (count_steps counter (loop_labels first)) 47
  count_fits first end test = then_fit address_first (count_at_hl_fits kind first end test)

  -- a step is added to it
  module _
      {tree : TypedExpression} (site : Site) (step : ExpressionNumber) (is : IsWithinLevel at step tree)
      (end : LabelNumber) (to : MayGo at end.index)
    where
      abbrev weight : ℕ
      weight = bytes_for (weight_of_expression tree)

      add_byte_fits : PlanFootprint at (add_byte_steps counter step end) (weight + 59)
      add_byte_fits =
          less_fits
          (then_fit (byte_fits at step 0 is)
          (then_fit address_first
          (plains_fit (plain (with_memory Add) ∷ plain (MovToMemory A) ∷ jump (JumpWhere Carry) end ∷ []) refl
          (to, tt))))
          (omega arith)

      sum_of_byte_fits : PlanFootprint at sum_of_byte_steps 15
      unfolding sum_of_byte_steps
      sum_of_byte_fits =
          plains_fit
          (all (copy A E ∷ with_memory Add ∷ MovToMemory A ∷ set A 0 ∷ with_register AddWithCarry D ∷ []))
          refl tt

      add_word_to_byte_fits : PlanFootprint at (add_word_to_byte_steps counter step end) (weight + 59)
      add_word_to_byte_fits =
          less_fits
          (then_fit (word_fits at step 0 is)
          (then_fit (plain_fits (plain Xchg) refl tt)
          (then_fit address_first
          (both_fit sum_of_byte_fits
          (plains_fit
          (jump (JumpWhere Carry) end ∷ plain (with_register Or A) ∷ jump (JumpWhere NotZero) end ∷ []) refl
          (to, (to, tt)))))))
          (omega arith)

      step_in_de_fits : PlanFootprint at (step_in_de_steps site step) (weight + 3)
      step_in_de_fits =
          finding_fits (known site step)
          (λ place there. less_fits (plains_fit (word (LoadPair De) place ∷ []) refl tt) (omega arith))
          (less_fits (then_fit (word_fits at step 0 is) (plains_fit (plain Xchg ∷ []) refl tt)) (omega arith))

      sum_of_word_fits : PlanFootprint at sum_of_word_steps 21
      unfolding sum_of_word_steps
      sum_of_word_fits =
          plains_fit
          (all
          (load A ∷ with_register Add E ∷ MovToMemory A ∷ Inx Hl
          ∷ load A ∷ with_register AddWithCarry D ∷ MovToMemory A ∷ [])) refl tt

      add_de_fits : (place : Option Place) → PlanFootprint at (add_de_steps place counter end) 56
      add_de_fits (Some place) =
          less_fits
          (then_fit (load_word_fits at object two)
          (plains_fit (plain (Dad De) ∷ word StoreHl place ∷ jump (JumpWhere Carry) end ∷ []) refl (to, tt)))
          (omega arith)
      add_de_fits None =
          less_fits
          (then_fit address_first
          (both_fit sum_of_word_fits (plains_fit (jump (JumpWhere Carry) end ∷ []) refl (to, tt))))
          (omega arith)

      add_fits : (scalar : ScalarType) → PlanFootprint at
          (add_steps scalar site counter step end) (weight + 59)
      add_fits Byte = either_fit (is_byte site step) add_byte_fits add_word_to_byte_fits
      add_fits Address =
          less_fits (both_fit step_in_de_fits (add_de_fits (counter_place counter))) (omega arith)

  -- the step
  step_fits :
      {step : Option ExpressionNumber} {tree : Option TypedExpression} (site : Site) (first : ℕ)
      → IsOptional (nodes_of at.body.tree.now) at.source.storage step tree
      → IfSome tree (HoldsWithinLevel at)
      → MayGo at (nth_label first 2).index
      → (counts_by_one site step ≡ true → kind ≡ Address → MayGo at (nth_label first 1).index)
      → PlanFootprint at (step_steps site counter step (loop_labels first))
      (bytes_for (weight_of_optional tree) + 59)
  unfolding step_steps
  step_fits site first IsNoValue types end test = less_fits (count_fits first end (test refl)) (omega arith)
  step_fits site first (IsSomeValue {number = step} is) types end test =
      asking_fits (counts_by_one site (Some step))
      (λ one. less_fits (count_fits first end (test one)) (omega arith))
      (λ other. add_fits site step (within_is is types.0 types.1) (nth_label first 2) end kind)

  -- the place of the test
  test_label_fits :
      (step_is_one is_entered : Bool) (test : LabelNumber)
      → PlanFootprint at (test_label_steps counter step_is_one is_entered test) 0
  unfolding test_label_steps
  test_label_fits step_is_one is_entered test =
      either_fit (step_is_one && not (is_byte_type counter.scalar)) (plains_fit (mark test ∷ []) refl tt)
      (either_fit is_entered (plains_fit (Meet test ∷ []) refl tt) none_fit)

  -- the test with a known bound
  module _ (turn : LabelNumber) (to : MayGo at turn.index) where
    always_fits : PlanFootprint at (test_steps counter tests.Always turn) 62
    unfolding test_steps
    always_fits = less_fits (plains_fit (jump Jump turn ∷ []) refl (to, tt)) (omega arith)

    byte_known_fits :
        (last : ℕ) (always : Bool)
        → PlanFootprint at
        (test_steps counter (if always then tests.Always else tests.ByteBelow (last + 1)) turn) 62
    unfolding test_steps
    byte_known_fits last true = always_fits
    byte_known_fits last false =
        less_fits
        (then_fit (load_byte_fits at object two)
        (plains_fit (plain (AccumulateImmediate Compare (low (last + 1))) ∷ jump (JumpWhere Carry) turn ∷ [])
        refl (to, tt)))
        (omega arith)

    word_known_fits :
        (last : ℕ) (always : Bool)
        → PlanFootprint at
        (test_steps counter (if always then tests.Always else tests.WordBelow (last + 1)) turn) 62
    unfolding test_steps
    word_known_fits last true = always_fits
    word_known_fits last false =
        less_fits
        (then_fit (load_word_fits at object two)
        (both_fit (less_steps_fit (last + 1)) (plains_fit (jump (JumpWhere Carry) turn ∷ []) refl (to, tt))))
        (omega arith)

    known_test_fits :
        (scalar : ScalarType) (last : ℕ) → PlanFootprint at
        (test_steps counter (known_test scalar last) turn) 62
    known_test_fits Byte last = byte_known_fits last (nat_le 255 last)
    known_test_fits Address last = word_known_fits last (nat_le 65535 last)

  -- the test with a bound that is not known
  module _
      {tree : TypedExpression} (last : ExpressionNumber)
      (is : IsWithinLevel at last tree) (turn : LabelNumber)
      (to : MayGo at turn.index)
    where
      abbrev weight_of_last : ℕ
      weight_of_last = bytes_for (weight_of_expression tree)

      as_word_first : PlanFootprint at (part (tasks.Word last) 0 ∷ []) weight_of_last
      as_word_first = word_fits at last 0 is

      byte_test_fits : PlanFootprint at (test_steps counter (tests.Byte last) turn) (weight_of_last + 62)
      unfolding test_steps
      byte_test_fits =
          less_fits
          (both_fit
          (then_fit (byte_fits at last 0 is)
          (then_fit address_first (plains_fit (plain (with_memory Compare) ∷ []) refl tt)))
          (plains_fit (jump (JumpWhere NoCarry) turn ∷ []) refl (to, tt)))
          (omega arith)

      byte_with_word_test_fits :
          PlanFootprint at (test_steps counter (tests.ByteWithWord last) turn) (weight_of_last + 62)
      unfolding test_steps
      byte_with_word_test_fits =
          less_fits
          (both_fit
          (then_fit as_word_first
          (then_fit (plain_fits (plain Xchg) refl tt)
          (then_fit address_first
          (plains_fit
          (all
          (copy A E ∷ with_memory Subtract
          ∷ copy A D ∷ AccumulateImmediate SubtractWithBorrow 0 ∷ [])) refl tt))))
          (plains_fit (jump (JumpWhere NoCarry) turn ∷ []) refl (to, tt)))
          (omega arith)

      word_with_place_test_fits :
          (place : Place)
          → PlanFootprint at (test_steps counter (tests.WordWithPlace place) turn) (weight_of_last + 62)
      unfolding test_steps
      word_with_place_test_fits place =
          less_fits
          (then_fit (load_word_fits at object two)
          (both_fit
          (plains_fit
          (word LoadA place ∷ plain (with_register Subtract L)
          ∷ word LoadA (place_after place 1) ∷ plain (with_register SubtractWithBorrow H) ∷ []) refl tt)
          (plains_fit (jump (JumpWhere NoCarry) turn ∷ []) refl (to, tt))))
          (omega arith)

      word_test_fits : PlanFootprint at (test_steps counter (tests.Word last) turn) (weight_of_last + 62)
      unfolding test_steps
      word_test_fits =
          less_fits
          (both_fit
          (then_fit as_word_first
          (then_fit (plain_fits (plain Xchg) refl tt)
          (then_fit (load_word_fits at object two)
          (plains_fit
          (all
          (copy A E ∷ with_register Subtract L
          ∷ copy A D ∷ with_register SubtractWithBorrow H ∷ [])) refl tt))))
          (plains_fit (jump (JumpWhere NoCarry) turn ∷ []) refl (to, tt)))
          (omega arith)

      frame_word_test_fits : PlanFootprint at (test_steps counter (tests.FrameWord last) turn)
          (weight_of_last + 62)
      unfolding test_steps
      frame_word_test_fits =
          less_fits
          (both_fit
          (then_fit as_word_first
          (then_fit (plain_fits (plain Xchg) refl tt)
          (then_fit address_first
          (plains_fit
          (all
          (copy A E ∷ with_memory Subtract ∷ Inx Hl
          ∷ copy A D ∷ with_memory SubtractWithBorrow ∷ [])) refl tt))))
          (plains_fit (jump (JumpWhere NoCarry) turn ∷ []) refl (to, tt)))
          (omega arith)

      word_by_test_fits :
          (place last_place : Option Place)
          → PlanFootprint at (test_steps counter (word_test_by place last_place last) turn)
          (weight_of_last + 62)
      word_by_test_fits (Some place) (Some last_place) = word_with_place_test_fits last_place
      word_by_test_fits (Some place) None = word_test_fits
      word_by_test_fits None last_place = frame_word_test_fits

      computed_test_fits :
          (variable bound : ScalarType) (site : Site)
          → PlanFootprint at (test_steps counter (computed_test variable bound site counter last) turn)
          (weight_of_last + 62)
      computed_test_fits Byte Byte site = byte_test_fits
      computed_test_fits Byte Address site = byte_with_word_test_fits
      computed_test_fits Address bound site = word_by_test_fits (counter_place counter) (word_at site last)

      test_by_fits :
          (site : Site) (found : Option ℕ)
          → PlanFootprint at
          (test_steps counter
          (elim found as (λ (given : Option ℕ). Test) [
            | Some known ↦ known_test counter.scalar known
            | None ↦ computed_test counter.scalar (scalar site last) site counter last
          ]) turn)
          (weight_of_last + 62)
      test_by_fits site (Some known) = less_fits (known_test_fits turn to kind known) (omega arith)
      test_by_fits site None = computed_test_fits kind (scalar site last) site

      test_fits :
          (site : Site)
          → PlanFootprint at (test_steps counter (test_of site counter last) turn) (weight_of_last + 62)
      unfolding test_of
      test_fits site = test_by_fits site (number site last)

-- the type of an expression in the table is that of the tree
pub type_there :
    (body : Body) (storage : Storage) (facts : Facts) {tree : TypedExpression} (value : ExpressionNumber)
    → IsExpressionIn (nodes_of body.tree.now) storage value tree
    → scalar (knowing (site_of body) facts) value ≡ type_of tree
unfolding scalar expression
type_there body storage facts value (IsNode {expression = found} below there type_is form) =
    ap (λ (given : Option Expression). elim given as (λ (one : Option Expression). ScalarType) [
      | Some one ↦ one.traits.scalar
      | None ↦ Byte
    ]) there
    ∙ type_is

module _
    (at : BodyGround) (facts : Facts) (head : Iteration) (tree : TypedIteration)
    (is : IsIteration (nodes_of at.body.tree.now) at.source.storage head tree)
    (first_types : HoldsWithinLevel at tree.first)
    (last_types : HoldsWithinLevel at tree.last)
    (step_types : IfSome tree.step (HoldsWithinLevel at)) (four : 4 ≤ at.level) (list : Range)
    (within : ℕ)
    (list_fits : PlanFootprint at (ListOf list ∷ []) within) (first : ℕ)
  where
    abbrev site : Site
    site = knowing (site_of at.body) facts

    two : 2 ≤ at.level
    two = omega (arith, four)

    abbrev weight_of_turns : ℕ
    weight_of_turns = bytes_for (weight_of_expression tree.last) + bytes_for (weight_of_optional tree.step)

    general_begin_fits :
        (is_tested : Bool) (test : Test)
        → (is_tested ≡ true → MayGo at (nth_label first 1).index)
        → PlanFootprint at
        (general_begin_steps (counter_of site head) test is_tested list (loop_labels first)) (within + 3)
    unfolding general_begin_steps
    general_begin_fits is_tested test to =
        less_fits
        (both_fit (asked_jump_fits is_tested (nth_label first 1) to)
        (then_fit (plain_fits (Again (label_of first) (facts_of_test (counter_of site head) test)
        (not is_tested)) refl tt)
        list_fits))
        (omega arith)

    general_end_fits :
        (is_tested : Bool)
        → MayGo at first
        → MayGo at (nth_label first 2).index
        → (counts_by_one site head.step ≡ true → head.scalar ≡ Address → MayGo at (nth_label first 1).index)
        → PlanFootprint at
        (general_end_steps site (counter_of site head) head
        (test_of site (counter_of site head) head.last) is_tested
        (loop_labels first))
        (weight_of_turns + 121)
    unfolding general_end_steps
    general_end_fits is_tested turn end to =
        less_fits
        (both_fit
        (step_fits at head.variable head.scalar (location_of site (whole head.variable)) two site first
        is.step step_types end to)
        (both_fit
        (test_label_fits at head.variable head.scalar (location_of site (whole head.variable)) two
        (counts_by_one site head.step) is_tested (nth_label first 1))
        (both_fit
        (test_fits at head.variable head.scalar (location_of site (whole head.variable)) two head.last
        (within_is is.last last_types.0 last_types.1) (label_of first) turn site)
        (plains_fit (mark (nth_label first 2) ∷ Reaches true ∷ []) refl tt))))
        (omega arith)

    general_fits :
        (is_tested : Bool)
        → PlanFootprint at (general_steps site (counter_of site head) head is_tested list first)
        (weight_of_turns + within + 124)
    unfolding general_steps
    general_fits is_tested =
        let counter = counter_of site head in
        let test = test_of site counter head.last in
        let beginning = general_begin_steps counter test is_tested list (loop_labels first) in
        let ending = general_end_steps site counter head test is_tested (loop_labels first) in
        closed_fit (λ own. less_fits
        (both_fit
        (general_begin_fits is_tested test
        (λ tested. own (nth_label first 1).index
        (plan_later (nth_label first 1).index beginning ending
        (test_bound site counter head test is_tested first (inr tested)))))
        (general_end_fits is_tested
        (own first (plan_first first beginning ending (turn_bound counter test is_tested list first)))
        (own (nth_label first 2).index
        (plan_later (nth_label first 2).index beginning ending
        (end_bound site counter head test is_tested first)))
        (λ one address. own (nth_label first 1).index
        (plan_later (nth_label first 1).index beginning ending
        (test_bound site counter head test is_tested first (inl (one, address)))))))
        (omega arith))

    turns_fit :
        (is_tested : Bool)
        → PlanFootprint at (turns_steps site (counter_of site head) head is_tested list first)
        (weight_of_turns + within + 124)
    turns_fit is_tested =
        finding_fits (number site head.last)
        (λ last there. either_fit (counts_in_place site (counter_of site head) head)
        (less_fits
        (to_known_fits at head.variable head.scalar (location_of site (whole head.variable)) two last
        is_tested list first within
        list_fits)
        (omega arith))
        (general_fits is_tested))
        (general_fits is_tested)

    turns_if_any_fit :
        (has : Option Bool)
        → PlanFootprint at (turns_if_any has site (counter_of site head) head list first)
        (weight_of_turns + within + 124)
    turns_if_any_fit (Some false) = none_fit
    turns_if_any_fit (Some true) = turns_fit false
    turns_if_any_fit None = turns_fit true

    -- the first value
    first_fits :
        PlanFootprint at (first_steps at.body site (counter_of site head) head.first)
        (bytes_for (weight_of_expression tree.first)
        + (64 + bytes_for (weight_of_storing (scalar site head.first) head.scalar)))
    unfolding first_steps
    first_fits =
        less_fits
        (single_fits at head.first (bytes_for (weight_of_expression tree.first))
        (value_fits at head.first (within_is is.first first_types.0 first_types.1))
        {tree = StoredIn (scalar site head.first) head.scalar (PartOf head.variable NoSubscript None 0 NoSubscript)}
        site (IsStored (whole_is at head.variable)) (tt, tt) (omega (arith, four)))
        (omega arith)

    pub iteration_fits :
        PlanFootprint at (iteration_steps at.body site head list first)
        (bytes_for (weight_of_iteration tree) + within + 60)
    iteration_fits =
        let weighs : weight_of_storing (scalar site head.first) head.scalar
        ≡ weight_of_storing (type_of tree.first) tree.scalar =
        ap (λ (from : ScalarType). weight_of_storing from head.scalar)
        (type_there at.body at.source.storage facts head.first is.first)
        ∙ ap (λ (to : ScalarType). weight_of_storing (type_of tree.first) to) is.scalar in
        less_fits
        (both_fit first_fits (turns_if_any_fit (has_a_turn site (counter_of site head) head)))
        (omega (arith, weighs))
