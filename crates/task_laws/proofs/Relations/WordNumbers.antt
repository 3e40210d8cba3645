-- An ADDRESS is compared with a number.
use Rattle.task_laws.proofs.Prelude.{◌≡◌, ℕ, zero, suc, ◌+◌, ◌-◌, ◌*◌, ◌/◌, ◌%◌, ◌<◌, ◌≤◌, ◌==◌, Bool, true, false, nat_lt, bit_or, bit_xor, List, [], ◌∷◌, ◌++◌, refl, sym, ap, ◌∙◌, subst, arith, if◌then◌else◌, ltb-true, ltb-false, lt-ltb, le-ltb, eqb-true, eqb-false, eq-eqb, ne_eqb, xor_self, xor_add_and, and_le_l, and_le_r, Address, height_of, type_of, TypedExpression, TypesHold, SourceState, Outcome, then_do, values_of, AccumulateImmediate, Dad, Inx, Lxi, ExclusiveOr, Or, Subtract, SubtractWithBorrow, De, Hl, A, H, L, Registers, State, ExpressionNumber, IsExpression, Facts, copy, high, low, with_register, part, plain, repeat_steps, Does, at_place, same_test, NumberQuestion, Never, Below, Is, fits_byte, negated, Answer, Carry, Zero, Purpose, Branch, Value, Setting, byte_number_answer, number_in_a_answer, number_in_a_steps, below_steps, word_below_answer, word_below_steps, word_is_steps, word_is_zero_steps, word_number_answer, word_number_steps, word_question_answer, word_question_steps, knowing, Context, IsSound, nodes_in, StepsStand, PartThere, PartDoes}
use Rattle.steps8080.specs.declared.step.Task.TheVariants as tasks
use Rattle.operands8080.specs.{internal.ByteRelations.{byte_number_steps}, internal.WordRelations.{high_byte_steps}}
use Rattle.task_laws.proofs.Relations.Answers.{AnswerShows, ZeroShows, number_truth}
use Rattle.task_laws.proofs.Bytes.BytesAsked.{BytesAsked, HighIsGiven, ZeroIsShown}
use Rattle.task_laws.proofs.Bytes.ByteOperations.{IsValueOf, value_of}
use Rattle.task_laws.proofs.Relations.NumberComparisons.{GoesOnAsked, below_one, byte_asked, number_in_a}
use Rattle.task_laws.proofs.Machine.Rules.{steps_split}
use Rattle.task_laws.proofs.Machine.SiteNodes.{value_in}
use Rattle.task_laws.proofs.Machine.Stages.{Stage, at_carried, at_effects, at_end, at_instructions, at_word, loaded_in}
use Rattle.task_laws.proofs.Relations.WordComparisons.{zero_for}
use Rattle.task_laws.proofs.Relations.WordFlags.{or_is_zero, or_of_zeros, word_below}

-- a number that has the width of a word
abbrev pub IsBounded : NumberQuestion → Type 0
IsBounded Never = Unit {0}
IsBounded (Below n) = n < 65536
IsBounded (Is n) = n < 65536

zero_of_halves : (v h l : ℕ) → h ≡ v / 256 → l ≡ v % 256 → (bit_or l h == 0) ≡ (v == 0)
zero_of_halves v h l one two =
    same_test (bit_or l h == 0) (v == 0)
    (λ is.
    let both = or_is_zero l h (eqb-true (bit_or l h) 0 is) in
    let low_is = both.0 in
    let high_is = both.1 in
    eq-eqb v 0 (omega (arith, one, two, low_is, high_is)))
    (λ is. ne_eqb v 0 (λ same. eqb-false (bit_or l h) 0 is
    (or_of_zeros l h (omega (arith, two, same)) (omega (arith, one, same)))))

xor_is_zero : (x y : ℕ) → bit_xor x y ≡ 0 → x ≡ y
xor_is_zero x y is =
    let sum = xor_add_and x y in
    let one = and_le_l x y in
    let two = and_le_r x y in
    omega (arith, sum, one, two, is)

is_of_halves :
    (v n h l : ℕ) → h ≡ v / 256 → l ≡ v % 256 → n < 256 → (bit_or (bit_xor l n) h == 0) ≡ (v == n)
is_of_halves v n h l one two small =
    same_test (bit_or (bit_xor l n) h == 0) (v == n)
    (λ is.
    let both = or_is_zero (bit_xor l n) h (eqb-true (bit_or (bit_xor l n) h) 0 is) in
    let low_is = xor_is_zero l n both.0 in
    let high_is = both.1 in
    eq-eqb v n (omega (arith, one, two, low_is, high_is)))
    (λ is. ne_eqb v n (λ same.
    eqb-false (bit_or (bit_xor l n) h) 0 is
    (or_of_zeros (bit_xor l n) h
    (ap (λ m. bit_xor m n) (lows same) ∙ xor_self n)
    (omega (arith, one, same, small)))))
  where
    lows : v ≡ n → l ≡ n
    lows same = omega (arith, two, same, small)

-- a word less another one is 0 where they are equal
difference_zero : (v n k h l : ℕ) → v < 65536 → n < 65536 → k ≡ (65536 - n) % 65536
    → h ≡ (v + k) % 65536 / 256 → l ≡ (v + k) % 65536 % 256
    → (bit_or l h == 0) ≡ (v == n)
difference_zero v n k h l one two three four five =
    zero_of_halves ((v + k) % 65536) h l four five
    ∙ same_test ((v + k) % 65536 == 0) (v == n)
    (λ is. eq-eqb v n (omega (arith, one, two, three, eqb-true ((v + k) % 65536) 0 is)))
    (λ is. ne_eqb v n (λ same. eqb-false ((v + k) % 65536) 0 is (omega (arith, one, two, three, same))))

module _
    {B : Type 0} {context : Context} {top pushed need : ℕ} {base : List ℕ} {t : SourceState} {last : Facts}
    {memory : List ℕ} {to budget more : ℕ} {outcome : Outcome B}
    {Good : B → SourceState → State → Type 0} (sound : IsSound context) where
  -- whether HL is a number
  pub word_is :
      {facts : Facts} {from : ℕ} {r : Registers} (v n : ℕ)
      → r.h ≡ v / 256
      → r.l ≡ v % 256
      → v < 65536
      → n < 65536
      → StepsStand context (PartDoes context) facts from (word_is_steps n) last to
      → Stage context top pushed need base t facts r memory
      → ((now : Registers) → (now.flags.z ≡ (v == n)) → ((now.a == 0) ≡ (v == n))
      → Stage context top pushed need base t last now memory
      → Does (loaded_in context) budget more (at_place to now memory t.events) outcome Good)
      → Does (loaded_in context) budget more (at_place from r memory t.events) outcome Good
  word_is {facts = facts} {from = from} {r = r} v n one two small other_small stand stage rest =
      by (n == 0) refl (nat_lt n 256) refl (nat_lt (negated n) 4) refl stand stage
    where
      known_step :
          (k : ℕ) → negated n ≡ k → nat_lt k 4 ≡ true
          → StepsStand context (PartDoes context) facts from
          (repeat_steps (Inx Hl) k ++ plain (copy A L ∷ with_register Or H ∷ [])) last to
          → Stage context top pushed need base t facts r memory
          → Does (loaded_in context) budget more (at_place from r memory t.events) outcome Good
      known_step zero is less stand stage =
          at_instructions (copy A L ∷ with_register Or H ∷ []) [] sound (tt, (tt, tt)) stand stage
          (λ middle found ends next. at_end ends next
          (λ final.
          let shows =
          difference_zero v n 0 r.h r.l small other_small (sym is) (omega (arith, one, small))
          (omega (arith, two, small)) in
          rest _ shows shows final))
      known_step (suc zero) is less stand stage =
          at_instructions (Inx Hl ∷ copy A L ∷ with_register Or H ∷ []) [] sound
          (tt, (tt, (tt, tt))) stand stage
          (λ middle found ends next. at_end ends next
          (λ final.
          let hl1 : ℕ = (256 * r.h + r.l + 1) % 65536 in
          let is_sum : hl1 ≡ (v + 1) % 65536 = omega (arith, one, two) in
          let shows =
          difference_zero v n 1 (hl1 / 256) (hl1 % 256) small other_small (sym is)
          (ap (λ m. m / 256) is_sum) (ap (λ m. m % 256) is_sum) in
          rest _ shows shows final))
      known_step (suc (suc zero)) is less stand stage =
          at_instructions (Inx Hl ∷ Inx Hl ∷ copy A L ∷ with_register Or H ∷ []) [] sound
          (tt, (tt, (tt, (tt, tt)))) stand stage
          (λ middle found ends next. at_end ends next
          (λ final.
          let hl1 : ℕ = (256 * r.h + r.l + 1) % 65536 in
          let hl2 : ℕ = (256 * (hl1 / 256) + hl1 % 256 + 1) % 65536 in
          let is_sum : hl2 ≡ (v + 2) % 65536 = omega (arith, one, two) in
          let shows =
          difference_zero v n 2 (hl2 / 256) (hl2 % 256) small other_small (sym is)
          (ap (λ m. m / 256) is_sum) (ap (λ m. m % 256) is_sum) in
          rest _ shows shows final))
      known_step (suc (suc (suc zero))) is less stand stage =
          at_instructions (Inx Hl ∷ Inx Hl ∷ Inx Hl ∷ copy A L ∷ with_register Or H ∷ []) [] sound
          (tt, (tt, (tt, (tt, (tt, tt))))) stand stage
          (λ middle found ends next. at_end ends next
          (λ final.
          let hl1 : ℕ = (256 * r.h + r.l + 1) % 65536 in
          let hl2 : ℕ = (256 * (hl1 / 256) + hl1 % 256 + 1) % 65536 in
          let hl3 : ℕ = (256 * (hl2 / 256) + hl2 % 256 + 1) % 65536 in
          let is_sum : hl3 ≡ (v + 3) % 65536 = omega (arith, one, two) in
          let shows =
          difference_zero v n 3 (hl3 / 256) (hl3 % 256) small other_small (sym is)
          (ap (λ m. m / 256) is_sum) (ap (λ m. m % 256) is_sum) in
          rest _ shows shows final))
      known_step (suc (suc (suc (suc k)))) is less stand stage =
          absurd (Rattle.std.proofs.lemmas.Bool.false≢true
          (sym (le-ltb (suc (suc (suc (suc k)))) 4 (omega arith)) ∙ less))

      by : (is_zero : Bool) → (n == 0) ≡ is_zero → (is_byte : Bool) → nat_lt n 256 ≡ is_byte
          → (is_near : Bool) → nat_lt (negated n) 4 ≡ is_near
          → StepsStand context (PartDoes context) facts from
          (if is_zero then plain (copy A L ∷ with_register Or H ∷ [])
          else if is_byte
          then plain (copy A L ∷ AccumulateImmediate ExclusiveOr (low n) ∷ with_register Or H ∷ [])
          else (if is_near then repeat_steps (Inx Hl) (negated n)
          else plain (Lxi De (negated n) ∷ Dad De ∷ []))
          ++ plain (copy A L ∷ with_register Or H ∷ [])) last to
          → Stage context top pushed need base t facts r memory
          → Does (loaded_in context) budget more (at_place from r memory t.events) outcome Good
      by true is is_byte byte is_near near stand stage =
          at_instructions (copy A L ∷ with_register Or H ∷ []) [] sound (tt, (tt, tt)) stand stage
          (λ middle found ends next. at_end ends next
          (λ final.
          let shows = zero_of_halves v r.h r.l one two ∙ ap (λ m. v == m) (sym (eqb-true n 0 is)) in
          rest _ shows shows final))
      by false is true byte is_near near stand stage =
          at_instructions (copy A L ∷ AccumulateImmediate ExclusiveOr (low n) ∷ with_register Or H ∷ []) []
          sound (tt, (tt, (tt, tt))) stand stage
          (λ middle found ends next. at_end ends next
          (λ final.
          let lows : low n ≡ n = omega (arith, ltb-true n 256 byte) in
          let shows =
          ap (λ m. bit_or (bit_xor r.l m) r.h == 0) lows
          ∙ is_of_halves v n r.h r.l one two (ltb-true n 256 byte) in
          rest _ shows shows final))
      by false is false byte true near stand stage = known_step (negated n) refl near stand stage
      by false is false byte false near stand stage =
          at_instructions (Lxi De (negated n) ∷ Dad De ∷ copy A L ∷ with_register Or H ∷ []) [] sound
          (tt, (tt, (tt, (tt, tt)))) stand stage
          (λ middle found ends next. at_end ends next
          (λ final.
          let hl1 : ℕ = (256 * r.h + r.l + (256 * (negated n / 256) + negated n % 256)) % 65536 in
          let is_sum : hl1 ≡ (v + negated n) % 65536 = omega (arith, one, two) in
          let shows =
          difference_zero v n (negated n) (hl1 / 256) (hl1 % 256) small other_small refl
          (ap (λ m. m / 256) is_sum) (ap (λ m. m % 256) is_sum) in
          rest _ shows shows final))

  -- whether HL is below a number
  pub word_is_below :
      {facts : Facts} {from : ℕ} {r : Registers} (v n : ℕ)
      → r.h ≡ v / 256
      → r.l ≡ v % 256
      → n < 65536
      → StepsStand context (PartDoes context) facts from (below_steps n) last to
      → Stage context top pushed need base t facts r memory
      → ((now : Registers) → (now.flags.cy ≡ nat_lt v n)
      → Stage context top pushed need base t last now memory
      → Does (loaded_in context) budget more (at_place to now memory t.events) outcome Good)
      → Does (loaded_in context) budget more (at_place from r memory t.events) outcome Good
  word_is_below {r = r} v n one two small stand stage rest =
      at_instructions
      (copy A L ∷ AccumulateImmediate Subtract (low n) ∷ copy A H
      ∷ AccumulateImmediate SubtractWithBorrow (high n) ∷ []) []
      sound (tt, (tt, (tt, (tt, tt)))) stand stage
      (λ middle found ends next. at_end ends next
      (λ final. rest _ (word_below v n r.h r.l (n / 256) (n % 256) one two refl refl small) final))

zero_shows_it :
    (purpose : Purpose) (answer : Bool) (now : Registers)
    → (purpose ≡ Branch → now.flags.z ≡ answer)
    → (purpose ≡ Value → (now.a == 0) ≡ answer)
    → ZeroShows purpose answer now
zero_shows_it Branch answer now flag value = flag refl
zero_shows_it Value answer now flag value = value refl

high_below : (v n : ℕ) → n % 256 ≡ 0 → nat_lt (v / 256) (n / 256) ≡ nat_lt v n
high_below v n is =
    same_test (nat_lt (v / 256) (n / 256)) (nat_lt v n)
    (λ here. lt-ltb v n (omega (arith, is, ltb-true (v / 256) (n / 256) here)))
    (λ here. le-ltb v n (omega (arith, is, ltb-false (v / 256) (n / 256) here)))

module _
    (C : Type 0) (context : Context) (top need : ℕ) (base : List ℕ) (t : SourceState) (facts last : Facts)
    (r : Registers) (memory : List ℕ) (from to more bound : ℕ)
    (tree : TypedExpression)
    (Good : C → SourceState → State → Type 0)
    (operand : ExpressionNumber) (setting : Setting)
    (go : ℕ → SourceState → Outcome C)
    (asked : BytesAsked context) (sound : IsSound context)
    (node : IsExpression (nodes_in context) context.storage bound operand.index tree)
    (types : TypesHold context.typed context.within tree)
    (is_address : type_of tree ≡ Address)
    (fewer : 2 * height_of tree ≤ need) where
  -- the rest of this
  abbrev GoesOn : Answer → (ℕ → Bool) → Type 0
  GoesOn answer truth =
      GoesOnAsked context tree operand setting.purpose answer truth top setting.pushed need base
      last to more go Good

  abbrev Comes : Type 0
  Comes = Does (loaded_in context) t.budget more (at_place from r memory t.events)
      (then_do (value_in context tree t) go) Good

  word_small : (v : ℕ) → IsValueOf context tree operand v → v < 65536
  word_small v value = subst (λ scalar. v < values_of scalar) is_address value.small

  zero_asked :
      (truth : ℕ → Bool)
      → ((v : ℕ) → (v == 0) ≡ truth v)
      → StepsStand context (PartDoes context) facts from
      (word_is_zero_steps (knowing context.site facts) operand setting) last to
      → Stage context top setting.pushed need base t facts r memory
      → GoesOn Zero truth
      → Comes
  zero_asked truth so stand stage rest =
      at_carried _ _ _
      (asked.zeros facts last operand setting from to bound tree node types is_address stand) fewer tt
      (λ v now memory_now (given : ZeroIsShown context last setting.purpose r memory v now memory_now). given.known) stage
      (λ v u now memory_now is given next.
      rest v u now memory_now (value_of v asked node types stage is)
      (zero_shows_it setting.purpose (truth v) now (λ same. given.flag same ∙ so v)
      (λ same. given.value same ∙ so v)) next)

  below_asked :
      (n : ℕ) → n < 65536
      → StepsStand context (PartDoes context) facts from
      (word_below_steps (knowing context.site facts) operand n setting) last to
      → Stage context top setting.pushed need base t facts r memory
      → GoesOn (word_below_answer n) (λ v. nat_lt v n)
      → Comes
  below_asked n small = by (n % 256 == 0) refl
    where
      by : (is_even : Bool) → (n % 256 == 0) ≡ is_even
          → StepsStand context (PartDoes context) facts from
          (if is_even
          then high_byte_steps (knowing context.site facts) operand setting.pushed
          ++ number_in_a_steps (Below (n / 256)) setting
          else part (tasks.Word operand) setting.pushed ∷ below_steps n) last to
          → Stage context top setting.pushed need base t facts r memory
          → GoesOn (if is_even then number_in_a_answer (Below (n / 256)) else Carry) (λ v. nat_lt v n)
          → Comes
      by true is stand stage rest =
          let parts = steps_split (high_byte_steps (knowing context.site facts) operand setting.pushed)
          (number_in_a_steps (Below (n / 256)) setting) stand in
          at_carried _ _ _
          (asked.high_bytes facts parts.found operand setting.pushed from parts.middle bound tree node types
          is_address parts.first)
          fewer tt
          (λ v now memory_now (given : HighIsGiven context parts.found r memory v now memory_now). given.known) stage
          (λ v u now memory_now equal given next.
          let value = value_of v asked node types stage equal in
          let v_small = word_small v value in
          number_in_a sound (Below (n / 256)) setting (v / 256) given.a
          (omega (arith, v_small)) parts.second next
          (λ end shows final.
          rest v u end memory_now value
          (subst (λ truth. AnswerShows setting.purpose (number_in_a_answer (Below (n / 256))) truth end)
          (high_below v n (eqb-true (n % 256) 0 is)) shows) final))
      by false is (PartThere does stand) stage rest =
          at_word _ _ _ does node types fewer stage
          (λ v u now memory_now equal given next.
          word_is_below sound v n given.h given.l small stand next
          (λ end shows final. rest v u end memory_now (value_of v asked node types stage equal) shows final))

  -- the answer to a question about an ADDRESS and a number
  question_asked :
      (question : NumberQuestion) → IsBounded question
      → StepsStand context (PartDoes context) facts from
      (word_question_steps (knowing context.site facts) operand question setting) last to
      → Stage context top setting.pushed need base t facts r memory
      → GoesOn (word_question_answer question) (number_truth question)
      → Comes
  question_asked Never small (PartThere does ends) stage rest =
      at_effects _ _ _ does node types fewer stage
      (λ v u now memory_now is next. at_end ends next
      (λ final. rest v u now memory_now (value_of v asked node types stage is) refl final))
  question_asked (Below n) small stand stage rest = by (n == 1) refl stand rest
    where
      by : (is_one : Bool) → (n == 1) ≡ is_one
          → StepsStand context (PartDoes context) facts from
          (if is_one then word_is_zero_steps (knowing context.site facts) operand setting
          else word_below_steps (knowing context.site facts) operand n setting) last to
          → GoesOn (if is_one then Zero else word_below_answer n) (λ v. nat_lt v n)
          → Comes
      by true is stand rest =
          zero_asked (λ v. nat_lt v n) (λ v. below_one v ∙ ap (λ m. nat_lt v m) (sym (eqb-true n 1 is))) stand
          stage rest
      by false is stand rest = below_asked n small stand stage rest
  question_asked (Is n) small stand stage rest = by (n == 0) refl stand
    where
      by : (is_zero : Bool) → (n == 0) ≡ is_zero
          → StepsStand context (PartDoes context) facts from
          (if is_zero then word_is_zero_steps (knowing context.site facts) operand setting
          else part (tasks.Word operand) setting.pushed ∷ word_is_steps n) last to
          → Comes
      by true is stand =
          zero_asked (λ v. v == n) (λ v. ap (λ m. v == m) (sym (eqb-true n 0 is))) stand stage rest
      by false is (PartThere does stand) =
          at_word _ _ _ does node types fewer stage
          (λ v u now memory_now equal given next.
          let value = value_of v asked node types stage equal in
          word_is sound v n given.h given.l (word_small v value) small stand next
          (λ end flag zero final. rest v u end memory_now value
          (zero_for setting.purpose (v == n) end flag zero) final))

  -- as of a BYTE where its form shows that it is below 256
  pub word_asked :
      (question : NumberQuestion) → IsBounded question
      → StepsStand context (PartDoes context) facts from
      (word_number_steps (knowing context.site facts) operand question setting) last to
      → Stage context top setting.pushed need base t facts r memory
      → GoesOn (word_number_answer (knowing context.site facts) operand question) (number_truth question)
      → Comes
  word_asked question small stand stage rest =
      by (fits_byte (knowing context.site facts) operand) refl stand rest
    where
      by : (fits : Bool) → fits_byte (knowing context.site facts) operand ≡ fits
          → StepsStand context (PartDoes context) facts from
          (if fits then byte_number_steps operand question setting
          else word_question_steps (knowing context.site facts) operand question setting) last to
          → GoesOn (if fits then byte_number_answer question else word_question_answer question)
          (number_truth question)
          → Comes
      by true is stand rest =
          byte_asked operand question setting go asked sound node types (λ v value. value.fits facts is)
          fewer stand stage rest
      by false is stand rest = question_asked question small stand stage rest
