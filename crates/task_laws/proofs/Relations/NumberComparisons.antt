-- A BYTE is compared with a number.
use Rattle.task_laws.proofs.Prelude.{◌≡◌, ℕ, ◌+◌, ◌*◌, ◌%◌, ◌<◌, ◌≤◌, ◌==◌, Bool, true, false, nat_lt, List, [], ◌∷◌, Option, Some, None, refl, sym, ap, ◌∙◌, arith, if◌then◌else◌, ltb-true, ltb-false, lt-ltb, le-ltb, eqb-true, eqb-false, eq-eqb, ne_eqb, height_of, TypedExpression, TypesHold, SourceState, Outcome, then_do, AccumulateImmediate, Dcr, Inr, Of, Compare, Subtract, A, decrement_of, increment_of, subtract_of, Registers, State, ExpressionNumber, IsExpression, Facts, Plain, TestA, Does, at_place, borrow_shows, count_shows, same_test, zero_shows, NumberQuestion, Never, Below, Is, Answer, Carry, Zero, Purpose, Branch, Value, Setting, known_steps, byte_is_steps, byte_number_answer, is_zero_steps, known_answer, number_in_a_answer, number_in_a_steps, Context, IsSound, nodes_in, StepsStand, PartThere, PlainThere, TestThere, PartDoes, low_of_byte}
use Rattle.operands8080.specs.{declared.answers.Answer.TheVariants.{Known}, internal.ByteRelations.{byte_number_steps}}
use Rattle.task_laws.proofs.Relations.Answers.{AnswerShows, number_truth}
use Rattle.task_laws.proofs.Bytes.BytesAsked.{BytesAsked}
use Rattle.task_laws.proofs.Bytes.ByteOperations.{IsValueOf, value_of}
use Rattle.task_laws.proofs.Machine.Rules.{test_goes}
use Rattle.task_laws.proofs.Machine.SiteNodes.{value_in}
use Rattle.task_laws.proofs.Machine.Stages.{Stage, stage_with_a, at_byte, at_effects, at_end, loaded_in}

-- A counted down becomes 0 if it was 1
down_shows : (x : ℕ) → x < 256 → ((x + 254 + 1) % 256 == 0) ≡ (x == 1)
down_shows x small =
    sym (same_test (x == 1) ((x + 254 + 1) % 256 == 0)
    (λ here. eq-eqb ((x + 254 + 1) % 256) 0 (omega (arith, small, eqb-true x 1 here)))
    (λ here. ne_eqb ((x + 254 + 1) % 256) 0 (λ same. eqb-false x 1 here (omega (arith, small, same)))))

pub below_one : (v : ℕ) → (v == 0) ≡ nat_lt v 1
below_one v =
    same_test (v == 0) (nat_lt v 1)
    (λ here. lt-ltb v 1 (omega (arith, eqb-true v 0 here)))
    (λ here. le-ltb v 1 (by (nat_lt v 1) refl here))
  where
    by : (b : Bool) → nat_lt v 1 ≡ b → (v == 0) ≡ false → 1 ≤ v
    by true is here = absurd (eqb-false v 0 here (omega (arith, ltb-true v 1 is)))
    by false is here = omega (arith, ltb-false v 1 is)

is_zero_too : (v n : ℕ) → (n == 0) ≡ true → (v == 0) ≡ (v == n)
is_zero_too v n is = ap (λ m. v == m) (sym (eqb-true n 0 is))

-- A holds the byte of the question, and the rest uses the facts then
abbrev pub GoesOnShown :
    {B : Type 0} → Context → Purpose → Answer → (truth : Bool) → (top pushed need : ℕ)
    → (base : List ℕ) → SourceState
    → Facts → (memory : List ℕ) → (place budget more : ℕ) → Outcome B
    → (B → SourceState → State → Type 0) → Type 0
GoesOnShown context purpose answer truth top pushed need base t last memory place budget more outcome Good =
    (now : Registers)
    → AnswerShows purpose answer truth now
    → Stage context top pushed need base t last now memory
    → Does (loaded_in context) budget more (at_place place now memory t.events) outcome Good

module _
    {B : Type 0} {context : Context} {top pushed need : ℕ} {base : List ℕ} {t : SourceState} {last : Facts}
    {memory : List ℕ} {to budget more : ℕ} {outcome : Outcome B}
    {Good : B → SourceState → State → Type 0} (sound : IsSound context) where
  -- whether A is 0
  zero_in_a :
      {facts : Facts} {from : ℕ} {r : Registers} (truth : Bool) (setting : Setting)
      → (r.a == 0) ≡ truth
      → StepsStand context (PartDoes context) facts from (is_zero_steps setting) last to
      → Stage context top pushed need base t facts r memory
      → GoesOnShown context setting.purpose Zero truth top pushed need base t last memory to
      budget more outcome Good
      → Does (loaded_in context) budget more (at_place from r memory t.events) outcome Good
  zero_in_a {facts = facts} {from = from} {r = r} truth setting is = by setting.purpose
    where
      by : (purpose : Purpose)
          → StepsStand context (PartDoes context) facts from
          (elim purpose [ Branch ↦ TestA ∷ [] | Value ↦ [] ]) last to
          → Stage context top pushed need base t facts r memory
          → GoesOnShown context purpose Zero truth top pushed need base t last memory to
          budget more outcome Good
          → Does (loaded_in context) budget more (at_place from r memory t.events) outcome Good
      by Value ends stage rest = at_end ends stage (λ final. rest r is final)
      by Branch (TestThere there ends) stage rest =
          test_goes r sound there (record { ready = stage.ready; known = stage.known })
          (λ now same shows on.
          at_end ends (record { below = stage.below; room = stage.room; ready = on.ready; known = on.known })
          (λ final. rest now (shows ∙ is) final))

  -- a comparison with a number
  compared_in_a :
      {facts : Facts} {from : ℕ} {r : Registers} (v n : ℕ)
      → r.a ≡ v
      → v < 256
      → n < 256
      → StepsStand context (PartDoes context) facts from (Plain (AccumulateImmediate Compare n) ∷ []) last to
      → Stage context top pushed need base t facts r memory
      → ((now : Registers) → now.flags.cy ≡ nat_lt v n → now.flags.z ≡ (v == n)
      → Stage context top pushed need base t last now memory
      → Does (loaded_in context) budget more (at_place to now memory t.events) outcome Good)
      → Does (loaded_in context) budget more (at_place from r memory t.events) outcome Good
  compared_in_a {r = r} v n is small other_small (PlainThere there ends) stage rest =
      stage_with_a r.a (subtract_of r.a n false).flags sound stage there refl stage.ready.registers.a tt
      (λ next. at_end ends next
      (λ final. rest _
      (borrow_shows r.a n other_small ∙ ap (λ m. nat_lt m n) is)
      (zero_shows r.a n stage.ready.registers.a other_small ∙ ap (λ m. m == n) is) final))

  -- whether A is a number
  is_in_a :
      {facts : Facts} {from : ℕ} {r : Registers} (v n : ℕ) (setting : Setting)
      → r.a ≡ v
      → v < 256
      → n < 256
      → StepsStand context (PartDoes context) facts from (byte_is_steps n setting) last to
      → Stage context top pushed need base t facts r memory
      → GoesOnShown context setting.purpose Zero (v == n) top pushed need base t last memory to
      budget more outcome Good
      → Does (loaded_in context) budget more (at_place from r memory t.events) outcome Good
  is_in_a {facts = facts} {from = from} {r = r} v n setting is small other_small =
      by setting.purpose (n == 1) refl (n == 255) refl
    where
      by : (purpose : Purpose) (is_one : Bool) → (n == 1) ≡ is_one → (is_last : Bool) → (n == 255) ≡ is_last
          → StepsStand context (PartDoes context) facts from
          (elim purpose [
            | Branch ↦ Plain (AccumulateImmediate Compare n) ∷ []
            | Value ↦
                if is_one then Plain (Dcr (Of A)) ∷ []
                else if is_last then Plain (Inr (Of A)) ∷ []
                else Plain (AccumulateImmediate Subtract n) ∷ []
          ]) last to
          → Stage context top pushed need base t facts r memory
          → GoesOnShown context purpose Zero (v == n) top pushed need base t last memory to
          budget more outcome Good
          → Does (loaded_in context) budget more (at_place from r memory t.events) outcome Good
      by Branch is_one one is_last two stand stage rest =
          compared_in_a v n is small other_small stand stage (λ now carry zero final. rest now zero final)
      by Value true one is_last two (PlainThere there ends) stage rest =
          stage_with_a (decrement_of r.a r.flags).value (decrement_of r.a r.flags).flags sound stage there
          refl (omega arith) tt
          (λ next. at_end ends next
          (λ final. rest _
          (down_shows r.a stage.ready.registers.a ∙ ap (λ m. m == 1) is
          ∙ ap (λ m. v == m) (sym (eqb-true n 1 one))) final))
      by Value false one true two (PlainThere there ends) stage rest =
          stage_with_a (increment_of r.a r.flags).value (increment_of r.a r.flags).flags sound stage there
          refl (omega arith) tt
          (λ next. at_end ends next
          (λ final. rest _
          (count_shows r.a r.flags stage.ready.registers.a ∙ ap (λ m. m == 255) is
          ∙ ap (λ m. v == m) (sym (eqb-true n 255 two))) final))
      by Value false one false two (PlainThere there ends) stage rest =
          stage_with_a (subtract_of r.a n false).value (subtract_of r.a n false).flags sound stage there
          refl (omega arith) tt
          (λ next. at_end ends next
          (λ final. rest _
          (zero_shows r.a n stage.ready.registers.a other_small ∙ ap (λ m. m == n) is) final))

  -- the answer to a question about A and a number
  pub number_in_a :
      {facts : Facts} {from : ℕ} {r : Registers} (question : NumberQuestion) (setting : Setting) (v : ℕ)
      → r.a ≡ v
      → v < 256
      → StepsStand context (PartDoes context) facts from (number_in_a_steps question setting) last to
      → Stage context top pushed need base t facts r memory
      → GoesOnShown context setting.purpose (number_in_a_answer question) (number_truth question v)
      top pushed need base t
      last memory to budget more outcome Good
      → Does (loaded_in context) budget more (at_place from r memory t.events) outcome Good
  number_in_a {facts = facts} {from = from} {r = r} Never setting v is small ends stage rest =
      at_end ends stage (λ final. rest r refl final)
  number_in_a {facts = facts} {from = from} {r = r} (Below n) setting v is small stand stage rest =
      by (n == 1) refl (nat_lt n 256) refl stand stage rest
    where
      by : (is_one : Bool) → (n == 1) ≡ is_one → (is_byte : Bool) → nat_lt n 256 ≡ is_byte
          → StepsStand context (PartDoes context) facts from
          (if is_one then is_zero_steps setting
          else if is_byte then Plain (AccumulateImmediate Compare n) ∷ []
          else []) last to
          → Stage context top pushed need base t facts r memory
          → GoesOnShown context setting.purpose
          (if is_one then Zero else if is_byte then Carry else Known true)
          (nat_lt v n) top pushed need base t last memory to budget more outcome Good
          → Does (loaded_in context) budget more (at_place from r memory t.events) outcome Good
      by true one is_byte two stand stage rest =
          zero_in_a (nat_lt v n) setting
          (ap (λ m. m == 0) is ∙ below_one v ∙ ap (λ m. nat_lt v m) (sym (eqb-true n 1 one))) stand stage rest
      by false one true two stand stage rest =
          compared_in_a v n is small (ltb-true n 256 two) stand stage
          (λ now carry zero final. rest now carry final)
      by false one false two ends stage rest =
          at_end ends stage (λ final. rest r (lt-ltb v n (omega (arith, small, ltb-false n 256 two))) final)
  number_in_a {facts = facts} {from = from} {r = r} (Is n) setting v is small stand stage rest =
      by (n == 0) refl (nat_lt n 256) refl stand stage rest
    where
      by : (is_zero : Bool) → (n == 0) ≡ is_zero → (is_byte : Bool) → nat_lt n 256 ≡ is_byte
          → StepsStand context (PartDoes context) facts from
          (if is_zero then is_zero_steps setting
          else if is_byte then byte_is_steps n setting
          else []) last to
          → Stage context top pushed need base t facts r memory
          → GoesOnShown context setting.purpose
          (if is_zero then Zero else if is_byte then Zero else Known false)
          (v == n) top pushed need base t last memory to budget more outcome Good
          → Does (loaded_in context) budget more (at_place from r memory t.events) outcome Good
      by true one is_byte two stand stage rest =
          zero_in_a (v == n) setting (ap (λ m. m == 0) is ∙ is_zero_too v n one) stand stage rest
      by false one true two stand stage rest =
          is_in_a v n setting is small (ltb-true n 256 two) stand stage rest
      by false one false two ends stage rest =
          at_end ends stage
          (λ final. rest r (ne_eqb v n (λ same. omega (arith, small, ltb-false n 256 two, same))) final)

-- the rest of the code after a value was compared with a number
abbrev pub GoesOnAsked :
    {C : Type 0} → Context → (tree : TypedExpression) → (operand : ExpressionNumber) → Purpose → Answer
    → (truth : ℕ → Bool) → (top pushed need : ℕ)
    → (base : List ℕ) → Facts → (place more : ℕ) → (go : ℕ → SourceState → Outcome C)
    → (Good : C → SourceState → State → Type 0) → Type 0
GoesOnAsked context tree operand purpose answer truth top pushed need base last place more go Good =
    (v : ℕ) (u : SourceState) (now : Registers) (memory : List ℕ)
    → IsValueOf context tree operand v
    → AnswerShows purpose answer (truth v) now
    → Stage context top pushed need base u last now memory
    → Does (loaded_in context) u.budget more (at_place place now memory u.events) (go v u) Good

known_number_answer :
    (question : NumberQuestion) (v : ℕ) (answer : Bool)
    → v < 256
    → known_answer question ≡ Some answer
    → number_truth question v ≡ answer
known_number_answer Never v answer small is = Rattle.std.proofs.lemmas.Option.same_Some false answer is
known_number_answer (Below n) v answer small is = by (nat_lt 255 n) refl is
  where
    by : (great : Bool) → nat_lt 255 n ≡ great → (if great then Some true else None) ≡ Some answer
        → nat_lt v n ≡ answer
    by true here same =
        lt-ltb v n (omega (arith, small, ltb-true 255 n here))
        ∙ Rattle.std.proofs.lemmas.Option.same_Some true answer same
    by false here same = absurd (Rattle.std.proofs.lemmas.Option.none-some answer same)
known_number_answer (Is n) v answer small is = by (nat_lt 255 n) refl is
  where
    by : (great : Bool) → nat_lt 255 n ≡ great
        → (if great then Some false else None) ≡ Some answer → (v == n) ≡ answer
    by true here same =
        ne_eqb v n (λ equal. omega (arith, small, ltb-true 255 n here, equal))
        ∙ Rattle.std.proofs.lemmas.Option.same_Some false answer same
    by false here same = absurd (Rattle.std.proofs.lemmas.Option.none-some answer same)

-- the answer to a question about a BYTE and a number
pub byte_asked :
    {C : Type 0} {context : Context} {top need : ℕ} {base : List ℕ} {t : SourceState} {facts last : Facts}
    {r : Registers} {memory : List ℕ} {from to more bound : ℕ}
    {tree : TypedExpression}
    {Good : C → SourceState → State → Type 0}
    (operand : ExpressionNumber) (question : NumberQuestion) (setting : Setting)
    (go : ℕ → SourceState → Outcome C)
    → BytesAsked context
    → IsSound context
    → IsExpression (nodes_in context) context.storage bound operand.index tree
    → TypesHold context.typed context.within tree
    → ((v : ℕ) → IsValueOf context tree operand v → v < 256)
    → 2 * height_of tree ≤ need
    → StepsStand context (PartDoes context) facts from (byte_number_steps operand question setting) last to
    → Stage context top setting.pushed need base t facts r memory
    → GoesOnAsked context tree operand setting.purpose (byte_number_answer question)
    (number_truth question) top
    setting.pushed need base last to more go Good
    → Does (loaded_in context) t.budget more (at_place from r memory t.events)
    (then_do (value_in context tree t) go) Good
byte_asked {C = C} {context = context} {top = top} {need = need} {base = base} {t = t} {facts = facts}
    {last = last} {r = r} {memory = memory} {from = from} {to = to} {more = more} {tree = tree} {Good = Good}
    operand question setting go asked sound node types byte fewer =
    by (known_answer question) refl
  where
    by : (found : Option Bool) → known_answer question ≡ found
        → StepsStand context (PartDoes context) facts from
        (elim found [
          | Some answer ↦ known_steps operand setting
          | None ↦ Rattle.steps8080.specs.internal.Step.part
              (Rattle.steps8080.specs.declared.step.Task.TheVariants.Byte operand) setting.pushed
              ∷ number_in_a_steps question setting
        ]) last to
        → Stage context top setting.pushed need base t facts r memory
        → GoesOnAsked context tree operand setting.purpose
        (elim found [ Some answer ↦ Known answer | None ↦ number_in_a_answer question ])
        (number_truth question) top
        setting.pushed need base last to more go Good
        → Does (loaded_in context) t.budget more (at_place from r memory t.events)
        (then_do (value_in context tree t) go) Good
    by (Some answer) known (PartThere does ends) stage rest =
        at_effects _ _ _ does node types fewer stage
        (λ v u now memory_now is next. at_end ends next
        (λ final.
        let value = value_of v asked node types stage is in
        rest v u now memory_now value (known_number_answer question v answer (byte v value) known) final))
    by None known (PartThere does stand) stage rest =
        at_byte _ _ _ does node types fewer stage
        (λ v u now memory_now is given next.
        let value = value_of v asked node types stage is in
        let small = byte v value in
        number_in_a sound question setting v (given.a ∙ low_of_byte v small) small stand next
        (λ end shows final. rest v u end memory_now value shows final))
