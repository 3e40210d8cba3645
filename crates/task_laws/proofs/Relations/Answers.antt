-- The meaning of questions, and the flags that show their answers.
use Rattle.task_laws.proofs.Prelude.{◌≡◌, ℕ, ◌+◌, ◌%◌, ◌<◌, ◌≤◌, ◌==◌, Bool, true, false, not, nat_lt, nat_le, min, if◌then◌else◌, Option, Some, refl, sym, ap, ◌∙◌, arith, ltb-true, ltb-false, lt-ltb, le-ltb, leb-true, leb-false, le-leb, lt-leb, eqb-true, eqb-false, eq-eqb, ne_eqb, none-some, same_Some, ScalarType, Byte, Address, BinaryOperator, result_of, truth, values_of, Compare, Subtract, Registers, borrow_shows, same_test, zero_shows, NumberQuestion, Never, Below, Is, Question, LeftBelow, RightBelow, Equal, agree, greatest, mirrored, number_question, question_of, Answer, Carry, Zero, Purpose, Branch, Value, low_of_byte}
use Rattle.trees.specs.declared.expression.BinaryOperator.TheVariants as operators
use Rattle.operands8080.specs.declared.answers.Answer.TheVariants.{Known}
use Rattle.task_laws.proofs.Bytes.ByteOperations.{IsOperated}
use Rattle.task_laws.proofs.Agreement.{agree_true}

-- the answer to a question about two values
abbrev pub question_truth : Question → (left right : ℕ) → Bool
question_truth LeftBelow left right = nat_lt left right
question_truth RightBelow left right = nat_lt right left
question_truth Equal left right = left == right

-- and about a value and a number
abbrev pub number_truth : NumberQuestion → ℕ → Bool
number_truth Never number = false
number_truth (Below bound) number = nat_lt number bound
number_truth (Is other) number = number == other

-- the zero flag shows an answer, or whether A is 0 does
abbrev pub ZeroShows : Purpose → (answer : Bool) → Registers → Type 0
ZeroShows Branch answer r = r.flags.z ≡ answer
ZeroShows Value answer r = (r.a == 0) ≡ answer

-- an answer is left so
abbrev pub AnswerShows : Purpose → Answer → (answer : Bool) → Registers → Type 0
AnswerShows purpose (Known known) answer r = answer ≡ known
AnswerShows purpose Carry answer r = r.flags.cy ≡ answer
AnswerShows purpose Zero answer r = ZeroShows purpose answer r

pub agree_twice : (b one other : Bool) → agree (agree b one) other ≡ agree b (agree other one)
agree_twice true true true = refl
agree_twice true true false = refl
agree_twice true false true = refl
agree_twice true false false = refl
agree_twice false true true = refl
agree_twice false true false = refl
agree_twice false false true = refl
agree_twice false false false = refl

agree_false : (b : Bool) → agree b false ≡ not b
agree_false true = refl
agree_false false = refl

not_below : (v w : ℕ) → nat_le w v ≡ agree (nat_lt v w) false
not_below v w = by (nat_lt v w) refl
  where
    by : (b : Bool) → nat_lt v w ≡ b → nat_le w v ≡ agree b false
    by true is = lt-leb w v (ltb-true v w is)
    by false is = le-leb w v (ltb-false v w is)

-- an operator gives whether its question's answer is the one that it holds for
pub relation_gives :
    (operands : ScalarType) (operator : BinaryOperator) (question : Question) (holds_if : Bool) (v w : ℕ)
    → question_of operator ≡ Some (question, holds_if)
    → result_of operands operator v w ≡ Some (truth (agree (question_truth question v w) holds_if))
relation_gives operands operator question holds_if v w is = by operator is
  where
    so : (q : Question) (h : Bool) (given : ℕ)
        → ◌≡◌ {A = Option (Question × Bool)} (Some (q, h)) (Some (question, holds_if))
        → given ≡ truth (agree (question_truth q v w) h)
        → ◌≡◌ {A = Option ℕ} (Some given) (Some (truth (agree (question_truth question v w) holds_if)))
    so q h given same equal =
        let pair = same_Some {A = Question × Bool} (q, h) (question, holds_if) same in
        ap Some (equal ∙ ap (λ (p : Question × Bool). truth (agree (question_truth p.0 v w) p.1)) pair)

    by : (of : BinaryOperator) → question_of of ≡ Some (question, holds_if)
        → result_of operands of v w ≡ Some (truth (agree (question_truth question v w) holds_if))
    by operators.Less same = so LeftBelow true _ same (ap truth (sym (agree_true (nat_lt v w))))
    by operators.GreaterOrEqual same = so LeftBelow false _ same (ap truth (not_below v w))
    by operators.Greater same = so RightBelow true _ same (ap truth (sym (agree_true (nat_lt w v))))
    by operators.LessOrEqual same = so RightBelow false _ same (ap truth (not_below w v))
    by operators.Equal same = so Equal true _ same (ap truth (sym (agree_true (v == w))))
    by operators.Unequal same = so Equal false _ same (ap truth (sym (agree_false (v == w))))
    by operators.Or same = absurd (none-some _ same)
    by operators.Xor same = absurd (none-some _ same)
    by operators.And same = absurd (none-some _ same)
    by operators.Add same = absurd (none-some _ same)
    by operators.Subtract same = absurd (none-some _ same)
    by operators.Multiply same = absurd (none-some _ same)
    by operators.Divide same = absurd (none-some _ same)
    by operators.Modulo same = absurd (none-some _ same)

pub same_turned : (v w : ℕ) → (w == v) ≡ (v == w)
same_turned v w =
    same_test (w == v) (v == w)
    (λ is. eq-eqb v w (sym (eqb-true w v is)))
    (λ is. ne_eqb v w (λ same. eqb-false w v is (sym same)))

-- the question with its sides changed has the same answer
pub mirrored_asks : (question : Question) (v w : ℕ)
    → question_truth (mirrored question) w v ≡ question_truth question v w
mirrored_asks LeftBelow v w = refl
mirrored_asks RightBelow v w = refl
mirrored_asks Equal v w = same_turned v w

greatest_is : (scalar : ScalarType) (v : ℕ) → v < values_of scalar → v ≤ greatest scalar
greatest_is Byte v small = omega (arith, small)
greatest_is Address v small = omega (arith, small)

greatest_small : (scalar : ScalarType) → greatest scalar ≤ 65535
greatest_small Byte = omega arith
greatest_small Address = omega arith

never_below : (v : ℕ) → nat_lt v 0 ≡ false
never_below v = le-ltb v 0 (omega arith)

-- an answer is that to a question about a number, or the other one
abbrev Asks : Bool → (v : ℕ) → NumberQuestion × Bool → Type 0
Asks answer v asked = answer ≡ agree (number_truth asked.0 v) asked.1

-- the question about a value and a number on its right
pub number_asks :
    (question : Question) (n : ℕ) (scalar : ScalarType) (v : ℕ)
    → v < values_of scalar
    → question_truth question v n
    ≡ agree (number_truth (number_question question n scalar).0 v) (number_question question n scalar).1
number_asks Equal n scalar v small = sym (agree_true (v == n))
number_asks LeftBelow n scalar v small = by (n == 0) refl
  where
    by : (is_zero : Bool) → (n == 0) ≡ is_zero
        → Asks (nat_lt v n) v (if is_zero then (Never, true) else (Below n, true))
    by true is = le-ltb v n (omega (arith, eqb-true n 0 is))
    by false is = sym (agree_true (nat_lt v n))
number_asks RightBelow n scalar v small = by (nat_le (greatest scalar) n) refl
  where
    by : (is_great : Bool) → nat_le (greatest scalar) n ≡ is_great
        → Asks (nat_lt n v) v (if is_great then (Never, true) else (Below (min (n + 1) 65535), false))
    by true is = le-ltb n v (omega (arith, leb-true (greatest scalar) n is, greatest_is scalar v small))
    by false is =
        let less = leb-false (greatest scalar) n is in
        let high = greatest_small scalar in
        same_test (nat_lt n v) (agree (nat_lt v (min (n + 1) 65535)) false)
        (λ here. agree_false (nat_lt v (min (n + 1) 65535))
        ∙ ap not (le-ltb v (min (n + 1) 65535) (omega (arith, ltb-true n v here, less, high))))
        (λ here. agree_false (nat_lt v (min (n + 1) 65535))
        ∙ ap not (lt-ltb v (min (n + 1) 65535) (omega (arith, ltb-false n v here, less, high))))

low_small : (v : ℕ) → v % 256 < 256
low_small v = omega arith

-- after a comparison the borrow shows that the first is less,
pub compared_below :
    (v w : ℕ) (now : Registers) → v < 256 → w < 256 → IsOperated Compare v w now → now.flags.cy ≡ nat_lt v w
compared_below v w now one two is =
    ap (λ f. f.cy) is.flags ∙ borrow_shows (v % 256) (w % 256) (low_small w)
    ∙ ap (λ n. nat_lt n (w % 256)) (low_of_byte v one) ∙ ap (λ n. nat_lt v n) (low_of_byte w two)

-- and zero that they are equal
pub compared_equal :
    (v w : ℕ) (now : Registers) → v < 256 → w < 256 → IsOperated Compare v w now → now.flags.z ≡ (v == w)
compared_equal v w now one two is =
    ap (λ f. f.z) is.flags ∙ zero_shows (v % 256) (w % 256) (low_small v) (low_small w)
    ∙ ap (λ n. n == (w % 256)) (low_of_byte v one) ∙ ap (λ n. v == n) (low_of_byte w two)

-- a difference is 0 where they are equal
pub subtracted_equal :
    (v w : ℕ) (now : Registers) → v < 256 → w < 256 → IsOperated Subtract v w now → (now.a == 0) ≡ (v == w)
subtracted_equal v w now one two is =
    ap (λ n. n == 0) is.a ∙ zero_shows (v % 256) (w % 256) (low_small v) (low_small w)
    ∙ ap (λ n. n == (w % 256)) (low_of_byte v one) ∙ ap (λ n. v == n) (low_of_byte w two)
