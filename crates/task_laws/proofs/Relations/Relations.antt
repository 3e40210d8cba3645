-- Relations: the result of their code shows whether they hold.
use Rattle.task_laws.proofs.Prelude.{◌≡◌, ℕ, ◌+◌, ◌*◌, ◌<◌, ◌≤◌, ◌==◌, Bool, true, false, not, ◌&&◌, nat_le, min, max, List, Option, Some, None, option_map, refl, sym, ap, ◌∙◌, subst, arith, if◌then◌else◌, option_and_then, and_parts, none-some, same_Some, ScalarType, BinaryOperator, height_of, type_of, TypedExpression, BinaryNode, TypesHold, computed, SourceState, Outcome, Gave, Stopped, then_do, result_of, truth, values_of, Registers, State, Expression, ExpressionForm, ExpressionNumber, IsExpression, IsForm, IsNumber, IsValue, IsLocation, IsConstantList, IsConversion, IsEmbedded, IsUnary, IsBinary, IsCallOf, IsFunction, IsShift, IsInput, Facts, Does, at_place, Between, NumberQuestion, Never, Below, Question, LeftBelow, RightBelow, Equal, Relation, Site, number, agree, greatest, mirrored, number_question, question_of, relation_between, relation_of, relation_of_form, relation_with_number, fits_byte, Answer, Purpose, Branch, Value, Setting, Shown, Known, Where, Apart, answer_to, byte_relation_steps, comparison_steps, number_answer, number_steps, relation_outcome, relation_steps, operand_apart, with_pair_steps, with_place_steps, evaluated_in_order, knowing, Context, IsSound, nodes_in, StepsStand, PartDoes, value_is_word}
use Rattle.trees.specs.declared.declaration.ScalarType.TheVariants as scalars
use Rattle.isa8080.specs.declared.instr.Condition.TheVariants as conditions
use Rattle.operands8080.specs.declared.answers.Answer.TheVariants as answers
use Rattle.operands8080.specs.internal.Relations.{outcome_of}
use Rattle.task_laws.proofs.Relations.Answers.{AnswerShows, ZeroShows, agree_twice, mirrored_asks, number_asks, number_truth, question_truth, relation_gives}
use Rattle.task_laws.proofs.Bytes.BytesAsked.{BytesAsked}
use Rattle.task_laws.proofs.Relations.ByteComparisons.{asking, bytes_compared}
use Rattle.task_laws.proofs.Machine.Nodes.{node_of}
use Rattle.task_laws.proofs.Relations.NumberComparisons.{GoesOnAsked, byte_asked}
use Rattle.task_laws.proofs.Relations.PlaceComparisons.{is_apart, place_compared}
use Rattle.task_laws.proofs.Machine.SiteNodes.{number_means, value_in}
use Rattle.task_laws.proofs.Machine.Stages.{Stage, does_same, loaded_in}
use Rattle.task_laws.proofs.Relations.WordComparisons.{GoesOnBoth, pair_compared}
use Rattle.task_laws.proofs.Relations.WordNumbers.{IsBounded, word_asked}
use Rattle.task_laws.proofs.Agreement.{agree_true}

-- an outcome shows whether a relation holds
abbrev pub OutcomeShows : Purpose → Shown → (holds : Bool) → Registers → Type 0
OutcomeShows purpose (Known known) holds r = holds ≡ known
OutcomeShows purpose (Where conditions.Carry) holds r = r.flags.cy ≡ holds
OutcomeShows purpose (Where conditions.NoCarry) holds r = r.flags.cy ≡ not holds
OutcomeShows purpose (Where conditions.Zero) holds r = ZeroShows purpose holds r
OutcomeShows purpose (Where conditions.NotZero) holds r = ZeroShows purpose (not holds) r
OutcomeShows purpose (Where condition) holds r = ⊥

not_agreed : (b : Bool) → not (agree b false) ≡ b
not_agreed true = refl
not_agreed false = refl

outcome_shown :
    (purpose : Purpose) (answer : Answer) (holds_if : Bool) (is : Bool) (r : Registers)
    → AnswerShows purpose answer is r
    → OutcomeShows purpose (outcome_of answer holds_if) (agree is holds_if) r
outcome_shown purpose (answers.Known known) holds_if is r shows = ap (λ b. agree b holds_if) shows
outcome_shown purpose answers.Carry true is r shows = shows ∙ sym (agree_true is)
outcome_shown purpose answers.Carry false is r shows = shows ∙ sym (not_agreed is)
outcome_shown Branch answers.Zero true is r shows = shows ∙ sym (agree_true is)
outcome_shown Branch answers.Zero false is r shows = shows ∙ sym (not_agreed is)
outcome_shown Value answers.Zero true is r shows = shows ∙ sym (agree_true is)
outcome_shown Value answers.Zero false is r shows = shows ∙ sym (not_agreed is)

-- the relation of a tree
pub data IsRelation (context : Context) (facts : Facts) (bound : ℕ) : TypedExpression → Relation → Type 0 where
  Relates : {operands : ScalarType} {operator : BinaryOperator} {left right : ExpressionNumber}
      {first second : TypedExpression} (question : Question) (holds_if : Bool)
      → IsExpression (nodes_in context) context.storage bound left.index first
      → IsExpression (nodes_in context) context.storage bound right.index second
      → question_of operator ≡ Some (question, holds_if)
      → {relation : Relation}
      → relation_between (knowing context.site facts) (asking operands left right question) holds_if
      ≡ relation
      → IsRelation context facts bound (BinaryNode operands operator first second) relation

relation_of_node :
    {context : Context} {bound : ℕ} {tree : TypedExpression} {form : ExpressionForm} (facts : Facts)
    (relation : Relation)
    → IsForm (nodes_in context) context.storage bound form tree
    → relation_of_form (knowing context.site facts) form ≡ Some relation
    → IsRelation context facts bound tree relation
relation_of_node {context = context} {bound = bound} facts relation
    (IsBinary {operands = operands} {operator = operator} {left = left} {right = right} {first = first}
    {second = second} one two) is =
    by (question_of operator) refl is
  where
    by : (found : Option (Question × Bool)) → question_of operator ≡ found
        → option_map
        (λ (asked : Question × Bool). relation_between (knowing context.site facts)
        (asking operands left right asked.0) asked.1)
        found
        ≡ Some relation
        → IsRelation context facts bound (BinaryNode operands operator first second) relation
    by None there same = absurd (none-some relation same)
    by (Some (question, holds_if)) there same =
        Relates question holds_if one two there (same_Some _ relation same)
relation_of_node facts relation IsNumber is = absurd (none-some relation is)
relation_of_node facts relation (IsValue part) is = absurd (none-some relation is)
relation_of_node facts relation (IsLocation part) is = absurd (none-some relation is)
relation_of_node facts relation IsConstantList is = absurd (none-some relation is)
relation_of_node facts relation (IsConversion inner) is = absurd (none-some relation is)
relation_of_node facts relation (IsEmbedded target inner) is = absurd (none-some relation is)
relation_of_node facts relation (IsUnary inner) is = absurd (none-some relation is)
relation_of_node facts relation (IsCallOf given) is = absurd (none-some relation is)
relation_of_node facts relation (IsFunction inner) is = absurd (none-some relation is)
relation_of_node facts relation (IsShift inner by) is = absurd (none-some relation is)
relation_of_node facts relation IsInput is = absurd (none-some relation is)

-- an expression that is a relation
pub relation_is :
    {context : Context} {bound : ℕ} {of : ExpressionNumber} {tree : TypedExpression} (facts : Facts)
    (relation : Relation)
    → IsSound context
    → IsExpression (nodes_in context) context.storage bound of.index tree
    → relation_of (knowing context.site facts) of ≡ Some relation
    → IsRelation context facts of.index tree relation
unfolding relation_of
relation_is {context = context} {of = of} facts relation sound node is =
    let found = node_of sound node in
    relation_of_node facts relation found.form
    (ap (λ (one : Option Expression). option_and_then
    (λ (given : Expression). relation_of_form (knowing context.site facts) given.form) one)
    (sym (found.at_site facts)) ∙ is)

abbrev first_of : NumberQuestion × Bool → NumberQuestion
first_of pair = pair.0

bounded : (question : Question) (n : ℕ) (scalar : ScalarType) → n < 65536
    → IsBounded (number_question question n scalar).0
bounded Equal n scalar small = small
bounded LeftBelow n scalar small = by (n == 0)
  where
    by : (is_zero : Bool) → IsBounded (first_of (if is_zero then (Never, true) else (Below n, true)))
    by true = tt
    by false = small
bounded RightBelow n scalar small = by (nat_le (greatest scalar) n)
  where
    by : (is_great : Bool)
        → IsBounded (first_of (if is_great then (Never, true) else (Below (min (n + 1) 65535), false)))
    by true = tt
    by false = omega arith

-- the rest of the code after a relation
abbrev pub GoesOnRelated :
    {C : Type 0} → Context → Purpose → Shown → (top pushed need : ℕ) → (base : List ℕ)
    → Facts → (place more : ℕ)
    → (go : ℕ → SourceState → Outcome C) → (Good : C → SourceState → State → Type 0) → Type 0
GoesOnRelated context purpose shown top pushed need base last place more go Good =
    (holds : Bool) (u : SourceState) (now : Registers) (memory : List ℕ)
    → OutcomeShows purpose shown holds now
    → Stage context top pushed need base u last now memory
    → Does (loaded_in context) u.budget more (at_place place now memory u.events) (go (truth holds) u) Good

-- a relation, by the known values of its operands
abbrev pub between : Site → ScalarType → (left right : ExpressionNumber) → Question → (holds_if : Bool)
    → (right_number left_number : Option ℕ) → Relation
between site operands left right question holds_if (Some n) left_number =
    relation_with_number left n (asking operands left right question) question holds_if
between site operands left right question holds_if None (Some n) =
    relation_with_number right n (asking operands left right question) (mirrored question) holds_if
between site operands left right question holds_if None None =
    record { inquiry = Between (asking operands left right question); holds_if = holds_if }

pub between_is :
    (site : Site) (operands : ScalarType) (left right : ExpressionNumber)
    (question : Question) (holds_if : Bool)
    → relation_between site (asking operands left right question) holds_if
    ≡ between site operands left right question holds_if (number site right) (number site left)
unfolding relation_between
between_is site operands left right question holds_if = by (number site right) (number site left)
  where
    by : (right_number left_number : Option ℕ)
        → elim right_number [
          | Some value ↦ relation_with_number left value
              (asking operands left right question) question holds_if
          | None ↦ elim left_number [
            | Some value ↦
                relation_with_number right value (asking operands left right question)
                (mirrored question) holds_if
            | None ↦ record { inquiry = Between (asking operands left right question); holds_if = holds_if }
          ]
        ]
        ≡ between site operands left right question holds_if right_number left_number
    by (Some n) left_number = refl
    by None (Some n) = refl
    by None None = refl

-- the value of an operator, and then the rest
pub in_order_of :
    {C : Type 0} (context : Context) (first second : TypedExpression) (operands : ScalarType)
    (operator : BinaryOperator)
    (go : ℕ → SourceState → Outcome C) (t : SourceState)
    → then_do (value_in context (BinaryNode operands operator first second) t) go
    ≡ evaluated_in_order (value_in context first) (value_in context second)
    (λ v w s. then_do (computed (result_of operands operator v w) s) go) t
in_order_of {C = C} context first second operands operator go t = by (value_in context first t)
  where
    inner : (v : ℕ) (outcome : Outcome ℕ)
        → ◌≡◌ {A = Outcome C}
        (then_do (then_do outcome (λ w s. computed (result_of operands operator v w) s)) go)
        (then_do outcome (λ w s. then_do (computed (result_of operands operator v w) s) go))
    inner v (Gave w u) = refl
    inner v (Stopped why u) = refl

    by : (outcome : Outcome ℕ)
        → ◌≡◌ {A = Outcome C}
        (then_do (then_do outcome (λ v u. then_do (value_in context second u)
        (λ w s. computed (result_of operands operator v w) s))) go)
        (then_do outcome (λ v u. then_do (value_in context second u)
        (λ w s. then_do (computed (result_of operands operator v w) s) go)))
    by (Gave v s) = inner v (value_in context second s)
    by (Stopped why s) = refl

module _
    (C : Type 0) (context : Context) (top need : ℕ) (base : List ℕ) (facts last : Facts)
    (memory : List ℕ) (to more : ℕ)
    (Good : C → SourceState → State → Type 0)
    (asked : BytesAsked context) (sound : IsSound context) (setting : Setting) where
  -- an operand and a number
  number_asked :
      (operand : ExpressionNumber) (operands : ScalarType) (question : NumberQuestion)
      (t : SourceState) (r : Registers)
      (from bound : ℕ) (tree : TypedExpression) (go : ℕ → SourceState → Outcome C)
      → IsExpression (nodes_in context) context.storage bound operand.index tree
      → TypesHold context.typed context.within tree
      → type_of tree ≡ operands
      → 2 * height_of tree ≤ need
      → IsBounded question
      → StepsStand context (PartDoes context) facts from
      (number_steps (knowing context.site facts) operand operands question setting) last to
      → Stage context top setting.pushed need base t facts r memory
      → GoesOnAsked context tree operand setting.purpose
      (number_answer (knowing context.site facts) operand operands question)
      (number_truth question) top setting.pushed need base last to more go Good
      → Does (loaded_in context) t.budget more (at_place from r memory t.events)
      (then_do (value_in context tree t) go) Good
  number_asked operand scalars.Byte question t r from bound tree go node types is fewer
      small stand stage rest =
      byte_asked operand question setting go asked sound node types
      (λ v value. subst (λ scalar. v < values_of scalar) is value.small) fewer stand stage rest
  number_asked operand scalars.Address question t r from bound tree go node types is fewer
      small stand stage rest =
      word_asked C context top need base t facts last r memory from to more bound tree Good operand
      setting go asked sound node
      types is fewer question small stand stage rest

  -- two operands
  both_asked :
      (operands : ScalarType) (left right : ExpressionNumber) (question : Question)
      (t : SourceState) (r : Registers)
      (from bound : ℕ) (first second : TypedExpression) (go : ℕ → ℕ → SourceState → Outcome C)
      → IsExpression (nodes_in context) context.storage bound left.index first
      → TypesHold context.typed context.within first
      → type_of first ≡ operands
      → IsExpression (nodes_in context) context.storage bound right.index second
      → TypesHold context.typed context.within second
      → type_of second ≡ operands
      → 2 + 2 * max (height_of first) (height_of second) ≤ need
      → StepsStand context (PartDoes context) facts from
      (comparison_steps (knowing context.site facts) (asking operands left right question) setting) last to
      → Stage context top setting.pushed need base t facts r memory
      → GoesOnBoth context question setting.purpose top setting.pushed need base last to more go Good
      → Does (loaded_in context) t.budget more (at_place from r memory t.events)
      (evaluated_in_order (value_in context first) (value_in context second) go t) Good
  both_asked scalars.Byte left right question t r from bound first second go one types is two other_types
      other_is fewer stand stage rest =
      bytes_compared facts scalars.Byte left right question setting go asked sound one types two other_types
      (omega (arith, fewer)) (omega (arith, fewer)) stand stage
      (λ v w u now memory_now value other_value shows final.
      let v_small : v < 256 = subst (λ scalar. v < values_of scalar) is value.small in
      let w_small : w < 256 = subst (λ scalar. w < values_of scalar) other_is other_value.small in
      rest v w u now memory_now (omega (arith, v_small)) (omega (arith, w_small))
      (shows v_small w_small) final)
  both_asked scalars.Address left right question t r from bound first second go one types is two other_types
      other_is fewer stand stage rest =
      by (fits_byte (knowing context.site facts) left && fits_byte (knowing context.site facts) right) refl
      (operand_apart (knowing context.site facts) (asking scalars.Address left right question)) refl stand
    where
      by : (fit : Bool)
          → (fits_byte (knowing context.site facts) left && fits_byte (knowing context.site facts) right)
          ≡ fit
          → (found : Option Apart)
          → operand_apart (knowing context.site facts) (asking scalars.Address left right question) ≡ found
          → StepsStand context (PartDoes context) facts from
          (if fit then byte_relation_steps (knowing context.site facts)
          (asking scalars.Address left right question) setting
          else elim found [
            | Some apart ↦ with_place_steps apart question setting.pushed
            | None ↦ with_pair_steps (knowing context.site facts)
                (asking scalars.Address left right question) setting.pushed
          ]) last to
          → Does (loaded_in context) t.budget more (at_place from r memory t.events)
          (evaluated_in_order (value_in context first) (value_in context second) go t) Good
      by true fit found lies stand =
          let parts =
          and_parts (fits_byte (knowing context.site facts) left)
          (fits_byte (knowing context.site facts) right) fit in
          bytes_compared facts scalars.Address left right question setting go asked sound one
          types two other_types
          (omega (arith, fewer)) (omega (arith, fewer)) stand stage
          (λ v w u now memory_now value other_value shows final.
          let v_small : v < 256 = value.fits facts parts.0 in
          let w_small : w < 256 = other_value.fits facts parts.1 in
          rest v w u now memory_now (omega (arith, v_small)) (omega (arith, w_small))
          (shows v_small w_small) final)
      by false fit (Some apart) lies stand =
          place_compared facts left right question setting go asked sound one types two other_types
          (omega (arith, fewer)) (omega (arith, fewer))
          (is_apart (knowing context.site facts) scalars.Address left right question apart lies) stand stage
          rest
      by false fit None lies stand =
          pair_compared scalars.Address left right question setting go asked sound one types two other_types
          fewer stand stage rest

  -- a relation, by the known values of its operands
  related :
      (operands : ScalarType) (operator : BinaryOperator) (left right : ExpressionNumber)
      (question : Question)
      (holds_if : Bool) (t : SourceState) (r : Registers)
      (from bound : ℕ) (first second : TypedExpression) (go : ℕ → SourceState → Outcome C)
      → IsExpression (nodes_in context) context.storage bound left.index first
      → IsExpression (nodes_in context) context.storage bound right.index second
      → TypesHold context.typed context.within (BinaryNode operands operator first second)
      → question_of operator ≡ Some (question, holds_if)
      → 2 * height_of (BinaryNode operands operator first second) ≤ need
      → (right_number left_number : Option ℕ)
      → number (knowing context.site facts) right ≡ right_number
      → number (knowing context.site facts) left ≡ left_number
      → StepsStand context (PartDoes context) facts from
      (relation_steps (knowing context.site facts)
      (between (knowing context.site facts) operands left right question holds_if right_number left_number)
      setting) last to
      → Stage context top setting.pushed need base t facts r memory
      → GoesOnRelated context setting.purpose
      (relation_outcome (knowing context.site facts)
      (between (knowing context.site facts) operands left right question holds_if right_number left_number))
      top setting.pushed need base last to more go Good
      → Does (loaded_in context) t.budget more (at_place from r memory t.events)
      (then_do (value_in context (BinaryNode operands operator first second) t) go) Good
  related operands operator left right question holds_if t r from bound first second go one two types is fewer
      (Some n) left_number right_is left_is stand stage rest =
      let site = knowing context.site facts in
      let asked_so = number_question question n operands in
      let means = number_means facts n sound two types.2.0 right_is in
      let n_small =
      value_is_word (type_of second) n
      (asked.values_fit right bound top n second base t t r memory two types.2.0 stage.ready (means t)) in
      does_same _ (in_order_of context first second operands operator go t)
      (number_asked left operands asked_so.0 t r from bound first
      (λ v u. then_do (value_in context second u)
      (λ w s. then_do (computed (result_of operands operator v w) s) go))
      one types.1.0 types.1.1 (omega (arith, fewer)) (bounded question n operands n_small) stand stage
      (λ v u now memory_now value shows final.
      let v_small = subst (λ scalar. v < values_of scalar) types.1.1 value.small in
      let holds = agree (question_truth question v n) holds_if in
      does_same (go (truth holds) u)
      (ap (λ (given : Outcome ℕ). then_do given
      (λ w s. then_do (computed (result_of operands operator v w) s) go)) (means u)
      ∙ ap (λ (given : Option ℕ). then_do (computed given u) go)
      (relation_gives operands operator question holds_if v n is))
      (rest holds u now memory_now
      (subst (λ b. OutcomeShows setting.purpose
      (outcome_of (number_answer site left operands asked_so.0) (agree holds_if asked_so.1)) b now)
      (sym (agree_twice (number_truth asked_so.0 v) asked_so.1 holds_if)
      ∙ ap (λ b. agree b holds_if) (sym (number_asks question n operands v v_small)))
      (outcome_shown setting.purpose (number_answer site left operands asked_so.0) (agree holds_if asked_so.1)
      (number_truth asked_so.0 v) now shows)) final)))
  related operands operator left right question holds_if t r from bound first second go one two types is fewer
      None (Some n) right_is left_is stand stage rest =
      let site = knowing context.site facts in
      let asked_so = number_question (mirrored question) n operands in
      let means = number_means facts n sound one types.1.0 left_is in
      let n_small =
      value_is_word (type_of first) n
      (asked.values_fit left bound top n first base t t r memory one types.1.0 stage.ready (means t)) in
      does_same
      (then_do (value_in context second t)
      (λ w s. then_do (computed (result_of operands operator n w) s) go))
      (in_order_of context first second operands operator go t
      ∙ ap (λ (given : Outcome ℕ). then_do given
      (λ v u. then_do (value_in context second u)
      (λ w s. then_do (computed (result_of operands operator v w) s) go))) (means t))
      (number_asked right operands asked_so.0 t r from bound second
      (λ w s. then_do (computed (result_of operands operator n w) s) go)
      two types.2.0 types.2.1 (omega (arith, fewer))
      (bounded (mirrored question) n operands n_small) stand stage
      (λ w u now memory_now value shows final.
      let w_small = subst (λ scalar. w < values_of scalar) types.2.1 value.small in
      let holds = agree (question_truth question n w) holds_if in
      does_same (go (truth holds) u)
      (ap (λ (given : Option ℕ). then_do (computed given u) go)
      (relation_gives operands operator question holds_if n w is))
      (rest holds u now memory_now
      (subst (λ b. OutcomeShows setting.purpose
      (outcome_of (number_answer site right operands asked_so.0) (agree holds_if asked_so.1)) b now)
      (sym (agree_twice (number_truth asked_so.0 w) asked_so.1 holds_if)
      ∙ ap (λ b. agree b holds_if)
      (sym (number_asks (mirrored question) n operands w w_small) ∙ mirrored_asks question n w))
      (outcome_shown setting.purpose (number_answer site right operands asked_so.0)
      (agree holds_if asked_so.1)
      (number_truth asked_so.0 w) now shows)) final)))
  related operands operator left right question holds_if t r from bound first second go one two types is fewer
      None None right_is left_is stand stage rest =
      does_same _ (in_order_of context first second operands operator go t)
      (both_asked operands left right question t r from bound first second
      (λ v w s. then_do (computed (result_of operands operator v w) s) go)
      one types.1.0 types.1.1 two types.2.0 types.2.1 (omega (arith, fewer)) stand stage
      (λ v w u now memory_now v_small w_small shows final.
      let holds = agree (question_truth question v w) holds_if in
      does_same (go (truth holds) u)
      (ap (λ (given : Option ℕ). then_do (computed given u) go)
      (relation_gives operands operator question holds_if v w is))
      (rest holds u now memory_now
      (outcome_shown setting.purpose (answer_to question) holds_if (question_truth question v w) now shows)
      final)))

  -- a relation
  pub relation_shown :
      (t : SourceState) (r : Registers) (from bound : ℕ) (tree : TypedExpression) (relation : Relation)
      (go : ℕ → SourceState → Outcome C)
      → IsRelation context facts bound tree relation
      → TypesHold context.typed context.within tree
      → 2 * height_of tree ≤ need
      → StepsStand context (PartDoes context) facts from
      (relation_steps (knowing context.site facts) relation setting) last to
      → Stage context top setting.pushed need base t facts r memory
      → GoesOnRelated context setting.purpose (relation_outcome (knowing context.site facts) relation)
      top setting.pushed need base last to more go Good
      → Does (loaded_in context) t.budget more (at_place from r memory t.events)
      (then_do (value_in context tree t) go) Good
  relation_shown t r from bound tree relation go
      (Relates {operands = operands} {operator = operator} {left = left} {right = right} {first = first}
      {second = second} question holds_if one two is same) types fewer stand stage rest =
      let site = knowing context.site facts in
      let made : relation ≡ between site operands left right question holds_if (number site right)
      (number site left) =
      sym same ∙ between_is site operands left right question holds_if in
      related operands operator left right question holds_if t r from bound first second go
      one two types is fewer
      (number site right) (number site left) refl refl
      (subst (λ (given : Relation). StepsStand context (PartDoes context) facts from
      (relation_steps site given setting) last to) made stand)
      stage
      (λ holds u now memory_now shows final.
      rest holds u now memory_now
      (subst (λ (given : Relation). OutcomeShows setting.purpose (relation_outcome site given) holds now)
      (sym made) shows) final)
