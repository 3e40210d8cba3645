-- DO CASE: the number comes into DE by its type, or is known, or there are no statements.
use Rattle.statement_laws.proofs.Prelude.{◌≡◌, ℕ, ◌+◌, ◌*◌, ◌/◌, ◌%◌, ◌<◌, ◌≤◌, nat_lt, List, [], ◌∷◌, ◌++◌, sym, ap, subst, ◌∙◌, arith, ltb-true, ltb-false, lt-ltb, le-ltb, ScalarType, Byte, Address, height_of, height_of_statements, type_of, TypedExpression, TypedStatements, TypesHold, done_case, SourceState, Outcome, then_do, Flow, values_of, Instr, AccumulateImmediate, Xchg, Compare, Subtract, SubtractWithBorrow, A, D, E, H, L, Registers, State, word, ExpressionNumber, Range, IsExpressionIn, Does, at_place, borrow_shows, same_test, Facts, LabelNumber, Step, copy, high, low, set, plain, Here, nodes_in, PartThere, effect, value_in, Stage, at_instructions, loaded_in, then_does_where, BodyContext, Leaves, low_of_byte, room_for}
use Rattle.steps8080.specs.declared.step.Step.TheVariants as steps
use Rattle.steps8080.specs.declared.step.Task.TheVariants as tasks
use Rattle.statement_laws.proofs.Cases.Cases.{CaseParts, ChoiceStands, bounded, bounded_goes, chosen}
use Rattle.statement_laws.proofs.Loops.LoopCode.{Steps}
use Rattle.statement_laws.proofs.Loops.WordCode.{word_is_less}
use Rattle.statement_laws.proofs.Numbers.{whole_of_halves}

of_type : (tree : TypedExpression) (scalar : ScalarType) (n : ℕ) → type_of tree ≡ scalar
    → n < values_of (type_of tree) → n < values_of scalar
of_type tree scalar n same small = subst (λ (one : ScalarType). n < values_of one) same small

-- a BYTE comes into A
byte_value :
    (at : BodyContext) {base : List ℕ} {need from to : ℕ} {facts last : Facts} {others : List Step}
    {tree : TypedExpression}
    {Good : Flow → SourceState → State → Type 0}
    (choice : ExpressionNumber) (go : ℕ → SourceState → Outcome Flow) (s : SourceState)
    (r : Registers) (memory : List ℕ)
    → IsExpressionIn (nodes_in at.context) at.context.storage choice tree
    → TypesHold at.context.typed at.context.within tree
    → type_of tree ≡ Byte
    → 2 * height_of tree ≤ need
    → Steps at.context facts from (steps.Part (record { task = tasks.Byte choice; pushed = 0 }) ∷ others) last
    to
    → Stage at.context at.context.activation.level 0 need base s facts r memory
    → ((n : ℕ) (u : SourceState) (now : Registers) (memory_now : List ℕ) (found : Facts) (middle : ℕ)
    → n < 256
    → now.a ≡ n
    → u.budget ≤ s.budget
    → Steps at.context found middle others last to
    → Stage at.context at.context.activation.level 0 need base u found now memory_now
    → Does (loaded_in at.context) u.budget 0 (at_place middle now memory_now u.events) (go n u) Good)
    → Does (loaded_in at.context) s.budget 0 (at_place from r memory s.events)
    (then_do (value_in at.context tree s) go) Good
byte_value at {base = base} {need = need} {tree = tree} {Good = Good} choice go s r memory is types scalar
    fits (PartThere {found = found} {middle = middle} does rest) stage next =
    then_does_where (value_in at.context tree s)
    (does _ tree is types at.context.activation.level base s r memory stage.below
    (room_for (2 * height_of tree) fits stage.room) stage.ready stage.known tt)
    (λ n u end gave arrives spent.
    let below = stage.below in
    let small : n < 256 = of_type tree Byte n scalar (arrives.holds).small in
    subst (λ (state : State). Does (loaded_in at.context) u.budget 0 state (go n u) Good) (sym arrives.is_at)
    (next n u arrives.r arrives.memory found middle small ((arrives.holds).a ∙ low_of_byte n small) spent rest
    (record { below = omega (arith, below, spent); room = stage.room; ready = arrives.ready; known = (arrives.holds).known })))

-- an ADDRESS comes into HL
word_value :
    (at : BodyContext) {base : List ℕ} {need from to : ℕ} {facts last : Facts} {others : List Step}
    {tree : TypedExpression}
    {Good : Flow → SourceState → State → Type 0}
    (choice : ExpressionNumber) (go : ℕ → SourceState → Outcome Flow) (s : SourceState)
    (r : Registers) (memory : List ℕ)
    → IsExpressionIn (nodes_in at.context) at.context.storage choice tree
    → TypesHold at.context.typed at.context.within tree
    → type_of tree ≡ Address
    → 2 * height_of tree ≤ need
    → Steps at.context facts from (steps.Part (record { task = tasks.Word choice; pushed = 0 }) ∷ others) last
    to
    → Stage at.context at.context.activation.level 0 need base s facts r memory
    → ((n : ℕ) (u : SourceState) (now : Registers) (memory_now : List ℕ) (found : Facts) (middle : ℕ)
    → n < 65536
    → now.h ≡ n / 256
    → now.l ≡ n % 256
    → u.budget ≤ s.budget
    → Steps at.context found middle others last to
    → Stage at.context at.context.activation.level 0 need base u found now memory_now
    → Does (loaded_in at.context) u.budget 0 (at_place middle now memory_now u.events) (go n u) Good)
    → Does (loaded_in at.context) s.budget 0 (at_place from r memory s.events)
    (then_do (value_in at.context tree s) go) Good
word_value at {base = base} {need = need} {tree = tree} {Good = Good} choice go s r memory is types scalar
    fits (PartThere {found = found} {middle = middle} does rest) stage next =
    then_does_where (value_in at.context tree s)
    (does _ tree is types at.context.activation.level base s r memory stage.below
    (room_for (2 * height_of tree) fits stage.room) stage.ready stage.known tt)
    (λ n u end gave arrives spent.
    let below = stage.below in
    let small : n < 65536 = of_type tree Address n scalar (arrives.holds).small in
    subst (λ (state : State). Does (loaded_in at.context) u.budget 0 state (go n u) Good) (sym arrives.is_at)
    (next n u arrives.r arrives.memory found middle small (arrives.holds).h (arrives.holds).l spent rest
    (record { below = omega (arith, below, spent); room = stage.room; ready = arrives.ready; known = (arrives.holds).known })))

byte_in_de : (a : ℕ) → word 0 a ≡ a
byte_in_de a = omega arith

whole : (h l n : ℕ) → h ≡ n / 256 → l ≡ n % 256 → word h l ≡ n
whole h l n one two = omega (arith, one, two)

-- a number whose low byte is 0 is compared by its high byte
pub high_is_less : (h l n : ℕ) → l < 256 → n < 65536 → n % 256 ≡ 0
    → nat_lt h (n / 256) ≡ nat_lt (256 * h + l) n
high_is_less h l n low small none =
    same_test (nat_lt h (n / 256)) (nat_lt (256 * h + l) n)
    (λ less. let is = ltb-true h (n / 256) less in lt-ltb (256 * h + l) n (omega (arith, is, low, none)))
    (λ more. let is = ltb-false h (n / 256) more in le-ltb (256 * h + l) n (omega (arith, is, none)))

-- the part of a choice
abbrev pub byte_part : ExpressionNumber → Step
byte_part choice = steps.Part (record { task = tasks.Byte choice; pushed = 0 })

abbrev pub word_part : ExpressionNumber → Step
word_part choice = steps.Part (record { task = tasks.Word choice; pushed = 0 })

abbrev pub byte_compare : ℕ → List Instr
byte_compare count = AccumulateImmediate Compare (count % 256) ∷ []

abbrev pub byte_bring : List Instr
byte_bring = copy E A ∷ set D 0 ∷ []

abbrev pub high_compare : ℕ → List Instr
high_compare count = copy A H ∷ AccumulateImmediate Compare (high count) ∷ []

abbrev pub word_compare : ℕ → List Instr
word_compare count =
    copy A L ∷ AccumulateImmediate Subtract (low count) ∷ copy A H
    ∷ AccumulateImmediate SubtractWithBorrow (high count) ∷ []

-- what a choice asks
pub record Choice (at : BodyContext) (list : Range) (bound need : ℕ) (choice : ExpressionNumber)
    (tree : TypedExpression) (trees : TypedStatements) : Type 0 where
  pub parts : CaseParts at list bound trees
  pub is : IsExpressionIn (nodes_in at.context) at.context.storage choice tree
  pub types : TypesHold at.context.typed at.context.within tree
  pub fits : 2 * height_of tree ≤ need
  pub trees_fit : 2 + 2 * height_of_statements trees ≤ need

-- the meaning of DO CASE
abbrev pub case_of : BodyContext → TypedExpression → TypedStatements → SourceState → Outcome Flow
case_of at tree trees s =
    then_do (value_in at.context tree s)
    (λ n t. done_case at.context.later at.context.activation.around trees n t)

pub byte_bounded :
    {at : BodyContext} {base : List ℕ} {need bound : ℕ} {tree : TypedExpression} {trees : TypedStatements}
    {before : Facts} {from to : ℕ} {after : Here}
    (list : Range) (table own end : LabelNumber) (choice : ExpressionNumber) (s : SourceState)
    (r : Registers) (memory : List ℕ)
    → Choice at list bound need choice tree trees
    → type_of tree ≡ Byte
    → list.count < 256
    → ChoiceStands at list table own end before
    (byte_part choice ∷ bounded (byte_compare list.count) byte_bring end) from after to
    → Stage at.context at.context.activation.level 0 need base s before r memory
    → Does (loaded_in at.context) s.budget 0 (at_place from r memory s.events) (case_of at tree trees s)
    (Leaves at base to after s.budget)
byte_bounded {at = at} {trees = trees} list table own end choice s r memory asks scalar few stands stage =
    byte_value at choice (λ n t. done_case at.context.later at.context.activation.around trees n t) s r memory
    asks.is asks.types scalar asks.fits stands.code_stands stage
    (λ n u now memory_now found middle small a spent rest there.
    bounded_goes list table own end (byte_compare list.count) byte_bring n u now asks.parts asks.trees_fit
    stands rest (tt, tt) (tt, (tt, tt))
    (borrow_shows now.a (list.count % 256) (omega arith) ∙ ap (nat_lt now.a) (low_of_byte list.count few)
    ∙ ap (λ (x : ℕ). nat_lt x list.count) a)
    (byte_in_de now.a ∙ a) spent there)

pub byte_unbounded :
    {at : BodyContext} {base : List ℕ} {need bound : ℕ} {tree : TypedExpression} {trees : TypedStatements}
    {before : Facts} {from to : ℕ} {after : Here}
    (list : Range) (table own end : LabelNumber) (choice : ExpressionNumber) (s : SourceState)
    (r : Registers) (memory : List ℕ)
    → Choice at list bound need choice tree trees
    → type_of tree ≡ Byte
    → 256 ≤ list.count
    → ChoiceStands at list table own end before (byte_part choice ∷ (plain byte_bring ++ [])) from after to
    → Stage at.context at.context.activation.level 0 need base s before r memory
    → Does (loaded_in at.context) s.budget 0 (at_place from r memory s.events) (case_of at tree trees s)
    (Leaves at base to after s.budget)
byte_unbounded {at = at} {trees = trees} list table own end choice s r memory asks scalar many stands stage =
    byte_value at choice (λ n t. done_case at.context.later at.context.activation.around trees n t) s r memory
    asks.is asks.types scalar asks.fits stands.code_stands stage
    (λ n u now memory_now found middle small a spent rest there.
    at_instructions byte_bring [] asks.parts.sound.sound (tt, (tt, tt)) rest there
    (λ middle_two found_two over_code brought.
    chosen list table own end n u (effect byte_bring now) asks.parts asks.trees_fit stands over_code
    (omega (arith, small, many))
    (byte_in_de now.a ∙ a) spent brought))

pub high_bounded :
    {at : BodyContext} {base : List ℕ} {need bound : ℕ} {tree : TypedExpression} {trees : TypedStatements}
    {before : Facts} {from to : ℕ} {after : Here}
    (list : Range) (table own end : LabelNumber) (choice : ExpressionNumber) (s : SourceState)
    (r : Registers) (memory : List ℕ)
    → Choice at list bound need choice tree trees
    → type_of tree ≡ Address
    → list.count < 65536
    → list.count % 256 ≡ 0
    → ChoiceStands at list table own end before
    (word_part choice ∷ bounded (high_compare list.count) (Xchg ∷ []) end) from after to
    → Stage at.context at.context.activation.level 0 need base s before r memory
    → Does (loaded_in at.context) s.budget 0 (at_place from r memory s.events) (case_of at tree trees s)
    (Leaves at base to after s.budget)
high_bounded {at = at} {trees = trees} list table own end choice s r memory asks scalar
    few none stands stage =
    word_value at choice (λ n t. done_case at.context.later at.context.activation.around trees n t) s r memory
    asks.is asks.types scalar asks.fits stands.code_stands stage
    (λ n u now memory_now found middle small h l spent rest there.
    bounded_goes list table own end (high_compare list.count) (Xchg ∷ []) n u now asks.parts asks.trees_fit
    stands rest (tt, (tt, tt)) (tt, tt)
    (borrow_shows now.h (list.count / 256) (omega (arith, few))
    ∙ high_is_less now.h now.l list.count there.ready.registers.l few none
    ∙ ap (λ (x : ℕ). nat_lt x list.count) (whole_of_halves now.h now.l n h l))
    (whole now.h now.l n h l) spent there)

pub word_bounded :
    {at : BodyContext} {base : List ℕ} {need bound : ℕ} {tree : TypedExpression} {trees : TypedStatements}
    {before : Facts} {from to : ℕ} {after : Here}
    (list : Range) (table own end : LabelNumber) (choice : ExpressionNumber) (s : SourceState)
    (r : Registers) (memory : List ℕ)
    → Choice at list bound need choice tree trees
    → type_of tree ≡ Address
    → list.count < 65536
    → ChoiceStands at list table own end before
    (word_part choice ∷ bounded (word_compare list.count) (Xchg ∷ []) end) from after to
    → Stage at.context at.context.activation.level 0 need base s before r memory
    → Does (loaded_in at.context) s.budget 0 (at_place from r memory s.events) (case_of at tree trees s)
    (Leaves at base to after s.budget)
word_bounded {at = at} {trees = trees} list table own end choice s r memory asks scalar few stands stage =
    word_value at choice (λ n t. done_case at.context.later at.context.activation.around trees n t) s r memory
    asks.is asks.types scalar asks.fits stands.code_stands stage
    (λ n u now memory_now found middle small h l spent rest there.
    bounded_goes list table own end (word_compare list.count) (Xchg ∷ []) n u now asks.parts asks.trees_fit
    stands rest (tt, (tt, (tt, (tt, tt)))) (tt, tt)
    (word_is_less now.h now.l list.count there.ready.registers.l few
    ∙ ap (λ (x : ℕ). nat_lt x list.count) (whole_of_halves now.h now.l n h l))
    (whole now.h now.l n h l) spent there)

pub word_unbounded :
    {at : BodyContext} {base : List ℕ} {need bound : ℕ} {tree : TypedExpression} {trees : TypedStatements}
    {before : Facts} {from to : ℕ} {after : Here}
    (list : Range) (table own end : LabelNumber) (choice : ExpressionNumber) (s : SourceState)
    (r : Registers) (memory : List ℕ)
    → Choice at list bound need choice tree trees
    → type_of tree ≡ Address
    → 65536 ≤ list.count
    → ChoiceStands at list table own end before (word_part choice ∷ (plain (Xchg ∷ []) ++ [])) from after to
    → Stage at.context at.context.activation.level 0 need base s before r memory
    → Does (loaded_in at.context) s.budget 0 (at_place from r memory s.events) (case_of at tree trees s)
    (Leaves at base to after s.budget)
word_unbounded {at = at} {trees = trees} list table own end choice s r memory asks scalar many stands stage =
    word_value at choice (λ n t. done_case at.context.later at.context.activation.around trees n t) s r memory
    asks.is asks.types scalar asks.fits stands.code_stands stage
    (λ n u now memory_now found middle small h l spent rest there.
    at_instructions (Xchg ∷ []) [] asks.parts.sound.sound (tt, tt) rest there
    (λ middle_two found_two over_code brought.
    chosen list table own end n u (effect (Xchg ∷ []) now) asks.parts asks.trees_fit stands over_code
    (omega (arith, small, many))
    (whole now.h now.l n h l) spent brought))
