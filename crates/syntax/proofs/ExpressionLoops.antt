-- How the loop over operators goes on.
use Rattle.syntax.proofs.Prelude.{◌≡◌, ℕ, suc, ◌≤◌, ◌<◌, ◌-◌, ◌+◌, zero, length-drop, Bool, true, false, nat_lt, List, [], ◌∷◌, drop, length, Option, Some, None, Ok, Err, if◌then◌else◌, refl, sym, subst, ◌∙◌, ap, arith, rules, LeftParenthesis, Period, BinaryOperator, Identifier, level_of, expression_height, Symbol, NameSymbol, ExpressionTree, ConstantLeaf, ReferenceLeaf, BinaryNode, ReferenceTree, ExpressionParser, expression, operand, primary, parenthesized, location, constant_leaf, reference_leaf, reference, expression_less, all_operators, operator_then, next_operator, goes_on, top_level, operator_on, Parser, Cause, TooDeep, Reading, ◌>>=◌, at_mark, next_name, constant, FailsBy}
use Rattle.syntax.proofs.ReaderLemmas.{bind_at, bind_fails}
use Rattle.syntax.proofs.ExpressionSound.{expression-keeps, expression-shrinks}
use Rattle.syntax.proofs.ExpressionOperators.{all_operators-step}

-- an operator that goes on
then-on : (inner : ExpressionParser) (again : ExpressionTree → Parser ExpressionTree) (room level : ℕ)
    (left : ExpressionTree) (next : Option BinaryOperator) (operator : BinaryOperator) (s : List Symbol)
    → operator_on level (top_level left) next ≡ Some operator
    → operator_then inner again room level left next s ≡
    (if nat_lt (expression_height left) room then
    (inner (suc (level_of operator)) (drop 1 s) >>=
    (λ right. again (BinaryNode operator left right.0) right.1)) else Err TooDeep)
then-on inner again room level left None operator s e = absurd cc
then-on inner again room level left (Some found) operator s e = go (goes_on level (top_level left) found) e
  where
    go : (b : Bool) → (if b then Some found else None) ≡ Some operator
        → (if b then (if nat_lt (expression_height left) room then
        (inner (suc (level_of found)) (drop 1 s) >>= (λ right. again (BinaryNode found left right.0) right.1))
        else Err TooDeep) else Ok (left, s))
        ≡ (if nat_lt (expression_height left) room then
        (inner (suc (level_of operator)) (drop 1 s) >>=
        (λ right. again (BinaryNode operator left right.0) right.1)) else Err TooDeep)
    go true e = let same : found ≡ operator = cc in rw same refl
    go false e = absurd cc

-- no operator that goes on
then-ends : (inner : ExpressionParser) (again : ExpressionTree → Parser ExpressionTree) (room level : ℕ)
    (left : ExpressionTree) (next : Option BinaryOperator) (s : List Symbol)
    → operator_on level (top_level left) next ≡ None
    → operator_then inner again room level left next s ≡ Ok (left, s)
then-ends inner again room level left None s e = refl
then-ends inner again room level left (Some found) s e = go (goes_on level (top_level left) found) e
  where
    go : (b : Bool) → (if b then Some found else None) ≡ None
        → (if b then (if nat_lt (expression_height left) room then
        (inner (suc (level_of found)) (drop 1 s) >>= (λ right. again (BinaryNode found left right.0) right.1))
        else Err TooDeep) else Ok (left, s))
        ≡ Ok (left, s)
    go true e = absurd cc
    go false e = refl

-- an operator and an operand
pub operators_more : (room level : ℕ) (left right : ExpressionTree) (operator : BinaryOperator)
    (s r : List Symbol)
    → operator_on level (top_level left) (next_operator s) ≡ Some operator → expression_height left ≤ room
    → expression room (suc (level_of operator)) (drop 1 s) ≡ Ok (right, r)
    → all_operators (expression room) (suc room) level left s
    ≡ all_operators (expression room) (suc room) level (BinaryNode operator left right) r
operators_more room level left right operator s r on low e =
    let fits : nat_lt (expression_height left) (suc room) ≡ true = search (rules, arith) in
    all_operators-step (expression room) (expression-keeps room) (suc room) level left s
    ∙ then-on (expression room) (all_operators (expression room) (suc room) level) (suc room) level left
    (next_operator s) operator s on
    ∙ rw (fits, e) refl

-- an operator and no operand
pub operators_fail : (room level : ℕ) (left : ExpressionTree) (operator : BinaryOperator) (s : List Symbol)
    (cause : Cause)
    → operator_on level (top_level left) (next_operator s) ≡ Some operator → expression_height left ≤ room
    → expression room (suc (level_of operator)) (drop 1 s) ≡ Err cause
    → all_operators (expression room) (suc room) level left s ≡ Err cause
operators_fail room level left operator s cause on low e =
    let fits : nat_lt (expression_height left) (suc room) ≡ true = search (rules, arith) in
    all_operators-step (expression room) (expression-keeps room) (suc room) level left s
    ∙ then-on (expression room) (all_operators (expression room) (suc room) level) (suc room) level left
    (next_operator s) operator s on
    ∙ rw (fits, e) refl

-- an operator after what is too high
pub operators_deep : (room level : ℕ) (left : ExpressionTree) (operator : BinaryOperator) (s : List Symbol)
    → operator_on level (top_level left) (next_operator s) ≡ Some operator → room < expression_height left
    → all_operators (expression room) (suc room) level left s ≡ Err TooDeep
operators_deep room level left operator s on high =
    let fits : nat_lt (expression_height left) (suc room) ≡ false = search (rules, arith) in
    all_operators-step (expression room) (expression-keeps room) (suc room) level left s
    ∙ then-on (expression room) (all_operators (expression room) (suc room) level) (suc room) level left
    (next_operator s) operator s on
    ∙ rw fits refl

-- no operator
pub operators_end : (room level : ℕ) (left : ExpressionTree) (s : List Symbol)
    → operator_on level (top_level left) (next_operator s) ≡ None
    → all_operators (expression room) (suc room) level left s ≡ Ok (left, s)
operators_end room level left s on =
    all_operators-step (expression room) (expression-keeps room) (suc room) level left s
    ∙ then-ends (expression room) (all_operators (expression room) (suc room) level) (suc room) level left
    (next_operator s) s on

-- an expression where there is room
pub expression_at : (room level : ℕ) (s : List Symbol) → 0 < room
    → expression room level s
    ≡ (operand (expression (room - 1)) (expression_less (room - 1)) level s >>=
    (λ left. all_operators (expression (room - 1)) (suc (room - 1)) level left.0 left.1))
unfolding expression
expression_at zero level s h = absurd (omega arith)
expression_at (suc room) level s h = let e : suc room - 1 ≡ room = omega arith in rw e refl

-- an expression where there is no room
pub expression_none : (room level : ℕ) (s : List Symbol) → room ≡ 0 → expression room level s ≡ Err TooDeep
unfolding expression
expression_none zero level s h = refl
expression_none (suc room) level s h = absurd (omega arith)

pub expression-deep : (cause : Option Cause) (room level : ℕ) (s : List Symbol)
    → room ≡ 0
    → cause ≡ Some TooDeep
    → FailsBy cause (expression room level s)
expression-deep cause room level s none deep = rw deep (expression_none room level s none)

-- one level less, where there is room
pub expression_less_at : (room level : ℕ) (s : List Symbol)
    → 0 < room
    → expression_less room level s ≡ expression (room - 1) level s
unfolding expression_less
expression_less_at zero level s h = absurd (omega arith)
expression_less_at (suc room) level s h = let e : suc room - 1 ≡ room = omega arith in rw e refl

-- a name
pub primary_name : (inner deeper : ExpressionParser) (s : List Symbol) (base : Identifier)
    → next_name s ≡ Some base
    → primary inner deeper s ≡ reference_leaf inner base (drop 1 s)
unfolding primary reference
primary_name inner deeper [] base e = absurd cc
primary_name inner deeper (NameSymbol name ∷ s) base e = let same : name ≡ base = cc in
    rw same (go inner base s)
  where
    go : (inner : ExpressionParser) (base : Identifier) (s : List Symbol)
        → (reference inner (NameSymbol base ∷ s) >>= (λ found. Ok (ReferenceLeaf found.0, found.1)))
        ≡ reference_leaf inner base s
    go inner base s = refl
primary_name inner deeper (other ∷ s) base e = absurd cc

-- a constant
pub primary_constant : (inner deeper : ExpressionParser) (s : List Symbol)
    → at_mark LeftParenthesis s ≡ false → at_mark Period s ≡ false → next_name s ≡ None
    → primary inner deeper s ≡ constant_leaf s
unfolding primary
primary_constant inner deeper s left dot e = rw (left, dot, e) refl

-- what stands in parentheses
pub primary_parenthesized : (inner deeper : ExpressionParser) (s : List Symbol)
    → at_mark LeftParenthesis s ≡ true → primary inner deeper s ≡ parenthesized inner deeper (drop 1 s)
unfolding primary
primary_parenthesized inner deeper s left = rw left refl

-- what stands after a period
pub primary_location : (inner deeper : ExpressionParser) (s : List Symbol)
    → at_mark LeftParenthesis s ≡ false
    → at_mark Period s ≡ true
    → primary inner deeper s ≡ location inner (drop 1 s)
unfolding primary
primary_location inner deeper s left dot = rw (left, dot) refl

-- a symbol and an expression take symbols away
pub shorter_after : (room level : ℕ) (s after r : List Symbol) (found : ExpressionTree)
    → after ≡ drop 1 s → expression room level after ≡ Ok (found, r) → length r < length s
shorter_after room level s after r found skipped e =
    let later : length r < length after = expression-shrinks room level after r found e in
    let less : length after ≡ length s - 1 = ap length skipped ∙ length-drop 1 s in
    omega arith

-- the loop goes on by an operator and an operand
pub operators_go_on : (room level lower height top : ℕ) (whole : Reading ExpressionTree)
    (left right made : ExpressionTree) (operator : BinaryOperator) (s after r : List Symbol)
    → whole ≡ all_operators (expression room) (suc room) level left s
    → Some operator ≡ operator_on level top (next_operator s) → top ≡ top_level left
    → height ≡ expression_height left → height ≤ room
    → after ≡ drop 1 s → lower ≡ level_of operator → expression room (lower + 1) after ≡ Ok (right, r)
    → made ≡ BinaryNode operator left right
    → whole ≡ all_operators (expression room) (suc room) level made r
operators_go_on room level lower height top whole left right made operator s after r is on topmost high low
    skipped joins e node =
    let next : operator_on level (top_level left) (next_operator s) ≡ Some operator =
    ap (λ t. operator_on level t (next_operator s)) (sym topmost) ∙ sym on in
    let fits : expression_height left ≤ room = omega arith in
    let at : lower + 1 ≡ suc (level_of operator) = omega arith in
    is ∙ operators_more room level left right operator s r next fits
    (ap (λ a. expression room (suc (level_of operator)) a) (sym skipped)
    ∙ ap (λ l. expression room l after) (sym at) ∙ e)
    ∙ ap (λ t. all_operators (expression room) (suc room) level t r) (sym node)

-- the loop fails where no operand is after an operator
pub operators_do_not_go_on : (room level lower height top : ℕ) (whole : Reading ExpressionTree)
    (left : ExpressionTree) (operator : BinaryOperator) (s after : List Symbol) (cause : Option Cause)
    → whole ≡ all_operators (expression room) (suc room) level left s
    → Some operator ≡ operator_on level top (next_operator s) → top ≡ top_level left
    → height ≡ expression_height left → height ≤ room
    → after ≡ drop 1 s → lower ≡ level_of operator → FailsBy cause (expression room (lower + 1) after)
    → FailsBy cause whole
operators_do_not_go_on room level lower height top whole left operator s after None is on topmost high low
    skipped joins e = tt
operators_do_not_go_on room level lower height top whole left operator s after
    (Some cause) is on topmost high low skipped joins e =
    let next : operator_on level (top_level left) (next_operator s) ≡ Some operator =
    ap (λ t. operator_on level t (next_operator s)) (sym topmost) ∙ sym on in
    let fits : expression_height left ≤ room = omega arith in
    let at : lower + 1 ≡ suc (level_of operator) = omega arith in
    is ∙ operators_fail room level left operator s cause next fits
    (ap (λ a. expression room (suc (level_of operator)) a) (sym skipped)
    ∙ ap (λ l. expression room l after) (sym at) ∙ e)

-- the loop fails where an operator stands after an operand that is too deep
pub operators_too_deep : (room level height top : ℕ) (whole : Reading ExpressionTree) (left : ExpressionTree)
    (operator : BinaryOperator) (s : List Symbol) (cause : Option Cause)
    → whole ≡ all_operators (expression room) (suc room) level left s
    → Some operator ≡ operator_on level top (next_operator s) → top ≡ top_level left
    → height ≡ expression_height left → room < height → cause ≡ Some TooDeep → FailsBy cause whole
operators_too_deep room level height top whole left operator s cause is on topmost high deep told =
    let next : operator_on level (top_level left) (next_operator s) ≡ Some operator =
    ap (λ t. operator_on level t (next_operator s)) (sym topmost) ∙ sym on in
    let more : room < expression_height left = omega arith in
    subst (λ c. FailsBy c whole) (sym told) (is ∙ operators_deep room level left operator s next more)
