-- The derivation of expressions and targets is the spelling of a tree that the grammar has.
use Rattle.grammar.proofs.Prelude.{◌≡◌, ℕ, zero, suc, ◌+◌, ◌-◌, ◌≤◌, List, [], ◌∷◌, refl, sym, subst, arith, BinaryOperator, Or, Xor, And, Equal, Less, Greater, LessOrEqual, GreaterOrEqual, Unequal, Add, Subtract, Multiply, Divide, Modulo, UnaryOperator, Not, Negate, DerivesExpression, next_level, or_chain, and_chain, negation, comparison, sum_chain, term_chain, minus, number, string, reference, location, list, parenthesized, embedded_assignment, DerivesReference, whole, with_member, DerivesArguments, no_arguments, some_arguments, DerivesMoreArguments, last_argument, next_argument, DerivesTargets, last_target, next_target, expression_level, primary_level, level_of, IsNotEmpty, left_level, unary_level_of, operand_level_of, IsExpression, IsReference, IsMember, AreArguments, unary_symbol, expression_symbols, reference_symbols, arguments_symbols, more_arguments_symbols, Symbol, MarkSymbol, ExpressionTree, ConstantLeaf, NumberConstant, StringConstant, ReferenceLeaf, LocationLeaf, ListLeaf, ParenthesizedNode, AssignmentNode, UnaryNode, BinaryNode, ReferenceTree, ReferenceTo, NoMember, MemberOf, ArgumentTrees, NoArguments, MoreArguments}
use Rattle.std.specs.List.{AllByRecursion}
use Rattle.words.specs.declared.vocabulary.Mark.TheVariants.{Comma}
use Rattle.grammar.specs.Spelling.{binary_symbol, more_after_commas, between_commas}

-- what may stand at a level may stand at the level below
IsExpression-lower : (level : ℕ) (tree : ExpressionTree)
    → IsExpression (suc level) tree
    → IsExpression level tree
IsExpression-lower level (ConstantLeaf c) h = omega (arith, h)
IsExpression-lower level (ReferenceLeaf r) h = (omega (arith, h.0), h.1)
IsExpression-lower level (LocationLeaf r) h = (omega (arith, h.0), h.1)
IsExpression-lower level (ListLeaf cs) h = (omega (arith, h.0), h.1)
IsExpression-lower level (ParenthesizedNode e) h = (omega (arith, h.0), h.1)
IsExpression-lower level (AssignmentNode r e) h = (omega (arith, h.0), h.1, h.2)
IsExpression-lower level (UnaryNode o e) h = (omega (arith, h.0), h.1)
IsExpression-lower level (BinaryNode o l r) h = (omega (arith, h.0), h.1, h.2)

-- the parts of an operator's node, at a level that is known
IsExpression-binary : (operator : BinaryOperator) (level : ℕ) (left right : ExpressionTree)
    → level_of operator ≡ level
    → IsExpression (left_level level) left
    → IsExpression (suc level) right
    → IsExpression level (BinaryNode operator left right)
IsExpression-binary operator level left right e l r = (
  omega arith,
  subst (λ (k : ℕ). IsExpression (left_level k) left) (sym e) l,
  subst
      (λ (k : ℕ). IsExpression (suc k) right) (sym e) r,
)

mutual
  pub expression-spelled : {level : ℕ} {symbols rest : List Symbol} {tree : ExpressionTree}
      → DerivesExpression level symbols tree rest
      → (symbols ≡ expression_symbols tree rest) × IsExpression level tree
  expression-spelled (next_level {level} {symbols} {rest} {tree} d) =
      let h = expression-spelled d in (h.0, IsExpression-lower level tree h.1)
  expression-spelled (or_chain {left = left} {right = right} {operator = operator} e d₁ d₂) =
      let l = expression-spelled d₁ in
      let r = expression-spelled d₂ in
      (cc, IsExpression-binary operator 0 left right e l.1 r.1)
  expression-spelled (and_chain {left = left} {right = right} d₁ d₂) =
      let l = expression-spelled d₁ in
      let r = expression-spelled d₂ in
      (cc, IsExpression-binary And 1 left right refl l.1 r.1)
  expression-spelled (negation d) = let h = expression-spelled d in (cc, (omega arith, h.1))
  expression-spelled (comparison {left = left} {right = right} {operator = operator} e d₁ d₂) =
      let l = expression-spelled d₁ in
      let r = expression-spelled d₂ in
      (cc, IsExpression-binary operator 3 left right e l.1 r.1)
  expression-spelled (sum_chain {left = left} {right = right} {operator = operator} e d₁ d₂) =
      let l = expression-spelled d₁ in
      let r = expression-spelled d₂ in
      (cc, IsExpression-binary operator 4 left right e l.1 r.1)
  expression-spelled (term_chain {left = left} {right = right} {operator = operator} e d₁ d₂) =
      let l = expression-spelled d₁ in
      let r = expression-spelled d₂ in
      (cc, IsExpression-binary operator 5 left right e l.1 r.1)
  expression-spelled (minus d) = let h = expression-spelled d in (cc, (omega arith, h.1))
  expression-spelled number = (refl, omega arith)
  expression-spelled string = (refl, omega arith)
  expression-spelled (reference d) = let h = reference-spelled d in (h.0, (omega arith, h.1))
  expression-spelled (location d) = let h = reference-spelled d in (cc, (omega arith, h.1))
  expression-spelled (list e) = (refl, (omega arith, e))
  expression-spelled (parenthesized d) = let h = expression-spelled d in (cc, (omega arith, h.1))
  expression-spelled (embedded_assignment d₁ d₂) =
      let r = reference-spelled d₁ in
      let v = expression-spelled d₂ in
      (cc, (omega arith, r.1, v.1))

  pub reference-spelled : {symbols rest : List Symbol} {tree : ReferenceTree}
      → DerivesReference symbols tree rest
      → (symbols ≡ reference_symbols tree rest) × IsReference tree
  reference-spelled (whole d) = let h = arguments-spelled d in (cc, (h.1, tt))
  reference-spelled (with_member d₁ d₂) =
      let a = arguments-spelled d₁ in
      let b = arguments-spelled d₂ in
      (cc, (a.1, b.1))

  pub arguments-spelled : {symbols rest : List Symbol} {tree : ArgumentTrees}
      → DerivesArguments symbols tree rest
      → (symbols ≡ arguments_symbols tree rest) × AreArguments tree
  arguments-spelled no_arguments = (refl, tt)
  arguments-spelled (some_arguments d₁ d₂) =
      let a = expression-spelled d₁ in
      let b = more_arguments-spelled d₂ in
      (cc, (a.1, b.1))

  pub more_arguments-spelled : {symbols rest : List Symbol} {tree : ArgumentTrees}
      → DerivesMoreArguments symbols tree rest
      → (symbols ≡ more_arguments_symbols tree rest) × AreArguments tree
  more_arguments-spelled last_argument = (refl, tt)
  more_arguments-spelled (next_argument d₁ d₂) =
      let a = expression-spelled d₁ in
      let b = more_arguments-spelled d₂ in
      (cc, (a.1, b.1))

-- what stands at a level stands at each lower one
climb : (count level found : ℕ) {symbols rest : List Symbol} {tree : ExpressionTree}
    → found ≡ level + count
    → DerivesExpression found symbols tree rest
    → DerivesExpression level symbols tree rest
climb zero level found {symbols} {rest} {tree} e d =
    let same : found ≡ level = omega arith in
    subst (λ (k : ℕ). DerivesExpression k symbols tree rest) same d
climb (suc count) level found e d = next_level (climb count (suc level) found (omega arith) d)

at_lower : (level found : ℕ) {symbols rest : List Symbol} {tree : ExpressionTree}
    → level ≤ found
    → DerivesExpression found symbols tree rest
    → DerivesExpression level symbols tree rest
at_lower level found h d = climb (found - level) level found (omega arith) d

-- the line of the grammar for each operator
join : (operator : BinaryOperator) {symbols middle rest : List Symbol} {left right : ExpressionTree}
    → DerivesExpression (left_level (level_of operator)) symbols left (binary_symbol operator ∷ middle)
    → DerivesExpression (suc (level_of operator)) middle right rest
    → DerivesExpression (level_of operator) symbols (BinaryNode operator left right) rest
join Or l r = or_chain refl l r
join Xor l r = or_chain refl l r
join And l r = and_chain l r
join Equal l r = comparison refl l r
join Less l r = comparison refl l r
join Greater l r = comparison refl l r
join LessOrEqual l r = comparison refl l r
join GreaterOrEqual l r = comparison refl l r
join Unequal l r = comparison refl l r
join Add l r = sum_chain refl l r
join Subtract l r = sum_chain refl l r
join Multiply l r = term_chain refl l r
join Divide l r = term_chain refl l r
join Modulo l r = term_chain refl l r

before : (operator : UnaryOperator) {symbols rest : List Symbol} {operand : ExpressionTree}
    → DerivesExpression (operand_level_of operator) symbols operand rest
    → DerivesExpression (unary_level_of operator) (unary_symbol operator ∷ symbols)
    (UnaryNode operator operand) rest
before Not d = negation d
before Negate d = minus d

mutual
  pub expression-derived : (level : ℕ) (tree : ExpressionTree) (rest : List Symbol)
      → IsExpression level tree
      → DerivesExpression level (expression_symbols tree rest) tree rest
  expression-derived level (ConstantLeaf (NumberConstant n)) rest h = at_lower level primary_level h number
  expression-derived level (ConstantLeaf (StringConstant s)) rest h = at_lower level primary_level h string
  expression-derived level (ReferenceLeaf r) rest h =
      at_lower level primary_level h.0 (reference (reference-derived r rest h.1))
  expression-derived level (LocationLeaf r) rest h =
      at_lower level primary_level h.0 (location (reference-derived r rest h.1))
  expression-derived level (ListLeaf constants) rest h = at_lower level primary_level h.0 (list h.1)
  expression-derived level (ParenthesizedNode inner) rest h =
      at_lower level primary_level h.0 (parenthesized (expression-derived expression_level inner _ h.1))
  expression-derived level (AssignmentNode target value) rest h =
      at_lower level primary_level h.0
      (embedded_assignment (reference-derived target _ h.1) (expression-derived expression_level value _ h.2))
  expression-derived level (UnaryNode operator operand) rest h =
      at_lower level (unary_level_of operator) h.0
      (before operator (expression-derived (operand_level_of operator) operand rest h.1))
  expression-derived level (BinaryNode operator left right) rest h =
      at_lower level (level_of operator) h.0
      (join operator (expression-derived (left_level (level_of operator)) left _ h.1)
      (expression-derived (suc (level_of operator)) right rest h.2))

  pub reference-derived : (tree : ReferenceTree) (rest : List Symbol)
      → IsReference tree
      → DerivesReference (reference_symbols tree rest) tree rest
  reference-derived (ReferenceTo name arguments NoMember) rest h =
      whole (arguments-derived arguments rest h.0)
  reference-derived (ReferenceTo name arguments (MemberOf member its_arguments)) rest h =
      with_member (arguments-derived arguments _ h.0) (arguments-derived its_arguments rest h.1)

  pub arguments-derived : (tree : ArgumentTrees) (rest : List Symbol)
      → AreArguments tree
      → DerivesArguments (arguments_symbols tree rest) tree rest
  arguments-derived NoArguments rest h = no_arguments
  arguments-derived (MoreArguments first others) rest h =
      some_arguments (expression-derived expression_level first _ h.0)
      (more_arguments-derived others rest h.1)

  pub more_arguments-derived : (tree : ArgumentTrees) (rest : List Symbol)
      → AreArguments tree
      → DerivesMoreArguments (more_arguments_symbols tree rest) tree rest
  more_arguments-derived NoArguments rest h = last_argument
  more_arguments-derived (MoreArguments first others) rest h =
      next_argument (expression-derived expression_level first _ h.0) (more_arguments-derived others rest h.1)

-- after the first of several, a comma and the others
more_after_commas-some : {A : Type 0} (symbols : A → List Symbol → List Symbol) (others : List A)
    (rest : List Symbol)
    → IsNotEmpty others
    → more_after_commas symbols others rest ≡ MarkSymbol Comma ∷ between_commas symbols others rest
more_after_commas-some symbols [] rest e = absurd e
more_after_commas-some symbols (first ∷ others) rest e = refl

pub targets-spelled : {symbols rest : List Symbol} {targets : List ReferenceTree}
    → DerivesTargets symbols targets rest
    → (symbols ≡ between_commas reference_symbols targets rest) × IsNotEmpty targets × AllByRecursion
    IsReference targets
targets-spelled (last_target d) = let h = reference-spelled d in (h.0, tt, (h.1, tt))
targets-spelled (next_target {rest = rest} {others = others} d ds) =
    let h = reference-spelled d in
    let hs = targets-spelled ds in
    let e = more_after_commas-some reference_symbols others rest hs.1 in
    (cc, tt, (h.1, hs.2))

pub targets-derived : (first : ReferenceTree) (others : List ReferenceTree) (rest : List Symbol)
    → IsReference first
    → AllByRecursion IsReference others
    → DerivesTargets (between_commas reference_symbols (first ∷ others) rest) (first ∷ others) rest
targets-derived first [] rest h hs = last_target (reference-derived first rest h)
targets-derived first (second ∷ others) rest h hs =
    next_target (reference-derived first _ h) (targets-derived second others rest hs.0 hs.1)
