-- An expression that is spelled is read again, or is too deep, by its levels.
use Rattle.syntax.proofs.Prelude.{◌≡◌, ⊎_elim, ℕ, zero, suc, ◌≤◌, ◌<◌, true, false, max, nat_le, nat_lt, List, [], ◌∷◌, length, Option, Some, None, Err, if◌then◌else◌, refl, sym, ◌∙◌, ap, subst, arith, le-leb, lt-ltb, le-ltb, and_from, and_left, lt-leb, cases_lt, AllByRecursion, BinaryOperator, Or, Xor, And, Equal, Less, Greater, LessOrEqual, GreaterOrEqual, Unequal, Add, Subtract, Multiply, Divide, Modulo, UnaryOperator, Not, Negate, expression_level, negation_level, sign_level, primary_level, level_of, IsNotEmpty, left_level, unary_level_of, operand_level_of, IsExpression, IsReference, IsMember, AreArguments, expression_height, reference_height, member_height, arguments_height, targets_height, more_after_commas, between_commas, constant_symbols, binary_symbol, expression_symbols, reference_symbols, member_of_symbols, arguments_symbols, more_arguments_symbols, Symbol, MarkSymbol, ConstantTree, NumberConstant, StringConstant, ExpressionTree, ConstantLeaf, ReferenceLeaf, LocationLeaf, ListLeaf, ParenthesizedNode, AssignmentNode, UnaryNode, BinaryNode, ReferenceTree, ReferenceTo, MemberTree, NoMember, MemberOf, ArgumentTrees, NoArguments, MoreArguments, ExpressionParser, next_operator, top_level, goes_on, arguments_of, arguments, member_of, reference, location, parenthesized, primary, operand, operator_then, all_operators, expression, expression_less, items, Keeps, Parser, Reading, Cause, TooDeep, ◌>>=◌, at_mark, constant}
use Rattle.words.specs.declared.vocabulary.Mark.TheVariants as marks
use Rattle.syntax.proofs.ExpressionDepths.{depth_fault, depth_fault-within, depth_fault-over, depth_fault-same, depth_fault-suc, depth_fault-max, after, bind_gave, after-gave, after-read, after-deep}
use Rattle.syntax.proofs.ExpressionSound.{expression-keeps, reference-keeps, constant-long, expression-top, expression-at}
use Rattle.syntax.proofs.ListLaws.{items-reads, Reads, gave, earlier, first_fault}
use Rattle.syntax.proofs.ReaderLemmas.{next_operator-at, if_true, if_false, read, constant-at, constant-ok}
use Rattle.syntax.proofs.ExpressionOperators.{all_operators-step}

-- what ends a reference: neither arguments nor a member
abbrev pub EndsReference : List Symbol → Type 0
EndsReference r = (at_mark marks.LeftParenthesis r ≡ false) × (at_mark marks.Period r ≡ false)

-- what ends an expression: no operator either
abbrev pub EndsExpression : List Symbol → Type 0
EndsExpression r =
    (next_operator r ≡ None) × (at_mark marks.LeftParenthesis r ≡ false) × (at_mark marks.Period r ≡ false)

-- no operator stands here that would be taken to what is read at a level
abbrev Stops : ℕ → List Symbol → Type 0
Stops level r = (o : BinaryOperator) → next_operator r ≡ Some o → left_level (level_of o) < level

-- an operator that stands here may follow the tree
abbrev MayFollow : ExpressionTree → List Symbol → Type 0
MayFollow t r = (o : BinaryOperator) → next_operator r ≡ Some o → left_level (level_of o) ≤ top_level t

-- expressions are read by their levels in a room
abbrev AllRead : ExpressionParser → ℕ → Type 0
AllRead inner room =
    (level : ℕ) (t : ExpressionTree) (r : List Symbol) → IsExpression level t → EndsReference r
    → Stops level r
    → inner level (expression_symbols t r) ≡ gave (depth_fault (expression_height t) room) t r

-- the same for one level less than the room
abbrev AllReadBelow : ExpressionParser → ℕ → Type 0
AllReadBelow deeper room =
    (level : ℕ) (t : ExpressionTree) (r : List Symbol) → IsExpression level t → EndsReference r
    → Stops level r
    → deeper level (expression_symbols t r) ≡ gave (depth_fault (suc (expression_height t)) room) t r

-- nothing is taken where no operator stands
no_operator : (level : ℕ) (r : List Symbol) → next_operator r ≡ None → Stops level r
no_operator level r none o is = absurd (let both : None ≡ Some o = sym none ∙ is in cc)

-- arguments as a list
list_of : ArgumentTrees → List ExpressionTree
list_of NoArguments = []
list_of (MoreArguments t others) = t ∷ list_of others

arguments_of-list : (t : ArgumentTrees) → arguments_of (list_of t) ≡ t
unfolding list_of
arguments_of-list NoArguments = refl
arguments_of-list (MoreArguments t others) = ap (MoreArguments t) (arguments_of-list others)

list_of-spelled : (t : ArgumentTrees) (r : List Symbol)
    → more_arguments_symbols t r
    ≡ more_after_commas expression_symbols (list_of t) (MarkSymbol marks.RightParenthesis ∷ r)
unfolding list_of
list_of-spelled NoArguments r = refl
list_of-spelled (MoreArguments t others) r =
    ap (λ k. MarkSymbol marks.Comma ∷ expression_symbols t k) (list_of-spelled others r)

list_of-forms : (t : ArgumentTrees) → AreArguments t
    → AllByRecursion (IsExpression expression_level) (list_of t)
unfolding list_of
list_of-forms NoArguments h = tt
list_of-forms (MoreArguments t others) h = (h.0, list_of-forms others h.1)

-- the fault of an expression, and of arguments
abbrev pub expression_fault : ℕ → ExpressionTree → Option Cause
expression_fault room t = depth_fault (expression_height t) room

list_of-fault : (room : ℕ) (t : ArgumentTrees)
    → first_fault (expression_fault room) (list_of t) ≡ depth_fault (arguments_height t) room
unfolding list_of
list_of-fault room NoArguments = sym (depth_fault-within 0 room (omega arith))
list_of-fault room (MoreArguments t others) =
    ap (earlier (depth_fault (expression_height t) room)) (list_of-fault room others)
    ∙ depth_fault-max (expression_height t) (arguments_height others) room

-- arguments that are spelled
some_arguments-read : (inner : ExpressionParser) (room : ℕ)
    → Keeps (inner expression_level)
    → AllRead inner room
    → (t : ExpressionTree) (others : ArgumentTrees) (r : List Symbol)
    → AreArguments (MoreArguments t others)
    → items (inner expression_level) (expression_symbols t (more_arguments_symbols others r))
    ≡ gave (depth_fault (arguments_height (MoreArguments t others)) room) (t ∷ list_of others)
    (MarkSymbol marks.RightParenthesis ∷ r)
some_arguments-read inner room keeps all t others r form =
    ap (λ k. items (inner expression_level) (expression_symbols t k)) (list_of-spelled others r)
    ∙ items-reads (inner expression_level) expression_symbols (IsExpression expression_level) EndsExpression
    (expression_fault room) keeps each (λ rest. (refl, refl, refl))
    (t ∷ list_of others) (MarkSymbol marks.RightParenthesis ∷ r) tt (form.0, list_of-forms others form.1)
    (refl, refl, refl) refl
    ∙ ap (λ f. gave f (t ∷ list_of others) (MarkSymbol marks.RightParenthesis ∷ r)) fault
  where
    each : Reads (inner expression_level) expression_symbols (IsExpression expression_level) EndsExpression
        (expression_fault room)
    each a rest h ends =
        all expression_level a rest h (ends.1, ends.2) (no_operator expression_level rest ends.0)

    fault : first_fault (expression_fault room) (t ∷ list_of others)
        ≡ depth_fault (arguments_height (MoreArguments t others)) room
    fault =
        ap (earlier (depth_fault (expression_height t) room)) (list_of-fault room others)
        ∙ depth_fault-max (expression_height t) (arguments_height others) room

arguments-read : (inner : ExpressionParser) (room : ℕ)
    → Keeps (inner expression_level)
    → AllRead inner room
    → (t : ArgumentTrees) (r : List Symbol)
    → AreArguments t → at_mark marks.LeftParenthesis r ≡ false
    → arguments inner (arguments_symbols t r) ≡ gave (depth_fault (arguments_height t) room) t r
arguments-read inner room keeps all NoArguments r form ends =
    if_false (at_mark marks.LeftParenthesis r) _ _ ends
    ∙ ap (λ f. gave f NoArguments r) (sym (depth_fault-within 0 room (omega arith)))
arguments-read inner room keeps all (MoreArguments t others) r form ends =
    bind_gave (items (inner expression_level) (expression_symbols t (more_arguments_symbols others r))) _
    (depth_fault (arguments_height (MoreArguments t others)) room) (t ∷ list_of others)
    (MarkSymbol marks.RightParenthesis ∷ r) (some_arguments-read inner room keeps all t others r form)
    ∙ after-read (depth_fault (arguments_height (MoreArguments t others)) room)
    (arguments_of (t ∷ list_of others)) r
    ∙ ap (λ k. gave (depth_fault (arguments_height (MoreArguments t others)) room) (MoreArguments t k) r)
    (arguments_of-list others)

member-read : (inner : ExpressionParser) (room : ℕ) → Keeps (inner expression_level)
    → AllRead inner room → (t : MemberTree) (r : List Symbol) → IsMember t → EndsReference r
    → member_of inner (member_of_symbols t r) ≡ gave (depth_fault (member_height t) room) t r
member-read inner room keeps all NoMember r form ends =
    if_false (at_mark marks.Period r) _ _ ends.1
    ∙ ap (λ f. gave f NoMember r) (sym (depth_fault-within 0 room (omega arith)))
member-read inner room keeps all (MemberOf n a) r form ends =
    let fault : Option Cause = depth_fault (arguments_height a) room in
    bind_gave (arguments inner (arguments_symbols a r)) _ fault a r
    (arguments-read inner room keeps all a r form ends.0)
    ∙ after-read fault (MemberOf n a) r

-- no parenthesis opens where a member may stand
member-opens_none : (t : MemberTree) (r : List Symbol) → EndsReference r
    → at_mark marks.LeftParenthesis (member_of_symbols t r) ≡ false
member-opens_none NoMember r ends = ends.0
member-opens_none (MemberOf n a) r ends = refl

reference-read : (inner : ExpressionParser) (room : ℕ) → Keeps (inner expression_level)
    → AllRead inner room → (t : ReferenceTree) (r : List Symbol) → IsReference t → EndsReference r
    → reference inner (reference_symbols t r) ≡ gave (depth_fault (reference_height t) room) t r
unfolding reference
reference-read inner room keeps all (ReferenceTo n a m) r form ends =
    let others : List Symbol = member_of_symbols m r in
    let first : Option Cause = depth_fault (arguments_height a) room in
    let second : Option Cause = depth_fault (member_height m) room in
    bind_gave (arguments inner (arguments_symbols a others)) _ first a others
    (arguments-read inner room keeps all a others form.0 (member-opens_none m r ends))
    ∙ ap (after first)
    (bind_gave (member_of inner others) _ second m r (member-read inner room keeps all m r form.1 ends)
    ∙ after-read second (ReferenceTo n a m) r)
    ∙ after-gave first second (ReferenceTo n a m) r
    ∙ ap (λ f. gave f (ReferenceTo n a m) r) (depth_fault-max (arguments_height a) (member_height m) room)

-- what a tree of one level more than its part gives
deeper_gave : (height room : ℕ) (t : ExpressionTree) (r : List Symbol)
    → after (depth_fault height room) (read t r) ≡ gave (depth_fault (suc height) (suc room)) t r
deeper_gave height room t r =
    after-read (depth_fault height room) t r ∙ ap (λ f. gave f t r) (sym (depth_fault-suc height room))

flat_gave : (room : ℕ) (t : ExpressionTree) (r : List Symbol) → read t r ≡ gave (depth_fault 1 (suc room)) t r
flat_gave room t r = ap (λ f. gave f t r) (sym (depth_fault-within 1 (suc room) (omega arith)))

-- each operand, but for an operator between operands
abbrev OperandRead : ExpressionParser → ExpressionParser → ℕ → ℕ → ExpressionTree → List Symbol → Type 0
OperandRead inner deeper room level t r =
    operand inner deeper level (expression_symbols t r)
    ≡ gave (depth_fault (expression_height t) (suc room)) t r

constant-operand : (inner deeper : ExpressionParser) (room level : ℕ) (c : ConstantTree) (r : List Symbol)
    → OperandRead inner deeper room level (ConstantLeaf c) r
unfolding operand primary
constant-operand inner deeper room level (NumberConstant n) r =
    flat_gave room (ConstantLeaf (NumberConstant n)) r
constant-operand inner deeper room level (StringConstant t) r =
    flat_gave room (ConstantLeaf (StringConstant t)) r

at_reference : (inner deeper : ExpressionParser) (level : ℕ) (f : ReferenceTree) (r : List Symbol)
    → operand inner deeper level (reference_symbols f r) ≡ (do
      found ← reference inner (reference_symbols f r)
      read (ReferenceLeaf found.0) found.1)
unfolding operand primary
at_reference inner deeper level (ReferenceTo n a m) r = refl

reference-operand : (inner deeper : ExpressionParser) (room level : ℕ)
    → Keeps (inner expression_level)
    → AllRead inner room
    → (f : ReferenceTree) (r : List Symbol)
    → IsReference f → EndsReference r → OperandRead inner deeper room level (ReferenceLeaf f) r
reference-operand inner deeper room level keeps all f r form ends =
    at_reference inner deeper level f r
    ∙ bind_gave (reference inner (reference_symbols f r)) _ (depth_fault (reference_height f) room) f r
    (reference-read inner room keeps all f r form ends)
    ∙ deeper_gave (reference_height f) room (ReferenceLeaf f) r

at_location : (inner deeper : ExpressionParser) (level : ℕ) (f : ReferenceTree) (r : List Symbol)
    → operand inner deeper level (MarkSymbol marks.Period ∷ reference_symbols f r) ≡ (do
      found ← reference inner (reference_symbols f r)
      read (LocationLeaf found.0) found.1)
unfolding operand primary location
at_location inner deeper level (ReferenceTo n a m) r = refl

location-operand : (inner deeper : ExpressionParser) (room level : ℕ)
    → Keeps (inner expression_level)
    → AllRead inner room
    → (f : ReferenceTree) (r : List Symbol)
    → IsReference f → EndsReference r → OperandRead inner deeper room level (LocationLeaf f) r
location-operand inner deeper room level keeps all f r form ends =
    at_location inner deeper level f r
    ∙ bind_gave (reference inner (reference_symbols f r)) _ (depth_fault (reference_height f) room) f r
    (reference-read inner room keeps all f r form ends)
    ∙ deeper_gave (reference_height f) room (LocationLeaf f) r

-- constants in parentheses have no fault
no_fault : ConstantTree → Option Cause
no_fault c = None

no_fault-first : (cs : List ConstantTree) → first_fault no_fault cs ≡ None
unfolding no_fault
no_fault-first [] = refl
no_fault-first (c ∷ cs) = no_fault-first cs

constants-forms : (cs : List ConstantTree) → AllByRecursion (λ c. Unit {0}) cs
constants-forms [] = tt
constants-forms (c ∷ cs) = (tt, constants-forms cs)

constant-keeps : Keeps constant
constant-keeps s r c e = let spelled : s ≡ constant_symbols c r = constant-ok s r c e in
    omega (arith, ap length spelled, constant-long c r)

constants-read : (cs : List ConstantTree) (r : List Symbol)
    → IsNotEmpty cs
    → items constant (between_commas constant_symbols cs (MarkSymbol marks.RightParenthesis ∷ r))
    ≡ read cs (MarkSymbol marks.RightParenthesis ∷ r)
unfolding no_fault
constants-read cs r some =
    items-reads constant constant_symbols (λ c. Unit {0}) (λ rest. Unit {0}) no_fault constant-keeps
    (λ c rest h k. constant-at c rest) (λ rest. tt)
    cs (MarkSymbol marks.RightParenthesis ∷ r) some (constants-forms cs) tt refl
    ∙ ap (λ f. gave f cs (MarkSymbol marks.RightParenthesis ∷ r)) (no_fault-first cs)

list-operand : (inner deeper : ExpressionParser) (room level : ℕ) (cs : List ConstantTree) (r : List Symbol)
    → IsNotEmpty cs
    → OperandRead inner deeper room level (ListLeaf cs) r
unfolding operand primary location
list-operand inner deeper room level cs r some =
    bind_gave (items constant (between_commas constant_symbols cs (MarkSymbol marks.RightParenthesis ∷ r))) _
    None cs (MarkSymbol marks.RightParenthesis ∷ r) (constants-read cs r some)
    ∙ flat_gave room (ListLeaf cs) r

parenthesized-operand : (inner deeper : ExpressionParser) (room level : ℕ)
    → AllRead inner room
    → (x : ExpressionTree) (r : List Symbol)
    → IsExpression expression_level x → OperandRead inner deeper room level (ParenthesizedNode x) r
unfolding operand primary parenthesized
parenthesized-operand inner deeper room level all x r form =
    let later : List Symbol = MarkSymbol marks.RightParenthesis ∷ r in
    bind_gave (inner expression_level (expression_symbols x later)) _
    (depth_fault (expression_height x) room) x later
    (all expression_level x later form (refl, refl) (no_operator expression_level later refl))
    ∙ deeper_gave (expression_height x) room (ParenthesizedNode x) r

assignment-operand : (inner deeper : ExpressionParser) (room level : ℕ)
    → AllRead inner room
    → AllReadBelow deeper room
    → (f : ReferenceTree) (x : ExpressionTree) (r : List Symbol)
    → IsReference f → IsExpression expression_level x
    → OperandRead inner deeper room level (AssignmentNode f x) r
unfolding operand primary parenthesized
assignment-operand inner deeper room level all below f x r target value =
    let closing : List Symbol = MarkSymbol marks.RightParenthesis ∷ r in
    let later : List Symbol = MarkSymbol marks.AssignSign ∷ expression_symbols x closing in
    let first : Option Cause = depth_fault (suc (reference_height f)) room in
    let second : Option Cause = depth_fault (suc (expression_height x)) room in
    bind_gave (inner expression_level (reference_symbols f later)) _ first (ReferenceLeaf f) later
    (all expression_level (ReferenceLeaf f) later (omega arith, target) (refl, refl)
    (no_operator expression_level later refl))
    ∙ ap (after first)
    (bind_gave (deeper expression_level (expression_symbols x closing)) _ second x closing
    (below expression_level x closing value (refl, refl) (no_operator expression_level closing refl))
    ∙ after-read second (AssignmentNode f x) r)
    ∙ after-gave first second (AssignmentNode f x) r
    ∙ ap (λ k. gave k (AssignmentNode f x) r)
    (depth_fault-max (suc (reference_height f)) (suc (expression_height x)) room
    ∙ depth_fault-same (max (suc (reference_height f)) (suc (expression_height x))) room
    (suc (suc (max (reference_height f) (expression_height x)))) (suc room) (λ h. omega arith)
    (λ h. omega arith))

-- the operators that may follow an operator before its operand
follow_not : (o : BinaryOperator) → left_level (level_of o) ≤ negation_level
    → left_level (level_of o) < negation_level
follow_not Or h = omega arith
follow_not Xor h = omega arith
follow_not And h = omega arith
follow_not Equal h = absurd (omega arith)
follow_not Less h = absurd (omega arith)
follow_not Greater h = absurd (omega arith)
follow_not LessOrEqual h = absurd (omega arith)
follow_not GreaterOrEqual h = absurd (omega arith)
follow_not Unequal h = absurd (omega arith)
follow_not Add h = absurd (omega arith)
follow_not Subtract h = absurd (omega arith)
follow_not Multiply h = absurd (omega arith)
follow_not Divide h = absurd (omega arith)
follow_not Modulo h = absurd (omega arith)

unary-operand : (inner deeper : ExpressionParser) (room level : ℕ)
    → AllRead inner room
    → (o : UnaryOperator) (x : ExpressionTree) (r : List Symbol)
    → level ≤ unary_level_of o
    → IsExpression (operand_level_of o) x
    → EndsReference r
    → MayFollow (UnaryNode o x) r
    → OperandRead inner deeper room level (UnaryNode o x) r
unfolding operand
unary-operand inner deeper room level all Not x r l form ends may =
    if_true (nat_le level negation_level) _ _ (le-leb level negation_level l)
    ∙ bind_gave (inner negation_level (expression_symbols x r)) _ (depth_fault (expression_height x) room) x r
    (all negation_level x r form ends (λ o is. follow_not o (may o is)))
    ∙ deeper_gave (expression_height x) room (UnaryNode Not x) r
unary-operand inner deeper room level all Negate x r l form ends may =
    if_true (nat_le level sign_level) _ _ (le-leb level sign_level l)
    ∙ bind_gave (inner primary_level (expression_symbols x r)) _ (depth_fault (expression_height x) room) x r
    (all primary_level x r form ends
    (λ o is. let low : left_level (level_of o) ≤ sign_level = may o is in omega arith))
    ∙ deeper_gave (expression_height x) room (UnaryNode Negate x) r

-- what begins with an operator ends a reference
operator-ends : (o : BinaryOperator) (r : List Symbol) → EndsReference (binary_symbol o ∷ r)
operator-ends Or r = (refl, refl)
operator-ends Xor r = (refl, refl)
operator-ends And r = (refl, refl)
operator-ends Equal r = (refl, refl)
operator-ends Less r = (refl, refl)
operator-ends Greater r = (refl, refl)
operator-ends LessOrEqual r = (refl, refl)
operator-ends GreaterOrEqual r = (refl, refl)
operator-ends Unequal r = (refl, refl)
operator-ends Add r = (refl, refl)
operator-ends Subtract r = (refl, refl)
operator-ends Multiply r = (refl, refl)
operator-ends Divide r = (refl, refl)
operator-ends Modulo r = (refl, refl)

-- what stands left of an operator stands at its level or a higher one
left_level-le : (o : BinaryOperator) → level_of o ≤ left_level (level_of o)
left_level-le Or = omega arith
left_level-le Xor = omega arith
left_level-le And = omega arith
left_level-le Equal = omega arith
left_level-le Less = omega arith
left_level-le Greater = omega arith
left_level-le LessOrEqual = omega arith
left_level-le GreaterOrEqual = omega arith
left_level-le Unequal = omega arith
left_level-le Add = omega arith
left_level-le Subtract = omega arith
left_level-le Multiply = omega arith
left_level-le Divide = omega arith
left_level-le Modulo = omega arith

-- an operand with the operators after it
abbrev with_operators : ExpressionParser → ExpressionParser → ℕ → ℕ → Parser ExpressionTree
with_operators inner deeper room level symbols = do
  left ← operand inner deeper level symbols
  all_operators inner (suc room) level left.0 left.1

-- a tree is read as a left operand, unless it is too deep
abbrev LeftRead : ExpressionParser → ExpressionParser → ℕ → ℕ → ExpressionTree → List Symbol → Type 0
LeftRead inner deeper room level t r =
    with_operators inner deeper room level (expression_symbols t r)
    ≡ after (depth_fault (expression_height t) (suc room)) (all_operators inner (suc room) level t r)

by_operand : (inner deeper : ExpressionParser) (room level : ℕ) (t : ExpressionTree) (r : List Symbol)
    → OperandRead inner deeper room level t r
    → LeftRead inner deeper room level t r
by_operand inner deeper room level t r e =
    bind_gave (operand inner deeper level (expression_symbols t r)) _
    (depth_fault (expression_height t) (suc room)) t r e

-- an operator that may stand here, with what stands after it
operator-read : (inner : ExpressionParser) (room level : ℕ)
    → ((at : ℕ) → Keeps (inner at))
    → AllRead inner room
    → (o : BinaryOperator) (left right : ExpressionTree) (r : List Symbol)
    → level ≤ level_of o
    → left_level (level_of o) ≤ top_level left
    → IsExpression (suc (level_of o)) right
    → EndsReference r
    → Stops (suc (level_of o)) r
    → after (depth_fault (expression_height left) (suc room))
    (all_operators inner (suc room) level left (binary_symbol o ∷ expression_symbols right r))
    ≡ after (depth_fault (expression_height (BinaryNode o left right)) (suc room))
    (all_operators inner (suc room) level (BinaryNode o left right) r)
operator-read inner room level keeps all o left right r here its_left form ends stops =
    ap (after (depth_fault (expression_height left) (suc room))) taken
    ∙ ⊎_elim deep shallow (cases_lt room (expression_height left))
  where
    later : List Symbol
    later = expression_symbols right r

    whole : ExpressionTree
    whole = BinaryNode o left right

    further : Reading ExpressionTree
    further = do
      found ← inner (suc (level_of o)) later
      all_operators inner (suc room) level (BinaryNode o left found.0) found.1

    goes : goes_on level (top_level left) o ≡ true
    goes =
        and_from (nat_le level (level_of o)) (nat_le (left_level (level_of o)) (top_level left))
        (le-leb level (level_of o) here) (le-leb (left_level (level_of o)) (top_level left) its_left)

    taken : all_operators inner (suc room) level left (binary_symbol o ∷ later)
        ≡ (if nat_lt (expression_height left) (suc room) then further else Err TooDeep)
    taken =
        all_operators-step inner keeps (suc room) level left (binary_symbol o ∷ later)
        ∙ ap (λ f. operator_then inner (all_operators inner (suc room) level) (suc room) level left f
        (binary_symbol o ∷ later)) (next_operator-at o later)
        ∙ if_true (goes_on level (top_level left) o) _ _ goes

    deep : room < expression_height left
        → after (depth_fault (expression_height left) (suc room))
        (if nat_lt (expression_height left) (suc room) then further else Err TooDeep)
        ≡ after (depth_fault (expression_height whole) (suc room))
        (all_operators inner (suc room) level whole r)
    deep over =
        after-deep (expression_height left) (suc room) _
        (if_false (nat_lt (expression_height left) (suc room)) _ _
        (le-ltb (expression_height left) (suc room) (omega arith)))
        ∙ ap (λ f. after f (all_operators inner (suc room) level whole r))
        (sym (depth_fault-over (expression_height whole) (suc room) (omega arith)))

    shallow : expression_height left ≤ room
        → after (depth_fault (expression_height left) (suc room))
        (if nat_lt (expression_height left) (suc room) then further else Err TooDeep)
        ≡ after (depth_fault (expression_height whole) (suc room))
        (all_operators inner (suc room) level whole r)
    shallow fits =
        ap (λ f. after f (if nat_lt (expression_height left) (suc room) then further else Err TooDeep))
        (depth_fault-within (expression_height left) (suc room) (omega arith))
        ∙ if_true (nat_lt (expression_height left) (suc room)) _ _
        (lt-ltb (expression_height left) (suc room) (omega arith))
        ∙ bind_gave (inner (suc (level_of o)) later) _ (depth_fault (expression_height right) room) right r
        (all (suc (level_of o)) right r form ends stops)
        ∙ ap (λ f. after f (all_operators inner (suc room) level whole r))
        (depth_fault-same (expression_height right) room (expression_height whole) (suc room)
        (λ h. omega arith) (λ h. omega arith))

left-read : (inner deeper : ExpressionParser) (room level : ℕ)
    → ((at : ℕ) → Keeps (inner at))
    → AllRead inner room
    → AllReadBelow deeper room
    → (t : ExpressionTree) (r : List Symbol)
    → IsExpression level t → EndsReference r → MayFollow t r → LeftRead inner deeper room level t r
left-read inner deeper room level keeps all below (ConstantLeaf c) r h ends may =
    by_operand inner deeper room level (ConstantLeaf c) r (constant-operand inner deeper room level c r)
left-read inner deeper room level keeps all below (ReferenceLeaf f) r h ends may =
    by_operand inner deeper room level (ReferenceLeaf f) r
    (reference-operand inner deeper room level (keeps expression_level) all f r h.1 ends)
left-read inner deeper room level keeps all below (LocationLeaf f) r h ends may =
    by_operand inner deeper room level (LocationLeaf f) r
    (location-operand inner deeper room level (keeps expression_level) all f r h.1 ends)
left-read inner deeper room level keeps all below (ListLeaf cs) r h ends may =
    by_operand inner deeper room level (ListLeaf cs) r (list-operand inner deeper room level cs r h.1)
left-read inner deeper room level keeps all below (ParenthesizedNode x) r h ends may =
    by_operand inner deeper room level (ParenthesizedNode x) r
    (parenthesized-operand inner deeper room level all x r h.1)
left-read inner deeper room level keeps all below (AssignmentNode f x) r h ends may =
    by_operand inner deeper room level (AssignmentNode f x) r
    (assignment-operand inner deeper room level all below f x r h.1 h.2)
left-read inner deeper room level keeps all below (UnaryNode o x) r h ends may =
    by_operand inner deeper room level (UnaryNode o x) r
    (unary-operand inner deeper room level all o x r h.0 h.1 ends may)
left-read inner deeper room level keeps all below (BinaryNode o left right) r h ends may =
    let top = expression-top (left_level (level_of o)) left h.1 in
    let here : level ≤ level_of o = h.0 in
    left-read inner deeper room level keeps all below left (binary_symbol o ∷ expression_symbols right r)
    (expression-at (left_level (level_of o)) level left h.1 (omega (arith, top, left_level-le o)))
    (operator-ends o (expression_symbols right r))
    (λ other is. subst (λ k. left_level (level_of k) ≤ top_level left)
    (same_operator o other (sym (next_operator-at o (expression_symbols right r)) ∙ is)) top)
    ∙ operator-read inner room level keeps all o left right r here top h.2 ends
    (λ other is. let low : left_level (level_of other) ≤ level_of o = may other is in omega arith)
  where
    same_operator : (one other : BinaryOperator) → Some one ≡ Some other → one ≡ other
    same_operator one other e = cc

-- operators stop where none may be taken
operators-stop : (inner : ExpressionParser) (room level : ℕ)
    → ((at : ℕ) → Keeps (inner at))
    → (t : ExpressionTree) (r : List Symbol)
    → Stops level r
    → all_operators inner room level t r ≡ read t r
operators-stop inner room level keeps t r stops =
    all_operators-step inner keeps room level t r ∙ none (next_operator r) stops
  where
    none : (found : Option BinaryOperator)
        → ((o : BinaryOperator) → found ≡ Some o → left_level (level_of o) < level)
        → operator_then inner (all_operators inner room level) room level t found r ≡ read t r
    none None h = refl
    none (Some o) h =
        let low : left_level (level_of o) < level = h o refl in
        if_false (goes_on level (top_level t) o) _ _
        (and_left (nat_le level (level_of o)) _ (lt-leb level (level_of o) (omega (arith, left_level-le o))))

pub expression-positive : (t : ExpressionTree) → 0 < expression_height t
expression-positive (ConstantLeaf c) = omega arith
expression-positive (ReferenceLeaf f) = omega arith
expression-positive (LocationLeaf f) = omega arith
expression-positive (ListLeaf cs) = omega arith
expression-positive (ParenthesizedNode x) = omega arith
expression-positive (AssignmentNode f x) = omega arith
expression-positive (UnaryNode o x) = omega arith
expression-positive (BinaryNode o x y) = omega arith

expression-step : (inner deeper : ExpressionParser) (room : ℕ)
    → ((at : ℕ) → Keeps (inner at))
    → AllRead inner room
    → AllReadBelow deeper room
    → AllRead (with_operators inner deeper room) (suc room)
expression-step inner deeper room keeps all below level t r h ends stops =
    left-read inner deeper room level keeps all below t r h ends
    (λ o is. let low : left_level (level_of o) < level = stops o is in
    let top : level ≤ top_level t = expression-top level t h in omega arith)
    ∙ ap (after (depth_fault (expression_height t) (suc room)))
    (operators-stop inner (suc room) level keeps t r stops)
    ∙ after-read (depth_fault (expression_height t) (suc room)) t r

mutual
  unfolding expression expression_less

  expression-all : (room : ℕ) → AllRead (expression room) room
  expression-all zero level t r h ends stops =
      ap (λ f. gave f t r) (sym (depth_fault-over (expression_height t) 0 (expression-positive t)))
  expression-all (suc room) level t r h ends stops =
      expression-step (expression room) (expression_less room) room (expression-keeps room)
      (expression-all room) (expression_less-all room) level t r h ends stops

  expression_less-all : (room : ℕ) → AllReadBelow (expression_less room) room
  expression_less-all zero level t r h ends stops =
      ap (λ f. gave f t r) (sym (depth_fault-over (suc (expression_height t)) 0 (omega arith)))
  expression_less-all (suc room) level t r h ends stops =
      expression-all room level t r h ends stops
      ∙ ap (λ f. gave f t r) (sym (depth_fault-suc (expression_height t) room))

-- an expression, a reference and arguments that are spelled are read again, or are too deep
pub expression-reads : (room level : ℕ) (t : ExpressionTree) (r : List Symbol)
    → IsExpression level t
    → EndsExpression r
    → expression room level (expression_symbols t r) ≡ gave (depth_fault (expression_height t) room) t r
expression-reads room level t r h ends =
    expression-all room level t r h (ends.1, ends.2) (no_operator level r ends.0)

pub reference-reads : (room : ℕ) (t : ReferenceTree) (r : List Symbol) → IsReference t → EndsReference r
    → reference (expression room) (reference_symbols t r) ≡ gave (depth_fault (reference_height t) room) t r
reference-reads room t r h ends =
    reference-read (expression room) room (expression-keeps room expression_level)
    (expression-all room) t r h ends

pub arguments-reads : (room : ℕ) (t : ArgumentTrees) (r : List Symbol)
    → AreArguments t
    → at_mark marks.LeftParenthesis r ≡ false
    → arguments (expression room) (arguments_symbols t r) ≡ gave (depth_fault (arguments_height t) room) t r
arguments-reads room t r h ends =
    arguments-read (expression room) room (expression-keeps room expression_level)
    (expression-all room) t r h ends

-- targets between commas, in front of what ends a reference
reference_fault : ℕ → ReferenceTree → Option Cause
reference_fault room t = depth_fault (reference_height t) room

targets-fault : (room : ℕ) (all : List ReferenceTree)
    → first_fault (reference_fault room) all ≡ depth_fault (targets_height all) room
unfolding reference_fault
targets-fault room [] = sym (depth_fault-within 0 room (omega arith))
targets-fault room (t ∷ all) =
    ap (earlier (depth_fault (reference_height t) room)) (targets-fault room all)
    ∙ depth_fault-max (reference_height t) (targets_height all) room

pub targets-reads : (room : ℕ) (all : List ReferenceTree) (r : List Symbol)
    → IsNotEmpty all
    → AllByRecursion IsReference all
    → EndsReference r
    → at_mark marks.Comma r ≡ false
    → items (reference (expression room)) (between_commas reference_symbols all r)
    ≡ gave (depth_fault (targets_height all) room) all r
unfolding reference_fault
targets-reads room all r some forms ends comma =
    items-reads (reference (expression room)) reference_symbols IsReference EndsReference
    (reference_fault room) (reference-keeps room)
    (λ t rest h later. reference-reads room t rest h later) (λ rest. (refl, refl)) all r some forms ends comma
    ∙ ap (λ f. gave f all r) (targets-fault room all)
