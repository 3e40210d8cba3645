-- What is read as an expression is spelled so, has its form, and fits into the room.
use Rattle.syntax.proofs.Prelude.{◌≡◌, ⊎_elim, ℕ, zero, suc, ◌≤◌, ◌<◌, true, false, ◌&&◌, nat_le, nat_lt, List, [], ◌∷◌, drop, length, Option, Some, None, Ok, Err, if◌then◌else◌, refl, sym, ◌∙◌, ap, subst, arith, leb-true, ltb-true, and_parts, AllByRecursion, BinaryOperator, Or, Xor, And, Equal, Less, Greater, LessOrEqual, GreaterOrEqual, Unequal, Add, Subtract, Multiply, Divide, Modulo, Not, Negate, Identifier, expression_level, negation_level, sign_level, primary_level, level_of, IsNotEmpty, left_level, IsExpression, IsReference, IsMember, AreArguments, expression_height, reference_height, member_height, arguments_height, targets_height, more_after_commas, between_commas, constant_symbols, binary_symbol, expression_symbols, reference_symbols, member_of_symbols, arguments_symbols, more_arguments_symbols, Symbol, NameSymbol, ReservedSymbol, MarkSymbol, ConstantTree, NumberConstant, StringConstant, ExpressionTree, ConstantLeaf, ReferenceLeaf, LocationLeaf, ListLeaf, ParenthesizedNode, AssignmentNode, UnaryNode, BinaryNode, ReferenceTree, ReferenceTo, MemberTree, NoMember, MemberOf, ArgumentTrees, NoArguments, MoreArguments, ExpressionParser, next_operator, top_level, goes_on, arguments_of, arguments, member_of, reference, location, assigned, closed, parenthesized, primary, operand, operator_then, operators, all_operators, expression, expression_less, items, Keeps, Shrinks, Parser, TooDeep, ◌>>=◌, at_mark, at_word, mark, name, next_name, constant}
use Rattle.words.specs.declared.vocabulary.Mark.TheVariants as marks
use Rattle.words.specs.declared.vocabulary.ReservedWord.TheVariants as words
use Rattle.syntax.proofs.ListLaws.{IsSound, items-sound}
use Rattle.syntax.proofs.ReaderLemmas.{at_mark-is, at_word-is, next_operator-is, if_cases, guarded_ok, bind_ok, read, same_reading, mark-ok, name-ok, constant-ok}

-- what holds of what was read
moved : {A : Type 0} (P : A → List Symbol → Type 0) (a b : A) (r q : List Symbol)
    → read a r ≡ read b q
    → P a r
    → P b q
moved P a b r q e h = let same = same_reading a b r q e in
    subst (λ k. P b k) same.1 (subst (λ x. P x r) same.0 h)

-- constants between commas are no fewer symbols than what stands after them
more_constants-long : (all : List ConstantTree) (r : List Symbol)
    → length r ≤ length (more_after_commas constant_symbols all r)
more_constants-long [] r = omega arith
more_constants-long (NumberConstant n ∷ all) r = let h = more_constants-long all r in omega arith
more_constants-long (StringConstant t ∷ all) r = let h = more_constants-long all r in omega arith

constants-long : (all : List ConstantTree) (r : List Symbol)
    → length r ≤ length (between_commas constant_symbols all r)
constants-long [] r = omega arith
constants-long (NumberConstant n ∷ all) r = let h = more_constants-long all r in omega arith
constants-long (StringConstant t ∷ all) r = let h = more_constants-long all r in omega arith

pub constant-long : (c : ConstantTree) (r : List Symbol) → length r < length (constant_symbols c r)
constant-long (NumberConstant n) r = omega arith
constant-long (StringConstant t) r = omega arith

-- each tree is a symbol at least; arguments may be none
mutual
  pub expression-long : (t : ExpressionTree) (r : List Symbol) → length r < length (expression_symbols t r)
  expression-long (ConstantLeaf c) r = constant-long c r
  expression-long (ReferenceLeaf f) r = reference-long f r
  expression-long (LocationLeaf f) r = let h = reference-long f r in omega arith
  expression-long (ListLeaf cs) r = let h = constants-long cs (MarkSymbol marks.RightParenthesis ∷ r) in
      omega arith
  expression-long (ParenthesizedNode e) r = let h =
      expression-long e (MarkSymbol marks.RightParenthesis ∷ r) in omega arith
  expression-long (AssignmentNode f e) r =
      let later : List Symbol = MarkSymbol marks.RightParenthesis ∷ r in
      let value = expression-long e later in
      let target = reference-long f (MarkSymbol marks.AssignSign ∷ expression_symbols e later) in
      omega arith
  expression-long (UnaryNode o e) r = let h = expression-long e r in omega arith
  expression-long (BinaryNode o l e) r =
      let right = expression-long e r in
      let left = expression-long l (binary_symbol o ∷ expression_symbols e r) in
      omega arith

  pub reference-long : (t : ReferenceTree) (r : List Symbol) → length r < length (reference_symbols t r)
  reference-long (ReferenceTo n a m) r =
      let its = member-long m r in
      let h = arguments-long a (member_of_symbols m r) in
      omega arith

  member-long : (t : MemberTree) (r : List Symbol) → length r ≤ length (member_of_symbols t r)
  member-long NoMember r = omega arith
  member-long (MemberOf n a) r = let h = arguments-long a r in omega arith

  pub arguments-long : (t : ArgumentTrees) (r : List Symbol) → length r ≤ length (arguments_symbols t r)
  arguments-long NoArguments r = omega arith
  arguments-long (MoreArguments e a) r =
      let others = more_arguments-long a r in
      let first = expression-long e (more_arguments_symbols a r) in
      omega arith

  more_arguments-long : (t : ArgumentTrees) (r : List Symbol) → length r ≤ length (more_arguments_symbols t r)
  more_arguments-long NoArguments r = omega arith
  more_arguments-long (MoreArguments e a) r =
      let others = more_arguments-long a r in
      let first = expression-long e (more_arguments_symbols a r) in
      omega arith

-- arguments as a list
more_arguments-spelled : (all : List ExpressionTree) (r : List Symbol)
    → more_after_commas expression_symbols all (MarkSymbol marks.RightParenthesis ∷ r)
    ≡ more_arguments_symbols (arguments_of all) r
more_arguments-spelled [] r = refl
more_arguments-spelled (t ∷ all) r =
    ap (λ k. MarkSymbol marks.Comma ∷ expression_symbols t k) (more_arguments-spelled all r)

-- an expression at the lowest level, of no more levels than the room
abbrev FitsFirst : ℕ → ExpressionTree → Type 0
FitsFirst room t = IsExpression expression_level t × (expression_height t ≤ room)

arguments_fit : (room : ℕ) (all : List ExpressionTree)
    → AllByRecursion (FitsFirst room) all
    → AreArguments (arguments_of all) × (arguments_height (arguments_of all) ≤ room)
arguments_fit room [] h = (tt, omega arith)
arguments_fit room (t ∷ all) h =
    let others = arguments_fit room all h.1 in
    let first : expression_height t ≤ room = h.0.1 in
    ((h.0.0, others.0), omega arith)

-- what is read is spelled so, has its form, and fits
abbrev ExpressionFits : ℕ → ℕ → List Symbol → ExpressionTree → List Symbol → Type 0
ExpressionFits room level s t r =
    (s ≡ expression_symbols t r) × (level ≤ primary_level → IsExpression level t)
    × (expression_height t ≤ room)

abbrev ReferenceFits : ℕ → List Symbol → ReferenceTree → List Symbol → Type 0
ReferenceFits room s t r = (s ≡ reference_symbols t r) × IsReference t × (reference_height t ≤ room)

abbrev MemberFits : ℕ → List Symbol → MemberTree → List Symbol → Type 0
MemberFits room s t r = (s ≡ member_of_symbols t r) × IsMember t × (member_height t ≤ room)

abbrev ArgumentsFit : ℕ → List Symbol → ArgumentTrees → List Symbol → Type 0
ArgumentsFit room s t r = (s ≡ arguments_symbols t r) × AreArguments t × (arguments_height t ≤ room)

abbrev AllFit : ExpressionParser → ℕ → Type 0
AllFit inner room =
    (level : ℕ) (s r : List Symbol) (t : ExpressionTree) → inner level s ≡ read t r
    → ExpressionFits room level s t r

arguments-fit : (inner : ExpressionParser) (room : ℕ)
    → AllFit inner room
    → (s r : List Symbol) (t : ArgumentTrees)
    → arguments inner s ≡ read t r
    → ArgumentsFit room s t r
arguments-fit inner room fit s r t e = ⊎_elim some none (if_cases (at_mark marks.LeftParenthesis s) _ _ _ e)
  where
    sound : IsSound (inner expression_level) expression_symbols (FitsFirst room)
    sound symbols rest found is = let h = fit expression_level symbols rest found is in
        (h.0, (h.1 (omega arith), h.2))

    none : (at_mark marks.LeftParenthesis s ≡ false) × (read NoArguments s ≡ read t r)
        → ArgumentsFit room s t r
    none h = moved (ArgumentsFit room s) NoArguments t s r h.1 (refl, tt, omega arith)

    some : (at_mark marks.LeftParenthesis s ≡ true) × ((do
      found ← items (inner expression_level) (drop 1 s)
      rest ← mark marks.RightParenthesis found.1
      read (arguments_of found.0) rest) ≡ read t r) → ArgumentsFit room s t r
    some h =
        let found = bind_ok (items (inner expression_level) (drop 1 s)) _ _ h.1 in
        let closing = bind_ok (mark marks.RightParenthesis found.0.1) _ _ found.2 in
        let listed =
        items-sound (inner expression_level) expression_symbols (FitsFirst room) sound
        (drop 1 s) found.0.1 found.0.0 found.1 in
        let parts = arguments_fit room found.0.0 listed.2 in
        let opening = at_mark-is marks.LeftParenthesis s h.0 in
        let later = mark-ok marks.RightParenthesis found.0.1 closing.0 closing.1 in
        moved (ArgumentsFit room s) (arguments_of found.0.0) t closing.0 r closing.2 (
          opening ∙ ap (λ k. MarkSymbol marks.LeftParenthesis ∷ k) listed.0
              ∙ spelled found.0.0 found.0.1 closing.0 listed.1 later,
          parts.0,
          parts.1,
        )
      where
        spelled : (all : List ExpressionTree) (q rest : List Symbol)
            → IsNotEmpty all
            → q ≡ MarkSymbol marks.RightParenthesis ∷ rest
            → MarkSymbol marks.LeftParenthesis ∷ between_commas expression_symbols all q
            ≡ arguments_symbols (arguments_of all) rest
        spelled [] q rest n is = absurd n
        spelled (first ∷ all) q rest n is =
            ap (λ k. MarkSymbol marks.LeftParenthesis ∷ expression_symbols first k)
            (ap (more_after_commas expression_symbols all) is ∙ more_arguments-spelled all rest)

member-fits : (inner : ExpressionParser) (room : ℕ) → AllFit inner room
    → (s r : List Symbol) (t : MemberTree) → member_of inner s ≡ read t r → MemberFits room s t r
member-fits inner room fit s r t e = ⊎_elim some none (if_cases (at_mark marks.Period s) _ _ _ e)
  where
    none : (at_mark marks.Period s ≡ false) × (read NoMember s ≡ read t r) → MemberFits room s t r
    none h = moved (MemberFits room s) NoMember t s r h.1 (refl, tt, omega arith)

    some : (at_mark marks.Period s ≡ true) × ((do
      member ← name (drop 1 s)
      found ← arguments inner member.1
      read (MemberOf member.0 found.0) found.1) ≡ read t r) → MemberFits room s t r
    some h =
        let member = bind_ok (name (drop 1 s)) _ _ h.1 in
        let found = bind_ok (arguments inner member.0.1) _ _ member.2 in
        let period = at_mark-is marks.Period s h.0 in
        let its_name = name-ok (drop 1 s) member.0.1 member.0.0 member.1 in
        let its = arguments-fit inner room fit member.0.1 found.0.1 found.0.0 found.1 in
        moved (MemberFits room s) (MemberOf member.0.0 found.0.0) t found.0.1 r found.2 (
          period ∙ ap (λ k. MarkSymbol marks.Period ∷ k)
              (its_name ∙ ap (λ k. NameSymbol member.0.0 ∷ k) its.0),
          its.1,
          omega (arith, its.2),
        )

reference-fits : (inner : ExpressionParser) (room : ℕ) → AllFit inner room
    → (s r : List Symbol) (t : ReferenceTree) → reference inner s ≡ read t r → ReferenceFits room s t r
unfolding reference
reference-fits inner room fit s r t e =
    let base = bind_ok (name s) _ _ e in
    let found = bind_ok (arguments inner base.0.1) _ _ base.2 in
    let member = bind_ok (member_of inner found.0.1) _ _ found.2 in
    let its_name = name-ok s base.0.1 base.0.0 base.1 in
    let its = arguments-fit inner room fit base.0.1 found.0.1 found.0.0 found.1 in
    let last = member-fits inner room fit found.0.1 member.0.1 member.0.0 member.1 in
    moved (ReferenceFits room s) (ReferenceTo base.0.0 found.0.0 member.0.0) t member.0.1 r member.2 (
      its_name ∙ ap (λ k. NameSymbol base.0.0 ∷ k) (its.0 ∙ ap (arguments_symbols found.0.0) last.0),
      (its.1, last.1),
      omega (arith, its.2, last.2),
    )

-- what stands in one level less than the room
abbrev AllFitBelow : ExpressionParser → ℕ → Type 0
AllFitBelow deeper room =
    (level : ℕ) (s r : List Symbol) (t : ExpressionTree) → deeper level s ≡ read t r
    → (s ≡ expression_symbols t r) × (level ≤ primary_level → IsExpression level t)
    × (suc (expression_height t) ≤ room)

-- a primary at any level
abbrev PrimaryFits : ℕ → List Symbol → ExpressionTree → List Symbol → Type 0
PrimaryFits room s t r =
    (s ≡ expression_symbols t r) × ((level : ℕ) → level ≤ primary_level → IsExpression level t)
    × (expression_height t ≤ suc room)

location-fits : (inner : ExpressionParser) (room : ℕ)
    → AllFit inner room
    → (s r : List Symbol) (t : ExpressionTree)
    → location inner s ≡ read t r
    → PrimaryFits room (MarkSymbol marks.Period ∷ s) t r
unfolding location
location-fits inner room fit s r t e = ⊎_elim some none (if_cases (at_mark marks.LeftParenthesis s) _ _ _ e)
  where
    sound : IsSound constant constant_symbols (λ c. Unit {0})
    sound symbols rest c is = (constant-ok symbols rest c is, tt)

    none : (at_mark marks.LeftParenthesis s ≡ false) × ((do
      found ← reference inner s
      read (LocationLeaf found.0) found.1) ≡ read t r) → PrimaryFits room (MarkSymbol marks.Period ∷ s) t r
    none h =
        let found = bind_ok (reference inner s) _ _ h.1 in
        let its = reference-fits inner room fit s found.0.1 found.0.0 found.1 in
        moved (PrimaryFits room (MarkSymbol marks.Period ∷ s)) (LocationLeaf found.0.0) t found.0.1 r found.2
        (ap (λ k. MarkSymbol marks.Period ∷ k) its.0, λ level l. (l, its.1), omega (arith, its.2))

    some : (at_mark marks.LeftParenthesis s ≡ true) × ((do
      found ← items constant (drop 1 s)
      rest ← mark marks.RightParenthesis found.1
      read (ListLeaf found.0) rest) ≡ read t r) → PrimaryFits room (MarkSymbol marks.Period ∷ s) t r
    some h =
        let found = bind_ok (items constant (drop 1 s)) _ _ h.1 in
        let closing = bind_ok (mark marks.RightParenthesis found.0.1) _ _ found.2 in
        let listed =
        items-sound constant constant_symbols (λ c. Unit {0}) sound (drop 1 s) found.0.1 found.0.0 found.1 in
        let opening = at_mark-is marks.LeftParenthesis s h.0 in
        let later = mark-ok marks.RightParenthesis found.0.1 closing.0 closing.1 in
        moved (PrimaryFits room (MarkSymbol marks.Period ∷ s)) (ListLeaf found.0.0) t closing.0 r closing.2 (
          ap (λ k. MarkSymbol marks.Period ∷ k)
              (opening ∙ ap (λ k. MarkSymbol marks.LeftParenthesis ∷ k)
              (listed.0 ∙ ap (between_commas constant_symbols found.0.0) later)),
          λ level l. (l, listed.1),
          omega arith,
        )

assigned-fits : (deeper : ExpressionParser) (room : ℕ)
    → AllFitBelow deeper room
    → (left : ExpressionTree) (s r : List Symbol) (t : ExpressionTree)
    → IsExpression expression_level left → expression_height left ≤ room → assigned deeper left s ≡ read t r
    → PrimaryFits room (MarkSymbol marks.LeftParenthesis ∷ expression_symbols left s) t r
assigned-fits deeper room fit (ReferenceLeaf target) s r t form height e =
    let later = bind_ok (mark marks.AssignSign s) _ _ e in
    let value = bind_ok (deeper expression_level later.0) _ _ later.2 in
    let closing = bind_ok (mark marks.RightParenthesis value.0.1) _ _ value.2 in
    let sign = mark-ok marks.AssignSign s later.0 later.1 in
    let its = fit expression_level later.0 value.0.1 value.0.0 value.1 in
    let last = mark-ok marks.RightParenthesis value.0.1 closing.0 closing.1 in
    moved (PrimaryFits room (MarkSymbol marks.LeftParenthesis ∷ reference_symbols target s))
    (AssignmentNode target value.0.0) t closing.0 r closing.2 (
      ap (λ k. MarkSymbol marks.LeftParenthesis ∷ reference_symbols target k)
          (sign ∙ ap (λ k. MarkSymbol marks.AssignSign ∷ k) (its.0 ∙ ap (expression_symbols value.0.0) last)),
      λ level l. (l, form.1, its.1 (omega arith)),
      omega (arith, its.2, height),
    )
assigned-fits deeper room fit (ConstantLeaf c) s r t form height e = absurd cc
assigned-fits deeper room fit (LocationLeaf f) s r t form height e = absurd cc
assigned-fits deeper room fit (ListLeaf cs) s r t form height e = absurd cc
assigned-fits deeper room fit (ParenthesizedNode x) s r t form height e = absurd cc
assigned-fits deeper room fit (AssignmentNode f x) s r t form height e = absurd cc
assigned-fits deeper room fit (UnaryNode o x) s r t form height e = absurd cc
assigned-fits deeper room fit (BinaryNode o x y) s r t form height e = absurd cc

closed-fits : (deeper : ExpressionParser) (room : ℕ)
    → AllFitBelow deeper room
    → (left : ExpressionTree) (s r : List Symbol) (t : ExpressionTree)
    → IsExpression expression_level left → expression_height left ≤ room → closed deeper left s ≡ read t r
    → PrimaryFits room (MarkSymbol marks.LeftParenthesis ∷ expression_symbols left s) t r
closed-fits deeper room fit left s r t form height e =
    ⊎_elim
    (λ h. moved (PrimaryFits room (MarkSymbol marks.LeftParenthesis ∷ expression_symbols left s))
    (ParenthesizedNode left) t (drop 1 s) r h.1 (
      ap (λ k. MarkSymbol marks.LeftParenthesis ∷ expression_symbols left k)
          (at_mark-is marks.RightParenthesis s h.0),
      λ level l. (l, form),
      omega arith,
    ))
    (λ h. assigned-fits deeper room fit left s r t form height h.1)
    (if_cases (at_mark marks.RightParenthesis s) _ _ _ e)

parenthesized-fits : (inner deeper : ExpressionParser) (room : ℕ)
    → AllFit inner room
    → AllFitBelow deeper room
    → (s r : List Symbol) (t : ExpressionTree)
    → parenthesized inner deeper s ≡ read t r → PrimaryFits room (MarkSymbol marks.LeftParenthesis ∷ s) t r
unfolding parenthesized
parenthesized-fits inner deeper room fit below s r t e =
    let found = bind_ok (inner expression_level s) _ _ e in
    let its = fit expression_level s found.0.1 found.0.0 found.1 in
    let whole = closed-fits deeper room below found.0.0 found.0.1 r t (its.1 (omega arith)) its.2 found.2 in
    (ap (λ k. MarkSymbol marks.LeftParenthesis ∷ k) its.0 ∙ whole.0, whole.1, whole.2)

-- a reference where a name stands, and a constant elsewhere
pub leaf_of : ExpressionParser → Option Identifier → Parser ExpressionTree
leaf_of inner (Some base) s = do
  found ← reference inner s
  Ok (ReferenceLeaf found.0, found.1)
leaf_of inner None s = do
  found ← constant s
  Ok (ConstantLeaf found.0, found.1)

primary-is : (inner deeper : ExpressionParser) (s : List Symbol)
    → primary inner deeper s ≡ (if at_mark marks.LeftParenthesis s then parenthesized inner deeper (drop 1 s)
    else (if at_mark marks.Period s then location inner (drop 1 s) else leaf_of inner (next_name s) s))
unfolding primary leaf_of
primary-is inner deeper (NameSymbol n ∷ s) = refl
primary-is inner deeper s = refl

leaf-fits : (inner : ExpressionParser) (room : ℕ)
    → AllFit inner room
    → (found : Option Identifier) (s r : List Symbol) (t : ExpressionTree)
    → leaf_of inner found s ≡ read t r → PrimaryFits room s t r
unfolding leaf_of
leaf-fits inner room fit (Some base) s r t e =
    let found = bind_ok (reference inner s) _ _ e in
    let its = reference-fits inner room fit s found.0.1 found.0.0 found.1 in
    moved (PrimaryFits room s) (ReferenceLeaf found.0.0) t found.0.1 r found.2
    (its.0, λ level l. (l, its.1), omega (arith, its.2))
leaf-fits inner room fit None s r t e =
    let found = bind_ok (constant s) _ _ e in
    moved (PrimaryFits room s) (ConstantLeaf found.0.0) t found.0.1 r found.2
    (constant-ok s found.0.1 found.0.0 found.1, λ level l. l, omega arith)

primary-fits : (inner deeper : ExpressionParser) (room : ℕ)
    → AllFit inner room
    → AllFitBelow deeper room
    → (s r : List Symbol) (t : ExpressionTree)
    → primary inner deeper s ≡ read t r → PrimaryFits room s t r
primary-fits inner deeper room fit below s r t e =
    ⊎_elim
    (λ h. at (at_mark-is marks.LeftParenthesis s h.0)
    (parenthesized-fits inner deeper room fit below (drop 1 s) r t h.1))
    (λ h. ⊎_elim
    (λ k. at (at_mark-is marks.Period s k.0) (location-fits inner room fit (drop 1 s) r t k.1))
    (λ k. leaf-fits inner room fit (next_name s) s r t k.1)
    (if_cases (at_mark marks.Period s) _ _ _ h.1))
    (if_cases (at_mark marks.LeftParenthesis s) _ _ _ (sym (primary-is inner deeper s) ∙ e))
  where
    at : {q : List Symbol} → s ≡ q → PrimaryFits room q t r → PrimaryFits room s t r
    at is h = (is ∙ h.0, h.1, h.2)

operand-fits : (inner deeper : ExpressionParser) (room : ℕ)
    → AllFit inner room
    → AllFitBelow deeper room
    → (level : ℕ) (s r : List Symbol) (t : ExpressionTree)
    → operand inner deeper level s ≡ read t r → ExpressionFits (suc room) level s t r
unfolding operand
operand-fits inner deeper room fit below level s r t e =
    ⊎_elim is_not (λ h. ⊎_elim is_minus is_primary
    (if_cases (at_mark marks.MinusSign s && nat_le level sign_level) _ _ _ h.1))
    (if_cases (at_word words.Not s && nat_le level negation_level) _ _ _ e)
  where
    is_not : ((at_word words.Not s && nat_le level negation_level) ≡ true) × ((do
      found ← inner negation_level (drop 1 s)
      read (UnaryNode Not found.0) found.1) ≡ read t r) → ExpressionFits (suc room) level s t r
    is_not h =
        let tests = and_parts (at_word words.Not s) (nat_le level negation_level) h.0 in
        let found = bind_ok (inner negation_level (drop 1 s)) _ _ h.1 in
        let its = fit negation_level (drop 1 s) found.0.1 found.0.0 found.1 in
        moved (ExpressionFits (suc room) level s) (UnaryNode Not found.0.0) t found.0.1 r found.2 (
          at_word-is words.Not s tests.0 ∙ ap (λ k. ReservedSymbol words.Not ∷ k) its.0,
          λ l. (leb-true level negation_level tests.1, its.1 (omega arith)),
          omega (arith, its.2),
        )

    is_minus : ((at_mark marks.MinusSign s && nat_le level sign_level) ≡ true) × ((do
      found ← inner primary_level (drop 1 s)
      read (UnaryNode Negate found.0) found.1) ≡ read t r) → ExpressionFits (suc room) level s t r
    is_minus h =
        let tests = and_parts (at_mark marks.MinusSign s) (nat_le level sign_level) h.0 in
        let found = bind_ok (inner primary_level (drop 1 s)) _ _ h.1 in
        let its = fit primary_level (drop 1 s) found.0.1 found.0.0 found.1 in
        moved (ExpressionFits (suc room) level s) (UnaryNode Negate found.0.0) t found.0.1 r found.2 (
          at_mark-is marks.MinusSign s tests.0 ∙ ap (λ k. MarkSymbol marks.MinusSign ∷ k) its.0,
          λ l. (leb-true level sign_level tests.1, its.1 (omega arith)),
          omega (arith, its.2),
        )

    is_primary : ((at_mark marks.MinusSign s && nat_le level sign_level) ≡ false)
        × (primary inner deeper s ≡ read t r)
        → ExpressionFits (suc room) level s t r
    is_primary h = let its = primary-fits inner deeper room fit below s r t h.1 in (its.0, its.1 level, its.2)

-- an expression of a level stands at each level up to its top
pub expression-top : (level : ℕ) (t : ExpressionTree) → IsExpression level t → level ≤ top_level t
expression-top level (ConstantLeaf c) h = h
expression-top level (ReferenceLeaf f) h = h.0
expression-top level (LocationLeaf f) h = h.0
expression-top level (ListLeaf cs) h = h.0
expression-top level (ParenthesizedNode x) h = h.0
expression-top level (AssignmentNode f x) h = h.0
expression-top level (UnaryNode o x) h = h.0
expression-top level (BinaryNode o x y) h = h.0

pub expression-at : (level other : ℕ) (t : ExpressionTree)
    → IsExpression level t
    → other ≤ top_level t
    → IsExpression other t
expression-at level other (ConstantLeaf c) h l = l
expression-at level other (ReferenceLeaf f) h l = (l, h.1)
expression-at level other (LocationLeaf f) h l = (l, h.1)
expression-at level other (ListLeaf cs) h l = (l, h.1)
expression-at level other (ParenthesizedNode x) h l = (l, h.1)
expression-at level other (AssignmentNode f x) h l = (l, h.1, h.2)
expression-at level other (UnaryNode o x) h l = (l, h.1)
expression-at level other (BinaryNode o x y) h l = (l, h.1, h.2)

-- what stands right of an operator stands at a level
right_level : (o : BinaryOperator) → suc (level_of o) ≤ primary_level
right_level Or = omega arith
right_level Xor = omega arith
right_level And = omega arith
right_level Equal = omega arith
right_level Less = omega arith
right_level Greater = omega arith
right_level LessOrEqual = omega arith
right_level GreaterOrEqual = omega arith
right_level Unequal = omega arith
right_level Add = omega arith
right_level Subtract = omega arith
right_level Multiply = omega arith
right_level Divide = omega arith
right_level Modulo = omega arith

operator_then-fits : (inner : ExpressionParser) (room : ℕ)
    → AllFit inner room
    → (level : ℕ) (left : ExpressionTree) (s r : List Symbol) (t : ExpressionTree)
    → (again : ExpressionTree → Parser ExpressionTree)
    → ((other : ExpressionTree) (q : List Symbol) → (level ≤ primary_level → IsExpression level other)
    → expression_height other ≤ suc room → again other q ≡ read t r
    → ExpressionFits (suc room) level (expression_symbols other q) t r)
    → (level ≤ primary_level → IsExpression level left) → expression_height left ≤ suc room
    → (found : Option BinaryOperator)
    → next_operator s ≡ found
    → operator_then inner again (suc room) level left found s ≡ read t r
    → ExpressionFits (suc room) level (expression_symbols left s) t r
operator_then-fits inner room fit level left s r t again later form height None is e =
    moved (ExpressionFits (suc room) level (expression_symbols left s)) left t s r e (refl, form, height)
operator_then-fits inner room fit level left s r t again later form height (Some o) is e =
    ⊎_elim goes
    (λ h. moved (ExpressionFits (suc room) level (expression_symbols left s)) left t s r h.1
    (refl, form, height))
    (if_cases (goes_on level (top_level left) o) _ _ _ e)
  where
    goes : (goes_on level (top_level left) o ≡ true)
        × ((if nat_lt (expression_height left) (suc room) then (do
          right ← inner (suc (level_of o)) (drop 1 s)
          again (BinaryNode o left right.0) right.1)
        else Err TooDeep) ≡ read t r) → ExpressionFits (suc room) level (expression_symbols left s) t r
    goes h =
        let levels =
        and_parts (nat_le level (level_of o)) (nat_le (left_level (level_of o)) (top_level left)) h.0 in
        let here : level ≤ level_of o = leb-true level (level_of o) levels.0 in
        let its_left : left_level (level_of o) ≤ top_level left =
        leb-true (left_level (level_of o)) (top_level left) levels.1 in
        let shallow = guarded_ok (nat_lt (expression_height left) (suc room)) _ TooDeep (t, r) h.1 in
        let below : expression_height left < suc room =
        ltb-true (expression_height left) (suc room) shallow.0 in
        let right = bind_ok (inner (suc (level_of o)) (drop 1 s)) _ _ shallow.1 in
        let its = fit (suc (level_of o)) (drop 1 s) right.0.1 right.0.0 right.1 in
        let spelled : expression_symbols left s ≡ expression_symbols (BinaryNode o left right.0.0) right.0.1 =
        ap (expression_symbols left) (next_operator-is s o is ∙ ap (λ k. binary_symbol o ∷ k) its.0) in
        let whole = later (BinaryNode o left right.0.0) right.0.1
        (λ l. (
          here,
          expression-at level (left_level (level_of o)) left (form l) its_left,
          its.1 (right_level o),
        )) (omega (arith, its.2)) right.2 in
        (spelled ∙ whole.0, whole.1, whole.2)

-- a left operand that is read, with operators after it
operators-fit : (inner : ExpressionParser) (room : ℕ)
    → AllFit inner room
    → (level : ℕ) (r : List Symbol) (t : ExpressionTree)
    → (count : ℕ) (left : ExpressionTree) (s : List Symbol)
    → (level ≤ primary_level → IsExpression level left)
    → expression_height left ≤ suc room
    → operators inner (suc room) level count left s ≡ read t r
    → ExpressionFits (suc room) level (expression_symbols left s) t r
operators-fit inner room fit level r t zero left s form height e =
    moved (ExpressionFits (suc room) level (expression_symbols left s)) left t s r e (refl, form, height)
operators-fit inner room fit level r t (suc count) left s form height e =
    operator_then-fits inner room fit level left s r t (operators inner (suc room) level count)
    (λ other q f h k. operators-fit inner room fit level r t count other q f h k) form height
    (next_operator s) refl e

all_operators-fit : (inner : ExpressionParser) (room : ℕ)
    → AllFit inner room
    → (level : ℕ) (left : ExpressionTree) (s r : List Symbol) (t : ExpressionTree)
    → (level ≤ primary_level → IsExpression level left)
    → expression_height left ≤ suc room
    → all_operators inner (suc room) level left s ≡ read t r
    → ExpressionFits (suc room) level (expression_symbols left s) t r
unfolding all_operators
all_operators-fit inner room fit level left s r t form height e =
    operators-fit inner room fit level r t (length s) left s form height e

expression-step : (inner deeper : ExpressionParser) (room : ℕ)
    → AllFit inner room
    → AllFitBelow deeper room
    → (level : ℕ) (s r : List Symbol) (t : ExpressionTree)
    → (do
      left ← operand inner deeper level s
      all_operators inner (suc room) level left.0 left.1) ≡ read t r → ExpressionFits (suc room) level s t r
expression-step inner deeper room fit below level s r t e =
    let left = bind_ok (operand inner deeper level s) _ _ e in
    let its = operand-fits inner deeper room fit below level s left.0.1 left.0.0 left.1 in
    let whole = all_operators-fit inner room fit level left.0.0 left.0.1 r t its.1 its.2 left.2 in
    (its.0 ∙ whole.0, whole.1, whole.2)

mutual
  unfolding expression expression_less

  expression-fits : (room : ℕ) → AllFit (expression room) room
  expression-fits zero level s r t e = absurd cc
  expression-fits (suc room) level s r t e =
      expression-step (expression room) (expression_less room) room (expression-fits room)
      (expression_less-fits room) level s r t e

  expression_less-fits : (room : ℕ) → AllFitBelow (expression_less room) room
  expression_less-fits zero level s r t e = absurd cc
  expression_less-fits (suc room) level s r t e = let h = expression-fits room level s r t e in
      (h.0, h.1, omega (arith, h.2))

-- what is read as an expression, a reference and arguments
pub expression-sound : (room level : ℕ)
    → level ≤ primary_level
    → (s : List Symbol) (t : ExpressionTree) (r : List Symbol)
    → expression room level s ≡ Ok (t, r)
    → (s ≡ expression_symbols t r) × IsExpression level t × (expression_height t ≤ room)
expression-sound room level l s t r e = let h = expression-fits room level s r t e in (h.0, h.1 l, h.2)

pub reference-sound : (room : ℕ) (s : List Symbol) (t : ReferenceTree) (r : List Symbol)
    → reference (expression room) s ≡ Ok (t, r)
    → (s ≡ reference_symbols t r) × IsReference t × (reference_height t ≤ room)
reference-sound room s t r e = reference-fits (expression room) room (expression-fits room) s r t e

pub arguments-sound : (room : ℕ) (s : List Symbol) (t : ArgumentTrees) (r : List Symbol)
    → arguments (expression room) s ≡ Ok (t, r)
    → (s ≡ arguments_symbols t r) × AreArguments t × (arguments_height t ≤ room)
arguments-sound room s t r e = arguments-fit (expression room) room (expression-fits room) s r t e

-- they take symbols away, arguments perhaps none
pub expression-shrinks : (room level : ℕ) → Shrinks (expression room level)
expression-shrinks room level s r t e = let h = expression-fits room level s r t e in
    omega (arith, ap length h.0, expression-long t r)

pub expression-keeps : (room level : ℕ) → Keeps (expression room level)
expression-keeps room level s r t e = let short : length r < length s =
    expression-shrinks room level s r t e in omega arith

pub reference-shrinks : (room : ℕ) → Shrinks (reference (expression room))
reference-shrinks room s r t e = let h = reference-sound room s t r e in
    omega (arith, ap length h.0, reference-long t r)

pub reference-keeps : (room : ℕ) → Keeps (reference (expression room))
reference-keeps room s r t e = let short : length r < length s = reference-shrinks room s r t e in omega arith

pub arguments-keeps : (room : ℕ) → Keeps (arguments (expression room))
arguments-keeps room s r t e = let h = arguments-sound room s t r e in
    omega (arith, ap length h.0, arguments-long t r)

pub targets-sound : (room : ℕ) (s : List Symbol) (all : List ReferenceTree) (r : List Symbol)
    → items (reference (expression room)) s ≡ Ok (all, r)
    → (s ≡ between_commas reference_symbols all r) × IsNotEmpty all × AllByRecursion IsReference all
    × (targets_height all ≤ room)
targets-sound room s all r e =
    let h =
    items-sound (reference (expression room)) reference_symbols
    (λ t. IsReference t × (reference_height t ≤ room)) each s r all e in
    let parts = targets_fit all h.2 in
    (h.0, h.1, parts.0, parts.1)
  where
    each : IsSound (reference (expression room)) reference_symbols
        (λ t. IsReference t × (reference_height t ≤ room))
    each symbols rest t is = let its = reference-sound room symbols t rest is in (its.0, (its.1, its.2))

    targets_fit : (found : List ReferenceTree)
        → AllByRecursion (λ t. IsReference t × (reference_height t ≤ room)) found
        → AllByRecursion IsReference found × (targets_height found ≤ room)
    targets_fit [] h = (tt, omega arith)
    targets_fit (t ∷ found) h =
        let others = targets_fit found h.1 in
        let first : reference_height t ≤ room = h.0.1 in
        ((h.0.0, others.0), omega (arith, others.1))
