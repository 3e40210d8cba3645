-- Statements and declarations that are derived are read again, unless depth or a name after END is in the
-- way.
use Rattle.syntax.proofs.Prelude.{◌≡◌, ℕ, zero, suc, max, ◌≤◌, ◌<◌, Bool, true, false, not, ◌&&◌, List, [], ◌∷◌, length, Option, Some, None, Ok, Err, if◌then◌else◌, refl, sym, ◌∙◌, ap, subst, arith, bytes_eq-Decides, AllByRecursion, bytes_eq, ReservedWord, Not, Negate, Identifier, Place, DerivesExpression, whole, with_member, DerivesArguments, no_arguments, some_arguments, DerivesTargets, last_target, next_target, DerivesStatement, labelled, unlabelled, DerivesKind, null, assignment_line, call_line, return, return_value_line, halt, goto_line, if_then, if_then_else, simple_do_line, DerivesHead, do_loop, do_case, DerivesStatements, no_statement, next_statement, DerivesDeclaration, declare_line, procedure_line, DerivesDeclarations, no_declaration, next_declaration, expression_level, IsNotEmpty, IsElement, ends_in_open_if, is_open_if, IsReference, expression_height, reference_height, arguments_height, targets_height, head_height, statement_height, kind_height, statements_height, declaration_height, declarations_height, IsEndName, StatementEndsMatch, KindEndsMatch, StatementsEndsMatch, DeclarationEndsMatch, DeclarationsEndsMatch, between_commas, optional, name_symbols, element_symbols, heading_symbols, ending_symbols, expression_symbols, reference_symbols, Symbol, ReservedSymbol, MarkSymbol, SemicolonSymbol, NumberConstant, StringConstant, ExpressionTree, ConstantLeaf, ReferenceLeaf, LocationLeaf, ListLeaf, ParenthesizedNode, AssignmentNode, UnaryNode, BinaryNode, ReferenceTree, ReferenceTo, ArgumentTrees, ElementTree, HeadingTree, LoopHeadTree, StatementTree, LabelledStatement, StatementKindTree, NullStatement, AssignmentStatement, CallStatement, HaltStatement, GotoStatement, IfStatement, NoElse, ElseStatement, DoStatement, LoopStatement, CaseStatement, ReturnStatement, StatementTrees, NoStatements, MoreStatements, DeclarationTree, DeclareTree, ProcedureTree, DeclarationTrees, NoDeclarations, MoreDeclarations, expression-spelled, arguments-spelled, targets-spelled, expression, reference, arguments, items, many, many_items, Parser, TooDeep, OtherEndName, at_mark, at_word, BlockParser, at_semicolon, labels_before, after_labels, statements_of, beginning_of, declarations_of, ends_declarations, statements, declarations, block, body_of_do, ending, assignment, return_value, conditional, simple_do, case_do, loop_do, do_statement, call, goto, kind_by, statement_by, procedure, declare, declare_or, statement, declaration}
use Rattle.words.specs.declared.vocabulary.Mark.TheVariants as marks
use Rattle.words.specs.declared.vocabulary.ReservedWord.TheVariants as words
use Rattle.syntax.specs.declared.statements.Beginning.TheVariants as beginnings
use Rattle.syntax.proofs.DeclarationLaws.{elements-reads, heading-reads}
use Rattle.syntax.proofs.ExpressionLaws.{EndsReference, reference-long}
use Rattle.syntax.proofs.ExpressionVerdicts.{reference-verdict, arguments-verdict, derived_expression}
use Rattle.syntax.proofs.ReaderLemmas.{if_true, if_false}
use Rattle.syntax.proofs.StatementLengths.{statement-shorter, declaration-shorter}
use Rattle.syntax.proofs.StatementVerdictLists.{greatest, items-verdict}
use Rattle.syntax.proofs.StatementVerdictRules.{Verdict, fits, too_deep, other_name, verdict_ok, verdict_bind, verdict_then, verdict_last, verdict_same, verdict_as, verdict_inside}
use Rattle.syntax.proofs.Heads.{head-verdict, does_loop}

-- how statements end, where no ELSE stands after an IF without one, and how declarations end
abbrev pub HasStatementVerdicts : Bool → ℕ → Parser StatementTree → Type 0
HasStatementVerdicts strict room inner =
    (s : List Symbol) (t : StatementTree) (r : List Symbol)
    → DerivesStatement s t r
    → (ends_in_open_if t ≡ true → at_word words.Else r ≡ false)
    → Verdict (inner s) (t, r) strict room (statement_height t) (StatementEndsMatch t)

abbrev pub HasKindVerdicts : Bool → ℕ → Parser StatementKindTree → Type 0
HasKindVerdicts strict room inner =
    (s : List Symbol) (t : StatementKindTree) (r : List Symbol)
    → DerivesKind s t r
    → (is_open_if t ≡ true → at_word words.Else r ≡ false)
    → Verdict (inner s) (t, r) strict room (kind_height t) (KindEndsMatch t)

abbrev pub HasDeclarationVerdicts : Bool → ℕ → Parser DeclarationTree → Type 0
HasDeclarationVerdicts strict room inner =
    (s : List Symbol) (t : DeclarationTree) (r : List Symbol)
    → DerivesDeclaration s t r
    → Verdict (inner s) (t, r) strict room (declaration_height t) (DeclarationEndsMatch t)

abbrev pub HasBlockVerdicts : Bool → ℕ → BlockParser → Type 0
HasBlockVerdicts strict room inside =
    (s middle : List Symbol) (declared : DeclarationTrees) (body : StatementTrees) (r : List Symbol)
    → DerivesDeclarations s declared middle
    → DerivesStatements middle body (ReservedSymbol words.End ∷ r)
    → Verdict (inside s) ((declared, body), ReservedSymbol words.End ∷ r) strict room
    (max (declarations_height declared) (statements_height body))
    (DeclarationsEndsMatch declared × StatementsEndsMatch body)

-- whether a reserved word stands here of which no place is kept
abbrev is_plain_word : List Symbol → Bool
is_plain_word (ReservedSymbol w ∷ rest) = true
is_plain_word symbols = false

no_word : (w : ReservedWord) (s : List Symbol) → is_plain_word s ≡ false → at_word w s ≡ false
no_word w [] e = refl
no_word w (ReservedSymbol v ∷ rest) e = absurd cc
no_word w (x ∷ rest) e = refl

-- a statement without labels begins neither with such a word nor with a label, and not as a declaration
abbrev BeginsKind : List Symbol → Type 0
BeginsKind s =
    (is_plain_word s ≡ false) × (ends_declarations s ≡ true) × (labels_before s ≡ []) × (after_labels s ≡ s)

begins_kind : {s r : List Symbol} {t : StatementKindTree} → DerivesKind s t r → BeginsKind s
begins_kind null = (refl, refl, refl, refl)
begins_kind (assignment_line (last_target (whole no_arguments)) d) = (refl, refl, refl, refl)
begins_kind (assignment_line (last_target (whole (some_arguments d₁ d₂))) d) = (refl, refl, refl, refl)
begins_kind (assignment_line (last_target (with_member no_arguments d₂)) d) = (refl, refl, refl, refl)
begins_kind (assignment_line (last_target (with_member (some_arguments d₁ d₃) d₂)) d) =
    (refl, refl, refl, refl)
begins_kind (assignment_line (next_target (whole no_arguments) ds) d) = (refl, refl, refl, refl)
begins_kind (assignment_line (next_target (whole (some_arguments d₁ d₂)) ds) d) = (refl, refl, refl, refl)
begins_kind (assignment_line (next_target (with_member no_arguments d₂) ds) d) = (refl, refl, refl, refl)
begins_kind (assignment_line (next_target (with_member (some_arguments d₁ d₃) d₂) ds) d) =
    (refl, refl, refl, refl)
begins_kind (call_line d) = (refl, refl, refl, refl)
begins_kind return = (refl, refl, refl, refl)
begins_kind (return_value_line d) = (refl, refl, refl, refl)
begins_kind halt = (refl, refl, refl, refl)
begins_kind goto_line = (refl, refl, refl, refl)
begins_kind (if_then d₁ d₂) = (refl, refl, refl, refl)
begins_kind (if_then_else d₁ d₂ e d₃) = (refl, refl, refl, refl)
begins_kind (simple_do_line d₁ d₂) = (refl, refl, refl, refl)
begins_kind (do_loop d₁ d₂) = (refl, refl, refl, refl)
begins_kind (do_case d₁ d₂) = (refl, refl, refl, refl)

-- nor does a statement with labels
begins_no_word : {s r : List Symbol} {t : StatementTree} → DerivesStatement s t r → is_plain_word s ≡ false
begins_no_word (labelled d) = refl
begins_no_word (unlabelled d) = (begins_kind d).0

begins_no_declaration : {s r : List Symbol} {t : StatementTree}
    → DerivesStatement s t r
    → ends_declarations s ≡ true
begins_no_declaration (labelled {symbols = symbols} d) =
    ap not (no_word words.Procedure symbols (begins_no_word d))
begins_no_declaration (unlabelled d) = (begins_kind d).1

body_is_no_declaration : {s r : List Symbol} {body : StatementTrees}
    → DerivesStatements s body (ReservedSymbol words.End ∷ r)
    → ends_declarations s ≡ true
body_is_no_declaration no_statement = refl
body_is_no_declaration (next_statement d ds) = begins_no_declaration d

body_is_no_else : {s r : List Symbol} {body : StatementTrees}
    → DerivesStatements s body (ReservedSymbol words.End ∷ r)
    → at_word words.Else s ≡ false
body_is_no_else no_statement = refl
body_is_no_else (next_statement {symbols = symbols} d ds) = no_word words.Else symbols (begins_no_word d)

begins_as_declaration : {s r : List Symbol} {t : DeclarationTree}
    → DerivesDeclaration s t r
    → ends_declarations s ≡ false
begins_as_declaration (declare_line end some all) = refl
begins_as_declaration (procedure_line start end d₁ d₂) = refl

-- an expression begins with no semicolon
begins_no_semicolon : (t : ExpressionTree) (r : List Symbol) → at_semicolon (expression_symbols t r) ≡ false
begins_no_semicolon (ConstantLeaf (NumberConstant n)) r = refl
begins_no_semicolon (ConstantLeaf (StringConstant s)) r = refl
begins_no_semicolon (ReferenceLeaf (ReferenceTo n args _)) r = refl
begins_no_semicolon (LocationLeaf t) r = refl
begins_no_semicolon (ListLeaf cs) r = refl
begins_no_semicolon (ParenthesizedNode t) r = refl
begins_no_semicolon (AssignmentNode t v) r = refl
begins_no_semicolon (UnaryNode Not t) r = refl
begins_no_semicolon (UnaryNode Negate t) r = refl
begins_no_semicolon (BinaryNode o left right) r = begins_no_semicolon left _

-- trees as lists
abbrev statements_listed : StatementTrees → List StatementTree
statements_listed NoStatements = []
statements_listed (MoreStatements first others) = first ∷ statements_listed others

statements_of-listed : (t : StatementTrees) → statements_of (statements_listed t) ≡ t
statements_of-listed NoStatements = refl
statements_of-listed (MoreStatements first others) = ap (MoreStatements first) (statements_of-listed others)

abbrev declarations_listed : DeclarationTrees → List DeclarationTree
declarations_listed NoDeclarations = []
declarations_listed (MoreDeclarations first others) = first ∷ declarations_listed others

declarations_of-listed : (t : DeclarationTrees) → declarations_of (declarations_listed t) ≡ t
declarations_of-listed NoDeclarations = refl
declarations_of-listed (MoreDeclarations first others) =
    ap (MoreDeclarations first) (declarations_of-listed others)

-- lists of statements and declarations
many_statements-verdict : (strict : Bool) (room : ℕ) (inner : Parser StatementTree)
    → HasStatementVerdicts strict room inner
    → (count : ℕ) (s : List Symbol) (body : StatementTrees) (r : List Symbol)
    → DerivesStatements s body (ReservedSymbol words.End ∷ r)
    → length s ≤ count
    → Verdict (many_items (at_word words.End) inner count s)
    (statements_listed body, ReservedSymbol words.End ∷ r) strict room
    (statements_height body) (StatementsEndsMatch body)
many_statements-verdict strict room inner sound zero s NoStatements r no_statement l = verdict_ok
many_statements-verdict strict room inner sound (suc count) s NoStatements r no_statement l = verdict_ok
many_statements-verdict strict room inner sound zero s (MoreStatements first others) r (next_statement d ds)
    l =
    absurd (omega (arith, l, statement-shorter d))
many_statements-verdict strict room inner sound (suc count) s (MoreStatements first others) r
    (next_statement {middle = middle} d ds) l =
    verdict_same (if_false (at_word words.End s) _ _ (no_word words.End s (begins_no_word d)))
    (verdict_bind _ (sound s first middle d (λ _. body_is_no_else ds))
    (verdict_last _ (many_statements-verdict strict room inner sound count middle others r ds
    (omega (arith, l, statement-shorter d))) refl))

statements-verdict : (strict : Bool) (room : ℕ) (inner : Parser StatementTree)
    → HasStatementVerdicts strict room inner
    → (s : List Symbol) (body : StatementTrees) (r : List Symbol)
    → DerivesStatements s body (ReservedSymbol words.End ∷ r)
    → Verdict (statements inner s) (body, ReservedSymbol words.End ∷ r) strict room (statements_height body)
    (StatementsEndsMatch body)
unfolding many
statements-verdict strict room inner sound s body r d =
    verdict_last _ (many_statements-verdict strict room inner sound (length s) s body r d (omega arith))
    (ap (λ t. Ok (t, ReservedSymbol words.End ∷ r)) (statements_of-listed body))

many_declarations-verdict : (strict : Bool) (room : ℕ) (inner : Parser DeclarationTree)
    → HasDeclarationVerdicts strict room inner
    → (count : ℕ) (s : List Symbol) (declared : DeclarationTrees) (r : List Symbol)
    → DerivesDeclarations s declared r
    → ends_declarations r ≡ true
    → length s ≤ count
    → Verdict (many_items ends_declarations inner count s) (declarations_listed declared, r) strict room
    (declarations_height declared) (DeclarationsEndsMatch declared)
many_declarations-verdict strict room inner sound zero s NoDeclarations r no_declaration e l =
    verdict_same (if_true (ends_declarations r) _ _ e) verdict_ok
many_declarations-verdict strict room inner sound (suc count) s NoDeclarations r no_declaration e l =
    verdict_same (if_true (ends_declarations r) _ _ e) verdict_ok
many_declarations-verdict strict room inner sound zero s (MoreDeclarations first others) r
    (next_declaration d ds) e l =
    absurd (omega (arith, l, declaration-shorter d))
many_declarations-verdict strict room inner sound (suc count) s (MoreDeclarations first others) r
    (next_declaration {middle = middle} d ds) e l =
    verdict_same (if_false (ends_declarations s) _ _ (begins_as_declaration d))
    (verdict_bind _ (sound s first middle d)
    (verdict_last _ (many_declarations-verdict strict room inner sound count middle others r ds e
    (omega (arith, l, declaration-shorter d))) refl))

declarations-verdict : (strict : Bool) (room : ℕ) (inner : Parser DeclarationTree)
    → HasDeclarationVerdicts strict room inner
    → (s : List Symbol) (declared : DeclarationTrees) (r : List Symbol)
    → DerivesDeclarations s declared r
    → ends_declarations r ≡ true
    → Verdict (declarations inner s) (declared, r) strict room (declarations_height declared)
    (DeclarationsEndsMatch declared)
unfolding many
declarations-verdict strict room inner sound s declared r d e =
    verdict_last _ (many_declarations-verdict strict room inner sound (length s) s declared r d e
    (omega arith))
    (ap (λ t. Ok (t, r)) (declarations_of-listed declared))

pub block-verdict : (strict : Bool) (room : ℕ) (declared : Parser DeclarationTree)
    (inner : Parser StatementTree)
    → HasDeclarationVerdicts strict room declared
    → HasStatementVerdicts strict room inner
    → HasBlockVerdicts strict room (block declared inner)
unfolding block
block-verdict strict room declared inner sound also s middle d b r ds dss =
    verdict_bind _ (declarations-verdict strict room declared sound s d middle ds
    (body_is_no_declaration dss))
    (verdict_last _ (statements-verdict strict room inner also middle b r dss) refl)

-- arguments and targets that are derived
derived_arguments : (strict : Bool) (room : ℕ) {s r : List Symbol} {t : ArgumentTrees}
    → DerivesArguments s t r
    → at_mark marks.LeftParenthesis r ≡ false
    → Verdict (arguments (expression room) s) (t, r) strict room (arguments_height t) (Unit {0})
derived_arguments strict room {s} {r} {t} d ends =
    let h = arguments-spelled d in
    verdict_same (ap (arguments (expression room)) h.0) (arguments-verdict strict room t r h.1 ends)

all_nothing : {A : Type 0} (all : List A) → AllByRecursion (λ (a : A). Unit {0}) all
all_nothing [] = tt
all_nothing (first ∷ others) = (tt, all_nothing others)

targets_greatest : (all : List ReferenceTree) → greatest reference_height all ≡ targets_height all
targets_greatest [] = refl
targets_greatest (first ∷ others) = ap (max (reference_height first)) (targets_greatest others)

spelled_targets : (strict : Bool) (room : ℕ) (targets : List ReferenceTree) (r : List Symbol)
    → IsNotEmpty targets
    → AllByRecursion IsReference targets
    → Verdict (items (reference (expression room))
    (between_commas reference_symbols targets (MarkSymbol marks.EqualSign ∷ r)))
    (targets, MarkSymbol marks.EqualSign ∷ r) strict room (targets_height targets) (Unit {0})
spelled_targets strict room targets r some h =
    verdict_as
    (items-verdict reference_symbols IsReference EndsReference strict room reference_height (λ t. Unit {0})
    (reference (expression room))
    (λ t q i b. reference-verdict strict room t q i b) (λ t q i. reference-long t q) (λ q. (refl, refl))
    targets (MarkSymbol marks.EqualSign ∷ r) some h refl (refl, refl))
    (targets_greatest targets) (λ _. tt) (λ _. all_nothing targets)

derived_targets : (strict : Bool) (room : ℕ) {s r : List Symbol} {targets : List ReferenceTree}
    → DerivesTargets s targets (MarkSymbol marks.EqualSign ∷ r)
    → Verdict (items (reference (expression room)) s) (targets, MarkSymbol marks.EqualSign ∷ r) strict room
    (targets_height targets) (Unit {0})
derived_targets strict room {s} {r} {targets} d =
    let h = targets-spelled d in
    verdict_same (ap (items (reference (expression room))) h.0)
    (spelled_targets strict room targets r h.1 h.2)

-- each statement
assignment-verdict : (strict : Bool) (room : ℕ) (targets : List ReferenceTree) (value : ExpressionTree)
    (end : Place) (s middle r : List Symbol)
    → DerivesTargets s targets (MarkSymbol marks.EqualSign ∷ middle)
    → DerivesExpression expression_level middle value (SemicolonSymbol end ∷ r)
    → Verdict (assignment (expression room) s) (AssignmentStatement targets value, r) strict room
    (max (targets_height targets) (expression_height value)) (Unit {0})
unfolding assignment
assignment-verdict strict room targets value end s middle r d₁ d₂ =
    verdict_as
    (verdict_bind _ (derived_targets strict room d₁)
    (verdict_last _ (derived_expression strict room d₂ (refl, refl, refl)) refl))
    refl (λ _. tt) (λ _. (tt, tt))

begins_name : {s r : List Symbol} {targets : List ReferenceTree}
    → DerivesTargets s targets r
    → beginning_of s ≡ beginnings.Name
begins_name (last_target (whole d)) = refl
begins_name (last_target (with_member d₁ d₂)) = refl
begins_name (next_target (whole d) ds) = refl
begins_name (next_target (with_member d₁ d₂) ds) = refl

return-verdict : (strict : Bool) (room : ℕ) (place end : Place) (r : List Symbol)
    → Verdict (return_value (expression room) place (SemicolonSymbol end ∷ r))
    (ReturnStatement place None, r) strict room 0 (Unit {0})
unfolding return_value
return-verdict strict room place end r = verdict_ok

return_value-verdict : (strict : Bool) (room : ℕ) (place end : Place) (value : ExpressionTree)
    (s r : List Symbol)
    → DerivesExpression expression_level s value (SemicolonSymbol end ∷ r)
    → Verdict (return_value (expression room) place s) (ReturnStatement place (Some value), r) strict room
    (expression_height value) (Unit {0})
unfolding return_value
return_value-verdict strict room place end value s r d =
    let e = ap at_semicolon (expression-spelled d).0 ∙ begins_no_semicolon value (SemicolonSymbol end ∷ r) in
    verdict_same (if_false _ _ _ e)
    (verdict_last _ (derived_expression strict room d (refl, refl, refl)) refl)

if-verdict : (strict : Bool) (room : ℕ) (inner : Parser StatementTree)
    → HasStatementVerdicts strict room inner
    → (place : Place) (condition : ExpressionTree) (body : StatementTree) (s middle r : List Symbol)
    → DerivesExpression expression_level s condition (ReservedSymbol words.Then ∷ middle)
    → DerivesStatement middle body r
    → at_word words.Else r ≡ false
    → Verdict (conditional (expression room) inner place s) (IfStatement place condition body NoElse, r)
    strict room
    (max (expression_height condition) (max (statement_height body) 0)) (StatementEndsMatch body × Unit {0})
unfolding conditional
if-verdict strict room inner sound place condition body s middle r d₁ d₂ none =
    verdict_as
    (verdict_bind _ (derived_expression strict room d₁ (refl, refl, refl))
    (verdict_bind _ (sound middle body r d₂ (λ _. none))
    (verdict_last _ (verdict_same (if_false (at_word words.Else r) _ _ none) verdict_ok) refl)))
    refl (λ both. both.1) (λ ends. (tt, ends))

if_else-verdict : (strict : Bool) (room : ℕ) (inner : Parser StatementTree)
    → HasStatementVerdicts strict room inner
    → (place : Place) (condition : ExpressionTree) (body other : StatementTree)
    (s middle after r : List Symbol)
    → DerivesExpression expression_level s condition (ReservedSymbol words.Then ∷ middle)
    → DerivesStatement middle body (ReservedSymbol words.Else ∷ after)
    → ends_in_open_if body ≡ false
    → DerivesStatement after other r
    → (ends_in_open_if other ≡ true → at_word words.Else r ≡ false)
    → Verdict (conditional (expression room) inner place s)
    (IfStatement place condition body (ElseStatement other), r) strict room
    (max (expression_height condition) (max (statement_height body) (statement_height other)))
    (StatementEndsMatch body × StatementEndsMatch other)
unfolding conditional
if_else-verdict strict room inner sound place condition body other s middle after r d₁ d₂ closed d₃ none =
    verdict_as
    (verdict_bind _ (derived_expression strict room d₁ (refl, refl, refl))
    (verdict_bind _ (sound middle body (ReservedSymbol words.Else ∷ after) d₂ (λ open_if. absurd cc))
    (verdict_last _ (verdict_last _ (sound after other r d₃ none) refl) refl)))
    refl (λ both. both.1) (λ ends. (tt, ends))

-- statements with END after them
body_of_do-verdict : (strict : Bool) (room : ℕ) (inner : Parser StatementTree)
    → HasStatementVerdicts strict room inner
    → (body : StatementTrees) (end : Place) (s r : List Symbol)
    → DerivesStatements s body (ReservedSymbol words.End ∷ SemicolonSymbol end ∷ r)
    → Verdict (body_of_do inner s) (body, r) strict room (statements_height body) (StatementsEndsMatch body)
unfolding body_of_do
body_of_do-verdict strict room inner sound body end s r d =
    verdict_last _ (statements-verdict strict room inner sound s body (SemicolonSymbol end ∷ r) d) refl

simple_do-verdict : (strict : Bool) (room : ℕ) (inside : BlockParser) → HasBlockVerdicts strict room inside
    → (place end : Place) (declared : DeclarationTrees) (body : StatementTrees) (s middle r : List Symbol)
    → DerivesDeclarations s declared middle
    → DerivesStatements middle body (ReservedSymbol words.End ∷ SemicolonSymbol end ∷ r)
    → Verdict (simple_do inside place s) (DoStatement place declared body, r) strict room
    (max (declarations_height declared) (statements_height body))
    (DeclarationsEndsMatch declared × StatementsEndsMatch body)
unfolding simple_do
simple_do-verdict strict room inside sound place end declared body s middle r d₁ d₂ =
    verdict_last _ (sound s middle declared body (SemicolonSymbol end ∷ r) d₁ d₂) refl

case_do-verdict : (strict : Bool) (room : ℕ) (inner : Parser StatementTree)
    → HasStatementVerdicts strict room inner
    → (place start end : Place) (choice : ExpressionTree) (body : StatementTrees) (s middle r : List Symbol)
    → DerivesExpression expression_level s choice (SemicolonSymbol start ∷ middle)
    → DerivesStatements middle body (ReservedSymbol words.End ∷ SemicolonSymbol end ∷ r)
    → Verdict (case_do (expression room) inner place s) (CaseStatement place choice body, r) strict room
    (max (expression_height choice) (statements_height body)) (StatementsEndsMatch body)
unfolding case_do
case_do-verdict strict room inner sound place start end choice body s middle r d₁ d₂ =
    verdict_as
    (verdict_bind _ (derived_expression strict room d₁ (refl, refl, refl))
    (verdict_last _ (body_of_do-verdict strict room inner sound body end middle r d₂) refl))
    refl (λ both. both.1) (λ ends. (tt, ends))

loop_do-verdict : (strict : Bool) (room : ℕ) (inner : Parser StatementTree)
    → HasStatementVerdicts strict room inner
    → (place start end : Place) (head : LoopHeadTree) (body : StatementTrees) (s middle r : List Symbol)
    → DerivesHead s head (SemicolonSymbol start ∷ middle)
    → DerivesStatements middle body (ReservedSymbol words.End ∷ SemicolonSymbol end ∷ r)
    → Verdict (loop_do (expression room) inner place s) (LoopStatement place head body, r) strict room
    (max (head_height head) (statements_height body)) (StatementsEndsMatch body)
unfolding loop_do
loop_do-verdict strict room inner sound place start end head body s middle r d₁ d₂ =
    verdict_as
    (verdict_bind _ (head-verdict strict room head start s middle d₁)
    (verdict_last _ (body_of_do-verdict strict room inner sound body end middle r d₂) refl))
    refl (λ both. both.1) (λ ends. (tt, ends))

-- a statement without labels, by its first symbol; what it holds is one level deeper
kind_by-verdict : (strict : Bool) (room : ℕ) (inner : Parser StatementTree) (inside : BlockParser)
    → HasStatementVerdicts strict room inner
    → HasBlockVerdicts strict room inside
    → HasKindVerdicts strict (suc room) (λ s. kind_by (expression room) inner inside (beginning_of s) s)
unfolding do_statement call goto
kind_by-verdict strict room inner inside sound also s t r null none = verdict_inside verdict_ok
kind_by-verdict strict room inner inside sound also s t r
    (assignment_line {end} {middle = middle} {targets = targets} {value = value} d₁ d₂) none =
    verdict_same (ap (λ b. kind_by (expression room) inner inside b s) (begins_name d₁))
    (verdict_inside (assignment-verdict strict room targets value end s middle r d₁ d₂))
kind_by-verdict strict room inner inside sound also s t r (call_line d) none =
    verdict_inside (verdict_last _ (derived_arguments strict room d refl) refl)
kind_by-verdict strict room inner inside sound also s t r return none =
    verdict_inside (return-verdict strict room _ _ r)
kind_by-verdict strict room inner inside sound also s t r
    (return_value_line {place} {end} {symbols = symbols} {value = value} d) none =
    verdict_inside (return_value-verdict strict room place end value symbols r d)
kind_by-verdict strict room inner inside sound also s t r halt none = verdict_inside verdict_ok
kind_by-verdict strict room inner inside sound also s t r goto_line none = verdict_inside verdict_ok
kind_by-verdict strict room inner inside sound also s t r
    (if_then {place} {symbols} {middle} {condition = condition} {body = body} d₁ d₂) none =
    verdict_inside (if-verdict strict room inner sound place condition body symbols middle r d₁ d₂
    (none refl))
kind_by-verdict strict room inner inside sound also s t r
    (if_then_else {place} {symbols} {middle} {after} {condition = condition} {body = body}
    {otherwise = other} d₁ d₂ closed d₃) none =
    verdict_inside (if_else-verdict strict room inner sound place condition body other symbols middle after r
    d₁ d₂ closed d₃ none)
kind_by-verdict strict room inner inside sound also s t r
    (simple_do_line {place} {end = end} {symbols = symbols} {middle = middle} {declared = declared}
    {body = body} d₁ d₂) none =
    verdict_inside (simple_do-verdict strict room inside also place end declared body symbols middle r d₁ d₂)
kind_by-verdict strict room inner inside sound also s t r
    (do_loop {place} {start} {end} {symbols} {middle} {head = head} {body = body} d₁ d₂) none =
    verdict_same (does_loop room inner inside place d₁)
    (verdict_inside (loop_do-verdict strict room inner sound place start end head body symbols middle r d₁
    d₂))
kind_by-verdict strict room inner inside sound also s t r
    (do_case {place} {start} {end} {symbols} {middle} {choice = choice} {body = body} d₁ d₂) none =
    verdict_inside (case_do-verdict strict room inner sound place start end choice body symbols middle r d₁
    d₂)

-- the labels of a statement, and what stands after them
record HasLabels (s : List Symbol) (labels : List Identifier) (kind : StatementKindTree) (r : List Symbol) :
    Type 0 where
  labels_are : labels_before s ≡ labels
  derives : DerivesKind (after_labels s) kind r

labels_of : {s r : List Symbol} {labels : List Identifier} {kind : StatementKindTree}
    → DerivesStatement s (LabelledStatement labels kind) r
    → HasLabels s labels kind r
labels_of (labelled {label = label} d) =
    let later = labels_of d in
    record { labels_are = ap (λ others. label ∷ others) later.labels_are; derives = later.derives }
labels_of {s} {r} {labels} {kind} (unlabelled d) =
    let h = begins_kind d in
    record { labels_are = h.2; derives = subst (λ (k : List Symbol). DerivesKind k kind r) (sym h.3) d }

statement_by-verdict : (strict : Bool) (room : ℕ) (inner : Parser StatementTree) (inside : BlockParser)
    → HasStatementVerdicts strict room inner
    → HasBlockVerdicts strict room inside
    → HasStatementVerdicts strict (suc room) (statement_by (expression room) inner inside)
statement_by-verdict strict room inner inside sound also s (LabelledStatement labels kind) r d none =
    let h = labels_of d in
    verdict_last _ (kind_by-verdict strict room inner inside sound also (after_labels s) kind r h.derives
    none)
    (ap (λ all. Ok (LabelledStatement all kind, r)) h.labels_are)

-- the name after END
pub ending-verdict : (strict : Bool) (room : ℕ) (own : Identifier) (found : Option Identifier) (end : Place)
    (r : List Symbol)
    → Verdict (ending strict own (ending_symbols found (SemicolonSymbol end ∷ r))) (found, r) strict room 0
    (IsEndName own found)
unfolding ending
ending-verdict strict room own None end r = verdict_ok
ending-verdict strict room own (Some found) end r = go (bytes_eq found.name own.name) strict refl
  where
    go : (b strict : Bool) → bytes_eq found.name own.name ≡ b
        → Verdict {A = Option Identifier × List Symbol}
        (if strict && not b then Err OtherEndName else Ok (Some found, r)) (Some found, r) strict room 0
        (IsEndName own (Some found))
    go true true e = fits refl (omega arith) (λ _. (bytes_eq-Decides found.name own.name).0 e)
    go true false e = fits refl (omega arith) (λ s. absurd cc)
    go false true e =
        other_name refl refl (λ same. let equal = (bytes_eq-Decides found.name own.name).1 same in absurd cc)
    go false false e = fits refl (omega arith) (λ s. absurd cc)

pub ends_of_block : {A B C : Type 0} → (A × B) × C → C × A × B
ends_of_block h = (h.1, h.0.0, h.0.1)

pub block_of_ends : {A B C : Type 0} → C × A × B → (A × B) × C
block_of_ends h = ((h.1, h.2), h.0)

procedure-verdict : (strict : Bool) (room : ℕ) (inside : BlockParser) → HasBlockVerdicts strict room inside
    → (head : HeadingTree) (declared : DeclarationTrees) (body : StatementTrees) (found : Option Identifier)
    (start end : Place) (s middle r : List Symbol)
    → DerivesDeclarations s declared middle
    → DerivesStatements middle body (ending_symbols found (SemicolonSymbol end ∷ r))
    → Verdict (procedure strict inside (heading_symbols head (SemicolonSymbol start ∷ s)))
    (ProcedureTree head declared body found, r) strict room
    (max (declarations_height declared) (statements_height body))
    (IsEndName head.name found × DeclarationsEndsMatch declared × StatementsEndsMatch body)
unfolding procedure
procedure-verdict strict room inside sound head declared body found start end s middle r d₁ d₂ =
    verdict_then _ (heading-reads head start s)
    (verdict_as
    (verdict_bind _ (sound s middle declared body (optional name_symbols found (SemicolonSymbol end ∷ r)) d₁
    d₂)
    (verdict_last _ (ending-verdict strict room head.name found end r) refl))
    (omega arith) ends_of_block block_of_ends)

-- a declaration, where what procedures hold is one level deeper
declare-verdict : (strict : Bool) (room : ℕ) (all : List ElementTree) (end : Place) (r : List Symbol)
    → IsNotEmpty all
    → AllByRecursion IsElement all
    → Verdict (declare (between_commas element_symbols all (SemicolonSymbol end ∷ r))) (DeclareTree all, r)
    strict room 0 (Unit {0})
unfolding declare
declare-verdict strict room all end r some h = verdict_then _ (elements-reads all end r some h) verdict_ok

declare_or-verdict : (strict : Bool) (room : ℕ) (inside : BlockParser) → HasBlockVerdicts strict room inside
    → HasDeclarationVerdicts strict (suc room) (declare_or (procedure strict inside))
unfolding declare_or
declare_or-verdict strict room inside sound s t r (declare_line end {elements} some all) =
    declare-verdict strict (suc room) elements end r some all
declare_or-verdict strict room inside sound s t r
    (procedure_line start end {heading} {symbols} {middle} {rest} {declared} {body} {end_name} d₁ d₂) =
    verdict_inside (procedure-verdict strict room inside sound heading declared body end_name start end
    symbols middle r d₁ d₂)

-- without room there are no procedures
no_room-verdict : (strict : Bool) → HasDeclarationVerdicts strict zero (declare_or (λ others. Err TooDeep))
unfolding declare_or
no_room-verdict strict s t r (declare_line end {elements} some all) =
    declare-verdict strict zero elements end r some all
no_room-verdict strict s t r (procedure_line start end d₁ d₂) = too_deep refl (omega arith)

-- each statement takes a level
kind_height-some : (t : StatementKindTree) → 0 < kind_height t
kind_height-some (NullStatement p) = omega arith
kind_height-some (AssignmentStatement targets value) = omega arith
kind_height-some (CallStatement p n args) = omega arith
kind_height-some (ReturnStatement p value) = omega arith
kind_height-some (HaltStatement p) = omega arith
kind_height-some (GotoStatement p label) = omega arith
kind_height-some (IfStatement p c body other) = omega arith
kind_height-some (DoStatement p declared body) = omega arith
kind_height-some (LoopStatement p head body) = omega arith
kind_height-some (CaseStatement p c body) = omega arith

mutual
  unfolding statement declaration

  pub statement-verdict : (strict : Bool) (room : ℕ)
      → HasStatementVerdicts strict room (statement strict room)
  statement-verdict strict zero s (LabelledStatement labels kind) r d none =
      too_deep refl (kind_height-some kind)
  statement-verdict strict (suc room) s t r d none =
      statement_by-verdict strict room (statement strict room)
      (block (declaration strict room) (statement strict room)) (statement-verdict strict room)
      (block-verdict strict room (declaration strict room) (statement strict room)
      (declaration-verdict strict room) (statement-verdict strict room)) s t r d none

  pub declaration-verdict : (strict : Bool) (room : ℕ)
      → HasDeclarationVerdicts strict room (declaration strict room)
  declaration-verdict strict zero s t r d = no_room-verdict strict s t r d
  declaration-verdict strict (suc room) s t r d =
      declare_or-verdict strict room (block (declaration strict room) (statement strict room))
      (block-verdict strict room (declaration strict room) (statement strict room)
      (declaration-verdict strict room) (statement-verdict strict room)) s t r d

-- The end of `StatementVerdicts`.
