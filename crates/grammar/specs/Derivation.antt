-- When words derive a module: a case for each line of the grammar.
-- In each, the symbols before `rest` are those of the tree.
use Rattle.std.specs.Prelude.{◌≡◌, ℕ, suc, ◌<◌, false, List, [], ◌∷◌, Option, Some, None}
use Rattle.std.specs.List.{AllByRecursion}
use Rattle.words.specs.declared.vocabulary.Mark.TheVariants.{EqualSign, MinusSign, LeftParenthesis, RightParenthesis, Comma, Colon, Period, AssignSign}
use Rattle.words.specs.declared.vocabulary.ReservedWord.TheVariants as words
use Rattle.words.specs.Spelling.{Lexeme}
use Rattle.trees.specs.declared.expression.BinaryOperator.{BinaryOperator}
use Rattle.trees.specs.declared.expression.BinaryOperator.TheVariants.{And}
use Rattle.trees.specs.declared.expression.UnaryOperator.TheVariants.{Not, Negate}
use Rattle.trees.specs.declared.identifier.Identifier.{Identifier}
use Rattle.trees.specs.declared.identifier.Number.{Number}
use Rattle.trees.specs.declared.identifier.Place.{Place}
use Rattle.grammar.specs.declared.TheConstants.{NESTING_LIMIT}
use Rattle.grammar.specs.Forms.{expression_level, conjunction_level, negation_level, relation_level, sum_level, term_level, sign_level, primary_level, level_of, IsNotEmpty, IsElement, ends_in_open_if}
use Rattle.grammar.specs.Nesting.{module_height, IsNestedWithin, ModuleEndsMatch}
use Rattle.grammar.specs.Spelling.{binary_symbol, between_commas, constant_symbols, element_symbols, heading_symbols, ending_symbols}
use Rattle.grammar.specs.Symbols.{Symbol, NameSymbol, NumberSymbol, StringSymbol, ReservedSymbol, PlacedSymbol, MarkSymbol, SemicolonSymbol, symbols_of}
use Rattle.trees.specs.Trees.{StringTree, ConstantTree, NumberConstant, StringConstant, ExpressionTree, ConstantLeaf, ReferenceLeaf, LocationLeaf, ListLeaf, ParenthesizedNode, AssignmentNode, UnaryNode, BinaryNode, ReferenceTree, ReferenceTo, NoMember, MemberOf, ArgumentTrees, NoArguments, MoreArguments, ElementTree, HeadingTree, LoopHeadTree, WhileHead, CountHead, StatementTree, LabelledStatement, StatementKindTree, NullStatement, AssignmentStatement, CallStatement, ReturnStatement, HaltStatement, GotoStatement, IfStatement, NoElse, ElseStatement, DoStatement, LoopStatement, CaseStatement, StatementTrees, NoStatements, MoreStatements, DeclarationTree, DeclareTree, ProcedureTree, DeclarationTrees, NoDeclarations, MoreDeclarations, ModuleTree}

mutual
  -- the symbols derive an expression at a level of the grammar
  pub data DerivesExpression : ℕ → List Symbol → ExpressionTree → List Symbol → Type 0 where
    -- expression: conjunction; conjunction: negation; negation: relation; relation: sum; sum: term; term: sign;
    -- sign: primary
    next_level : {level : ℕ} {symbols rest : List Symbol} {tree : ExpressionTree}
        → DerivesExpression (suc level) symbols tree rest
        → DerivesExpression level symbols tree rest
    -- expression: conjunction {(OR | XOR) conjunction}
    or_chain : {symbols middle rest : List Symbol} {left right : ExpressionTree} {operator : BinaryOperator}
        → level_of operator ≡ expression_level
        → DerivesExpression expression_level symbols left (binary_symbol operator ∷ middle)
        → DerivesExpression conjunction_level middle right rest
        → DerivesExpression expression_level symbols (BinaryNode operator left right) rest
    -- conjunction: negation {AND negation}
    and_chain : {symbols middle rest : List Symbol} {left right : ExpressionTree}
        → DerivesExpression conjunction_level symbols left (ReservedSymbol words.And ∷ middle)
        → DerivesExpression negation_level middle right rest
        → DerivesExpression conjunction_level symbols (BinaryNode And left right) rest
    -- negation: NOT negation
    negation : {symbols rest : List Symbol} {operand : ExpressionTree}
        → DerivesExpression negation_level symbols operand rest
        → DerivesExpression negation_level (ReservedSymbol words.Not ∷ symbols) (UnaryNode Not operand) rest
    -- relation: sum (`=` | `<` | `>` | `<=` | `>=` | `<>`) sum
    comparison : {symbols middle rest : List Symbol} {left right : ExpressionTree} {operator : BinaryOperator}
        → level_of operator ≡ relation_level
        → DerivesExpression sum_level symbols left (binary_symbol operator ∷ middle)
        → DerivesExpression sum_level middle right rest
        → DerivesExpression relation_level symbols (BinaryNode operator left right) rest
    -- sum: term {(`+` | `-`) term}
    sum_chain : {symbols middle rest : List Symbol} {left right : ExpressionTree} {operator : BinaryOperator}
        → level_of operator ≡ sum_level
        → DerivesExpression sum_level symbols left (binary_symbol operator ∷ middle)
        → DerivesExpression term_level middle right rest
        → DerivesExpression sum_level symbols (BinaryNode operator left right) rest
    -- term: sign {(`*` | `/` | MOD) sign}
    term_chain : {symbols middle rest : List Symbol} {left right : ExpressionTree} {operator : BinaryOperator}
        → level_of operator ≡ term_level
        → DerivesExpression term_level symbols left (binary_symbol operator ∷ middle)
        → DerivesExpression sign_level middle right rest
        → DerivesExpression term_level symbols (BinaryNode operator left right) rest
    -- sign: `-` primary
    minus : {symbols rest : List Symbol} {operand : ExpressionTree}
        → DerivesExpression primary_level symbols operand rest
        → DerivesExpression sign_level (MarkSymbol MinusSign ∷ symbols) (UnaryNode Negate operand) rest
    -- primary: number
    number : {value : Number} {rest : List Symbol}
        → DerivesExpression primary_level (NumberSymbol value ∷ rest)
        (ConstantLeaf (NumberConstant value)) rest
    -- primary: string
    string : {text : StringTree} {rest : List Symbol}
        → DerivesExpression primary_level (StringSymbol text ∷ rest)
        (ConstantLeaf (StringConstant text)) rest
    -- primary: reference
    reference : {symbols rest : List Symbol} {tree : ReferenceTree}
        → DerivesReference symbols tree rest
        → DerivesExpression primary_level symbols (ReferenceLeaf tree) rest
    -- primary: `.` reference
    location : {symbols rest : List Symbol} {tree : ReferenceTree}
        → DerivesReference symbols tree rest
        → DerivesExpression primary_level (MarkSymbol Period ∷ symbols) (LocationLeaf tree) rest
    -- primary: `.` `(` constant {`,` constant} `)`
    list : {constants : List ConstantTree} {rest : List Symbol}
        → IsNotEmpty constants
        → DerivesExpression primary_level (MarkSymbol Period ∷ MarkSymbol LeftParenthesis
        ∷ between_commas constant_symbols constants (MarkSymbol RightParenthesis ∷ rest))
        (ListLeaf constants) rest
    -- primary: `(` expression `)`
    parenthesized : {symbols rest : List Symbol} {tree : ExpressionTree}
        → DerivesExpression expression_level symbols tree (MarkSymbol RightParenthesis ∷ rest)
        → DerivesExpression primary_level (MarkSymbol LeftParenthesis ∷ symbols) (ParenthesizedNode tree) rest
    -- primary: `(` reference `:=` expression `)`
    embedded_assignment : {symbols middle rest : List Symbol} {target : ReferenceTree}
        {value : ExpressionTree}
        → DerivesReference symbols target (MarkSymbol AssignSign ∷ middle)
        → DerivesExpression expression_level middle value (MarkSymbol RightParenthesis ∷ rest)
        → DerivesExpression primary_level (MarkSymbol LeftParenthesis ∷ symbols)
        (AssignmentNode target value) rest

  pub data DerivesReference : List Symbol → ReferenceTree → List Symbol → Type 0 where
    -- reference: name [arguments]
    whole : {name : Identifier} {symbols rest : List Symbol} {arguments : ArgumentTrees}
        → DerivesArguments symbols arguments rest
        → DerivesReference (NameSymbol name ∷ symbols) (ReferenceTo name arguments NoMember) rest
    -- reference: name [arguments] `.` name [arguments]
    with_member : {name member : Identifier} {symbols middle rest : List Symbol}
        {arguments its_arguments : ArgumentTrees}
        → DerivesArguments symbols arguments (MarkSymbol Period ∷ NameSymbol member ∷ middle)
        → DerivesArguments middle its_arguments rest
        → DerivesReference (NameSymbol name ∷ symbols)
        (ReferenceTo name arguments (MemberOf member its_arguments)) rest

  -- [arguments]
  pub data DerivesArguments : List Symbol → ArgumentTrees → List Symbol → Type 0 where
    no_arguments : {rest : List Symbol} → DerivesArguments rest NoArguments rest
    -- arguments: `(` expression {`,` expression} `)`
    some_arguments : {symbols middle rest : List Symbol} {first : ExpressionTree} {others : ArgumentTrees}
        → DerivesExpression expression_level symbols first middle
        → DerivesMoreArguments middle others rest
        → DerivesArguments (MarkSymbol LeftParenthesis ∷ symbols) (MoreArguments first others) rest

  -- {`,` expression} `)`
  pub data DerivesMoreArguments : List Symbol → ArgumentTrees → List Symbol → Type 0 where
    last_argument : {rest : List Symbol}
        → DerivesMoreArguments (MarkSymbol RightParenthesis ∷ rest) NoArguments rest
    next_argument : {symbols middle rest : List Symbol} {first : ExpressionTree} {others : ArgumentTrees}
        → DerivesExpression expression_level symbols first middle
        → DerivesMoreArguments middle others rest
        → DerivesMoreArguments (MarkSymbol Comma ∷ symbols) (MoreArguments first others) rest

-- reference {`,` reference}
pub data DerivesTargets : List Symbol → List ReferenceTree → List Symbol → Type 0 where
  last_target : {symbols rest : List Symbol} {target : ReferenceTree}
      → DerivesReference symbols target rest
      → DerivesTargets symbols (target ∷ []) rest
  next_target : {symbols middle rest : List Symbol} {target : ReferenceTree} {others : List ReferenceTree}
      → DerivesReference symbols target (MarkSymbol Comma ∷ middle)
      → DerivesTargets middle others rest
      → DerivesTargets symbols (target ∷ others) rest

-- the head of a loop that is that of an iterative DO
abbrev count : Identifier → ExpressionTree → ExpressionTree → Option ExpressionTree → LoopHeadTree
count variable first last step =
    CountHead (record { variable = variable; first = first; last = last; step = step })

-- the symbols derive the head of a loop, between DO and the semicolon before its statements
pub data DerivesHead : List Symbol → LoopHeadTree → List Symbol → Type 0 where
  -- head: WHILE expression
  while_head : {symbols rest : List Symbol} {condition : ExpressionTree}
      → DerivesExpression expression_level symbols condition rest
      → DerivesHead (ReservedSymbol words.While ∷ symbols) (WhileHead condition) rest
  -- head: name `=` expression TO expression
  count_head : {variable : Identifier} {symbols to rest : List Symbol} {first last : ExpressionTree}
      → DerivesExpression expression_level symbols first (ReservedSymbol words.To ∷ to)
      → DerivesExpression expression_level to last rest
      → DerivesHead (NameSymbol variable ∷ MarkSymbol EqualSign ∷ symbols)
      (count variable first last None) rest
  -- head: name `=` expression TO expression BY expression
  count_by_head : {variable : Identifier} {symbols to by rest : List Symbol}
      {first last step : ExpressionTree}
      → DerivesExpression expression_level symbols first (ReservedSymbol words.To ∷ to)
      → DerivesExpression expression_level to last (ReservedSymbol words.By ∷ by)
      → DerivesExpression expression_level by step rest
      → DerivesHead (NameSymbol variable ∷ MarkSymbol EqualSign ∷ symbols)
      (count variable first last (Some step)) rest

mutual
  pub data DerivesStatement : List Symbol → StatementTree → List Symbol → Type 0 where
    -- statement: name `:` statement
    labelled : {label : Identifier} {labels : List Identifier} {symbols rest : List Symbol}
        {kind : StatementKindTree}
        → DerivesStatement symbols (LabelledStatement labels kind) rest
        → DerivesStatement (NameSymbol label ∷ MarkSymbol Colon ∷ symbols)
        (LabelledStatement (label ∷ labels) kind) rest
    -- statement: one of the lines below
    unlabelled : {symbols rest : List Symbol} {kind : StatementKindTree}
        → DerivesKind symbols kind rest
        → DerivesStatement symbols (LabelledStatement [] kind) rest

  -- a statement without labels
  pub data DerivesKind : List Symbol → StatementKindTree → List Symbol → Type 0 where
    -- statement: `;`
    null : {place : Place} {rest : List Symbol}
        → DerivesKind (SemicolonSymbol place ∷ rest) (NullStatement place) rest
    -- statement: reference {`,` reference} `=` expression `;`
    assignment : {end : Place} {symbols middle rest : List Symbol} {targets : List ReferenceTree}
        {value : ExpressionTree}
        → DerivesTargets symbols targets (MarkSymbol EqualSign ∷ middle)
        → DerivesExpression expression_level middle value (SemicolonSymbol end ∷ rest)
        → DerivesKind symbols (AssignmentStatement targets value) rest
    -- statement: CALL name [arguments] `;`
    call : {place end : Place} {name : Identifier} {symbols rest : List Symbol} {arguments : ArgumentTrees}
        → DerivesArguments symbols arguments (SemicolonSymbol end ∷ rest)
        → DerivesKind (PlacedSymbol words.Call place ∷ NameSymbol name ∷ symbols)
        (CallStatement place name arguments) rest
    -- statement: RETURN `;`
    return : {place end : Place} {rest : List Symbol}
        → DerivesKind (PlacedSymbol words.Return place ∷ SemicolonSymbol end ∷ rest)
        (ReturnStatement place None) rest
    -- statement: RETURN expression `;`
    return_value : {place end : Place} {symbols rest : List Symbol} {value : ExpressionTree}
        → DerivesExpression expression_level symbols value (SemicolonSymbol end ∷ rest)
        → DerivesKind (PlacedSymbol words.Return place ∷ symbols) (ReturnStatement place (Some value)) rest
    -- statement: HALT `;`
    halt : {place end : Place} {rest : List Symbol}
        → DerivesKind (PlacedSymbol words.Halt place ∷ SemicolonSymbol end ∷ rest) (HaltStatement place) rest
    -- statement: GOTO name `;`
    goto : {place end : Place} {label : Identifier} {rest : List Symbol}
        → DerivesKind (PlacedSymbol words.Goto place ∷ NameSymbol label ∷ SemicolonSymbol end ∷ rest)
        (GotoStatement place label) rest
    -- statement: IF expression THEN statement
    if_then : {place : Place} {symbols middle rest : List Symbol} {condition : ExpressionTree}
        {body : StatementTree}
        → DerivesExpression expression_level symbols condition (ReservedSymbol words.Then ∷ middle)
        → DerivesStatement middle body rest
        → DerivesKind (PlacedSymbol words.If place ∷ symbols) (IfStatement place condition body NoElse) rest
    -- statement: IF expression THEN statement ELSE statement, where the ELSE goes with no IF nearer to it
    if_then_else : {place : Place} {symbols middle after rest : List Symbol} {condition : ExpressionTree}
        {body otherwise : StatementTree}
        → DerivesExpression expression_level symbols condition (ReservedSymbol words.Then ∷ middle)
        → DerivesStatement middle body (ReservedSymbol words.Else ∷ after)
        → ends_in_open_if body ≡ false
        → DerivesStatement after otherwise rest
        → DerivesKind (PlacedSymbol words.If place ∷ symbols)
        (IfStatement place condition body (ElseStatement otherwise)) rest
    -- statement: DO `;` {declaration} {statement} END `;`
    simple_do : {place start end : Place} {symbols middle rest : List Symbol} {declared : DeclarationTrees}
        {body : StatementTrees}
        → DerivesDeclarations symbols declared middle
        → DerivesStatements middle body (ReservedSymbol words.End ∷ SemicolonSymbol end ∷ rest)
        → DerivesKind (PlacedSymbol words.Do place ∷ SemicolonSymbol start ∷ symbols)
        (DoStatement place declared body) rest
    -- statement: DO head `;` {statement} END `;`
    do_loop : {place start end : Place} {symbols middle rest : List Symbol} {head : LoopHeadTree}
        {body : StatementTrees}
        → DerivesHead symbols head (SemicolonSymbol start ∷ middle)
        → DerivesStatements middle body (ReservedSymbol words.End ∷ SemicolonSymbol end ∷ rest)
        → DerivesKind (PlacedSymbol words.Do place ∷ symbols) (LoopStatement place head body) rest
    -- statement: DO CASE expression `;` {statement} END `;`
    do_case : {place start end : Place} {symbols middle rest : List Symbol} {choice : ExpressionTree}
        {body : StatementTrees}
        → DerivesExpression expression_level symbols choice (SemicolonSymbol start ∷ middle)
        → DerivesStatements middle body (ReservedSymbol words.End ∷ SemicolonSymbol end ∷ rest)
        → DerivesKind (PlacedSymbol words.Do place ∷ ReservedSymbol words.Case ∷ symbols)
        (CaseStatement place choice body) rest

  -- {statement}
  pub data DerivesStatements : List Symbol → StatementTrees → List Symbol → Type 0 where
    no_statement : {rest : List Symbol} → DerivesStatements rest NoStatements rest
    next_statement : {symbols middle rest : List Symbol} {first : StatementTree} {others : StatementTrees}
        → DerivesStatement symbols first middle
        → DerivesStatements middle others rest
        → DerivesStatements symbols (MoreStatements first others) rest

  pub data DerivesDeclaration : List Symbol → DeclarationTree → List Symbol → Type 0 where
    -- declaration: DECLARE element {`,` element} `;`
    declare : (end : Place) {elements : List ElementTree} {rest : List Symbol}
        → IsNotEmpty elements
        → AllByRecursion IsElement elements
        → DerivesDeclaration (ReservedSymbol words.Declare
        ∷ between_commas element_symbols elements (SemicolonSymbol end ∷ rest)) (DeclareTree elements) rest
    -- procedure: its heading `;` {declaration} {statement} END [name] `;`
    procedure : (start end : Place) {heading : HeadingTree} {symbols middle rest : List Symbol}
        {declared : DeclarationTrees} {body : StatementTrees} {end_name : Option Identifier}
        → DerivesDeclarations symbols declared middle
        → DerivesStatements middle body (ending_symbols end_name (SemicolonSymbol end ∷ rest))
        → DerivesDeclaration (heading_symbols heading (SemicolonSymbol start ∷ symbols))
        (ProcedureTree heading declared body end_name) rest

  -- {declaration}
  pub data DerivesDeclarations : List Symbol → DeclarationTrees → List Symbol → Type 0 where
    no_declaration : {rest : List Symbol} → DerivesDeclarations rest NoDeclarations rest
    next_declaration : {symbols middle rest : List Symbol} {first : DeclarationTree}
        {others : DeclarationTrees}
        → DerivesDeclaration symbols first middle
        → DerivesDeclarations middle others rest
        → DerivesDeclarations symbols (MoreDeclarations first others) rest

-- module: name `:` DO `;` {declaration} {statement} END [name] `;`, and nothing after it
pub data DerivesModule : List Symbol → ModuleTree → Type 0 where
  whole_module : (end : Place) {name : Identifier} {place start : Place} {symbols middle : List Symbol}
      {declared : DeclarationTrees} {body : StatementTrees} {end_name : Option Identifier}
      → DerivesDeclarations symbols declared middle
      → DerivesStatements middle body (ending_symbols end_name (SemicolonSymbol end ∷ []))
      → DerivesModule
      (NameSymbol name ∷ MarkSymbol Colon ∷ PlacedSymbol words.Do place ∷ SemicolonSymbol start ∷ symbols)
      (record { name = name; place = place; declarations = declared; statements = body; end_name = end_name })

-- words derive a module: by the grammar, nested no deeper than the limit, and with names after END that match
pub record Derives (words : List Lexeme) (tree : ModuleTree) : Type 0 where
  pub grammar : DerivesModule (symbols_of words) tree
  pub nested : IsNestedWithin tree
  pub ends : ModuleEndsMatch tree

-- words would derive a module, but for its depth
pub record DerivesButForDepth (words : List Lexeme) : Type 0 where
  pub tree : ModuleTree
  pub grammar : DerivesModule (symbols_of words) tree
  pub too_deep : NESTING_LIMIT < module_height tree
  pub ends : ModuleEndsMatch tree

-- words would derive a module, but for a name after END
pub record DerivesButForEndName (words : List Lexeme) : Type 0 where
  pub tree : ModuleTree
  pub grammar : DerivesModule (symbols_of words) tree
  pub nested : IsNestedWithin tree
  pub other : ¬ ModuleEndsMatch tree

-- words derive one module at most, whatever its depth and the names after END
abbrev pub DerivesAtMostOne : List Lexeme → Type 0
DerivesAtMostOne words =
    (first second : ModuleTree)
    → DerivesModule (symbols_of words) first
    → DerivesModule (symbols_of words) second
    → first ≡ second
