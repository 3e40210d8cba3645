-- What the parser reads inside of statements and declarations, where names after END are compared.
use Rattle.std.specs.Prelude.{◌≡◌, ℕ, Bool, true, false, List, [], ◌∷◌, drop, Option, Some, None, Result, Ok, Err, if◌then◌else◌}
use Rattle.trees.specs.declared.statement.Block.{Block}
use Rattle.trees.specs.declared.statement.Declaration.{Declaration}
use Rattle.trees.specs.declared.statement.Statement.{Statement}
use Rattle.grammar.specs.Forms.{expression_level}
use Rattle.grammar.specs.Symbols.{Symbol, NameSymbol, UnknownSymbol}
use Rattle.trees.specs.Trees.{ExpressionTree, StatementTree, StatementKindTree, StatementTrees, MoreStatements, DeclarationTrees, MoreDeclarations}
use Rattle.trees.specs.internal.Views.{statement_tree, declaration_tree, block_declarations, block_statements}
use Rattle.failure.specs.declared.Failure.{Failure}
use Rattle.syntax.specs.declared.fault.Fault.{Fault}
use Rattle.syntax.specs.declared.statements.Beginning.{Beginning}
use Rattle.syntax.specs.declared.statements.Beginning.TheVariants.{Name}
use Rattle.syntax.specs.internal.Expressions.{ExpressionParser, expression}
use Rattle.syntax.specs.internal.Results.{Fails}
use Rattle.syntax.specs.internal.Reader.{Parser, Reading, Cause, ◌>>=◌, semicolon}
use Rattle.syntax.specs.internal.Statements.{BlockParser, at_semicolon, labels_before, after_labels, labelled, statement, declaration, kind_by, beginning_of, block}

-- {declaration} {statement}, in a room
abbrev pub block_in : ℕ → BlockParser
block_in room symbols = block (declaration true room) (statement true room) symbols

-- the beginning of a statement, where a symbol that the grammar doesn't have is taken for a name
abbrev pub next_beginning : List Symbol → Beginning
next_beginning (UnknownSymbol ∷ rest) = Name
next_beginning symbols = beginning_of symbols

-- a statement without labels whose parts fit into a room
abbrev pub kind_inside : ℕ → Parser StatementKindTree
kind_inside room symbols =
    kind_by (expression room) (statement true room) (block_in room) (next_beginning symbols) symbols

-- a statement whose parts fit into a room
abbrev pub statement_inside : ℕ → Parser StatementTree
statement_inside room symbols = labelled (labels_before symbols) (kind_inside room (after_labels symbols))

-- the trees of a block
abbrev pub block_trees : Block → DeclarationTrees × StatementTrees
block_trees block = (block_declarations block, block_statements block)

-- expression `;`
abbrev pub condition : ExpressionParser → Parser ExpressionTree
condition inner symbols = do
  found ← inner expression_level symbols
  end ← semicolon found.1
  Ok (found.0, end.1)

-- [expression] `;`
abbrev pub value : ExpressionParser → Parser (Option ExpressionTree)
value inner symbols =
    if at_semicolon symbols then Ok (None, drop 1 symbols)
    else (do
      found ← condition inner symbols
      Ok (Some (found.0), found.1))

-- whether a symbol is a name
abbrev pub is_name_symbol : Symbol → Bool
is_name_symbol (NameSymbol name) = true
is_name_symbol symbol = false

-- statements, and then other ones
abbrev pub statements_before : List Statement → StatementTrees → StatementTrees
statements_before [] others = others
statements_before (first ∷ rest) others =
    MoreStatements (statement_tree first) (statements_before rest others)

-- a reading of statements, with others before those that were read
abbrev pub after_statements : List Statement → Reading StatementTrees → Reading StatementTrees
after_statements made (Ok found) = Ok (statements_before made found.0, found.1)
after_statements made (Err cause) = Err cause

-- declarations, and then other ones
abbrev pub declarations_before : List Declaration → DeclarationTrees → DeclarationTrees
declarations_before [] others = others
declarations_before (first ∷ rest) others =
    MoreDeclarations (declaration_tree first) (declarations_before rest others)

-- a reading of declarations, with others before those that were read
abbrev pub after_declarations : List Declaration → Reading DeclarationTrees → Reading DeclarationTrees
after_declarations made (Ok found) = Ok (declarations_before made found.0, found.1)
after_declarations made (Err cause) = Err cause

-- a returned value is the reading of the whole
abbrev pub Makes : {X Y : Type 0} → (X → Y) → Result X (Failure Fault) → Result Y Cause → Type 0
Makes view (Ok x) read = read ≡ Ok (view x)
Makes view (Err failure) read = Fails failure read
