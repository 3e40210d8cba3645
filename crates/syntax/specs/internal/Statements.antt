-- How the parser reads statements, declarations and modules.
-- Names after END are compared only where it is strict.
use Rattle.std.specs.Prelude.{ℕ, zero, suc, Bool, true, false, not, ◌&&◌, ◌||◌, List, [], ◌∷◌, drop, Option, Some, None, Result, Ok, Err, if◌then◌else◌}
use Rattle.std.specs.Str.{bytes_eq}
use Rattle.words.specs.declared.vocabulary.Mark.TheVariants as marks
use Rattle.words.specs.declared.vocabulary.ReservedWord.{ReservedWord}
use Rattle.words.specs.declared.vocabulary.ReservedWord.TheVariants as words
use Rattle.trees.specs.declared.identifier.Identifier.{Identifier}
use Rattle.trees.specs.declared.identifier.Place.{Place}
use Rattle.grammar.specs.Forms.{expression_level}
use Rattle.grammar.specs.Symbols.{Symbol, NameSymbol, SemicolonSymbol, PlacedSymbol}
use Rattle.trees.specs.Trees.{ExpressionTree, IterationTree, LoopHeadTree, WhileHead, CountHead, StatementTree, LabelledStatement, StatementKindTree, NullStatement, AssignmentStatement, CallStatement, ReturnStatement, HaltStatement, GotoStatement, IfStatement, ElseTree, NoElse, ElseStatement, DoStatement, LoopStatement, CaseStatement, StatementTrees, NoStatements, MoreStatements, DeclarationTree, DeclareTree, ProcedureTree, DeclarationTrees, NoDeclarations, MoreDeclarations, ModuleTree}
use Rattle.syntax.specs.declared.statements.Beginning.{Beginning}
use Rattle.syntax.specs.declared.statements.Beginning.TheVariants as beginnings
use Rattle.syntax.specs.internal.Reader.{Parser, Reading, Cause, Unexpected, TooDeep, OtherEndName, ◌>>=◌, at_mark, at_word, place_of_word, next_name, mark, semicolon, word, name, taken}
use Rattle.syntax.specs.internal.Lists.{items, many}
use Rattle.syntax.specs.internal.Expressions.{ExpressionParser, expression, reference, arguments}
use Rattle.syntax.specs.internal.Declarations.{element, heading}

-- how declarations and the statements after them are read
abbrev pub BlockParser : Type 0
BlockParser = Parser (DeclarationTrees × StatementTrees)

-- whether the next symbol is a semicolon
abbrev pub at_semicolon : List Symbol → Bool
at_semicolon (SemicolonSymbol place ∷ rest) = true
at_semicolon symbols = false

-- the beginning of a statement
abbrev pub beginning_at : ReservedWord → Place → Beginning
beginning_at words.Call place = beginnings.Call place
beginning_at words.Return place = beginnings.Return place
beginning_at words.Halt place = beginnings.Halt place
beginning_at words.Goto place = beginnings.Goto place
beginning_at words.If place = beginnings.If place
beginning_at words.Do place = beginnings.Do place
beginning_at word place = beginnings.Other

abbrev pub beginning_of : List Symbol → Beginning
beginning_of (NameSymbol _ ∷ rest) = beginnings.Name
beginning_of (SemicolonSymbol place ∷ rest) = beginnings.Semicolon place
beginning_of (PlacedSymbol found place ∷ rest) = beginning_at found place
beginning_of symbols = beginnings.Other

-- the label that stands here, if one does: a name before a colon
abbrev pub next_label : List Symbol → Option Identifier
next_label symbols = if at_mark marks.Colon (drop 1 symbols) then next_name symbols else None

-- the labels before a statement, and the symbols after them
abbrev pub labels_before : List Symbol → List Identifier
labels_before (NameSymbol name ∷ second ∷ rest) =
    if at_mark marks.Colon (second ∷ rest) then name ∷ labels_before rest else []
labels_before symbols = []

abbrev pub after_labels : List Symbol → List Symbol
after_labels (NameSymbol name ∷ second ∷ rest) =
    if at_mark marks.Colon (second ∷ rest) then after_labels rest else NameSymbol name ∷ second ∷ rest
after_labels symbols = symbols

-- a statement with these labels, whose kind was read
abbrev pub labelled : List Identifier → Reading StatementKindTree → Reading StatementTree
labelled labels read = do
  kind ← read
  Ok (LabelledStatement labels kind.0, kind.1)

-- the trees of lists
abbrev pub statements_of : List StatementTree → StatementTrees
statements_of [] = NoStatements
statements_of (first ∷ others) = MoreStatements first (statements_of others)

abbrev pub declarations_of : List DeclarationTree → DeclarationTrees
declarations_of [] = NoDeclarations
declarations_of (first ∷ others) = MoreDeclarations first (declarations_of others)

-- whether a procedure begins
abbrev pub begins_procedure : List Symbol → Bool
begins_procedure (NameSymbol _ ∷ rest) = at_mark marks.Colon rest && at_word words.Procedure (drop 1 rest)
begins_procedure symbols = false

-- whether no declaration begins
abbrev pub ends_declarations : List Symbol → Bool
ends_declarations symbols = not (at_word words.Declare symbols || begins_procedure symbols)

-- {statement}, up to END
abbrev pub statements : Parser StatementTree → Parser StatementTrees
statements inner symbols = do
  found ← many (at_word words.End) inner symbols
  Ok (statements_of found.0, found.1)

-- {declaration}
abbrev pub declarations : Parser DeclarationTree → Parser DeclarationTrees
declarations inner symbols = do
  found ← many ends_declarations inner symbols
  Ok (declarations_of found.0, found.1)

-- {declaration} {statement}
unfoldable pub block : Parser DeclarationTree → Parser StatementTree → BlockParser
block declaration statement symbols = do
  declared ← declarations declaration symbols
  body ← statements statement declared.1
  Ok ((declared.0, body.0), body.1)

-- END `;`
abbrev pub end_of_do : List Symbol → Result (List Symbol) Cause
end_of_do symbols = do
  later ← word words.End symbols
  end ← semicolon later
  Ok end.1

-- {statement} END `;`
unfoldable pub body_of_do : Parser StatementTree → Parser StatementTrees
body_of_do inner symbols = do
  body ← statements inner symbols
  rest ← end_of_do body.1
  Ok (body.0, rest)

-- [name] `;`, after END, where what ends has a name of its own
abbrev pub end_name : Bool → Identifier → Option Identifier → Parser (Option Identifier)
end_name strict own None symbols = do
  end ← semicolon symbols
  Ok (None, end.1)
end_name strict own (Some found) symbols =
    if strict && not (bytes_eq found.name own.name) then Err OtherEndName
    else (do
      end ← semicolon (drop 1 symbols)
      Ok (Some found, end.1))

-- END [name] `;`
unfoldable pub ending : Bool → Identifier → Parser (Option Identifier)
ending strict own symbols = do
  later ← word words.End symbols
  end_name strict own (next_name later) later

-- reference {`,` reference} `=` expression `;`
unfoldable pub assignment : ExpressionParser → Parser StatementKindTree
assignment inner symbols = do
  targets ← items (reference inner) symbols
  later ← mark marks.EqualSign targets.1
  value ← inner expression_level later
  end ← semicolon value.1
  Ok (AssignmentStatement targets.0 value.0, end.1)

-- name [arguments] `;`, after CALL
unfoldable pub call : ExpressionParser → Place → Parser StatementKindTree
call inner place symbols = do
  procedure ← name symbols
  found ← arguments inner procedure.1
  end ← semicolon found.1
  Ok (CallStatement place procedure.0 found.0, end.1)

-- [expression] `;`, after RETURN
unfoldable pub return_value : ExpressionParser → Place → Parser StatementKindTree
return_value inner place symbols =
    if at_semicolon symbols then Ok (ReturnStatement place None, drop 1 symbols)
    else (do
      value ← inner expression_level symbols
      end ← semicolon value.1
      Ok (ReturnStatement place (Some (value.0)), end.1))

-- [ELSE statement]
abbrev pub otherwise : Parser StatementTree → Parser ElseTree
otherwise inner symbols =
    if at_word words.Else symbols then (do
      found ← inner (drop 1 symbols)
      Ok (ElseStatement found.0, found.1))
    else Ok (NoElse, symbols)

-- expression THEN statement [ELSE statement], after IF
unfoldable pub conditional : ExpressionParser → Parser StatementTree → Place → Parser StatementKindTree
conditional expressions inner place symbols = do
  condition ← expressions expression_level symbols
  rest ← word words.Then condition.1
  body ← inner rest
  other ← otherwise inner body.1
  Ok (IfStatement place condition.0 body.0 other.0, other.1)

-- [BY expression]
abbrev pub step : ExpressionParser → Parser (Option ExpressionTree)
step inner symbols =
    if at_word words.By symbols then (do
      found ← inner expression_level (drop 1 symbols)
      Ok (Some (found.0), found.1))
    else Ok (None, symbols)

-- name `=` expression TO expression [BY expression]
unfoldable pub iteration : ExpressionParser → Parser IterationTree
iteration inner symbols = do
  its_variable ← name symbols
  later ← mark marks.EqualSign its_variable.1
  its_first ← inner expression_level later
  after ← word words.To its_first.1
  its_last ← inner expression_level after
  its_step ← step inner its_last.1
  Ok (
    record { variable = its_variable.0; first = its_first.0; last = its_last.0; step = its_step.0 },
    its_step.1,
  )

-- WHILE expression, or the head of an iterative DO
unfoldable pub loop_head : ExpressionParser → Parser LoopHeadTree
loop_head inner symbols =
    if at_word words.While symbols then (do
      condition ← inner expression_level (drop 1 symbols)
      Ok (WhileHead condition.0, condition.1))
    else (do
      found ← iteration inner symbols
      Ok (CountHead found.0, found.1))

-- {declaration} {statement} END `;`, after DO `;`
unfoldable pub simple_do : BlockParser → Place → Parser StatementKindTree
simple_do inside place symbols = do
  found ← inside symbols
  rest ← end_of_do found.1
  Ok (DoStatement place found.0.0 found.0.1, rest)

-- the head of a loop `;` {statement} END `;`, after DO
unfoldable pub loop_do : ExpressionParser → Parser StatementTree → Place → Parser StatementKindTree
loop_do expressions inner place symbols = do
  head ← loop_head expressions symbols
  start ← semicolon head.1
  body ← body_of_do inner start.1
  Ok (LoopStatement place head.0 body.0, body.1)

-- expression `;` {statement} END `;`, after DO CASE
unfoldable pub case_do : ExpressionParser → Parser StatementTree → Place → Parser StatementKindTree
case_do expressions inner place symbols = do
  choice ← expressions expression_level symbols
  start ← semicolon choice.1
  body ← body_of_do inner start.1
  Ok (CaseStatement place choice.0 body.0, body.1)

-- the rest of a statement, after DO
unfoldable pub do_statement : ExpressionParser
    → Parser StatementTree
    → BlockParser
    → Place
    → Parser StatementKindTree
do_statement expressions inner inside place symbols =
    if at_semicolon symbols then simple_do inside place (drop 1 symbols)
    else (if at_word words.Case symbols then case_do expressions inner place (drop 1 symbols)
    else loop_do expressions inner place symbols)

-- name `;`, after GOTO
unfoldable pub goto : Place → Parser StatementKindTree
goto place symbols = do
  label ← name symbols
  end ← semicolon label.1
  Ok (GotoStatement place label.0, end.1)

-- HALT's semicolon
abbrev pub halt : Place → Parser StatementKindTree
halt place symbols = do
  end ← semicolon symbols
  Ok (HaltStatement place, end.1)

-- a statement without labels, by its beginning
abbrev pub kind_by : ExpressionParser
    → Parser StatementTree
    → BlockParser
    → Beginning
    → Parser StatementKindTree
kind_by expressions inner inside (beginnings.Semicolon place) symbols =
    Ok (NullStatement place, drop 1 symbols)
kind_by expressions inner inside beginnings.Name symbols = assignment expressions symbols
kind_by expressions inner inside (beginnings.Call place) symbols = call expressions place (drop 1 symbols)
kind_by expressions inner inside (beginnings.Return place) symbols =
    return_value expressions place (drop 1 symbols)
kind_by expressions inner inside (beginnings.Halt place) symbols = halt place (drop 1 symbols)
kind_by expressions inner inside (beginnings.Goto place) symbols = goto place (drop 1 symbols)
kind_by expressions inner inside (beginnings.If place) symbols =
    conditional expressions inner place (drop 1 symbols)
kind_by expressions inner inside (beginnings.Do place) symbols =
    do_statement expressions inner inside place (drop 1 symbols)
kind_by expressions inner inside beginnings.Other symbols = Err Unexpected

-- a statement with its labels
abbrev pub statement_by : ExpressionParser → Parser StatementTree → BlockParser → Parser StatementTree
statement_by expressions inner inside symbols =
    labelled (labels_before symbols)
    (kind_by expressions inner inside (beginning_of (after_labels symbols)) (after_labels symbols))

-- a procedure, with this parser of its inside
unfoldable pub procedure : Bool → BlockParser → Parser DeclarationTree
procedure strict inside symbols = do
  head ← heading symbols
  start ← semicolon head.1
  found ← inside start.1
  its_end ← ending strict head.0.name found.1
  Ok (ProcedureTree head.0 found.0.0 found.0.1 its_end.0, its_end.1)

-- element {`,` element} `;`, after DECLARE
unfoldable pub declare : Parser DeclarationTree
declare symbols = do
  found ← items element symbols
  end ← semicolon found.1
  Ok (DeclareTree found.0, end.1)

-- a declaration, with this parser of procedures
unfoldable pub declare_or : Parser DeclarationTree → Parser DeclarationTree
declare_or procedures symbols =
    if at_word words.Declare symbols then declare (drop 1 symbols) else procedures symbols

unfoldable mutual
  -- a statement of no more levels than the room
  pub statement : Bool → ℕ → Parser StatementTree
  statement strict zero symbols = Err TooDeep
  statement strict (suc room) symbols =
      statement_by (expression room) (statement strict room)
      (block (declaration strict room) (statement strict room)) symbols

  -- a declaration of no more levels than the room
  pub declaration : Bool → ℕ → Parser DeclarationTree
  declaration strict zero symbols = declare_or (λ others. Err TooDeep) symbols
  declaration strict (suc room) symbols =
      declare_or (procedure strict (block (declaration strict room) (statement strict room))) symbols

-- the end of the text
abbrev pub at_the_end : {A : Type 0} → A → List Symbol → Result A Cause
at_the_end tree [] = Ok tree
at_the_end tree (symbol ∷ rest) = Err Unexpected

-- a module of its parts
abbrev pub module_of : Identifier → Place → DeclarationTrees × StatementTrees → Option Identifier → ModuleTree
module_of name place inside end_name = record {
  name = name;
  place = place;
  declarations = inside.0;
  statements = inside.1;
  end_name = end_name;
}

-- the name of a module and the place of its DO: name `:` DO `;`
abbrev pub module_head : Parser (Identifier × Place)
module_head symbols = do
  own ← name symbols
  colon ← mark marks.Colon own.1
  its_place ← taken (place_of_word words.Do colon) colon
  start ← semicolon its_place.1
  Ok ((own.0, its_place.0), start.1)

-- END [name] `;`, and nothing after it
abbrev pub module_end : Identifier → List Symbol → Result (Option Identifier) Cause
module_end own symbols = do
  its_end ← ending true own symbols
  at_the_end its_end.0 its_end.1

-- a module whose inside takes no more levels than the room
unfoldable pub whole_module : Bool → ℕ → List Symbol → Result ModuleTree Cause
whole_module strict room symbols = do
  own ← name symbols
  colon ← mark marks.Colon own.1
  its_place ← taken (place_of_word words.Do colon) colon
  start ← semicolon its_place.1
  inside ← block (declaration strict room) (statement strict room) start.1
  its_end ← ending strict own.0 inside.1
  at_the_end (module_of own.0 its_place.0 inside.0 its_end.0) its_end.1
