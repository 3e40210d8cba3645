-- How many procedures and how many statements a module of the text has, as its typed module numbers them: a label counts as a
-- statement.
use Rattle.std.specs.Prelude.{◌≡◌, ℕ, ◌+◌, List, ◌++◌, length, map, sum_by}
use Rattle.trees.specs.Trees.{StatementTree, LabelledStatement, StatementKindTree, NullStatement, AssignmentStatement, CallStatement, ReturnStatement, HaltStatement, GotoStatement, IfStatement, DoStatement, LoopStatement, CaseStatement, ElseTree, NoElse, ElseStatement, StatementTrees, NoStatements, MoreStatements, ModuleTree}
use Rattle.typing.specs.internal.Untyped.{bodies_in, bodies_in_statements}
use Rattle.sources.specs.declared.lines.LineWalk.{LineWalk}
use Rattle.sources.specs.declared.lines.ProcedureLines.{ProcedureLines}
use Rattle.sources.specs.declared.lines.SourceLines.{SourceLines}
use Rattle.sources.specs.Reading.{IsText}

abbrev mutual
  -- the statements in a statement, and itself with its labels, but not those of procedures that are declared in it
  pub count_of_statement : StatementTree → ℕ
  count_of_statement (LabelledStatement labels kind) = length labels + (count_of_parts kind + 1)

  -- those in a statement without itself
  pub count_of_parts : StatementKindTree → ℕ
  count_of_parts (NullStatement place) = 0
  count_of_parts (AssignmentStatement targets value) = 0
  count_of_parts (CallStatement place name values) = 0
  count_of_parts (ReturnStatement place value) = 0
  count_of_parts (HaltStatement place) = 0
  count_of_parts (GotoStatement place label) = 0
  count_of_parts (IfStatement place condition body otherwise) = count_of_statement body + count_of_else otherwise
  count_of_parts (DoStatement place declared body) = count_of_statements body
  count_of_parts (LoopStatement place head body) = count_of_statements body
  count_of_parts (CaseStatement place choice body) = count_of_statements body

  pub count_of_else : ElseTree → ℕ
  count_of_else NoElse = 0
  count_of_else (ElseStatement statement) = count_of_statement statement

  pub count_of_statements : StatementTrees → ℕ
  count_of_statements NoStatements = 0
  count_of_statements (MoreStatements first others) = count_of_statement first + count_of_statements others

-- the bodies of the procedures of a module, in the order of their headings
abbrev pub bodies_of : ModuleTree → List StatementTrees
bodies_of tree = bodies_in tree.declarations ++ bodies_in_statements tree.statements

-- how many procedures a module has
abbrev pub procedures_in : ModuleTree → ℕ
procedures_in tree = length (bodies_of tree)

-- and how many statements: those of the bodies of its procedures, and those of its main program
abbrev pub statements_in : ModuleTree → ℕ
statements_in tree = sum_by count_of_statements (bodies_of tree) + count_of_statements tree.statements

-- tables of lines have one for each procedure of a module and for each of its statements
pub record HasLineOfEach (tree : ModuleTree) (lines : SourceLines) : Type 0 where
  pub procedures : length lines.procedures.items ≡ procedures_in tree
  pub statements : length lines.statements.items ≡ statements_in tree

-- so do those of the module that a text derives
pub record AreLinesOf (text : List ℕ) (lines : SourceLines) : Type 0 where
  pub tree : ModuleTree
  pub read : IsText text tree
  pub each : HasLineOfEach tree lines

-- how many statements each of some bodies has
abbrev pub counted : List StatementTrees → List ℕ
counted bodies = map count_of_statements bodies

-- how many lines the body of a procedure has, and that of each procedure of a walk
abbrev pub lines_of_body : ProcedureLines → ℕ
lines_of_body procedure = length procedure.statements.items

abbrev pub counts_of : LineWalk → List ℕ
counts_of walk = map lines_of_body walk.procedures.items
