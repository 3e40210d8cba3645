-- How many statements typed trees have, as marks number them: a statement comes after its parts, and a label is a statement.
-- And what marks have such numbers.
use Rattle.std.specs.Prelude.{◌≡◌, ℕ, ◌+◌, ◌<◌, ◌≤◌, List, [], ◌∷◌, length, IsSomeAnd, slice_get}
use Rattle.std.specs.List.{AllByRecursion}
use Rattle.typed_trees.specs.TypedTrees.{TypedStatement, LabelStatement, NullStatement, AssignmentStatement, CallStatement, MoveStatement, ReturnStatement, HaltStatement, GotoStatement, IfStatement, DoStatement, LoopStatement, CaseStatement, TypedElse, NoElse, ElseStatement, TypedStatements, NoStatements, MoreStatements, TypedList, ListOf, TypedProcedure, TypedModule}
use Rattle.stack_compiler.specs.declared.marking.Marks.{Marks}
use Rattle.stack_compiler.specs.declared.marking.PartMark.{PartMark}
use Rattle.stack_compiler.specs.declared.marking.ProgramMarks.{ProgramMarks}
use Rattle.stack_compiler.specs.declared.marking.StackMark.{StackMark}
use Rattle.stack_compiler.specs.declared.marking.StackPart.{StackPart}
use Rattle.stack_compiler.specs.declared.marking.StackPart.TheVariants.{Main, Procedure, Statement}

abbrev mutual
  -- the statements in a statement, without itself
  pub numbered_parts : TypedStatement → ℕ
  numbered_parts (LabelStatement label) = 0
  numbered_parts NullStatement = 0
  numbered_parts (AssignmentStatement targets value) = 0
  numbered_parts (CallStatement procedure values) = 0
  numbered_parts (MoveStatement count source destination) = 0
  numbered_parts (ReturnStatement value) = 0
  numbered_parts HaltStatement = 0
  numbered_parts (GotoStatement label) = 0
  numbered_parts (IfStatement condition body otherwise) = (numbered_parts body + 1) + numbered_else otherwise
  numbered_parts (DoStatement body) = numbered_list body
  numbered_parts (LoopStatement head body) = numbered_list body
  numbered_parts (CaseStatement choice body) = numbered_statements body

  pub numbered_else : TypedElse → ℕ
  numbered_else NoElse = 0
  numbered_else (ElseStatement statement) = numbered_parts statement + 1

  pub numbered_statements : TypedStatements → ℕ
  numbered_statements NoStatements = 0
  numbered_statements (MoreStatements first others) = (numbered_parts first + 1) + numbered_statements others

  pub numbered_list : TypedList → ℕ
  numbered_list (ListOf first places statements) = numbered_statements statements

-- the statements of a procedure, those of procedures, and those of a module
abbrev pub numbered_body : TypedProcedure → ℕ
numbered_body procedure = numbered_list procedure.body

abbrev pub numbered_bodies : List TypedProcedure → ℕ
numbered_bodies [] = 0
numbered_bodies (first ∷ others) = numbered_body first + numbered_bodies others

abbrev pub numbered_module : TypedModule → ℕ
numbered_module typed = numbered_bodies typed.procedures + numbered_list typed.main.body

-- a part of a module with these counts of procedures and statements
abbrev pub IsPartOf : (procedures statements : ℕ) → StackPart → Type 0
IsPartOf procedures statements Main = Unit {0}
IsPartOf procedures statements (Procedure number) = number < procedures
IsPartOf procedures statements (Statement number) = number < statements

-- each mark is of a part of its module
abbrev pub IsInModule : List TypedModule → StackMark → Type 0
IsInModule modules mark = IsSomeAnd (slice_get modules mark.number_of_module)
    (λ (typed : TypedModule). IsPartOf (length typed.procedures) (numbered_module typed) mark.part)

abbrev pub AreInModules : List TypedModule → List StackMark → Type 0
AreInModules modules marks = AllByRecursion (IsInModule modules) marks

-- Marks of code that grows, of a module with these counts of procedures and statements; a part whose statement is not complete
-- has the number 0. At most `next` statements are complete.
pub record AreNumbered (procedures next statements : ℕ) (marks : Marks) : Type 0 where
  pub complete : marks.statements ≤ next
  pub parts : AllByRecursion (λ (mark : PartMark). IsPartOf procedures statements mark.part) marks.list.items

-- what adds the mark of a part, or none
pub record Takes (part : StackPart) (before after : Marks) : Type 0 where
  pub in_any : (procedures next statements : ℕ) → IsPartOf procedures statements part
      → AreNumbered procedures next statements before → AreNumbered procedures next statements after

-- what changes no mark
pub record Keeps (before after : Marks) : Type 0 where
  pub in_any : (procedures next statements : ℕ)
      → AreNumbered procedures next statements before → AreNumbered procedures next statements after

-- what completes at most `count` statements, while `spare` more of the module are left
pub record NumbersIn (procedures spare count : ℕ) (before after : Marks) : Type 0 where
  pub from : (next statements : ℕ) → (next + count) + spare ≤ statements
      → AreNumbered procedures next statements before → AreNumbered procedures (next + count) statements after

-- in a module with any count of procedures
pub record Numbers (spare count : ℕ) (before after : Marks) : Type 0 where
  pub in_any : (procedures : ℕ) → NumbersIn procedures spare count before after

-- what has been completed of `all` statements, while `left` are left
pub record SoFar (procedures all left : ℕ) (before now : Marks) : Type 0 where
  pub done : ℕ
  pub numbers : NumbersIn procedures 0 done before now
  pub counted : done + left ≡ all

-- the marks of procedures are of parts of modules, and the statements before the main program are those of its module
pub record HaveParts (modules : List TypedModule) (marks : ProgramMarks) : Type 0 where
  pub before : IsSomeAnd (slice_get modules marks.main_module)
      (λ (typed : TypedModule). marks.before_main ≤ numbered_bodies typed.procedures)
  pub parts : AreInModules modules marks.list.items
