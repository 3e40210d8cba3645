-- The values of the numbers in typed trees, as `NumberNode` has them, have the width of a word: none is above 65535.
-- With `IsNumberOf` of the trees that are well typed, by which that of a BYTE is below 256, each is a value of its type.
use Rattle.std.specs.Prelude.{◌<◌, List, All, Option}
use Rattle.typed_trees.specs.TypedTrees.{TypedExpression, NumberNode, TypedReference, Subscript, TypedTarget, TypedArguments, TypedIteration, TypedHead, TypedStatement, TypedElse, TypedStatements, TypedList, TypedProcedure, TypedModule}
use Rattle.typed_trees.specs.Everywhere.{Asked, Nothing, That, Questions, Everywhere, EverywhereInReference, EverywhereInSubscript, EverywhereInTarget, EverywhereInArguments, EverywhereInTargets, EverywhereIfSome, EverywhereInIteration, EverywhereInHead, EverywhereIn, EverywhereInElse, EverywhereInStatements, EverywhereInList}

abbrev pub fits : TypedExpression → Asked
fits (NumberNode scalar value origin) = That (value < 65536)
fits expression = Nothing

-- a number is below 65536
abbrev pub numbers : Questions
numbers = record {
  expression = fits;
  reference = λ reference. Nothing;
  target = λ target. Nothing;
  iteration = λ head. Nothing;
  statement = λ statement. Nothing;
}

-- the numbers in an expression are below 65536
abbrev pub NumbersFit : TypedExpression → Type 0
NumbersFit = Everywhere numbers

abbrev pub NumbersFitInReference : TypedReference → Type 0
NumbersFitInReference = EverywhereInReference numbers

abbrev pub NumbersFitInSubscript : Subscript → Type 0
NumbersFitInSubscript = EverywhereInSubscript numbers

abbrev pub NumbersFitInTarget : TypedTarget → Type 0
NumbersFitInTarget = EverywhereInTarget numbers

abbrev pub NumbersFitInArguments : TypedArguments → Type 0
NumbersFitInArguments = EverywhereInArguments numbers

abbrev pub NumbersFitInTargets : List TypedTarget → Type 0
NumbersFitInTargets = EverywhereInTargets numbers

-- an expression, if there is one
abbrev pub NumbersFitIfSome : Option TypedExpression → Type 0
NumbersFitIfSome = EverywhereIfSome numbers

abbrev pub NumbersFitInIteration : TypedIteration → Type 0
NumbersFitInIteration = EverywhereInIteration numbers

abbrev pub NumbersFitInHead : TypedHead → Type 0
NumbersFitInHead = EverywhereInHead numbers

-- the numbers in a statement are below 65536
abbrev pub NumbersFitIn : TypedStatement → Type 0
NumbersFitIn = EverywhereIn numbers

abbrev pub NumbersFitInElse : TypedElse → Type 0
NumbersFitInElse = EverywhereInElse numbers

abbrev pub NumbersFitInStatements : TypedStatements → Type 0
NumbersFitInStatements = EverywhereInStatements numbers

abbrev pub NumbersFitInList : TypedList → Type 0
NumbersFitInList = EverywhereInList numbers

-- the numbers in the body of a procedure, or of the main program, are below 65536
abbrev pub NumbersFitInProcedure : TypedProcedure → Type 0
NumbersFitInProcedure procedure = NumbersFitInList procedure.body

-- the numbers in the procedures and in the main program of a module are below 65536
pub record NumbersFitInModule (typed : TypedModule) : Type 0 where
  pub procedures : All NumbersFitInProcedure typed.procedures
  pub main : NumbersFitInProcedure typed.main
