-- The bytes that the code of expressions, statements and bodies pushes at most, by their heights and charges.
use Rattle.std.specs.Prelude.{◌≡◌, ℕ, ◌+◌, ◌-◌, ◌*◌, Bool, List, ◌++◌, Option, Some, slice_get}
use Rattle.trees.specs.declared.declaration.ScalarType.{ScalarType}
use Rattle.typed_trees.specs.Charge.{charge_of, count_of_arguments, height_of, height_of_arguments, height_of_list, height_of_reference, height_of_statement, height_of_target}
use Rattle.typed_trees.specs.TypedTrees.{TypedArguments, TypedExpression, TypedList, TypedModule, TypedProcedure, TypedReference, TypedStatement, TypedTarget}
use Rattle.typed_trees.specs.WellTyped.{Takes, TypesHold, TypesHoldIn, TypesHoldInArguments, TypesHoldInList, TypesHoldInReference, TypesHoldInTarget, Within}
use Rattle.layout.specs.Storage.{Storage}
use Rattle.asm8080.specs.declared.item.Item.{Item}
use Rattle.treecode.specs.declared.lists.Range.{Range}
use Rattle.treecode.specs.declared.module.TreeModule.{TreeModule}
use Rattle.treecode.specs.declared.procedure.TreeProcedure.{TreeProcedure}
use Rattle.treecode.specs.declared.statement.StatementNumber.{StatementNumber}
use Rattle.treecode.specs.internal.Lowered.{AreArguments, IsExpression, IsList, IsReference, IsStatement, IsTarget}
use Rattle.treecode.specs.internal.Nodes.{nodes_of}
use Rattle.frames.specs.internal.Calls.{call_bytes}
use Rattle.steps8080.specs.declared.step.Task.{Task}
use Rattle.steps8080.specs.declared.step.Task.TheVariants as tasks
use Rattle.statements8080.specs.declared.body.Body.{Body}
use Rattle.codegen8080.specs.internal.Modules.{IsMainCode, IsProcedureCode}
use Rattle.measure_laws.specs.internal.Heights.{PushesAtMost}

-- the setting of a part of a body: its typed module, the storage of that module, and the procedure
pub record Setting : Type 0 where
  pub typed : TypedModule
  pub storage : Storage
  pub within : Within

-- the code of the expression with this number: two bytes for each level of its height
abbrev pub ExpressionPushes : TreeModule → Setting → (number : ℕ) → List Item → Type 0
ExpressionPushes tree setting number list =
    (bound : ℕ) (expression : TypedExpression)
    → IsExpression (nodes_of tree) setting.storage bound number expression
    → TypesHold setting.typed setting.within expression
    → PushesAtMost tree (2 * height_of expression) list

-- the code of a task, whichever tree it is for; a store may push its value too
abbrev pub TaskPushes : TreeModule → Setting → Task → List Item → Type 0
TaskPushes tree setting (tasks.Byte number) list = ExpressionPushes tree setting number.index list
TaskPushes tree setting (tasks.Word number) list = ExpressionPushes tree setting number.index list
TaskPushes tree setting (tasks.Effects number) list = ExpressionPushes tree setting number.index list
TaskPushes tree setting (tasks.Branch condition label sense) list =
    ExpressionPushes tree setting condition.index list
TaskPushes tree setting (tasks.Address reference) list =
    (bound : ℕ) (part : TypedReference)
    → IsReference (nodes_of tree) setting.storage bound reference part
    → TypesHoldInReference setting.typed setting.within part
    → PushesAtMost tree (2 * height_of_reference part) list
TaskPushes tree setting (tasks.Store target is_wanted) list =
    (bound : ℕ) (scalar : ScalarType) (to : TypedTarget)
    → IsTarget (nodes_of tree) setting.storage bound target to
    → TypesHoldInTarget setting.typed setting.within scalar to
    → PushesAtMost tree (2 + 2 * height_of_target to) list
TaskPushes tree setting (tasks.Call procedure arguments) list =
    (bound : ℕ) (result : Option ScalarType) (trees : TypedArguments)
    → AreArguments (nodes_of tree) setting.storage bound arguments.first arguments.count trees
    → Takes setting.typed procedure result trees
    → TypesHoldInArguments setting.typed setting.within trees
    → PushesAtMost tree (2 * (1 + count_of_arguments trees + height_of_arguments trees)) list

-- the code of a statement, and of a list of statements: two bytes for each level of its height, and two more
abbrev pub StatementPushes : Body → Setting → StatementNumber → List Item → Type 0
StatementPushes body setting number list =
    (labels : List ℕ) (bound : ℕ) (statement : TypedStatement)
    → IsStatement (nodes_of body.tree.now) setting.storage labels bound number.index statement
    → TypesHoldIn setting.typed setting.within statement
    → PushesAtMost body.tree.now (2 + 2 * height_of_statement statement) list

abbrev pub ListPushes : Body → Setting → Range → List Item → Type 0
ListPushes body setting range list =
    (labels : List ℕ) (bound : ℕ) (statements : TypedList)
    → IsList (nodes_of body.tree.now) setting.storage labels bound range statements
    → TypesHoldInList setting.typed setting.within statements
    → PushesAtMost body.tree.now (2 + 2 * height_of_list statements) list

-- The code of each body of a module pushes at most the charge of its procedure minus what the call has on the
-- stack then. That is at most the return address, a word for each parameter, and the variables of a frame.
-- The main program has none of these. The entry of a procedure is not counted.
pub record PushesWithinCharges (typed : TypedModule) (tree : TreeModule) : Type 0 where
  pub procedures :
      (called : List Bool) (number : ℕ) (procedure : TreeProcedure) (heading : TypedProcedure)
      (list : List Item)
      → slice_get tree.procedures.items number ≡ Some procedure
      → slice_get typed.procedures number ≡ Some heading
      → (code : IsProcedureCode tree called number procedure list)
      → PushesAtMost tree (charge_of heading - call_bytes heading) (code.statements ++ code.ending)
  pub main :
      (called : List Bool) (start : ℕ) (list : List Item)
      → (code : IsMainCode tree called start list)
      → PushesAtMost tree (charge_of typed.main) code.statements
