-- The weight of tree code, counted on its nodes, and the greatest size of its code segment.
use Rattle.std.specs.Prelude.{ℕ, zero, suc, ◌+◌, ◌*◌, List, drop, length, slice_get, sum_by, take}
use Rattle.std.specs.Option.{option_map_or}
use Rattle.typed_trees.specs.declared.limits.TheConstants.{CODE_BYTES, CODE_BYTES_FOR_WEIGHT}
use Rattle.typed_trees.specs.Weight.{weight_of_storing}
use Rattle.treecode.specs.declared.expression.ExpressionNumber.{ExpressionNumber}
use Rattle.treecode.specs.declared.lists.Range.{Range}
use Rattle.treecode.specs.declared.module.Content.{Content}
use Rattle.treecode.specs.declared.module.Content.TheVariants as contents
use Rattle.treecode.specs.declared.module.TreeModule.{TreeModule}
use Rattle.treecode.specs.declared.procedure.TreeProcedure.{TreeProcedure}
use Rattle.treecode.specs.declared.reference.Target.{Target}
use Rattle.treecode.specs.declared.statement.Iteration.{Iteration}
use Rattle.treecode.specs.declared.statement.LoopHead.{LoopHead}
use Rattle.treecode.specs.declared.statement.Statement.{Statement}
use Rattle.treecode.specs.declared.statement.Statement.TheVariants as statements
use Rattle.treecode.specs.declared.statement.StatementNumber.{StatementNumber}
use Rattle.treecode.specs.internal.Lowered.{for_head}
use Rattle.treecode.specs.internal.Nodes.{Nodes, nodes_of}
use Rattle.treecode.specs.internal.Traits.{traits_at}
use Rattle.measure_laws.specs.internal.Weights.{beside_at, weight_in_target, weight_of_given}

-- an expression: each of its nodes weighs 1, and INPUT 2
abbrev pub weight_of_expression : Nodes → ExpressionNumber → ℕ
weight_of_expression nodes number = 1 + beside_at nodes number.index

abbrev pub weight_of_arguments : Nodes → Range → ℕ
weight_of_arguments nodes arguments =
    weight_of_given (beside_at nodes) nodes.arguments arguments.first arguments.count

-- a target weighs 1, its subscripts, and 1 more if it converts
abbrev pub weight_of_target : Nodes → Target → ℕ
weight_of_target nodes target = 1 + weight_in_target (beside_at nodes) target

-- the entries of a range of a table
abbrev pub weight_of_entries : {A : Type 0} → (weight : A → ℕ) → List A → Range → ℕ
weight_of_entries weight table range = sum_by weight (take range.count (drop range.first table))

-- the variable of an iterative DO is a target of the first value
abbrev pub weight_of_iteration : Nodes → Iteration → ℕ
weight_of_iteration nodes head =
    1 + weight_of_storing (traits_at nodes head.first).scalar head.scalar
    + weight_of_expression nodes head.first + weight_of_expression nodes head.last
    + option_map_or (weight_of_expression nodes) head.step 0

-- the head of a loop
abbrev pub weight_of_head : Nodes → LoopHead → ℕ
weight_of_head nodes head = for_head (weight_of_expression nodes) (weight_of_iteration nodes) head

-- the statements of a list, from the weights of statements by number
abbrev pub weight_of_range : (weight : ℕ → ℕ) → Nodes → Range → ℕ
weight_of_range weight nodes range =
    weight_of_entries (λ (number : StatementNumber). weight number.index) nodes.lists range

-- each statement except a label weighs 1 and the weight of its parts
abbrev pub weight_of_statement : (weight : ℕ → ℕ) → Nodes → Statement → ℕ
weight_of_statement weight nodes (statements.Label label) = 0
weight_of_statement weight nodes statements.Null = 1
weight_of_statement weight nodes (statements.Assignment targets value) =
    1 + weight_of_entries (weight_of_target nodes) nodes.targets targets + weight_of_expression nodes value
weight_of_statement weight nodes (statements.Call procedure arguments) =
    1 + weight_of_arguments nodes arguments
weight_of_statement weight nodes (statements.Move count source destination) =
    1 + weight_of_expression nodes count + weight_of_expression nodes source
    + weight_of_expression nodes destination
weight_of_statement weight nodes (statements.Return value) =
    1 + option_map_or (weight_of_expression nodes) value 0
weight_of_statement weight nodes statements.Halt = 1
weight_of_statement weight nodes (statements.Goto label) = 1
weight_of_statement weight nodes (statements.If condition body otherwise) =
    1 + weight_of_expression nodes condition + weight body.index
    + option_map_or (λ (number : StatementNumber). weight number.index) otherwise 0
weight_of_statement weight nodes (statements.Do body) = 1 + weight_of_range weight nodes body
weight_of_statement weight nodes (statements.Loop head body) =
    1 + weight_of_head nodes head + weight_of_range weight nodes body
weight_of_statement weight nodes (statements.Case choice body) =
    1 + weight_of_expression nodes choice + weight_of_range weight nodes body

-- the statement with this number, with each part at a lower number and at most `levels` levels
abbrev pub weight_within : Nodes → (levels number : ℕ) → ℕ
weight_within nodes zero number = 0
weight_within nodes (suc levels) number =
    option_map_or (weight_of_statement (weight_within nodes levels) nodes)
    (slice_get nodes.statements number) 0

-- The statements of a body: there are at most as many levels as statements.
abbrev pub weight_of_body : Nodes → Range → ℕ
weight_of_body nodes body = weight_of_range (weight_within nodes (length nodes.statements)) nodes body

-- a procedure weighs 1, and each of its parameters 1
abbrev pub weight_of_procedure : Nodes → TreeProcedure → ℕ
weight_of_procedure nodes procedure =
    1 + length procedure.parameters.items + weight_of_body nodes procedure.body

-- the main program does not count as a procedure
unfoldable pub weight_of_tree : TreeModule → ℕ
weight_of_tree tree =
    sum_by (weight_of_procedure (nodes_of tree)) tree.procedures.items
    + weight_of_body (nodes_of tree) tree.main.body

-- the size of the constants in bytes
abbrev pub size_of_content : Content → ℕ
size_of_content (contents.Byte value) = 1
size_of_content (contents.Word place) = 2
size_of_content (contents.Gap count) = count

abbrev pub size_of_contents : List Content → ℕ
size_of_contents list = sum_by size_of_content list

-- the greatest number of bytes that the code segment may need
unfoldable pub bound_of_tree : TreeModule → ℕ
bound_of_tree tree =
    size_of_contents tree.constants.items + CODE_BYTES + CODE_BYTES_FOR_WEIGHT * weight_of_tree tree
