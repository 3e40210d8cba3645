-- The trees of statements and of procedures, from the parts of the code's trees.
use Rattle.trees.specs.declared.identifier.Place.{Place}
use Rattle.trees.specs.declared.statement.Block.{Block}
use Rattle.trees.specs.declared.statement.DoCase.{DoCase, out-DoCase}
use Rattle.trees.specs.declared.statement.IfThen.{IfThen, out-IfThen}
use Rattle.trees.specs.declared.statement.Loop.{Loop, out-Loop}
use Rattle.trees.specs.declared.statement.Procedure.{Procedure, out-Procedure}
use Rattle.trees.specs.Trees.{StatementKindTree, IfStatement, DoStatement, LoopStatement, CaseStatement, DeclarationTree}
use Rattle.names.specs.Environment.{Here}
use Rattle.names.specs.internal.Events.{Seen, in_turn, see_all, see_block, declares_parameter}
use Rattle.trees.specs.internal.Views.{expression_tree, head_tree, statement_tree, statement_trees, else_tree, block_declarations, block_statements, procedure_tree}

abbrev pub if_tree : IfThen → StatementKindTree
if_tree branch =
    IfStatement (out-IfThen branch).place (expression_tree (out-IfThen branch).condition)
    (statement_tree (out-IfThen branch).body) (else_tree (out-IfThen branch).otherwise)

abbrev pub do_tree : Place → Block → StatementKindTree
do_tree place block = DoStatement place (block_declarations block) (block_statements block)

abbrev pub loop_tree : Loop → StatementKindTree
loop_tree turns =
    LoopStatement (out-Loop turns).place (head_tree (out-Loop turns).head)
    (statement_trees (out-Loop turns).body.items)

abbrev pub case_tree : DoCase → StatementKindTree
case_tree choice =
    CaseStatement (out-DoCase choice).place (expression_tree (out-DoCase choice).choice)
    (statement_trees (out-DoCase choice).body.items)

abbrev pub procedure_parts : Procedure → DeclarationTree
procedure_parts procedure =
    procedure_tree (out-Procedure procedure).heading (out-Procedure procedure).body (out-Procedure procedure).end_name

-- the inside of a procedure
abbrev pub see_body : Procedure → Here → Seen
see_body procedure =
    in_turn (see_all declares_parameter (out-Procedure procedure).heading.parameters.items)
    (see_block (block_declarations (out-Procedure procedure).body) (block_statements (out-Procedure procedure).body))
