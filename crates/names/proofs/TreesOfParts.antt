-- The trees of statements and of procedures, from the parts of the code's trees.
use Rattle.names.proofs.Prelude.{◌≡◌, arith, Place, Block, Block', blocks, DoCase, DoCase', cases, IfThen, IfThen', ifs, Loop, Loop', loops, Procedure, Procedure', procedures, kind_tree, declaration_tree, statement_rows_are, declaration_rows_are}
use Rattle.trees.specs.declared.statement.Declaration.TheVariants as declarations
use Rattle.trees.specs.declared.statement.IfThen.{None', Some'}
use Rattle.trees.specs.declared.statement.StatementKind.TheVariants as kinds
use Rattle.names.specs.internal.TreesOfParts.{if_tree, do_tree, loop_tree, case_tree, procedure_parts}

pub if_tree_is : (p : _) (branch : IfThen) → kind_tree (kinds.If' p branch) ≡ if_tree branch
if_tree_is p (IfThen' place condition labels kind None') = grind (arith, ifs)
if_tree_is p (IfThen' place condition labels kind (Some' others other)) = grind (arith, ifs)

pub do_tree_is : (place : Place) (p : _) (block : Block)
    → kind_tree (kinds.Do' place p block) ≡ do_tree place block
do_tree_is place p (Block' n declared m body) =
    grind (arith, blocks, statement_rows_are, declaration_rows_are)

pub loop_tree_is : (p : _) (turns : Loop) → kind_tree (kinds.Loop' p turns) ≡ loop_tree turns
loop_tree_is p (Loop' place head n body) = grind (arith, loops, statement_rows_are)

pub case_tree_is : (p : _) (choice : DoCase) → kind_tree (kinds.Case' p choice) ≡ case_tree choice
case_tree_is p (DoCase' place choice n body) = grind (arith, cases, statement_rows_are)

pub procedure_is : (p : _) (procedure : Procedure)
    → declaration_tree (declarations.Procedure' p procedure) ≡ procedure_parts procedure
procedure_is p (Procedure' heading (Block' n declared m body) end_name) = grind (arith, procedures, blocks, statement_rows_are, declaration_rows_are)
