-- The trees of expressions, references and arguments whose levels are known.
use Rattle.std.specs.Prelude.{◌≡◌, List, map, Result, IfOk}
use Rattle.trees.specs.Trees.{ExpressionTree, ReferenceTree, ArgumentTrees}
use Rattle.trees.specs.internal.Views.{expression_tree, reference_tree, argument_trees}
use Rattle.syntax.specs.declared.measured.Measured.{Measured}
use Rattle.syntax.specs.declared.measured.MeasuredArguments.{MeasuredArguments}
use Rattle.syntax.specs.declared.measured.MeasuredReference.{MeasuredReference}

abbrev pub measured_tree : Measured → ExpressionTree
measured_tree found = expression_tree found.expression

abbrev pub measured_reference : MeasuredReference → ReferenceTree
measured_reference found = reference_tree found.reference

abbrev pub measured_arguments : MeasuredArguments → ArgumentTrees
measured_arguments found = argument_trees found.items.items

-- the trees of the arguments, one by one
abbrev pub measured_items : MeasuredArguments → List ExpressionTree
measured_items found = map expression_tree found.items.items

-- if memory did not run out, an expression or a reference with this tree was made
abbrev pub MakesMeasured : {E : Type 0} → Result Measured E → ExpressionTree → Type 0
MakesMeasured result tree = IfOk result (λ made. measured_tree made ≡ tree)

abbrev pub MakesReference : {E : Type 0} → Result MeasuredReference E → ReferenceTree → Type 0
MakesReference result tree = IfOk result (λ made. measured_reference made ≡ tree)
