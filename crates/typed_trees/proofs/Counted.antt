-- Arguments, counted.
use Rattle.typed_trees.proofs.Prelude.{arith, length, refl, ◌≡◌}
use Rattle.typed_trees.specs.TypedTrees.{MoreArguments, NoArguments, TypedArguments}
use Rattle.typed_trees.specs.Charge.{count_of_arguments}
use Rattle.typed_trees.specs.WellTyped.{types_of}

-- as many types as arguments
pub types_count : (values : TypedArguments) → length (types_of values) ≡ count_of_arguments values
types_count NoArguments = refl
types_count (MoreArguments first others) = let rest = types_count others in omega (arith, rest)
