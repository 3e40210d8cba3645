-- The stack charge of a call of a procedure of tree code.
use Rattle.std.specs.Prelude.{◌≡◌, ℕ, ◌+◌, ◌*◌, length, min}
use Rattle.typed_trees.specs.Charge.{height_of_list}
use Rattle.typed_trees.specs.TypedTrees.{TypedProcedure}
use Rattle.treecode.specs.declared.procedure.TreeProcedure.{TreeProcedure}

-- the charge, from the fields of a procedure of tree code
abbrev pub charge_in : TreeProcedure → ℕ
charge_in procedure =
    10 + 2 * length procedure.parameters.items + procedure.frame_bytes + 2 * procedure.height

-- It has as many parameters and bytes of variables as a typed procedure, and its height, which tree code
-- keeps in 16 bits.
pub record IsChargedAs (procedure : TreeProcedure) (typed : TypedProcedure) : Type 0 where
  pub parameters : length procedure.parameters.items ≡ length typed.parameters
  pub frame_bytes : procedure.frame_bytes ≡ typed.frame_bytes
  pub height : procedure.height ≡ min (height_of_list typed.body) 65535
