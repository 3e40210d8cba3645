-- The stack that a call of a procedure takes, in terms of the typed module.
use Rattle.std.specs.Prelude.{ℕ, ◌+◌, ◌*◌, length}
use Rattle.typed_trees.specs.TypedTrees.{TypedProcedure}

-- the bytes that a call of a procedure takes: the return address, a word for each parameter, and the variables
abbrev pub call_bytes : TypedProcedure → ℕ
call_bytes heading = 2 + 2 * length heading.parameters + heading.frame_bytes
