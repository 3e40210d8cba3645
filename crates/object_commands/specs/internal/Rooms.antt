-- Room for a jump beside the pieces of a placed module.
use Rattle.std.specs.Prelude.{ℕ, All, Option, None, Some}
use Rattle.mem80.specs.Pieces.{AreApart, EndsInMemory}
use Rattle.locate.specs.Locating.{Absolute}
use Rattle.object_commands.specs.Placing.{jump_piece}

-- a jump ends in memory, and no piece has an address in common with it
abbrev pub LeavesRoom : (jump : Option ℕ) → Absolute → Type 0
LeavesRoom None absolute = Unit {0}
LeavesRoom (Some address) absolute =
    EndsInMemory (jump_piece address absolute.start)
    × All (AreApart (jump_piece address absolute.start)) absolute.pieces
