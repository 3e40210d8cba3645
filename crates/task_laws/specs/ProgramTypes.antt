-- The conditions on a program under which its values are of their types.
use Rattle.std.specs.Prelude.{All}
use Rattle.typed_trees.specs.Globals.{ListsGlobals}
use Rattle.typed_trees.specs.WellTyped.{IsWellTyped}
use Rattle.typed_trees.specs.Numbers.{NumbersFitInModule}
use Rattle.layout.specs.Joined.{IsJoined}
use Rattle.ports.specs.Input.{IsScript}
use Rattle.meaning.specs.Outcomes.{Program}

-- Its modules make a program, all list what they share with other modules and are well typed, their numbers
-- have 16 bits, and the script of the ports consists of bytes.
pub record HasTypes (program : Program) : Type 0 where
  pub joined : IsJoined program.modules
  pub globals : All ListsGlobals program.modules
  pub types : All IsWellTyped program.modules
  pub numbers : All NumbersFitInModule program.modules
  pub script : IsScript program.script
