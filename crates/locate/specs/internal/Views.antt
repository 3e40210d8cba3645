-- Walks of the code.
use Rattle.std.specs.Prelude.{option_map}
use Rattle.locate.specs.declared.walk.Carry.{Carry as CodeCarry}
use Rattle.locate.specs.declared.walk.Walk.{Walk as CodeWalk}
use Rattle.locate.specs.internal.Fixing.{Carry, Walk}

abbrev pub carry_view : CodeCarry → Carry
carry_view word = record { first = word.first; gain = word.gain }

abbrev pub walk_view : CodeWalk → Walk
walk_view walk = record {
  offset = walk.offset;
  fixes = walk.fixes.now;
  word = option_map carry_view walk.word;
}
