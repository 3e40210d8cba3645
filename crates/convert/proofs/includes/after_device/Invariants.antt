use Rattle.std.proofs.Common.{◌≡◌, length}
use Rattle.convert.specs.Includes.{after_device}
use Rattle.convert.proofs.includes.after_device.Given as goal

abbrev pub invariant-loop-rest : goal.invariant-loop-rest
invariant-loop-rest l = after_device l.name l.rest ≡ after_device l.argument l.argument

abbrev pub decreases-loop-rest : goal.decreases-loop-rest
decreases-loop-rest l = length l.rest
