use Rattle.steps8080.proofs.Prelude.{◌≡◌, ◌-◌, power_from}
use Rattle.steps8080.proofs.sites.widths.power_of_two.Given as goal

abbrev pub invariant-loop-power : goal.invariant-loop-power
invariant-loop-power l = power_from (16 - l.power) l.power l.number ≡ power_from 16 0 l.number
