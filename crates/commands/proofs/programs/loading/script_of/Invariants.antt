use Rattle.commands.proofs.{Prelude.{◌≡◌, [], length}, Inputs.{PutSoFar}}
use Rattle.commands.proofs.programs.loading.script_of.Given as goal

-- nothing was done at the ports yet, and what was put is what comes before the rest of the input
abbrev pub invariant-loop-rest : goal.invariant-loop-rest
invariant-loop-rest l = record {
  events : l.script.events ≡ [];
  failures : l.script.failures ≡ 0;
  put : PutSoFar l.initial.rest l.rest l.script.script;
}

abbrev pub decreases-loop-rest : goal.decreases-loop-rest
decreases-loop-rest l = length l.rest
