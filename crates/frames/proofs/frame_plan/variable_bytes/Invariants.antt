use Rattle.frames.proofs.Prelude.{◌≡◌, ◌+◌, ◌≤◌, drop, variable_bytes, capped}
use Rattle.frames.proofs.frame_plan.variable_bytes.Given as goal

abbrev pub invariant-loop-variable : goal.invariant-loop-variable
invariant-loop-variable l = record {
  summed :
      capped (l.bytes + variable_bytes (drop l.variable-index l.frame)) ≡ capped (variable_bytes l.frame);
  small : l.bytes ≤ 65535;
}
