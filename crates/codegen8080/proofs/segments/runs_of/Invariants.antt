use Rattle.codegen8080.proofs.Prelude.{◌≡◌, ◌≤◌, take, runs_from, set_bytes}
use Rattle.codegen8080.proofs.KeptSegments.{IsStretch}
use Rattle.codegen8080.proofs.segments.runs_of.Given as goal

abbrev pub invariant-loop-index : goal.invariant-loop-index
invariant-loop-index l = record {
  order : l.start ≤ l.index;
  before : l.runs.items ≡ runs_from 0 (take l.start (set_bytes l.bytes l.is_set));
  stretch : IsStretch l.bytes l.is_set l.start l.index;
}
