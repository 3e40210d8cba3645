use Rattle.link_modules.proofs.Prelude.{◌≡◌, ◌++◌, drop, take, fixes_below, fixes_past}
use Rattle.link_modules.proofs.runs.split_below.Given as goal

abbrev pub invariant-loop-fix : goal.invariant-loop-fix
invariant-loop-fix l = record {
  counted : l.count ≡ l.fix-index;
  below : take l.count l.fixes ++ fixes_below l.end (drop l.count l.fixes) ≡ fixes_below l.end l.fixes;
  past : fixes_past l.end (drop l.count l.fixes) ≡ fixes_past l.end l.fixes;
}
