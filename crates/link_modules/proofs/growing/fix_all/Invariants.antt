use Rattle.link_modules.proofs.Prelude.{◌≡◌, drop, length, bytes_after, AreWithin, gain_by}
use Rattle.link_modules.proofs.growing.fix_all.Given as goal

abbrev pub invariant-loop-fix : goal.invariant-loop-fix
invariant-loop-fix l = record {
  within : AreWithin l.offset (length l.bytes) (drop l.fix-index l.fixes);
  fixed :
      bytes_after (gain_by l.resolved) l.offset (drop l.fix-index l.fixes) l.bytes
      ≡ bytes_after (gain_by l.resolved) l.offset l.fixes l.initial.bytes;
}
