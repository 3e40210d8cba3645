use Rattle.link_modules.proofs.Prelude.{◌≡◌, ◌++◌, drop, filter_map, length, start_of, fix_kept, AreWithin, kept_by}
use Rattle.link_modules.proofs.growing.add_fixes.Given as goal

abbrev pub invariant-loop-fix : goal.invariant-loop-fix
invariant-loop-fix l = record {
  within : AreWithin l.stretch.offset (length l.stretch.bytes.now) (drop l.fix-index l.own);
  added :
      l.fixes.items
      ++ filter_map (fix_kept (start_of l.resolved.start l.stretch.segment) (kept_by l.resolved))
      (drop l.fix-index l.own)
      ≡ l.initial.fixes.items
      ++ filter_map (fix_kept (start_of l.resolved.start l.stretch.segment) (kept_by l.resolved)) l.own;
}
