use Rattle.link_modules.proofs.Prelude.{◌≡◌, drop, Code, Data, all_grown}
use Rattle.link_modules.proofs.contents.add_modules.Given as goal

abbrev pub invariant-loop-one : goal.invariant-loop-one
invariant-loop-one g l = record {
  code :
      all_grown l.publics Code l.code (drop l.one-index l.placed)
      ≡ all_grown l.publics Code l.fn.code l.placed;
  data_bytes :
      all_grown l.publics Data l.data_bytes (drop l.one-index l.placed)
      ≡ all_grown l.publics Data l.fn.data_bytes l.placed;
}
