use Rattle.objmod.proofs.Prelude.{◌≡◌, length, Code, Data, kept_in}
use Rattle.objmod.proofs.parts.read_contents.Given as goal

abbrev pub invariant-loop-content : goal.invariant-loop-content
invariant-loop-content l = record {
  code : kept_in Code l.code l.walk.contents ≡ kept_in Code l.fn.code l.fn.walk.contents;
  data_bytes : kept_in Data l.data_bytes l.walk.contents ≡ kept_in Data l.fn.data_bytes l.fn.walk.contents;
}

abbrev pub decreases-loop-content : goal.decreases-loop-content
decreases-loop-content l = length l.walk.contents
