use Rattle.link.proofs.Prelude.{◌≡◌, length, Code, Data, AllFitAt, grown_in}
use Rattle.link.proofs.contents.add_contents.Given as goal

abbrev pub invariant-loop-content : goal.invariant-loop-content
invariant-loop-content l = record {
  code_fits : AllFitAt l.resolved Code l.walk.contents;
  data_fits : AllFitAt l.resolved Data l.walk.contents;
  code : grown_in l.resolved Code l.code l.walk.contents
      ≡ grown_in l.resolved Code l.fn.code l.fn.walk.contents;
  data_bytes :
      grown_in l.resolved Data l.data_bytes l.walk.contents
      ≡ grown_in l.resolved Data l.fn.data_bytes l.fn.walk.contents;
}

abbrev pub decreases-loop-content : goal.decreases-loop-content
decreases-loop-content l = length l.walk.contents
