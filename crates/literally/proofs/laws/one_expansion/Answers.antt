use Rattle.literally.proofs.Prelude.{[]}
use Rattle.literally.proofs.LawsOneExpansion.{one_whole, not_both}
use Rattle.literally.proofs.LawsTotality.{expands_or_fails}
use Rattle.literally.proofs.laws.one_expansion.Goals as goal

pub returns : goal.returns
returns c words = record {
  some = expands_or_fails words [] 0 (λ name text never. absurd (cc));
  one_expansion = λ one other left right. one_whole left right;
  not_both = λ output fault expands found. not_both found expands;
}
