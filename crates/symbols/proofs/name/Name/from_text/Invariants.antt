use Rattle.symbols.proofs.Prelude.{◌≡◌, ◌++◌, length, take, name_of}
use Rattle.symbols.proofs.Names.{IsFilled}
use Rattle.symbols.proofs.name.Name.from_text.Given as goal

abbrev pub invariant-loop-character : goal.invariant-loop-character
invariant-loop-character l = record {
  spelled : name_of l.text ≡ take l.count l.bytes ++ name_of l.rest;
  filled : IsFilled l.bytes l.count;
}

abbrev pub decreases-loop-character : goal.decreases-loop-character
decreases-loop-character l = length l.rest
