use Rattle.std.proofs.Common.{◌≡◌, ◌≤◌, ◌+◌, ◌++◌, length}
use Rattle.convert.specs.Lists.{list_text}
use Rattle.convert.specs.Texts.{start_of}
use Rattle.convert.proofs.lists.write_list.Given as goal

abbrev pub invariant-loop-rest : goal.invariant-loop-rest
invariant-loop-rest l = record {
  written :
      l.text.items ++ list_text l.source l.attributes l.value l.number l.values l.place l.end l.depth l.rest
      ≡ l.initial.text.items
      ++ list_text l.source l.attributes l.value 0 l.initial.values (start_of l.words)
      (start_of l.words) 0 l.words;
  counted : l.number + length l.rest ≤ length l.words;
  deep : l.depth + length l.rest ≤ length l.words;
  short : length l.values ≤ 4294967296;
}

abbrev pub decreases-loop-rest : goal.decreases-loop-rest
decreases-loop-rest l = length l.rest
