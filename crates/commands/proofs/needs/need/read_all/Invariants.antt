use Rattle.commands.proofs.{Prelude.{map, module_view, texts_of}, NeedLemmas.{AreRead, GoesOn}}
use Rattle.commands.proofs.needs.need.read_all.Given as goal

-- what is left decides, and the texts so far were read
abbrev pub invariant-loop-file : goal.invariant-loop-file
invariant-loop-file l = record {
  made : GoesOn (texts_of l.sources) l.file (map module_view l.modules.items);
  read : AreRead (texts_of l.sources) l.file;
}
