use Rattle.tool.proofs.Prelude.{texts_of, AreWithoutFault}
use Rattle.tool.proofs.CompiledLemmas.{GoesOn}
use Rattle.tool.proofs.compiled.compile_all.Given as goal

-- what is left decides, and the texts so far have no fault
abbrev pub invariant-loop-file : goal.invariant-loop-file
invariant-loop-file l = record {
  made : GoesOn (texts_of l.sources) l.file l.compiled.items;
  read : AreWithoutFault l.file (texts_of l.sources);
}
