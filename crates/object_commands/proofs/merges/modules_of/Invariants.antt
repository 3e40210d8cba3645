use Rattle.object_commands.proofs.Prelude.{AllZip, map, take, Spells}
use Rattle.object_commands.proofs.merges.modules_of.Given as goal

abbrev pub invariant-loop-file : goal.invariant-loop-file
invariant-loop-file l = AllZip Spells (map (λ file. file.now) (take l.file-index l.files)) l.modules.items
