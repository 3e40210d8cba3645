use Rattle.link.proofs.Prelude.{map, take, AllZip, Spells}
use Rattle.link.proofs.judge_files.Given as goal

abbrev pub invariant-loop-file : goal.invariant-loop-file
invariant-loop-file l = AllZip Spells (map (λ file. file.now) (take l.file-index l.files)) l.objects.items
