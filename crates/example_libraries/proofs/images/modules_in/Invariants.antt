use Rattle.example_libraries.proofs.Prelude.{map, take, AllZip, Spells}
use Rattle.example_libraries.proofs.images.modules_in.Given as goal

abbrev pub invariant-loop-file : goal.invariant-loop-file
invariant-loop-file l = AllZip Spells (map (λ file. file.now) (take l.file-index l.files)) l.objects.items
