-- The lines that tell why files have no merge.
use Rattle.std.specs.Prelude.{ℕ, List}
use Rattle.host.specs.Refusals.{output_line, refusal_line}
use Rattle.link.specs.declared.StreamFault.{StreamFault}
use Rattle.link.specs.declared.StreamFault.TheVariants as stream
use Rattle.link.specs.Faults.{refusal_of}
use Rattle.object_modules.specs.Merge.{LinkRefusal, link_number}
use Rattle.object_modules.specs.Numbers.{number_of}
use Rattle.object_commands.specs.Merging.{file_at, name_told}

-- the line of a refusal of a merge
abbrev pub refused_line : LinkRefusal → List ℕ
refused_line refusal = refusal_line (link_number refusal) (name_told refusal) 0

-- the line of a fault of files of these names
abbrev pub merge_line : (names : List (List ℕ)) → StreamFault → List ℕ
merge_line names (stream.Object file fault) = refusal_line (number_of fault) (file_at names file) 0
merge_line names (stream.Link fault) = refused_line (refusal_of fault)
merge_line names stream.Write = output_line
