use Rattle.objmod.proofs.ReadParts.{are_kept, module_told}
use Rattle.objmod.proofs.reading.module_of_walk.Goals as goal

pub from_parts-requires : goal.from_parts-requires
from_parts-requires c =
    are_kept c.args.walk.now c.in_ok-parts.parts c.requires.object c.requires.contents c.in_ok-parts.ensures

pub returns : goal.returns
returns c =
    module_told c.args.walk.now c.in_ok-parts.parts c.from_parts.result c.requires.contents
    c.in_ok-parts.ensures
    c.from_parts.ensures
