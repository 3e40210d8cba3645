use Rattle.object_reading.proofs.Prelude.{refl}
use Rattle.object_reading.proofs.AtFront.{parts_at_front, no_parts, walks_over}
use Rattle.object_reading.proofs.NextParts.{no_names, no_definitions}
use Rattle.object_reading.proofs.walks.walks.Walk.at_front.Goals as goal

pub invariant_of-result : goal.invariant_of-result
invariant_of-result c =
    let parts = parts_at_front c.args.bytes.now c.args.header.now c.requires in
    record {
      names = no_names;
      after_names = parts;
      definitions = no_definitions;
      after_definitions = parts;
      contents = parts;
      fixes = refl;
      after_fixes = no_parts;
    }

pub returns : goal.returns
returns c = walks_over c.args.bytes.now c.args.header.now c.requires
