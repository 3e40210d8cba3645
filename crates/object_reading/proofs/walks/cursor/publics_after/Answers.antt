use Rattle.object_reading.proofs.Prelude.{ap, ◌∙◌, publics_where, is_publics}
use Rattle.object_reading.proofs.NextParts.{publics_entries}
use Rattle.object_reading.proofs.walks.cursor.publics_after.Goals as goal

pub returns-in-Some-clause-entries : goal.returns-in-Some-clause-entries
returns-in-Some-clause-entries c =
    let known = c.in-Some.ensures in
    publics_entries c.publics_of-segment.result.0 c.args.rest.now
    c.publics_of-segment.result.1.now c.in-Some.read.kind
    c.requires known.no_fault known.of_type
    (c.publics_of-segment.ensures ∙ ap (publics_where (is_publics c.in-Some.read.kind)) known.body)
