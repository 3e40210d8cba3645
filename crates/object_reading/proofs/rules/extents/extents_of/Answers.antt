use Rattle.object_reading.proofs.Prelude.{rules, ◌≡◌, ◌&&◌, slice_index_or, ◌∙◌, is_served, entry_at}
use Rattle.object_reading.proofs.HeaderLaws.{entry_step}
use Rattle.object_reading.proofs.rules.extents.extents_of.Goals as goal
use Rattle.object_reading.proofs.rules.extents.extents_of.Goals.{then-served, else-served}

pub loop-rest-preserved : goal.loop-rest-preserved
loop-rest-preserved c =
    let still : c.if-served.served
    ≡ (c.loop-rest.served
    && is_served
    (entry_at c.in-Some.segment c.word-length.result (slice_index_or c.loop-rest.rest.now 3 0))) =
    elim c.if-served.branch [ then-served w ↦ search rules | else-served w ↦ search rules ] in
    entry_step c.loop-rest.number c.number_of-next.result c.word-length.result c.loop-rest.extents
    c.extents_with-extents.result c.loop-rest.served c.if-served.served c.in-Some.segment c.loop-rest.rest.now
    c.in-len4-up.len_at_least c.in-Some.ensures c.number_of-next.ensures c.if-next-number.false
    c.word-length.ensures
    still c.extents_with-extents.ensures
    ∙ c.loop-rest.invariant
