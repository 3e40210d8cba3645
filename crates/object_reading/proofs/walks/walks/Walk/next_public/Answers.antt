use Rattle.object_reading.proofs.Prelude.{sym, ap, ◌∙◌, Walking}
use Rattle.object_reading.proofs.NextParts.{publics_then}
use Rattle.object_reading.proofs.walks.walks.Walk.next_public.Goals as goal

pub returns-in-Some-clause-next : goal.returns-in-Some-clause-next
returns-in-Some-clause-next c =
    let cursor = c.publics_from-cursor.result in
    sym (ap (λ (w : Walking). w.publics) c.self.view_is)
    ∙ sym c.publics_from-cursor.ensures.left
    ∙ publics_then cursor.segment c.in-Some.offset cursor.entries.now c.in-Some.name.now c.in-Some.entries.now
    cursor.rest.now c.publics_from-cursor.ensures.entries c.in-Some.ensures
