use Rattle.object_reading.proofs.Prelude.{sym, ap, ◌∙◌, Walking}
use Rattle.object_reading.proofs.NextParts.{names_then}
use Rattle.object_reading.proofs.walks.walks.Walk.next_external.Goals as goal

pub returns-in-Some-clause-next : goal.returns-in-Some-clause-next
returns-in-Some-clause-next c =
    let cursor = c.names_from-cursor.result in
    sym (ap (λ (w : Walking). w.externals) c.self.view_is)
    ∙ sym c.names_from-cursor.ensures.left
    ∙ names_then cursor.entries.now c.in-Some.name.now c.in-Some.entries.now cursor.rest.now
    c.names_from-cursor.ensures.entries (sym c.in-Some.ensures)
