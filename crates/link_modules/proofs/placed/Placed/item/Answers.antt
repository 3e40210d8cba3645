use Rattle.link_modules.proofs.Prelude.{◌+◌, ◌≤◌, length, subst, Linked}
use Rattle.link_modules.proofs.placed.Placed.item.Goals as goal

pub returns-clause-code : goal.returns-clause-code
returns-clause-code g c =
    subst
    (λ (one : Linked). (one.start).code + length (g.L.Linkable.told c.self.inside.item.now).code.places
    ≤ 65535)
    c.self.view_is c.self.invariant.code

pub returns-clause-data_bytes : goal.returns-clause-data_bytes
returns-clause-data_bytes g c =
    subst
    (λ (one : Linked).
    (one.start).data_start + length (g.L.Linkable.told c.self.inside.item.now).data_places.places ≤ 65535)
    c.self.view_is c.self.invariant.data_bytes
