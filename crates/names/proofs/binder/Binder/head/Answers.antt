use Rattle.names.proofs.BindingWalks.{uses_done, walk_at}
use Rattle.names.proofs.binder.Binder.head.Goals as goal

pub returns : goal.returns
returns c =
    rw (← c.self.view_is)
    (uses_done c.bind_head.result _ (walk_at c.self.inside.scopes c.self.inside.bindings.items)
    c.bind_head.new.bindings.items c.bind_head.ensures)
