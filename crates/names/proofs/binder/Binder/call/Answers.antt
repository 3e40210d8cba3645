use Rattle.names.proofs.BindingWalks.{uses_done, walk_at}
use Rattle.names.proofs.binder.Binder.call.Goals as goal

pub returns : goal.returns
returns c =
    rw (← c.self.view_is)
    (uses_done c.bind_call.result _ (walk_at c.self.inside.scopes c.self.inside.bindings.items)
    c.bind_call.new.bindings.items c.bind_call.ensures)
