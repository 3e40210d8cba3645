use Rattle.names.proofs.Prelude.{refl, rules, Walk}
use Rattle.names.proofs.Loops.{hands_on}
use Rattle.names.proofs.BindingWalks.{item_refused, item_done, walk_at}
use Rattle.names.proofs.binder.Binder.item.Goals as goal

pub returns : goal.returns
returns c =
    let before : Walk = walk_at c.self.inside.scopes c.self.inside.bindings.items in
    let other : Walk = walk_at c.self.inside.scopes c.bind_item-used.new.bindings.items in
    rw (← c.self.view_is)
    (item_done _ _ before other refl c.bind_item-used.result c.subject.new.self c.in_ok-subject.ensures
    c.bind_item-used.ensures)

pub returns-in_err-subject : goal.returns-in_err-subject
returns-in_err-subject c =
    let before : Walk = walk_at c.self.inside.scopes c.self.inside.bindings.items in
    let other : Walk = walk_at c.self.inside.scopes c.bind_item-used.new.bindings.items in
    hands_on c.from_residual.result c.in_err-subject.field-0.0 c.subject.new.self _ (search rules)
    (rw (← c.self.view_is) (item_refused _ _ before other refl _ c.in_err-subject.ensures))
