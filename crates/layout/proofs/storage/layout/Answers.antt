-- The storage, by what was found of the sizes and of the slots.
use Rattle.layout.proofs.Prelude.{module_view}
use Rattle.layout.proofs.Slots.{storage_found}
use Rattle.layout.proofs.storage.layout.Goals as goal

pub returns-clause-ok : goal.returns-clause-ok
returns-clause-ok c =
    storage_found (module_view c.args.typed.now) c.in_ok-offsets.offsets c.in_ok-objects.objects.items
    c.in_ok-lists.lists.items c.data_size-data_size.result c.constant_size-constant_size.result
    c.data_size-data_size.ensures c.if-data_size-gt-SEGMENT_LIMIT.false c.if-not-constants_fit.ensures
    c.constant_size-constant_size.ensures c.in_ok-offsets.ensures.ok c.in_ok-objects.ensures.ok
    c.in_ok-lists.ensures.ok
