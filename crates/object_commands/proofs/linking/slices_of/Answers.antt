use Rattle.object_commands.proofs.{Prelude.{arith}, Lists.{item_added}}
use Rattle.object_commands.proofs.linking.slices_of.Goals as goal

pub loop-text-preserved : goal.loop-text-preserved
loop-text-preserved c =
    item_added (λ s. s.now) (λ t. t.items) _ c.loop-text.slices.items _ c.as_slice.result c.args.texts.now
    c.loop-text.text-index c.text-item.result
    c.loop-text.invariant (omega arith) c.text-item.is c.as_slice.ensures.value c.in_ok-push.ensures.items
