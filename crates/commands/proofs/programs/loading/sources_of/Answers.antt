use Rattle.commands.proofs.Prelude.{arith, item_added}
use Rattle.commands.proofs.programs.loading.sources_of.Goals as goal

pub loop-text-preserved : goal.loop-text-preserved
loop-text-preserved c =
    item_added (λ s. s.text.now) (λ t. t.items) _ c.loop-text.sources.items _ _ c.args.texts.now c.loop-text.text-index c.text-item.result
    c.loop-text.invariant (omega arith) c.text-item.is c.as_slice.ensures.value c.in_ok-push.ensures.items
