use Rattle.explaining.proofs.Looked.{one_more}
use Rattle.explaining.proofs.explanation.look_for_all.Goals as goal

pub loop-rest-preserved : goal.loop-rest-preserved
loop-rest-preserved g c =
    one_more _ c.loop-rest.rest.now _ _ _ _ _ _ c.in-len1-up.len_at_least c.loop-rest.invariant
    c.look_for.ensures.kept c.look_for.ensures.most c.look_for.ensures.least
