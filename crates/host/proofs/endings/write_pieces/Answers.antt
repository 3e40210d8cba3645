use Rattle.host.proofs.{Prelude.{refl}, LinesPrinted.{piece_begun, piece_sent}}
use Rattle.host.proofs.endings.write_pieces.Goals as goal

pub loop-rest-preserved : goal.loop-rest-preserved
loop-rest-preserved g c =
    piece_sent _ _ _ _ _ _ c.loop-rest.rest.now c.in-len1-up.len_at_least refl
    c.loop-rest.invariant c.in-Ok.ensures.ok

pub returns-in-Err : goal.returns-in-Err
returns-in-Err g c =
    piece_begun _ _ _ _ _ _ c.loop-rest.rest.now c.in-len1-up.len_at_least refl c.loop-rest.invariant
    c.in-Err.ensures.err
