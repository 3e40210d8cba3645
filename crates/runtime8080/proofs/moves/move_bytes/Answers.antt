use Rattle.runtime8080.proofs.Added.{fits_move}
use Rattle.runtime8080.proofs.moves.move_bytes.Goals as goal

pub emit_parts-requires : goal.emit_parts-requires
emit_parts-requires c =
    record {
      fits =
          fits_move c.args.code.now c.two_labels.new.code c.in_ok-next.next c.in_ok-next.whole
          c.in_ok-next.ensures.valid c.in_ok-next.ensures.first c.in_ok-next.ensures.second
          c.in_ok-next.ensures.more;
    }
