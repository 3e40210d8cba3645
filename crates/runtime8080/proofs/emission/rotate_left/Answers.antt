use Rattle.runtime8080.proofs.Added.{fits_rotate_left}
use Rattle.runtime8080.proofs.emission.rotate_left.Goals as goal

pub emit_parts-requires : goal.emit_parts-requires
emit_parts-requires c =
    record {
      fits =
          fits_rotate_left c.args.code.now c.label.new.self c.in_ok-turn.turn c.in_ok-turn.ensures.valid
          c.in_ok-turn.ensures.ok c.in_ok-turn.ensures.more;
    }
