use Rattle.runtime8080.proofs.Added.{fits_shift_left_byte}
use Rattle.runtime8080.proofs.emission.shift_left_byte.Goals as goal

pub emit_parts-requires : goal.emit_parts-requires
emit_parts-requires c =
    record {
      fits =
          fits_shift_left_byte c.args.code.now c.label.new.self c.in_ok-few.few c.in_ok-few.ensures.valid
          c.in_ok-few.ensures.ok c.in_ok-few.ensures.more;
    }
