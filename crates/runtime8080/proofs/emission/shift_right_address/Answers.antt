use Rattle.runtime8080.proofs.Prelude.{on_ok_weaker}
use Rattle.runtime8080.proofs.Added.{done_shift_right_address, fits_shift_right_address}
use Rattle.runtime8080.proofs.emission.shift_right_address.Goals as goal

pub emit_parts-requires : goal.emit_parts-requires
emit_parts-requires c =
    record {
      fits =
          fits_shift_right_address c.args.code.now c.eight_labels.new.code
          c.in_ok-start.start c.in_ok-start.one
          c.in_ok-start.two c.in_ok-start.three c.in_ok-start.four c.in_ok-start.five c.in_ok-start.six
          c.in_ok-start.seven c.in_ok-start.ensures.valid c.in_ok-start.ensures.first
          c.in_ok-start.ensures.second
          c.in_ok-start.ensures.third c.in_ok-start.ensures.fourth c.in_ok-start.ensures.fifth
          c.in_ok-start.ensures.sixth c.in_ok-start.ensures.seventh c.in_ok-start.ensures.eighth
          c.in_ok-start.ensures.more;
    }

pub returns : goal.returns
returns c =
    record {
      ok =
          on_ok_weaker c.emit_parts.result
          (done_shift_right_address c.args.code.now c.eight_labels.new.code
          c.emit_parts.new.code c.in_ok-start.start
          c.in_ok-start.one c.in_ok-start.two c.in_ok-start.three c.in_ok-start.four c.in_ok-start.five
          c.in_ok-start.six c.in_ok-start.seven c.in_ok-start.ensures.first c.in_ok-start.ensures.second
          c.in_ok-start.ensures.third c.in_ok-start.ensures.fourth c.in_ok-start.ensures.fifth
          c.in_ok-start.ensures.sixth c.in_ok-start.ensures.seventh c.in_ok-start.ensures.eighth
          c.in_ok-start.ensures.more)
          c.emit_parts.ensures.ok;
    }
