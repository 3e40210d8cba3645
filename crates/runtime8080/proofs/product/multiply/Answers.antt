use Rattle.runtime8080.proofs.Added.{fits_multiply}
use Rattle.runtime8080.proofs.product.multiply.Goals as goal

pub emit_parts-requires : goal.emit_parts-requires
emit_parts-requires c =
    record {
      fits =
          fits_multiply c.args.code.now c.five_labels.new.code c.in_ok-high.high c.in_ok-high.low
          c.in_ok-high.high_skip
          c.in_ok-high.low_bits c.in_ok-high.low_skip c.in_ok-high.ensures.valid c.in_ok-high.ensures.first
          c.in_ok-high.ensures.second c.in_ok-high.ensures.third c.in_ok-high.ensures.fourth
          c.in_ok-high.ensures.fifth c.in_ok-high.ensures.more;
    }
