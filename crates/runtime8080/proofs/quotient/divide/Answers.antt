use Rattle.runtime8080.proofs.Added.{fits_divide}
use Rattle.runtime8080.proofs.quotient.divide.Goals as goal

-- src/quotient.rt:23:5
pub emit_parts-requires : goal.emit_parts-requires
emit_parts-requires c =
    record {
      fits =
          fits_divide c.args.code.now c.five_labels.new.code c.two_labels.new.code c.in_ok-narrow.narrow
          c.in_ok-narrow.fits c.in_ok-narrow.skip c.in_ok-narrow.wide c.in_ok-narrow.next c.in_ok-even.even
          c.in_ok-even.less c.in_ok-narrow.ensures.valid c.in_ok-narrow.ensures.first
          c.in_ok-narrow.ensures.second
          c.in_ok-narrow.ensures.third c.in_ok-narrow.ensures.fourth c.in_ok-narrow.ensures.fifth
          c.in_ok-narrow.ensures.more c.in_ok-even.ensures.first c.in_ok-even.ensures.second
          c.in_ok-even.ensures.more;
    }
