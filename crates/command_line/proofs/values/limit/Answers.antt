use Rattle.command_line.proofs.{Prelude.{◌≡◌, false, slice_index, lit<, ◌==◌}, Decimals.{number_read, number_refused}}
use Rattle.command_line.proofs.values.limit.Goals as goal

pub returns-in-Err : goal.returns-in-Err
returns-in-Err c =
    let plus : (slice_index c.args.text.now 0 == 43) ≡ false = cc in
    number_refused 64 1000000000000 c.args.text.now plus c.in-Err.ensures.value.0 (lit< tt)

pub returns-then-number-le-MOST : goal.returns-then-number-le-MOST
returns-then-number-le-MOST c =
    let plus : (slice_index c.args.text.now 0 == 43) ≡ false = cc in
    number_read 64 1000000000000 c.args.text.now c.in-Ok.number plus c.in-Ok.ensures.value.0
    c.if-number-le-MOST.true
