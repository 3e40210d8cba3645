use Rattle.command_line.proofs.{Prelude.{◌≡◌, false, slice_index, arith, lit<, ◌==◌}, Decimals.{number_read, number_refused}}
use Rattle.command_line.proofs.values.place.Goals as goal

pub returns-in-Ok : goal.returns-in-Ok
returns-in-Ok c =
    let plus : (slice_index c.args.text.now 0 == 43) ≡ false = cc in
    number_read 16 65535 c.args.text.now c.in-Ok.number plus c.in-Ok.ensures.value.0
    (let h = c.in-Ok.ensures.value.0 in omega arith)

pub returns-in-Err : goal.returns-in-Err
returns-in-Err c =
    let plus : (slice_index c.args.text.now 0 == 43) ≡ false = cc in
    number_refused 16 65535 c.args.text.now plus c.in-Err.ensures.value.0 (lit< tt)
