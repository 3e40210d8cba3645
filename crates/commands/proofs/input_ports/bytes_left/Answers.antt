use Rattle.commands.proofs.{Prelude.{arith, common_steps, refl}, PortReads.{none_counted, room_for_first}}
use Rattle.commands.proofs.input_ports.bytes_left.Goals as goal

pub overflow_add-left : goal.overflow_add-left
overflow_add-left c =
    let fits = room_for_first c.args.input.now c.loop-rest.rest.now (record { port = 0; byte = 0 }) c.loop-rest.left c.in-len1-up.len_at_least c.loop-rest.invariant in
    grind (arith, common_steps, fits)

pub loop-rest-init : goal.loop-rest-init
loop-rest-init c = none_counted c.args.input.now _ refl
