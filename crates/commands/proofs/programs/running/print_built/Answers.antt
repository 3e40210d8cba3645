use Rattle.std.proofs.Common.{rules}
use Rattle.commands.proofs.{Prelude.{values_in}, Printed.{prints_without_map, with_map}}
use Rattle.commands.proofs.programs.running.print_built.Goals as goal
use Rattle.commands.proofs.programs.running.print_built.Goals.{then-order+in_ok-print_map, else-order}

pub returns-clause-ok : goal.returns-clause-ok
returns-clause-ok g c =
    elim c.if-order.branch [ then-order+in_ok-print_map w ↦ with_map c.args.order.now.action c.args.order.now.map (values_in c.args.settings.now) c.args.built.now _ (g.O.Write.contents c.args.out.now) (g.O.Write.contents w.print_map.new.out) (g.O.Write.contents c.print_program.new.out) _ (search rules) (search rules) (search rules) | else-order w ↦ prints_without_map c.args.order.now.action c.args.order.now.map (values_in c.args.settings.now) c.args.built.now _ (g.O.Write.contents c.args.out.now) (g.O.Write.contents c.args.out.now) (g.O.Write.contents c.print_program.new.out) _ (search rules) (search rules) ]
