use Rattle.printing.proofs.Prelude.{◌∙◌}
use Rattle.printing.proofs.RunLemmas.{longer}
use Rattle.printing.proofs.runs.run_slice.Goals as goal

pub write_from-requires : goal.write_from-requires
write_from-requires g c =
    rw (c.events-before.ensures.events ∙ c.ports.ensures.events)
    (longer c.args.limit c.args.machine.now c.run-end.new.self c.run-end.result c.run-end.ensures.run)
