use Rattle.sources.proofs.Prelude.{map, ap, module_view}
use Rattle.sources.proofs.Programs.{is_placed}
use Rattle.sources.proofs.placed.place_program.Goals as goal

pub returns-in-Ok-place-clause-placed : goal.returns-in-Ok-place-clause-placed
returns-in-Ok-place-clause-placed c =
    is_placed (map module_view c.args.modules.items) c.args.plan.now c.args.code_lengths.now
    (record { program = c.in-Ok.program; placement = c.in-Ok-place.placement })
    (ap (map module_view) c.in-Ok.ensures.kept) c.in-Ok.ensures.ok c.requires.storage
    c.in-Ok-place.ensures.ok c.in-Ok-place.ensures.placed c.in-Ok-place.ensures.lawful
