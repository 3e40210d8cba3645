use Rattle.commands.proofs.Refused.{sources_told}
use Rattle.commands.proofs.programs.refusals.refuse_sources.Goals as goal

pub returns-in-Some-clause-told : goal.returns-in-Some-clause-told
returns-in-Some-clause-told g c =
    sources_told c.args.fault.now _ _ _ _ _ c.number.ensures c.refuse_name.ensures.told

pub returns-in-None-clause-told : goal.returns-in-None-clause-told
returns-in-None-clause-told g c =
    sources_told c.args.fault.now _ _ _ _ _ c.number-in-None.ensures c.refuse.ensures.told
