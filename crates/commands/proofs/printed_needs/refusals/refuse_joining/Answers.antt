use Rattle.commands.proofs.NeedRefused.{joining_told}
use Rattle.commands.proofs.printed_needs.refusals.refuse_joining.Goals as goal

pub returns-in-NotOneMain-clause-told : goal.returns-in-NotOneMain-clause-told
returns-in-NotOneMain-clause-told g c =
    joining_told c.args.fault.now _ _ _ _ _ c.number.ensures c.refuse_name.ensures.told

pub returns-in-NoPublic-clause-told : goal.returns-in-NoPublic-clause-told
returns-in-NoPublic-clause-told g c =
    joining_told c.args.fault.now _ _ _ _ _ c.number-in-NoPublic.ensures c.refuse_name-in-NoPublic.ensures.told
