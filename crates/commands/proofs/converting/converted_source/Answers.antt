use Rattle.commands.proofs.Converted.{if_mistyped_converted, if_mistyped_refused, module_converted}
use Rattle.commands.proofs.Prelude.{arith}
use Rattle.commands.proofs.converting.converted_source.Goals as goal

pub returns-in_ok-conversion-in-Module-clause-converted : goal.returns-in_ok-conversion-in-Module-clause-converted
returns-in_ok-conversion-in-Module-clause-converted g c =
    module_converted _ _ _ _ _ _ _ (rw c.in-Module.is at c.in_ok-form_of.ensures) c.in_ok-conversion-in-Module.ensures

pub returns-in-Mistyped-clause-converted : goal.returns-in-Mistyped-clause-converted
returns-in-Mistyped-clause-converted g c =
    if_mistyped_converted _ _ _ _ _ _ _ (rw c.in-Mistyped.is at c.in_ok-form_of.ensures) c.converted_module.ensures.made

pub returns-in-Mistyped-clause-refused : goal.returns-in-Mistyped-clause-refused
returns-in-Mistyped-clause-refused g c =
    if_mistyped_refused _ _ _ _ _ (omega arith) (rw c.in-Mistyped.is at c.in_ok-form_of.ensures) c.converted_module.ensures.refused
