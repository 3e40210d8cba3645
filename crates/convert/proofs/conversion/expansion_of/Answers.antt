use Rattle.convert.specs.Conversion.{no_expansion}
use Rattle.convert.proofs.Short.{few_words, few_output}
use Rattle.convert.proofs.conversion.expansion_of.Goals as goal

pub returns-in-Err-Fault-clause-fault : goal.returns-in-Err-Fault-clause-fault
returns-in-Err-Fault-clause-fault c =
    no_expansion c.args.words.now c.requires (rw c.in-Err-Fault.field-0-is at c.in-Err-Fault.ensures.fault)

pub returns-in-Ok-clause-few : goal.returns-in-Ok-clause-few
returns-in-Ok-clause-few c = few_words c.args.words.now c.in-Ok.output.items c.in-Ok.ensures.expansion

pub returns-in-Ok-clause-short : goal.returns-in-Ok-clause-short
returns-in-Ok-clause-short c = few_output c.args.words.now c.in-Ok.output.items c.in-Ok.ensures.expansion
