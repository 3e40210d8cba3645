use Rattle.convert.specs.Conversion.{no_words}
use Rattle.convert.proofs.conversion.words_of.Goals as goal

pub returns-in-Err-Fault-clause-fault : goal.returns-in-Err-Fault-clause-fault
returns-in-Err-Fault-clause-fault c = no_words (rw c.in-Err-Fault.field-0-is at c.in-Err-Fault.ensures.fault)
