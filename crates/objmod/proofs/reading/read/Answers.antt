use Rattle.objmod.proofs.ReadFiles.{told_ended, told_written}
use Rattle.objmod.proofs.reading.read.Goals as goal

pub returns-clause-written : goal.returns-clause-written
returns-clause-written c object valid text =
    told_written c.args.bytes.now c.in_ok-file.file c.in_ok-module_of_walk.field-0 object
    c.in_ok-file.ensures.walk
    c.in_ok-module_of_walk.ensures valid text

pub returns-clause-ended : goal.returns-clause-ended
returns-clause-ended c object first rest valid text =
    told_ended c.args.bytes.now c.in_ok-file.file c.in_ok-module_of_walk.field-0 object first rest
    c.in_ok-file.ensures.walk c.in_ok-module_of_walk.ensures valid text
