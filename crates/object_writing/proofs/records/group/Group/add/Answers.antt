use Rattle.object_writing.proofs.Prelude.{ap, subst, AppendsBeginning, on_err, flushed}
use Rattle.object_writing.proofs.Bodies.{length_of_three}
use Rattle.object_writing.proofs.records.group.Group.add.Goals as goal

pub returns-in_err-make_room-clause-err : goal.returns-in_err-make_room-clause-err
returns-in_err-make_room-clause-err g c =
    on_err c.from_residual.result _
    (subst (AppendsBeginning _ _)
    (ap (flushed c.args.self.now) (length_of_three c.args.first.now c.args.middle.now c.args.last.now))
    c.in_err-make_room.ensures.err)
