use Rattle.object_writing.proofs.Prelude.{sym, subst, arith, [], cond-true, lt-ltb, AppendsBeginning, on_err, group_bytes, room_of}
use Rattle.object_writing.proofs.records.group.Group.make_room.Goals as goal

pub returns-in_err-write-clause-err : goal.returns-in_err-write-clause-err
returns-in_err-write-clause-err g c =
    on_err c.from_residual.result _
    (subst (AppendsBeginning _ _)
    (sym (cond-true _ (group_bytes c.args.self.now) []
    (lt-ltb (room_of c.args.self.now) c.args.size (omega arith))))
    c.in_err-write.ensures.err)
