use Rattle.declared.proofs.Prelude.{◌+◌, ap, arith, drop, ◌∙◌, sum_by, size_of_member}
use Rattle.declared.proofs.MemberSums.{no_gap, one_more}
use Rattle.declared.proofs.slots.size_of_members.Goals as goal
use Rattle.declared.proofs.slots.size_of_members.Goals.{in-Some+in-Some-checked_add, in_default}

pub loop-position-preserved : goal.loop-position-preserved
loop-position-preserved c =
    elim c.match-get.branch [
      | in-Some+in-Some-checked_add w ↦
          ap (λ size. size + sum_by size_of_member (drop (c.loop-position.position + 1) c.args.members.now))
          w.size-is
          ∙ one_more c.args.members.now c.loop-position.position c.loop-position.size
          w.in-Some-checked_add.sum _
          w.in-Some.member w.in-Some.ensures c.loop-position.invariant
          (w.in-Some-checked_add.ensures.1 ∙ ap (λ one. c.loop-position.size + one) w.size.ensures)
      | in_default w ↦
          ap (λ size. size + sum_by size_of_member (drop (c.loop-position.position + 1) c.args.members.now))
          w.size-is
          ∙ no_gap c.args.members.now c.loop-position.position c.loop-position.size _ w.in_default.ensures
          (omega arith)
    ]
