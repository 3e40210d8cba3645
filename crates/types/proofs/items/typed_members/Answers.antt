use Rattle.types.proofs.Prelude.{rules, answers_fault, state_fails, state_goes_on}
use Rattle.types.proofs.ItemLemmas.{first_member, member_added, members_from}
use Rattle.types.proofs.items.typed_members.Goals as goal

pub loop-member-preserved : goal.loop-member-preserved
loop-member-preserved c =
    state_goes_on member_added members_from first_member c.args.members.now c.loop-member.member-index
    c.member-item.result c.loop-member.typed c.add_member.new.typed _
    c.loop-member-test.true c.member-item.is c.loop-member.invariant (search rules)

pub returns-in_err-add_member : goal.returns-in_err-add_member
returns-in_err-add_member c =
    answers_fault _ _ c.in_err-add_member.field-0.0 _ (search rules)
    (state_fails member_added members_from first_member c.args.members.now c.loop-member.member-index
    c.member-item.result c.loop-member.typed _ _
    c.loop-member-test.true c.member-item.is c.loop-member.invariant c.in_err-add_member.ensures)
