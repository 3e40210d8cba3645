use Rattle.std.proofs.Common.{rules}
use Rattle.typed_trees.proofs.MemberTable.{pushed_finds, size_pushed}
use Rattle.typed_trees.proofs.members.Members.push.Goals as goal

-- src/members.rt:61:5
pub invariant_of-self-2 : goal.invariant_of-self-2
invariant_of-self-2 c = record {
  found =
      pushed_finds _ c.reserve.new.self.items _ _ _ c.args.member _ c.len.result c.self.invariant.found
      c.self.invariant.whole (search rules) (search rules) (search rules) (search rules)
      c.in_ok-insert.ensures.updates.0;
  whole = search (rules, size_pushed);
}
