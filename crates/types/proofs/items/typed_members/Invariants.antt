use Rattle.types.proofs.Prelude.{◌≡◌, [], drop}
use Rattle.typing.specs.internal.ItemChecks as checks
use Rattle.types.proofs.items.typed_members.Given as goal

-- the members that are left decide
abbrev pub invariant-loop-member : goal.invariant-loop-member
invariant-loop-member l =
    checks.typed_members l.typed (drop l.member-index l.members) ≡ checks.typed_members [] l.members
