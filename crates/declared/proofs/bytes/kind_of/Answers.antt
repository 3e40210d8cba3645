use Rattle.declared.proofs.Prelude.{arith, placement_view, modules_in}
use Rattle.declared.proofs.TableKinds.{table_declares, table_tells_constants}
use Rattle.declared.proofs.bytes.kind_of.Goals as goal

pub returns-clause-declared : goal.returns-clause-declared
returns-clause-declared c =
    table_declares (modules_in c.args.joined.now) (placement_view c.args.placement.now)
    c.args.kinds.now.kinds.value c.args.address c.kind_at.result c.requires (omega arith) c.kind_at.ensures

pub returns-clause-constant : goal.returns-clause-constant
returns-clause-constant c =
    table_tells_constants (modules_in c.args.joined.now) (placement_view c.args.placement.now)
    c.args.kinds.now.kinds.value c.args.address c.kind_at.result c.requires (omega arith) c.kind_at.ensures
