-- The heads of loops: where the steps of each loop stand, its code does what it says.
use Rattle.statement_laws.proofs.Prelude.{ℕ, Facts, Range, Here, BodyContext, IsSoundBody, StatementStands}
use Rattle.treecode.specs.declared.statement.LoopHead.{LoopHead}
use Rattle.treecode.specs.declared.statement.Statement.TheVariants as statements
use Rattle.treecode.proofs.Heads.{each_head}
use Rattle.statement_laws.proofs.Loops.GeneralDo.{each_iterate_does}
use Rattle.statement_laws.proofs.Simple.{FormDoes}
use Rattle.statement_laws.proofs.Whiles.{while_does}

pub loop_does :
    (at : BodyContext) (before : Facts) (head : LoopHead) (list : Range) (label from : ℕ)
    (after : Here) (to : ℕ)
    → IsSoundBody at
    → StatementStands at before (statements.Loop head list) label from after to
    → FormDoes at before (statements.Loop head list) from after to
loop_does at before head list label from after to sound stands =
    each_head
    (λ (one : LoopHead). StatementStands at before (statements.Loop one list) label from after to
    → FormDoes at before (statements.Loop one list) from after to)
    (λ condition stands. while_does at before condition list label from after to sound stands)
    (λ iteration stands. each_iterate_does at before iteration list label from after to sound stands)
    head stands
