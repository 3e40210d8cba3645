-- Statements of each form do what they say.
use Rattle.statement_laws.proofs.Prelude.{slice_get, Some, ◌≡◌, Statement, StatementNumber, nodes_in, BodyContext, IsSoundBody, StatementDoes, StatementStands, StatementsDo}
use Rattle.treecode.specs.declared.statement.Statement.TheVariants as statements
use Rattle.statement_laws.proofs.Assignments.Assigned.{assignment_does}
use Rattle.statement_laws.proofs.Cases.CasesDo.{case_does}
use Rattle.statement_laws.proofs.Loops.Counted.{counts_do}
use Rattle.statement_laws.proofs.Heads.{loop_does}
use Rattle.statement_laws.proofs.Ifs.{if_does}
use Rattle.statement_laws.proofs.Moves.Moves.{move_does}
use Rattle.statement_laws.proofs.Returns.{return_does}
use Rattle.statement_laws.proofs.Simple.{FormDoes, call_does, do_does, form_does, goto_does, halt_does, label_does, null_does}

-- a statement of the body, by its number
abbrev IsThatOne : BodyContext → StatementNumber → Statement → Type 0
IsThatOne at number of = slice_get (nodes_in at.context).statements number.index ≡ Some of

-- where the steps of each statement stand, its code does what it says
pub statements_do : (at : BodyContext) → IsSoundBody at → StatementsDo at
statements_do at sound before number statement label from after to there stands = by statement there stands
  where
    formed : {of : Statement} → IsThatOne at number of → FormDoes at before of from after to
        → StatementDoes at before number from after to
    formed {of = of} there does = form_does at before number of from after to there does

    by : (of : Statement) → IsThatOne at number of → StatementStands at before of label from after to
        → StatementDoes at before number from after to
    by (statements.Label of) there stands = formed there (label_does at before of label from after to stands)
    by statements.Null there stands = formed there (null_does at before label from after to stands)
    by (statements.Assignment targets value) there stands =
        formed there (assignment_does at before targets value label from after to sound (counts_do at) stands)
    by (statements.Call procedure arguments) there stands =
        formed there (call_does at before procedure arguments label from after to stands)
    by (statements.Move count source destination) there stands =
        move_does at before number count source destination label from after to sound there stands
    by (statements.Return value) there stands =
        formed there (return_does at before value label from after to sound stands)
    by statements.Halt there stands = formed there (halt_does at before label from after to sound stands)
    by (statements.Goto of) there stands =
        formed there (goto_does at before of label from after to sound stands)
    by (statements.If condition then_part else_part) there stands =
        formed there (if_does at before condition then_part else_part label from after to sound stands)
    by (statements.Do list) there stands = formed there (do_does at before list label from after to stands)
    by (statements.Loop head list) there stands =
        formed there (loop_does at before head list label from after to sound stands)
    by (statements.Case choice list) there stands = case_does at before number choice list label from after to sound there stands
