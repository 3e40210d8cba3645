-- What holds along each run: of statements.
use Rattle.meaning.proofs.Prelude.{Keeps, Later, LaterKeeps, Option, State, Surroundings, TypedExpression, TypedList, TypedStatement, TypedStatements, done, done_all, done_list, jump_took, nothing_else, step_value, ℕ, ◌<◌}
use Rattle.meaning.proofs.KeptParts.{keeps_all}
use Rattle.meaning.proofs.Preserves.{no_condition, of_list, of_statement, of_statements, of_step}

module _ (number : ℕ) (later : Later) (kept : LaterKeeps number later) where
  pub step_value_keeps : (step : Option TypedExpression) (around : Surroundings) (s : State)
      → s.budget < number → Keeps around.program nothing_else s (step_value later around step s)
  step_value_keeps step around s below =
      of_step later later around no_condition _ _ _ (keeps_all number later kept around)
      step s below

  pub statement_keeps : (statement : TypedStatement) (around : Surroundings) (s : State) → s.budget < number
      → Keeps around.program jump_took s (done later around statement s)
  statement_keeps statement around s below =
      of_statement later later around no_condition _ _ _ (keeps_all number later kept around)
      tt statement tt s below

  pub statements_keep : (statements : TypedStatements) (around : Surroundings) (s : State)
      → s.budget < number → Keeps around.program jump_took s (done_all later around statements s)
  statements_keep statements around s below =
      of_statements later later around no_condition _ _ _ (keeps_all number later kept around)
      tt statements tt s below

  pub list_keeps : (list : TypedList) (around : Surroundings) (s : State) → s.budget < number
      → Keeps around.program jump_took s (done_list later around list s)
  list_keeps list around s below =
      of_list later later around no_condition _ _ _ (keeps_all number later kept around)
      tt list tt s below
