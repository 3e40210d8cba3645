use Rattle.command_line.proofs.{Prelude.{◌∙◌, app_of, with_command}, Building.{fold_end, fold_step}}
use Rattle.command_line.proofs.app.add_commands.Goals as goal

pub loop-rest-preserved : goal.loop-rest-preserved
loop-rest-preserved c = record {
  app =
      fold_step with_command (app_of c.loop-rest.built) (app_of c.in_ok-built.built) _ c.loop-rest.rest.now
      c.in-len1-up.len_at_least
      c.in_ok-built.ensures.0 ∙ c.loop-rest.invariant.app;
  local = c.in_ok-built.ensures.1;
}

pub returns : goal.returns
returns c =
    (fold_end with_command (app_of c.loop-rest.built) c.loop-rest.rest.now c.in_default.len_below ∙ c.loop-rest.invariant.app, c.loop-rest.invariant.local)
